use Rattle.std.proofs.Common.{◌≡◌, ◌+◌, sym, ap, ◌∙◌, arith}
use Rattle.std.specs.Prelude.{flat_map}
use Rattle.std.proofs.lemmas.List.{append-nil}
use Rattle.code_table.specs.Tables.{mean}
use Rattle.slug_reader.specs.Positions.{before}
use Rattle.slug_reader.specs.Meanings.{case_at}
use Rattle.tape_drawing.specs.Shapes.{text_of}
use Rattle.tape_drawing.specs.Frames.{frame_shapes}
use Rattle.tape_drawing.proofs.Looking.{case_more}
use Rattle.tape_drawing.proofs.Sequences.{grown, before_more}
use Rattle.tape_drawing.proofs.frames.add_strip.Goals as goal

pub loop-k-init : goal.loop-k-init
loop-k-init c =
    let start : c.args.strip.now.from ≡ c.args.strip.now.from + 0 = omega arith in
    record {
      case = c.requires.case ∙ ap (λ i. case_at (mean c.args.strip.now.table.now) c.args.strip.now.tape.now i) start;
      text = sym (append-nil c.args.text.now.items);
    }

pub loop-k-preserved : goal.loop-k-preserved
loop-k-preserved c =
    let strip = c.args.strip.now in
    let means = mean strip.table.now in
    let tape = strip.tape.now in
    let k = c.loop-k.k in
    let was = c.loop-k.invariant in
    let next = c.next_case-case.ensures in
    let f = frame_shapes means tape strip.from strip.frames strip.top in
    let further : strip.from + k + 1 ≡ strip.from + (k + 1) = omega arith in
    record {
      case = next.value ∙ (rw (next.alike, was.case) (sym (case_more means tape (strip.from + k)))) ∙ ap (λ i. case_at means tape i) further;
      text = grown c.args.text.now.items c.loop-k.text.items _ (text_of (flat_map f (before k))) (text_of (f k)) _ was.text c.in_ok-add_kth.ensures (before_more f k);
    }
