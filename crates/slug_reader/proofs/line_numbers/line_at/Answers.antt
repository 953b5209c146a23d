use Rattle.std.proofs.Common.{◌≡◌, ◌+◌, true, false, sym, ◌∙◌, refl, arith}
use Rattle.code_table.specs.Tables.{mean}
use Rattle.slug_reader.specs.Lines.{is_cut}
use Rattle.slug_reader.specs.Meanings.{case_at}
use Rattle.slug_reader.proofs.Looking.{case_more}
use Rattle.slug_reader.proofs.Numbers.{counted_cut, counted_other, case_start, cut_is, line_is}
use Rattle.slug_reader.proofs.line_numbers.line_at.Goals as goal
use Rattle.slug_reader.proofs.line_numbers.line_at.Goals.{then-effect, else-effect}

pub loop-place-init : goal.loop-place-init
loop-place-init c = record {
  case = sym (case_start (mean c.args.table.now) c.frames-frame-items.result.now);
  line = refl;
  small = omega arith;
}

pub loop-place-preserved : goal.loop-place-preserved
loop-place-preserved c =
    let means = mean c.args.table.now in
    let tape = c.frames-frame-items.result.now in
    let i = c.loop-place.place in
    let was = c.loop-place.invariant in
    let here = cut_is means tape i c.loop-place.case was.case in
    let effect = c.effect_of-effect.ensures in
    let case : c.unwrap_or-case.result ≡ case_at means tape (i + 1) = c.unwrap_or-case.ensures ∙ rw (effect.selects, was.case) (sym (case_more means tape i)) in
    elim c.if-effect.branch [
      | then-effect w ↦
          let cut : is_cut means tape i ≡ true = sym here ∙ (sym effect.cuts ∙ w.if-effect.true) in
          record {
            case = case;
            line = omega (arith, w.line-is, was.line, counted_cut means tape c.args.at i (omega arith) cut);
            small = omega (arith, w.line-is, was.small);
          }
      | else-effect w ↦
          let kept : is_cut means tape i ≡ false = sym here ∙ (sym effect.cuts ∙ w.if-effect.false) in
          record {
            case = case;
            line = omega (arith, w.line-is, was.line, counted_other means tape c.args.at i kept);
            small = omega (arith, w.line-is, was.small);
          }
    ]

pub returns-then-place-at : goal.returns-then-place-at
returns-then-place-at c =
    rw (← c.frames-frame-items.ensures.frames)
    (line_is (mean c.args.table.now) c.frames-frame-items.result.now c.args.at c.loop-place.place c.loop-place.line (omega arith) (omega arith) c.loop-place.invariant.line)
