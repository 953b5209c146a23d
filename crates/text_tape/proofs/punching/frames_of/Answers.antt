use Rattle.std.proofs.Common.{[], ◌∷◌, ◌++◌, arith, length-drop}
use Rattle.code_table.specs.Tables.{mean}
use Rattle.text_tape.specs.Punching.{nothing}
use Rattle.text_words.proofs.Naming.{rest_is}
use Rattle.text_tape.proofs.Looking.{case_start}
use Rattle.text_tape.proofs.Punched.{piece_on}
use Rattle.text_tape.proofs.punching.frames_of.Goals as goal

pub loop-at-init : goal.loop-at-init
loop-at-init c = record {
  within = omega arith;
  words = [];
  punches = rw (c.new-frames.ensures.items) nothing;
  case = case_start (mean c.args.keys.now.codes.now) c.new-frames.result.items c.new-frames.ensures.items;
  few = rw (c.new-frames.ensures.items) (omega arith);
}

pub loop-at-preserved : goal.loop-at-preserved
loop-at-preserved c =
    let was = c.loop-at.invariant in
    let text = c.args.text.now in
    let a = c.in-Ok.ensures.ok in
    record {
      within = let w = rw (rest_is text c.loop-at.at) at a.within in omega (arith, w, length-drop c.loop-at.at text, was.within);
      words = was.words ++ a.word ∷ [];
      punches = piece_on c.args.keys.now.most c.args.keys.now.ligatures.now (mean c.args.keys.now.codes.now) text _ c.loop-at.at c.in-Ok.len was.words c.loop-at.frames.items _ (rest_is text c.loop-at.at) was.punches a;
      case = c.in-Ok.ensures.case;
      few = a.few;
    }
