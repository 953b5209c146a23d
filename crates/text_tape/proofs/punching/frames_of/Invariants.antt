use Rattle.std.proofs.Common.{◌≡◌, ◌-◌, ◌≤◌, List, length}
use Rattle.code_table.specs.Tables.{mean}
use Rattle.text_words.specs.declared.word.Word.{Word}
use Rattle.text_tape.specs.Codes.{case_behind}
use Rattle.text_tape.specs.Punching.{Punches}
use Rattle.text_tape.proofs.punching.frames_of.Given as goal

abbrev pub invariant-loop-at : goal.invariant-loop-at
invariant-loop-at l = record {
  within : l.at ≤ length l.text;
  words : List Word;
  punches : Punches l.keys.ligatures.now (mean l.keys.codes.now) l.text l.at words l.frames.items;
  case : l.case ≡ case_behind (mean l.keys.codes.now) l.frames.items;
  few : length l.frames.items ≤ l.keys.most;
}

abbrev pub decreases-loop-at : goal.decreases-loop-at
decreases-loop-at l = length l.text - l.at
