use Rattle.std.proofs.Common.{IsTrue}
use Rattle.std.specs.List.{list_all}
use Rattle.text_words.specs.Words.{is_in_braces}
use Rattle.text_words.proofs.ligatures.ligatures_of.Given as goal

abbrev pub invariant-loop-letters : goal.invariant-loop-letters
invariant-loop-letters l = IsTrue (list_all is_in_braces l.ligatures.items)
