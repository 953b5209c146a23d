use Rattle.std.proofs.Common.{arith}
use Rattle.text_words.specs.Ligatures.{joined}
use Rattle.text_words.proofs.piece.first_piece.Goals as goal

pub returns-clause-first : goal.returns-clause-first
returns-clause-first c = record {
  some = omega arith;
  within = c.longest_len-len.ensures.within;
  is_first = joined c.longest_len-len.result c.matrix_word.result c.longest_len-len.ensures.value (omega arith) c.matrix_word.ensures;
}
