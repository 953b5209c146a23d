use Rattle.std.proofs.Common.{arith}
use Rattle.text_words.proofs.Naming.{tail_is, one_byte, in_braces}
use Rattle.text_words.proofs.piece.piece_at.Goals as goal

pub returns-in_ok-len-clause-piece : goal.returns-in_ok-len-clause-piece
returns-in_ok-len-clause-piece c =
    let e = c.in_ok-len.ensures in
    record {
      some = omega arith;
      within = omega (arith, e.within, c.requires);
      is_piece =
          in_braces c.args.text.now _ c.in_ok-len.len c.named_word.result (tail_is c.args.text.now) c.requires c.if-first-eq123.true e.within e.name e.closed
          c.named_word.ensures;
    }

pub returns-else-first-eq123-clause-piece : goal.returns-else-first-eq123-clause-piece
returns-else-first-eq123-clause-piece c = record {
  some = omega arith;
  within = c.requires;
  is_piece = one_byte c.args.text.now c.byte_word.result c.requires c.if-first-eq123.false c.byte_word.ensures;
}
