use Rattle.seals.proofs.Sealed.{one_piece_of}
use Rattle.seals.proofs.laws.one_piece.Goals as goal

pub returns : goal.returns
returns c = one_piece_of c.lengths.ensures
