use Rattle.packets.proofs.laws.packings.Goals as goal

pub returns : goal.returns
returns c = record {
  one = c.packing.ensures.one;
  given = c.packing.ensures.given;
  undoes = c.unpacking.ensures.undoes;
  tapes = c.packed.ensures.tapes;
  are_tapes = c.packed.ensures.are_tapes;
}
