use Rattle.std.proofs.Common.{ℕ, List, [], ◌∷◌, ◌++◌, refl, arith}
use Rattle.tape_frames.specs.Packing.{none, three, four}
use Rattle.protocol.specs.Versions.{Two}
use Rattle.protocol.specs.Entries.{Entry, Void, Taped}
use Rattle.packets.specs.Grammar.{SpellsBallot, SpellsPacked, Spells}
use Rattle.packets.specs.Laws.{worked_packet, worked_front}
use Rattle.packets.proofs.laws.worked_spellings.Goals as goal

first_ballot : SpellsBallot (0 ∷ 0 ∷ 0 ∷ 1 ∷ 1 ∷ []) (record { round = 1; owner = 1 })
first_ballot = record {
  round = 0 ∷ 0 ∷ 0 ∷ 1 ∷ [];
  are = refl;
  spells_round = (omega arith, omega arith, omega arith, omega arith, refl);
  is_ballot = record { round_low = omega arith; round_high = omega arith; owner_low = omega arith; owner_high = omega arith };
}

spelled : (entry : Entry) (bytes : List ℕ) → SpellsPacked bytes entry → Spells Two (worked_front ++ bytes) (worked_packet entry)
spelled entry bytes s = record {
  circuit = 0 ∷ 7 ∷ [];
  number = 0 ∷ 0 ∷ 0 ∷ 12 ∷ [];
  ballot = 0 ∷ 0 ∷ 0 ∷ 1 ∷ 1 ∷ [];
  body = bytes;
  are = refl;
  spells_circuit = (omega arith, omega arith, refl);
  from_is_member = (omega arith, omega arith);
  to_is_member = (omega arith, omega arith);
  spells_number = (omega arith, omega arith, omega arith, omega arith, refl);
  number_low = omega arith;
  number_high = omega arith;
  spells_ballot = first_ballot;
  spells_body = s;
  rules = refl;
}

pub returns-clause-tape : goal.returns-clause-tape
returns-clause-tape c = spelled (Taped (1 ∷ 2 ∷ 3 ∷ 1 ∷ 3 ∷ 2 ∷ 4 ∷ [])) (0 ∷ 7 ∷ 4 ∷ 32 ∷ 193 ∷ 12 ∷ 33 ∷ 0 ∷ []) (record {
  count = 0 ∷ 7 ∷ [];
  packed = 4 ∷ 32 ∷ 193 ∷ 12 ∷ 33 ∷ 0 ∷ [];
  are = refl;
  spells_count = (omega arith, omega arith, refl);
  packs = four 1 2 3 1 4 32 193 _ _ refl (three 3 2 4 12 33 0 refl);
  are_bytes = (omega arith, (omega arith, (omega arith, (omega arith, (omega arith, (omega arith, tt))))));
  is_entry = record { some = omega arith; few = omega arith; small = (omega arith, (omega arith, (omega arith, (omega arith, (omega arith, (omega arith, (omega arith, tt))))))) };
})

pub returns-clause-void : goal.returns-clause-void
returns-clause-void c = spelled Void (0 ∷ 0 ∷ []) (record {
  count = 0 ∷ 0 ∷ [];
  packed = [];
  are = refl;
  spells_count = (omega arith, omega arith, refl);
  packs = none;
  are_bytes = tt;
  is_entry = tt;
})
