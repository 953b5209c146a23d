-- What a part leaves where others lack.
use Rattle.std.proofs.Common.{ℕ, Vec, Global, Option, subst}
use Rattle.std.specs.Prelude.{option_map}
use Rattle.seals.specs.Places.{Gathers}
use Rattle.sealed_door.proofs.door.SealedDoor.admit_part.Goals as goal

pub returns-in-Ok-None-clause-admits : goal.returns-in-Ok-None-clause-admits
returns-in-Ok-None-clause-admits c =
    let p = c.args.piece.now in
    subst (λ (o : Option (Vec ℕ Global)). Gathers c.args.self.now.keys p.place p.label p.index p.part.now c.args.self.now.gathering c.push.new.self (option_map (λ (v : Vec ℕ Global). v.items) o)) c.in-Ok-None.field-0-is c.in-Ok-None.ensures.gathers
