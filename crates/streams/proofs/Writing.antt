-- Text that is written in parts, and then handed on.
use Rattle.std.proofs.Common.{◌≡◌, List, ℕ, ◌++◌, Option, Result, Ok, Err, sym, true≢false}
use Rattle.std.specs.Prelude.{IsErr}
use Rattle.std.specs.Io.KnownBytes.{Appends}
use Rattle.std.proofs.KnownBytes.{Appends-trans}
use Rattle.streams.specs.Fronts.{AppendsFront}
use Rattle.streams.proofs.Fronts.{front_of_all}
use Rattle.streams.proofs.Parts.{front_of, front_then}
use Rattle.streams.specs.Writing.{Writes}

-- a text was written, and then another
pub then_wrote : {E : Type 0} (r : Result (Unit {0}) E) (x y z : Option (List ℕ)) (bs cs : List ℕ) → Appends x y bs → Writes r y z cs → Writes r x z (bs ++ cs)
then_wrote (Ok done) x y z bs cs p q = record { ok = Appends-trans x y z bs cs p q.ok; err = tt }
then_wrote (Err fault) x y z bs cs p q = record { ok = tt; err = front_then x y z bs cs p q.err }

-- where a fault ended it, a front of the text was written
pub front_written : {E : Type 0} (r : Result (Unit {0}) E) (x y : Option (List ℕ)) (bs : List ℕ) → IsErr r → AppendsFront x y bs → Writes r x y bs
front_written (Ok done) x y bs fails p = absurd (true≢false (sym fails))
front_written (Err fault) x y bs fails p = record { ok = tt; err = p }

-- the first of two texts was not written whole
pub stopped : {E : Type 0} (r : Result (Unit {0}) E) (x y : Option (List ℕ)) (bs cs : List ℕ) → IsErr r → AppendsFront x y bs → Writes r x y (bs ++ cs)
stopped r x y bs cs fails p = front_written r x y (bs ++ cs) fails (front_of x y bs cs p)

-- the whole text was written, and then a fault ended it
pub not_handed_on : {E : Type 0} (r : Result (Unit {0}) E) (x y : Option (List ℕ)) (bs : List ℕ) → IsErr r → Appends x y bs → Writes r x y bs
not_handed_on r x y bs fails p = front_written r x y bs fails (front_of_all x y bs p)

-- the whole text was written, and then it was handed on, or could not be
pub handed_on : {E : Type 0} (r : Result (Unit {0}) E) (x y : Option (List ℕ)) (bs : List ℕ) → Appends x y bs → Writes r x y bs
handed_on (Ok done) x y bs p = record { ok = p; err = tt }
handed_on (Err fault) x y bs p = record { ok = tt; err = front_of_all x y bs p }
