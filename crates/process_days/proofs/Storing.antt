-- What a station did that was to store what it had saved: it is read as before, or it has stopped, or it had stopped before.
use Rattle.std.proofs.Common.{◌≡◌, ℕ, inr, subst, List, true}
use Rattle.std.specs.Prelude.{Result, Ok, Err}
use Rattle.rows_saved.specs.declared.fault.RowsFault.{RowsFault}
use Rattle.rows_saved.specs.declared.rows.Rows.{Ghosts}
use Rattle.refusals.specs.declared.refusal.StepRefusal.{StepRefusal}
use Rattle.refusals.specs.declared.refusal.StepRefusal.TheVariants.{Stopped, BadDatagram, WrongCircuit, NotForMe, Stranger, BadNumber, NoSuchMember, AlreadyReleased, AlreadyOpen, WireTooOld, TapeFaulty, RoundsSpent, Store, OutOfMemory}
use Rattle.station.specs.declared.station.Station.{Station}
use Rattle.station.specs.Settling.{HasSettled, WasTorn, Settling}
use Rattle.days.specs.Happening.{Happened, Was}
use Rattle.process_days.specs.Telling.{day_stored}

pub data Stored {R : Type 0} (g : Ghosts R) (is_settled : R → Type 0) (old new : Station R) : Result (Unit {0}) StepRefusal → Type 0 where
  has_settled : (done : Unit {0}) → HasSettled g is_settled old new → Stored g is_settled old new (Ok done)
  was_torn : (fault : RowsFault) → WasTorn g old new → Stored g is_settled old new (Err (Store fault))
  had_stopped : old.stopped ≡ true → new ≡ old → Stored g is_settled old new (Err Stopped)

pub what_stored :
    {R : Type 0} {g : Ghosts R} {is_settled : R → Type 0} {old new : Station R} (answer : Result (Unit {0}) StepRefusal)
    → Settling g is_settled old new answer → Stored g is_settled old new answer
what_stored (Ok done) it = has_settled done it
what_stored (Err (Store fault)) it = was_torn fault it
what_stored (Err Stopped) it = had_stopped it.0 it.1
what_stored (Err (BadDatagram fault)) it = absurd it
what_stored (Err WrongCircuit) it = absurd it
what_stored (Err NotForMe) it = absurd it
what_stored (Err Stranger) it = absurd it
what_stored (Err BadNumber) it = absurd it
what_stored (Err NoSuchMember) it = absurd it
what_stored (Err AlreadyReleased) it = absurd it
what_stored (Err AlreadyOpen) it = absurd it
what_stored (Err WireTooOld) it = absurd it
what_stored (Err (TapeFaulty fault)) it = absurd it
what_stored (Err RoundsSpent) it = absurd it
what_stored (Err OutOfMemory) it = absurd it

-- rows that are kept then were kept before
pub stored_was_kept :
    {R : Type 0} (g : Ghosts R) (is_settled : R → Type 0) (old new : Station R) (answer : Result (Unit {0}) StepRefusal)
    → Stored g is_settled old new answer → g.kept new.rows → g.kept old.rows
stored_was_kept g is_settled old new answer (has_settled done it) kept = it.reads.was_kept kept
stored_was_kept g is_settled old new answer (was_torn fault it) kept = it.was_kept kept
stored_was_kept {R = R} g is_settled old new answer (had_stopped stopped same) kept = subst (λ (s : Station R). g.kept s.rows) same kept

-- what was in the day stays in it
pub stored_stays :
    (Kind : Happened → Type 0) (k : ℕ) (answer : Result (Unit {0}) StepRefusal) (day : List Happened) → Was day Kind → Was (day_stored k answer day) Kind
stored_stays Kind k (Ok done) day it = it
stored_stays Kind k (Err Stopped) day it = it
stored_stays Kind k (Err (BadDatagram fault)) day it = (it.0, inr it.1, it.2)
stored_stays Kind k (Err WrongCircuit) day it = (it.0, inr it.1, it.2)
stored_stays Kind k (Err NotForMe) day it = (it.0, inr it.1, it.2)
stored_stays Kind k (Err Stranger) day it = (it.0, inr it.1, it.2)
stored_stays Kind k (Err BadNumber) day it = (it.0, inr it.1, it.2)
stored_stays Kind k (Err NoSuchMember) day it = (it.0, inr it.1, it.2)
stored_stays Kind k (Err AlreadyReleased) day it = (it.0, inr it.1, it.2)
stored_stays Kind k (Err AlreadyOpen) day it = (it.0, inr it.1, it.2)
stored_stays Kind k (Err WireTooOld) day it = (it.0, inr it.1, it.2)
stored_stays Kind k (Err (TapeFaulty fault)) day it = (it.0, inr it.1, it.2)
stored_stays Kind k (Err RoundsSpent) day it = (it.0, inr it.1, it.2)
stored_stays Kind k (Err (Store fault)) day it = (it.0, inr it.1, it.2)
stored_stays Kind k (Err OutOfMemory) day it = (it.0, inr it.1, it.2)
