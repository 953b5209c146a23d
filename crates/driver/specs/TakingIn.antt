-- What taking in a datagram does: to a station its own step, if it is called, and to the wire that the datagram came.
use Rattle.std.specs.Prelude.{◌≡◌, ℕ, List, [], ◌∷◌, Option, Some, None, Result, Ok, Err}
use Rattle.protocol.specs.Refusals.{Receiving}
use Rattle.rows_saved.specs.declared.rows.Rows.{Ghosts}
use Rattle.station.specs.declared.answer.Answer.{Answer}
use Rattle.refusals.specs.declared.refusal.StepRefusal.{StepRefusal}
use Rattle.station.specs.declared.station.Station.{Station}
use Rattle.station.specs.Steps.{IsStep}
use Rattle.wire.specs.Passing.{Passes, Trace}
use Rattle.rolls.specs.Asides.{aside_in}
use Rattle.rolls.specs.declared.aside.Aside.{Aside}
use Rattle.pace.specs.declared.turns.Done.TheVariants.{TookIn}
use Rattle.driver.specs.Events.{coming, HasMark, heard, coming_by}
use Rattle.driver.specs.Layouts.{IsNewerIn, IsToldLast}
use Rattle.driver.specs.Pacing.{heard_from}
use Rattle.driver.specs.Said.{said_in}
use Rattle.driver.specs.declared.driver.Driver.{Driver}
use Rattle.driver.specs.declared.pacing.Pacing.{Pacing}
use Rattle.driver.specs.declared.said.Said.{Said}
use Rattle.driver.specs.declared.taking_in.Received.{Received}
use Rattle.driver.specs.declared.taking_in.Received.TheVariants.{Nothing, Failed, Beside, Taken, Refused}

-- what bytes say beside packets: they have the mark of recalls and rolls, and are read as one of them; or they have another mark
abbrev pub IsAsideOf : List ℕ → Option Aside → Type 0
IsAsideOf bytes None = ¬ HasMark bytes
IsAsideOf bytes (Some found) = HasMark bytes × (found ≡ aside_in bytes)

-- nothing came: the station stayed, and nothing passed over the wire
pub record Rests {R N : Type 0} (passed : N → Trace) (old new : Station R) (was is : N) : Type 0 where
  pub same : new ≡ old
  pub passes : Passes (passed was) (passed is) []

-- these bytes came, which have another mark than recalls and rolls, and the station was called with them at this moment, once, and answered so
pub record CameIn {R N : Type 0} (g : Ghosts R) (passed : N → Trace) (now : ℕ) (old new : Station R) (was is : N) (bytes : List ℕ)
    (answer : Result Answer StepRefusal) : Type 0 where
  pub other_mark : ¬ HasMark bytes
  pub step : IsStep g (Receiving bytes now) old new answer
  pub passes : Passes (passed was) (passed is) (coming (Receiving bytes now))

-- these came with the mark of recalls and rolls, and were read as one of them; the station stayed
pub record CameBeside {R N : Type 0} (passed : N → Trace) (old new : Station R) (was is : N) (found : Aside) : Type 0 where
  pub rest : List ℕ
  pub same : new ≡ old
  pub passes : Passes (passed was) (passed is) (coming_by (heard rest))
  pub read : found ≡ aside_in (84 ∷ 82 ∷ rest)

-- one datagram at most came: the station took it in or refused it, by one step at this moment, or it came beside the packets
abbrev pub IsTakenIn : {R N : Type 0} → Ghosts R → (N → Trace) → ℕ → Station R → Station R → N → N → Received → Type 0
IsTakenIn g passed now old new was is Nothing = Rests passed old new was is
IsTakenIn g passed now old new was is Failed = Rests passed old new was is
IsTakenIn g passed now old new was is (Beside found) = CameBeside passed old new was is found
IsTakenIn g passed now old new was is (Taken bytes answer) = CameIn g passed now old new was is bytes.items (Ok answer)
IsTakenIn g passed now old new was is (Refused bytes refusal) = CameIn g passed now old new was is bytes.items (Err refusal)

-- what is kept in mind of the pace once a datagram that says this, or one that says nothing, was heard at a moment
abbrev pub paced_by : Option Said → ℕ → Pacing → Pacing
paced_by said now p = record p { done = Some TookIn; pace = heard_from said now p.pace }

-- what came was heard: where the station took it in, the pace heard what its head says, and where it was refused, the member was told that
-- sent it in a layout that the station does not read
abbrev pub IsHeard : ℕ → Pacing → Pacing → Option ℕ → Option ℕ → Received → Type 0
IsHeard now old new told_old told_new Nothing = (new ≡ old) × (told_new ≡ told_old)
IsHeard now old new told_old told_new Failed = (new ≡ old) × (told_new ≡ told_old)
IsHeard now old new told_old told_new (Beside found) = (new ≡ paced_by None now old) × (told_new ≡ told_old)
IsHeard now old new told_old told_new (Taken bytes answer) = (new ≡ paced_by (said_in bytes.items) now old) × (told_new ≡ told_old)
IsHeard now old new told_old told_new (Refused bytes refusal) =
    (new ≡ paced_by None now old) × (newer : Option ℕ) × IsNewerIn refusal bytes.items newer × IsToldLast newer now told_old told_new

-- a driver took in one datagram at most at this moment, and heard what came
pub record Hears {R N S : Type 0} (g : Ghosts R) (passed : N → Trace) (now : ℕ) (old new : Driver R N S) : Type 0 where
  pub received : Received
  pub came : IsTakenIn g passed now old.station.now new.station.now old.wire.now new.wire.now received
  pub is_heard : IsHeard now old.pacing new.pacing old.newer.now new.newer.now received
