-- The words for how a step ended.
use Rattle.std.specs.Prelude.{ℕ, List, ◌++◌, true, false, codes}
use Rattle.rows_saved.specs.declared.fault.RowsFault.{RowsFault}
use Rattle.rows_saved.specs.declared.fault.RowsFault.TheVariants as rows
use Rattle.refusals.specs.declared.refusal.StepRefusal.{StepRefusal}
use Rattle.refusals.specs.declared.refusal.StepRefusal.TheVariants as steps
use Rattle.world.specs.declared.step.Outcome.{Outcome}
use Rattle.world.specs.declared.step.Outcome.TheVariants as outcomes
use Rattle.refusals.specs.RefusalWords.{refusal_text}
use Rattle.rehearse_command.specs.Notes.{note_text}

-- a store that refuses stops a station, for memory or otherwise
abbrev pub stopped_by : RowsFault → List ℕ
stopped_by rows.Store = codes "stopped store"
stopped_by rows.WrongStation = codes "stopped store"
stopped_by rows.WrongSchema = codes "stopped store"
stopped_by (rows.Damaged number) = codes "stopped store"
stopped_by rows.OutOfMemory = codes "stopped memory"

-- why a station did not take a step: two refusals stop it
abbrev pub refused_text : StepRefusal → List ℕ
refused_text steps.Stopped = codes "refused " ++ refusal_text steps.Stopped
refused_text (steps.BadDatagram fault) = codes "refused " ++ refusal_text (steps.BadDatagram fault)
refused_text steps.WrongCircuit = codes "refused " ++ refusal_text steps.WrongCircuit
refused_text steps.NotForMe = codes "refused " ++ refusal_text steps.NotForMe
refused_text steps.Stranger = codes "refused " ++ refusal_text steps.Stranger
refused_text steps.BadNumber = codes "refused " ++ refusal_text steps.BadNumber
refused_text steps.NoSuchMember = codes "refused " ++ refusal_text steps.NoSuchMember
refused_text steps.AlreadyReleased = codes "refused " ++ refusal_text steps.AlreadyReleased
refused_text steps.AlreadyOpen = codes "refused " ++ refusal_text steps.AlreadyOpen
refused_text steps.WireTooOld = codes "refused " ++ refusal_text steps.WireTooOld
refused_text (steps.TapeFaulty fault) = codes "refused " ++ refusal_text (steps.TapeFaulty fault)
refused_text steps.RoundsSpent = codes "refused " ++ refusal_text steps.RoundsSpent
refused_text (steps.Store fault) = stopped_by fault
refused_text steps.OutOfMemory = codes "stopped memory"

-- how a step ended
abbrev pub outcome_text : Outcome → List ℕ
outcome_text (outcomes.Done note) = note_text note
outcome_text (outcomes.Refused refusal) = refused_text refusal
outcome_text outcomes.Restarted = codes "restarted"
outcome_text outcomes.Upgraded = codes "upgraded"
outcome_text (outcomes.Armed true) = codes "armed saved"
outcome_text (outcomes.Armed false) = codes "armed unsaved"
