-- How `answer`, `create`, `serve` and `run` end, where they are asked for, and `run` by a fault.
use Rattle.std.specs.Prelude.{◌≡◌, ℕ, List, Option, IsSome}
use Rattle.tape_frames.specs.Entries.{version_of}
use Rattle.tape_frames.specs.declared.version.Version.{Version}
use Rattle.answer_command.specs.AnswerText.{WritesAnswer, WritesAnswerFront}
use Rattle.command_ends.specs.Ends.{end_of}
use Rattle.command_ends.specs.declared.end.End.{End}
use Rattle.command_ends.specs.declared.end.End.TheVariants.{Done, Input}
use Rattle.rows_saved.specs.declared.identity.Identity.{Identity}
use Rattle.arguments.specs.declared.asked.Asked.{Asked}
use Rattle.arguments.specs.declared.asked.Asked.TheVariants.{Answer, Create, Serve, Run}
use Rattle.arguments.specs.declared.plan.CreatePlan.{CreatePlan}
use Rattle.commands.specs.Creations.{CreateEnds}
use Rattle.commands.specs.declared.plant_start.PlantFault.{PlantFault}
use Rattle.commands.specs.declared.plant_start.PlantFault.TheVariants as plants

-- `answer` writes its answers to what comes in: all of them where it ends well, and the first of them however it ends
pub record Answers (input before after : Option (List ℕ)) (circuit me : ℕ) (wire : Version) (end : End) : Type 0 where
  pub done : end ≡ Done → WritesAnswer circuit me (version_of wire) input before after
  pub front : WritesAnswerFront circuit me (version_of wire) input before after

-- where it is asked to answer as one acceptor of a circuit, in a version, that is what is done
abbrev pub AnswersAsked : Asked → Option (List ℕ) → Option (List ℕ) → Option (List ℕ) → End → Type 0
AnswersAsked asked input before after end =
    (circuit me : ℕ) (wire : Version) → asked ≡ Answer circuit me wire → Answers input before after circuit me wire end

-- where it is asked to create a row file in a layout, that is what is done
abbrev pub CreatesAsked : {F : Type 0} → Asked → (F → List ℕ → Identity → Version → Type 0) → F → Option (List ℕ) → Option (List ℕ) → End → Type 0
CreatesAsked asked leaves files before after end =
    (plan : CreatePlan) → asked ≡ Create plan → CreateEnds leaves files plan.layout before after end

-- a row file is asked for: by `create`, or by `serve` or `run` with `--create`
abbrev pub AsksForFile : Asked → Type 0
AsksForFile (Create plan) = Unit {0}
AsksForFile (Serve plan) = IsSome plan.create
AsksForFile (Run plan) = IsSome plan.create
AsksForFile _ = ⊥

-- a command that is asked to serve or to run a station, and ends well, did this, given the version in which rows are to be made, if any are
abbrev pub StartsAsked : Asked → (Option Version → Type 0) → End → Type 0
StartsAsked (Serve plan) Did end = end ≡ Done → Did plan.create
StartsAsked (Run plan) Did end = end ≡ Done → Did plan.create
StartsAsked _ Did end = Unit {0}

-- the end of `run` by a fault: that of the fault that all commands share, else it is one of an input
abbrev pub end_in : PlantFault → End
end_in (plants.Other fault) = end_of fault
end_in (plants.Limited bytes) = Input
