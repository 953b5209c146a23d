-- What a rehearsal has written: what is shown of a circuit that agrees.
use Rattle.std.specs.Prelude.{◌≡◌, ℕ, ◌⊎◌, List, [], Option, Some, None, Result, Ok, OnOk, OnErr, IfErr, true, false, IfSome}
use Rattle.std.specs.List.{All}
use Rattle.std.specs.Io.KnownBytes.{Appends}
use Rattle.toml.specs.Parse.{parse_document}
use Rattle.streams.specs.Fronts.{AppendsFront}
use Rattle.command_ends.specs.Ends.{IsOfInput, end_of}
use Rattle.command_ends.specs.declared.end.End.{End}
use Rattle.command_ends.specs.declared.end.End.TheVariants.{Done}
use Rattle.command_ends.specs.declared.fault.Fault.{Fault}
use Rattle.code_table.specs.Reading.{read_table}
use Rattle.widths.specs.Reading.{read_widths}
use Rattle.protocol.specs.Versions.{Version}
use Rattle.rows_saved.specs.Memory.{MemoryOf}
use Rattle.rows_saved.specs.contracts.memory.MemoryRowsRows.TheImpl.{ghosts}
use Rattle.world.specs.declared.world.World.{World}
use Rattle.world.specs.Founding.{Given}
use Rattle.world.specs.Playing.{IsFresh}
use Rattle.world.specs.Reach.{Agreed, IsReached}
use Rattle.rehearse_command.specs.Scenes.{Scene, AreOf, ArePlayed, scenes_text}
use Rattle.rehearse_command.specs.declared.rehearsal.Rehearsal.{Rehearsal}

-- what is known of the texts that the members are set up from: a code table's, and a width file's
pub record Inputs : Type 0 where
  pub table : Option (List ℕ)
  pub widths : Option (List ℕ)

-- inputs of which so much is known
abbrev pub inputs : Option (List ℕ) → Option (List ℕ) → Inputs
inputs table widths = record { table = table; widths = widths }

-- a member's table and its widths are what these texts are read as
abbrev pub IsSetUpBy : Inputs → Given → Type 0
IsSetUpBy by member =
    IfSome by.table (λ text. read_table (parse_document text) ≡ Ok member.0) × IfSome by.widths (λ text. read_widths (parse_document text) ≡ Ok member.1)

-- the world was reached by steps of members that are set up by these texts, from their beginning in one version, and what is released in it is agreed;
-- the scenes are those steps and all that happened in them, and what is shown of them is what was written
pub record Shows (by : Inputs) (v : World MemoryOf) (IsWritten : List ℕ → Type 0) : Type 0 where
  pub reached : IsReached ghosts v
  pub agreed : Agreed ghosts v
  pub scenes : List Scene
  pub are_of : AreOf v scenes
  pub number : ℕ
  pub members : List Given
  pub version : Version
  pub set_up : All (IsSetUpBy by) members
  pub played : ArePlayed number members version v scenes
  pub written : IsWritten (scenes_text 0 scenes)

-- since the start all was written that is shown of this world
abbrev pub Stands : Inputs → Option (List ℕ) → Option (List ℕ) → World MemoryOf → Type 0
Stands by start now v = Shows by v (Appends start now)

-- the same of a front of it
abbrev pub StandsFront : Inputs → Option (List ℕ) → Option (List ℕ) → World MemoryOf → Type 0
StandsFront by start now v = Shows by v (AppendsFront start now)

-- what was written goes on to be what is shown of the world
abbrev pub GoesOn : {A E : Type 0} → Result A E → Option (List ℕ) → World MemoryOf → Option (List ℕ) → World MemoryOf → Type 0
GoesOn result was old now new = (by : Inputs) (start : Option (List ℕ)) → Stands by start was old → OnOk result (Stands by start now new)

-- or stops as a front of it
abbrev pub Stops : {A E : Type 0} → Result A E → Option (List ℕ) → World MemoryOf → Option (List ℕ) → World MemoryOf → Type 0
Stops result was old now new = (by : Inputs) (start : Option (List ℕ)) → Stands by start was old → OnErr result (StandsFront by start now new)

-- a step was taken and shown: what was written goes on to be what is shown of the stage's world, or stops as a front of it; the stage is as
-- new as it was
pub record ShowsStep {A E : Type 0} (result : Result A E) (was : Option (List ℕ)) (old : Rehearsal) (now : Option (List ℕ)) (new : Rehearsal) : Type 0 where
  pub goes_on : GoesOn result was old.world now new.world
  pub stops : Stops result was old.world now new.world
  pub is_new : new.is_new ≡ old.is_new

-- a line was played that does not set the stage: the same, and the stage is new no more
pub record PlaysLine {A E : Type 0} (result : Result A E) (was : Option (List ℕ)) (old : Rehearsal) (now : Option (List ℕ)) (new : Rehearsal) : Type 0 where
  pub goes_on : GoesOn result was old.world now new.world
  pub stops : Stops result was old.world now new.world
  pub no_more : new.is_new ≡ false

-- nothing has happened yet, and all members are in this version
abbrev pub BeginsIn : Version → World MemoryOf → Type 0
BeginsIn version v = (k : ℕ) × (members : List Given) × IsFresh ghosts k members (λ m. version) v

-- on a stage that is new nothing was written
abbrev pub IsOn : Inputs → Option (List ℕ) → Option (List ℕ) → Rehearsal → Type 0
IsOn by start now stage = Stands by start now stage.world × (stage.is_new ≡ true → Appends start now [])

-- before there is a circuit nothing was written
abbrev pub IsStaged : Inputs → Option (List ℕ) → Option (List ℕ) → Option Rehearsal → Type 0
IsStaged by start now None = Appends start now []
IsStaged by start now (Some stage) = IsOn by start now stage

-- a new stage stands wherever nothing was written, by the texts that its members are set up by
abbrev pub StandsNew : Given → World MemoryOf → Type 0
StandsNew member v = (by : Inputs) (start now : Option (List ℕ)) → IsSetUpBy by member → Appends start now [] → Stands by start now v

-- the same of the stage that the first line sets
abbrev pub BeginsOn : Given → Rehearsal → Type 0
BeginsOn member stage = (by : Inputs) (start now : Option (List ℕ)) → IsSetUpBy by member → Appends start now [] → IsOn by start now stage

-- a stage that is set anew goes on from the one before
abbrev pub TurnsOn : {A E : Type 0} → Given → Result A E → Rehearsal → Rehearsal → Type 0
TurnsOn member result old new =
    (by : Inputs) (start now : Option (List ℕ)) → IsSetUpBy by member → IsOn by start now old → OnOk result (IsOn by start now new)

-- a line was played on the stage, and what was written goes on to be what is shown there
abbrev pub PlaysOn : {A E : Type 0} → Given → Result A E → Option (List ℕ) → Rehearsal → Option (List ℕ) → Rehearsal → Type 0
PlaysOn member result was old now new =
    (by : Inputs) (start : Option (List ℕ)) → IsSetUpBy by member → IsOn by start was old → OnOk result (IsOn by start now new)

-- or it stops there as a front of it
abbrev pub StopsOn : {A E : Type 0} → Result A E → Option (List ℕ) → Rehearsal → Option (List ℕ) → Rehearsal → Type 0
StopsOn result was old now new =
    (by : Inputs) (start : Option (List ℕ)) → IsOn by start was old → OnErr result (StandsFront by start now new.world)

-- a line was played, be there a stage already or not, and what was written goes on to be what is shown
abbrev pub PlaysStaged : {A E : Type 0} → Given → Result A E → Option (List ℕ) → Option Rehearsal → Option (List ℕ) → Option Rehearsal → Type 0
PlaysStaged member result was old now new =
    (by : Inputs) (start : Option (List ℕ)) → IsSetUpBy by member → IsStaged by start was old → OnOk result (IsStaged by start now new)

-- nothing was written, or what is shown of some world that agrees
abbrev pub Rehearses : Inputs → (List ℕ → Type 0) → Type 0
Rehearses by IsWritten = IsWritten [] ⊎ ((v : World MemoryOf) × Shows by v IsWritten)

-- or it stops as a front of it
abbrev pub StopsStaged : {A E : Type 0} → Given → Result A E → Option (List ℕ) → Option Rehearsal → Option (List ℕ) → Type 0
StopsStaged member result was old now =
    (by : Inputs) (start : Option (List ℕ)) → IsSetUpBy by member → IsStaged by start was old → OnErr result (Rehearses by (AppendsFront start now))

-- members that these texts set up were rehearsed, up to the first fault
pub record RehearsesUpTo {A : Type 0} (by : Inputs) (result : Result A Fault) (old new : Option (List ℕ)) : Type 0 where
  -- where there is none, all was written that is shown of such a circuit; otherwise a front of that
  pub ok : OnOk result (Rehearses by (Appends old new))
  pub err : OnErr result (Rehearses by (AppendsFront old new))
  -- the fault is one of the input
  pub ends : IfErr result (λ fault. IsOfInput (end_of fault))

-- the lines of a script were played by such members, up to the first fault, whatever texts set them up
abbrev pub PlaysScript : {A : Type 0} → Given → Result A Fault → Option (List ℕ) → Option (List ℕ) → Type 0
PlaysScript member result old new = (by : Inputs) → IsSetUpBy by member → RehearsesUpTo by result old new

-- a rehearsal by these texts ended so: what `rehearse` promises
pub record HasRehearsed (by : Inputs) (end : End) (old new : Option (List ℕ)) : Type 0 where
  -- where it ends well, all is written that is shown of such a circuit; otherwise a front of that
  pub done : end ≡ Done → Rehearses by (Appends old new)
  pub front : Rehearses by (AppendsFront old new)
  pub ends : IsOfInput end
