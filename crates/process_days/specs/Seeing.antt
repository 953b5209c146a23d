-- What a person sees of it: the files of the releases.
use Rattle.std.specs.Prelude.{◌≡◌, ◌++◌, ℕ, List, Option, Some, None, codes, flat_map}
use Rattle.protocol.specs.Lists.{IsAmong}
use Rattle.rows_saved.specs.declared.rows.Rows.{Ghosts}
use Rattle.station.specs.declared.answer.Release.{Release}
use Rattle.station.specs.Readiness.{IsNumber}
use Rattle.folders.specs.Written.{File}
use Rattle.folders.specs.Doings.{Doing, Does, wrote_file}
use Rattle.run_command.specs.ReleaseFiles.{filing, file_name, release_files}
use Rattle.run_command.specs.Running.{WritesFront}
use Rattle.run_command.specs.Story.{events_of, doings_of}
use Rattle.run_command.specs.Story.{Happened as Run}
use Rattle.days.specs.Happening.{Happened, WasReleased}
use Rattle.days.specs.Handing.{Plants, Member}
use Rattle.days.specs.Days.{Day}
use Rattle.process_days.specs.Telling.{Order, log_of, day_after}

-- it is a file of what this member released in the day
abbrev pub IsFiled : List Happened → ℕ → File → Type 0
IsFiled day m f = (r : Release) × WasReleased day m r × IsAmong (release_files r) f

-- the file is called so, as `12.tape`
abbrev pub IsCalled : ℕ → List ℕ → File → Type 0
IsCalled n kind f = f.name ≡ file_name n kind

-- the files of what was released in the day agree
pub record FilesAgree (day : List Happened) : Type 0 where
  -- two files `12.tape`, of one plant or of two, are the same bytes
  pub tapes :
      (j k n : ℕ) (f h : File) → IsNumber n → IsFiled day j f → IsFiled day k h → IsCalled n (codes ".tape") f → IsCalled n (codes ".tape") h → f.bytes ≡ h.bytes
  -- where one plant has a file `12.tape` none has a file `12.void`
  pub voids :
      (j k n : ℕ) (f h : File) → IsNumber n → IsFiled day j f → IsFiled day k h → IsCalled n (codes ".tape") f → IsCalled n (codes ".void") h → ⊥

-- they do in each day of a circuit's processes
abbrev pub DaysFilesAgree : {R : Type 0} → Ghosts R → Type 0
DaysFilesAgree {R = R} g = (p : Plants) (day : List Happened) (at : ℕ → Member R) → Day g p day at → FilesAgree day

-- folders that tell have this file among the releases since, among what was done with them after this
abbrev pub IsWritten : Option (List Doing) → Option (List Doing) → File → Type 0
IsWritten None after f = ⊥
IsWritten (Some old) None f = ⊥
IsWritten (Some old) (Some new) f = (more : List Doing) × (new ≡ old ++ more) × IsAmong more (wrote_file f)

-- a file that a process wrote among the releases of its plant, as `run_station` promises of its story (its fields `does` and `front`), is
-- one of what its member released in the day
abbrev pub WrittenIsFiled : Type 0
WrittenIsFiled =
    (day : List Happened) (order : Order) (m : ℕ) (story : List Run) (before after : Option (List Doing)) (f : File)
    → events_of story ≡ log_of m order → Does before after (doings_of story) → WritesFront (flat_map filing (events_of story)) story
    → IsWritten before after f → IsFiled (day_after day order) m f
