-- The files of a release, and of what happened in a run.
use Rattle.std.specs.Prelude.{ℕ, List, [], ◌∷◌, ◌++◌, Option, Some, None, Result, Ok, Err, codes, decimal}
use Rattle.protocol.specs.Entries.{Entry, Void, Taped}
use Rattle.tape_frames.specs.Entries.{owned_entry}
use Rattle.line_check.specs.Galley.{galley_of}
use Rattle.line_check.specs.declared.fault.SetFault.{SetFault}
use Rattle.line_check.specs.declared.slug.Slug.{Slug}
use Rattle.station.specs.Readiness.{slugs_of}
use Rattle.station.specs.declared.answer.Release.{Release}
use Rattle.station.specs.declared.answer.Answer.{Answer}
use Rattle.refusals.specs.declared.refusal.StepRefusal.{StepRefusal}
use Rattle.refusals.specs.CauseWords.{cause_text}
use Rattle.driver.specs.Events.{Event, asked, took, stored, aside}
use Rattle.folders.specs.Written.{File}

-- the name of a number's file of a kind
abbrev pub file_name : ℕ → List ℕ → List ℕ
file_name n kind = decimal n ++ kind

-- a file of this number and kind
abbrev pub file : ℕ → List ℕ → List ℕ → File
file n kind bytes = record { name = file_name n kind; bytes = bytes }

-- where a tape sets its galley, else a line with the cause
abbrev pub galley_text : Result (List Slug) SetFault → List ℕ
galley_text (Ok slugs) = galley_of slugs
galley_text (Err fault) = codes "fault: " ++ (cause_text fault ++ codes "\n")

-- the files of a tape: its frames, and its galley
abbrev pub tape_files : ℕ → List ℕ → Result (List Slug) SetFault → List File
tape_files n tape set = file n (codes ".tape") tape ∷ file n (codes ".galley") (galley_text set) ∷ []

-- of a withdrawal an empty file; of a tape its files
abbrev pub entry_files : ℕ → Entry → Result (List Slug) SetFault → List File
entry_files n Void set = file n (codes ".void") [] ∷ []
entry_files n (Taped tape) set = tape_files n tape set

-- the files of a release
abbrev pub release_files : Release → List File
release_files r = entry_files r.number (owned_entry r.entry) (slugs_of r.set)

-- the files of a release, if there is one
abbrev pub files_of : Option Release → List File
files_of None = []
files_of (Some r) = release_files r

-- the files of what a step answered; of a refusal there are none
abbrev pub answer_files : Result Answer StepRefusal → List File
answer_files (Ok answer) = files_of answer.release
answer_files (Err refusal) = []

-- the files of an event; that what was saved is stored has none, as its steps have them
abbrev pub filing : Event → List File
filing (asked moment) = []
filing (aside what) = []
filing (took call answer) = answer_files answer
filing (stored answer) = []
