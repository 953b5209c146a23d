-- Nothing goes out before its save: what a process had stored when it sent something, wrote a file, noted a number, or moved a file.
use Rattle.std.specs.Prelude.{◌≡◌, ◌++◌, ℕ, List, [], ◌∷◌, flat_map, Ok}
use Rattle.protocol.specs.Lists.{IsAmong}
use Rattle.rows_saved.specs.declared.rows.Rows.{Ghosts}
use Rattle.station.specs.declared.answer.Release.{Release}
use Rattle.station.specs.declared.station.Station.{Station}
use Rattle.folders.specs.Doings.{Doing, wrote_file, noted_gone, noted_before, moved_file}
use Rattle.folders.specs.Offers.{IsNameOf}
use Rattle.folders.specs.Written.{File}
use Rattle.folders.specs.declared.leaving.Place.{Place}
use Rattle.folders.specs.declared.leaving.Place.TheVariants.{Sent, Lost, Refused, Done}
use Rattle.folders.specs.declared.names.OfferKind.{OfferKind}
use Rattle.run_command.specs.ReleaseFiles.{filing, release_files}
use Rattle.run_command.specs.Standing.{Texts}
use Rattle.run_command.specs.Story.{did, events_of, files_of_story, IsInOrder, IsReleasedIn}
use Rattle.run_command.specs.Story.{Happened as Run}
use Rattle.driver.specs.Events.{Event, stored, passing_behind, waiting_behind}
use Rattle.days.specs.Handing.{runs}
use Rattle.process_days.specs.Telling.{HasLog}
use Rattle.process_days.specs.Cutting.{EndsAtSave, sent_of}

-- A process had stored all that it had saved by these events: they begin with such as end at a save, with this station over rows that are
-- settled.
pub record WasSaved {R : Type 0} (g : Ghosts R) (is_settled : R → Type 0) (s : Station R) (log kept : List Event) : Type 0 where
  pub more : List Event
  pub joined : log ≡ kept ++ more
  pub save : EndsAtSave kept
  pub mid : Station R
  pub took : HasLog g is_settled (runs s) mid kept
  pub rests : is_settled mid.rows

-- Whatever a process sends, a packet, a recall, a roll or a vote that is told again, it sends at a save: then all that its station had saved is
-- stored.
abbrev pub SendsAreSaved : {R : Type 0} → Ghosts R → (R → Type 0) → Type 0
SendsAreSaved {R = R} g is_settled =
    (s last : Station R) (before rest : List Event) (e : Event) → HasLog g is_settled (runs s) last (before ++ e ∷ rest)
    → ¬ (sent_of (passing_behind (waiting_behind [] before) (e ∷ [])) ≡ [])
    → (e ≡ stored (Ok tt)) × (mid : Station R) × HasLog g is_settled (runs s) mid (before ++ e ∷ []) × is_settled mid.rows

-- A run did this behind the first part of its story: it has the log of the whole story, which is in order.
pub record HasDone {R : Type 0} (g : Ghosts R) (is_settled : R → Type 0) (s : Station R) (first : List Run) (doing : Doing) : Type 0 where
  pub texts : Texts
  pub rest : List Run
  pub last : Station R
  pub log : HasLog g is_settled (runs s) last (events_of (first ++ did doing ∷ rest))
  pub ordered : IsInOrder texts [] (first ++ did doing ∷ rest)

-- Whatever file a run writes among the releases, it writes behind a save, and the file is of a release of before that save.
abbrev pub FilesAreSaved : {R : Type 0} → Ghosts R → (R → Type 0) → Type 0
FilesAreSaved {R = R} g is_settled =
    (s : Station R) (first : List Run) (f : File) → HasDone g is_settled s first (wrote_file f)
    → (kept : List Event) × WasSaved g is_settled s (events_of first) kept × IsAmong (flat_map filing kept) f

-- By this part of a story a release of this number was saved, and all its files were written.
pub record WasFiled {R : Type 0} (g : Ghosts R) (is_settled : R → Type 0) (s : Station R) (first : List Run) (n : ℕ) : Type 0 where
  pub release : Release
  pub number : release.number ≡ n
  pub kept : List Event
  pub saved : WasSaved g is_settled s (events_of first) kept
  pub released : IsReleasedIn kept release
  pub written : (f : File) → IsAmong (release_files release) f → IsAmong (files_of_story first) f

-- Whatever numbers a run notes as gone out, each was saved and filed before.
abbrev pub NotesAreSaved : {R : Type 0} → Ghosts R → (R → Type 0) → Type 0
NotesAreSaved {R = R} g is_settled =
    (s : Station R) (first : List Run) (numbers : List ℕ) (n : ℕ) → HasDone g is_settled s first (noted_gone numbers) → IsAmong numbers n
    → WasFiled g is_settled s first n

-- Whatever numbers a run notes as from before what went out was kept, each of them that it released was saved and filed before.
abbrev pub OldNotesAreSaved : {R : Type 0} → Ghosts R → (R → Type 0) → Type 0
OldNotesAreSaved {R = R} g is_settled =
    (s : Station R) (first : List Run) (numbers : List ℕ) (r : Release) → HasDone g is_settled s first (noted_before numbers)
    → IsReleasedIn (events_of first) r → IsAmong numbers r.number → WasFiled g is_settled s first r.number

-- files go there for a release
abbrev pub IsForRelease : Place → Type 0
IsForRelease Sent = Unit {0}
IsForRelease Lost = Unit {0}
IsForRelease Refused = ⊥
IsForRelease Done = ⊥

-- Whatever file of the offers a run moves to those that were sent or lost, its number was saved and filed before.
abbrev pub MovesAreSaved : {R : Type 0} → Ghosts R → (R → Type 0) → Type 0
MovesAreSaved {R = R} g is_settled =
    (s : Station R) (first : List Run) (name : List ℕ) (to : Place) → HasDone g is_settled s first (moved_file name to) → IsForRelease to
    → (n : ℕ) × (kind : OfferKind) × IsNameOf name n kind × WasFiled g is_settled s first n

-- If a run moves a file of the offers to those that are done, all numbers that it released were saved and filed before.
abbrev pub AnswersAreSaved : {R : Type 0} → Ghosts R → (R → Type 0) → Type 0
AnswersAreSaved {R = R} g is_settled =
    (s : Station R) (first : List Run) (name : List ℕ) (r : Release) → HasDone g is_settled s first (moved_file name Done)
    → IsReleasedIn (events_of first) r → WasFiled g is_settled s first r.number
