-- The story of a run: what happened in it, in order, and what may happen behind what happened before.
use Rattle.std.specs.Prelude.{◌≡◌, ℕ, List, [], ◌∷◌, flat_map, Some, Ok, Err}
use Rattle.protocol.specs.Lists.{IsAmong}
use Rattle.protocol.specs.Refusals.{Call, Offering, Seeking, Falling_due, Receiving, Recalling}
use Rattle.station.specs.declared.answer.Answer.{Answer}
use Rattle.station.specs.declared.answer.Release.{Release}
use Rattle.folders.specs.Doings.{Doing, saw_file, read_file, wrote_file, noted_gone, noted_before, moved_file, removed_file, writing}
use Rattle.folders.specs.Offers.{IsNameOf, IsStop}
use Rattle.folders.specs.Written.{File}
use Rattle.folders.specs.declared.leaving.Place.TheVariants as places
use Rattle.folders.specs.declared.names.OfferKind.{OfferKind}
use Rattle.run_command.specs.ReleaseFiles.{filing, release_files}
use Rattle.run_command.specs.Standing.{Texts, WasLaid}
use Rattle.driver.specs.Events.{Event, asked, took, stored, aside}

-- the clock was asked, the station was called, it stored what it saved, or something passed beside its packets; or something was done with the
-- folders
pub data Happened : Type 0 where
  stepped : (event : Event) → Happened
  did : (doing : Doing) → Happened

-- which events happened, in order
abbrev pub event_in : Happened → List Event
event_in (stepped event) = event ∷ []
event_in (did doing) = []

abbrev pub events_of : List Happened → List Event
events_of story = flat_map event_in story

-- what was done with the folders, in order
abbrev pub doing_in : Happened → List Doing
doing_in (stepped event) = []
doing_in (did doing) = doing ∷ []

abbrev pub doings_of : List Happened → List Doing
doings_of story = flat_map doing_in story

-- which files were written among the releases, in order
abbrev pub file_in : Happened → List File
file_in (stepped event) = []
file_in (did doing) = writing doing

abbrev pub files_of_story : List Happened → List File
files_of_story story = flat_map file_in story

-- of events, the latest first, those whose saves are stored: all before the last event in which all that the station had saved was stored
abbrev pub stored_of : List Event → List Event
stored_of [] = []
stored_of (asked moment ∷ before) = stored_of before
stored_of (took call answer ∷ before) = stored_of before
stored_of (stored (Ok done) ∷ before) = before
stored_of (stored (Err refusal) ∷ before) = stored_of before
stored_of (aside what ∷ before) = stored_of before

-- the station released this in one of these events
pub record IsReleasedIn (log : List Event) (r : Release) : Type 0 where
  pub call : Call
  pub answer : Answer
  pub among : IsAmong log (took call (Ok answer))
  pub releases : answer.release ≡ Some r

-- A file of this name is of a number that the station released. The save of that step is stored, and all files of the release were written
-- before.
pub record IsBehindRelease (before : List Happened) (name : List ℕ) : Type 0 where
  pub release : Release
  pub kind : OfferKind
  pub named : IsNameOf name release.number kind
  pub released : IsReleasedIn (stored_of (events_of before)) release
  pub written : (f : File) → IsAmong (release_files release) f → IsAmong (files_of_story before) f

-- The number was released in a step whose save is stored, and all files of the release were written before.
pub record IsOut (before : List Happened) (n : ℕ) : Type 0 where
  pub release : Release
  pub number : release.number ≡ n
  pub released : IsReleasedIn (stored_of (events_of before)) release
  pub written : (f : File) → IsAmong (release_files release) f → IsAmong (files_of_story before) f

-- each number that was released is out
abbrev pub AreAllOut : List Happened → Type 0
AreAllOut before = (r : Release) → IsReleasedIn (events_of before) r → IsOut before r.number

-- each of these numbers that was released is out
abbrev pub AreOutIfReleased : List Happened → List ℕ → Type 0
AreOutIfReleased before numbers = (r : Release) → IsReleasedIn (events_of before) r → IsAmong numbers r.number → IsOut before r.number

-- What may be done with the folders behind what happened before. A file is written among the releases only if it is of a release whose save
-- is stored. A number is noted as gone out, and a file leaves the offers for those that were sent or lost, only behind all files of such a
-- release of the number. Numbers from before what went out was kept need no release; but one of them that was released is noted as any other.
-- A file is moved to those that are done only if each number that was released is out. Nothing is taken away except the file that ends a run.
-- A file that is refused is one that the station takes no entry from: that is free.
abbrev pub MayBeDone : List Happened → Doing → Type 0
MayBeDone before (saw_file name) = Unit {0}
MayBeDone before (read_file file) = Unit {0}
MayBeDone before (wrote_file file) = IsAmong (flat_map filing (stored_of (events_of before))) file
MayBeDone before (noted_gone numbers) = (n : ℕ) → IsAmong numbers n → IsOut before n
MayBeDone before (noted_before numbers) = AreOutIfReleased before numbers
MayBeDone before (moved_file name places.Sent) = IsBehindRelease before name
MayBeDone before (moved_file name places.Lost) = IsBehindRelease before name
MayBeDone before (moved_file name places.Refused) = Unit {0}
MayBeDone before (moved_file name places.Done) = AreAllOut before
MayBeDone before (removed_file name) = IsStop name

-- an entry is offered only where a file that lay among the offers stands for it, a text by this table; a search, what is due, what comes
-- and a vote that is told again need no file
abbrev pub MayBeCalled : Texts → List Happened → Call → Type 0
MayBeCalled texts before (Offering n entry now) = WasLaid texts (doings_of before) n entry
MayBeCalled texts before (Seeking n now) = Unit {0}
MayBeCalled texts before (Falling_due now) = Unit {0}
MayBeCalled texts before (Receiving bytes now) = Unit {0}
MayBeCalled texts before (Recalling n to) = Unit {0}

-- what may happen behind what happened before
abbrev pub MayHappen : Texts → List Happened → Happened → Type 0
MayHappen texts before (stepped (asked moment)) = Unit {0}
MayHappen texts before (stepped (aside what)) = Unit {0}
MayHappen texts before (stepped (took call answer)) = MayBeCalled texts before call
MayHappen texts before (stepped (stored answer)) = Unit {0}
MayHappen texts before (did doing) = MayBeDone before doing

-- each of these may happen behind those before it, of which the latest is told first
abbrev pub IsInOrder : Texts → List Happened → List Happened → Type 0
IsInOrder texts before [] = Unit {0}
IsInOrder texts before (x ∷ story) = MayHappen texts before x × IsInOrder texts (x ∷ before) story
