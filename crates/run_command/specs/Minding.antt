-- What a run keeps in mind of the files among the offers and of what was released, and how that stands to what happened.
use Rattle.std.specs.Prelude.{◌≡◌, ◌⊎◌, ◌++◌, ℕ, List, [], ◌∷◌, Bool, true, false, Option, Some, None, flat_map, decimal}
use Rattle.std.specs.List.{All}
use Rattle.protocol.specs.Lists.{IsAmong}
use Rattle.tape_frames.specs.declared.entry.Entry.{Entry}
use Rattle.station.specs.declared.answer.Release.{Release}
use Rattle.folders.specs.Doings.{Doing, saw_file, read_file, wrote_file, noted_gone, noted_before, moved_file, removed_file}
use Rattle.folders.specs.Offers.{IsNameOf, IsStop, kind_word}
use Rattle.folders.specs.Written.{File}
use Rattle.folders.specs.declared.leaving.Place.TheVariants as places
use Rattle.folders.specs.declared.names.OfferKind.{OfferKind}
use Rattle.folders.specs.declared.names.FileRequest.{FileRequest}
use Rattle.folders.specs.declared.wishes.Wish.{Wish}
use Rattle.offers.specs.Rules.{Standing, entry_of}
use Rattle.offers.specs.Stages.{wish_of}
use Rattle.offers.specs.declared.offer.Offer.{Offer}
use Rattle.run_command.specs.Standing.{Texts, StandsFor, wished, LayThere}
use Rattle.driver.specs.Events.{Event}
use Rattle.run_command.specs.ReleaseFiles.{filing}
use Rattle.run_command.specs.Story.{Happened, events_of, doings_of, files_of_story, stored_of, IsOut, IsReleasedIn}
use Rattle.run_command.specs.Waiting.{Waiting}

-- the name of the file that asks for this
abbrev pub name_of : FileRequest → List ℕ
name_of r = decimal r.number ++ kind_word r.kind

-- the file that asks for this lay among the offers, and stands for this wish, a text by this table
pub record WasRead (texts : Texts) (doings : List Doing) (r : FileRequest) (wish : Wish) : Type 0 where
  pub bytes : List ℕ
  pub lay_there : LayThere doings r.kind (name_of r) bytes
  pub stands : StandsFor texts r.kind bytes (wished wish)

-- what is known of the wish of a file was read
abbrev pub IsRead : Texts → List Doing → FileRequest → Option Wish → Type 0
IsRead texts doings r None = Unit {0}
IsRead texts doings r (Some wish) = WasRead texts doings r wish

-- the same of a file in the book
abbrev pub IsReadOffer : Texts → List Doing → Offer → Type 0
IsReadOffer texts doings o = IsRead texts doings o.request (wish_of o.stage)

-- each of them is such
abbrev pub WereRead : Texts → List Doing → List Offer → Type 0
WereRead texts doings files = All (IsReadOffer texts doings) files

-- the number was released in one of these events
pub record HasRelease (log : List Event) (n : ℕ) : Type 0 where
  pub release : Release
  pub released : IsReleasedIn log release
  pub number : release.number ≡ n

-- each number whose entry is known was
abbrev pub HaveReleases : List Event → Standing → Type 0
HaveReleases log b = (n : ℕ) (e : Entry) → entry_of b n ≡ Some e → HasRelease log n

-- those of these events whose saves are stored; or all of them
abbrev pub counted : Bool → List Event → List Event
counted true log = stored_of log
counted false log = log

-- each release of these events is one whose save is stored
abbrev pub AreAllStored : List Event → Type 0
AreAllStored log = (r : Release) → IsReleasedIn log r → IsReleasedIn (stored_of log) r

-- What is kept in mind holds of what happened, of which the latest is told first. The files whose wish is known lay among the offers. The
-- numbers whose entry is known were released. Each file of a release is written or waits, and what waits is such a file, or the number of
-- such a release. If what waits is stored, the saves of all these releases are stored, and there are no others. Each number that was released
-- is out, or waits to be noted.
pub record Holds (texts : Texts) (past : List Happened) (waits : Waiting) (book : Standing) : Type 0 where
  pub taken : WereRead texts (doings_of past) book.files
  pub known : HaveReleases (counted waits.stored (events_of past)) book
  pub filed : (f : File) → IsAmong (flat_map filing (events_of past)) f → IsAmong (files_of_story past) f ⊎ IsAmong waits.files f
  pub waiting : (f : File) → IsAmong waits.files f → IsAmong (flat_map filing (counted waits.stored (events_of past))) f
  pub unnoted : (n : ℕ) → IsAmong waits.numbers n → HasRelease (counted waits.stored (events_of past)) n
  pub saved : waits.stored ≡ true → AreAllStored (events_of past)
  pub out : (r : Release) → IsReleasedIn (events_of past) r → IsOut past r.number ⊎ IsAmong waits.numbers r.number

-- what happened, behind what happened before, the latest first
abbrev pub onto : {A : Type 0} → List A → List A → List A
onto [] past = past
onto (x ∷ story) past = onto story (x ∷ past)

-- a file of this name is of a number that was released
pub record IsOfRelease (log : List Event) (name : List ℕ) : Type 0 where
  pub release : Release
  pub kind : OfferKind
  pub released : IsReleasedIn log release
  pub named : IsNameOf name release.number kind

-- what is done where no number is settled: files are found and read, and leave the offers where they are none
abbrev pub IsLook : Doing → Type 0
IsLook (saw_file name) = Unit {0}
IsLook (read_file file) = Unit {0}
IsLook (wrote_file file) = ⊥
IsLook (noted_gone numbers) = ⊥
IsLook (noted_before numbers) = ⊥
IsLook (moved_file name places.Sent) = ⊥
IsLook (moved_file name places.Lost) = ⊥
IsLook (moved_file name places.Refused) = Unit {0}
IsLook (moved_file name places.Done) = ⊥
IsLook (removed_file name) = IsStop name

-- what is done where numbers are settled for which this holds of their files' names
abbrev pub IsSettling : (List ℕ → Type 0) → Doing → Type 0
IsSettling P (saw_file name) = Unit {0}
IsSettling P (read_file file) = Unit {0}
IsSettling P (wrote_file file) = ⊥
IsSettling P (noted_gone numbers) = ⊥
IsSettling P (noted_before numbers) = ⊥
IsSettling P (moved_file name places.Sent) = P name
IsSettling P (moved_file name places.Lost) = P name
IsSettling P (moved_file name places.Refused) = Unit {0}
IsSettling P (moved_file name places.Done) = Unit {0}
IsSettling P (removed_file name) = IsStop name

-- each of these is
abbrev pub AreLooks : List Doing → Type 0
AreLooks [] = Unit {0}
AreLooks (d ∷ doings) = IsLook d × AreLooks doings

abbrev pub AreSettlings : (List ℕ → Type 0) → List Doing → Type 0
AreSettlings P [] = Unit {0}
AreSettlings P (d ∷ doings) = IsSettling P d × AreSettlings P doings
