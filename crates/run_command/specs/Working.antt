-- What the parts of a run promise one another: what each did with the folders, and what is kept in mind then.
use Rattle.std.specs.Prelude.{◌≡◌, ◌⊎◌, ◌++◌, ℕ, List, [], Option, Some, None, Result, Ok, Err}
use Rattle.protocol.specs.Lists.{IsAmong}
use Rattle.code_table.specs.Tables.{Places, mean}
use Rattle.tape_frames.specs.Frames.{most_frames}
use Rattle.text_tape.specs.Punching.{IsPunched, IsError}
use Rattle.station.specs.declared.answer.Release.{Release}
use Rattle.folders.specs.Doings.{Doing, read_file, moved_file, Does, MayDo}
use Rattle.folders.specs.Offers.{IsNameOf}
use Rattle.folders.specs.Written.{File}
use Rattle.folders.specs.declared.leaving.Place.TheVariants.{Done}
use Rattle.folders.specs.declared.names.OfferKind.{OfferKind}
use Rattle.folders.specs.declared.names.OfferKind.TheVariants as kinds
use Rattle.folders.specs.declared.names.FileRequest.{FileRequest}
use Rattle.folders.specs.declared.wishes.Wish.{Wish}
use Rattle.offers.specs.Rules.{Standing}
use Rattle.offers.specs.declared.stage.OfferFault.{OfferFault}
use Rattle.offers.specs.declared.stage.OfferFault.TheVariants as reasons
use Rattle.plant_care.specs.Caring.{NotesBefore}
use Rattle.run_command.specs.Standing.{Texts, StandsFor, wished, LayThere}
use Rattle.driver.specs.Events.{Event}
use Rattle.run_command.specs.Departing.{IsKnown, place_of}
use Rattle.run_command.specs.Minding.{name_of, WereRead, HaveReleases, AreLooks, AreSettlings}
use Rattle.run_command.specs.declared.departures.Departure.{Departure}
use Rattle.run_command.specs.Story.{Happened, files_of_story, IsReleasedIn}
use Rattle.run_command.specs.Waiting.{Waiting, IsFiled}

-- no file was read, and no number released
pub record Follows (was is : Standing) : Type 0 where
  pub taken : (texts : Texts) (shown : List Doing) → WereRead texts shown was.files → WereRead texts shown is.files
  pub released : is.released ≡ was.released

-- files were found, read and refused, and this holds of what was done
pub record Looks (old new : Option (List Doing)) (P : List Doing → Type 0) : Type 0 where
  pub doings : List Doing
  pub does : Does old new doings
  pub looks : AreLooks doings
  pub finds : P doings

-- this holds of what was read, if it was
abbrev pub IfRead : {A E D : Type 0} → Result (Result A E) D → (A → Type 0) → Type 0
IfRead (Ok (Ok x)) P = P x
IfRead (Ok (Err e)) P = Unit {0}
IfRead (Err d) P = Unit {0}

-- a file of this name, which asks for this, lay among the offers and stands for this wish, a text by this table
pub record LaySo (texts : Texts) (doings : List Doing) (r : FileRequest) (name : List ℕ) (wish : Wish) : Type 0 where
  pub bytes : List ℕ
  pub lay_there : LayThere doings r.kind name bytes
  pub stands : StandsFor texts r.kind bytes (wished wish)

-- a file of this name that holds this was read
abbrev pub HasRead : List Doing → List ℕ → List ℕ → Type 0
HasRead doings name bytes = IsAmong doings (read_file (record { name = name; bytes = bytes }))

-- a text of this name lay among the offers, and this holds of it
pub record TextLay (doings : List Doing) (name : List ℕ) (P : List ℕ → Type 0) : Type 0 where
  pub text : List ℕ
  pub lay_there : HasRead doings name text
  pub holds : P text

-- this is the tape of a text by a table, or its first fault
abbrev pub IsTapeOrFault : {D : Type 0} → Places → List ℕ → Result (Result (List ℕ) OfferFault) D → Type 0
IsTapeOrFault table text (Ok (Ok tape)) = IsPunched [] (mean table) text tape
IsTapeOrFault table text (Ok (Err (reasons.Text e))) = IsError most_frames [] (mean table) text e
IsTapeOrFault table text (Ok (Err _)) = ⊥
IsTapeOrFault table text (Err d) = Unit {0}

-- the same of the text of this name that lay among the offers; one that is too long was not read
abbrev pub BecameTape : {D : Type 0} → Places → List Doing → List ℕ → Result (Result (List ℕ) OfferFault) D → Type 0
BecameTape table doings name (Ok (Ok tape)) = TextLay doings name (λ text. IsPunched [] (mean table) text tape)
BecameTape table doings name (Ok (Err (reasons.Text e))) = TextLay doings name (λ text. IsError most_frames [] (mean table) text e)
BecameTape table doings name (Ok (Err reasons.LongText)) = Unit {0}
BecameTape table doings name (Ok (Err _)) = ⊥
BecameTape table doings name (Err d) = Unit {0}

-- a text of this name lay among the offers and stands for this wish by this table
abbrev pub IsWishOfText : Texts → List Doing → List ℕ → Wish → Type 0
IsWishOfText texts doings name wish = TextLay doings name (λ text. StandsFor texts kinds.Text text (wished wish))

-- files were found and read, or left the offers where they are none; nothing else was done
abbrev pub LooksOnly : Option (List Doing) → Option (List Doing) → Type 0
LooksOnly old new = Looks old new (λ doings. Unit {0})

-- the file of a range was moved to those that are done, or nothing was done
abbrev pub EndsRange : Option (List Doing) → Option (List Doing) → Type 0
EndsRange old new = (new ≡ old) ⊎ ((name : List ℕ) × MayDo old new (moved_file name Done))

-- It was looked at what is missing. Numbers from before what went out was kept may have been noted, if no number waits to be noted. Then the file
-- of a range may have been moved to those that are done, if nothing waits.
pub record LooksBy {F : Type 0} (doings : F → Option (List Doing)) (w : Waiting) (old new : F) : Type 0 where
  pub mid : F
  pub notes : NotesBefore w.numbers (doings old) (doings mid)
  pub ends : EndsRange (doings mid) (doings new)
  pub none : (IsFiled w → ⊥) → doings new ≡ doings mid

-- a look at the offers, or a part of one: nothing more was done, no file was read that is asked for, and no number released
pub record Looked (old new : Option (List Doing)) (was is : Standing) : Type 0 where
  pub looks : LooksOnly old new
  pub follows : Follows was is

-- this file was moved to where it goes, or not
abbrev pub MayDepart : Departure → Option (List Doing) → Option (List Doing) → Type 0
MayDepart d old new = MayDo old new (moved_file (name_of d.found.request) (place_of d.way))

-- the same, and what is kept in mind of it then was not read anew
pub record Departs (d : Departure) (old new : Option (List Doing)) (was is : Standing) : Type 0 where
  pub departs : MayDepart d old new
  pub follows : Follows was is

-- a file of this name is of a number whose entry is known
pub record IsOfKnown (b : Standing) (name : List ℕ) : Type 0 where
  pub number : ℕ
  pub kind : OfferKind
  pub known : IsKnown b number
  pub named : IsNameOf name number kind

-- files left the offers, for those that were sent or lost only under numbers whose entry is known; nothing was read, and no number released
pub record Settles (old new : Option (List Doing)) (was is : Standing) : Type 0 where
  pub doings : List Doing
  pub does : Does old new doings
  pub settles : AreSettlings (IsOfKnown was) doings
  pub follows : Follows was is

-- what was released, if anything was, was so in these events
abbrev pub Releases : Option Release → List Event → Type 0
Releases None log = Unit {0}
Releases (Some r) log = IsReleasedIn log r

-- of these files the first were written in a story, in order, and the rest is this
abbrev pub Writes : List File → List Happened → List File → Type 0
Writes files story rest = files ≡ files_of_story story ++ rest

-- what is kept in mind was read, or was released in events of which this is given, where it was so before
pub record Keeps (Given : List Event → Type 0) (was is : Standing) : Type 0 where
  pub taken : (texts : Texts) (shown : List Doing) → WereRead texts shown was.files → WereRead texts shown is.files
  pub released : (log : List Event) → Given log → HaveReleases log was → HaveReleases log is
