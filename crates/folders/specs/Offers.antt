-- What the files among the offers ask for.
use Rattle.std.specs.Prelude.{◌≡◌, ◌≤◌, ◌++◌, ◌⊎◌, ℕ, List, codes, decimal}
use Rattle.protocol.specs.Entries.{Entry}
use Rattle.protocol.specs.Limits.{last_number}
use Rattle.tape_frames.specs.Entries.{owned_entry}
use Rattle.folders.specs.declared.leaving.Place.{Place}
use Rattle.folders.specs.declared.leaving.Place.TheVariants.{Sent, Lost, Refused, Done}
use Rattle.folders.specs.declared.names.OfferKind.{OfferKind}
use Rattle.folders.specs.declared.names.OfferKind.TheVariants as kinds
use Rattle.folders.specs.declared.wishes.Wish.{Wish}
use Rattle.folders.specs.declared.wishes.Wish.TheVariants.{Offered, Sought}

-- how the names of this kind end
abbrev pub kind_word : OfferKind → List ℕ
kind_word kinds.Tape = codes ".tape"
kind_word kinds.Text = codes ".text"
kind_word kinds.Withdraw = codes ".withdraw"
kind_word kinds.Seek = codes ".seek"

-- the name is the very name of this number's file of this kind
abbrev pub IsNameOf : List ℕ → ℕ → OfferKind → Type 0
IsNameOf name n kind = name ≡ decimal n ++ kind_word kind

-- no number, from 1 to 999,999, has a file of this kind with this name
abbrev pub NamesNoneOf : OfferKind → List ℕ → Type 0
NamesNoneOf kind name = (n : ℕ) → 1 ≤ n → n ≤ last_number → ¬ IsNameOf name n kind

-- no number has a file of any kind with this name
abbrev pub NamesNone : List ℕ → Type 0
NamesNone name = (kind : OfferKind) → NamesNoneOf kind name

-- the name is that of the file that ends a run
abbrev pub IsStop : List ℕ → Type 0
IsStop name = name ≡ codes "stop"

-- the name begins with a dot
abbrev pub BeginsWithDot : List ℕ → Type 0
BeginsWithDot name = (rest : List ℕ) × (name ≡ codes "." ++ rest)

-- the name ends with `.part`
abbrev pub EndsWithPart : List ℕ → Type 0
EndsWithPart name = (front : List ℕ) × (name ≡ front ++ codes ".part")

-- a file of this name is left alone: it is being handed over, or it is the one that ends a run
abbrev pub IsLeft : List ℕ → Type 0
IsLeft name = BeginsWithDot name ⊎ (EndsWithPart name ⊎ IsStop name)

-- the entry that stands under the number is the one that was asked for; a search takes any
abbrev pub IsMet : Wish → Entry → Type 0
IsMet (Offered own) entry = owned_entry own ≡ entry
IsMet Sought entry = Unit {0}

-- a file is put to those that were sent where its number's entry is what it asked for, and else to those that were lost
abbrev pub IsPlaceOf : Wish → Entry → Place → Type 0
IsPlaceOf wish entry Sent = IsMet wish entry
IsPlaceOf wish entry Lost = ¬ IsMet wish entry
IsPlaceOf wish entry Refused = ⊥
IsPlaceOf wish entry Done = ⊥
