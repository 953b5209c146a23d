-- The laws of pages, and those of the grammar and of reading that rolls alone have.
use Rattle.std.specs.Prelude.{◌≡◌, ℕ, ◌<◌, ◌≤◌, ◌+◌, List, length, Ok, Err}
use Rattle.protocol.specs.Limits.{last_number}
use Rattle.recalls.specs.Recalls.{Recall}
use Rattle.recalls.specs.Grammar.{Spells as SpellsRecall}
use Rattle.recalls.specs.Reading.{recall_at}
use Rattle.recalls.specs.declared.fault.RecallFault.TheVariants as recalls
use Rattle.rolls.specs.Pages.{pages, page_numbers, page_of, place_of, number_on}
use Rattle.rolls.specs.Kinds.{body_len}
use Rattle.rolls.specs.Rolls.{Roll}
use Rattle.rolls.specs.Bodies.{kind_of}
use Rattle.rolls.specs.Grammar.{Spells}
use Rattle.rolls.specs.Reading.{roll_at}
use Rattle.rolls.specs.Asides.{aside_in}
use Rattle.rolls.specs.declared.fault.RollFault.TheVariants as rolls
use Rattle.rolls.specs.declared.aside.Aside.TheVariants as asides

-- each circuit number lies on a page, at a place of it, and is the number there
abbrev pub EachNumberHasItsPlace : Type 0
EachNumberHasItsPlace = (n : ℕ) → 1 ≤ n → n ≤ last_number → (page_of n < pages) × (place_of n < page_numbers) × (number_on (page_of n) (place_of n) ≡ n)

-- and a place of a page has no other number
abbrev pub EachPlaceHasItsNumber : Type 0
EachPlaceHasItsNumber = (page place : ℕ) → place < page_numbers → (page_of (number_on page place) ≡ page) × (place_of (number_on page place) ≡ place)

-- a spelling has 12 bytes, and those of the body
abbrev pub LengthsAreGiven : Type 0
LengthsAreGiven = (bytes : List ℕ) (r : Roll) → Spells bytes r → length bytes ≡ 12 + body_len (kind_of r.body)

-- none has fewer bytes than the shortest packet or recall
abbrev pub NoneIsShort : Type 0
NoneIsShort = (bytes : List ℕ) (r : Roll) → Spells bytes r → 17 ≤ length bytes

-- a station that knows recalls and no rolls passes over what spells a roll, by its kind: none spells a recall
abbrev pub IsNoRecall : Type 0
IsNoRecall = (bytes : List ℕ) (r : Roll) → Spells bytes r → recall_at bytes ≡ Err recalls.BadKind

-- and no recall spells a roll
abbrev pub NoRecallIsOne : Type 0
NoRecallIsOne = (bytes : List ℕ) (r : Recall) → SpellsRecall bytes r → roll_at bytes ≡ Err rolls.BadKind

-- what spells a roll is heard as it
abbrev pub HearsRolls : Type 0
HearsRolls = (bytes : List ℕ) (r : Roll) → Spells bytes r → aside_in bytes ≡ asides.Roll (Ok r)

-- and what spells a recall is heard as it
abbrev pub HearsRecalls : Type 0
HearsRecalls = (bytes : List ℕ) (r : Recall) → SpellsRecall bytes r → aside_in bytes ≡ asides.Recall (Ok r)
