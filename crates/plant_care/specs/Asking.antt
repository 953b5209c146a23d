-- What an editor asks for by hand.
use Rattle.std.specs.Prelude.{◌≡◌, ◌⊎◌, ◌||◌, ◌&&◌, not, ℕ, Bool, true, false, Option, Some, None, is_some, IfSome, IsSomeAnd}
use Rattle.protocol.specs.Entries.{Entry, Void, Taped}
use Rattle.catch_up.specs.Calls.{is_told_in}
use Rattle.by_hand.specs.Hands.{HandValue, IsNext}
use Rattle.folders.specs.declared.names.Span.{Span}
use Rattle.folders.specs.declared.stamp.Stamp.{Stamp}
use Rattle.plant_care.specs.declared.ask.RangeAsk.{RangeAsk}
use Rattle.plant_care.specs.declared.care.Care.{Care}

-- an entry is a tape, and no withdrawal
abbrev pub is_tape : Entry → Bool
is_tape Void = false
is_tape (Taped tape) = true

-- it is known as well as it will be what the circuit has: a majority told its votes; or nobody is asked for them, and it is known what
-- went out
abbrev pub knows_circuit : Care → Bool
knows_circuit c = is_told_in c.catch_up.rolls || (not (is_some c.waiting) && not c.catch_up.asks)

-- there may be a search to begin of a range that is asked for
abbrev pub is_search_due : Option RangeAsk → Bool
is_search_due None = false
is_search_due (Some ask) = ask.is_stirred

-- the number of a range that is searched next
abbrev pub IsSearched : Option RangeAsk → Option RangeAsk → ℕ → Type 0
IsSearched None new number = ⊥
IsSearched (Some ask) None number = ⊥
IsSearched (Some ask) (Some after) number = IsNext ask.hand after.hand (Some number)

-- what is asked for of a range: it begins where the range does, and ends where that has an end
abbrev pub IsRange : Span → HandValue → Type 0
IsRange span hand = (hand.first ≡ span.first) × IfSome span.last (λ (last : ℕ). hand.last ≡ last)

-- a range is asked for by its file from now on, or, without memory, what was asked for before still is
abbrev pub AsksFor : Span → Stamp → Care → Care → Type 0
AsksFor span stamp old new =
    (new ≡ record old { ask = new.ask })
    × ((new.ask ≡ old.ask) ⊎ IsSomeAnd new.ask (λ (ask : RangeAsk). (ask.span ≡ span) × (ask.stamp ≡ stamp) × (ask.is_stirred ≡ true) × IsRange span ask.hand))
