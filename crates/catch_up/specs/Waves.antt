-- What a plant asked for since it lacked nothing last.
use Rattle.std.specs.Prelude.{◌≡◌, ◌≤◌, ℕ, ◌+◌, ◌-◌, ◌^◌, Bool, false, not, ◌==◌, ◌||◌, Option, Some, None, List, [], ◌∷◌, ◌++◌, filter, length, min, nat_lt, if◌then◌else◌}
use Rattle.std.specs.List.{fold}
use Rattle.std.specs.Option.{option_map}
use Rattle.healing.specs.Lists.{is_among}
use Rattle.gone_out.specs.Numbers.{has, how_many, IsEmpty}
use Rattle.catch_up.specs.declared.wave.AskedNumbers.{AskedNumbers}
use Rattle.catch_up.specs.declared.wave.Wave.{Wave}

-- of these numbers those that are not in a set
abbrev pub new_ones : List Bool → List ℕ → List ℕ
new_ones set numbers = filter (λ each. not (has set each)) numbers

-- a number waits behind the others to be handed out, where fewer than 64 wait
abbrev pub kept : List ℕ → ℕ → List ℕ
kept numbers number = if nat_lt (length numbers) 64 then numbers ++ number ∷ [] else numbers

-- numbers wait so, one after the other
abbrev pub all_kept : List ℕ → List ℕ → List ℕ
all_kept more numbers = fold kept numbers more

-- nothing was asked for
pub record IsNothingAsked (a : AskedNumbers) : Type 0 where
  pub numbers : IsEmpty a.numbers
  pub released : a.released ≡ 0
  pub missed : a.missed.items ≡ []

-- one more of those that were asked for went out, as far as there are numbers
abbrev pub out_of : ℕ → AskedNumbers → AskedNumbers
out_of number a = if has a.numbers number then record a { released = min (a.released + 1) (2 ^ 32 - 1) } else a

-- what became of those that were asked for: so many went out, and the others did not
abbrev pub wave_of : AskedNumbers → Wave
wave_of a = record { asked = how_many a.numbers; released = a.released; nothing = how_many a.numbers - a.released }

-- a number went out, which had gone out before or not
abbrev pub out_in : Bool → ℕ → Option AskedNumbers → Option AskedNumbers
out_in was_out number wave = if was_out then wave else option_map (out_of number) wave

-- some were asked for
abbrev pub has_asked : AskedNumbers → Bool
has_asked a = not (how_many a.numbers == 0)

abbrev pub has_asked_in : Option AskedNumbers → Bool
has_asked_in None = false
has_asked_in (Some a) = has_asked a

-- what is to be handed out
abbrev pub missed_in : Option AskedNumbers → List ℕ
missed_in None = []
missed_in (Some a) = a.missed.items

-- a batch is asked for: those of it that were not asked for yet wait to be handed out, as far as 64 wait
pub record AreAsked (old new : AskedNumbers) (batch : List ℕ) : Type 0 where
  pub numbers : (n : ℕ) → has new.numbers n ≡ (has old.numbers n || is_among batch n)
  pub missed : new.missed.items ≡ all_kept (new_ones old.numbers batch) old.missed.items
  pub released : new.released ≡ old.released

abbrev pub AreAskedIn : Option AskedNumbers → Option AskedNumbers → List ℕ → Type 0
AreAskedIn None new batch = new ≡ None
AreAskedIn (Some a) None batch = ⊥
AreAskedIn (Some a) (Some b) batch = AreAsked a b batch

-- what was to be handed out was
abbrev pub IsHandedOut : Option AskedNumbers → Option AskedNumbers → Type 0
IsHandedOut None new = new ≡ None
IsHandedOut (Some a) None = ⊥
IsHandedOut (Some a) (Some b) = (b.numbers ≡ a.numbers) × (b.released ≡ a.released) × (b.missed.items ≡ [])

-- what became of those that were asked for, where some were; nothing is asked for any more then, and what is to be handed out stays
abbrev pub IsWaveOver : Option AskedNumbers → Option AskedNumbers → Wave → Type 0
IsWaveOver None new w = ⊥
IsWaveOver (Some a) None w = ⊥
IsWaveOver (Some a) (Some b) w = (w ≡ wave_of a) × (1 ≤ w.asked) × IsEmpty b.numbers × (b.released ≡ 0) × (b.missed.items ≡ a.missed.items)
