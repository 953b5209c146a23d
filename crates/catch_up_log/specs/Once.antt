-- Each number that is missed is told once, and none is within a second.
use Rattle.std.specs.Prelude.{◌≡◌, ◌<◌, ◌+◌, ℕ, Bool, true, false, List, [], ◌∷◌, Option, Some, None}
use Rattle.protocol.specs.Lists.{IsAmong}
use Rattle.gone_out.specs.Numbers.{has}
use Rattle.catch_up_log.specs.declared.missed.Missed.{Missed}
use Rattle.catch_up_log.specs.Missed.{AddsTo, TellsWaiting, are_told, missed_after}

-- these numbers were added one after another
abbrev pub AddsEach : Option (List Bool) → List ℕ → Option (List Bool) → Type 0
AddsEach old [] new = new ≡ old
AddsEach old (n ∷ ns) new = (between : Option (List Bool)) × AddsTo old n between × AddsEach between ns new

-- whether a number waits
abbrev pub waits : Option (List Bool) → ℕ → Bool
waits None n = false
waits (Some flags) n = has flags n

-- some were told at a moment, and then these numbers were added
pub record IsAfter (m : Missed) (now : ℕ) (added : List ℕ) (later : Missed) : Type 0 where
  pub some : are_told m now ≡ true
  pub adds : AddsEach (missed_after m now).waiting added later.waiting
  pub rest : later.told ≡ (missed_after m now).told

-- then no number waits that was not added since
abbrev pub OnceEach : Type 0
OnceEach = (m later : Missed) (now : ℕ) (added : List ℕ) → IsAfter m now added later → (n : ℕ) → ¬ IsAmong added n → waits later.waiting n ≡ false

-- and within a second nothing is told, whatever was added since
abbrev pub OnceASecond : Type 0
OnceASecond =
    (m later : Missed) (now soon : ℕ) (added : List ℕ) (old new : Option (List ℕ)) → IsAfter m now added later → soon < now + 1000
    → TellsWaiting later soon old new → new ≡ old
