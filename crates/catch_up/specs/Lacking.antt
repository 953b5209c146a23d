-- What a plant lacks, where it is known what went out there.
use Rattle.std.specs.Prelude.{◌≡◌, ℕ, ◌+◌, Bool, true, false, not, ◌&&◌, nat_lt, List, [], ◌∷◌, length, min, Option, Some, None, is_some, Result, IfOk, IfSome, OnOk}
use Rattle.std.specs.declared.alloc.AllocError.{AllocError}
use Rattle.std.specs.Option.{option_map}
use Rattle.gone_out.specs.Numbers.{has}
use Rattle.healing.specs.declared.case.LackedNumber.{LackedNumber}
use Rattle.healing.specs.declared.news.NumberNews.{NumberNews}
use Rattle.healing.specs.declared.wanted.Want.{Want}
use Rattle.healing.specs.Lists.{is_among}
use Rattle.healing.specs.Healing.{HealingValue, case_at, AllRest, AreAwaited, AreDueIn, IsRipeIn, IsTold, IsOut, IsWanted, NoneIsOut}

-- whether a number went out
abbrev pub gone_in : Option HealingValue → ℕ → Bool
gone_in None n = false
gone_in (Some h) n = has h.gone n

-- what is known of a number that did not go out
abbrev pub case_of : Option HealingValue → ℕ → Option LackedNumber
case_of None n = None
case_of (Some h) n = case_at h n

-- the member whose plant it is, where it is known what went out
abbrev pub own_in : Option HealingValue → Option ℕ
own_in h = option_map (λ (h : HealingValue). h.own) h

-- whether a number is new: it is known what went out, this one did not, and it is not known
abbrev pub is_new_in : Option HealingValue → ℕ → Bool
is_new_in None n = false
is_new_in (Some h) n = not (has h.gone n) && not (is_some (case_at h n))

-- none of these numbers went out
abbrev pub NoneWentOut : Option HealingValue → List ℕ → Type 0
NoneWentOut h numbers = (n : ℕ) → gone_in h n ≡ true → is_among numbers n ≡ false

-- the same numbers went out
abbrev pub SameGone : Option HealingValue → Option HealingValue → Type 0
SameGone old new = (n : ℕ) → gone_in new n ≡ gone_in old n

-- a datagram was taken in
abbrev pub taken_in : Option HealingValue → Option HealingValue
taken_in h = option_map (λ (h : HealingValue). record h { taken = min (h.taken + 1) 256 }) h

-- one piece of news of a number
abbrev pub IsToldOf : Option HealingValue → Option HealingValue → ℕ → NumberNews → ℕ → Type 0
IsToldOf None new number news now = new ≡ None
IsToldOf (Some h) None number news now = ⊥
IsToldOf (Some h) (Some k) number news now = IsTold h k number news now

-- pieces of news of a number, one after the other
abbrev pub AreToldOf : Option HealingValue → Option HealingValue → ℕ → List NumberNews → ℕ → Type 0
AreToldOf old new number [] now = new ≡ old
AreToldOf old new number (news ∷ more) now = (between : Option HealingValue) × IsToldOf old between number news now × AreToldOf between new number more now

-- a number went out
abbrev pub IsOutOf : Option HealingValue → Option HealingValue → ℕ → Type 0
IsOutOf None new number = new ≡ None
IsOutOf (Some h) None number = ⊥
IsOutOf (Some h) (Some k) number = IsOut h k number

-- fewer than 4,096 numbers are known that did not go out
abbrev pub may_ask_pages : Option HealingValue → Bool
may_ask_pages None = false
may_ask_pages (Some h) = nat_lt (length h.cases) 4096

-- no circuit number is recalled, sought or waits
abbrev pub AllRestIn : Option HealingValue → Type 0
AllRestIn None = Unit {0}
AllRestIn (Some h) = AllRest h.cases

-- what healing wants next: of what is lacked, and of nothing that went out
abbrev pub IsWantOf : Option HealingValue → ℕ → Want → Type 0
IsWantOf None now want = ⊥
IsWantOf (Some h) now want = IsWanted h now want × NoneIsOut h.gone want

-- these are lacked: each waits, is known for long enough, and nothing of it came for long enough
abbrev pub AreLacked : Option HealingValue → ℕ → List ℕ → Type 0
AreLacked None now numbers = ⊥
AreLacked (Some h) now numbers = AreDueIn h.cases now numbers

-- this one is to be sought
abbrev pub IsToBeSought : Option HealingValue → ℕ → ℕ → Type 0
IsToBeSought None now number = ⊥
IsToBeSought (Some h) now number = IsRipeIn h.cases now number

-- these were recalled, and are waited for
abbrev pub AreAwaitedOf : Option HealingValue → ℕ → List ℕ → Type 0
AreAwaitedOf None now numbers = ⊥
AreAwaitedOf (Some h) now numbers = AreAwaited h.cases now numbers

-- the same, and none of them went out
abbrev pub IsAwaitedBatch : Option HealingValue → ℕ → List ℕ → Type 0
IsAwaitedBatch h now batch = AreAwaitedOf h now batch × NoneWentOut h batch

-- one piece of news of a number was told, where memory sufficed; what went out stays, and so does whose plant it is
pub record IsNewsTold (old new : Option HealingValue) (number : ℕ) (news : NumberNews) (now : ℕ) (result : Result (Unit {0}) AllocError) : Type 0 where
  pub ok : OnOk result (IsToldOf old new number news now)
  pub gone : SameGone old new
  pub own : own_in new ≡ own_in old

-- what the plant wants next was taken; what went out stays
pub record IsWanting (old new : Option HealingValue) (now : ℕ) (result : Result (Option Want) AllocError) : Type 0 where
  pub wanted : IfOk result (λ w. IfSome w (IsWantOf old now))
  pub gone : SameGone old new

-- what is to be asked for once more was taken, if anything is; what went out stays
pub record IsAskingAgain (old new : Option HealingValue) (now : ℕ) (batch : Option (List ℕ)) : Type 0 where
  pub awaited : IfSome batch (IsAwaitedBatch old now)
  pub gone : SameGone old new
  pub same : batch ≡ None → new ≡ old
