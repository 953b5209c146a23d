-- The numbers that a plant heals: what is known of all, and what comes next.
use Rattle.std.specs.Prelude.{◌≡◌, ◌≤◌, ◌+◌, ◌⊎◌, ℕ, Bool, true, false, not, ◌&&◌, ◌||◌, nat_le, nat_lt, List, [], ◌∷◌, length, Option, Some, None, ◌==◌, if◌then◌else◌}
use Rattle.std.specs.Option.{option_map}
use Rattle.std.specs.Ordering.{nat_cmp}
use Rattle.std.specs.BTreeMap.{is_at}
use Rattle.std.specs.Map.{lookup}
use Rattle.protocol.specs.Limits.{last_number}
use Rattle.healing.specs.Lists.{Rise, is_among}
use Rattle.healing.specs.Queue.{stands_in}
use Rattle.gone_out.specs.Numbers.{has}
use Rattle.healing.specs.declared.news.NumberNews.{NumberNews}
use Rattle.healing.specs.declared.wanted.Want.{Want}
use Rattle.healing.specs.declared.wanted.Want.TheVariants.{Recall, Seek}
use Rattle.healing.specs.declared.case.LackStage.{LackStage}
use Rattle.healing.specs.declared.case.LackStage.TheVariants.{Recalled, Sought}
use Rattle.healing.specs.declared.case.LackedNumber.{LackedNumber}
use Rattle.healing.specs.Cases.{is_due, ripe_in, sought_in, recalled_in, waits_in, awaited_in, known_after, settled, with_stage}

-- the own member; what is known of all numbers: the case of each, those that wait, those that were recalled, those that are sought, and
-- maybe others that did or were; what went out; how many datagrams were taken in since something came next; and when numbers were asked
-- for once more last, if they were
pub record HealingValue : Type 0 where
  pub own : ℕ
  pub cases : List (ℕ × LackedNumber)
  pub waiting : List ℕ
  pub recalled : List ℕ
  pub sought : List ℕ
  pub gone : List Bool
  pub taken : ℕ
  pub asked : Option ℕ

-- the case that a number has among these
abbrev pub case_in : List (ℕ × LackedNumber) → ℕ → Option LackedNumber
case_in cases n = lookup (is_at (nat_cmp n)) cases

abbrev pub case_at : HealingValue → ℕ → Option LackedNumber
case_at h n = case_in h.cases n

-- what went out has no case; a number that waits is among those that do; one that is sought is among at most 8, and one that is recalled
-- among at most 64
pub record IsHealing (h : HealingValue) : Type 0 where
  pub gone : (n : ℕ) → has h.gone n ≡ true → case_at h n ≡ None
  pub waiting : (n : ℕ) → waits_in (case_at h n) ≡ true → stands_in h.waiting n ≡ true
  pub sought : (n : ℕ) → sought_in (case_at h n) ≡ true → is_among h.sought n ≡ true
  pub few_sought : length h.sought ≤ 8
  pub recalled : (n : ℕ) → recalled_in (case_at h n) ≡ true → is_among h.recalled n ≡ true
  pub few_recalled : length h.recalled ≤ 64

-- the number waits, and is lacked
abbrev pub IsDueIn : List (ℕ × LackedNumber) → ℕ → ℕ → Type 0
IsDueIn cases now n = (c : LackedNumber) × (case_in cases n ≡ Some c) × (is_due c now ≡ true)

-- the number is lacked, was recalled 2 s before, and a member has a vote of it
abbrev pub IsRipeIn : List (ℕ × LackedNumber) → ℕ → ℕ → Type 0
IsRipeIn cases now n = ripe_in (case_in cases n) now ≡ true

-- no circuit number is
abbrev pub NoneIsRipe : List (ℕ × LackedNumber) → ℕ → Type 0
NoneIsRipe cases now = (n : ℕ) → 1 ≤ n → n ≤ last_number → ripe_in (case_in cases n) now ≡ false

-- each of these numbers is due
abbrev pub AreDueIn : List (ℕ × LackedNumber) → ℕ → List ℕ → Type 0
AreDueIn cases now [] = Unit {0}
AreDueIn cases now (n ∷ ns) = IsDueIn cases now n × AreDueIn cases now ns

-- the cases after a number was put into another stage
abbrev pub StageIsPut : List (ℕ × LackedNumber) → List (ℕ × LackedNumber) → ℕ → LackStage → Type 0
StageIsPut old new number stage = (n : ℕ) → case_in new n ≡ (if n == number then option_map (with_stage stage) (case_in old n) else case_in old n)

-- the cases after one of them was put
abbrev pub CaseIsPut : List (ℕ × LackedNumber) → List (ℕ × LackedNumber) → ℕ → Option LackedNumber → Type 0
CaseIsPut old new number case = (n : ℕ) → case_in new n ≡ (if n == number then case else case_in old n)

-- what becomes of a number of which there is news: nothing, where it went out
abbrev pub told_of : HealingValue → ℕ → NumberNews → ℕ → Option LackedNumber
told_of h number news now = if has h.gone number then None else known_after h.own news now (case_at h number)

-- after news of a number no other has another case
pub record IsTold (old new : HealingValue) (number : ℕ) (news : NumberNews) (now : ℕ) : Type 0 where
  pub cases : CaseIsPut old.cases new.cases number (told_of old number news now)
  pub own : new.own ≡ old.own
  pub gone : new.gone ≡ old.gone
  pub taken : new.taken ≡ old.taken
  pub asked : new.asked ≡ old.asked

-- a number that went out has no case any more, and no other changes
pub record IsOut (old new : HealingValue) (number : ℕ) : Type 0 where
  pub cases : CaseIsPut old.cases new.cases number None
  pub own : new.own ≡ old.own
  pub gone : has new.gone number ≡ true
  pub others : (n : ℕ) → ¬ (n ≡ number) → has new.gone n ≡ has old.gone n
  pub taken : new.taken ≡ old.taken
  pub asked : new.asked ≡ old.asked

-- what may come next: a number is sought that is ripe, and numbers are recalled that are due
abbrev pub IsWanted : HealingValue → ℕ → Want → Type 0
IsWanted h now (Recall batch) = AreDueIn h.cases now batch × Rise 0 batch × (1 ≤ length batch) × (length batch ≤ 64)
IsWanted h now (Seek number) = IsRipeIn h.cases now number

-- what may come next is about no number that went out
abbrev pub NoneIsOut : List Bool → Want → Type 0
NoneIsOut gone (Recall batch) = (n : ℕ) → has gone n ≡ true → is_among batch n ≡ false
NoneIsOut gone (Seek number) = has gone number ≡ false

-- the cases after these numbers were recalled
abbrev pub AreRecalled : List ℕ → ℕ → List (ℕ × LackedNumber) → List (ℕ × LackedNumber) → Type 0
AreRecalled batch now old new = (n : ℕ) → case_in new n ≡ (if is_among batch n then option_map (with_stage (Recalled now)) (case_in old n) else case_in old n)

-- one number more was recalled
pub record IsRecalled (old new : HealingValue) (number now : ℕ) : Type 0 where
  pub cases : CaseIsPut old.cases new.cases number (option_map (with_stage (Recalled now)) (case_at old number))
  pub rest : new ≡ record old { cases = new.cases; waiting = new.waiting; recalled = new.recalled }
  pub len : length new.recalled ≡ length old.recalled + 1

-- what comes next changes nothing but the cases, the lists of numbers and the count of datagrams
abbrev pub OnlyCasesChange : HealingValue → HealingValue → Type 0
OnlyCasesChange old new = new ≡ record old { cases = new.cases; waiting = new.waiting; recalled = new.recalled; sought = new.sought; taken = new.taken }

-- what becomes of a number where these are recalled: of each it is settled what came of its last recall, and these are recalled
abbrev pub recalled_of : List ℕ → ℕ → ℕ → Option LackedNumber → Option LackedNumber
recalled_of batch now n c = if is_among batch n then option_map (with_stage (Recalled now)) (option_map (settled now) c) else option_map (settled now) c

-- nothing comes next: datagrams wait, and fewer than 256 were taken in since something came next
abbrev pub is_held : HealingValue → Bool → Bool
is_held h waits = waits && nat_lt h.taken 256

-- what comes next is what becomes of the numbers: one is sought, or some are recalled, or none
abbrev pub Becomes : HealingValue → HealingValue → ℕ → Option Want → Type 0
Becomes old new now (Some (Seek number)) = StageIsPut old.cases new.cases number Sought
Becomes old new now (Some (Recall batch)) = (n : ℕ) → case_at new n ≡ recalled_of batch now n (case_at old n)
Becomes old new now None = (n : ℕ) → case_at new n ≡ option_map (settled now) (case_at old n)

-- a search comes next
abbrev pub is_seek : Option Want → Bool
is_seek (Some (Seek number)) = true
is_seek (Some (Recall batch)) = false
is_seek None = false

-- where no search comes next, 8 are sought, or no number is ripe
abbrev pub SeeksAll : HealingValue → HealingValue → ℕ → Option Want → Type 0
SeeksAll old new now want = is_seek want ≡ false → (8 ≤ length new.sought) ⊎ NoneIsRipe old.cases now

-- numbers may be asked for once more: that was never done, or last 300 ms before or earlier
abbrev pub may_ask : Option ℕ → ℕ → Bool
may_ask None now = true
may_ask (Some at) now = nat_le (at + 300) now

-- these are all circuit numbers that are asked for once more: 1 to 64, each above the one before it
pub record AreAwaited (cases : List (ℕ × LackedNumber)) (now : ℕ) (batch : List ℕ) : Type 0 where
  pub all : (n : ℕ) → 1 ≤ n → n ≤ last_number → is_among batch n ≡ awaited_in (case_in cases n) now
  pub rise : Rise 0 batch
  pub some : 1 ≤ length batch
  pub few : length batch ≤ 64

-- of these numbers each circuit number that is asked for once more is in the batch
abbrev pub AreAllIn : List (ℕ × LackedNumber) → ℕ → List ℕ → List ℕ → Type 0
AreAllIn cases now numbers batch =
    (n : ℕ) → 1 ≤ n → n ≤ last_number → awaited_in (case_in cases n) now ≡ true → is_among numbers n ≡ true → is_among batch n ≡ true

-- each of these is asked for once more
abbrev pub AreOnly : List (ℕ × LackedNumber) → ℕ → List ℕ → Type 0
AreOnly cases now batch = (n : ℕ) → is_among batch n ≡ true → awaited_in (case_in cases n) now ≡ true

-- no number waits, is recalled or is sought
abbrev pub is_resting : Option LackedNumber → Bool
is_resting c = not (waits_in c || recalled_in c || sought_in c)

abbrev pub AllRest : List (ℕ × LackedNumber) → Type 0
AllRest cases = (n : ℕ) → is_resting (case_in cases n) ≡ true

-- no circuit number is asked for once more
abbrev pub NoneIsAwaited : List (ℕ × LackedNumber) → ℕ → Type 0
NoneIsAwaited cases now = (n : ℕ) → 1 ≤ n → n ≤ last_number → awaited_in (case_in cases n) now ≡ false

-- none of these went out
abbrev pub AreNotOut : List Bool → List ℕ → Type 0
AreNotOut gone batch = (n : ℕ) → has gone n ≡ true → is_among batch n ≡ false
