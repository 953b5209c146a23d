-- What it says of the tests that a kind of work came next.
use Rattle.std.proofs.Common.{◌≡◌, ◌≤◌, ◌<◌, ◌⊎◌, inl, inr, ℕ, refl, Bool, true, false, not, ◌&&◌, nat_le, cond, arith}
use Rattle.std.proofs.lemmas.Bool.Decides.{nat_tests}
use Rattle.pace.specs.declared.turns.Done.TheVariants as dones
use Rattle.pace.specs.declared.turns.DueSight.{DueSight}
use Rattle.pace.specs.declared.turns.DueSight.TheVariants as seens
use Rattle.pace.specs.declared.turns.Work.{Work}
use Rattle.pace.specs.declared.turns.Work.TheVariants as works
use Rattle.pace.specs.Order.{first_of, quiet_work}
use Rattle.pace.specs.Fairness.{carries_out}

-- tests, as facts
pub below : (a b : ℕ) → nat_le a b ≡ false → b < a
below a b e = grind (arith, nat_tests)

pub at_least : (a b : ℕ) → nat_le a b ≡ true → a ≤ b
at_least a b e = grind (arith, nat_tests)

pub first_holds : (a b : Bool) → (a && b) ≡ true → a ≡ true
first_holds true b e = refl
first_holds false b e = absurd cc

pub first_fails : (a b : Bool) → (a && b) ≡ false → b ≡ true → a ≡ false
first_fails true b e f = absurd cc
first_fails false b e f = refl

-- whether what is due was seen last, and whether it was not, as numbers
abbrev pub seen : DueSight → ℕ
seen seens.Unseen = 0
seen seens.One = 1
seen seens.Nothing = 1

abbrev pub unseen : DueSight → ℕ
unseen seens.Unseen = 1
unseen seens.One = 0
unseen seens.Nothing = 0

pub seen_one : (s : DueSight) → seen s ≤ 1
seen_one seens.Unseen = omega arith
seen_one seens.One = omega arith
seen_one seens.Nothing = omega arith

pub unseen_one : (s : DueSight) → unseen s ≤ 1
unseen_one seens.Unseen = omega arith
unseen_one seens.One = omega arith
unseen_one seens.Nothing = omega arith

-- a test as a number, and whether a look may come, which is not so where one was the last work
abbrev pub one_if : Bool → ℕ
one_if b = cond b 1 0

abbrev pub may_look : Bool → ℕ
may_look just = cond just 0 1

pub one_at_most : (b : Bool) → one_if b ≤ 1
one_at_most true = omega arith
one_at_most false = omega arith

pub look_at_most : (just : Bool) → may_look just ≤ 1
look_at_most true = omega arith
look_at_most false = omega arith

pub look_left : (just : Bool) → not just ≡ true → may_look just ≡ 1
look_left true e = absurd cc
look_left false e = refl

-- the work that is chosen by these tests
abbrev pub choice : Bool → Bool → Bool → Bool → Bool → DueSight → Bool → Work
choice look due over waits asks s deed = first_of look due over waits asks (quiet_work s deed asks)

pub for_look : (look due over waits asks : Bool) (s : DueSight) (deed : Bool)
    → carries_out (choice look due over waits asks s deed) dones.Looked ≡ true → look ≡ true
for_look true due over waits asks s deed h = refl
for_look false true over waits asks s deed h = absurd cc
for_look false false true waits asks s deed h = absurd cc
for_look false false false true asks s deed h = absurd cc
for_look false false false false asks seens.Unseen deed h = absurd cc
for_look false false false false asks seens.One true h = absurd cc
for_look false false false false asks seens.One false h = absurd cc
for_look false false false false asks seens.Nothing true h = absurd cc
for_look false false false false asks seens.Nothing false h = absurd cc

pub for_datagram : (look due over waits asks : Bool) (s : DueSight) (deed : Bool)
    → carries_out (choice look due over waits asks s deed) dones.TookIn ≡ true → (due ≡ false) × (over ≡ false)
for_datagram true due over waits asks s deed h = absurd cc
for_datagram false true over waits asks s deed h = absurd cc
for_datagram false false true waits asks s deed h = absurd cc
for_datagram false false false true asks s deed h = (refl, refl)
for_datagram false false false false asks s deed h = (refl, refl)

pub for_deed : (look due over waits asks : Bool) (s : DueSight) (deed : Bool)
    → carries_out (choice look due over waits asks s deed) dones.DidDeed ≡ true → (over ≡ true) ⊎ ((waits ≡ false) × (seen s ≡ 1))
for_deed true due over waits asks s deed h = absurd cc
for_deed false true over waits asks s deed h = absurd cc
for_deed false false true waits asks s deed h = inl refl
for_deed false false false true asks s deed h = absurd cc
for_deed false false false false asks seens.Unseen deed h = absurd cc
for_deed false false false false asks seens.One deed h = inr (refl, refl)
for_deed false false false false asks seens.Nothing deed h = inr (refl, refl)

pub for_wait : (look due over waits asks : Bool) (s : DueSight) (deed : Bool)
    → carries_out (choice look due over waits asks s deed) dones.Waited ≡ true → (waits ≡ false) × (seen s ≡ 1) × (deed ≡ false)
for_wait true due over waits asks s deed h = absurd cc
for_wait false true over waits asks s deed h = absurd cc
for_wait false false true waits asks s deed h = absurd cc
for_wait false false false true asks s deed h = absurd cc
for_wait false false false false asks seens.Unseen deed h = absurd cc
for_wait false false false false asks seens.One true h = absurd cc
for_wait false false false false asks seens.One false h = absurd cc
for_wait false false false false asks seens.Nothing true h = absurd cc
for_wait false false false false asks seens.Nothing false h = (refl, refl, refl)

pub for_due : (look due over waits asks : Bool) (s : DueSight) (deed : Bool)
    → carries_out (choice look due over waits asks s deed) dones.SawOne ≡ true
    → (due ≡ true) ⊎ ((waits ≡ false) × ((unseen s ≡ 1) ⊎ (deed ≡ false)))
for_due true due over waits asks s deed h = absurd cc
for_due false true over waits asks s deed h = inl refl
for_due false false true waits asks s deed h = absurd cc
for_due false false false true asks s deed h = absurd cc
for_due false false false false asks seens.Unseen deed h = inr (refl, inl refl)
for_due false false false false asks seens.One true h = absurd cc
for_due false false false false asks seens.One false h = inr (refl, inr refl)
for_due false false false false asks seens.Nothing true h = absurd cc
for_due false false false false asks seens.Nothing false h = absurd cc

-- what is due was seen to, whether a number was or none
pub saw : (w : Work) → carries_out w dones.SawNothing ≡ true → carries_out w dones.SawOne ≡ true
saw works.Look h = absurd cc
saw works.TakeIn h = absurd cc
saw works.Due h = refl
saw (works.Deed asks) h = absurd cc
saw works.Wait h = absurd cc
