-- What the rule says of each kind of work.
use Rattle.std.proofs.Common.{◌≡◌, ◌<◌, ◌⊎◌, inl, inr, ℕ, refl, sym, Bool, true, false, not, ◌&&◌, nat_le, nat_lt, arith}
use Rattle.std.proofs.lemmas.Bool.Decides.{nat_tests}
use Rattle.pace.specs.declared.turns.DueSight.{DueSight}
use Rattle.pace.specs.declared.turns.DueSight.TheVariants as seens
use Rattle.pace.specs.declared.turns.Sight.{Sight}
use Rattle.pace.specs.declared.turns.Work.TheVariants as works
use Rattle.pace.specs.Order.{Counts, has_deed, may_ask, has_rested}
use Rattle.pace.specs.Rule.{LooksComeFirst, DatagramsWait, DueNumbersGiveWay, DeedsGiveWay, AsksAreFew, WaitsHaveNoWork}
use Rattle.pace.proofs.Choice.{at_least, first_holds, choice}

second_holds : (a b : Bool) → (a && b) ≡ true → b ≡ true
second_holds true b e = e
second_holds false b e = absurd cc

fewer : (a b : ℕ) → nat_lt a b ≡ true → a < b
fewer a b e = grind (arith, nat_tests)

turned : (b : Bool) → not b ≡ true → b ≡ false
turned true e = absurd cc
turned false e = refl

looks_first : (rested just due over waits asks : Bool) (s : DueSight) (deed : Bool) → rested ≡ true → just ≡ false → choice (not just && rested) due over waits asks s deed ≡ works.Look
looks_first true false due over waits asks s deed e f = refl
looks_first true true due over waits asks s deed e f = absurd cc
looks_first false just due over waits asks s deed e f = absurd cc

takes : (look due over waits asks : Bool) (s : DueSight) (deed : Bool) → choice look due over waits asks s deed ≡ works.TakeIn → waits ≡ true
takes true due over waits asks s deed e = absurd cc
takes false true over waits asks s deed e = absurd cc
takes false false true waits asks s deed e = absurd cc
takes false false false true asks s deed e = refl
takes false false false false asks seens.Unseen deed e = absurd cc
takes false false false false asks seens.One true e = absurd cc
takes false false false false asks seens.One false e = absurd cc
takes false false false false asks seens.Nothing true e = absurd cc
takes false false false false asks seens.Nothing false e = absurd cc

sees : (look due over waits asks : Bool) (s : DueSight) (deed : Bool) → choice look due over waits asks s deed ≡ works.Due → (waits ≡ false) ⊎ (due ≡ true)
sees true due over waits asks s deed e = absurd cc
sees false true over waits asks s deed e = inr refl
sees false false true waits asks s deed e = absurd cc
sees false false false true asks s deed e = absurd cc
sees false false false false asks seens.Unseen deed e = inl refl
sees false false false false asks seens.One true e = absurd cc
sees false false false false asks seens.One false e = inl refl
sees false false false false asks seens.Nothing true e = absurd cc
sees false false false false asks seens.Nothing false e = absurd cc

waits_for : (look due over waits asks : Bool) (s : DueSight) (deed : Bool) → choice look due over waits asks s deed ≡ works.Wait → (waits ≡ false) × (deed ≡ false) × (s ≡ seens.Nothing)
waits_for true due over waits asks s deed e = absurd cc
waits_for false true over waits asks s deed e = absurd cc
waits_for false false true waits asks s deed e = absurd cc
waits_for false false false true asks s deed e = absurd cc
waits_for false false false false asks seens.Unseen deed e = absurd cc
waits_for false false false false asks seens.One true e = absurd cc
waits_for false false false false asks seens.One false e = absurd cc
waits_for false false false false asks seens.Nothing true e = absurd cc
waits_for false false false false asks seens.Nothing false e = (refl, refl, refl)

does : (look due over waits asks : Bool) (s : DueSight) (deed may : Bool) → choice look due over waits asks s deed ≡ works.Deed may
    → (may ≡ asks) × ((over ≡ true) ⊎ ((waits ≡ false) × (deed ≡ true)))
does true due over waits asks s deed may e = absurd cc
does false true over waits asks s deed may e = absurd cc
does false false true waits asks s deed may e = (cc, inl refl)
does false false false true asks s deed may e = absurd cc
does false false false false asks seens.Unseen deed may e = absurd cc
does false false false false asks seens.One true may e = (cc, inr (refl, refl))
does false false false false asks seens.One false may e = absurd cc
does false false false false asks seens.Nothing true may e = (cc, inr (refl, refl))
does false false false false asks seens.Nothing false may e = absurd cc

-- the tests that choose
abbrev looks : Counts → Sight → Bool
looks c s = not c.just_looked && has_rested c.looked s.now

abbrev owes_due : Counts → Bool
owes_due c = nat_le 64 c.since_due

abbrev owes_deed : Counts → Sight → Bool
owes_deed c s = nat_le 16 c.since_deed && has_deed s

pub looks_come_first : LooksComeFirst
looks_come_first c s e f = looks_first (has_rested c.looked s.now) c.just_looked (owes_due c) (owes_deed c s) s.waits (may_ask s) c.seen (has_deed s) e f

pub datagrams_wait : DatagramsWait
datagrams_wait c s e = takes (looks c s) (owes_due c) (owes_deed c s) s.waits (may_ask s) c.seen (has_deed s) e

pub due_numbers_give_way : DueNumbersGiveWay
due_numbers_give_way c s e =
    elim (sees (looks c s) (owes_due c) (owes_deed c s) s.waits (may_ask s) c.seen (has_deed s) e) [
      | inl none ↦ inl none
      | inr owes ↦ inr (at_least 64 c.since_due owes)
    ]

pub deeds_give_way : DeedsGiveWay
deeds_give_way c s asks e =
    elim ((does (looks c s) (owes_due c) (owes_deed c s) s.waits (may_ask s) c.seen (has_deed s) asks e).1) [
      | inl over ↦ (second_holds (nat_le 16 c.since_deed) (has_deed s) over, inr (at_least 16 c.since_deed (first_holds (nat_le 16 c.since_deed) (has_deed s) over)))
      | inr quiet ↦ (quiet.1, inl quiet.0)
    ]

pub asks_are_few : AsksAreFew
asks_are_few c s e =
    let may : true ≡ may_ask s = (does (looks c s) (owes_due c) (owes_deed c s) s.waits (may_ask s) c.seen (has_deed s) true e).0 in
    (fewer s.under_way 16 (first_holds (nat_lt s.under_way 16) (not s.is_behind) (sym may)), turned s.is_behind (second_holds (nat_lt s.under_way 16) (not s.is_behind) (sym may)))

pub waits_have_no_work : WaitsHaveNoWork
waits_have_no_work c s e = waits_for (looks c s) (owes_due c) (owes_deed c s) s.waits (may_ask s) c.seen (has_deed s) e
