-- How many turns are left at most until a kind of work comes: each turn that does other work leaves fewer.
use Rattle.std.proofs.Common.{◌≡◌, ◌≤◌, ◌<◌, ◌+◌, ◌*◌, ◌-◌, ◌⊎◌, inl, inr, ℕ, suc, sym, ap, ◌∙◌, Bool, true, false, not, ◌&&◌, nat_le, min, List, [], ◌∷◌, length, cond, arith}
use Rattle.pace.specs.declared.turns.Done.{Done}
use Rattle.pace.specs.declared.turns.Done.TheVariants as dones
use Rattle.pace.specs.declared.turns.Sight.{Sight}
use Rattle.pace.specs.Order.{Counts, has_deed, may_ask, has_rested, next_work, after_work}
use Rattle.pace.specs.Fairness.{Turn, carries_out, Follow, Each, AreCounts, sees_due, does_deed, takes_in, taken_in, DueNumbersAreSeenTo, DeedsAreDone, DatagramsAreTakenIn}
use Rattle.pace.proofs.Choice.{below, at_least, first_holds, first_fails, seen, unseen, seen_one, unseen_one, one_if, may_look, one_at_most, look_at_most, look_left, for_look, for_datagram, for_deed, for_wait, for_due, saw}

-- the tests that choose
abbrev looks : Counts → Sight → Bool
looks c s = not c.just_looked && has_rested c.looked s.now

abbrev owes_due : Counts → Bool
owes_due c = nat_le 64 c.since_due

abbrev owes_deed : Counts → Bool
owes_deed c = nat_le 16 c.since_deed

-- that this work was done
abbrev Did : Counts → Sight → Done → Type 0
Did c s d = carries_out (next_work c s) d ≡ true

-- a look was none of the last work before
may_have_looked : (c : Counts) (s : Sight) → Did c s dones.Looked → may_look c.just_looked ≡ 1
may_have_looked c s h =
    let l = for_look (looks c s) (owes_due c) (owes_deed c && has_deed s) s.waits (may_ask s) c.seen (has_deed s) h in
    look_left c.just_looked (first_holds (not c.just_looked) (has_rested c.looked s.now) l)

due_took : (c : Counts) (s : Sight) → Did c s dones.TookIn → c.since_due < 64
due_took c s h = below 64 c.since_due (for_datagram (looks c s) (owes_due c) (owes_deed c && has_deed s) s.waits (may_ask s) c.seen (has_deed s) h).0

deed_took : (c : Counts) (s : Sight) → Did c s dones.TookIn → has_deed s ≡ true → c.since_deed < 16
deed_took c s h deed =
    let t = for_datagram (looks c s) (owes_due c) (owes_deed c && has_deed s) s.waits (may_ask s) c.seen (has_deed s) h in
    below 16 c.since_deed (first_fails (owes_deed c) (has_deed s) t.1 deed)

did : (c : Counts) (s : Sight) → Did c s dones.DidDeed → (owes_deed c ≡ true) ⊎ ((s.waits ≡ false) × (seen c.seen ≡ 1))
did c s h =
    elim (for_deed (looks c s) (owes_due c) (owes_deed c && has_deed s) s.waits (may_ask s) c.seen (has_deed s) h) [
      | inl over ↦ inl (first_holds (owes_deed c) (has_deed s) over)
      | inr quiet ↦ inr quiet
    ]

waited : (c : Counts) (s : Sight) → Did c s dones.Waited → (s.waits ≡ false) × (seen c.seen ≡ 1) × (has_deed s ≡ false)
waited c s h = for_wait (looks c s) (owes_due c) (owes_deed c && has_deed s) s.waits (may_ask s) c.seen (has_deed s) h

saw_due : (c : Counts) (s : Sight) → Did c s dones.SawOne → (owes_due c ≡ true) ⊎ ((s.waits ≡ false) × ((unseen c.seen ≡ 1) ⊎ (has_deed s ≡ false)))
saw_due c s h = for_due (looks c s) (owes_due c) (owes_deed c && has_deed s) s.waits (may_ask s) c.seen (has_deed s) h

longer : (n a b : ℕ) → n ≤ a → a < b → suc n ≤ b
longer n a b h k = omega arith

added : (one all a b most : ℕ) → one + a ≤ b → all + b ≤ most → (one + all) + a ≤ most
added one all a b most h k = omega arith

contrary : {A : Type 0} (b : Bool) → b ≡ true → b ≡ false → A
contrary b e f = absurd (let bad : true ≡ false = sym e ∙ f in cc)

-- until what is due is seen to
abbrev due_rank : Counts → ℕ
due_rank c = 2 * (2 * (64 - c.since_due) + c.since_deed + seen c.seen) + may_look c.just_looked

record DueStep (c : Counts) (d : Done) (new : Counts) : Type 0 where
  pub counts : AreCounts new
  pub less : due_rank new < due_rank c
  pub taken : cond (takes_in d) 1 0 + c.since_due ≤ new.since_due

due_step : (c : Counts) (s : Sight) (d : Done) (m : ℕ) → AreCounts c → Did c s d → not (sees_due d) ≡ true → DueStep c d (after_work c d m)
due_step c s dones.Looked m w h e =
    let l = may_have_looked c s h in
    record { counts = w; less = omega arith; taken = omega arith }
due_step c s dones.TookIn m w h e =
    let few = due_took c s h in
    let deeds : c.since_deed ≤ 16 = w.1 in
    record { counts = (omega arith, omega arith); less = omega arith; taken = omega arith }
due_step c s dones.SawOne m w h e = absurd cc
due_step c s dones.SawNothing m w h e = absurd cc
due_step c s dones.DidDeed m w h e =
    let counts : AreCounts (after_work c dones.DidDeed m) = (w.0, omega arith) in
    elim (did c s h) [
      | inl over ↦ (let many : 16 ≤ c.since_deed = at_least 16 c.since_deed over in record { counts = counts; less = omega arith; taken = omega arith })
      | inr quiet ↦ (let was : seen c.seen ≡ 1 = quiet.1 in record { counts = counts; less = omega arith; taken = omega arith })
    ]
due_step c s dones.Waited m w h e =
    let was : seen c.seen ≡ 1 = (waited c s h).1 in
    record { counts = w; less = omega arith; taken = omega arith }

due_run : (c : Counts) (ts : List Turn) → AreCounts c → Follow c ts → Each (λ t. not (sees_due t.done)) ts → (length ts ≤ due_rank c) × (taken_in ts + c.since_due ≤ 64)
due_run c [] w f e = (omega arith, (let most : c.since_due ≤ 64 = w.0 in omega arith))
due_run c (t ∷ ts) w f e =
    let step = due_step c t.sight t.done t.moment w f.0 e.0 in
    let rest = due_run (after_work c t.done t.moment) ts step.counts f.1 e.1 in
    let many : length ts ≤ due_rank (after_work c t.done t.moment) = rest.0 in
    let fewer : due_rank (after_work c t.done t.moment) < due_rank c = step.less in
    let long : suc (length ts) ≤ due_rank c = longer (length ts) (due_rank (after_work c t.done t.moment)) (due_rank c) many fewer in
    let more : taken_in ts + (after_work c t.done t.moment).since_due ≤ 64 = rest.1 in
    let taken : cond (takes_in t.done) 1 0 + c.since_due ≤ (after_work c t.done t.moment).since_due = step.taken in
    (long, added (cond (takes_in t.done) 1 0) (taken_in ts) c.since_due (after_work c t.done t.moment).since_due 64 taken more)

pub due_numbers_are_seen_to : DueNumbersAreSeenTo
due_numbers_are_seen_to c ts w f e =
    let run = due_run c ts w f e in
    let many : length ts ≤ due_rank c = run.0 in
    let taken : taken_in ts + c.since_due ≤ 64 = run.1 in
    let deeds : c.since_deed ≤ 16 = w.1 in
    let s = seen_one c.seen in
    let l = look_at_most c.just_looked in
    (omega arith, omega arith)

-- until a deed is done, where there is one in each turn
abbrev deed_rank : Counts → ℕ
deed_rank c = 2 * (3 * (16 - c.since_deed) + unseen c.seen + one_if (owes_due c)) + may_look c.just_looked

record DeedStep (c : Counts) (d : Done) (new : Counts) : Type 0 where
  pub counts : AreCounts new
  pub less : deed_rank new < deed_rank c
  pub taken : cond (takes_in d) 1 0 + c.since_deed ≤ new.since_deed

deed_saw : (c : Counts) (s : Sight) → Did c s dones.SawOne → has_deed s ≡ true → 1 ≤ unseen c.seen + one_if (owes_due c)
deed_saw c s h deed =
    elim (saw_due c s h) [
      | inl owes ↦ (let one : one_if (owes_due c) ≡ 1 = ap one_if owes in omega arith)
      | inr quiet ↦ (elim quiet.1 [ inl was ↦ omega arith | inr none ↦ contrary (has_deed s) deed none ])
    ]

deed_step : (c : Counts) (s : Sight) (d : Done) (m : ℕ) → AreCounts c → Did c s d → has_deed s ≡ true → not (does_deed d) ≡ true → DeedStep c d (after_work c d m)
deed_step c s dones.Looked m w h deed e =
    let l = may_have_looked c s h in
    record { counts = w; less = omega arith; taken = omega arith }
deed_step c s dones.TookIn m w h deed e =
    let few = deed_took c s h deed in
    let one = one_at_most (nat_le 64 (min (c.since_due + 1) 64)) in
    record { counts = (omega arith, omega arith); less = omega arith; taken = omega arith }
deed_step c s dones.SawOne m w h deed e =
    let one = deed_saw c s h deed in
    let deeds : c.since_deed ≤ 16 = w.1 in
    record { counts = (omega arith, deeds); less = omega arith; taken = omega arith }
deed_step c s dones.SawNothing m w h deed e =
    let one = deed_saw c s (saw (next_work c s) h) deed in
    let deeds : c.since_deed ≤ 16 = w.1 in
    record { counts = (omega arith, deeds); less = omega arith; taken = omega arith }
deed_step c s dones.DidDeed m w h deed e = absurd cc
deed_step c s dones.Waited m w h deed e = contrary (has_deed s) deed (waited c s h).2

deed_run : (c : Counts) (ts : List Turn) → AreCounts c → Follow c ts → Each (λ t. has_deed t.sight) ts → Each (λ t. not (does_deed t.done)) ts
    → (length ts ≤ deed_rank c) × (taken_in ts + c.since_deed ≤ 16)
deed_run c [] w f has e = (omega arith, (let most : c.since_deed ≤ 16 = w.1 in omega arith))
deed_run c (t ∷ ts) w f has e =
    let step = deed_step c t.sight t.done t.moment w f.0 has.0 e.0 in
    let rest = deed_run (after_work c t.done t.moment) ts step.counts f.1 has.1 e.1 in
    let many : length ts ≤ deed_rank (after_work c t.done t.moment) = rest.0 in
    let fewer : deed_rank (after_work c t.done t.moment) < deed_rank c = step.less in
    let long : suc (length ts) ≤ deed_rank c = longer (length ts) (deed_rank (after_work c t.done t.moment)) (deed_rank c) many fewer in
    let more : taken_in ts + (after_work c t.done t.moment).since_deed ≤ 16 = rest.1 in
    let taken : cond (takes_in t.done) 1 0 + c.since_deed ≤ (after_work c t.done t.moment).since_deed = step.taken in
    (long, added (cond (takes_in t.done) 1 0) (taken_in ts) c.since_deed (after_work c t.done t.moment).since_deed 16 taken more)

pub deeds_are_done : DeedsAreDone
deeds_are_done c ts w f has e =
    let run = deed_run c ts w f has e in
    let many : length ts ≤ deed_rank c = run.0 in
    let taken : taken_in ts + c.since_deed ≤ 16 = run.1 in
    let u = unseen_one c.seen in
    let o = one_at_most (owes_due c) in
    let l = look_at_most c.just_looked in
    (omega arith, omega arith)

-- until a datagram is taken in, where one waits in each turn
abbrev datagram_rank : Counts → ℕ
datagram_rank c = 2 * (one_if (owes_due c) + one_if (owes_deed c)) + may_look c.just_looked

record DatagramStep (c new : Counts) : Type 0 where
  pub counts : AreCounts new
  pub less : datagram_rank new < datagram_rank c

datagram_saw : (c : Counts) (s : Sight) → Did c s dones.SawOne → s.waits ≡ true → one_if (owes_due c) ≡ 1
datagram_saw c s h some =
    elim (saw_due c s h) [
      | inl owes ↦ ap one_if owes
      | inr quiet ↦ contrary s.waits some quiet.0
    ]

datagram_did : (c : Counts) (s : Sight) → Did c s dones.DidDeed → s.waits ≡ true → one_if (owes_deed c) ≡ 1
datagram_did c s h some =
    elim (did c s h) [
      | inl over ↦ ap one_if over
      | inr quiet ↦ contrary s.waits some quiet.0
    ]

datagram_step : (c : Counts) (s : Sight) (d : Done) (m : ℕ) → AreCounts c → Did c s d → s.waits ≡ true → not (takes_in d) ≡ true → DatagramStep c (after_work c d m)
datagram_step c s dones.Looked m w h some e =
    let l = may_have_looked c s h in
    record { counts = w; less = omega arith }
datagram_step c s dones.TookIn m w h some e = absurd cc
datagram_step c s dones.SawOne m w h some e =
    let one = datagram_saw c s h some in
    let deeds : c.since_deed ≤ 16 = w.1 in
    record { counts = (omega arith, deeds); less = omega arith }
datagram_step c s dones.SawNothing m w h some e =
    let one = datagram_saw c s (saw (next_work c s) h) some in
    let deeds : c.since_deed ≤ 16 = w.1 in
    record { counts = (omega arith, deeds); less = omega arith }
datagram_step c s dones.DidDeed m w h some e =
    let one = datagram_did c s h some in
    let due : c.since_due ≤ 64 = w.0 in
    record { counts = (due, omega arith); less = omega arith }
datagram_step c s dones.Waited m w h some e = contrary s.waits some (waited c s h).0

datagram_run : (c : Counts) (ts : List Turn) → AreCounts c → Follow c ts → Each (λ t. t.sight.waits) ts → Each (λ t. not (takes_in t.done)) ts → length ts ≤ datagram_rank c
datagram_run c [] w f some e = omega arith
datagram_run c (t ∷ ts) w f some e =
    let step = datagram_step c t.sight t.done t.moment w f.0 some.0 e.0 in
    let many : length ts ≤ datagram_rank (after_work c t.done t.moment) = datagram_run (after_work c t.done t.moment) ts step.counts f.1 some.1 e.1 in
    let fewer : datagram_rank (after_work c t.done t.moment) < datagram_rank c = step.less in
    longer (length ts) (datagram_rank (after_work c t.done t.moment)) (datagram_rank c) many fewer

pub datagrams_are_taken_in : DatagramsAreTakenIn
datagrams_are_taken_in c ts w f some e =
    let many = datagram_run c ts w f some e in
    let o = one_at_most (owes_due c) in
    let d = one_at_most (owes_deed c) in
    let l = look_at_most c.just_looked in
    omega arith
