-- A circuit is never stuck, and what is chosen is found.
use Rattle.std.proofs.Common.{◌<◌, ◌≤◌, ◌+◌, suc, arith, ◌≡◌, ℕ, ◌⊎◌, inl, inr, refl, sym, subst, ◌∙◌, List, [], ◌∷◌, ◌++◌, Some, None, Bool, true, false, ◌==◌}
use Rattle.protocol.specs.Lists.{IsAmong}
use Rattle.protocol.specs.Ballots.{Ballot, IsMember, members, last_round}
use Rattle.protocol.specs.Entries.{Entry}
use Rattle.protocol.specs.Rows.{Vote}
use Rattle.protocol.specs.Versions.{Version, One, Two}
use Rattle.protocol.specs.Circuit.{Circuit, Offer, Release, State, Done, Restarts, Restarted, Upgrades, Upgraded, with_at, StepsTo, upgrades, History, goes_on}
use Rattle.protocol.specs.Proposals.{denied}
use Rattle.protocol.specs.Turn.{most_ballots}
use Rattle.protocol_laws.proofs.OneStep.{same}
use Rattle.protocol_laws.proofs.Replying.{member_among, yes_no}
use Rattle.std.proofs.lemmas.Bool.{eqb-false, eq-eqb}
use Rattle.protocol.specs.Agreement.{WasVoted, WasOffered, IsChosen}
use Rattle.protocol.specs.Progress.{Leads, is_there, takes_turn, starts_again, release_of, round_of, CanRelease, CanServe, AreAt, LeadsByUpgrades, are_upgraded, upgrades_one, CircuitIsNeverStuck, RunningNeedNotRestart, DeniedNeedNotRestart, HasRoundsToGiveUp, BusyNeedNotRestart, ChosenIsFound, HalfAnUpgradeIsNoDeadEnd}
use Rattle.protocol_laws.proofs.Places.{among_right}
use Rattle.protocol_laws.proofs.Majorities.{weaker, among_members}
use Rattle.protocol_laws.proofs.Steps.{history_sound}
use Rattle.protocol_laws.proofs.Agreements.{chosen_is_one, releases_are_chosen}
use Rattle.protocol_laws.proofs.Rounds.{left_below}
use Rattle.protocol_laws.proofs.OneStep.{Reaches}
use Rattle.protocol_laws.proofs.Waking.{Able, by_offer, by_search}
use Rattle.protocol_laws.proofs.Denial.{leads_on}
use Rattle.protocol_laws.proofs.GivingUp.{leads_busily}

-- votes stay as a history goes on
pub record Later {D G F : Type 0} {z : Circuit D G F} {w : State G F} (h : History z w) (after : State G F) : Type 0 where
  pub history : History z after
  pub stays : (m n : ℕ) (b : Ballot) (t : Entry) → WasVoted h m n b t → WasVoted history m n b t

pub follow :
    {D G F : Type 0} {z : Circuit D G F} {among again : ℕ → Bool} {after w : State G F} → Leads z among again after w → (h : History z w)
    → Later h after
follow {G = G} {F = F} (is_there e) h = subst (λ (x : State G F). Later h x) e (record { history = h; stays = λ m n b t x. x })
follow (takes_turn s m call note task in_it st rest) h =
    let l = follow rest (goes_on h s (Done note) st) in
    record { history = l.history; stays = λ k n b t x. l.stays k n b t (inr x) }
follow (starts_again m in_it why st rest) h =
    let l = follow rest (goes_on h (Restarts m) Restarted st) in
    record { history = l.history; stays = λ k n b t x. l.stays k n b t (inr x) }

-- what is released is what was chosen before
pub same_entry :
    {D G F : Type 0} {z : Circuit D G F} {among again : ℕ → Bool} {m n : ℕ} {offers : List Offer} {w : State G F} (h : History z w)
    (to : CanRelease z among again m n offers w)
    → (t : Entry) → IsChosen h n t → to.entry ≡ t
same_entry {G = G} {F = F} {z = z} {m = m} {n = n} {w = w} h to t c =
    let l = follow to.leads h in
    let released : Release G F = release_of z m n to.entry in
    chosen_is_one z to.after l.history n to.entry t
    (releases_are_chosen z to.after l.history released
    (subst (λ (q : List (Release G F)). IsAmong q released) (sym to.released) (among_right (w.releases ++ to.on_the_way) (released ∷ []) released (inl refl))))
    (c.0, weaker (λ k i x. l.stays k n c.0 t x) c.1)

able :
    {D G F : Type 0} {z : Circuit D G F} {w : State G F} {among : ℕ → Bool} {v : Version} {n : ℕ} → CanServe z w among n → AreAt z w among v
    → Able z among v n last_round w
able {w = w} {n = n} can at_v = record {
  version = at_v;
  unarmed = can.unarmed;
  rounds = λ k i e. left_below (w.rows k n).promised (can.rounds k i e);
}

reached :
    {D G F : Type 0} {z : Circuit D G F} {among again : ℕ → Bool} {v : Version} {m n : ℕ} {offers : List Offer} {limit : ℕ} {w : State G F}
    → Reaches z among again v m n offers limit w → CanRelease z among again m n offers w
reached x = x.can

le-refl : last_round ≤ last_round
le-refl = omega arith

pub circuit_is_never_stuck : {D G F : Type 0} → CircuitIsNeverStuck D G F
circuit_is_never_stuck z fit w h among v n can at_v number m entry slugs member in_it fits sets speaks =
    let final : List Offer = w.offers ++ record { member = m; number = n; entry = entry } ∷ [] in
    let to : CanRelease z among (λ k. k == m) m n final w = reached (leads_on z fit among (λ k. k == m) v m n final (λ t. (t ≡ entry) ⊎ WasOffered w n t) speaks last_round le-refl number member can.many in_it
    w.offers (Some entry) (by_offer z v m n w.offers (λ t. (t ≡ entry) ⊎ WasOffered w n t) entry slugs number fits sets (inl refl)) (λ j. ⊥)
    (inl (entry, refl)) (eq-eqb m m refl)
    w (record { history = h; offered = λ t o. inr o }) refl (λ j none. absurd none) (able can at_v)) in
    (to, same_entry h to)

pub busy_need_not_restart : {D G F : Type 0} → BusyNeedNotRestart D G F
busy_need_not_restart z fit w h among v n can at_v number m entry slugs member in_it fits sets speaks going unreleased rounds =
    let final : List Offer = w.offers ++ record { member = m; number = n; entry = entry } ∷ [] in
    let to : CanRelease z among (λ k. false) m n final w = reached (leads_busily z fit among (λ k. false) v m n final (λ t. (t ≡ entry) ⊎ WasOffered w n t) speaks last_round le-refl number member can.many in_it
    w.offers (Some entry) (by_offer z v m n w.offers (λ t. (t ≡ entry) ⊎ WasOffered w n t) entry slugs number fits sets (inl refl)) (entry, refl)
    w (record { history = h; offered = λ t o. inr o }) refl (able can at_v) going unreleased (λ o e. room (rounds o e))) in
    (to, same_entry h to)
  where
    below : (a : ℕ) → a + suc most_ballots ≤ last_round → a + most_ballots < last_round
    below a l = omega arith

    room : HasRoundsToGiveUp w m n → (round_of (w.rows m n).promised + most_ballots < last_round) × (round_of (denied n (w.marks m)) + most_ballots < last_round)
    room r = (below (round_of (w.rows m n).promised) r.above_promise, below (round_of (denied n (w.marks m))) r.above_denial)

none_some : {A : Type 0} {x : A} → None ≡ Some x → ⊥
none_some e = cc

-- so where n is not open, and where no number is
pub running_need_not_restart : {D G F : Type 0} → RunningNeedNotRestart D G F
running_need_not_restart z fit w h among v n can at_v number m entry slugs member in_it fits sets speaks going unopened unreleased highest =
    busy_need_not_restart z fit w h among v n can at_v number m entry slugs member in_it fits sets speaks going unreleased
    (λ o e. absurd (none_some (sym unopened ∙ e)))

pub denied_need_not_restart : {D G F : Type 0} → DeniedNeedNotRestart D G F
denied_need_not_restart z fit w h among v n can at_v number m entry slugs member in_it fits sets speaks going unopened unreleased =
    busy_need_not_restart z fit w h among v n can at_v number m entry slugs member in_it fits sets speaks going unreleased
    (λ o e. absurd (none_some (sym (unopened n) ∙ e)))

pub chosen_is_found : {D G F : Type 0} → ChosenIsFound D G F
chosen_is_found z fit w h among v n can at_v number m member in_it t chosen speaks =
    let to : CanRelease z among (λ k. k == m) m n w.offers w = reached (leads_on z fit among (λ k. k == m) v m n w.offers (λ u. WasOffered w n u) speaks last_round le-refl number member can.many in_it
    w.offers None (by_search z v m n w.offers (λ u. WasOffered w n u) number) (λ j. WasVoted h j n chosen.0 t) (inr chosen.1) (eq-eqb m m refl)
    w (record { history = h; offered = λ u o. o }) refl (λ j voted. has_vote j voted) (able can at_v)) in
    (to, same_entry h to t chosen)
  where
    has_vote : (j : ℕ) → WasVoted h j n chosen.0 t → (u : Vote) × ((w.rows j n).vote ≡ Some u)
    has_vote j voted = let x = (history_sound h).sound.last j n chosen.0 t voted in (x.0, x.1)

-- members at version 1 that have gone over
record Crossed {D G F : Type 0} {z : Circuit D G F} {w : State G F} (h : History z w) (among : ℕ → Bool) (n : ℕ) : Type 0 where
  over : State G F
  goes : LeadsByUpgrades z among over w
  later : Later h over
  can : CanServe z over among n
  at_two : AreAt z over among Two
  releases : over.releases ≡ w.releases
  offers : over.offers ≡ w.offers

crosses :
    {D G F : Type 0} (z : Circuit D G F) (among : ℕ → Bool) (n : ℕ) (rest : List ℕ) (w : State G F) (h : History z w) → CanServe z w among n
    → ((k : ℕ) → IsAmong rest k → IsMember z.count k)
    → ((k : ℕ) → IsMember z.count k → among k ≡ true → (w.version k ≡ Two) ⊎ IsAmong rest k) → Crossed h among n
crosses z among n [] w h can inside left = record {
  over = w;
  goes = are_upgraded refl;
  later = record { history = h; stays = λ m i b t x. x };
  can = can;
  at_two = λ k i e. elim (left k i e) [ inl t ↦ t | inr none ↦ absurd none ];
  releases = refl;
  offers = refl;
}
crosses {D = D} {G = G} {F = F} z among n (k ∷ rest) w h can inside left =
    go (among k) refl (w.version k) refl (λ left. crosses z among n rest w h can (λ j i. inside j (inr i)) left)
    (λ g can left. crosses z among n rest after g can (λ j i. inside j (inr i)) left)
  where
    after : State G F
    after = record w { version = with_at w.version k Two; marks = with_at w.marks k []; is_stopped = with_at w.is_stopped k false }

    skips : ((j : ℕ) → j ≡ k → among j ≡ true → w.version j ≡ Two) → (j : ℕ) → IsMember z.count j → among j ≡ true → (w.version j ≡ Two) ⊎ IsAmong rest j
    skips f j i e = elim (left j i e) [ inl t ↦ inl t | inr x ↦ elim x [ inl it ↦ inl (f j it e) | inr y ↦ inr y ] ]

    step : among k ≡ true → StepsTo z w (Upgrades k) Upgraded after
    step e = upgrades k (inside k (inl refl)) refl refl (can.unarmed k (inside k (inl refl)) e) (same after)

    left_after : (j : ℕ) → IsMember z.count j → among j ≡ true → (after.version j ≡ Two) ⊎ IsAmong rest j
    left_after j i e = at (j == k) refl
      where
        at : (b : Bool) → (j == k) ≡ b → (with_at w.version k Two j ≡ Two) ⊎ IsAmong rest j
        at true f = inl (rw f refl)
        at false f = elim (left j i e) [ inl t ↦ inl (rw f t) | inr x ↦ elim x [ inl it ↦ absurd (eqb-false j k f it) | inr y ↦ inr y ] ]

    on : (e : among k ≡ true) → Crossed (goes_on h (Upgrades k) Upgraded (step e)) among n → Crossed h among n
    on e c = record {
      over = c.over;
      goes = upgrades_one k e (step e) c.goes;
      later = record { history = c.later.history; stays = λ m i b t x. c.later.stays m i b t (inr x) };
      can = c.can;
      at_two = c.at_two;
      releases = c.releases;
      offers = c.offers;
    }

    go : (s : Bool) → among k ≡ s → (u : Version) → w.version k ≡ u
        → (((j : ℕ) → IsMember z.count j → among j ≡ true → (w.version j ≡ Two) ⊎ IsAmong rest j) → Crossed h among n)
        → ((g : History z after) → CanServe z after among n → ((j : ℕ) → IsMember z.count j → among j ≡ true → (after.version j ≡ Two) ⊎ IsAmong rest j) → Crossed g among n)
        → Crossed h among n
    go false e u f skip cross = skip (skips (λ j it x. absurd (yes_no (among k) e (subst (λ (q : ℕ). among q ≡ true) it x))))
    go true e Two f skip cross = skip (skips (λ j it x. subst (λ (q : ℕ). w.version q ≡ Two) (sym it) f))
    go true e One f skip cross =
        on e (cross (goes_on h (Upgrades k) Upgraded (step e)) (record { many = can.many; unarmed = can.unarmed; rounds = can.rounds }) left_after)

pub half_an_upgrade_is_no_dead_end : {D G F : Type 0} → HalfAnUpgradeIsNoDeadEnd D G F
half_an_upgrade_is_no_dead_end {D = D} {G = G} {F = F} z fit w h among n can number m entry slugs member in_it sets speaks =
    let c : Crossed h among n = crosses z among n (members z.count) w h can (λ k i. among_members z.count k i) (λ k i e. inr (member_among z.count k i)) in
    let final : List Offer = w.offers ++ record { member = m; number = n; entry = entry } ∷ [] in
    let to : CanRelease z among (λ k. k == m) m n final c.over = reached (leads_on z fit among (λ k. k == m) Two m n final (λ t. (t ≡ entry) ⊎ WasOffered w n t) speaks last_round le-refl number member can.many in_it
    w.offers (Some entry) (by_offer z Two m n w.offers (λ t. (t ≡ entry) ⊎ WasOffered w n t) entry slugs number refl sets (inl refl)) (λ j. ⊥)
    (inl (entry, refl)) (eq-eqb m m refl)
    c.over (record { history = c.later.history; offered = λ t o. inr (o.0, subst (λ (l : List Offer). IsAmong l (record { member = o.0; number = n; entry = t })) c.offers o.1) })
    c.offers (λ j none. absurd none) (able c.can c.at_two)) in
    (c.over, c.goes, c.releases, to, λ t x. same_entry c.later.history to t (x.0, weaker (λ k i y. c.later.stays k n x.0 t y) x.1))
