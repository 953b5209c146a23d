-- For every plant, not for one: after the release of one member each other one of the set searches, and releases what was chosen.
use Rattle.std.proofs.Common.{◌≡◌, ℕ, zero, suc, ◌+◌, ◌-◌, ◌*◌, ◌<◌, ◌≤◌, ◌⊎◌, inl, inr, refl, sym, ap, subst, ◌∙◌, arith, List, [], ◌∷◌, ◌++◌, Some, None, append_assoc, Bool, true, false}
use Rattle.std.specs.Prelude.{length, count_by}
use Rattle.protocol.specs.Limits.{is_number}
use Rattle.protocol.specs.Lists.{IsAmong}
use Rattle.protocol.specs.Ballots.{last_round, IsMember, members}
use Rattle.protocol.specs.Entries.{Entry}
use Rattle.protocol.specs.Rows.{Vote}
use Rattle.protocol.specs.Versions.{Version, fits}
use Rattle.protocol.specs.Circuit.{Circuit, Offer, Release, State, History}
use Rattle.protocol.specs.Agreement.{WasVoted, WasOffered, IsChosen}
use Rattle.protocol.specs.Fitting.{SpellsWhatFits}
use Rattle.protocol.specs.Progress.{Leads, is_there, takes_turn, starts_again, release_of, round_of, CanRelease, SpellsWhatMayBeSaid, EveryMemberReleases}
use Rattle.protocol_laws.proofs.Places.{among-append, among_left, among_right}
use Rattle.protocol_laws.proofs.Majorities.{weaker, among_members}
use Rattle.protocol_laws.proofs.Steps.{history_sound}
use Rattle.protocol_laws.proofs.Replying.{member_among, yes_no}
use Rattle.protocol_laws.proofs.OneStep.{Serves, Reaches}
use Rattle.protocol_laws.proofs.Waking.{by_offer, by_search}
use Rattle.protocol_laws.proofs.Denial.{leads_on}
use Rattle.protocol_laws.proofs.Progress.{Later, follow, same_entry}
use Rattle.protocol_laws.proofs.Agreements.{releases_are_chosen, histories_agree}

-- one way after the other
leads_further :
    {D G F : Type 0} {z : Circuit D G F} {among again : ℕ → Bool} {between after w : State G F} → Leads z among again between w
    → Leads z among again after between → Leads z among again after w
leads_further {G = G} {F = F} {z = z} {among = among} {again = again} {after = after} (is_there e) rest =
    subst (λ (x : State G F). Leads z among again after x) (sym e) rest
leads_further (takes_turn s k call note task in_it st on) rest = takes_turn s k call note task in_it st (leads_further on rest)
leads_further (starts_again k in_it why st on) rest = starts_again k in_it why st (leads_further on rest)

-- there are as many members as there are
members_are : (c : ℕ) → length (members c) ≡ c
members_are zero = refl
members_are (suc c) =
    let e : length (members c ++ suc c ∷ []) ≡ suc (length (members c)) = length_more (members c) (suc c) in
    e ∙ ap suc (members_are c)
  where
    length_more : (xs : List ℕ) (x : ℕ) → length (xs ++ x ∷ []) ≡ suc (length xs)
    length_more [] x = refl
    length_more (y ∷ xs) x = ap suc (length_more xs x)

module _
    {D G F : Type 0} (z : Circuit D G F) (fit : SpellsWhatFits z) (among : ℕ → Bool) (v : Version) (n : ℕ) (final : List Offer)
    (entries : Entry → Type 0) (speaks : SpellsWhatMayBeSaid z v entries)
    (number : is_number n ≡ true) (many : z.count < 2 * count_by among (members z.count)) (chosen : Entry) where
  -- the set serves below a limit, and the entry is chosen
  record Served (limit : ℕ) (w : State G F) : Type 0 where
    history : History z w
    offered : (t : Entry) → WasOffered w n t → entries t
    offers : w.offers ≡ final
    serves : Serves z among v n limit w
    is_chosen : IsChosen history n chosen

  -- from there each member in the list that is of the set comes to release it
  record Spread (rest : List ℕ) (w : State G F) : Type 0 where
    after : State G F
    leads : Leads z among (λ k. true) after w
    on_the_way : List (Release G F)
    are_theirs : (x : Release G F) → IsAmong on_the_way x → (among x.member ≡ true) × (x.number ≡ n)
    each : (k : ℕ) → IsAmong rest k → among k ≡ true → IsAmong on_the_way (release_of z k n chosen)
    released : after.releases ≡ w.releases ++ on_the_way
    offers_are : after.offers ≡ final

  spreads :
      (rest : List ℕ) (limit : ℕ) → limit + length rest ≤ last_round → ((k : ℕ) → IsAmong rest k → IsMember z.count k)
      → (w : State G F) → Served limit w → Spread rest w
  spreads [] limit left inside w g = record {
    after = w;
    leads = is_there refl;
    on_the_way = [];
    are_theirs = λ x i. absurd i;
    each = λ k i. absurd i;
    released = sym (nothing w.releases);
    offers_are = g.offers;
  }
    where
      nothing : {A : Type 0} (xs : List A) → xs ++ [] ≡ xs
      nothing [] = refl
      nothing (x ∷ xs) = ap (λ l. x ∷ l) (nothing xs)
  spreads (k ∷ rest) limit left inside w g = go (among k) refl (λ next room after h. spreads rest next room (λ j i. inside j (inr i)) after h)
    where
      go : (t : Bool) → among k ≡ t
          → ((next : ℕ) → next + length rest ≤ last_round → (after : State G F) → Served next after → Spread rest after) → Spread (k ∷ rest) w
      go false e on =
          let s = on limit (less limit (length rest) left) w g in
          record {
            after = s.after;
            leads = s.leads;
            on_the_way = s.on_the_way;
            are_theirs = s.are_theirs;
            each = λ j i f. elim i [ inl same ↦ absurd (yes_no (among k) e (subst (λ (x : ℕ). among x ≡ true) same f)) | inr x ↦ s.each j x f ];
            released = s.released;
            offers_are = s.offers_are;
          }
        where
          less : (a b : ℕ) → a + suc b ≤ last_round → a + b ≤ last_round
          less a b l = omega arith
      go true e on =
          let s = on (suc limit) (more limit (length rest) left) to.after (record {
            history = l.history;
            offered = λ t o.
                g.offered t (subst (λ (x : List Offer). (j : ℕ) × IsAmong x (record { member = j; number = n; entry = t })) (to.offers_are ∙ sym g.offers) o);
            offers = to.offers_are;
            serves = found.serves;
            is_chosen = (g.is_chosen.0, weaker (λ j i x. l.stays j n g.is_chosen.0 chosen x) g.is_chosen.1);
          }) in
          record {
            after = s.after;
            leads = leads_further to.leads s.leads;
            on_the_way = (to.on_the_way ++ release_of z k n to.entry ∷ []) ++ s.on_the_way;
            are_theirs = λ x i.
                elim (among-append (to.on_the_way ++ release_of z k n to.entry ∷ []) s.on_the_way x i) [ inl a ↦ theirs x a | inr a ↦ s.are_theirs x a ];
            each = λ j i f. elim i [
              | inl same ↦ subst (λ (x : ℕ). IsAmong ((to.on_the_way ++ release_of z k n to.entry ∷ []) ++ s.on_the_way) (release_of z x n chosen)) (sym same)
                  (subst (λ (t : Entry). IsAmong ((to.on_the_way ++ release_of z k n to.entry ∷ []) ++ s.on_the_way) (release_of z k n t)) is
                  (among_left (to.on_the_way ++ release_of z k n to.entry ∷ []) s.on_the_way (release_of z k n to.entry)
                  (among_right to.on_the_way (release_of z k n to.entry ∷ []) (release_of z k n to.entry) (inl refl))))
              | inr x ↦ among_right (to.on_the_way ++ release_of z k n to.entry ∷ []) s.on_the_way (release_of z j n chosen) (s.each j x f)
            ];
            released =
                s.released
                ∙ ap (λ (x : List (Release G F)). x ++ s.on_the_way) (to.released ∙ append_assoc w.releases to.on_the_way (release_of z k n to.entry ∷ []))
                ∙ append_assoc w.releases (to.on_the_way ++ release_of z k n to.entry ∷ []) s.on_the_way;
            offers_are = s.offers_are;
          }
        where
          member : IsMember z.count k
          member = inside k (inl refl)

          more : (a b : ℕ) → a + suc b ≤ last_round → suc a + b ≤ last_round
          more a b l = omega arith

          room : (a b : ℕ) → a + suc b ≤ last_round → suc a ≤ last_round
          room a b l = omega arith

          has_vote : (j : ℕ) → WasVoted g.history j n g.is_chosen.0 chosen → (u : Vote) × ((w.rows j n).vote ≡ Some u)
          has_vote j voted = let x = (history_sound g.history).sound.last j n g.is_chosen.0 chosen voted in (x.0, x.1)

          found : Reaches z among (λ j. true) v k n final (suc limit) w
          found =
              leads_on z fit among (λ j. true) v k n final entries speaks (suc limit) (room limit (length rest) left) number member many e
              final None (by_search z v k n final entries number) (λ j. WasVoted g.history j n g.is_chosen.0 chosen) (inr g.is_chosen.1) refl
              w (record { history = g.history; offered = g.offered }) g.offers has_vote
              (record { version = g.serves.version; unarmed = g.serves.unarmed; rounds = λ j i f. under (g.serves.rounds j i f) })
            where
              under : {a b : ℕ} → a ≤ b → a < suc b
              under l = omega arith

          to : CanRelease z among (λ j. true) k n final w
          to = found.can

          l : Later g.history to.after
          l = follow to.leads g.history

          is : to.entry ≡ chosen
          is = same_entry g.history to chosen g.is_chosen

          theirs : (x : Release G F) → IsAmong (to.on_the_way ++ release_of z k n to.entry ∷ []) x → (among x.member ≡ true) × (x.number ≡ n)
          theirs x i = elim (among-append to.on_the_way (release_of z k n to.entry ∷ []) x i) [
            | inl a ↦ to.are_theirs x a
            | inr a ↦ elim a [
              | inl same ↦ subst (λ (y : Release G F). (among y.member ≡ true) × (y.number ≡ n)) (sym same) (e, refl)
              | inr none ↦ absurd none
            ]
          ]

pub every_member_releases : {D G F : Type 0} → EveryMemberReleases D G F
every_member_releases {D = D} {G = G} {F = F} z fit w h among v n can left at_v number m entry slugs member in_it fits sets speaks = (
  record {
    after = s.after;
    leads = leads;
    entry = to.entry;
    on_the_way = (to.on_the_way ++ released ∷ []) ++ s.on_the_way;
    are_theirs = λ x i. let t = theirs x i in (t.0, t.1, one x i t.1);
    each = λ k i e. among_right (to.on_the_way ++ released ∷ []) s.on_the_way (release_of z k n to.entry) (s.each k (member_among z.count k i) e);
    released = are;
    offers_are = s.offers_are;
  },
  same_entry h to,
)
  where
    Entries : Entry → Type 0
    Entries t = (t ≡ entry) ⊎ WasOffered w n t

    final : List Offer
    final = w.offers ++ record { member = m; number = n; entry = entry } ∷ []

    limit : ℕ
    limit = last_round - z.count

    high : limit ≤ last_round
    high = omega arith

    below : (r c : ℕ) → r + suc c ≤ last_round → r < last_round - c
    below r c l = omega arith

    room : (r c : ℕ) → r + suc c ≤ last_round → (last_round - c) + c ≤ last_round
    room r c l = omega arith

    first : Reaches z among (λ j. true) v m n final limit w
    first =
        leads_on z fit among (λ j. true) v m n final Entries speaks limit high number member can.many in_it
        w.offers (Some entry) (by_offer z v m n w.offers Entries entry slugs number fits sets (inl refl)) (λ j. ⊥) (inl (entry, refl)) refl
        w (record { history = h; offered = λ t o. inr o }) refl (λ j none. absurd none)
        (record { version = at_v; unarmed = can.unarmed; rounds = λ k i e. below (round_of (w.rows k n).promised) z.count (left k i e) })

    to : CanRelease z among (λ j. true) m n final w
    to = first.can

    released : Release G F
    released = release_of z m n to.entry

    l : Later h to.after
    l = follow to.leads h

    offered : (t : Entry) → WasOffered to.after n t → Entries t
    offered t (k, i) =
        elim (among-append w.offers (record { member = m; number = n; entry = entry } ∷ []) (record { member = k; number = n; entry = t })
        (subst (λ (x : List Offer). IsAmong x (record { member = k; number = n; entry = t })) to.offers_are i)) [
          | inl x ↦ inr (k, x)
          | inr x ↦ elim x [ inl e ↦ inl (ap (λ (o : Offer). o.entry) e) | inr none ↦ absurd none ]
        ]

    s : Spread z fit among v n final Entries speaks number can.many to.entry (members z.count) to.after
    s =
        spreads z fit among v n final Entries speaks number can.many to.entry (members z.count) limit
        (subst (λ (c : ℕ). limit + c ≤ last_round) (sym (members_are z.count)) (room (round_of (w.rows m n).promised) z.count (left m member in_it)))
        (λ k i. among_members z.count k i) to.after
        (record {
          history = l.history;
          offered = offered;
          offers = to.offers_are;
          serves = first.serves;
          is_chosen = releases_are_chosen z to.after l.history released
              (subst (λ (q : List (Release G F)). IsAmong q released) (sym to.released) (among_right (w.releases ++ to.on_the_way) (released ∷ []) released (inl refl)));
        })

    leads : Leads z among (λ j. true) s.after w
    leads = leads_further to.leads s.leads

    are : s.after.releases ≡ w.releases ++ ((to.on_the_way ++ released ∷ []) ++ s.on_the_way)
    are =
        s.released ∙ ap (λ (x : List (Release G F)). x ++ s.on_the_way) (to.released ∙ append_assoc w.releases to.on_the_way (released ∷ []))
        ∙ append_assoc w.releases (to.on_the_way ++ released ∷ []) s.on_the_way

    theirs : (x : Release G F) → IsAmong ((to.on_the_way ++ released ∷ []) ++ s.on_the_way) x → (among x.member ≡ true) × (x.number ≡ n)
    theirs x i = elim (among-append (to.on_the_way ++ released ∷ []) s.on_the_way x i) [
      | inl a ↦ elim (among-append to.on_the_way (released ∷ []) x a) [
        | inl b ↦ to.are_theirs x b
        | inr b ↦ elim b [ inl same ↦ subst (λ (y : Release G F). (among y.member ≡ true) × (y.number ≡ n)) (sym same) (in_it, refl) | inr none ↦ absurd none ]
      ]
      | inr a ↦ s.are_theirs x a
    ]

    -- no two releases of n differ
    one : (x : Release G F) → IsAmong ((to.on_the_way ++ released ∷ []) ++ s.on_the_way) x → x.number ≡ n → x.entry ≡ to.entry
    one x i e =
        (histories_agree z s.after (follow leads h).history).one x released
        (subst (λ (q : List (Release G F)). IsAmong q x) (sym are) (among_right w.releases ((to.on_the_way ++ released ∷ []) ++ s.on_the_way) x i))
        (subst (λ (q : List (Release G F)). IsAmong q released) (sym are)
        (among_right w.releases ((to.on_the_way ++ released ∷ []) ++ s.on_the_way) released
        (among_left (to.on_the_way ++ released ∷ []) s.on_the_way released (among_right to.on_the_way (released ∷ []) released (inl refl)))))
        e
