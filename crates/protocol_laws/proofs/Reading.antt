-- What is read from marks is what the relations say.
use Rattle.std.proofs.Common.{◌≡◌, ℕ, zero, suc, ◌*◌, ◌<◌, ◌≤◌, ◌⊎◌, inl, inr, refl, sym, ap, subst, ◌∙◌, arith, List, [], ◌∷◌, ◌++◌, Option, Some, None, Bool, true, false, cond}
use Rattle.std.specs.Prelude.{◌==◌, ◌||◌, ◌&&◌, nat_lt, filter_map, find, count_by}
use Rattle.std.proofs.lemmas.Bool.{eqb-true, eq-eqb, ltb-true, ltb-false}
use Rattle.std.proofs.lemmas.Bool.Decides.{nat_tests}
use Rattle.protocol.specs.Ballots.{Ballot, IsBelow, IsAtMost, IsMember, Majority, members, is_same, is_below, is_majority}
use Rattle.protocol.specs.Entries.{Entry}
use Rattle.protocol.specs.Rows.{Vote}
use Rattle.protocol.specs.Lists.{has, until, or_else, first, greatest, IsAmong}
use Rattle.protocol.specs.Marks.{Mark, Began, Promised, Proposed, Denied, Heard, Closed, Released, begins, closes, releases, proposes}
use Rattle.protocol.specs.Readings.{IsReleased, IsOpen, Gathers, IsCounted, Picks, the_reported, the_own, Latest, Ripe, GreatestDenied, undenied, denied_by, LastMoved, at_begin, at_propose}
use Rattle.protocol.specs.Proposals.{since_first, Opening, opening_of, was_released, since_began, open_proposal, where_at, proposal_at, gathering_at, Counted, promise_of, counted, is_counted, vote_above, reports_above, pick, denial_of, denied, moment_of, moved}
use Rattle.protocol.specs.Learner.{vote_of, latest, votes_at, ripe}
use Rattle.protocol_laws.proofs.Below.{same_ballot, at_most_refl, below_weaken, below_trans, at_most_below, at_most_otherwise, both_at_most}
use Rattle.std.proofs.lemmas.List.Elements.{filter_map-append}
use Rattle.protocol_laws.proofs.Places.{among-append, among_split}
use Rattle.protocol_laws.proofs.Majorities.{one_more, among_members}
use Rattle.protocol_laws.proofs.Looking.{has_one, among_has, has_none, among_filter_map, filter_map_among, IsOrder, IsTop, greatest_top, greatest_none, first_splits, first_none, first_at, Stands, greatest_stands, find_append}

-- tests of ballots

pub is_same-true : (a b : Ballot) → is_same a b ≡ true → a ≡ b
is_same-true a b e = grind (arith, nat_tests, same_ballot)

pub is_same-self : (a b : Ballot) → a ≡ b → is_same a b ≡ true
is_same-self a b e = grind (arith, nat_tests)

pub is_below-true : (a b : Ballot) → is_below a b ≡ true → IsBelow a b
is_below-true a b e = grind (arith, nat_tests)

pub below-is : (a b : Ballot) → IsBelow a b → is_below a b ≡ true
below-is a b e = grind (arith, nat_tests)

pub is_below-false : (a b : Ballot) → is_below a b ≡ false → IsAtMost b a
is_below-false a b e = grind (arith, nat_tests)

impossible : false ≡ true → ⊥
impossible e = cc

-- kinds of marks

pub is_began : (n : ℕ) (x : Mark) → begins n x ≡ true → (b : Ballot) × (o : Option Entry) × (r : Option Vote) × (i : ℕ) × (x ≡ Began n b o r i)
is_began n (Began k b o r i) e = (b, o, r, i, ap (λ j. Began j b o r i) (eqb-true k n e))
is_began n (Promised k m b r) e = absurd (impossible e)
is_began n (Proposed k b i) e = absurd (impossible e)
is_began n (Denied k p) e = absurd (impossible e)
is_began n (Heard k m b t) e = absurd (impossible e)
is_began n (Closed k) e = absurd (impossible e)
is_began n (Released k t) e = absurd (impossible e)

pub is_closed : (n : ℕ) (x : Mark) → closes n x ≡ true → x ≡ Closed n
is_closed n (Closed k) e = ap Closed (eqb-true k n e)
is_closed n (Began k b o r i) e = absurd (impossible e)
is_closed n (Promised k m b r) e = absurd (impossible e)
is_closed n (Proposed k b i) e = absurd (impossible e)
is_closed n (Denied k p) e = absurd (impossible e)
is_closed n (Heard k m b t) e = absurd (impossible e)
is_closed n (Released k t) e = absurd (impossible e)

pub is_released : (n : ℕ) (x : Mark) → releases n x ≡ true → (t : Entry) × (x ≡ Released n t)
is_released n (Released k t) e = (t, ap (λ j. Released j t) (eqb-true k n e))
is_released n (Began k b o r i) e = absurd (impossible e)
is_released n (Promised k m b r) e = absurd (impossible e)
is_released n (Proposed k b i) e = absurd (impossible e)
is_released n (Denied k p) e = absurd (impossible e)
is_released n (Heard k m b t) e = absurd (impossible e)
is_released n (Closed k) e = absurd (impossible e)

both_true : (p q : Bool) → (p && q) ≡ true → (p ≡ true) × (q ≡ true)
both_true true q e = (refl, e)
both_true false q e = absurd (impossible e)

pub is_proposed : (n : ℕ) (b : Ballot) (x : Mark) → proposes n b x ≡ true → (i : ℕ) × (x ≡ Proposed n b i)
is_proposed n b (Proposed k a i) e = let (f, g) = both_true (k == n) (is_same a b) e in (i, ap (λ j. Proposed j a i) (eqb-true k n f) ∙ ap (λ c. Proposed n c i) (is_same-true a b g))
is_proposed n b (Began k a o r i) e = absurd (impossible e)
is_proposed n b (Promised k m a r) e = absurd (impossible e)
is_proposed n b (Denied k p) e = absurd (impossible e)
is_proposed n b (Heard k m a t) e = absurd (impossible e)
is_proposed n b (Closed k) e = absurd (impossible e)
is_proposed n b (Released k t) e = absurd (impossible e)

self : (n : ℕ) → (n == n) ≡ true
self n = eq-eqb n n refl

same : (b : Ballot) → is_same b b ≡ true
same b = is_same-self b b refl

-- released

pub released_is : (n : ℕ) (marks : List Mark) → was_released n marks ≡ true → IsReleased marks n
released_is n marks e = let (x, i, f) = has_one (releases n) marks e in let (t, g) = is_released n x f in (t, subst (λ (y : Mark). IsAmong marks y) g i)

pub unreleased_is : (n : ℕ) (marks : List Mark) → was_released n marks ≡ false → ¬ IsReleased marks n
unreleased_is n marks e r = impossible (sym e ∙ among_has (releases n) marks (Released n r.0) r.1 (self n))

pub is_unreleased : (n : ℕ) (marks : List Mark) → ¬ IsReleased marks n → was_released n marks ≡ false
is_unreleased n marks h = has_none (releases n) marks (λ x i e. let (t, g) = is_released n x e in h (t, subst (λ (y : Mark). IsAmong marks y) g i))

-- the open proposal

opening_silent : (n : ℕ) (x : Mark) → opening_of n x ≡ None → begins n x ≡ false
opening_silent n (Began k b o r i) e = go (k == n) refl
  where
    go : (t : Bool) → (k == n) ≡ t → (k == n) ≡ false
    go true t =
        let p : Opening = record { ballot = b; own = o; report = r; now = i } in
        let f : Some p ≡ None = rw t at e in
        cc
    go false t = t
opening_silent n (Promised k m b r) e = refl
opening_silent n (Proposed k b i) e = refl
opening_silent n (Denied k p) e = refl
opening_silent n (Heard k m b t) e = refl
opening_silent n (Closed k) e = refl
opening_silent n (Released k t) e = refl

abbrev began_as : ℕ → Opening → Mark
began_as n p = Began n p.ballot p.own p.report p.now

opening_speaks : (n : ℕ) (x : Mark) (p : Opening) → opening_of n x ≡ Some p → x ≡ began_as n p
opening_speaks n (Began k b o r i) p e = go (k == n) refl
  where
    go : (t : Bool) → (k == n) ≡ t → Began k b o r i ≡ began_as n p
    go true t =
        let f : Some (record { ballot = b; own = o; report = r; now = i }) ≡ Some p = rw t at e in
        let g : p ≡ record { ballot = b; own = o; report = r; now = i } = cc in
        ap (λ j. Began j b o r i) (eqb-true k n t) ∙ sym (ap (began_as n) g)
    go false t = let f : None ≡ Some p = rw t at e in cc
opening_speaks n (Promised k m b r) p e = cc
opening_speaks n (Proposed k b i) p e = cc
opening_speaks n (Denied k q) p e = cc
opening_speaks n (Heard k m b t) p e = cc
opening_speaks n (Closed k) p e = cc
opening_speaks n (Released k t) p e = cc

opening_began : (n : ℕ) (x : Mark) (p : Opening) → opening_of n x ≡ Some p → begins n x ≡ true
opening_began n x p e = subst (λ (y : Mark). begins n y ≡ true) (sym (opening_speaks n x p e)) (self n)

opening_unbegun : (n : ℕ) (x : Mark) → begins n x ≡ false → opening_of n x ≡ None
opening_unbegun n (Began k b o r i) e = rw e refl
opening_unbegun n (Promised k m b r) e = refl
opening_unbegun n (Proposed k b i) e = refl
opening_unbegun n (Denied k p) e = refl
opening_unbegun n (Heard k m b t) e = refl
opening_unbegun n (Closed k) e = refl
opening_unbegun n (Released k t) e = refl

neither : (p q : Bool) → (p || q) ≡ false → (p ≡ false) × (q ≡ false)
neither true q e = let f : true ≡ false = e in cc
neither false q e = (refl, e)

until_none : (p : Mark → Bool) (xs : List Mark) (x : Mark) → IsAmong (until p xs) x → p x ≡ true → ⊥
until_none p [] x i e = i
until_none p (y ∷ xs) x i e = go (p y) refl (λ j. until_none p xs x j e)
  where
    go : (b : Bool) → p y ≡ b → (IsAmong (until p xs) x → ⊥) → ⊥
    go true t rest = let j : ⊥ = rw t at i in j
    go false t rest = elim (rw t at i) as (λ _. ⊥) [ inl f ↦ impossible (sym t ∙ subst (λ (z : Mark). p z ≡ true) f e) | inr j ↦ rest j ]

-- the open proposal that is read is open, and began when it says
pub record OpenAs (marks : List Mark) (n : ℕ) (p : Opening) : Type 0 where
  pub is_open : IsOpen marks n p.ballot p.own p.report (since_began n marks)
  pub now : is_open.now ≡ p.now

pub open_is : (n : ℕ) (marks : List Mark) (p : Opening) → open_proposal n marks ≡ Some p → OpenAs marks n p
open_is n marks p e = go (was_released n marks || has (closes n) (since_began n marks)) refl
  where
    go : (b : Bool) → (was_released n marks || has (closes n) (since_began n marks)) ≡ b → OpenAs marks n p
    go true t = let f : None ≡ Some p = rw t at e in cc
    go false t =
        let f : first (opening_of n) marks ≡ Some p = rw t at e in
        let (x, before, g, k) = first_splits (opening_of n) (begins n) (opening_silent n) (opening_began n) marks p f in
        let (u, v) = neither (was_released n marks) (has (closes n) (since_began n marks)) t in
        record {
          is_open = record {
            now = p.now;
            before = before;
            began = k ∙ ap (λ (y : Mark). since_began n marks ++ y ∷ before) (opening_speaks n x p g);
            is_last = λ a o r i j. until_none (begins n) marks (Began n a o r i) j (self n);
            is_unclosed = λ j. impossible (sym v ∙ among_has (closes n) (since_began n marks) (Closed n) j (self n));
            is_unreleased = unreleased_is n marks u;
          };
          now = refl;
        }

-- and each open one is read
pub record ReadAs (marks : List Mark) (n : ℕ) (p : Opening) (since : List Mark) : Type 0 where
  pub read : open_proposal n marks ≡ Some p
  pub since_is : since_began n marks ≡ since

pub open_read : (n : ℕ) (marks : List Mark) (b : Ballot) (o : Option Entry) (r : Option Vote) (since : List Mark) (h : IsOpen marks n b o r since) → ReadAs marks n (record { ballot = b; own = o; report = r; now = h.now }) since
open_read n marks b o r since h =
    let p : Opening = record { ballot = b; own = o; report = r; now = h.now } in
    let f : (first (opening_of n) (since ++ Began n b o r h.now ∷ h.before) ≡ Some p) × (until (begins n) (since ++ Began n b o r h.now ∷ h.before) ≡ since) =
    first_at (opening_of n) (begins n) (opening_began n) (opening_unbegun n) since h.before (Began n b o r h.now) p (let t : (n == n) ≡ true = self n in rw t refl)
    (λ z i t. let (a, q, s, k, g) = is_began n z t in h.is_last a q s k (subst (λ (y : Mark). IsAmong since y) g i)) in
    let k : since_began n marks ≡ since = ap (until (begins n)) h.began ∙ f.1 in
    let u : was_released n marks ≡ false = is_unreleased n marks h.is_unreleased in
    let v : has (closes n) since ≡ false = has_none (closes n) since (λ x i e. h.is_unclosed (subst (λ (y : Mark). IsAmong since y) (is_closed n x e) i)) in
    record { read = rw (u, k, v) (ap (first (opening_of n)) h.began ∙ f.0); since_is = k }

none_some : {B : Type 0} {b : B} → None ≡ Some b → ⊥
none_some e = cc

some_none : {B : Type 0} {b : B} → Some b ≡ None → ⊥
some_none e = cc

pub where_is : (b : Ballot) (r : Option Opening) (p : Opening) → where_at b r ≡ Some p → (r ≡ Some p) × (p.ballot ≡ b)
where_is b None p e = absurd (none_some e)
where_is b (Some q) p e = go (is_same q.ballot b) refl
  where
    go : (t : Bool) → is_same q.ballot b ≡ t → (Some q ≡ Some p) × (p.ballot ≡ b)
    go true t = let f : Some q ≡ Some p = rw t at e in let g : p ≡ q = cc in (f, ap (λ (x : Opening). x.ballot) g ∙ is_same-true q.ballot b t)
    go false t = let f : None ≡ Some p = rw t at e in absurd (none_some f)

pub proposal_is : (n : ℕ) (b : Ballot) (marks : List Mark) (p : Opening) → proposal_at n b marks ≡ Some p → (p.ballot ≡ b) × OpenAs marks n p
proposal_is n b marks p e = let (f, g) = where_is b (open_proposal n marks) p e in (g, open_is n marks p f)

pub proposal_none : (n : ℕ) (b : Ballot) (marks : List Mark) → proposal_at n b marks ≡ None → (own : Option Entry) (report : Option Vote) (since : List Mark) → ¬ IsOpen marks n b own report since
proposal_none n b marks e own report since h =
    let r = open_read n marks b own report since h in
    let t : is_same b b ≡ true = same b in
    let f : where_at b (Some (record { ballot = b; own = own; report = report; now = h.now })) ≡ None = ap (where_at b) (sym r.read) ∙ e in
    some_none (rw t at f)

-- it gathers
pub gathering_is : (n : ℕ) (b : Ballot) (marks : List Mark) (p : Opening) → gathering_at n b marks ≡ Some p → (p.ballot ≡ b) × Gathers marks n b p.own p.report (since_began n marks)
gathering_is n b marks p e = go (has (proposes n b) (since_began n marks)) refl
  where
    go : (t : Bool) → has (proposes n b) (since_began n marks) ≡ t → (p.ballot ≡ b) × Gathers marks n b p.own p.report (since_began n marks)
    go true t = let f : None ≡ Some p = rw t at e in absurd (none_some f)
    go false t =
        let (g, h) = proposal_is n b marks p (rw t at e) in (
          g,
          record {
            is_open = subst (λ (a : Ballot). IsOpen marks n a p.own p.report (since_began n marks)) g h.is_open;
            unproposed = λ i j. let k : (n == n) ≡ true = self n in let l : is_same b b ≡ true = same b in impossible (sym t ∙ among_has (proposes n b) (since_began n marks) (Proposed n b i) j (rw (k, l) refl));
          },
        )

pub gathering_none : (n : ℕ) (b : Ballot) (marks : List Mark) → gathering_at n b marks ≡ None → (own : Option Entry) (report : Option Vote) (since : List Mark) → ¬ Gathers marks n b own report since
gathering_none n b marks e own report since h =
    let r = open_read n marks b own report since h.is_open in
    let t : has (proposes n b) (since_began n marks) ≡ false = has_none (proposes n b) (since_began n marks) (λ x i f. let (j, g) = is_proposed n b x f in h.unproposed j (subst (λ (y : Mark). IsAmong since y) g (subst (λ (l : List Mark). IsAmong l x) r.since_is i))) in
    proposal_none n b marks (rw t at e) own report since h.is_open

-- who is counted

promise_speaks : (n : ℕ) (b : Ballot) (x : Mark) (c : Counted) → promise_of n b x ≡ Some c → x ≡ Promised n c.member b c.report
promise_speaks n b (Promised k m a r) c e = go ((k == n) && is_same a b) refl
  where
    go : (t : Bool) → ((k == n) && is_same a b) ≡ t → Promised k m a r ≡ Promised n c.member b c.report
    go true t =
        let f : Some (record { member = m; report = r }) ≡ Some c = rw t at e in
        let g : record { member = m; report = r } ≡ c = cc in
        let (u, v) = both_true (k == n) (is_same a b) t in
        ap (λ j. Promised j m a r) (eqb-true k n u) ∙ ap (λ q. Promised n m q r) (is_same-true a b v) ∙ ap (λ (q : Counted). Promised n q.member b q.report) g
    go false t = let f : None ≡ Some c = rw t at e in absurd (none_some f)
promise_speaks n b (Began k a o r i) c e = absurd (none_some e)
promise_speaks n b (Proposed k a i) c e = absurd (none_some e)
promise_speaks n b (Denied k p) c e = absurd (none_some e)
promise_speaks n b (Heard k m a t) c e = absurd (none_some e)
promise_speaks n b (Closed k) c e = absurd (none_some e)
promise_speaks n b (Released k t) c e = absurd (none_some e)

pub counted_is : (me n : ℕ) (b : Ballot) (p : Opening) (since : List Mark) (x : Counted) → p.ballot ≡ b → IsAmong (counted me n p since) x → IsCounted me n b p.report since x.member x.report
counted_is me n b p since x f (inl e) = inl (ap (λ (y : Counted). y.member) e, ap (λ (y : Counted). y.report) e)
counted_is me n b p since x f (inr i) =
    let (y, j, e) = among_filter_map (promise_of n p.ballot) since x i in
    inr (subst (λ (z : Mark). IsAmong since z) (promise_speaks n p.ballot y x e ∙ ap (λ (a : Ballot). Promised n x.member a x.report) f) j)

pub counted_in : (me n : ℕ) (b : Ballot) (p : Opening) (since : List Mark) (k : ℕ) (r : Option Vote) → p.ballot ≡ b → IsCounted me n b p.report since k r → IsAmong (counted me n p since) (record { member = k; report = r })
counted_in me n b p since k r f (inl (e, g)) = inl (λ i. record { member = e i; report = g i })
counted_in me n b p since k r f (inr i) =
    let t : (n == n) ≡ true = self n in
    let u : is_same b p.ballot ≡ true = is_same-self b p.ballot (sym f) in
    inr (filter_map_among (promise_of n p.ballot) since (Promised n k b r) (record { member = k; report = r }) i (rw (t, u) refl))

pub is_counted-one : (me n : ℕ) (b : Ballot) (p : Opening) (since : List Mark) (k : ℕ) → p.ballot ≡ b → is_counted (counted me n p since) k ≡ true → (s : Option Vote) × IsCounted me n b p.report since k s
is_counted-one me n b p since k f e =
    let (x, i, g) = has_one (λ (x : Counted). x.member == k) (counted me n p since) e in
    (x.report, subst (λ (j : ℕ). IsCounted me n b p.report since j x.report) (eqb-true x.member k g) (counted_is me n b p since x f i))

pub one-is_counted : (me n : ℕ) (b : Ballot) (p : Opening) (since : List Mark) (k : ℕ) (s : Option Vote) → p.ballot ≡ b → IsCounted me n b p.report since k s → is_counted (counted me n p since) k ≡ true
one-is_counted me n b p since k s f i = among_has (λ (x : Counted). x.member == k) (counted me n p since) (record { member = k; report = s }) (counted_in me n b p since k s f i) (self k)

-- a majority

count_le : (p q : ℕ → Bool) (xs : List ℕ) → ((x : ℕ) → IsAmong xs x → p x ≡ true → q x ≡ true) → count_by p xs ≤ count_by q xs
count_le p q [] h = omega arith
count_le p q (x ∷ xs) h = go (p x) (q x) refl refl (count_le p q xs (λ y i e. h y (inr i) e))
  where
    go : (a b : Bool) → p x ≡ a → q x ≡ b → count_by p xs ≤ count_by q xs → count_by p (x ∷ xs) ≤ count_by q (x ∷ xs)
    go true true e f l = less (rw (e, f) (omega arith)) l
      where
        less : cond (p x) 1 0 ≤ cond (q x) 1 0 → count_by p xs ≤ count_by q xs → count_by p (x ∷ xs) ≤ count_by q (x ∷ xs)
        less g l = omega (arith, one_more p x xs, one_more q x xs)
    go true false e f l = absurd (impossible (sym f ∙ h x (inl refl) e))
    go false b e f l = less (rw e (omega arith)) l
      where
        less : cond (p x) 1 0 ≤ 0 → count_by p xs ≤ count_by q xs → count_by p (x ∷ xs) ≤ count_by q (x ∷ xs)
        less g l = omega (arith, one_more p x xs, one_more q x xs)

pub majority_of : (c : ℕ) (p : ℕ → Bool) (P : ℕ → Type 0) → ((m : ℕ) → IsMember c m → p m ≡ true → P m) → is_majority c p ≡ true → Majority c P
majority_of c p P h e = record { has = p; many = ltb-true c (2 * count_by p (members c)) e; each = h }

pub no_majority_of : (c : ℕ) (p : ℕ → Bool) (P : ℕ → Type 0) → ((m : ℕ) → IsMember c m → P m → p m ≡ true) → is_majority c p ≡ false → ¬ Majority c P
no_majority_of c p P h e a =
    let l : 2 * count_by p (members c) ≤ c = ltb-false c (2 * count_by p (members c)) e in
    let k : count_by a.has (members c) ≤ count_by p (members c) = count_le a.has p (members c) (λ x i t. h x (among_members c x i) (a.each x (among_members c x i) t)) in
    let many : c < 2 * count_by a.has (members c) = a.many in
    omega arith

-- the pick

abbrev Over : Ballot → ℕ → Ballot → ℕ → Type 0
Over a k b m = (b.round < a.round) ⊎ (b.round ≡ a.round) × ((b.owner < a.owner) ⊎ (b.owner ≡ a.owner) × (k < m))

abbrev over : Ballot → ℕ → Ballot → ℕ → Bool
over a k b m = is_below b a || (is_same b a && nat_lt k m)

over-true : (a b : Ballot) (k m : ℕ) → over a k b m ≡ true → Over a k b m
over-true a b k m e = grind (arith, nat_tests)

is-over : (a b : Ballot) (k m : ℕ) → Over a k b m → over a k b m ≡ true
is-over a b k m (inl l) = grind (arith, nat_tests)
is-over a b k m (inr (e, inl l)) = grind (arith, nat_tests)
is-over a b k m (inr (e, inr (f, l))) = grind (arith, nat_tests)

over-false : (a b : Ballot) (k m : ℕ) → over a k b m ≡ false → (a.round < b.round) ⊎ (a.round ≡ b.round) × ((a.owner < b.owner) ⊎ (a.owner ≡ b.owner) × (m ≤ k))
over-false a b k m e = grind (arith, nat_tests)

over_trans : (a b d : Ballot) (k m n : ℕ) → Over a k b m → Over b m d n → Over a k d n
over_trans a b d k m n h l = grind arith

over_level : (a b d : Ballot) (k m n : ℕ) → Over a k b m → (d.round < b.round) ⊎ (d.round ≡ b.round) × ((d.owner < b.owner) ⊎ (d.owner ≡ b.owner) × (m ≤ n)) → Over a k d n
over_level a b d k m n h l = grind arith

reports_order : IsOrder reports_above
reports_order = record { strict = λ x e. strict x.report x.member e; trans = λ x y z e f. trans x.report y.report z.report x.member y.member z.member e f; level = λ x y z e f. level x.report y.report z.report x.member y.member z.member e f }
  where
    strict : (r : Option Vote) (m : ℕ) → vote_above r r (nat_lt m m) ≡ true → ⊥
    strict None m e = impossible e
    strict (Some v) m e = grind (arith, nat_tests)

    trans : (r s t : Option Vote) (k m n : ℕ) → vote_above r s (nat_lt k m) ≡ true → vote_above s t (nat_lt m n) ≡ true → vote_above r t (nat_lt k n) ≡ true
    trans None s t k m n e f = absurd (impossible e)
    trans (Some v) None t k m n e f = absurd (impossible f)
    trans (Some v) (Some u) None k m n e f = refl
    trans (Some v) (Some u) (Some w) k m n e f = is-over v.ballot w.ballot k n (over_trans v.ballot u.ballot w.ballot k m n (over-true v.ballot u.ballot k m e) (over-true u.ballot w.ballot m n f))

    level : (r s t : Option Vote) (k m n : ℕ) → vote_above r s (nat_lt k m) ≡ true → vote_above t s (nat_lt n m) ≡ false → vote_above r t (nat_lt k n) ≡ true
    level None s t k m n e f = absurd (impossible e)
    level (Some v) None None k m n e f = refl
    level (Some v) None (Some w) k m n e f = cc
    level (Some v) (Some u) None k m n e f = refl
    level (Some v) (Some u) (Some w) k m n e f = is-over v.ballot w.ballot k n (over_level v.ballot u.ballot w.ballot k m n (over-true v.ballot u.ballot k m e) (over-false w.ballot u.ballot n m f))

pub pick_is : (me n : ℕ) (b : Ballot) (p : Opening) (since : List Mark) → p.ballot ≡ b → Picks me n b p.own p.report since (pick p.own (counted me n p since))
pick_is me n b p since f = go (greatest reports_above (counted me n p since)) refl
  where
    reported : (x : Counted) (v : Vote) → IsTop reports_above (counted me n p since) x → x.report ≡ Some v → (j : ℕ) (u : Vote) → IsCounted me n b p.report since j (Some u) → IsBelow u.ballot v.ballot ⊎ ((u.ballot ≡ v.ballot) × (x.member ≤ j))
    reported x v top e j u i =
        let y : Counted = record { member = j; report = Some u } in
        let g : vote_above (Some u) x.report (nat_lt j x.member) ≡ false = not_true (vote_above (Some u) x.report (nat_lt j x.member)) (top.none_above y (counted_in me n b p since j (Some u) f i)) in
        least u.ballot v.ballot j x.member (rw e at g)
      where
        not_true : (b : Bool) → (b ≡ true → ⊥) → b ≡ false
        not_true true h = absurd (h refl)
        not_true false h = refl

        least : (a b : Ballot) (j k : ℕ) → over a j b k ≡ false → IsBelow a b ⊎ ((a ≡ b) × (k ≤ j))
        least a b j k e = split (over-false a b j k e)
          where
            split : (a.round < b.round) ⊎ (a.round ≡ b.round) × ((a.owner < b.owner) ⊎ (a.owner ≡ b.owner) × (k ≤ j)) → IsBelow a b ⊎ ((a ≡ b) × (k ≤ j))
            split (inl l) = inl (inl l)
            split (inr (h, inl l)) = inl (inr (h, l))
            split (inr (h, inr (g, l))) = inr (same_ballot a b h g, l)

    unreported : (x : Counted) → IsTop reports_above (counted me n p since) x → x.report ≡ None → (j : ℕ) (u : Vote) → ¬ IsCounted me n b p.report since j (Some u)
    unreported x top e j u i =
        let y : Counted = record { member = j; report = Some u } in
        top.none_above y (counted_in me n b p since j (Some u) f i) (rw e refl)

    by_report : (x : Counted) → IsTop reports_above (counted me n p since) x → greatest reports_above (counted me n p since) ≡ Some x → (r : Option Vote) → x.report ≡ r → Picks me n b p.own p.report since (pick p.own (counted me n p since))
    by_report x top e None g = the_own (unreported x top g) (rw (e, g) refl)
    by_report x top e (Some v) g =
        the_reported x.member v (subst (λ (s : Option Vote). IsCounted me n b p.report since x.member s) g (counted_is me n b p since x f top.is_among)) (reported x v top g) (rw (e, g) refl)

    go : (r : Option Counted) → greatest reports_above (counted me n p since) ≡ r → Picks me n b p.own p.report since (pick p.own (counted me n p since))
    go None e = absurd (greatest_none reports_above (counted me n p since) (record { member = me; report = p.report }) e (inl refl))
    go (Some x) e = by_report x (greatest_top reports_above reports_order (counted me n p since) x e) e x.report refl

-- the greatest Nack

above_order : IsOrder (λ (p q : Ballot). is_below q p)
above_order = record {
  strict = λ x e. let l : IsBelow x x = is_below-true x x e in omega arith;
  trans = λ x y z e f. below-is z x (below_trans z y x (is_below-true z y f) (is_below-true y x e));
  level = λ x y z e f. below-is z x (at_most_below z y x (is_below-false y z f) (is_below-true y x e));
}

denial_speaks : (n : ℕ) (x : Mark) (p : Ballot) → denial_of n x ≡ Some p → x ≡ Denied n p
denial_speaks n (Denied k q) p e = go (k == n) refl
  where
    go : (t : Bool) → (k == n) ≡ t → Denied k q ≡ Denied n p
    go true t = let f : Some q ≡ Some p = rw t at e in let g : q ≡ p = cc in ap (λ j. Denied j q) (eqb-true k n t) ∙ ap (Denied n) g
    go false t = let f : None ≡ Some p = rw t at e in absurd (none_some f)
denial_speaks n (Began k a o r i) p e = absurd (none_some e)
denial_speaks n (Promised k m a r) p e = absurd (none_some e)
denial_speaks n (Proposed k a i) p e = absurd (none_some e)
denial_speaks n (Heard k m a t) p e = absurd (none_some e)
denial_speaks n (Closed k) p e = absurd (none_some e)
denial_speaks n (Released k t) p e = absurd (none_some e)

denial_in : (n : ℕ) (ms : List Mark) (p : Ballot) → IsAmong ms (Denied n p) → IsAmong (filter_map (denial_of n) ms) p
denial_in n ms p i = filter_map_among (denial_of n) ms (Denied n p) p i (let t : (n == n) ≡ true = self n in rw t refl)

pub denied_is : (n : ℕ) (marks : List Mark) → GreatestDenied marks n (denied n marks)
denied_is n marks = go (denied n marks) refl
  where
    go : (r : Option Ballot) → denied n marks ≡ r → GreatestDenied marks n (denied n marks)
    go None e = undenied (λ p i. greatest_none (λ (p q : Ballot). is_below q p) (filter_map (denial_of n) (since_first n marks)) p e (denial_in n (since_first n marks) p i)) e
    go (Some p) e =
        let top : IsTop (λ (p q : Ballot). is_below q p) (filter_map (denial_of n) (since_first n marks)) p = greatest_top (λ (p q : Ballot). is_below q p) above_order (filter_map (denial_of n) (since_first n marks)) p e in
        let (x, i, f) = among_filter_map (denial_of n) (since_first n marks) p top.is_among in
        denied_by p (subst (λ (y : Mark). IsAmong (since_first n marks) y) (denial_speaks n x p f) i)
        (λ q j. at_most_otherwise p q (λ l. top.none_above q (denial_in n (since_first n marks) q j) (below-is p q l))) e

-- when it last moved

moment_speaks : (n : ℕ) (b : Ballot) (x : Mark) (i : ℕ) → moment_of n b x ≡ Some i → x ≡ Proposed n b i
moment_speaks n b (Proposed k a j) i e = go ((k == n) && is_same a b) refl
  where
    go : (t : Bool) → ((k == n) && is_same a b) ≡ t → Proposed k a j ≡ Proposed n b i
    go true t =
        let f : Some j ≡ Some i = rw t at e in
        let g : j ≡ i = cc in
        let (u, v) = both_true (k == n) (is_same a b) t in
        ap (λ q. Proposed q a j) (eqb-true k n u) ∙ ap (λ q. Proposed n q j) (is_same-true a b v) ∙ ap (Proposed n b) g
    go false t = let f : None ≡ Some i = rw t at e in absurd (none_some f)
moment_speaks n b (Began k a o r j) i e = absurd (none_some e)
moment_speaks n b (Promised k m a r) i e = absurd (none_some e)
moment_speaks n b (Denied k p) i e = absurd (none_some e)
moment_speaks n b (Heard k m a t) i e = absurd (none_some e)
moment_speaks n b (Closed k) i e = absurd (none_some e)
moment_speaks n b (Released k t) i e = absurd (none_some e)

moment_silent : (n : ℕ) (b : Ballot) (x : Mark) → moment_of n b x ≡ None → proposes n b x ≡ false
moment_silent n b (Proposed k a j) e = go ((k == n) && is_same a b) refl
  where
    go : (t : Bool) → ((k == n) && is_same a b) ≡ t → ((k == n) && is_same a b) ≡ false
    go true t = let f : Some j ≡ None = rw t at e in absurd (some_none f)
    go false t = t
moment_silent n b (Began k a o r j) e = refl
moment_silent n b (Promised k m a r) e = refl
moment_silent n b (Denied k p) e = refl
moment_silent n b (Heard k m a t) e = refl
moment_silent n b (Closed k) e = refl
moment_silent n b (Released k t) e = refl

proposes_own : (n : ℕ) (b : Ballot) (i : ℕ) → proposes n b (Proposed n b i) ≡ true
proposes_own n b i = let t : (n == n) ≡ true = self n in let u : is_same b b ≡ true = same b in rw (t, u) refl

pub moved_is : (n : ℕ) (p : Opening) (since : List Mark) → LastMoved n p.ballot since p.now (moved n p since)
moved_is n p since = go (first (moment_of n p.ballot) since) refl
  where
    go : (r : Option ℕ) → first (moment_of n p.ballot) since ≡ r → LastMoved n p.ballot since p.now (moved n p since)
    go None e =
        at_begin (λ i j. let f : moment_of n p.ballot (Proposed n p.ballot i) ≡ None = first_none (moment_of n p.ballot) since (Proposed n p.ballot i) e j in impossible (sym (moment_silent n p.ballot (Proposed n p.ballot i) f) ∙ proposes_own n p.ballot i))
        (rw e refl)
    go (Some i) e =
        let (x, before, g, k) = first_splits (moment_of n p.ballot) (proposes n p.ballot) (moment_silent n p.ballot) (λ y j h. subst (λ (z : Mark). proposes n p.ballot z ≡ true) (sym (moment_speaks n p.ballot y j h)) (proposes_own n p.ballot j)) since i e in
        let m : moved n p since ≡ i = rw e refl in
        at_propose (until (proposes n p.ballot) since) before (k ∙ ap (λ (y : Mark). until (proposes n p.ballot) since ++ y ∷ before) (moment_speaks n p.ballot x i g ∙ ap (Proposed n p.ballot) (sym m)))
        (λ j h. until_none (proposes n p.ballot) since (Proposed n p.ballot j) h (proposes_own n p.ballot j))

-- the latest vote

pub vote_order : IsOrder (λ (v u : Vote). is_below u.ballot v.ballot)
vote_order = record {
  strict = λ x e. above_order.strict x.ballot e;
  trans = λ x y z e f. above_order.trans x.ballot y.ballot z.ballot e f;
  level = λ x y z e f. above_order.level x.ballot y.ballot z.ballot e f;
}

pub vote_speaks : (n m : ℕ) (x : Mark) (v : Vote) → vote_of n m x ≡ Some v → x ≡ Heard n m v.ballot v.entry
vote_speaks n m (Heard k j b t) v e = go ((k == n) && (j == m)) refl
  where
    go : (s : Bool) → ((k == n) && (j == m)) ≡ s → Heard k j b t ≡ Heard n m v.ballot v.entry
    go true s =
        let f : Some (record { ballot = b; entry = t }) ≡ Some v = rw s at e in
        let g : record { ballot = b; entry = t } ≡ v = cc in
        let (u, w) = both_true (k == n) (j == m) s in
        ap (λ q. Heard q j b t) (eqb-true k n u) ∙ ap (λ q. Heard n q b t) (eqb-true j m w) ∙ ap (λ (q : Vote). Heard n m q.ballot q.entry) g
    go false s = let f : None ≡ Some v = rw s at e in absurd (none_some f)
vote_speaks n m (Began k a o r i) v e = absurd (none_some e)
vote_speaks n m (Promised k j a r) v e = absurd (none_some e)
vote_speaks n m (Proposed k a i) v e = absurd (none_some e)
vote_speaks n m (Denied k p) v e = absurd (none_some e)
vote_speaks n m (Closed k) v e = absurd (none_some e)
vote_speaks n m (Released k t) v e = absurd (none_some e)

vote_own : (n m : ℕ) (b : Ballot) (t : Entry) → vote_of n m (Heard n m b t) ≡ Some (record { ballot = b; entry = t })
vote_own n m b t = let e : (n == n) ≡ true = self n in let f : (m == m) ≡ true = self m in rw (e, f) refl

pub latest_is : (n m : ℕ) (marks : List Mark) (v : Vote) → latest n marks m ≡ Some v → Latest marks n m v.ballot v.entry
latest_is n m marks v e =
    let s : Stands (vote_of n m) (λ (v u : Vote). is_below u.ballot v.ballot) marks v = greatest_stands (vote_of n m) (λ (v u : Vote). is_below u.ballot v.ballot) vote_order marks v e in
    record {
      after = s.after;
      before = s.before;
      heard = s.stands ∙ ap (λ (y : Mark). s.after ++ y ∷ s.before) (vote_speaks n m s.item v s.gives);
      above_before = λ a u i. is_below-true a v.ballot (s.above_before (Heard n m a u) (record { ballot = a; entry = u }) i (vote_own n m a u));
      above_after = λ a u i. is_below-false v.ballot a (s.above_after (Heard n m a u) (record { ballot = a; entry = u }) i (vote_own n m a u));
    }

-- a latest vote is read, at its ballot
pub latest_at : (n m : ℕ) (marks : List Mark) (b : Ballot) (t : Entry) → Latest marks n m b t → (v : Vote) × (latest n marks m ≡ Some v) × (v.ballot ≡ b)
latest_at n m marks b t l = go (latest n marks m) refl
  where
    heard : IsAmong (filter_map (vote_of n m) marks) (record { ballot = b; entry = t })
    heard = filter_map_among (vote_of n m) marks (Heard n m b t) (record { ballot = b; entry = t }) (among_split marks l.after l.before (Heard n m b t) l.heard) (vote_own n m b t)

    at_most : (a : Ballot) (u : Entry) → IsAmong (l.after ++ Heard n m b t ∷ l.before) (Heard n m a u) → IsAtMost a b
    at_most a u i = elim (among-append l.after (Heard n m b t ∷ l.before) (Heard n m a u) i) [
      | inl j ↦ l.above_after a u j
      | inr j ↦ elim j [ inl e ↦ same_at_most e | inr k ↦ below_weaken a b (l.above_before a u k) ]
    ]
      where
        same_at_most : Heard n m a u ≡ Heard n m b t → IsAtMost a b
        same_at_most e = let f : a ≡ b = cc in subst (λ (x : Ballot). IsAtMost a x) f (at_most_refl a)

    go : (r : Option Vote) → latest n marks m ≡ r → (v : Vote) × (latest n marks m ≡ Some v) × (v.ballot ≡ b)
    go None e = absurd (greatest_none (λ (v u : Vote). is_below u.ballot v.ballot) (filter_map (vote_of n m) marks) (record { ballot = b; entry = t }) e heard)
    go (Some v) e =
        let top : IsTop (λ (v u : Vote). is_below u.ballot v.ballot) (filter_map (vote_of n m) marks) v = greatest_top (λ (v u : Vote). is_below u.ballot v.ballot) vote_order (filter_map (vote_of n m) marks) v e in
        let (x, i, f) = among_filter_map (vote_of n m) marks v top.is_among in
        let below : IsAtMost v.ballot b = at_most v.ballot v.entry (subst (λ (l : List Mark). IsAmong l (Heard n m v.ballot v.entry)) l.heard (subst (λ (y : Mark). IsAmong marks y) (vote_speaks n m x v f) i)) in
        let over : IsAtMost b v.ballot = at_most_otherwise v.ballot b (λ k. top.none_above (record { ballot = b; entry = t }) heard (below-is v.ballot b k)) in
        (v, e, both_at_most v.ballot b below over)

-- the first of the members that passes

pub record LeastMember (c : ℕ) (f : ℕ → Option Vote) (p : Vote → Bool) (v : Vote) : Type 0 where
  pub least : ℕ
  pub is_member : IsMember c least
  pub gives : f least ≡ Some v
  pub passes : p v ≡ true
  pub is_least : (m : ℕ) (u : Vote) → IsMember c m → f m ≡ Some u → p u ≡ true → least ≤ m

pub record NoMember (c : ℕ) (f : ℕ → Option Vote) (p : Vote → Bool) : Type 0 where
  pub no_one : (m : ℕ) (u : Vote) → IsMember c m → f m ≡ Some u → p u ≡ true → ⊥

abbrev pub FoundAs : ℕ → (ℕ → Option Vote) → (Vote → Bool) → Option Vote → Type 0
FoundAs c f p None = NoMember c f p
FoundAs c f p (Some v) = LeastMember c f p v

pub found_member : (c : ℕ) (f : ℕ → Option Vote) (p : Vote → Bool) → FoundAs c f p (find p (filter_map f (members c)))
found_member zero f p = record { no_one = λ m u i e t. absurd (omega arith) }
found_member (suc c) f p =
    let s : find p (filter_map f (members c ++ suc c ∷ [])) ≡ or_else (find p (filter_map f (members c))) (find p (filter_map f (suc c ∷ []))) =
    ap (find p) (filter_map-append f (members c) (suc c ∷ [])) ∙ find_append p (filter_map f (members c)) (filter_map f (suc c ∷ [])) in
    subst (FoundAs (suc c) f p) (sym s) (join (find p (filter_map f (members c))) (found_member c f p))
  where
    last : (m : ℕ) → IsMember (suc c) m → IsMember c m ⊎ (m ≡ suc c)
    last m i = elim (nat_cases m c) [ inl l ↦ inl (omega arith, l) | inr l ↦ inr (omega arith) ]
      where
        nat_cases : (a b : ℕ) → (a ≤ b) ⊎ (b < a)
        nat_cases a b = grind arith

    one : NoMember c f p → (o : Option Vote) → f (suc c) ≡ o → FoundAs (suc c) f p (find p (filter_map f (suc c ∷ [])))
    one none None e = rw e (record { no_one = λ m u i g t. elim (last m i) [ inl j ↦ none.no_one m u j g t | inr k ↦ none_some (sym e ∙ ap f (sym k) ∙ g) ] })
    one none (Some v) e = decide (p v) refl
      where
        decide : (b : Bool) → p v ≡ b → FoundAs (suc c) f p (find p (filter_map f (suc c ∷ [])))
        decide true t = rw (e, t) (record { least = suc c; is_member = (omega arith, omega arith); gives = e; passes = t; is_least = λ m u i g h. elim (last m i) [ inl j ↦ absurd (none.no_one m u j g h) | inr k ↦ omega arith ] })
        decide false t = rw (e, t) (record { no_one = λ m u i g h. elim (last m i) [ inl j ↦ none.no_one m u j g h | inr k ↦ other u (sym e ∙ ap f (sym k) ∙ g) h ] })
          where
            other : (u : Vote) → Some v ≡ Some u → p u ≡ true → ⊥
            other u q h = let same : u ≡ v = cc in impossible (sym t ∙ subst (λ (w : Vote). p w ≡ true) same h)

    join : (r : Option Vote) → FoundAs c f p r → FoundAs (suc c) f p (or_else r (find p (filter_map f (suc c ∷ []))))
    join None none = one none (f (suc c)) refl
    join (Some v) l = record { least = l.least; is_member = wider l.is_member; gives = l.gives; passes = l.passes; is_least = λ m u i e t. elim (last m i) [ inl j ↦ l.is_least m u j e t | inr k ↦ within l.is_member k ] }
      where
        wider : {k : ℕ} → IsMember c k → IsMember (suc c) k
        wider i = (omega arith, omega arith)

        within : {k m : ℕ} → IsMember c k → m ≡ suc c → k ≤ m
        within i e = omega arith

-- ripe

abbrev pub stands_at : ℕ → List Mark → Ballot → ℕ → Bool
stands_at n marks b m = votes_at b (latest n marks m)

pub at_ballot : (n m : ℕ) (marks : List Mark) (b : Ballot) → votes_at b (latest n marks m) ≡ true → (u : Entry) × Latest marks n m b u
at_ballot n m marks b e = go (latest n marks m) refl
  where
    go : (r : Option Vote) → latest n marks m ≡ r → (u : Entry) × Latest marks n m b u
    go None f = let g : false ≡ true = rw f at e in absurd (impossible g)
    go (Some v) f =
        let g : is_same v.ballot b ≡ true = rw f at e in
        (v.entry, subst (λ (a : Ballot). Latest marks n m a v.entry) (is_same-true v.ballot b g) (latest_is n m marks v f))

stands : (n m : ℕ) (marks : List Mark) (b : Ballot) (t : Entry) → Latest marks n m b t → stands_at n marks b m ≡ true
stands n m marks b t l = let (v, e, f) = latest_at n m marks b t l in rw e (is_same-self v.ballot b f)

abbrev pub is_ripe : ℕ → ℕ → List Mark → Vote → Bool
is_ripe c n marks v = is_majority c (stands_at n marks v.ballot)

pub ripe_is : (c n : ℕ) (marks : List Mark) (v : Vote) → ripe c n marks ≡ Some v → Ripe c marks n v.ballot v.entry
ripe_is c n marks v e = of_least (subst (FoundAs c (latest n marks) (is_ripe c n marks)) e (found_member c (latest n marks) (is_ripe c n marks)))
  where
    of_least : LeastMember c (latest n marks) (is_ripe c n marks) v → Ripe c marks n v.ballot v.entry
    of_least l = record {
      many = majority_of c (stands_at n marks v.ballot) (λ m. (u : Entry) × Latest marks n m v.ballot u) (λ m i t. at_ballot n m marks v.ballot t) l.passes;
      least = l.least;
      is_member = l.is_member;
      is_latest = latest_is n l.least marks v l.gives;
      is_least = λ m u i k. least m u i k (latest_at n m marks v.ballot u k);
    }
      where
        least : (m : ℕ) (u : Entry) → IsMember c m → Latest marks n m v.ballot u → (w : Vote) × (latest n marks m ≡ Some w) × (w.ballot ≡ v.ballot) → l.least ≤ m
        least m u i k (w, f, g) = l.is_least m w i f (subst (λ (b : Ballot). is_majority c (stands_at n marks b) ≡ true) (sym g) l.passes)

pub ripe_none : (c n : ℕ) (marks : List Mark) → ripe c n marks ≡ None → (b : Ballot) (t : Entry) → ¬ Ripe c marks n b t
ripe_none c n marks e b t r = of_none (subst (FoundAs c (latest n marks) (is_ripe c n marks)) e (found_member c (latest n marks) (is_ripe c n marks)))
  where
    of_none : NoMember c (latest n marks) (is_ripe c n marks) → ⊥
    of_none none = go (latest_at n r.least marks b t r.is_latest)
      where
        majority : (x : Bool) → is_majority c (stands_at n marks b) ≡ x → is_majority c (stands_at n marks b) ≡ true
        majority true f = f
        majority false f = absurd (no_majority_of c (stands_at n marks b) (λ m. (u : Entry) × Latest marks n m b u) (λ m i k. stands n m marks b k.0 k.1) f r.many)

        go : (w : Vote) × (latest n marks r.least ≡ Some w) × (w.ballot ≡ b) → ⊥
        go (w, f, g) = none.no_one r.least w r.is_member f (subst (λ (a : Ballot). is_majority c (stands_at n marks a) ≡ true) (sym g) (majority (is_majority c (stands_at n marks b)) refl))

-- and no other moment is the last

moment_unproposed : (n : ℕ) (b : Ballot) (x : Mark) → proposes n b x ≡ false → moment_of n b x ≡ None
moment_unproposed n b (Proposed k a j) e = rw e refl
moment_unproposed n b (Began k a o r j) e = refl
moment_unproposed n b (Promised k m a r) e = refl
moment_unproposed n b (Denied k p) e = refl
moment_unproposed n b (Heard k m a t) e = refl
moment_unproposed n b (Closed k) e = refl
moment_unproposed n b (Released k t) e = refl

moment_own : (n : ℕ) (b : Ballot) (i : ℕ) → moment_of n b (Proposed n b i) ≡ Some i
moment_own n b i = let t : (n == n) ≡ true = self n in let u : is_same b b ≡ true = same b in rw (t, u) refl

moment_proposes : (n : ℕ) (b : Ballot) (x : Mark) (j : ℕ) → moment_of n b x ≡ Some j → proposes n b x ≡ true
moment_proposes n b x j h = subst (λ (z : Mark). proposes n b z ≡ true) (sym (moment_speaks n b x j h)) (proposes_own n b j)

pub moved_read : (n : ℕ) (p : Opening) (since : List Mark) (i : ℕ) → LastMoved n p.ballot since p.now i → moved n p since ≡ i
moved_read n p since i (at_begin h e) = go (first (moment_of n p.ballot) since) refl
  where
    go : (r : Option ℕ) → first (moment_of n p.ballot) since ≡ r → moved n p since ≡ i
    go None f = rw f (sym e)
    go (Some j) f =
        let (x, before, g, k) = first_splits (moment_of n p.ballot) (proposes n p.ballot) (moment_silent n p.ballot) (moment_proposes n p.ballot) since j f in
        absurd (h j (subst (λ (y : Mark). IsAmong since y) (moment_speaks n p.ballot x j g) (among_split since (until (proposes n p.ballot) since) before x k)))
moved_read n p since i (at_propose after before e h) =
    let f : (first (moment_of n p.ballot) (after ++ Proposed n p.ballot i ∷ before) ≡ Some i) × (until (proposes n p.ballot) (after ++ Proposed n p.ballot i ∷ before) ≡ after) =
    first_at (moment_of n p.ballot) (proposes n p.ballot) (moment_proposes n p.ballot) (moment_unproposed n p.ballot) after before (Proposed n p.ballot i) i (moment_own n p.ballot i)
    (λ z j t. let (k, g) = is_proposed n p.ballot z t in h k (subst (λ (y : Mark). IsAmong after y) g j)) in
    let k : first (moment_of n p.ballot) since ≡ Some i = ap (first (moment_of n p.ballot)) e ∙ f.0 in
    rw k refl
