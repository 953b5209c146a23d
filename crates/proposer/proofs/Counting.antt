-- Who is counted in a list, and what was reported.
use Rattle.std.proofs.Common.{◌≡◌, ℕ, ◌+◌, ◌<◌, ◌⊎◌, inl, inr, refl, sym, ap, subst, ◌∙◌, List, [], ◌∷◌, Option, Some, None, Bool, true, false, cond, arith}
use Rattle.std.specs.Prelude.{IsTrue, find, count_by, is_some, option_map, nat_le, nat_lt, not, ◌&&◌, ◌||◌, ◌==◌}
use Rattle.std.specs.Option.{option_or, option_and_then}
use Rattle.std.proofs.lemmas.Bool.{eq-eqb, eqb-true, leb-true}
use Rattle.std.proofs.lemmas.Bool.Decides.{nat_tests}
use Rattle.std.proofs.lemmas.List.Sums.{sum_by-cons}
use Rattle.protocol.specs.Lists.{IsAmong, has, greatest}
use Rattle.protocol.specs.Ballots.{Ballot, IsMember}
use Rattle.protocol.specs.Rows.{Vote}
use Rattle.protocol.specs.Proposals.{Counted, is_counted, vote_above, reports_above, report_of}
use Rattle.proposer.specs.Greatest.{is_over, IsGreatest, nothing, reported_by}
use Rattle.proposer.specs.Slots.{reported}
use Rattle.proposer.specs.InHand.{report_in, vote_in, are_members, none_twice}

has_find : {A : Type 0} (p : A → Bool) (xs : List A) → has p xs ≡ is_some (find p xs)
has_find p [] = refl
has_find {A = A} p (x ∷ xs) = go (p x) refl (has_find p xs)
  where
    go : (b : Bool) → p x ≡ b → has p xs ≡ is_some (find p xs) → has p (x ∷ xs) ≡ is_some (find p (x ∷ xs))
    go true e rest = rw e refl
    go false e rest = rw e rest

-- counted is who has a report among those kept
pub counted_where : (all : List Counted) (m : ℕ) → is_counted all m ≡ is_some (report_in all m)
counted_where all m = has_find (λ (x : Counted). x.member == m) all ∙ go (find (λ (x : Counted). x.member == m) all)
  where
    go : (o : Option Counted) → is_some o ≡ is_some (option_map (λ (x : Counted). x.report) o)
    go None = refl
    go (Some x) = refl

pub vote_reported : (all : List Counted) (m : ℕ) → vote_in all m ≡ reported (report_in all m)
vote_reported all m = go (find (λ (x : Counted). x.member == m) all)
  where
    go : (o : Option Counted) → option_and_then (λ (x : Counted). x.report) o ≡ reported (option_map (λ (x : Counted). x.report) o)
    go None = refl
    go (Some x) = refl

-- tests that agree count as many
pub same_tests : (p q : ℕ → Bool) → ((m : ℕ) → p m ≡ q m) → (ms : List ℕ) → count_by p ms ≡ count_by q ms
same_tests p q same [] = refl
same_tests p q same (m ∷ ms) =
    sum_by-cons (λ k. cond (p k) 1 0) m ms
    ∙ ap (λ (b : Bool). cond b 1 0 + count_by p ms) (same m)
    ∙ ap (λ i. cond (q m) 1 0 + i) (same_tests p q same ms)
    ∙ sym (sum_by-cons (λ k. cond (q k) 1 0) m ms)

-- one promise more, of a member that is not counted

-- what is then reported by m, where what was reported is r
abbrev pub then_reported : Counted → ℕ → Option (Option Vote) → Option (Option Vote)
then_reported x m r = option_or r (cond (x.member == m) (Some x.report) None)

pub report_second : (y x : Counted) (xs : List Counted) (m : ℕ) → is_counted (y ∷ xs) x.member ≡ false → report_in (y ∷ x ∷ xs) m ≡ then_reported x m (report_in (y ∷ xs) m)
report_second y x xs m new = go (y.member == m) refl (x.member == m) refl
  where
    uncounted : (o : Option (Option Vote)) → is_some o ≡ false → o ≡ None
    uncounted None e = refl
    uncounted (Some r) e = absurd cc

    of_rest : (p q : Bool) → p || q ≡ false → q ≡ false
    of_rest true q e = absurd cc
    of_rest false q e = e

    not_among : x.member ≡ m → report_in xs m ≡ None
    not_among same = uncounted (report_in xs m) (sym (counted_where xs m) ∙ ap (is_counted xs) (sym same) ∙ of_rest (y.member == x.member) (is_counted xs x.member) new)

    stays : (r : Option (Option Vote)) → r ≡ option_or r None
    stays None = refl
    stays (Some v) = refl

    go : (a : Bool) → (y.member == m) ≡ a → (b : Bool) → (x.member == m) ≡ b → report_in (y ∷ x ∷ xs) m ≡ then_reported x m (report_in (y ∷ xs) m)
    go true e b f = rw e refl
    go false e true f = let none : report_in xs m ≡ None = not_among (eqb-true x.member m f) in rw (e, f, none) refl
    go false e false f = rw (e, f) (stays (report_in xs m))

-- the greatest report of the definitions, where none is counted twice

-- the order of reports as a fact
abbrev Over : Ballot → ℕ → Ballot → ℕ → Type 0
Over a k b m = (b.round < a.round) ⊎ (b.round ≡ a.round) × ((b.owner < a.owner) ⊎ (b.owner ≡ a.owner) × (k < m))

over-true : (a b : Ballot) (k m : ℕ) → is_over a k b m ≡ true → Over a k b m
over-true a b k m e = grind (arith, nat_tests)

is-over : (a b : Ballot) (k m : ℕ) → Over a k b m → is_over a k b m ≡ true
is-over a b k m (inl l) = grind (arith, nat_tests)
is-over a b k m (inr (e, inl l)) = grind (arith, nat_tests)
is-over a b k m (inr (e, inr (f, l))) = grind (arith, nat_tests)

over_trans : (a b d : Ballot) (k m i : ℕ) → Over a k b m → Over b m d i → Over a k d i
over_trans a b d k m i h l = grind arith

before : (a b d : Ballot) (k m i : ℕ) → is_over a k b m ≡ true → is_over b m d i ≡ true → is_over a k d i ≡ true
before a b d k m i h l = is-over a d k i (over_trans a b d k m i (over-true a b k m h) (over-true b d m i l))

above_trans : (x y z : Counted) → reports_above x y ≡ true → reports_above y z ≡ true → reports_above x z ≡ true
above_trans x y z e f = go x.report y.report z.report x.member y.member z.member e f
  where
    go : (r s t : Option Vote) (k m i : ℕ) → vote_above r s (nat_lt k m) ≡ true → vote_above s t (nat_lt m i) ≡ true → vote_above r t (nat_lt k i) ≡ true
    go None s t k m i e f = absurd cc
    go (Some v) None t k m i e f = absurd cc
    go (Some v) (Some u) None k m i e f = refl
    go (Some v) (Some u) (Some w) k m i e f = before v.ballot u.ballot w.ballot k m i e f

not_above_itself : (x : Counted) → reports_above x x ≡ false
not_above_itself x = go x.report x.member
  where
    go : (r : Option Vote) (m : ℕ) → vote_above r r (nat_lt m m) ≡ false
    go None m = refl
    go (Some v) m = grind (arith, nat_tests)

-- an item that no other is above
record IsTop (xs : List Counted) (g : Counted) : Type 0 where
  pub is_among : IsAmong xs g
  pub not_above : (y : Counted) → IsAmong xs y → reports_above y g ≡ false

top_of : (xs : List Counted) (g : Counted) → greatest reports_above xs ≡ Some g → IsTop xs g
top_of [] g e = absurd cc
top_of (x ∷ xs) g e = go (greatest reports_above xs) refl (λ z f. top_of xs z f)
  where
    none_there : (ys : List Counted) → greatest reports_above ys ≡ None → ys ≡ []
    none_there [] f = refl
    none_there (y ∷ ys) f = absurd cc

    at_itself : (y : Counted) → y ≡ x → reports_above y x ≡ false
    at_itself y i = ap (λ (z : Counted). reports_above z x) i ∙ not_above_itself x

    only : xs ≡ [] → g ≡ x → IsTop (x ∷ xs) g
    only f h = rw (f, h) (record { is_among = inl refl; not_above = λ y i. elim i [ inl k ↦ at_itself y k | inr k ↦ absurd k ] })

    not_through : (z y : Counted) → reports_above y z ≡ false → reports_above x z ≡ true → (b : Bool) → reports_above y x ≡ b → reports_above y x ≡ false
    not_through z y f h true k = absurd (let bad : true ≡ false = sym (above_trans y x z k h) ∙ f in cc)
    not_through z y f h false k = k

    takes : (z : Counted) → IsTop xs z → reports_above x z ≡ true → g ≡ x → IsTop (x ∷ xs) g
    takes z t h k = rw k (record { is_among = inl refl; not_above = λ y i. elim i [ inl j ↦ at_itself y j | inr j ↦ not_through z y (t.not_above y j) h (reports_above y x) refl ] })

    stays : (z : Counted) → IsTop xs z → reports_above x z ≡ false → g ≡ z → IsTop (x ∷ xs) g
    stays z t h k = rw k (record { is_among = inr t.is_among; not_above = λ y i. elim i [ inl j ↦ ap (λ (w : Counted). reports_above w z) j ∙ h | inr j ↦ t.not_above y j ] })

    some_same : {a b : Counted} → Some a ≡ Some b → b ≡ a
    some_same f = cc

    decide : (z : Counted) → IsTop xs z → greatest reports_above xs ≡ Some z → (b : Bool) → reports_above x z ≡ b → IsTop (x ∷ xs) g
    decide z t f true h = takes z t h (some_same (rw h at (rw f at e)))
    decide z t f false h = stays z t h (some_same (rw h at (rw f at e)))

    go : (r : Option Counted) → greatest reports_above xs ≡ r → ((z : Counted) → greatest reports_above xs ≡ Some z → IsTop xs z) → IsTop (x ∷ xs) g
    go None f rest = only (none_there xs f) (some_same (rw f at e))
    go (Some z) f rest = decide z (rest z f) f (reports_above x z) refl

-- a vote that is found is one of the counted
record IsFrom (all : List Counted) (m : ℕ) (u : Vote) : Type 0 where
  pub item : Counted
  pub is_among : IsAmong all item
  pub its_member : item.member ≡ m
  pub its_report : item.report ≡ Some u

found_from : (all : List Counted) (m : ℕ) (u : Vote) → vote_in all m ≡ Some u → IsFrom all m u
found_from [] m u e = absurd cc
found_from (x ∷ xs) m u e = go (x.member == m) refl (λ f. found_from xs m u f)
  where
    go : (b : Bool) → (x.member == m) ≡ b → (vote_in xs m ≡ Some u → IsFrom xs m u) → IsFrom (x ∷ xs) m u
    go true t rest = record { item = x; is_among = inl refl; its_member = eqb-true x.member m t; its_report = rw t at e }
    go false t rest = let r = rest (rw t at e) in record { item = r.item; is_among = inr r.is_among; its_member = r.its_member; its_report = r.its_report }

counted_among : (all : List Counted) (g : Counted) → IsAmong all g → is_counted all g.member ≡ true
counted_among [] g i = absurd i
counted_among (x ∷ xs) g (inl e) = let h : (x.member == g.member) ≡ true = eq-eqb x.member g.member (ap (λ (y : Counted). y.member) (sym e)) in rw h refl
counted_among (x ∷ xs) g (inr i) = go (x.member == g.member) (counted_among xs g i)
  where
    go : (b : Bool) → is_counted xs g.member ≡ true → (b || is_counted xs g.member) ≡ true
    go true h = refl
    go false h = h

and_parts : (a b : Bool) → IsTrue (a && b) → (a ≡ true) × (b ≡ true)
and_parts true b h = (refl, h)
and_parts false b h = absurd cc

its_vote : (all : List Counted) (g : Counted) → IsTrue (none_twice all) → IsAmong all g → vote_in all g.member ≡ g.report
its_vote [] g once i = absurd i
its_vote (x ∷ xs) g once (inl e) = let h : (x.member == g.member) ≡ true = eq-eqb x.member g.member (ap (λ (y : Counted). y.member) (sym e)) in rw h (ap (λ (y : Counted). y.report) (sym e))
its_vote (x ∷ xs) g once (inr i) = go (x.member == g.member) refl (its_vote xs g (and_parts (not (is_counted xs x.member)) (none_twice xs) once).1 i)
  where
    go : (b : Bool) → (x.member == g.member) ≡ b → vote_in xs g.member ≡ g.report → vote_in (x ∷ xs) g.member ≡ g.report
    go true t rest =
        let same : is_counted xs x.member ≡ true = ap (is_counted xs) (eqb-true x.member g.member t) ∙ counted_among xs g i in
        let other : not (is_counted xs x.member) ≡ true = (and_parts (not (is_counted xs x.member)) (none_twice xs) once).0 in
        absurd (let bad : false ≡ true = rw same at other in cc)
    go false t rest = rw t rest

is_member_of : (c : ℕ) (all : List Counted) (g : Counted) → IsTrue (are_members c all) → IsAmong all g → IsMember c g.member
is_member_of c [] g h i = absurd i
is_member_of c (x ∷ xs) g h (inl e) =
    let parts = and_parts (nat_le 1 x.member) (nat_le x.member c) ((and_parts (nat_le 1 x.member && nat_le x.member c) (are_members c xs) h).0) in
    subst (λ (y : Counted). IsMember c y.member) (sym e) (leb-true 1 x.member parts.0, leb-true x.member c parts.1)
is_member_of c (x ∷ xs) g h (inr i) = is_member_of c xs g ((and_parts (nat_le 1 x.member && nat_le x.member c) (are_members c xs) h).1) i

pub first_is_member : (c : ℕ) (x : Counted) (xs : List Counted) → IsTrue (are_members c (x ∷ xs)) → IsMember c x.member
first_is_member c x xs h = is_member_of c (x ∷ xs) x h (inl refl)

pub marked_greatest : (c : ℕ) (all : List Counted) → IsTrue (are_members c all) → IsTrue (none_twice all) → IsGreatest (vote_in all) c (report_of (greatest reports_above all))
marked_greatest c all range once = go (greatest reports_above all) refl
  where
    empty : (ys : List Counted) (m : ℕ) → greatest reports_above ys ≡ None → vote_in ys m ≡ None
    empty [] m f = refl
    empty (y ∷ ys) m f = absurd cc

    unreported : (g : Counted) → IsTop all g → g.report ≡ None → (m : ℕ) → (o : Option Vote) → vote_in all m ≡ o → vote_in all m ≡ None
    unreported g t f m None e = e
    unreported g t f m (Some u) e =
        let r = found_from all m u e in
        let below : vote_above r.item.report g.report (nat_lt r.item.member g.member) ≡ false = t.not_above r.item r.is_among in
        absurd (let bad : true ≡ false = rw (r.its_report, f) at below in cc)

    is_top : (g : Counted) (v : Vote) → IsTop all g → g.report ≡ Some v → (m : ℕ) (u : Vote) → IsMember c m → vote_in all m ≡ Some u → is_over u.ballot m v.ballot g.member ≡ false
    is_top g v t f m u i e =
        let r = found_from all m u e in
        let below : vote_above r.item.report g.report (nat_lt r.item.member g.member) ≡ false = t.not_above r.item r.is_among in
        let by_votes : is_over u.ballot r.item.member v.ballot g.member ≡ false = rw (r.its_report, f) at below in
        ap (λ k. is_over u.ballot k v.ballot g.member) (sym r.its_member) ∙ by_votes

    by_report : (g : Counted) → IsTop all g → (r : Option Vote) → g.report ≡ r → IsGreatest (vote_in all) c r
    by_report g t None f = nothing (λ m i. unreported g t f m (vote_in all m) refl) refl
    by_report g t (Some v) f = reported_by g.member v (is_member_of c all g range t.is_among) (its_vote all g once t.is_among ∙ f) (is_top g v t f) refl

    go : (o : Option Counted) → greatest reports_above all ≡ o → IsGreatest (vote_in all) c (report_of o)
    go None e = nothing (λ m i. empty all m e) refl
    go (Some g) e = by_report g (top_of all g e) g.report refl

-- the greatest depends on the members' votes alone
pub same_greatest : (c : ℕ) (f g : ℕ → Option Vote) (o : Option Vote) → ((m : ℕ) → IsMember c m → f m ≡ g m) → IsGreatest f c o → IsGreatest g c o
same_greatest c f g o same (nothing h e) = nothing (λ m i. sym (same m i) ∙ h m i) e
same_greatest c f g o same (reported_by k v i h l e) = reported_by k v i (sym (same k i) ∙ h) (λ m u j s. l m u j (same m j ∙ s)) e
