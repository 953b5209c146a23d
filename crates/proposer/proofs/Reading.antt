-- What the marks say of a number's proposal, once a mark stands in front.
use Rattle.std.proofs.Common.{◌≡◌, ℕ, suc, ◌+◌, ◌≤◌, inl, refl, sym, ap, ◌∙◌, List, [], ◌∷◌, Option, Some, None, Bool, true, false, cond, arith}
use Rattle.std.specs.Prelude.{◌||◌, ◌==◌, nat_lt, count_by}
use Rattle.std.proofs.lemmas.Bool.{eq-eqb}
use Rattle.std.proofs.lemmas.Bool.Decides.{nat_tests}
use Rattle.std.proofs.lemmas.List.Sums.{sum_by-cons}
use Rattle.protocol.specs.Lists.{has, first, greater}
use Rattle.protocol.specs.Ballots.{Ballot, is_below, IsBelow, IsNoneOrBelow, last_round, next}
use Rattle.protocol.specs.Entries.{Entry}
use Rattle.protocol.specs.Rows.{Vote}
use Rattle.protocol.specs.Marks.{Mark, Began, Promised, Proposed, Denied, Heard, Closed, Released, begins, closes}
use Rattle.protocol.specs.Proposals.{Opening, opening_of, was_released, since_began, open_proposal, since_end, begun, denied}
use Rattle.protocol.specs.Turn.{greater_ballot}

pub itself : (n : ℕ) → (n == n) ≡ true
itself n = eq-eqb n n refl

-- an open proposal: not released, not closed since it began
pub record IsFound (n : ℕ) (marks : List Mark) (p : Opening) : Type 0 where
  pub unreleased : was_released n marks ≡ false
  pub unclosed : has (closes n) (since_began n marks) ≡ false
  pub began : first (opening_of n) marks ≡ Some p

pub found : (n : ℕ) (marks : List Mark) (p : Opening) → open_proposal n marks ≡ Some p → IsFound n marks p
found n marks p e = go (was_released n marks) refl (has (closes n) (since_began n marks)) refl
  where
    go : (a : Bool) → was_released n marks ≡ a → (b : Bool) → has (closes n) (since_began n marks) ≡ b → IsFound n marks p
    go true f b g = absurd (let bad : None ≡ Some p = rw f at e in cc)
    go false f true g = absurd (let bad : None ≡ Some p = rw (f, g) at e in cc)
    go false f false g = record { unreleased = f; unclosed = g; began = rw (f, g) at e }

or_false : (a b : Bool) → a || b ≡ false → (a ≡ false) × (b ≡ false)
or_false true b e = absurd cc
or_false false b e = (refl, e)

-- where a proposal is open, a ballot was begun since the number was last closed or released
begun_among : (n : ℕ) (marks : List Mark) (p : Opening) → was_released n marks ≡ false → has (closes n) (since_began n marks) ≡ false → first (opening_of n) marks ≡ Some p → has (begins n) (since_end n marks) ≡ true
begun_among n [] p f g e = absurd cc
begun_among n (Began k b own report now ∷ marks) p f g e = go (k == n) refl (λ x y. begun_among n marks p f x y)
  where
    go : (t : Bool) → (k == n) ≡ t → (has (closes n) (since_began n marks) ≡ false → first (opening_of n) marks ≡ Some p → has (begins n) (since_end n marks) ≡ true) → has (begins n) (since_end n (Began k b own report now ∷ marks)) ≡ true
    go true t rest = rw t refl
    go false t rest = rw t (rest (rw t at g) (rw t at e))
begun_among n (Promised k m b r ∷ marks) p f g e = begun_among n marks p f g e
begun_among n (Proposed k b now ∷ marks) p f g e = begun_among n marks p f g e
begun_among n (Denied k b ∷ marks) p f g e = begun_among n marks p f g e
begun_among n (Heard k m b t ∷ marks) p f g e = begun_among n marks p f g e
begun_among n (Closed k ∷ marks) p f g e =
    let parts = or_false (k == n) (has (closes n) (since_began n marks)) g in
    rw (parts.0) (begun_among n marks p f parts.1 e)
begun_among n (Released k t ∷ marks) p f g e =
    let parts = or_false (k == n) (was_released n marks) f in
    rw (parts.0) (begun_among n marks p parts.1 g e)

pub open_is_begun : (n : ℕ) (marks : List Mark) (p : Opening) → open_proposal n marks ≡ Some p → has (begins n) (since_end n marks) ≡ true
open_is_begun n marks p e = let h = found n marks p e in begun_among n marks p h.unreleased h.unclosed h.began

-- where no proposal is open and the number was not released, none was begun since it was last closed
none_among : (n : ℕ) (marks : List Mark) → was_released n marks ≡ false → cond (has (closes n) (since_began n marks)) None (first (opening_of n) marks) ≡ None → has (begins n) (since_end n marks) ≡ false
none_among n [] f e = refl
none_among n (Began k b own report now ∷ marks) f e = go (k == n) refl (λ x. none_among n marks f x)
  where
    go : (t : Bool) → (k == n) ≡ t → (cond (has (closes n) (since_began n marks)) None (first (opening_of n) marks) ≡ None → has (begins n) (since_end n marks) ≡ false) → has (begins n) (since_end n (Began k b own report now ∷ marks)) ≡ false
    go true t rest = absurd (let bad : ◌≡◌ {A = Option Opening} (Some (record { ballot = b; own = own; report = report; now = now })) None = rw t at e in cc)
    go false t rest = rw t (rest (rw t at e))
none_among n (Promised k m b r ∷ marks) f e = none_among n marks f e
none_among n (Proposed k b now ∷ marks) f e = none_among n marks f e
none_among n (Denied k b ∷ marks) f e = none_among n marks f e
none_among n (Heard k m b t ∷ marks) f e = none_among n marks f e
none_among n (Closed k ∷ marks) f e = go (k == n) refl (λ x. none_among n marks f x)
  where
    go : (t : Bool) → (k == n) ≡ t → (cond (has (closes n) (since_began n marks)) None (first (opening_of n) marks) ≡ None → has (begins n) (since_end n marks) ≡ false) → has (begins n) (since_end n (Closed k ∷ marks)) ≡ false
    go true t rest = rw t refl
    go false t rest = rw t (rest (rw t at e))
none_among n (Released k t ∷ marks) f e =
    let parts = or_false (k == n) (was_released n marks) f in
    rw (parts.0) (none_among n marks parts.1 e)

pub closed_is_not_begun : (n : ℕ) (marks : List Mark) → was_released n marks ≡ false → open_proposal n marks ≡ None → has (begins n) (since_end n marks) ≡ false
closed_is_not_begun n marks f e = none_among n marks f (rw f at e)

none_counted : {A : Type 0} (p : A → Bool) (xs : List A) → has p xs ≡ false → count_by p xs ≡ 0
none_counted p [] e = refl
none_counted p (x ∷ xs) e =
    let parts = or_false (p x) (has p xs) e in
    sum_by-cons (λ y. cond (p y) 1 0) x xs ∙ ap (λ (b : Bool). cond b 1 0 + count_by p xs) (parts.0) ∙ ap (λ i. 0 + i) (none_counted p xs parts.1)

module _ (n : ℕ) (b : Ballot) (own : Option Entry) (report : Option Vote) (now : ℕ) (marks : List Mark) where
  pub one_more_ballot : begun n (Began n b own report now ∷ marks) ≡ 1 + begun n marks
  one_more_ballot = sum_by-cons (λ x. cond (begins n x) 1 0) (Began n b own report now) (since_end n marks) ∙ ap (λ (t : Bool). cond t 1 0 + begun n marks) (itself n)

  pub first_ballot : has (begins n) (since_end n marks) ≡ false → begun n (Began n b own report now ∷ marks) ≡ 1
  first_ballot h = one_more_ballot ∙ ap (λ i. 1 + i) (none_counted (begins n) (since_end n marks) h)

  pub denials_stay : has (begins n) (since_end n marks) ≡ true → denied n (Began n b own report now ∷ marks) ≡ denied n marks
  denials_stay h = rw h refl

  pub no_denials : has (begins n) (since_end n marks) ≡ false → denied n (Began n b own report now ∷ marks) ≡ None
  no_denials h = rw h refl

  pub nothing_since : since_began n (Began n b own report now ∷ marks) ≡ []
  nothing_since = let here = itself n in rw here refl

  pub is_open_now : was_released n marks ≡ false → open_proposal n (Began n b own report now ∷ marks) ≡ Some (record { ballot = b; own = own; report = report; now = now })
  is_open_now h = let here = itself n in rw (here, h) refl

-- a Nack more
pub one_more_denial : (n : ℕ) (p : Ballot) (marks : List Mark) → has (begins n) (since_end n marks) ≡ true → denied n (Denied n p ∷ marks) ≡ greater_ballot (denied n marks) (Some p)
one_more_denial n p marks h = let here = itself n in rw (h, here) (go (denied n marks))
  where
    go : (d : Option Ballot) → Some (greater (λ (x y : Ballot). is_below y x) p d) ≡ greater_ballot d (Some p)
    go None = refl
    go (Some g) = elim (is_below g p) as (λ t. Some (cond t p g) ≡ cond t (Some p) (Some g)) [ true ↦ refl | false ↦ refl ]

-- the ballot after another

some_same : {A : Type 0} {x y : A} → Some x ≡ Some y → x ≡ y
some_same e = cc

next_owner : (seen : Option Ballot) (m : ℕ) (b : Ballot) → next seen m ≡ Some b → b.owner ≡ m
next_owner None m b e = ap (λ (a : Ballot). a.owner) (sym (some_same e))
next_owner (Some s) m b e = go (nat_lt s.round last_round) refl
  where
    go : (t : Bool) → nat_lt s.round last_round ≡ t → b.owner ≡ m
    go true f = ap (λ (a : Ballot). a.owner) (sym (some_same (rw f at e)))
    go false f = absurd (let bad : None ≡ Some b = rw f at e in cc)

next_round : (s : Ballot) (m : ℕ) (b : Ballot) → next (Some s) m ≡ Some b → b.round ≡ suc s.round
next_round s m b e = go (nat_lt s.round last_round) refl
  where
    go : (t : Bool) → nat_lt s.round last_round ≡ t → b.round ≡ suc s.round
    go true f = ap (λ (a : Ballot). a.round) (sym (some_same (rw f at e)))
    go false f = absurd (let bad : None ≡ Some b = rw f at e in cc)

not_above_round : (p q : Ballot) → is_below p q ≡ true → p.round ≤ q.round
not_above_round p q h = grind (arith, nat_tests)

next_above : (p d : Option Ballot) (m : ℕ) (b : Ballot) → next (greater_ballot p d) m ≡ Some b → IsNoneOrBelow p b
next_above None d m b e = tt
next_above (Some p) None m b e = let r : b.round ≡ suc p.round = next_round p m b e in inl (omega arith)
next_above (Some p) (Some q) m b e = go (is_below p q) refl
  where
    go : (t : Bool) → is_below p q ≡ t → IsBelow p b
    go true f = let r : b.round ≡ suc q.round = next_round q m b (rw f at e) in let l : p.round ≤ q.round = not_above_round p q f in inl (omega arith)
    go false f = let r : b.round ≡ suc p.round = next_round p m b (rw f at e) in inl (omega arith)

pub renewed_ballot : (t : Bool) (p d : Option Ballot) (m : ℕ) (b : Ballot) → Some b ≡ cond t None (next (greater_ballot p d) m) → (b.owner ≡ m) × IsNoneOrBelow p b
renewed_ballot true p d m b e = absurd cc
renewed_ballot false p d m b e = (next_owner (greater_ballot p d) m b (sym e), next_above p d m b (sym e))
