-- What is read from the marks of a member that began a number anew, after which it was denied at most once.
use Rattle.std.proofs.Common.{◌≡◌, ℕ, ◌+◌, ◌<◌, ◌≤◌, ◌⊎◌, inl, inr, refl, sym, ap, subst, ◌∙◌, arith, List, [], ◌∷◌, Option, Some, None, Bool, true, false, cond}
use Rattle.std.specs.Prelude.{◌==◌, count_by}
use Rattle.std.proofs.lemmas.Bool.{eq-eqb}
use Rattle.std.proofs.lemmas.List.Sums.{sum_by-cons}
use Rattle.protocol.specs.Lists.{has}
use Rattle.protocol.specs.Ballots.{Ballot}
use Rattle.protocol.specs.Entries.{Entry}
use Rattle.protocol.specs.Rows.{Vote}
use Rattle.protocol.specs.Marks.{Mark, Began, Promised, Proposed, Denied, Heard, Closed, Released, begins}
use Rattle.protocol.specs.Proposals.{Opening, was_released, open_proposal, since_end, begun, denied, is_due_number, next_due}
use Rattle.protocol.specs.NextDue.{IsLeast}
use Rattle.protocol_laws.proofs.Due.{next_due_is_least_number}
use Rattle.protocol_laws.proofs.Replying.{yes_no}

none_some : {A : Type 0} {x : A} → None ≡ Some x → ⊥
none_some e = cc

-- where n is neither open nor released, none was begun since it was last closed
pub unbegun : (n : ℕ) (ms : List Mark) → was_released n ms ≡ false → open_proposal n ms ≡ None → has (begins n) (since_end n ms) ≡ false
unbegun n [] r o = refl
unbegun n (Promised k m b report ∷ xs) r o = unbegun n xs r o
unbegun n (Proposed k b now ∷ xs) r o = unbegun n xs r o
unbegun n (Denied k p ∷ xs) r o = unbegun n xs r o
unbegun n (Heard k m b entry ∷ xs) r o = unbegun n xs r o
unbegun n (Began k b own report now ∷ xs) r o = go (k == n) refl (unbegun n xs r)
  where
    go :
        (t : Bool) → (k == n) ≡ t → (open_proposal n xs ≡ None → has (begins n) (since_end n xs) ≡ false)
        → has (begins n) (since_end n (Began k b own report now ∷ xs)) ≡ false
    go true e rest =
        let p : Opening = record { ballot = b; own = own; report = report; now = now } in
        let no : Some p ≡ None = rw r at (rw e at o) in
        absurd (none_some (sym no))
    go false e rest = rw e (rest (rw e at o))
unbegun n (Closed k ∷ xs) r o = go (k == n) refl (unbegun n xs r)
  where
    go :
        (t : Bool) → (k == n) ≡ t → (open_proposal n xs ≡ None → has (begins n) (since_end n xs) ≡ false)
        → has (begins n) (since_end n (Closed k ∷ xs)) ≡ false
    go true e rest = rw e refl
    go false e rest = rw e (rest (rw e at o))
unbegun n (Released k u ∷ xs) r o = go (k == n) refl (λ r o. unbegun n xs r o)
  where
    go :
        (t : Bool) → (k == n) ≡ t → (was_released n xs ≡ false → open_proposal n xs ≡ None → has (begins n) (since_end n xs) ≡ false)
        → has (begins n) (since_end n (Released k u ∷ xs)) ≡ false
    go true e rest = rw e refl
    go false e rest = rw e (rest (rw e at r) (rw e at o))

count_none : {A : Type 0} (p : A → Bool) (xs : List A) → has p xs ≡ false → count_by p xs ≡ 0
count_none p [] h = refl
count_none {A = A} p (x ∷ xs) h = go (p x) refl (count_none p xs)
  where
    one : count_by p (x ∷ xs) ≡ cond {A = ℕ} (p x) 1 0 + count_by p xs
    one = sum_by-cons (λ y. cond {A = ℕ} (p y) 1 0) x xs

    go : (t : Bool) → p x ≡ t → (has p xs ≡ false → count_by p xs ≡ 0) → count_by p (x ∷ xs) ≡ 0
    go true e rest = let no : true ≡ false = rw e at h in cc
    go false e rest =
        let f : cond {A = ℕ} (p x) 1 0 ≡ 0 = ap (λ (t : Bool). cond {A = ℕ} t 1 0) e in
        let g : count_by p xs ≡ 0 = rest (rw e at h) in
        omega (arith, one)

module _ (n : ℕ) (b : Ballot) (own : Option Entry) (report : Option Vote) (now : ℕ) (base : List Mark) (unreleased : was_released n base ≡ false) (unopened : open_proposal n base ≡ None) where
  abbrev pub begun_here : List Mark
  begun_here = Began n b own report now ∷ base

  self : (n == n) ≡ true
  self = eq-eqb n n refl

  pub opens_plain : open_proposal n begun_here ≡ Some (record { ballot = b; own = own; report = report; now = now })
  opens_plain = rw (self, unreleased) refl

  pub opens_denied : (p : Ballot) → open_proposal n (Denied n p ∷ begun_here) ≡ Some (record { ballot = b; own = own; report = report; now = now })
  opens_denied p = rw (self, unreleased) refl

  one_begun : count_by (begins n) (Began n b own report now ∷ since_end n base) ≡ 1
  one_begun =
      let one : count_by (begins n) (Began n b own report now ∷ since_end n base) ≡ cond {A = ℕ} (begins n (Began n b own report now)) 1 0 + count_by (begins n) (since_end n base) =
      sum_by-cons (λ y. cond {A = ℕ} (begins n y) 1 0) (Began n b own report now) (since_end n base) in
      let f : cond {A = ℕ} (begins n (Began n b own report now)) 1 0 ≡ 1 = ap (λ (t : Bool). cond {A = ℕ} t 1 0) self in
      let g : count_by (begins n) (since_end n base) ≡ 0 = count_none (begins n) (since_end n base) (unbegun n base unreleased unopened) in
      omega (arith, one)

  pub begun_plain : begun n begun_here ≡ 1
  begun_plain = one_begun

  pub begun_denied : (p : Ballot) → begun n (Denied n p ∷ begun_here) ≡ 1
  begun_denied p =
      let one : count_by (begins n) (Denied n p ∷ Began n b own report now ∷ since_end n base) ≡ cond {A = ℕ} (begins n (Denied n p)) 1 0 + count_by (begins n) (Began n b own report now ∷ since_end n base) =
      sum_by-cons (λ y. cond {A = ℕ} (begins n y) 1 0) (Denied n p) (Began n b own report now ∷ since_end n base) in
      let f : cond {A = ℕ} (begins n (Denied n p)) 1 0 ≡ 0 = refl in
      omega (arith, one, one_begun)

  pub denied_plain : denied n begun_here ≡ None
  denied_plain = rw (unbegun n base unreleased unopened) refl

  pub denied_by_one : (p : Ballot) → denied n (Denied n p ∷ begun_here) ≡ Some p
  denied_by_one p = rw (self, unbegun n base unreleased unopened) (rw self refl)

  pub closed_plain : (j : ℕ) → (n == j) ≡ false → open_proposal j base ≡ None → open_proposal j begun_here ≡ None
  closed_plain j other o = rw other o

  pub closed_denied : (p : Ballot) (j : ℕ) → (n == j) ≡ false → open_proposal j base ≡ None → open_proposal j (Denied n p ∷ begun_here) ≡ None
  closed_denied p j other o = rw other o

-- the least number that is open is due next, where it is due
pub least_due :
    (m n now : ℕ) (ms : List Mark) → is_due_number m now ms n ≡ true → ((j : ℕ) → j < n → open_proposal j ms ≡ None) → next_due m now ms ≡ Some n
least_due m n now ms due closed = go (next_due m now ms) refl (next_due_is_least_number m now ms)
  where
    nat_cases : (a c : ℕ) → (a ≤ c) ⊎ (c < a)
    nat_cases a c = grind arith

    go : (r : Option ℕ) → next_due m now ms ≡ r → IsLeast (is_due_number m now ms) (next_due m now ms) → next_due m now ms ≡ Some n
    go None e least =
        let none : (k : ℕ) → is_due_number m now ms k ≡ false = subst (λ (o : Option ℕ). IsLeast (is_due_number m now ms) o) e least in
        absurd (yes_no (is_due_number m now ms n) (none n) due)
    go (Some j) e least =
        let is : IsLeast (is_due_number m now ms) (Some j) = subst (λ (o : Option ℕ). IsLeast (is_due_number m now ms) o) e least in
        e ∙ ap Some (same j is.0 (is.1 n due) (nat_cases n j))
      where
        same : (j : ℕ) → is_due_number m now ms j ≡ true → j ≤ n → (n ≤ j) ⊎ (j < n) → j ≡ n
        same j d l (inl h) = omega arith
        same j d l (inr h) = let no : false ≡ true = rw (closed j h) at d in cc
