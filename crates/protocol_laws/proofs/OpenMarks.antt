-- What a mark leaves of the numbers that are open with a member: of its own, and of every other.
use Rattle.std.proofs.Common.{◌≡◌, ℕ, suc, ◌+◌, ◌<◌, ◌≤◌, refl, sym, ap, subst, arith, List, [], ◌∷◌, Option, Some, None, Bool, true, false, cond}
use Rattle.std.specs.Prelude.{◌==◌, ◌||◌, nat_lt, nat_le, count_by}
use Rattle.std.proofs.lemmas.Bool.{eq-eqb, leb-false, ltb-true}
use Rattle.std.proofs.lemmas.List.Sums.{sum_by-cons}
use Rattle.protocol.specs.Lists.{has, before_last}
use Rattle.protocol.specs.Ballots.{Ballot, is_below, last_round, next}
use Rattle.protocol.specs.Entries.{Entry}
use Rattle.protocol.specs.Rows.{Vote, Row}
use Rattle.protocol.specs.Marks.{Mark, Began, Closed, begins, ends}
use Rattle.protocol.specs.Proposals.{was_released, open_proposal, since_end, begun, denial_of, denied}
use Rattle.protocol.specs.Turn.{greater_ballot, most_ballots, next_ballot}
use Rattle.protocol.specs.Progress.{round_of}

-- where another number is begun, n stays as it is
pub open_else_began :
    (n j : ℕ) (b : Ballot) (own : Option Entry) (report : Option Vote) (now : ℕ) (ms : List Mark) → (j == n) ≡ false
    → open_proposal n (Began j b own report now ∷ ms) ≡ open_proposal n ms
open_else_began n j b own report now ms other = rw other refl

-- and where another is closed
pub open_else_closed : (n j : ℕ) (ms : List Mark) → (j == n) ≡ false → open_proposal n (Closed j ∷ ms) ≡ open_proposal n ms
open_else_closed n j ms other = rw other refl

-- a number that is closed is not open
pub closed_now : (n : ℕ) (ms : List Mark) → open_proposal n (Closed n ∷ ms) ≡ None
closed_now n ms = go (was_released n ms) refl
  where
    go : (t : Bool) → was_released n ms ≡ t → open_proposal n (Closed n ∷ ms) ≡ None
    go true e = rw e refl
    go false e = let self : (n == n) ≡ true = eq-eqb n n refl in rw (e, self) refl

or_right : (p q : Bool) → (p || q) ≡ false → q ≡ false
or_right true q e = let no : true ≡ false = e in cc
or_right false q e = e

before_none : {A : Type 0} (p : A → Bool) (xs : List A) → has p xs ≡ false → before_last p xs ≡ []
before_none p [] h = refl
before_none p (x ∷ xs) h = rw (or_right (p x) (has p xs) h) refl

-- a mark that neither ends nor denies n leaves what denied it
pub denied_else : (n : ℕ) (x : Mark) (ms : List Mark) → ends n x ≡ false → denial_of n x ≡ None → denied n (x ∷ ms) ≡ denied n ms
denied_else n x ms kept silent = go (has (begins n) (since_end n ms)) refl
  where
    go : (t : Bool) → has (begins n) (since_end n ms) ≡ t → denied n (x ∷ ms) ≡ denied n ms
    go true e = rw (kept, e, silent) refl
    go false e = rw (kept, e, before_none (begins n) (since_end n ms) e) refl

-- a ballot more is begun
pub begun_more :
    (n : ℕ) (b : Ballot) (own : Option Entry) (report : Option Vote) (now : ℕ) (ms : List Mark)
    → begun n (Began n b own report now ∷ ms) ≡ suc (begun n ms)
begun_more n b own report now ms = one_more
  where
    one_more : count_by (begins n) (Began n b own report now ∷ since_end n ms) ≡ suc (count_by (begins n) (since_end n ms))
    one_more =
        let self : (n == n) ≡ true = eq-eqb n n refl in
        let one : count_by (begins n) (Began n b own report now ∷ since_end n ms) ≡ cond {A = ℕ} (begins n (Began n b own report now)) 1 0 + count_by (begins n) (since_end n ms) =
        sum_by-cons (λ y. cond {A = ℕ} (begins n y) 1 0) (Began n b own report now) (since_end n ms) in
        let f : cond {A = ℕ} (begins n (Began n b own report now)) 1 0 ≡ 1 = ap (λ (t : Bool). cond {A = ℕ} t 1 0) self in
        omega (arith, one)

-- the greater of two promises is of no higher round than both
greater_low : (p q : Option Ballot) (r : ℕ) → round_of p ≤ r → round_of q ≤ r → round_of (greater_ballot p q) ≤ r
greater_low None q r l h = h
greater_low (Some p) None r l h = l
greater_low (Some p) (Some q) r l h = go (is_below p q) refl
  where
    go : (t : Bool) → is_below p q ≡ t → round_of (greater_ballot (Some p) (Some q)) ≤ r
    go true e = rw e h
    go false e = rw e l

-- a ballot that m begins next, where what it saw is of no round above r
pub record NextOf (m r : ℕ) (b : Ballot) : Type 0 where
  pub first : 1 ≤ b.round
  pub last : b.round ≤ last_round
  pub low : b.round ≤ suc r
  pub owner : b.owner ≡ m

next_of : (q : Option Ballot) (m r : ℕ) (b : Ballot) → round_of q ≤ r → next q m ≡ Some b → NextOf m r b
next_of None m r b l e =
    let f : b ≡ record { round = 1; owner = m } = cc in
    subst (λ (x : Ballot). NextOf m r x) (sym f) (record { first = omega arith; last = omega arith; low = omega arith; owner = refl })
next_of (Some p) m r b l e = go (nat_lt p.round last_round) refl
  where
    go : (t : Bool) → nat_lt p.round last_round ≡ t → NextOf m r b
    go true f =
        let g : Some (record { round = suc p.round; owner = m }) ≡ Some b = rw f at e in
        let k : b ≡ record { round = suc p.round; owner = m } = cc in
        let under : p.round < last_round = ltb-true p.round last_round f in
        let high : p.round ≤ r = l in
        subst (λ (x : Ballot). NextOf m r x) (sym k) (record { first = omega arith; last = omega arith; low = omega arith; owner = refl })
    go false f = let g : None ≡ Some b = rw f at e in cc

-- a proposal that begins anew has begun fewer than the most ballots
pub record Anew (m n r : ℕ) (marks : List Mark) (b : Ballot) : Type 0 where
  pub few : begun n marks < most_ballots
  pub is_next : NextOf m r b

pub begins_anew :
    (m n r : ℕ) (marks : List Mark) (row : Row) (b : Ballot) → next_ballot m n marks row ≡ Some b → round_of row.promised ≤ r
    → round_of (denied n marks) ≤ r → Anew m n r marks b
begins_anew m n r marks row b e low high = go (nat_le most_ballots (begun n marks)) refl
  where
    go : (t : Bool) → nat_le most_ballots (begun n marks) ≡ t → Anew m n r marks b
    go true f = let g : None ≡ Some b = rw f at e in cc
    go false f = record {
      few = leb-false most_ballots (begun n marks) f;
      is_next = next_of (greater_ballot row.promised (denied n marks)) m r b (greater_low row.promised (denied n marks) r low high) (rw f at e);
    }
