-- What is due, as it is computed and as a fact.
use Rattle.std.proofs.Common.{◌≡◌, ℕ, ◌<◌, ◌≤◌, refl, sym, ap, subst, ◌∙◌, arith, List, Option, Some, None, Bool, true, false}
use Rattle.std.specs.Prelude.{nat_lt, filter, filter_map, MatchOption}
use Rattle.std.proofs.lemmas.Bool.{leb-true, leb-false, ltb-false}
use Rattle.std.proofs.lemmas.Bool.Decides.{nat_tests}
use Rattle.protocol.specs.Ballots.{Ballot}
use Rattle.protocol.specs.Entries.{Entry}
use Rattle.protocol.specs.Marks.{Mark, Began}
use Rattle.protocol.specs.Lists.{IsAmong}
use Rattle.protocol.specs.Proposals.{Opening, since_began, open_proposal, moved, due_moment, is_due, is_due_number, begun_number, next_due}
use Rattle.protocol.specs.Readings.{IsDue, LastMoved, NoneIsDue, IsLeastDue, NextDueIsLeast}
use Rattle.protocol.specs.NextDue.{IsLeast, NextDueIsLeastNumber}
use Rattle.protocol_laws.proofs.Reading.{OpenAs, open_is, ReadAs, open_read, moved_is, moved_read}
use Rattle.protocol_laws.proofs.Places.{among_split}
use Rattle.protocol_laws.proofs.Looking.{filter_map_among, among_filter, filter_among, IsOrder, IsTop, greatest_top, greatest_none}

some_none : {A : Type 0} {x : A} → Some x ≡ None → ⊥
some_none e = cc

false_true : false ≡ true → ⊥
false_true e = cc

-- a proposal that is read as due is due
pub due_as : (m n now : ℕ) (marks : List Mark) (p : Opening) → OpenAs marks n p → is_due m n now (since_began n marks) (Some p) ≡ true → IsDue m marks now n p.ballot p.own
due_as m n now marks p o e = record {
  report = p.report;
  since = since_began n marks;
  is_open = o.is_open;
  moment = moved n p (since_began n marks);
  moved = subst (λ (i : ℕ). LastMoved n p.ballot (since_began n marks) i (moved n p (since_began n marks))) (sym o.now) (moved_is n p (since_began n marks));
  has_come = leb-true (due_moment m n p (since_began n marks)) now e;
}

-- one that is not read as due is not
pub not_due : (m n now : ℕ) (marks : List Mark) (p : Opening) → open_proposal n marks ≡ Some p → is_due m n now (since_began n marks) (Some p) ≡ false → (b : Ballot) (own : Option Entry) → ¬ IsDue m marks now n b own
not_due m n now marks p e f b own d = early (open_read n marks b own d.report d.since d.is_open)
  where
    some_same : {A : Type 0} {x y : A} → Some x ≡ Some y → x ≡ y
    some_same e = cc

    early : ReadAs marks n (record { ballot = b; own = own; report = d.report; now = d.is_open.now }) d.since → ⊥
    early r =
        let q : Opening = record { ballot = b; own = own; report = d.report; now = d.is_open.now } in
        let same : p ≡ q = some_same (sym e ∙ r.read) in
        let g : due_moment m n p (since_began n marks) ≡ due_moment m n q d.since = ap (λ (x : Opening). due_moment m n x (since_began n marks)) same ∙ ap (due_moment m n q) r.since_is in
        let k : moved n q d.since ≡ d.moment = moved_read n q d.since d.moment d.moved in
        let l : now < due_moment m n p (since_began n marks) = leb-false (due_moment m n p (since_began n marks)) now f in
        let h : due_moment m n q d.since ≤ now = rw k d.has_come in
        let i : now < due_moment m n q d.since = subst (λ (x : ℕ). now < x) g l in
        omega (arith, h, i)

-- nor is a number that is not open
pub none_due : (m n now : ℕ) (marks : List Mark) → open_proposal n marks ≡ None → (b : Ballot) (own : Option Entry) → ¬ IsDue m marks now n b own
none_due m n now marks e b own d = some_none (sym (open_read n marks b own d.report d.since d.is_open).read ∙ e)

due_number : (m now : ℕ) (marks : List Mark) (n : ℕ) → is_due_number m now marks n ≡ true → (b : Ballot) × (own : Option Entry) × IsDue m marks now n b own
due_number m now marks n e = go (open_proposal n marks) refl
  where
    go : (r : Option Opening) → open_proposal n marks ≡ r → (b : Ballot) × (own : Option Entry) × IsDue m marks now n b own
    go None f = let no : false ≡ true = rw f at e in absurd (false_true no)
    go (Some p) f = (p.ballot, p.own, due_as m n now marks p (open_is n marks p f) (rw f at e))

is_due_read : (m now : ℕ) (marks : List Mark) (n : ℕ) (b : Ballot) (own : Option Entry) → IsDue m marks now n b own → is_due_number m now marks n ≡ true
is_due_read m now marks n b own d = go (open_proposal n marks) refl
  where
    decide : (p : Opening) → open_proposal n marks ≡ Some p → (t : Bool) → is_due m n now (since_began n marks) (Some p) ≡ t → is_due m n now (since_began n marks) (Some p) ≡ true
    decide p f true t = t
    decide p f false t = absurd (not_due m n now marks p f t b own d)

    go : (r : Option Opening) → open_proposal n marks ≡ r → is_due_number m now marks n ≡ true
    go None f = absurd (none_due m n now marks f b own d)
    go (Some p) f = rw f (decide p f (is_due m n now (since_began n marks) (Some p)) refl)

less : IsOrder (λ (i j : ℕ). nat_lt i j)
less = record {
  strict = λ x e. grind (arith, nat_tests);
  trans = λ x y z e f. grind (arith, nat_tests);
  level = λ x y z e f. grind (arith, nat_tests);
}

abbrev due_numbers : ℕ → ℕ → List Mark → List ℕ
due_numbers m now marks = filter (is_due_number m now marks) (filter_map begun_number marks)

among_due : (m now : ℕ) (marks : List Mark) (n : ℕ) (b : Ballot) (own : Option Entry) → IsDue m marks now n b own → IsAmong (due_numbers m now marks) n
among_due m now marks n b own d =
    let began = Began n b own d.report d.is_open.now in
    filter_among (is_due_number m now marks) (filter_map begun_number marks) n
    (filter_map_among begun_number marks began n (among_split marks d.since d.is_open.before began d.is_open.began) refl)
    (is_due_read m now marks n b own d)

pub next_due_is_least : NextDueIsLeast
next_due_is_least m now marks = go (next_due m now marks) refl
  where
    go : (r : Option ℕ) → next_due m now marks ≡ r → MatchOption r (NoneIsDue m marks now) (λ n. IsLeastDue m marks now n)
    go None e = λ n b own d. greatest_none (λ (i j : ℕ). nat_lt i j) (due_numbers m now marks) n e (among_due m now marks n b own d)
    go (Some n) e =
        let top : IsTop (λ (i j : ℕ). nat_lt i j) (due_numbers m now marks) n = greatest_top (λ (i j : ℕ). nat_lt i j) less (due_numbers m now marks) n e in
        let found = among_filter (is_due_number m now marks) (filter_map begun_number marks) n top.is_among in
        let due = due_number m now marks n found.1 in
        record {
          ballot = due.0;
          own = due.1;
          is_due = due.2;
          is_least = λ j b o d. at_most (nat_lt j n) refl (top.none_above j (among_due m now marks j b o d));
        }
      where
        at_most : {i j : ℕ} → (t : Bool) → nat_lt i j ≡ t → (nat_lt i j ≡ true → ⊥) → j ≤ i
        at_most true t h = absurd (h t)
        at_most {i = i} {j = j} false t h = ltb-false i j t

least_number : (m now : ℕ) (marks : List Mark) (r : Option ℕ) → MatchOption r (NoneIsDue m marks now) (λ n. IsLeastDue m marks now n) → IsLeast (is_due_number m now marks) r
least_number m now marks None h = λ n. go n (is_due_number m now marks n) refl
  where
    go : (n : ℕ) (t : Bool) → is_due_number m now marks n ≡ t → is_due_number m now marks n ≡ false
    go n true e = let d = due_number m now marks n e in absurd (h n d.0 d.1 d.2)
    go n false e = e
least_number m now marks (Some n) h = (is_due_read m now marks n h.ballot h.own h.is_due, λ k e. (let d = due_number m now marks k e in h.is_least k d.0 d.1 d.2))

pub next_due_is_least_number : NextDueIsLeastNumber
next_due_is_least_number m now marks = least_number m now marks (next_due m now marks) (next_due_is_least m now marks)
