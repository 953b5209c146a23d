-- What is taken down of the rows of a map is all that is known of it.
use Rattle.std.proofs.Common.{◌≡◌, ◌<◌, ◌≤◌, ◌==◌, ℕ, Bool, true, false, if◌then◌else◌, ◌&&◌, ◌||◌, List, [], ◌∷◌, ◌++◌, is_some, refl, sym, ap, ◌∙◌, arith, inl, inr}
use Rattle.std.specs.List.{AllByRecursion}
use Rattle.std.proofs.lemmas.Bool.Decides.{eqb_tells}
use Rattle.protocol.specs.Rows.{Row}
use Rattle.gone_out.specs.Numbers.{has, IsEmpty}
use Rattle.gone_out.specs.declared.known.Known.{Known}
use Rattle.rows_saved.specs.Saved.{Saved, HasPromise, RiseFrom, IsListOf, saved_by}
use Rattle.rows_files.specs.Knowing.{KnowsAll}
use Rattle.rows_host_files.specs.Collecting.{has_row, has_vote, Collects, IsAdded}

or_none : (b : Bool) → b ≡ (b || false)
or_none true = refl
or_none false = refl

or_more : (a b c : Bool) → ((a || b) || c) ≡ (a || (b || c))
or_more true b c = refl
or_more false b c = refl

-- a row behind others is one more
has_row_more : (items : List (ℕ × Row)) (p : ℕ × Row) (n : ℕ) → has_row (items ++ p ∷ []) n ≡ (has_row items n || (n == p.0))
has_row_more [] p n = sym (or_none (n == p.0))
has_row_more (q ∷ qs) p n = ap (λ b. (n == q.0) || b) (has_row_more qs p n) ∙ sym (or_more (n == q.0) (has_row qs n) (n == p.0))

has_vote_more : (items : List (ℕ × Row)) (p : ℕ × Row) (n : ℕ) → has_vote (items ++ p ∷ []) n ≡ (has_vote items n || ((n == p.0) && is_some p.1.vote))
has_vote_more [] p n = sym (or_none ((n == p.0) && is_some p.1.vote))
has_vote_more (q ∷ qs) p n =
    ap (λ b. ((n == q.0) && is_some q.1.vote) || b) (has_vote_more qs p n) ∙ sym (or_more ((n == q.0) && is_some q.1.vote) (has_vote qs n) ((n == p.0) && is_some p.1.vote))

or_true : (b : Bool) → (b || true) ≡ true
or_true true = refl
or_true false = refl

and_true : (b : Bool) → (b && true) ≡ b
and_true true = refl
and_true false = refl

-- what a set has once a number was put into it, or was not
put : (old new : Bool) (n number : ℕ) (was : Bool) → (n ≡ number → new ≡ (old || was)) → (¬ (n ≡ number) → new ≡ old) → new ≡ (old || ((n == number) && was))
put old new n number was same other = elim (eqb_tells n number) [
  | inl is ↦ same is.1 ∙ ap (λ b. old || (b && was)) (sym is.0)
  | inr not ↦ other not.1 ∙ or_none old ∙ ap (λ b. old || (b && was)) (sym not.0)
]

-- among rows with a promise just those numbers have one that have a row
rows_at : (items : List (ℕ × Row)) (n : ℕ) → AllByRecursion (λ p. HasPromise p.1) items → has_row items n ≡ is_some (saved_by items n).promised
rows_at [] n all = refl
rows_at (p ∷ ps) n all = elim (eqb_tells n p.0) [
  | inl is ↦ ap (λ b. b || has_row ps n) is.0 ∙ sym (ap (λ b. is_some (if b then p.1 else saved_by ps n).promised) is.0 ∙ all.0)
  | inr not ↦ ap (λ b. b || has_row ps n) not.0 ∙ rows_at ps n all.1 ∙ sym (ap (λ b. is_some (if b then p.1 else saved_by ps n).promised) not.0)
]

-- no number stands among those that are above it
above : (low : ℕ) (items : List (ℕ × Row)) (n : ℕ) → RiseFrom low items → n ≤ low → has_vote items n ≡ false
above low [] n rise high = refl
above low (p ∷ ps) n rise high = elim (eqb_tells n p.0) [
  | inl is ↦ absurd (let lt : low < p.0 = rise.0 in let same : n ≡ p.0 = is.1 in omega (arith, lt, same, high))
  | inr not ↦ ap (λ b. (b && is_some p.1.vote) || has_vote ps n) not.0 ∙ above p.0 ps n rise.1 (let lt : low < p.0 = rise.0 in omega (arith, lt, high))
]

-- where numbers rise, a number has one row, and the vote is that of this row
votes_at : (low : ℕ) (items : List (ℕ × Row)) (n : ℕ) → RiseFrom low items → has_vote items n ≡ is_some (saved_by items n).vote
votes_at low [] n rise = refl
votes_at low (p ∷ ps) n rise = elim (eqb_tells n p.0) [
  | inl is ↦ ap (λ b. (b && is_some p.1.vote) || has_vote ps n) is.0
      ∙ ap (λ b. is_some p.1.vote || b) (above p.0 ps n rise.1 (let same : n ≡ p.0 = is.1 in omega (arith, same)))
      ∙ sym (or_none (is_some p.1.vote))
      ∙ sym (ap (λ b. is_some (if b then p.1 else saved_by ps n).vote) is.0)
  | inr not ↦ ap (λ b. (b && is_some p.1.vote) || has_vote ps n) not.0
      ∙ votes_at p.0 ps n rise.1
      ∙ sym (ap (λ b. is_some (if b then p.1 else saved_by ps n).vote) not.0)
]

-- what has never enough sees all
pub all_came : (all : Bool) → (all ≡ false → ⊥) → all ≡ true
all_came true never = refl
all_came false never = absurd (never refl)

-- where nothing was known, and the rows that came are all of the map, the map is known
pub known : (saved : Saved) (old new : Known) (items : List (ℕ × Row)) → IsEmpty old.rows → IsEmpty old.votes → IsListOf saved items → Collects old new items → KnowsAll saved new
known saved old new items rows votes list came = record {
  rows = λ n. came.rows n ∙ ap (λ b. b || has_row items n) (rows n) ∙ rows_at items n list.promised ∙ ap (λ (r : Row). is_some r.promised) (list.same n);
  votes = λ n. came.votes n ∙ ap (λ b. b || has_vote items n) (votes n) ∙ votes_at 0 items n list.rise ∙ ap (λ (r : Row). is_some r.vote) (list.same n);
}

-- one more row came, whose number was added
pub one_more : (first old new : Known) (items : List (ℕ × Row)) (number : ℕ) (row : Row) → Collects first old items → IsAdded old new number (is_some row.vote) → Collects first new (items ++ (number, row) ∷ [])
one_more first old new items number row came added = record {
  rows = λ n.
      put (has old.rows n) (has new.rows n) n number true (λ same. ap (λ (k : ℕ). has new.rows k) same ∙ added.same ∙ sym (or_true (has old.rows n))) (added.rows n)
      ∙ ap (λ b. b || ((n == number) && true)) (came.rows n)
      ∙ or_more (has first.rows n) (has_row items n) ((n == number) && true)
      ∙ ap (λ b. has first.rows n || (has_row items n || b)) (and_true (n == number))
      ∙ ap (λ b. has first.rows n || b) (sym (has_row_more items (number, row) n));
  votes = λ n.
      put (has old.votes n) (has new.votes n) n number (is_some row.vote)
      (λ same. ap (λ (k : ℕ). has new.votes k) same ∙ added.vote ∙ ap (λ (k : ℕ). has old.votes k || is_some row.vote) (sym same)) (added.votes n)
      ∙ ap (λ b. b || ((n == number) && is_some row.vote)) (came.votes n)
      ∙ or_more (has first.votes n) (has_vote items n) ((n == number) && is_some row.vote)
      ∙ ap (λ b. has first.votes n || b) (sym (has_vote_more items (number, row) n));
}
