-- Whether two rows are the same can be told.
use Rattle.std.proofs.Common.{◌≡◌, ◌⊎◌, ℕ, inl, inr, refl, ap, Bool, true, false, List, [], ◌∷◌, Option, Some, None}
use Rattle.std.specs.Prelude.{◌==◌}
use Rattle.std.proofs.lemmas.Bool.{eqb-true, eqb-false}
use Rattle.protocol.specs.Ballots.{Ballot}
use Rattle.protocol.specs.Entries.{Entry, Void, Taped}
use Rattle.protocol.specs.Rows.{Vote, Row}

abbrev Told : {A : Type 0} → A → A → Type 0
Told a b = (a ≡ b) ⊎ ¬ (a ≡ b)

numbers : (m n : ℕ) → Told m n
numbers m n = go (m == n) refl
  where
    go : (b : Bool) → (m == n) ≡ b → Told m n
    go true e = inl (eqb-true m n e)
    go false e = inr (eqb-false m n e)

tapes : (xs ys : List ℕ) → Told xs ys
tapes [] [] = inl refl
tapes [] (y ∷ ys) = inr (λ e. cc)
tapes (x ∷ xs) [] = inr (λ e. cc)
tapes (x ∷ xs) (y ∷ ys) = elim (numbers x y) [
  | inl first ↦ elim (tapes xs ys) [ inl rest ↦ inl (λ i. first i ∷ rest i) | inr apart ↦ inr (λ e. apart (let same : xs ≡ ys = cc in same)) ]
  | inr apart ↦ inr (λ e. apart (let same : x ≡ y = cc in same))
]

options : {A : Type 0} → ((a b : A) → Told a b) → (o q : Option A) → Told o q
options tell None None = inl refl
options tell None (Some b) = inr (λ e. cc)
options tell (Some a) None = inr (λ e. cc)
options tell (Some a) (Some b) = elim (tell a b) [ inl same ↦ inl (ap Some same) | inr apart ↦ inr (λ e. apart (let same : a ≡ b = cc in same)) ]

ballots : (a b : Ballot) → Told a b
ballots a b = elim (numbers a.round b.round) [
  | inl round ↦ elim (numbers a.owner b.owner) [ inl owner ↦ inl (λ i. record { round = round i; owner = owner i }) | inr apart ↦ inr (λ e. apart (ap (λ (c : Ballot). c.owner) e)) ]
  | inr apart ↦ inr (λ e. apart (ap (λ (c : Ballot). c.round) e))
]

entries : (t u : Entry) → Told t u
entries Void Void = inl refl
entries Void (Taped tape) = inr (λ e. cc)
entries (Taped tape) Void = inr (λ e. cc)
entries (Taped a) (Taped b) = elim (tapes a b) [ inl same ↦ inl (ap Taped same) | inr apart ↦ inr (λ e. apart (let same : a ≡ b = cc in same)) ]

votes : (v w : Vote) → Told v w
votes v w = elim (ballots v.ballot w.ballot) [
  | inl ballot ↦ elim (entries v.entry w.entry) [ inl entry ↦ inl (λ i. record { ballot = ballot i; entry = entry i }) | inr apart ↦ inr (λ e. apart (ap (λ (u : Vote). u.entry) e)) ]
  | inr apart ↦ inr (λ e. apart (ap (λ (u : Vote). u.ballot) e))
]

pub rows : (r q : Row) → Told r q
rows r q = elim (options ballots r.promised q.promised) [
  | inl promised ↦ elim (options votes r.vote q.vote) [ inl vote ↦ inl (λ i. record { promised = promised i; vote = vote i }) | inr apart ↦ inr (λ e. apart (ap (λ (u : Row). u.vote) e)) ]
  | inr apart ↦ inr (λ e. apart (ap (λ (u : Row). u.promised) e))
]
