-- Fronts of a text, written one after the other.
use Rattle.std.proofs.Common.{◌≡◌, ℕ, ◌+◌, ◌≤◌, List, ◌++◌, length, take, drop, Option, refl, sym, ap, ◌∙◌, inl, inr, arith}
use Rattle.std.specs.Io.KnownBytes.{Appends}
use Rattle.std.proofs.KnownBytes.{Appends-trans}
use Rattle.std.proofs.lemmas.Bool.{cases_lt}
use Rattle.std.proofs.lemmas.List.{take_at, drop_at, take_all, take-append-le, length-append}
use Rattle.streams.specs.Fronts.{AppendsFront}
use Rattle.streams.proofs.Bytes.{take_add}

pub take_past : (a b : List ℕ) (k : ℕ) → take (length a + k) (a ++ b) ≡ a ++ take k b
take_past a b k =
    let fits : length a ≤ length (a ++ b) = omega (arith, length-append a b) in
    take_add (length a) k (a ++ b) fits ∙ ap (λ (xs : List ℕ). xs ++ take k (drop (length a) (a ++ b))) (take_at a b (length a) refl) ∙ ap (λ (xs : List ℕ). a ++ take k xs) (drop_at a b (length a) refl)

-- what was written before, and a front of what comes next, is a front of all
pub front_more : (x y z : Option (List ℕ)) (front text more all : List ℕ) → Appends x y front → AppendsFront y z text → front ++ (text ++ more) ≡ all → AppendsFront x z all
front_more x y z front text more all p q e =
    let k = q.0 in
    elim (cases_lt (length text) k) [
      | inl long ↦
          let whole : take k text ≡ text = take_all k text (omega arith) in
          let cut : take (length front + length text) all ≡ front ++ text =
          ap (λ (xs : List ℕ). take (length front + length text) xs) (sym e) ∙ take_past front (text ++ more) (length text) ∙ ap (λ (xs : List ℕ). front ++ xs) (take_at text more (length text) refl) in
          (length front + length text, rw cut (Appends-trans x y z front text p (rw whole at q.1)))
      | inr short ↦
          let cut : take (length front + k) all ≡ front ++ take k text =
          ap (λ (xs : List ℕ). take (length front + k) xs) (sym e) ∙ take_past front (text ++ more) k ∙ ap (λ (xs : List ℕ). front ++ xs) (take-append-le k text more short) in
          (length front + k, rw cut (Appends-trans x y z front (take k text) p q.1))
    ]

-- all of a text is a front of it
pub front_of_all : (x y : Option (List ℕ)) (text : List ℕ) → Appends x y text → AppendsFront x y text
front_of_all x y text p = (length text, rw (take_all (length text) text (omega arith)) p)
