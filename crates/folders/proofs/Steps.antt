-- What is done with one file, one step after the other.
use Rattle.std.proofs.Common.{List, [], ◌∷◌, ◌++◌, Option, Some, None, Result, Ok, Err, ℕ, OnOk, refl, ap, ◌∙◌, append_assoc}
use Rattle.std.specs.Prelude.{OnErr}
use Rattle.folders.specs.Steps.{Adds, Begins, Glance, had, held, Finds, IsReadBetween, Step, MovesBehind}
use Rattle.folders.specs.declared.stamp.Stamp.{Stamp}

-- these steps, and then those
pub adds_then : {A : Type 0} (a b c : Option (List A)) (xs ys : List A) → Adds a b xs → Adds b c ys → Adds a c (xs ++ ys)
adds_then None b c xs ys p q = tt
adds_then (Some x) None c xs ys p q = absurd p
adds_then (Some x) (Some y) None xs ys p q = absurd q
adds_then (Some x) (Some y) (Some z) xs ys p q = q ∙ ap (λ l. l ++ ys) p ∙ append_assoc x xs ys

-- a look, what was read, and a look
pub read_between : (a b c d : Option (List Glance)) (stamp : Stamp) (bytes : List ℕ)
    → Finds a b stamp → Adds b c (held bytes ∷ []) → Finds c d stamp → IsReadBetween a d stamp bytes
read_between a b c d stamp bytes p q r = record {
  first = p.found;
  second = r.found;
  before = p.same;
  after = r.same;
  adds = adds_then a b d (had p.found ∷ []) (held bytes ∷ had r.found ∷ []) p.adds (adds_then b c d (held bytes ∷ []) (had r.found ∷ []) q r.adds);
}

-- a file was moved, or may have been
pub moved_alone : {E : Type 0} (a b : Option (List Step)) (step : Step) (r : Result Unit E)
    → OnOk r (Adds a b (step ∷ [])) → OnErr r (Begins a b (step ∷ [])) → MovesBehind a b (step ∷ []) r
moved_alone a b step (Ok done) p q = p
moved_alone a b step (Err fault) p q = q

-- the same behind a text
pub moved_behind : {E : Type 0} (a b c : Option (List Step)) (text step : Step) (r : Result Unit E)
    → Adds a b (text ∷ []) → OnOk r (Adds b c (step ∷ [])) → OnErr r (Begins b c (step ∷ [])) → MovesBehind a c (text ∷ step ∷ []) r
moved_behind a b c text step (Ok done) wrote p q = adds_then a b c (text ∷ []) (step ∷ []) wrote p
moved_behind a b c text step (Err fault) wrote p q = record {
  front = text ∷ q.front;
  rest = q.rest;
  adds = adds_then a b c (text ∷ []) q.front wrote q.adds;
  whole = ap (λ l. text ∷ l) q.whole;
}

-- the text was not written
pub not_moved : {E : Type 0} (a b : Option (List Step)) (steps : List Step) (fault : E) → Adds a b [] → MovesBehind a b steps (Err fault)
not_moved a b steps fault p = record { front = []; rest = steps; adds = p; whole = refl }
