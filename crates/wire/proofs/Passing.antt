-- What passes over a wire, one stretch after the other.
use Rattle.std.proofs.Common.{ℕ, List, [], ◌∷◌, ◌++◌, sym, ap, ◌∙◌, append_assoc}
use Rattle.std.proofs.lemmas.List.{append-nil}
use Rattle.wire.specs.Passing.{Passed, came, sent, told, Trace, untold, listed, guarded, AllCame, Guards, Passes}

-- what came is let in by a wire as it was before
came_before : (Is Is' : List ℕ → Type 0) → ((bytes : List ℕ) → Is' bytes → Is bytes) → (xs : List Passed) → AllCame Is' xs → AllCame Is xs
came_before Is Is' back [] all = tt
came_before Is Is' back (came bytes ∷ xs) all = (back bytes all.0, came_before Is Is' back xs all.1)
came_before Is Is' back (sent to bytes ∷ xs) all = came_before Is Is' back xs all
came_before Is Is' back (told moment ∷ xs) all = came_before Is Is' back xs all

came_both : (Is : List ℕ → Type 0) (xs ys : List Passed) → AllCame Is xs → AllCame Is ys → AllCame Is (xs ++ ys)
came_both Is [] ys p q = q
came_both Is (came bytes ∷ xs) ys p q = (p.0, came_both Is xs ys p.1 q)
came_both Is (sent to bytes ∷ xs) ys p q = came_both Is xs ys p q
came_both Is (told moment ∷ xs) ys p q = came_both Is xs ys p q

pub came_first : (Is : List ℕ → Type 0) (xs ys : List Passed) → AllCame Is (xs ++ ys) → AllCame Is xs
came_first Is [] ys p = tt
came_first Is (came bytes ∷ xs) ys p = (p.0, came_first Is xs ys p.1)
came_first Is (sent to bytes ∷ xs) ys p = came_first Is xs ys p
came_first Is (told moment ∷ xs) ys p = came_first Is xs ys p

pub came_last : (Is : List ℕ → Type 0) (xs ys : List Passed) → AllCame Is (xs ++ ys) → AllCame Is ys
came_last Is [] ys p = p
came_last Is (came bytes ∷ xs) ys p = came_last Is xs ys p.1
came_last Is (sent to bytes ∷ xs) ys p = came_last Is xs ys p
came_last Is (told moment ∷ xs) ys p = came_last Is xs ys p

-- nothing passes where nothing is done
pub Passes-nil : (a : Trace) → Passes a a []
Passes-nil untold = tt
Passes-nil (listed x) = sym (append-nil x)
Passes-nil (guarded Is clean) = record { alike = λ bytes. (λ is. is, λ is. is); stays = λ is. is; came = λ is. tt }

guards_then : (A B C : List ℕ → Type 0) (a b c : Type 0) (xs ys : List Passed) → Guards A B a b xs → Guards B C b c ys → Guards A C a c (xs ++ ys)
guards_then A B C a b c xs ys p q = record {
  alike = λ bytes. (λ is. (p.alike bytes).0 ((q.alike bytes).0 is), λ is. (q.alike bytes).1 ((p.alike bytes).1 is));
  stays = λ is. q.stays (p.stays is);
  came = λ is. came_both A xs ys (p.came is) (came_before A B (λ bytes. (p.alike bytes).0) ys (q.came (p.stays is)));
}

-- what passes, and then what passes behind it
pub Passes-then : (a b c : Trace) (bs cs : List Passed) → Passes a b bs → Passes b c cs → Passes a c (bs ++ cs)
Passes-then untold b c bs cs p q = tt
Passes-then (listed x) untold c bs cs p q = absurd p
Passes-then (listed x) (guarded B b) c bs cs p q = absurd p
Passes-then (listed x) (listed y) untold bs cs p q = absurd q
Passes-then (listed x) (listed y) (guarded C c) bs cs p q = absurd q
Passes-then (listed x) (listed y) (listed z) bs cs p q = q ∙ ap (λ (l : List Passed). l ++ cs) p ∙ append_assoc x bs cs
Passes-then (guarded A a) untold c bs cs p q = absurd p
Passes-then (guarded A a) (listed y) c bs cs p q = absurd p
Passes-then (guarded A a) (guarded B b) untold bs cs p q = absurd q
Passes-then (guarded A a) (guarded B b) (listed z) bs cs p q = absurd q
Passes-then (guarded A a) (guarded B b) (guarded C c) bs cs p q = guards_then A B C a b c bs cs p q
