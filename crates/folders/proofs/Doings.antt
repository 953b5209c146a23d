-- What was done with folders, one thing after the other.
use Rattle.std.proofs.Common.{◌≡◌, List, [], ◌++◌, Option, Some, None, sym, ap, ◌∙◌, append_assoc, append-nil}
use Rattle.folders.specs.Doings.{Doing, Does}

-- nothing was done
pub does_nothing : (a b : Option (List Doing)) → b ≡ a → Does a b []
does_nothing None b same = tt
does_nothing (Some x) None same = absurd cc
does_nothing (Some x) (Some y) same = let e : y ≡ x = cc in e ∙ sym (append-nil x)

-- these were done, and then those
pub does_then : (a b c : Option (List Doing)) (ds es : List Doing) → Does a b ds → Does b c es → Does a c (ds ++ es)
does_then None b c ds es p q = tt
does_then (Some x) None c ds es p q = absurd p
does_then (Some x) (Some y) None ds es p q = absurd q
does_then (Some x) (Some y) (Some z) ds es p q = q ∙ ap (λ (l : List Doing). l ++ es) p ∙ append_assoc x ds es
