-- Text that was written in parts, and fronts of it.
use Rattle.std.proofs.Common.{◌≡◌, ℕ, ◌+◌, ◌<◌, ◌≤◌, min, List, [], ◌∷◌, ◌++◌, length, take, drop, get_or, Option, ap, ◌∙◌, arith}
use Rattle.std.specs.Prelude.{flat_map, Result, Ok, Err, OnErr}
use Rattle.std.specs.Io.KnownBytes.{Appends}
use Rattle.std.proofs.KnownBytes.{Appends-trans}
use Rattle.std.proofs.Math.Seq.{take-append-add}
use Rattle.std.proofs.lemmas.Grind.{flat_map-append}
use Rattle.std.proofs.lemmas.List.{take-append-drop, take-append-le, take_min, take_more, append-nil}
use Rattle.streams.specs.Fronts.{AppendsFront}

-- what holds at each exit holds at one with an error
pub at_err : {T E P : Type 0} (r : Result T E) → P → OnErr r P
at_err (Ok x) p = tt
at_err (Err e) p = p

-- a text was written, and then a front of another
pub front_then : (x y z : Option (List ℕ)) (bs cs : List ℕ) → Appends x y bs → AppendsFront y z cs → AppendsFront x z (bs ++ cs)
front_then x y z bs cs p q =
    (length bs + q.0, rw (take-append-add bs cs q.0) (Appends-trans x y z bs (take q.0 cs) p q.1))

-- a front of a text is one of what it begins
pub front_of : (x y : Option (List ℕ)) (bs cs : List ℕ) → AppendsFront x y bs → AppendsFront x y (bs ++ cs)
front_of x y bs cs p =
    let short : min p.0 (length bs) ≤ length bs = omega arith in
    (min p.0 (length bs), rw (take-append-le (min p.0 (length bs)) bs cs short, take_min p.0 bs) p.1)

flat_more : {A : Type 0} (f : A → List ℕ) (xs : List A) (i : ℕ) (d x : A) → i < length xs → x ≡ get_or xs i d → flat_map f (take (i + 1) xs) ≡ flat_map f (take i xs) ++ f x
flat_more f xs i d x lt is =
    ap (flat_map f) (take_more xs i d lt) ∙ (flat_map-append f (take i xs) (get_or xs i d ∷ []) ∙ rw (← is) (ap (λ (ys : List ℕ). flat_map f (take i xs) ++ ys) (append-nil (f x))))

-- a front of one part more was written
pub stopped_part : {A : Type 0} (f : A → List ℕ) (xs : List A) (i : ℕ) (d x : A) (a b c : Option (List ℕ)) → i < length xs → x ≡ get_or xs i d
    → Appends a b (flat_map f (take i xs)) → AppendsFront b c (f x) → AppendsFront a c (flat_map f xs)
stopped_part f xs i d x a b c lt is p q =
    let some = rw (← flat_more f xs i d x lt is) at (front_then a b c (flat_map f (take i xs)) (f x) p q) in
    let all = front_of a c (flat_map f (take (i + 1) xs)) (flat_map f (drop (i + 1) xs)) some in
    rw (← flat_map-append f (take (i + 1) xs) (drop (i + 1) xs), take-append-drop (i + 1) xs) at all
