-- Elements one after the other, and what one more adds.
use Rattle.std.proofs.Common.{◌≡◌, ℕ, ◌+◌, ◌<◌, List, [], ◌∷◌, ◌++◌, length, take, get_or, refl, sym, ap, ◌∙◌, arith, append_assoc, add-one}
use Rattle.std.specs.Prelude.{flat_map, sum_by, Result, Ok, Err, OnOk, is_ok, if◌then◌else◌}
use Rattle.std.proofs.lemmas.Grind.{flat_map-append}
use Rattle.std.proofs.lemmas.List.Sums.{sum_by-cons, sum_by-append}
use Rattle.std.proofs.lemmas.List.{take_more, append-nil}
use Rattle.slug_reader.specs.Positions.{before}
use Rattle.tape_drawing.specs.declared.layout.Stretch.{Stretch}
use Rattle.tape_drawing.specs.Shapes.{Shape, shape_text, text_of}
use Rattle.tape_drawing.specs.Slugs.{stretch, laid}

-- bytes that grew, and grew again
pub grown : (old mid new a b ab : List ℕ) → mid ≡ old ++ a → new ≡ mid ++ b → ab ≡ a ++ b → new ≡ old ++ ab
grown old mid new a b ab m n e = n ∙ (ap (λ (xs : List ℕ). xs ++ b) m ∙ (append_assoc old a b ∙ ap (λ (xs : List ℕ). old ++ xs) (sym e)))

-- bytes that grew, and had others put behind them where there was memory
pub ended : {T E : Type 0} (r : Result T E) (old mid new a end : List ℕ) → mid ≡ old ++ a → new ≡ (if is_ok r then mid ++ end else mid) → OnOk r (new ≡ old ++ (a ++ end))
ended (Ok x) old mid new a end m n = grown old mid new a end (a ++ end) m n refl
ended (Err x) old mid new a end m n = tt

-- bytes that grew, and grew again where there was memory
pub follows : {T E : Type 0} (r : Result T E) (old mid new a b : List ℕ) → mid ≡ old ++ a → OnOk r (new ≡ mid ++ b) → OnOk r (new ≡ old ++ (a ++ b))
follows (Ok x) old mid new a b m n = grown old mid new a b (a ++ b) m n refl
follows (Err x) old mid new a b m n = tt

-- the text of elements and others is that of the ones and then of the others
pub text_append : (a b : List Shape) → text_of (a ++ b) ≡ text_of a ++ text_of b
text_append a b = flat_map-append shape_text a b

-- the text of one element
pub text_one : (x : Shape) → text_of (x ∷ []) ≡ shape_text x
text_one x = append-nil (shape_text x)

-- one more of what each adds
pub flat_more : {A : Type 0} (f : A → List ℕ) (xs : List A) (i : ℕ) (d x : A) → i < length xs → x ≡ get_or xs i d → flat_map f (take (i + 1) xs) ≡ flat_map f (take i xs) ++ f x
flat_more f xs i d x lt is =
    ap (flat_map f) (take_more xs i d lt) ∙ (flat_map-append f (take i xs) (get_or xs i d ∷ []) ∙ rw (← is) (ap (λ (ys : List ℕ). flat_map f (take i xs) ++ ys) (append-nil (f x))))

-- what is drawn of one position more
pub before_more : (f : ℕ → List Shape) (i : ℕ) → text_of (flat_map f (before (i + 1))) ≡ text_of (flat_map f (before i)) ++ text_of (f i)
before_more f i =
    rw (add-one, flat_map-append f (before i) (i ∷ []), append-nil (f i))
    (text_append (flat_map f (before i)) (f i))

laid_append : {A : Type 0} (shapes : A → Stretch → List Shape) (width : A → ℕ) (measure top from : ℕ) (xs ys : List A)
    → laid shapes width measure top from (xs ++ ys) ≡ laid shapes width measure top from xs ++ laid shapes width measure top (from + sum_by width xs) ys
laid_append shapes width measure top from [] ys = ap (λ n. laid shapes width measure top n ys) (omega arith)
laid_append shapes width measure top from (x ∷ xs) ys =
    let same : from + width x + sum_by width xs ≡ from + sum_by width (x ∷ xs) = omega (arith, sum_by-cons width x xs) in
    ap (λ (zs : List Shape). shapes x (stretch measure top from (width x)) ++ zs) (laid_append shapes width measure top (from + width x) xs ys ∙ ap (λ n. laid shapes width measure top (from + width x) xs ++ laid shapes width measure top n ys) same)
    ∙ sym (append_assoc (shapes x (stretch measure top from (width x))) (laid shapes width measure top (from + width x) xs) (laid shapes width measure top (from + sum_by width (x ∷ xs)) ys))

-- one piece more
pub laid_more : {A : Type 0} (shapes : A → Stretch → List Shape) (width : A → ℕ) (measure top from : ℕ) (pieces : List A) (i : ℕ) (d piece : A) → i < length pieces → piece ≡ get_or pieces i d
    → text_of (laid shapes width measure top from (take (i + 1) pieces))
    ≡ text_of (laid shapes width measure top from (take i pieces)) ++ text_of (shapes piece (stretch measure top (from + sum_by width (take i pieces)) (width piece)))
laid_more shapes width measure top from pieces i d piece lt is =
    let here = from + sum_by width (take i pieces) in
    rw (take_more pieces i d lt, ← is, laid_append shapes width measure top from (take i pieces) (piece ∷ []), append-nil (shapes piece (stretch measure top here (width piece))))
    (text_append (laid shapes width measure top from (take i pieces)) (shapes piece (stretch measure top here (width piece))))

-- a sum with one more
pub sum_more : {A : Type 0} (f : A → ℕ) (xs : List A) (i : ℕ) (d x : A) → i < length xs → x ≡ get_or xs i d → sum_by f (take (i + 1) xs) ≡ sum_by f (take i xs) + f x
sum_more f xs i d x lt is =
    let one = sum_by-cons f x [] in
    rw (take_more xs i d lt, ← is, sum_by-append f (take i xs) (x ∷ [])) (ap (λ n. sum_by f (take i xs) + n) (omega (arith, one)))
