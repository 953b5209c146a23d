-- Looking back over the positions of a tape.
use Rattle.std.specs.Prelude.{ℕ, zero, suc, List, [], ◌∷◌, ◌++◌, Bool, false, ◌||◌, Option, Some, None, if◌then◌else◌}

-- the positions before i, in order
abbrev pub before : ℕ → List ℕ
before zero = []
before (suc i) = before i ++ i ∷ []

-- x, or y where there is no x
abbrev pub or_else : {A : Type 0} → Option A → Option A → Option A
or_else None y = y
or_else (Some x) y = Some x

-- the first answer that f gives of an item
abbrev pub first : {A B : Type 0} → (A → Option B) → List A → Option B
first f [] = None
first f (x ∷ xs) = or_else (f x) (first f xs)

-- the last answer that f gives of an item
abbrev pub last : {A B : Type 0} → (A → Option B) → List A → Option B
last f [] = None
last f (x ∷ xs) = or_else (last f xs) (f x)

-- some item passes
abbrev pub has : {A : Type 0} → (A → Bool) → List A → Bool
has p [] = false
has p (x ∷ xs) = p x || has p xs

-- the items after the last that passes, or all where none does
abbrev pub after_last : {A : Type 0} → (A → Bool) → List A → List A
after_last p [] = []
after_last p (x ∷ xs) = if has p xs then after_last p xs else if p x then xs else x ∷ xs
