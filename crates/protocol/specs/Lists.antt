-- Looking over a list: the words by which the definitions look back.
use Rattle.std.specs.Prelude.{◌≡◌, ◌⊎◌, List, [], ◌∷◌, Bool, false, ◌||◌, Option, Some, None, if◌then◌else◌}

-- x stands in the list
abbrev pub IsAmong : {A : Type 0} → List A → A → Type 0
IsAmong [] x = ⊥
IsAmong (y ∷ ys) x = (x ≡ y) ⊎ IsAmong ys x

-- some item passes
abbrev pub has : {A : Type 0} → (A → Bool) → List A → Bool
has p [] = false
has p (x ∷ xs) = p x || has p xs

-- the items before the first that passes
abbrev pub until : {A : Type 0} → (A → Bool) → List A → List A
until p [] = []
until p (x ∷ xs) = if p x then [] else x ∷ until p xs

-- the items before the last that passes
abbrev pub before_last : {A : Type 0} → (A → Bool) → List A → List A
before_last p [] = []
before_last p (x ∷ xs) = if has p xs then x ∷ before_last p xs else []

-- the first if there is one, else the second
abbrev pub or_else : {A : Type 0} → Option A → Option A → Option A
or_else None y = y
or_else (Some x) y = Some x

-- the first answer that f gives of an item
abbrev pub first : {A B : Type 0} → (A → Option B) → List A → Option B
first f [] = None
first f (x ∷ xs) = or_else (f x) (first f xs)

-- the item, or the other where there is one that it is not above
abbrev pub greater : {A : Type 0} → (A → A → Bool) → A → Option A → A
greater above x None = x
greater above x (Some y) = if above x y then x else y

-- the item that no other is above, the last such
abbrev pub greatest : {A : Type 0} → (A → A → Bool) → List A → Option A
greatest above [] = None
greatest above (x ∷ xs) = Some (greater above x (greatest above xs))
