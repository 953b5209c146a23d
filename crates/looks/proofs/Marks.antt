-- What is noted of one file.
use Rattle.std.proofs.Common.{◌≡◌, ◌<◌, ◌≤◌, ℕ, zero, suc, List, [], ◌∷◌, get_or, length, map, set, refl, ap, arith}
use Rattle.looks.specs.declared.sighting.Sighting.{Sighting}
use Rattle.looks.specs.declared.sighting.Stray.{Stray}
use Rattle.looks.specs.Strays.{noted, AreInOrder}

-- where the file stands there
pub set_noted :
    (g : Sighting → Sighting) (files : List Stray) (place : ℕ) (s : Stray) → place < length files → s ≡ get_or files place s
    → set files place (record s { sighting = g s.sighting }) ≡ noted place g files
set_noted g [] place s h e = absurd (omega (arith, h))
set_noted g (x ∷ xs) zero s h e = ap (λ (y : Stray). record y { sighting = g y.sighting } ∷ xs) e
set_noted g (x ∷ xs) (suc place) s h e = ap (λ ys. x ∷ ys) (set_noted g xs place s (omega (arith, h)) e)

-- where none does
pub none_noted : (g : Sighting → Sighting) (files : List Stray) (place : ℕ) → length files ≤ place → noted place g files ≡ files
none_noted g [] place h = refl
none_noted g (x ∷ xs) zero h = absurd (omega (arith, h))
none_noted g (x ∷ xs) (suc place) h = ap (λ ys. x ∷ ys) (none_noted g xs place (omega (arith, h)))

-- the names stay
names_noted : (g : Sighting → Sighting) (files : List Stray) (place : ℕ) → map (λ (s : Stray). s.name) (noted place g files) ≡ map (λ (s : Stray). s.name) files
names_noted g [] place = refl
names_noted g (x ∷ xs) zero = refl
names_noted g (x ∷ xs) (suc place) = ap (λ ys. x.name ∷ ys) (names_noted g xs place)

pub noted_in_order : (g : Sighting → Sighting) (files : List Stray) (place : ℕ) → AreInOrder files → AreInOrder (noted place g files)
noted_in_order g files place r = rw (names_noted g files place) r
