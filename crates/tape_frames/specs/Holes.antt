-- The holes of a frame.
use Rattle.std.specs.Prelude.{ℕ, List, [], ◌∷◌, ◌/◌, ◌%◌, ◌==◌, if◌then◌else◌}

-- the level of this weight: 'o' where it is punched, and '.' where it is not
abbrev pub hole_at : ℕ → ℕ → ℕ
hole_at frame weight = if frame / weight % 2 == 1 then 111 else 46

-- the six levels, the lowest first
abbrev pub holes_of : ℕ → List ℕ
holes_of frame = hole_at frame 1 ∷ hole_at frame 2 ∷ hole_at frame 4 ∷ hole_at frame 8 ∷ hole_at frame 16 ∷ hole_at frame 32 ∷ []
