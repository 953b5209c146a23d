-- The columns of what commands list.
use Rattle.std.specs.Prelude.{ℕ, ◌-◌, List, ◌++◌, length, replicate}

-- words on the right of so many columns
abbrev pub on_the_right : ℕ → List ℕ → List ℕ
on_the_right width words = replicate (width - length words) 32 ++ words

-- words on the left of so many columns
abbrev pub on_the_left : ℕ → List ℕ → List ℕ
on_the_left width words = words ++ replicate (width - length words) 32
