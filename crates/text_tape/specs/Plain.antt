-- What a reader reads of a tape: its letters, its blanks and its line ends.
use Rattle.std.specs.Prelude.{ℕ, List, [], ◌∷◌, Option, Some, None, length, flat_map}
use Rattle.code_table.specs.declared.meaning.Meaning.{Meaning}
use Rattle.code_table.specs.declared.meaning.Meaning.TheVariants as meanings
use Rattle.slug_reader.specs.Positions.{before}
use Rattle.slug_reader.specs.Meanings.{Meanings, meaning_at}

-- what is read of a meaning: a matrix by its name, a spaceband and each fixed space as a blank, an elevate as a line end, nothing of the others
abbrev pub read_as : Meaning → List ℕ
read_as (meanings.Matrix name) = name
read_as meanings.Elevate = 10 ∷ []
read_as meanings.Spaceband = 32 ∷ []
read_as meanings.Thin = 32 ∷ []
read_as meanings.En = 32 ∷ []
read_as meanings.Em = 32 ∷ []
read_as _ = []

-- what is read of a frame, by what it means, if anything
abbrev pub read_in : Option Meaning → List ℕ
read_in None = []
read_in (Some m) = read_as m

-- what is read of a tape
unfoldable pub read_of : Meanings → List ℕ → List ℕ
read_of means tape = flat_map (λ i. read_in (meaning_at means tape i)) (before (length tape))
