-- What a text of a code table means.
use Rattle.std.specs.Prelude.{ℕ, List, [], ◌∷◌, Bool, true, false, codes, Option, Some, None, if◌then◌else◌}
use Rattle.std.specs.Option.{option_or}
use Rattle.std.specs.Str.{bytes_eq}
use Rattle.code_table.specs.Names.{is_name}
use Rattle.code_table.specs.Tables.{case_of}
use Rattle.code_table.specs.declared.case.Case.{Case}
use Rattle.code_table.specs.declared.case.Case.TheVariants as cases
use Rattle.code_table.specs.declared.meaning.Meaning.{Meaning}
use Rattle.code_table.specs.declared.meaning.Meaning.TheVariants.{Matrix, Shift, Unshift, Elevate, Return, Spaceband, Thin, En, Em, Upper, Lower, QuadLeft, QuadCenter, QuadRight, Ignore}

-- the functions by their names
abbrev pub functions : List (List ℕ × Meaning)
functions =
    (codes "@shift", Shift) ∷ (codes "@unshift", Unshift) ∷ (codes "@elevate", Elevate) ∷ (codes "@return", Return) ∷
    (codes "@spaceband", Spaceband) ∷ (codes "@thin", Thin) ∷ (codes "@en", En) ∷ (codes "@em", Em) ∷
    (codes "@upper", Upper) ∷ (codes "@lower", Lower) ∷ (codes "@quadleft", QuadLeft) ∷ (codes "@quadcenter", QuadCenter) ∷
    (codes "@quadright", QuadRight) ∷ (codes "@ignore", Ignore) ∷ []

-- the function with this name among some
abbrev pub function_among : List (List ℕ × Meaning) → List ℕ → Option Meaning
function_among [] text = None
function_among (function ∷ rest) text = if bytes_eq text function.0 then Some function.1 else function_among rest text

-- the function with this name
unfoldable pub function_of : List ℕ → Option Meaning
function_of text = function_among functions text

-- the matrix of this name, where a matrix may have it
unfoldable pub matrix_of : List ℕ → Option Meaning
matrix_of text = if is_name text then Some (Matrix text) else None

-- what a text means: the function or the matrix of this name
unfoldable pub meaning_of : List ℕ → Option Meaning
meaning_of text = option_or (function_of text) (matrix_of text)

-- the same case is selected, or none
abbrev pub is_same_case : Option Case → Option Case → Bool
is_same_case None None = true
is_same_case (Some cases.Unshift) (Some cases.Unshift) = true
is_same_case (Some cases.Shift) (Some cases.Shift) = true
is_same_case _ _ = false

-- the two columns of an entry may stand together: where one is a case code, so is the other, and they are the same
unfoldable pub may_stand : Meaning → Meaning → Bool
may_stand unshift shift = is_same_case (case_of (Some unshift)) (case_of (Some shift))
