-- The meanings whose least frames are kept at hand, by small numbers.
use Rattle.std.specs.Prelude.{ℕ, List, [], ◌∷◌, Option, Some, None, map, ◌==◌, if◌then◌else◌}
use Rattle.code_table.specs.Texts.{matrix_of}
use Rattle.code_table.specs.declared.case.Case.{Case}
use Rattle.code_table.specs.declared.meaning.Meaning.{Meaning}
use Rattle.code_table.specs.declared.meaning.Meaning.TheVariants.{Shift, Unshift, Elevate, Return, Spaceband, Thin, En, Em, Upper, Lower, QuadLeft, QuadCenter, QuadRight, Ignore}
use Rattle.slug_reader.specs.Positions.{before}
use Rattle.slug_reader.specs.Meanings.{Meanings}
use Rattle.text_tape.specs.Codes.{frame_of}

-- the meaning of a key: a function by its number, and a matrix whose name is one byte by that byte
abbrev pub keyed : ℕ → Option Meaning
keyed key =
    if key == 1 then Some Shift else
    if key == 2 then Some Unshift else
    if key == 3 then Some Elevate else
    if key == 4 then Some Return else
    if key == 5 then Some Spaceband else
    if key == 6 then Some Thin else
    if key == 7 then Some En else
    if key == 8 then Some Em else
    if key == 9 then Some Upper else
    if key == 10 then Some Lower else
    if key == 11 then Some QuadLeft else
    if key == 12 then Some QuadCenter else
    if key == 13 then Some QuadRight else
    if key == 14 then Some Ignore else matrix_of (key ∷ [])

-- the least frame with this meaning in a case, if there is a meaning
abbrev pub frame_in : Meanings → Case → Option Meaning → Option ℕ
frame_in means case None = None
frame_in means case (Some m) = frame_of means case m

-- the least frame with the meaning of a key in a case
abbrev pub keyed_frame : Meanings → Case → ℕ → Option ℕ
keyed_frame means case key = frame_in means case (keyed key)

-- the least frames of the keys, 0 to 126, in a case
unfoldable pub column_of : Meanings → Case → List (Option ℕ)
column_of means case = map (keyed_frame means case) (before 127)
