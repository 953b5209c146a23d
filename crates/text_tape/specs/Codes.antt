-- Which frames a word takes: the least of its meaning in the case that holds, else in the other behind the least case code that selects it.
use Rattle.std.specs.Prelude.{ℕ, List, [], ◌∷◌, ◌++◌, Bool, true, false, Option, Some, None, length, option_to_list, ◌==◌, ◌&&◌, if◌then◌else◌}
use Rattle.std.specs.Str.{bytes_eq}
use Rattle.code_table.specs.declared.case.Case.{Case}
use Rattle.code_table.specs.declared.case.Case.TheVariants as cases
use Rattle.code_table.specs.declared.meaning.Meaning.{Meaning}
use Rattle.code_table.specs.declared.meaning.Meaning.TheVariants as meanings
use Rattle.slug_reader.specs.Positions.{before, first}
use Rattle.slug_reader.specs.Meanings.{Meanings, selected_by, case_at}
use Rattle.text_words.specs.declared.word.Word.{Word}
use Rattle.text_words.specs.declared.word.Word.TheVariants.{Means, Frame}
use Rattle.text_tape.specs.declared.adding.Added.{Added}

-- the meanings, counted; matrices are one of them
abbrev pub kind_of : Meaning → ℕ
kind_of (meanings.Matrix name) = 0
kind_of meanings.Shift = 1
kind_of meanings.Unshift = 2
kind_of meanings.Elevate = 3
kind_of meanings.Return = 4
kind_of meanings.Spaceband = 5
kind_of meanings.Thin = 6
kind_of meanings.En = 7
kind_of meanings.Em = 8
kind_of meanings.Upper = 9
kind_of meanings.Lower = 10
kind_of meanings.QuadLeft = 11
kind_of meanings.QuadCenter = 12
kind_of meanings.QuadRight = 13
kind_of meanings.Ignore = 14

-- the name of a matrix; other meanings have none
abbrev pub name_in : Meaning → List ℕ
name_in (meanings.Matrix name) = name
name_in _ = []

-- the two are the same meaning
unfoldable pub is_same : Meaning → Meaning → Bool
is_same a b = (kind_of a == kind_of b) && bytes_eq (name_in a) (name_in b)

-- a frame with this meaning
abbrev pub is_meant : Meaning → Option Meaning → Bool
is_meant m None = false
is_meant m (Some other) = is_same m other

-- the other case
abbrev pub other_case : Case → Case
other_case cases.Unshift = cases.Shift
other_case cases.Shift = cases.Unshift

-- the case is this one
abbrev pub is_case : Case → Option Case → Bool
is_case case None = false
is_case cases.Unshift (Some cases.Unshift) = true
is_case cases.Shift (Some cases.Shift) = true
is_case cases.Unshift (Some cases.Shift) = false
is_case cases.Shift (Some cases.Unshift) = false

-- the frame, where the test holds
abbrev pub if_so : Bool → ℕ → Option ℕ
if_so test frame = if test then Some frame else None

-- the frames: six levels make 64
unfoldable pub all_frames : List ℕ
all_frames = before 64

-- the least frame with a meaning in a case
unfoldable pub frame_of : Meanings → Case → Meaning → Option ℕ
frame_of means case m = first (λ frame. if_so (is_meant m (means case frame)) frame) all_frames

-- the least frame that selects a case
unfoldable pub turn_to : Meanings → Case → Option ℕ
turn_to means case = first (λ frame. if_so (is_case case (selected_by means frame)) frame) all_frames

-- a frame, behind a case code
abbrev pub behind_turn : Option ℕ → Option ℕ → Option Added
behind_turn (Some frame) (Some turn) = Some (record { turn = Some turn; frame = frame })
behind_turn (Some frame) None = None
behind_turn None turn = None

-- a frame of the case that holds, or else one of the other, behind the case code
abbrev pub in_either : Option ℕ → Option Added → Option Added
in_either (Some frame) turned = Some (record { turn = None; frame = frame })
in_either None turned = turned

-- what a word adds to a tape where a case holds, if it has a code
unfoldable pub adds : Meanings → Case → Word → Option Added
adds means case (Frame frame) = Some (record { turn = None; frame = frame })
adds means case (Means m) =
    in_either (frame_of means case m) (behind_turn (frame_of means (other_case case) m) (turn_to means (other_case case)))

-- the frames that are added: a case code, if it takes one, and the frame
abbrev pub added_frames : Added → List ℕ
added_frames added = option_to_list added.turn ++ added.frame ∷ []

-- the case that holds behind the frames of a tape
abbrev pub case_behind : Meanings → List ℕ → Case
case_behind means frames = case_at means frames (length frames)
