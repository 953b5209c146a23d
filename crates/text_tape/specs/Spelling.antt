-- How a tape is spelled as a text: the word of each frame, which is what it means where punching that word gives it again, else its number.
use Rattle.std.specs.Prelude.{◌≡◌, ◌<◌, ℕ, zero, suc, ◌+◌, List, [], Bool, true, false, Option, Some, None, length, not, nat_lt, ◌==◌, ◌&&◌, ◌||◌, flat_map, if◌then◌else◌}
use Rattle.code_table.specs.declared.case.Case.{Case}
use Rattle.code_table.specs.declared.meaning.Meaning.{Meaning}
use Rattle.slug_reader.specs.Positions.{before}
use Rattle.slug_reader.specs.Meanings.{Meanings, frame_at, case_at, meaning_at}
use Rattle.text_words.specs.Writing.{word_text, has_word}
use Rattle.text_words.specs.declared.word.Word.{Word}
use Rattle.text_words.specs.declared.word.Word.TheVariants.{Means, Frame}
use Rattle.text_tape.specs.Codes.{adds}
use Rattle.text_tape.specs.declared.adding.Added.{Added}
use Rattle.text_tape.specs.declared.spelling.TapePlace.{TapePlace}

-- both are this frame, or neither is one
abbrev pub is_turn_of : Option ℕ → Option ℕ → Bool
is_turn_of None None = true
is_turn_of (Some a) (Some b) = a == b
is_turn_of None (Some b) = false
is_turn_of (Some a) None = false

-- the frame, behind this case code, if any
abbrev pub is_added : Option ℕ → ℕ → Option Added → Bool
is_added turn frame None = false
is_added turn frame (Some added) = is_turn_of turn added.turn && (added.frame == frame)

-- punching a word for what a frame means gives that frame, behind this case code, if any
abbrev pub is_worded : Meanings → Case → Option Meaning → Option ℕ → ℕ → Bool
is_worded means case None turn frame = false
is_worded means case (Some m) turn frame = has_word m && is_added turn frame (adds means case (Means m))

-- a place is one of a tape, and its case is the one that holds there
pub record IsPlace (means : Meanings) (place : TapePlace) : Type 0 where
  pub within : place.at < length place.frames.now
  pub holds : place.case ≡ case_at means place.frames.now place.at

-- a word for what the frame at a position means is punched as that frame alone
unfoldable pub is_alone : Meanings → List ℕ → ℕ → Bool
is_alone means tape i = is_worded means (case_at means tape i) (meaning_at means tape i) None (frame_at tape i)

-- a word for what the next frame means is punched as the frame at a position, a case code, and the next
unfoldable pub is_pair : Meanings → List ℕ → ℕ → Bool
is_pair means tape i =
    nat_lt (i + 1) (length tape)
    && is_worded means (case_at means tape i) (meaning_at means tape (suc i)) (Some (frame_at tape i)) (frame_at tape (suc i))

-- the frame at a position is a case code that stands unsaid, since the word of the next frame gives both
abbrev pub is_unsaid : Meanings → List ℕ → ℕ → Bool
is_unsaid means tape zero = is_pair means tape zero
is_unsaid means tape (suc i) = not (is_unsaid means tape i) && is_pair means tape (suc i)

-- the frame before a position stands unsaid
abbrev pub is_behind_unsaid : Meanings → List ℕ → ℕ → Bool
is_behind_unsaid means tape zero = false
is_behind_unsaid means tape (suc i) = is_unsaid means tape i

-- what a frame means, or its number
abbrev pub word_for : Bool → Option Meaning → ℕ → Word
word_for true (Some m) frame = Means m
word_for true None frame = Frame frame
word_for false m frame = Frame frame

-- the word of the frame at a position: what it means, where punching that gives it, else its number
abbrev pub word_at : Meanings → List ℕ → ℕ → Word
word_at means tape i = word_for (is_behind_unsaid means tape i || is_alone means tape i) (meaning_at means tape i) (frame_at tape i)

-- how the frame at a position is spelled, if it stands not unsaid
abbrev pub text_at : Meanings → List ℕ → ℕ → List ℕ
text_at means tape i = if is_unsaid means tape i then [] else word_text (word_at means tape i)

-- how a tape is spelled
unfoldable pub spelled : Meanings → List ℕ → List ℕ
spelled means tape = flat_map (text_at means tape) (before (length tape))
