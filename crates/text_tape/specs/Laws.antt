-- The laws of punching and spelling.
use Rattle.std.specs.Prelude.{◌≡◌, ◌≤◌, ℕ, List, [], ◌∷◌, ◌++◌, Option, Some, IsTrue, is_some, length, map}
use Rattle.tape_frames.specs.Frames.{IsTape}
use Rattle.code_table.specs.declared.meaning.Meaning.{Meaning}
use Rattle.slug_reader.specs.Positions.{before}
use Rattle.slug_reader.specs.Meanings.{Meanings, frame_at, selected_by, meaning_at}
use Rattle.text_tape.specs.Punching.{Ligatures, Punches, IsPunched, IsFirstFault}
use Rattle.text_tape.specs.Spelling.{spelled}
use Rattle.text_tape.specs.declared.fault.PunchFault.{PunchFault}
use Rattle.text_words.specs.declared.word.Word.{Word}
use Rattle.text_words.specs.declared.word.Word.TheVariants.{Means, Frame}

-- a frame of a tape, and what it means where it stands
abbrev pub Mark : Type 0
Mark = ℕ × Option Meaning

-- the frame at a position, and what it means in the case that holds there
abbrev pub mark_at : Meanings → List ℕ → ℕ → Mark
mark_at means tape i = (frame_at tape i, meaning_at means tape i)

-- the frames of a tape in order, each with what it means where it stands
abbrev pub marks_of : Meanings → List ℕ → List Mark
marks_of means tape = map (mark_at means tape) (before (length tape))

-- a frame is what the word says
abbrev pub IsSaid : Word → Mark → Type 0
IsSaid (Means m) mark = mark.1 ≡ Some m
IsSaid (Frame frame) mark = mark.0 ≡ frame

-- frames say words: one for each word in order, and between them case codes alone
pub data Says (means : Meanings) : List Word → List Mark → Type 0 where
  nothing_said : Says means [] []
  one_said : (words : List Word) (marks : List Mark) (word : Word) (mark : Mark) → Says means words marks → IsSaid word mark → Says means (words ++ word ∷ []) (marks ++ mark ∷ [])
  turned : (words : List Word) (marks : List Mark) (mark : Mark) → Says means words marks → IsTrue (is_some (selected_by means mark.0)) → Says means words (marks ++ mark ∷ [])

-- a tape that is punched says the words of its text
abbrev pub TapesSay : Type 0
TapesSay =
    (ligatures : Ligatures) (means : Meanings) (text : List ℕ) (at : ℕ) (words : List Word) (tape : List ℕ) → Punches ligatures means text at words tape
    → Says means words (marks_of means tape)

-- what a tape is spelled as is punched as that tape
abbrev pub SpellsBack : Type 0
SpellsBack = (means : Meanings) (tape : List ℕ) → IsTape tape → IsPunched [] means (spelled means tape) tape

-- a text is read as words in one way, and punched as one tape
abbrev pub OnePunching : Type 0
OnePunching =
    (ligatures : Ligatures) (means : Meanings) (text : List ℕ) (words others : List Word) (tape other : List ℕ)
    → Punches ligatures means text (length text) words tape → Punches ligatures means text (length text) others other
    → (words ≡ others) × (tape ≡ other)

-- a text with a first fault is not punched as a tape of so many frames at most
abbrev pub NotBoth : Type 0
NotBoth =
    (most : ℕ) (ligatures : Ligatures) (means : Meanings) (text tape : List ℕ) (fault : PunchFault) → IsFirstFault most ligatures means text fault
    → IsPunched ligatures means text tape → length tape ≤ most → ⊥
