-- What punching a text gives: the frames of its words in order, or the first word that cannot be punched.
use Rattle.std.specs.Prelude.{◌≡◌, ◌<◌, ◌≤◌, ℕ, ◌+◌, List, [], ◌∷◌, ◌++◌, Option, Some, None, length, take, drop}
use Rattle.protocol.specs.Limits.{most_frames_one}
use Rattle.tape_frames.specs.Frames.{most_frames, IsTape}
use Rattle.tape_frames.specs.declared.version.Version.{Version}
use Rattle.tape_frames.specs.declared.version.Version.TheVariants as versions
use Rattle.code_table.specs.Tables.{mean}
use Rattle.code_table.specs.declared.case.Case.{Case}
use Rattle.slug_reader.specs.Meanings.{Meanings}
use Rattle.text_words.specs.Words.{HasNoEnd}
use Rattle.text_words.specs.Ligatures.{longest_len, IsFirst}
use Rattle.text_words.specs.Places.{line_behind, column_behind}
use Rattle.text_tape.specs.Codes.{adds, added_frames, case_behind}
use Rattle.text_tape.specs.declared.adding.Added.{Added}
use Rattle.text_words.specs.declared.word.Word.{Word}
use Rattle.text_tape.specs.declared.fault.PunchCause.{PunchCause}
use Rattle.text_tape.specs.declared.fault.PunchCause.TheVariants.{NoCode, NoEnd, TooLong}
use Rattle.text_tape.specs.declared.fault.PunchFault.{PunchFault}
use Rattle.text_tape.specs.declared.fault.PunchError.{PunchError}
use Rattle.text_tape.specs.declared.fault.PunchError.TheVariants as errors
use Rattle.text_tape.specs.declared.punching.PunchedBy.{PunchedBy}
use Rattle.text_tape.specs.declared.punching.Stop.{Stop}
use Rattle.text_tape.specs.declared.punching.Stop.TheVariants as stops
use Rattle.text_tape.specs.declared.punching.Stopped.{Stopped}

-- the most frames of a tape that the rows and packets of a version have room for
abbrev pub most_in : Version → ℕ
most_in versions.One = most_frames_one
most_in versions.Two = most_frames

-- the letters that are taken as one matrix
abbrev pub Ligatures : Type 0
Ligatures = List (List ℕ)

-- the words of a text up to a place, and their frames: at its start there are none, and a word more adds its frames, as the case asks
-- that holds behind the frames before it
pub data Punches (ligatures : Ligatures) (means : Meanings) (text : List ℕ) : ℕ → List Word → List ℕ → Type 0 where
  nothing : Punches ligatures means text 0 [] []
  one_more :
      (at len : ℕ) (words : List Word) (frames : List ℕ) (word : Word) (added : Added)
      → Punches ligatures means text at words frames → IsFirst ligatures (drop at text) len (Some word)
      → adds means (case_behind means frames) word ≡ Some added
      → Punches ligatures means text (at + len) (words ++ word ∷ []) (frames ++ added_frames added)

-- the text is punched as this tape, by these words
abbrev pub IsPunched : Ligatures → Meanings → List ℕ → List ℕ → Type 0
IsPunched ligatures means text tape = (words : List Word) × Punches ligatures means text (length text) words tape

-- the text is punched as this tape by a table and ligatures, and the version has room for it
pub record IsPunchedBy (by : PunchedBy) (text tape : List ℕ) : Type 0 where
  pub is_tape : IsTape tape
  pub few : length tape ≤ most_in by.room
  pub punched : IsPunched by.ligatures.now (mean by.table.now) text tape

-- what a piece says has no code where a case holds; nothing has none
abbrev pub HasNoCode : Meanings → Case → Option Word → Type 0
HasNoCode means case None = Unit {0}
HasNoCode means case (Some word) = adds means case word ≡ None

-- a text begins with a piece of this length that has no code
pub record BeginsUncoded (ligatures : Ligatures) (means : Meanings) (frames text : List ℕ) (len : ℕ) : Type 0 where
  pub said : Option Word
  pub piece : IsFirst ligatures text len said
  pub uncoded : HasNoCode means (case_behind means frames) said

-- a text begins with a word whose frames are too many for a tape
pub record BeginsTooLong (most : ℕ) (ligatures : Ligatures) (means : Meanings) (frames text : List ℕ) : Type 0 where
  pub word : Word
  pub len : ℕ
  pub added : Added
  pub piece : IsFirst ligatures text len (Some word)
  pub coded : adds means (case_behind means frames) word ≡ Some added
  pub long : most < length frames + length (added_frames added)

-- why a text cannot be punched behind these frames, where a tape has so many at most
abbrev pub IsCause : ℕ → Ligatures → Meanings → List ℕ → List ℕ → PunchCause → Type 0
IsCause most ligatures means frames text (NoCode len) = BeginsUncoded ligatures means frames text len
IsCause most ligatures means frames text NoEnd = HasNoEnd text × (longest_len ligatures text ≡ 0)
IsCause most ligatures means frames text TooLong = BeginsTooLong most ligatures means frames text

-- a text is punched up to a place, and cannot be there
pub record IsStuck (most : ℕ) (ligatures : Ligatures) (means : Meanings) (text : List ℕ) (at : ℕ) (cause : PunchCause) : Type 0 where
  pub words : List Word
  pub frames : List ℕ
  pub within : at < length text
  pub punches : Punches ligatures means text at words frames
  pub few : length frames ≤ most
  pub why : IsCause most ligatures means frames (drop at text) cause

-- the first word of a text that cannot be punched, at its line and column
pub record IsFirstFault (most : ℕ) (ligatures : Ligatures) (means : Meanings) (text : List ℕ) (fault : PunchFault) : Type 0 where
  pub stuck : IsStuck most ligatures means text fault.at fault.cause
  pub line : fault.line ≡ line_behind (take fault.at text)
  pub column : fault.column ≡ column_behind (take fault.at text)

-- what punching answers that gives no tape: the first fault, or that there is no word, or want of memory
abbrev pub IsError : ℕ → Ligatures → Meanings → List ℕ → PunchError → Type 0
IsError most ligatures means text (errors.Fault fault) = IsFirstFault most ligatures means text fault
IsError most ligatures means text errors.Empty = text ≡ []
IsError most ligatures means text errors.OutOfMemory = Unit {0}

-- the same, of what is punched by a table and ligatures for a version
abbrev pub IsErrorBy : PunchedBy → List ℕ → PunchError → Type 0
IsErrorBy by text e = IsError (most_in by.room) by.ligatures.now (mean by.table.now) text e

-- the first piece of a text was punched, and its frames were added
pub record AddsPiece (most : ℕ) (ligatures : Ligatures) (means : Meanings) (text old new : List ℕ) (len : ℕ) : Type 0 where
  pub some : 1 ≤ len
  pub within : len ≤ length text
  pub word : Word
  pub added : Added
  pub piece : IsFirst ligatures text len (Some word)
  pub coded : adds means (case_behind means old) word ≡ Some added
  pub frames : new ≡ old ++ added_frames added
  pub few : length new ≤ most

-- why the first piece of a text was not punched behind these frames, or memory ran out
abbrev pub IsStop : ℕ → Ligatures → Meanings → List ℕ → List ℕ → Stop → Type 0
IsStop most ligatures means frames text (stops.Cause cause) = IsCause most ligatures means frames text cause
IsStop most ligatures means frames text stops.OutOfMemory = Unit {0}

-- why a text was not punched at a place, or memory ran out
abbrev pub IsStoppedBy : ℕ → Ligatures → Meanings → List ℕ → ℕ → Stop → Type 0
IsStoppedBy most ligatures means text at (stops.Cause cause) = IsStuck most ligatures means text at cause
IsStoppedBy most ligatures means text at stops.OutOfMemory = Unit {0}

-- the same, of where and why
abbrev pub IsStopped : ℕ → Ligatures → Meanings → List ℕ → Stopped → Type 0
IsStopped most ligatures means text stopped = IsStoppedBy most ligatures means text stopped.at stopped.stop
