-- What `survey` tells of the frames of tapes.
use Rattle.std.specs.Prelude.{◌≡◌, ◌++◌, ◌+◌, ℕ, List, [], ◌∷◌, codes, decimal, string_bytes, length, take, filter, flat_map, sum_by, count_by, Bool, not, nat_le, ◌==◌, ◌&&◌, Option, Some, None, Ok, IfSome, is_some, if◌then◌else◌}
use Rattle.toml.specs.Parse.{parse_document}
use Rattle.code_table.specs.Reading.{read_table}
use Rattle.code_table.specs.declared.case.Case.TheVariants.{Unshift, Shift}
use Rattle.code_table.specs.declared.meaning.Meaning.{Meaning}
use Rattle.code_table.specs.declared.meaning.Meaning.TheVariants as meanings
use Rattle.widths.specs.Widths.{WidthFile, width_of}
use Rattle.widths.specs.Reading.{read_widths}
use Rattle.tape_frames.specs.Holes.{holes_of}
use Rattle.slug_reader.specs.Positions.{before}
use Rattle.slug_reader.specs.Meanings.{Meanings, frame_at, meaning_at}
use Rattle.text_words.specs.Writing.{braced_text, frame_text, meaning_text}
use Rattle.reel_commands.specs.declared.rows.Lack.{Lack}
use Rattle.reel_commands.specs.declared.rows.Lack.TheVariants as lacks
use Rattle.reel_commands.specs.declared.surveying.Survey.{Survey}
use Rattle.reel_commands.specs.declared.surveying.Surveyed.{Surveyed}
use Rattle.columns.specs.Columns.{on_the_right, on_the_left}

-- the places at which a frame stands in a tape
unfoldable pub places_in : ℕ → List ℕ → List ℕ
places_in frame tape = filter (λ i. frame_at tape i == frame) (before (length tape))

-- how often a frame comes in tapes
abbrev pub times_in : ℕ → List Surveyed → ℕ
times_in frame tapes = sum_by (λ s. count_by (λ f. f == frame) s.tape) tapes

-- how a frame is shown where it means this: as it is written in a text, but for an elevate, which stands in braces; without a meaning by its number
abbrev pub shown : Option Meaning → ℕ → List ℕ
shown None frame = frame_text frame
shown (Some meanings.Elevate) frame = braced_text (codes "@elevate")
shown (Some m) frame = meaning_text m

-- what is shown of a frame beside another: up to eight on each side, and the other itself in brackets
abbrev pub near : ℕ → ℕ → List ℕ → List ℕ
near at i words = if i == at then 91 ∷ words ++ 93 ∷ [] else if nat_le at (i + 8) && nat_le i (at + 8) then words else []

-- what stands around a place of a tape, each frame as it means where it stands
unfoldable pub around : Meanings → List ℕ → ℕ → List ℕ
around means tape at = flat_map (λ i. near at i (shown (meaning_at means tape i) (frame_at tape i))) (before (length tape))

-- the line of a place: the tape, the place, and what stands around it
abbrev pub place_line : Meanings → Surveyed → ℕ → List ℕ
place_line means s at = codes "       " ++ string_bytes s.name ++ codes " " ++ decimal at ++ codes "  " ++ around means s.tape at ++ codes "\n"

-- the lines of the first three places of a frame in a tape
abbrev pub tape_lines : Meanings → ℕ → Surveyed → List ℕ
tape_lines means frame s = flat_map (place_line means s) (take 3 (places_in frame s.tape))

-- the word of a meaning: a matrix by its name, a function by its own, and a line where there is none
abbrev pub meaning_word : Option Meaning → List ℕ
meaning_word None = codes "-"
meaning_word (Some (meanings.Matrix name)) = name
meaning_word (Some meanings.Shift) = codes "@shift"
meaning_word (Some meanings.Unshift) = codes "@unshift"
meaning_word (Some meanings.Elevate) = codes "@elevate"
meaning_word (Some meanings.Return) = codes "@return"
meaning_word (Some meanings.Spaceband) = codes "@spaceband"
meaning_word (Some meanings.Thin) = codes "@thin"
meaning_word (Some meanings.En) = codes "@en"
meaning_word (Some meanings.Em) = codes "@em"
meaning_word (Some meanings.Upper) = codes "@upper"
meaning_word (Some meanings.Lower) = codes "@lower"
meaning_word (Some meanings.QuadLeft) = codes "@quadleft"
meaning_word (Some meanings.QuadCenter) = codes "@quadcenter"
meaning_word (Some meanings.QuadRight) = codes "@quadright"
meaning_word (Some meanings.Ignore) = codes "@ignore"

-- what a frame lacks that means this: a meaning, or a width of the matrix that it means
abbrev pub lack_in : WidthFile → Option Meaning → Option Lack
lack_in widths None = Some lacks.Meaning
lack_in widths (Some (meanings.Matrix name)) = if is_some (width_of widths name) then None else Some lacks.Width
lack_in widths (Some _) = None

-- the word of what a frame lacks in each case
abbrev pub lack_word : Option Lack → Option Lack → List ℕ
lack_word (Some lacks.Meaning) second = codes "meaning"
lack_word (Some lacks.Width) second = codes "width"
lack_word None second = if is_some second then codes "width" else []

-- the word of what a frame lacks by a table and widths
abbrev pub lack_of : Meanings → WidthFile → ℕ → List ℕ
lack_of means widths frame = lack_word (lack_in widths (means Unshift frame)) (lack_in widths (means Shift frame))

-- the row of a frame that comes so often: its number, its holes, how often it comes, what it lacks, and its meanings
abbrev pub frame_row : Meanings → WidthFile → ℕ → ℕ → List ℕ
frame_row means widths frame times =
    on_the_right 5 (decimal frame) ++ codes "  " ++ holes_of frame ++ on_the_right 9 (decimal times) ++ codes "  "
    ++ on_the_left 9 (lack_of means widths frame) ++ on_the_left 14 (meaning_word (means Unshift frame)) ++ meaning_word (means Shift frame) ++ codes "\n"

-- the 64 frames, in order
unfoldable pub all_frames : List ℕ
all_frames = before 64

-- the row of a frame, and the lines of its first places
abbrev pub frame_text_of : Meanings → WidthFile → List Surveyed → ℕ → List ℕ
frame_text_of means widths tapes frame = frame_row means widths frame (times_in frame tapes) ++ flat_map (tape_lines means frame) tapes

-- a frame comes, and lacks something
abbrev pub is_wanted : Meanings → WidthFile → List Surveyed → ℕ → Bool
is_wanted means widths tapes frame = not (times_in frame tapes == 0) && not (length (lack_of means widths frame) == 0)

-- the head of a survey
unfoldable pub head_text : List ℕ
head_text = codes "frame  holes     times  lacks    unshift       shift\n"

-- its last line: how many frames come and lack a meaning or a width
unfoldable pub foot_text : ℕ → List ℕ
foot_text wanted = codes "frames that come and lack something: " ++ decimal wanted ++ codes "\n"

-- the survey of tapes by a table and widths
abbrev pub survey_text : Meanings → WidthFile → List Surveyed → List ℕ
survey_text means widths tapes =
    head_text ++ flat_map (frame_text_of means widths tapes) all_frames ++ foot_text (count_by (is_wanted means widths tapes) all_frames)

-- to what is surveyed this tape is added, by its path
pub record IsAdded (path bytes : List ℕ) (old new : List Surveyed) : Type 0 where
  pub tape : Surveyed
  pub name : string_bytes tape.name ≡ path
  pub frames : tape.tape ≡ bytes
  pub added : new ≡ old ++ tape ∷ []

-- a survey of no tape yet by a code table and widths of these texts, where they are known
pub record IsBegun (table widths : Option (List ℕ)) (survey : Survey) : Type 0 where
  pub table_read : IfSome table (λ ts. read_table (parse_document ts) ≡ Ok survey.table)
  pub widths_read : IfSome widths (λ ws. read_widths (parse_document ws) ≡ Ok survey.widths)
  pub no_tape : survey.tapes.items ≡ []
