-- How a word is written.
use Rattle.std.specs.Prelude.{ℕ, ◌+◌, ◌/◌, ◌%◌, List, [], ◌∷◌, ◌++◌, codes, Bool, true, nat_lt, ◌==◌, ◌&&◌, if◌then◌else◌}
use Rattle.code_table.specs.Names.{is_name}
use Rattle.code_table.specs.declared.meaning.Meaning.{Meaning}
use Rattle.code_table.specs.declared.meaning.Meaning.TheVariants as meanings
use Rattle.text_words.specs.Words.{is_in_braces}
use Rattle.text_words.specs.declared.word.Word.{Word}
use Rattle.text_words.specs.declared.word.Word.TheVariants.{Means, Frame}

-- a name in braces
abbrev pub braced_text : List ℕ → List ℕ
braced_text name = 123 ∷ name ++ 125 ∷ []

-- a number below 100 in as few digits as it takes
abbrev pub digits_of : ℕ → List ℕ
digits_of n = if nat_lt n 10 then (48 + n) ∷ [] else (48 + n / 10) ∷ (48 + n % 10) ∷ []

-- a frame by its number
abbrev pub frame_text : ℕ → List ℕ
frame_text frame = braced_text (64 ∷ digits_of frame)

-- a matrix: a name of one byte stands for itself, but for an open brace; any other stands in braces
abbrev pub matrix_text : List ℕ → List ℕ
matrix_text (byte ∷ []) = if byte == 123 then braced_text (byte ∷ []) else byte ∷ []
matrix_text name = braced_text name

-- how a meaning is written: an elevate as a line feed, a spaceband as a blank, the other functions by their names in braces
abbrev pub meaning_text : Meaning → List ℕ
meaning_text (meanings.Matrix name) = matrix_text name
meaning_text meanings.Shift = braced_text (codes "@shift")
meaning_text meanings.Unshift = braced_text (codes "@unshift")
meaning_text meanings.Elevate = 10 ∷ []
meaning_text meanings.Return = braced_text (codes "@return")
meaning_text meanings.Spaceband = 32 ∷ []
meaning_text meanings.Thin = braced_text (codes "@thin")
meaning_text meanings.En = braced_text (codes "@en")
meaning_text meanings.Em = braced_text (codes "@em")
meaning_text meanings.Upper = braced_text (codes "@upper")
meaning_text meanings.Lower = braced_text (codes "@lower")
meaning_text meanings.QuadLeft = braced_text (codes "@quadleft")
meaning_text meanings.QuadCenter = braced_text (codes "@quadcenter")
meaning_text meanings.QuadRight = braced_text (codes "@quadright")
meaning_text meanings.Ignore = braced_text (codes "@ignore")

-- how a word is written
abbrev pub word_text : Word → List ℕ
word_text (Means m) = meaning_text m
word_text (Frame frame) = frame_text frame

-- a meaning has a word: a matrix has none where a closing brace stands behind the first byte of its name
abbrev pub has_word : Meaning → Bool
has_word (meanings.Matrix name) = is_name name && is_in_braces name
has_word _ = true

-- a word can be written: its meaning has a word, or its frame is one
abbrev pub is_written : Word → Bool
is_written (Means m) = has_word m
is_written (Frame frame) = nat_lt frame 64
