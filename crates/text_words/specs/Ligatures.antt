-- Ligatures: letters of a text that are taken as one matrix, where they stand outside braces.
use Rattle.std.specs.Prelude.{◌≡◌, ◌≤◌, ℕ, List, [], ◌∷◌, Option, length, take, max, nat_le, ◌&&◌, option_map, if◌then◌else◌}
use Rattle.std.specs.Str.{bytes_eq}
use Rattle.code_table.specs.Texts.{matrix_of}
use Rattle.text_words.specs.Words.{IsPiece}
use Rattle.text_words.specs.declared.word.Word.{Word}
use Rattle.text_words.specs.declared.word.Word.TheVariants.{Means}

-- how many bytes of a text a name takes, where the text begins with it; none where it does not
abbrev pub begun_by : List ℕ → List ℕ → ℕ
begun_by text name = if nat_le (length name) (length text) && bytes_eq (take (length name) text) name then length name else 0

-- how many bytes the longest of some names takes of a text; none where the text begins with none of them
abbrev pub longest_len : List (List ℕ) → List ℕ → ℕ
longest_len [] text = 0
longest_len (name ∷ names) text = max (begun_by text name) (longest_len names text)

-- the matrix of this name, as a word
abbrev pub matrix_word : List ℕ → Option Word
matrix_word name = option_map (λ m. Means m) (matrix_of name)

-- a text begins with so many bytes that are read as one, and the word that they say, if any: the longest ligature with which it
-- begins is the matrix of that name, and where it begins with none, its first piece is read
pub data IsFirst (ligatures : List (List ℕ)) (text : List ℕ) : ℕ → Option Word → Type 0 where
  joined : (len : ℕ) (said : Option Word) → len ≡ longest_len ligatures text → 1 ≤ len → said ≡ matrix_word (take len text) → IsFirst ligatures text len said
  apart : (len : ℕ) (said : Option Word) → longest_len ligatures text ≡ 0 → len ≤ length text → IsPiece (take len text) said → IsFirst ligatures text len said

-- the first piece of a text has so many bytes, one at least and no more than there are, and says this word, if any
pub record IsFirstPiece (ligatures : List (List ℕ)) (text : List ℕ) (len : ℕ) (said : Option Word) : Type 0 where
  pub some : 1 ≤ len
  pub within : len ≤ length text
  pub is_first : IsFirst ligatures text len said
