-- The laws of words.
use Rattle.std.specs.Prelude.{◌≡◌, ℕ, List, ◌++◌, Option, Some, IsTrue}
use Rattle.text_words.specs.Words.{IsPiece}
use Rattle.text_words.specs.Ligatures.{IsFirst}
use Rattle.text_words.specs.Writing.{word_text, is_written}
use Rattle.text_words.specs.declared.word.Word.{Word}

-- two pieces with which one text begins are the same, and say the same
abbrev pub OnePiece : Type 0
OnePiece = (a b : List ℕ) (x y : Option Word) (r s : List ℕ) → IsPiece a x → IsPiece b y → a ++ r ≡ b ++ s → (a ≡ b) × (x ≡ y)

-- a word that is written is read again as that word
abbrev pub IsReadAgain : Type 0
IsReadAgain = (word : Word) → IsTrue (is_written word) → IsPiece (word_text word) (Some word)

-- a text is begun in one way, whatever the ligatures
abbrev pub OneBeginning : Type 0
OneBeginning = (ligatures : List (List ℕ)) (text : List ℕ) (m n : ℕ) (x y : Option Word) → IsFirst ligatures text m x → IsFirst ligatures text n y → (m ≡ n) × (x ≡ y)
