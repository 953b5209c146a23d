-- The text of what came of a range: a line for each row of numbers of which the same came.
use Rattle.std.specs.Prelude.{◌≡◌, ◌≤◌, ◌<◌, ◌+◌, ℕ, ◌==◌, List, [], ◌∷◌, ◌++◌, flat_map, if◌then◌else◌, codes, decimal}
use Rattle.by_hand.specs.declared.answer.SearchEnd.{SearchEnd}
use Rattle.by_hand.specs.declared.lines.HandLine.{HandLine}
use Rattle.by_hand.specs.Answers.{answer_word}
use Rattle.by_hand.specs.Hands.{HandValue, answer_of}

-- the numbers of a line: `41`, or `43-47`
abbrev pub numbers_text : HandLine → List ℕ
numbers_text l = if l.first == l.last then decimal l.first else decimal l.first ++ (codes "-" ++ decimal l.last)

-- a line: its numbers, and what came of each
abbrev pub line_text : HandLine → List ℕ
line_text l = numbers_text l ++ (codes " " ++ (answer_word l.answer ++ codes "\n"))

-- the longest line from a number on: the same came of all its numbers, and of the one behind it, if there is one in the range, something else
pub record IsLineFrom (h : HandValue) (start : ℕ) (l : HandLine) : Type 0 where
  pub first : l.first ≡ start
  pub rises : l.first ≤ l.last
  pub within : l.last ≤ h.last
  pub all : (n : ℕ) → l.first ≤ n → n ≤ l.last → answer_of h n ≡ l.answer
  pub whole : l.last < h.last → ¬ (answer_of h (l.last + 1) ≡ l.answer)

-- the number is the one behind another, is one of the range, and has this answer
pub record IsNextWith (h : HandValue) (number : ℕ) (answer : SearchEnd) (next : ℕ) : Type 0 where
  pub follows : next ≡ number + 1
  pub within : next ≤ h.last
  pub answers : answer_of h next ≡ answer

-- these are the lines from a number on, each behind the one before it, up to the end of the range
abbrev pub AreLinesFrom : HandValue → ℕ → List HandLine → Type 0
AreLinesFrom h start [] = h.last < start
AreLinesFrom h start (l ∷ ls) = IsLineFrom h start l × AreLinesFrom h (l.last + 1) ls

-- the text is that of the lines of the whole range
abbrev pub IsTextOf : HandValue → List ℕ → Type 0
IsTextOf h text = (ls : List HandLine) × AreLinesFrom h h.first ls × (text ≡ flat_map line_text ls)
