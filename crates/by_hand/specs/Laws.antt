-- What the text of a range is worth.
use Rattle.std.specs.Prelude.{◌≡◌, ◌≤◌, ℕ, Bool, ◌&&◌, nat_le, List, [], ◌∷◌, filter}
use Rattle.by_hand.specs.declared.lines.HandLine.{HandLine}
use Rattle.by_hand.specs.Hands.{HandValue, answer_of}
use Rattle.by_hand.specs.Texts.{AreLinesFrom, IsTextOf}

-- the number stands in the line
abbrev pub is_in : ℕ → HandLine → Bool
is_in n l = nat_le l.first n && nat_le n l.last

-- of these lines one has the number, with what came of it, and no other has it
abbrev pub IsNamedOnce : HandValue → List HandLine → ℕ → Type 0
IsNamedOnce h ls n = (l : HandLine) × (filter (is_in n) ls ≡ l ∷ []) × (l.answer ≡ answer_of h n)

-- each number of the range stands in one line
abbrev pub EachIsNamedOnce : Type 0
EachIsNamedOnce = (h : HandValue) (ls : List HandLine) → AreLinesFrom h h.first ls → (n : ℕ) → h.first ≤ n → n ≤ h.last → IsNamedOnce h ls n

-- no two texts are those of a range
abbrev pub OneText : Type 0
OneText = (h : HandValue) (a b : List ℕ) → IsTextOf h a → IsTextOf h b → a ≡ b
