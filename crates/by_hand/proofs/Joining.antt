-- The lines of a text, one behind the other.
use Rattle.std.proofs.Common.{◌≡◌, ◌<◌, ◌+◌, ◌++◌, ◌∙◌, ℕ, List, [], ◌∷◌, flat_map, ap, sym, subst, append-nil}
use Rattle.std.proofs.lemmas.List.{append_assoc}
use Rattle.std.proofs.lemmas.Grind.{flat_map-append}
use Rattle.by_hand.specs.Hands.{HandValue}
use Rattle.by_hand.specs.declared.lines.HandLine.{HandLine}
use Rattle.by_hand.specs.Texts.{line_text, IsLineFrom, AreLinesFrom}

-- whatever lines follow from a number on, they are those from the first on with these before them
abbrev pub Joins : HandValue → ℕ → List HandLine → Type 0
Joins h start ls = (more : List HandLine) → AreLinesFrom h start more → AreLinesFrom h h.first (ls ++ more)

-- the text of one line more
pub text_of_more : (ls : List HandLine) (l : HandLine) (text : List ℕ) → text ≡ flat_map line_text ls → text ++ line_text l ≡ flat_map line_text (ls ++ l ∷ [])
text_of_more ls l text is =
    ap (λ (t : List ℕ). t ++ line_text l) is
    ∙ ap (λ (t : List ℕ). flat_map line_text ls ++ t) (sym (append-nil (line_text l)))
    ∙ sym (flat_map-append line_text ls (l ∷ []))

-- one line more
pub joins_more : (h : HandValue) (start : ℕ) (ls : List HandLine) (l : HandLine) → Joins h start ls → IsLineFrom h start l → Joins h (l.last + 1) (ls ++ l ∷ [])
joins_more h start ls l joins is more follow =
    subst (λ (k : List HandLine). AreLinesFrom h h.first k) (sym (append_assoc ls (l ∷ []) more)) (joins (l ∷ more) (is, follow))

-- behind the range there are no more
pub joins_end : (h : HandValue) (start : ℕ) (ls : List HandLine) → Joins h start ls → h.last < start → AreLinesFrom h h.first ls
joins_end h start ls joins past = subst (λ (k : List HandLine). AreLinesFrom h h.first k) (append-nil ls) (joins [] past)
