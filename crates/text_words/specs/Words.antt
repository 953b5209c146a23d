-- The words of a text: what a byte says, and what a name in braces says.
use Rattle.std.specs.Prelude.{◌≡◌, ℕ, zero, suc, ◌+◌, ◌-◌, ◌*◌, List, [], ◌∷◌, ◌++◌, Bool, false, Option, Some, None, IsTrue, length, take, ◌≤◌, option_map, not, nat_le, ◌==◌, ◌&&◌, if◌then◌else◌}
use Rattle.std.specs.List.{list_all}
use Rattle.code_table.specs.Names.{is_printed}
use Rattle.code_table.specs.Texts.{matrix_of, meaning_of}
use Rattle.code_table.specs.declared.meaning.Meaning.TheVariants.{Elevate, Return, Spaceband}
use Rattle.text_words.specs.declared.word.Word.{Word}
use Rattle.text_words.specs.declared.word.Word.TheVariants.{Means, Frame}

-- what a byte says by itself: a line feed elevates, a carriage return is the return, a blank is a spaceband, and a byte
-- that prints is the matrix of that name; an open brace says nothing by itself, nor does any other byte
abbrev pub byte_word : ℕ → Option Word
byte_word byte =
    if byte == 10 then Some (Means Elevate) else
    if byte == 13 then Some (Means Return) else
    if byte == 32 then Some (Means Spaceband) else
    if byte == 123 then None else option_map (λ m. Means m) (matrix_of (byte ∷ []))

-- a decimal digit
abbrev pub is_digit : ℕ → Bool
is_digit byte = nat_le 48 byte && nat_le byte 57

-- the frame that a name in braces gives by its number: `@` and 0 to 63, in as few digits as it takes
abbrev pub frame_named : List ℕ → Option ℕ
frame_named (sign ∷ unit ∷ []) = if sign == 64 && is_digit unit then Some (unit - 48) else None
frame_named (sign ∷ ten ∷ unit ∷ []) =
    if sign == 64 && (nat_le 49 ten && (nat_le ten 57 && (is_digit unit && nat_le (10 * (ten - 48) + (unit - 48)) 63)))
    then Some (10 * (ten - 48) + (unit - 48))
    else None
frame_named _ = None

-- what a name in braces says: a frame by its number, or what it means in a code table
abbrev pub name_word : Option ℕ → List ℕ → Option Word
name_word (Some frame) name = Some (Frame frame)
name_word None name = option_map (λ m. Means m) (meaning_of name)

-- the same, of a name
unfoldable pub named_word : List ℕ → Option Word
named_word name = name_word (frame_named name) name

-- a byte of a name in braces behind its first: it prints, and is no closing brace
abbrev pub is_inner : ℕ → Bool
is_inner byte = is_printed byte && not (byte == 125)

-- a name in braces has one byte or more, each of which prints; a closing brace can only be the first
abbrev pub is_in_braces : List ℕ → Bool
is_in_braces [] = false
is_in_braces (first ∷ rest) = is_printed first && list_all is_inner rest

-- how many bytes of a name, behind its first, a text begins with
abbrev pub inner_len : List ℕ → ℕ
inner_len [] = zero
inner_len (byte ∷ rest) = if is_inner byte then suc (inner_len rest) else zero

-- a piece of a text, and the word that it says, if any: a byte that opens no brace, or a name in braces
pub data IsPiece : List ℕ → Option Word → Type 0 where
  lone : (b : ℕ) (said : Option Word) → (b ≡ 123 → ⊥) → said ≡ byte_word b → IsPiece (b ∷ []) said
  braced : (name : List ℕ) (said : Option Word) → IsTrue (is_in_braces name) → said ≡ named_word name → IsPiece (123 ∷ name ++ 125 ∷ []) said

-- a text begins with a piece of so many bytes, which says this word, if any
pub record BeginsWith (text : List ℕ) (len : ℕ) (said : Option Word) : Type 0 where
  pub some : 1 ≤ len
  pub within : len ≤ length text
  pub is_piece : IsPiece (take len text) said

-- a text begins with no name and a closing brace behind it
abbrev pub IsUnclosed : List ℕ → Type 0
IsUnclosed text = (name rest : List ℕ) → IsTrue (is_in_braces name) → text ≡ name ++ 125 ∷ rest → ⊥

-- a text begins with a brace that is not closed
pub record HasNoEnd (text : List ℕ) : Type 0 where
  pub behind : List ℕ
  pub open_brace : text ≡ 123 ∷ behind
  pub unclosed : IsUnclosed behind
