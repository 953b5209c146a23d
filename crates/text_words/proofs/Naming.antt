-- A name in braces is ASCII text.
use Rattle.std.proofs.Common.{◌≡◌, ℕ, zero, suc, ◌+◌, ◌<◌, ◌≤◌, true, false, cond, not, ◌==◌, IsTrue, List, [], ◌∷◌, ◌++◌, ◌-◌, length, take, drop, get_or, refl, ◌∙◌, ap, arith, add-one, length-append, length-drop}
use Rattle.std.proofs.Math.Seq.{get_or-append_seam}
use Rattle.std.proofs.Math.Seq.{take-length}
use Rattle.std.specs.List.{list_all}
use Rattle.std.specs.Str.{IsUtf8, IsAscii}
use Rattle.std.proofs.lemmas.Str.{IsUtf8-from_ascii}
use Rattle.std.proofs.lemmas.Bool.{and_parts}
use Rattle.std.proofs.lemmas.Bool.Decides.{nat_tests}
use Rattle.code_table.specs.Names.{is_printed}
use Rattle.text_words.specs.Words.{is_inner, is_in_braces, inner_len, named_word, byte_word, IsPiece, lone, braced}
use Rattle.std.proofs.Common.{Option}
use Rattle.text_words.specs.declared.word.Word.{Word}

pub is_printed-low : (byte : ℕ) → is_printed byte ≡ true → byte < 128
is_printed-low byte h = grind (arith, nat_tests, and_parts)

inner-IsAscii : (text : List ℕ) → list_all is_inner text ≡ true → IsAscii text
inner-IsAscii [] h i = omega arith
inner-IsAscii (byte ∷ rest) h zero = is_printed-low byte (and_parts (is_printed byte) (not (byte == 125)) (and_parts _ _ h).0).0
inner-IsAscii (byte ∷ rest) h (suc i) = inner-IsAscii rest (and_parts _ _ h).1 i

in_braces-IsAscii : (name : List ℕ) → is_in_braces name ≡ true → IsAscii name
in_braces-IsAscii [] h i = absurd cc
in_braces-IsAscii (first ∷ rest) h zero = is_printed-low first (and_parts (is_printed first) (list_all is_inner rest) h).0
in_braces-IsAscii (first ∷ rest) h (suc i) = inner-IsAscii rest (and_parts (is_printed first) (list_all is_inner rest) h).1 i

pub in_braces_utf8 : (name : List ℕ) → IsTrue (is_in_braces name) → IsUtf8 name
in_braces_utf8 name h = IsUtf8-from_ascii name (in_braces-IsAscii name h)

-- the bytes of a name go on as far as they are counted
pub inner_all : (text : List ℕ) → list_all is_inner (take (inner_len text) text) ≡ true
inner_all [] = refl
inner_all (byte ∷ rest) =
    elim (is_inner byte) as (λ b. is_inner byte ≡ b → list_all is_inner (take (cond b (suc (inner_len rest)) zero) (byte ∷ rest)) ≡ true) [
      | true ↦ λ e. rw e (inner_all rest)
      | false ↦ λ e. refl
    ] refl

-- and up to a closing brace
pub inner_up_to : (inner rest : List ℕ) → list_all is_inner inner ≡ true → inner_len (inner ++ 125 ∷ rest) ≡ length inner
inner_up_to [] rest h = refl
inner_up_to (byte ∷ inner) rest h =
    let parts = and_parts (is_inner byte) (list_all is_inner inner) h in
    rw parts.0 (ap suc (inner_up_to inner rest parts.1))

-- the slice from a place on
pub rest_is : (text : List ℕ) (at : ℕ) → take (length text - at) (drop at text) ≡ drop at text
rest_is text at = rw (← (length-drop at text)) (take-length (drop at text))

-- the slice behind the first byte
pub tail_is : (text : List ℕ) → take (length text - 1) (drop 1 text) ≡ drop 1 text
tail_is text = rest_is text 1

pub name_is : (behind inner : List ℕ) (len : ℕ) → inner ≡ drop 1 behind → 1 ≤ length behind → len ≡ inner_len inner → is_printed (get_or behind 0 0) ≡ true → is_in_braces (take (len + 1) behind) ≡ true
name_is [] inner len tail some e h = absurd (omega arith)
name_is (first ∷ rest) inner len tail some e h = rw (add-one, e, h, tail) (inner_all rest)

pub unclosed_by :
    (behind inner : List ℕ) (len : ℕ) → inner ≡ drop 1 behind → len ≡ inner_len inner
    → (is_printed (get_or behind 0 0) ≡ true → len < length inner → get_or inner len 0 ≡ 125 → ⊥)
    → (name rest : List ℕ) → is_in_braces name ≡ true → behind ≡ name ++ 125 ∷ rest → ⊥
unclosed_by behind inner len tail e none [] rest h is = absurd cc
unclosed_by behind inner len tail e none (first ∷ more) rest h is =
    let parts = and_parts (is_printed first) (list_all is_inner more) h in
    let inner_is : inner ≡ more ++ 125 ∷ rest = rw is at tail in
    let many : len ≡ length more = e ∙ rw inner_is (inner_up_to more rest parts.1) in
    let fits : length more < length (more ++ 125 ∷ rest) = omega (arith, length-append more (125 ∷ rest)) in
    none (rw is parts.0) (rw (inner_is, many) fits) (rw (inner_is, many) (get_or-append_seam more 125 rest 0))

pub one_byte : (text : List ℕ) (said : Option Word) → 1 ≤ length text → (get_or text 0 0 ≡ 123 → ⊥) → said ≡ byte_word (get_or text 0 0) → IsPiece (take 1 text) said
one_byte [] said some ne is = absurd (omega arith)
one_byte (b ∷ rest) said some ne is = lone b said ne is

take_closed : (len : ℕ) (behind : List ℕ) → len < length behind → get_or behind len 0 ≡ 125 → take (suc len) behind ≡ take len behind ++ 125 ∷ []
take_closed len [] l e = absurd (omega arith)
take_closed zero (b ∷ behind) l e = ap (λ x. x ∷ []) e
take_closed (suc len) (b ∷ behind) l e = ap (λ xs. b ∷ xs) (take_closed len behind (omega arith) e)

pub in_braces :
    (text behind : List ℕ) (len : ℕ) (said : Option Word) → behind ≡ drop 1 text → 1 ≤ length text → get_or text 0 0 ≡ 123
    → len < length behind → IsTrue (is_in_braces (take len behind)) → get_or behind len 0 ≡ 125 → said ≡ named_word (take len behind)
    → IsPiece (take (len + 2) text) said
in_braces [] behind len said tail some first fits name closed is = absurd (omega arith)
in_braces (b ∷ rest) behind len said tail some first fits name closed is =
    let two : len + 2 ≡ suc (suc len) = omega arith in
    let here : get_or rest len 0 ≡ 125 = rw tail at closed in
    let within : len < length rest = rw tail at fits in
    rw (two, first, take_closed len rest within here) (braced (take len rest) said (rw tail at name) (rw tail at is))
