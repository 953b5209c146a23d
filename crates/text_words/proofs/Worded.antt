-- A word that is written is read again.
use Rattle.std.proofs.Common.{◌≡◌, ℕ, ◌+◌, ◌-◌, ◌*◌, ◌/◌, ◌%◌, ◌<◌, ◌≤◌, true, false, cond, not, nat_le, eqb, ◌==◌, ◌&&◌, List, [], ◌∷◌, Some, None, codes, refl, arith, length, inl, inr}
use Rattle.std.specs.List.{list_all}
use Rattle.std.proofs.lemmas.Bool.{and_parts, not-true, ltb-true, cases_lt, lt-ltb, le-ltb}
use Rattle.std.proofs.lemmas.Bool.Decides.{nat_tests}
use Rattle.code_table.specs.Names.{is_name, is_printed}
use Rattle.code_table.specs.Texts.{meaning_of, matrix_of, function_of}
use Rattle.code_table.specs.declared.meaning.Meaning.{Meaning}
use Rattle.code_table.specs.declared.meaning.Meaning.TheVariants as meanings
use Rattle.text_words.specs.declared.word.Word.TheVariants.{Means, Frame}
use Rattle.text_words.specs.Words.{IsPiece, lone, braced, byte_word, named_word, frame_named, is_digit, is_inner, is_in_braces}
use Rattle.text_words.specs.Writing.{braced_text, frame_text, matrix_text, meaning_text, has_word}
use Rattle.text_words.specs.Laws.{IsReadAgain}

-- a name of a matrix is the name of no function
first_apart : (first : ℕ) (rest : List ℕ) → is_name (first ∷ rest) ≡ true → eqb first 64 ≡ false
first_apart first rest h = not-true (eqb first 64) (and_parts (not (first == 64)) (nat_le (length (first ∷ rest)) 8 && list_all is_printed (first ∷ rest)) h).0

function_none : (name : List ℕ) → is_name name ≡ true → function_of name ≡ None
unfolding function_of
function_none [] h = absurd cc
function_none (first ∷ rest) h = rw (first_apart first rest h) refl

matrix_is : (name : List ℕ) → is_name name ≡ true → matrix_of name ≡ Some (meanings.Matrix name)
unfolding matrix_of
matrix_is name h = rw h refl

meaning_is : (name : List ℕ) → is_name name ≡ true → meaning_of name ≡ Some (meanings.Matrix name)
unfolding meaning_of
meaning_is name h = rw (function_none name h) (matrix_is name h)

-- nor does it give a frame by its number
number_none : (name : List ℕ) → is_name name ≡ true → frame_named name ≡ None
number_none [] h = absurd cc
number_none (a ∷ []) h = refl
number_none (a ∷ b ∷ []) h = rw (first_apart a (b ∷ []) h) refl
number_none (a ∷ b ∷ c ∷ []) h = rw (first_apart a (b ∷ c ∷ []) h) refl
number_none (a ∷ b ∷ c ∷ d ∷ rest) h = refl

matrix_named : (name : List ℕ) → is_name name ≡ true → Some (Means (meanings.Matrix name)) ≡ named_word name
unfolding named_word
matrix_named name h = rw (number_none name h, meaning_is name h) refl

first_printed : (b : ℕ) (rest : List ℕ) → is_name (b ∷ rest) ≡ true → is_printed b ≡ true
first_printed b rest h =
    let p = and_parts (not (b == 64)) (nat_le (length (b ∷ rest)) 8 && list_all is_printed (b ∷ rest)) h in
    let q = and_parts (nat_le (length (b ∷ rest)) 8) (list_all is_printed (b ∷ rest)) p.1 in
    (and_parts (is_printed b) (list_all is_printed rest) q.1).0

printed_low : (b : ℕ) → is_printed b ≡ true → 33 ≤ b
printed_low b h = grind (arith, nat_tests, and_parts)

apart_from : (b n : ℕ) → n < b → eqb b n ≡ false
apart_from b n h = grind (arith, nat_tests)

byte_is : (b : ℕ) → is_name (b ∷ []) ≡ true → eqb b 123 ≡ false → Some (Means (meanings.Matrix (b ∷ []))) ≡ byte_word b
byte_is b h ne =
    let low = printed_low b (first_printed b [] h) in
    rw (apart_from b 10 (omega (arith, low)), apart_from b 13 (omega (arith, low)), apart_from b 32 (omega (arith, low)), ne, matrix_is (b ∷ []) h) refl

ne_123 : (b : ℕ) → eqb b 123 ≡ false → b ≡ 123 → ⊥
ne_123 b h e = grind (arith, nat_tests)

one_matrix : (b : ℕ) → is_name (b ∷ []) ≡ true → is_in_braces (b ∷ []) ≡ true → IsPiece (matrix_text (b ∷ [])) (Some (Means (meanings.Matrix (b ∷ []))))
one_matrix b h k =
    elim (eqb b 123) as (λ t. eqb b 123 ≡ t → IsPiece (cond t (123 ∷ b ∷ 125 ∷ []) (b ∷ [])) (Some (Means (meanings.Matrix (b ∷ []))))) [
      | true ↦ λ e. braced (b ∷ []) _ k (matrix_named (b ∷ []) h)
      | false ↦ λ e. lone b _ (ne_123 b e) (byte_is b h e)
    ] refl

matrix_piece : (name : List ℕ) → is_name name ≡ true → is_in_braces name ≡ true → IsPiece (matrix_text name) (Some (Means (meanings.Matrix name)))
matrix_piece [] h k = absurd cc
matrix_piece (b ∷ []) h k = one_matrix b h k
matrix_piece (b ∷ c ∷ rest) h k = braced (b ∷ c ∷ rest) _ k (matrix_named (b ∷ c ∷ rest) h)

pub meaning_piece : (m : Meaning) → has_word m ≡ true → IsPiece (meaning_text m) (Some (Means m))
unfolding named_word meaning_of function_of
meaning_piece (meanings.Matrix name) h =
    let p = and_parts (is_name name) (is_in_braces name) h in
    matrix_piece name p.0 p.1
meaning_piece meanings.Shift h = braced (codes "@shift") _ refl refl
meaning_piece meanings.Unshift h = braced (codes "@unshift") _ refl refl
meaning_piece meanings.Elevate h = lone 10 _ (λ e. absurd (omega (arith, e))) refl
meaning_piece meanings.Return h = braced (codes "@return") _ refl refl
meaning_piece meanings.Spaceband h = lone 32 _ (λ e. absurd (omega (arith, e))) refl
meaning_piece meanings.Thin h = braced (codes "@thin") _ refl refl
meaning_piece meanings.En h = braced (codes "@en") _ refl refl
meaning_piece meanings.Em h = braced (codes "@em") _ refl refl
meaning_piece meanings.Upper h = braced (codes "@upper") _ refl refl
meaning_piece meanings.Lower h = braced (codes "@lower") _ refl refl
meaning_piece meanings.QuadLeft h = braced (codes "@quadleft") _ refl refl
meaning_piece meanings.QuadCenter h = braced (codes "@quadcenter") _ refl refl
meaning_piece meanings.QuadRight h = braced (codes "@quadright") _ refl refl
meaning_piece meanings.Ignore h = braced (codes "@ignore") _ refl refl

digit_is : (n : ℕ) → n < 10 → is_digit (48 + n) ≡ true
digit_is n h = grind (arith, nat_tests)

digit_inner : (n : ℕ) → n < 10 → is_inner (48 + n) ≡ true
digit_inner n h = grind (arith, nat_tests)

one_digit : (f : ℕ) → f < 10 → IsPiece (braced_text (64 ∷ (48 + f) ∷ [])) (Some (Frame f))
unfolding named_word
one_digit f h =
    let back : 48 + f - 48 ≡ f = omega arith in
    braced (64 ∷ (48 + f) ∷ []) _ (rw (digit_inner f h) refl) (rw (digit_is f h, back) refl)

ten_is : (f : ℕ) → 10 ≤ f → f < 64 → nat_le 49 (48 + f / 10) ≡ true
ten_is f h k = let q : 1 ≤ f / 10 = omega (arith, h) in grind (arith, nat_tests)

ten_fits : (f : ℕ) → f < 64 → nat_le (48 + f / 10) 57 ≡ true
ten_fits f k = let q : f / 10 ≤ 6 = omega (arith, k) in grind (arith, nat_tests)

number_fits : (f : ℕ) → f < 64 → nat_le f 63 ≡ true
number_fits f k = grind (arith, nat_tests)

two_digits : (f : ℕ) → 10 ≤ f → f < 64 → IsPiece (braced_text (64 ∷ (48 + f / 10) ∷ (48 + f % 10) ∷ [])) (Some (Frame f))
unfolding named_word
two_digits f h k =
    let tens : f / 10 < 10 = omega (arith, k) in
    let units : f % 10 < 10 = omega arith in
    let back : 10 * (48 + f / 10 - 48) + (48 + f % 10 - 48) ≡ f = omega arith in
    braced (64 ∷ (48 + f / 10) ∷ (48 + f % 10) ∷ []) _
    (rw (digit_inner (f / 10) tens, digit_inner (f % 10) units) refl)
    (rw (ten_is f h k, ten_fits f k, digit_is (f % 10) units, back, number_fits f k) refl)

pub frame_piece : (f : ℕ) → f < 64 → IsPiece (frame_text f) (Some (Frame f))
frame_piece f k =
    elim (cases_lt f 10) [
      | inl low ↦ rw (lt-ltb f 10 low) (one_digit f low)
      | inr high ↦ rw (le-ltb f 10 high) (two_digits f high k)
    ]

pub read_again : IsReadAgain
read_again (Means m) h = meaning_piece m h
read_again (Frame f) h = frame_piece f (ltb-true f 64 h)
