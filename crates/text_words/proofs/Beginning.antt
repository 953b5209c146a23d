-- A text is begun in one way, also where it has ligatures.
use Rattle.std.proofs.Common.{◌≡◌, Bool, true, false, cond, nat_le, ◌&&◌, ◌<◌, ◌≤◌, ◌+◌, ℕ, List, [], ◌∷◌, ◌++◌, length, take, drop, get_or, Option, Some, None, refl, sym, ◌∙◌, ap, arith}
use Rattle.std.specs.Prelude.{IfSome, max}
use Rattle.std.specs.List.{list_all}
use Rattle.std.proofs.lemmas.Bool.{and_parts}
use Rattle.std.proofs.lemmas.Bool.Decides.{nat_tests}
use Rattle.std.proofs.lemmas.List.{take-append-drop, take_more, length-take}
use Rattle.text_words.specs.declared.word.Word.{Word}
use Rattle.text_words.specs.declared.piece.TextPiece.{TextPiece}
use Rattle.text_words.specs.Words.{BeginsWith}
use Rattle.text_words.specs.Ligatures.{begun_by, longest_len, matrix_word, IsFirst, IsFirstPiece, joined, apart}
use Rattle.text_words.specs.Laws.{OneBeginning}
use Rattle.text_words.proofs.Pieces.{pieces_alike}

take_len : (len : ℕ) (text : List ℕ) → len ≤ length text → length (take len text) ≡ len
take_len len text h = omega (arith, length-take len text)

-- a piece that is read is the first, where no ligature is
pub apart_first :
    (ligatures : List (List ℕ)) (text : List ℕ) (o : Option TextPiece) → longest_len ligatures text ≡ 0 → IfSome o (λ piece. BeginsWith text piece.len piece.said)
    → IfSome o (λ piece. IsFirstPiece ligatures text piece.len piece.said)
apart_first ligatures text None e begins = tt
apart_first ligatures text (Some piece) e begins = record {
  some = begins.some;
  within = begins.within;
  is_first = apart piece.len piece.said e begins.within begins.is_piece;
}

-- a text is begun by as many bytes, and they say the same
pub record Begun (m n : ℕ) (x y : Option Word) : Type 0 where
  pub len : m ≡ n
  pub said : x ≡ y

pub begun_once : (ligatures : List (List ℕ)) (text : List ℕ) (m n : ℕ) (x y : Option Word) → IsFirst ligatures text m x → IsFirst ligatures text n y → Begun m n x y
begun_once ligatures text m n x y (joined a u e some is) (joined b v f one it) =
    let same : m ≡ n = e ∙ sym f in
    record { len = same; said = is ∙ ap (λ k. matrix_word (take k text)) same ∙ sym it }
begun_once ligatures text m n x y (joined a u e some is) (apart b v none within it) = absurd (omega (arith, e, some, none))
begun_once ligatures text m n x y (apart a u none within is) (joined b v f one it) = absurd (omega (arith, f, one, none))
begun_once ligatures text m n x y (apart a u none within is) (apart b v nil inside it) =
    let alike = pieces_alike (take m text) (take n text) x y (drop m text) (drop n text) is it (take-append-drop m text ∙ sym (take-append-drop n text)) in
    let same : m ≡ n = sym (take_len m text within) ∙ ap length alike.piece ∙ take_len n text inside in
    record { len = same; said = alike.said }

pub one_beginning : OneBeginning
one_beginning ligatures text m n x y p q =
    let once = begun_once ligatures text m n x y p q in
    (once.len, once.said)

-- a text is begun by no more bytes than it has
pub begun_within : (text name : List ℕ) → begun_by text name ≤ length text
begun_within text name = grind (arith, nat_tests, and_parts)

-- the longest of one name more
longest_push : (names : List (List ℕ)) (name text : List ℕ) → longest_len (names ++ name ∷ []) text ≡ max (longest_len names text) (begun_by text name)
longest_push [] name text = omega arith
longest_push (first ∷ names) name text =
    let e = longest_push names name text in
    omega (arith, e)

pub longest_more : (names : List (List ℕ)) (i : ℕ) (name text : List ℕ) → i < length names → name ≡ get_or names i name → longest_len (take (i + 1) names) text ≡ max (longest_len (take i names) text) (begun_by text name)
longest_more names i name text lt is =
    ap (λ ns. longest_len ns text) (take_more names i name lt) ∙ longest_push (take i names) (get_or names i name) text ∙ rw (← is) refl

-- each of one more passes
pub all_push : (p : List ℕ → Bool) (names : List (List ℕ)) (name : List ℕ) → list_all p names ≡ true → p name ≡ true → list_all p (names ++ name ∷ []) ≡ true
all_push p [] name h k = rw k refl
all_push p (first ∷ names) name h k =
    let parts = and_parts (p first) (list_all p names) h in
    rw (parts.0, all_push p names name parts.1 k) refl

-- an empty text is begun by no name
none_there : (b : Bool) (n : ℕ) → cond (b && false) n 0 ≡ 0
none_there true n = refl
none_there false n = refl

bytes_none : (name : List ℕ) → begun_by [] name ≡ 0
bytes_none [] = refl
bytes_none (b ∷ name) = none_there (nat_le (length (b ∷ name)) 0) (length (b ∷ name))

pub longest_none : (names : List (List ℕ)) → longest_len names [] ≡ 0
longest_none [] = refl
longest_none (name ∷ names) = omega (arith, bytes_none name, longest_none names)
