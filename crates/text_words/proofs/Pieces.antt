-- A text begins with one piece.
use Rattle.std.proofs.Common.{◌≡◌, ℕ, true, List, [], ◌∷◌, ◌++◌, length, Option, sym, ◌∙◌, ap, append_assoc}
use Rattle.std.specs.List.{list_all}
use Rattle.std.proofs.lemmas.Bool.{and_parts}
use Rattle.std.proofs.Math.Seq.{take-append_seam}
use Rattle.code_table.specs.Names.{is_printed}
use Rattle.text_words.specs.declared.word.Word.{Word}
use Rattle.text_words.specs.Words.{IsPiece, lone, braced, byte_word, named_word, is_inner, is_in_braces, inner_len}
use Rattle.text_words.specs.Laws.{OnePiece}
use Rattle.text_words.proofs.Naming.{inner_up_to}

pub head_is : (a b : ℕ) (xs ys : List ℕ) → a ∷ xs ≡ b ∷ ys → a ≡ b
head_is a b xs ys e = cc

pub tail_is : (a b : ℕ) (xs ys : List ℕ) → a ∷ xs ≡ b ∷ ys → xs ≡ ys
tail_is a b xs ys e = cc

-- what stands before the first closing brace
inner_same : (m n r s : List ℕ) → list_all is_inner m ≡ true → list_all is_inner n ≡ true → m ++ 125 ∷ r ≡ n ++ 125 ∷ s → m ≡ n
inner_same m n r s h k e =
    let many : length m ≡ length n = sym (inner_up_to m r h) ∙ ap inner_len e ∙ inner_up_to n s k in
    sym (take-append_seam m (125 ∷ r)) ∙ rw (many, e) (take-append_seam n (125 ∷ s))

name_same : (m n r s : List ℕ) → is_in_braces m ≡ true → is_in_braces n ≡ true → m ++ 125 ∷ r ≡ n ++ 125 ∷ s → m ≡ n
name_same [] n r s h k e = absurd cc
name_same (a ∷ m) [] r s h k e = absurd cc
name_same (a ∷ m) (b ∷ n) r s h k e =
    let p = and_parts (is_printed a) (list_all is_inner m) h in
    let q = and_parts (is_printed b) (list_all is_inner n) k in
    let first = head_is a b (m ++ 125 ∷ r) (n ++ 125 ∷ s) e in
    let rest = inner_same m n r s p.1 q.1 (tail_is a b (m ++ 125 ∷ r) (n ++ 125 ∷ s) e) in
    λ i. first i ∷ rest i

-- two pieces with which one text begins are one
pub record Alike (a b : List ℕ) (x y : Option Word) : Type 0 where
  pub piece : a ≡ b
  pub said : x ≡ y

pub behind_name : (name r : List ℕ) → (123 ∷ name ++ 125 ∷ []) ++ r ≡ 123 ∷ (name ++ 125 ∷ r)
behind_name name r = ap (λ t. 123 ∷ t) (append_assoc name (125 ∷ []) r)

pub pieces_alike : (a b : List ℕ) (x y : Option Word) (r s : List ℕ) → IsPiece a x → IsPiece b y → a ++ r ≡ b ++ s → Alike a b x y
pieces_alike a b x y r s (lone c u ne e) (lone d v nd f) h =
    let same = head_is c d r s h in
    record { piece = ap (λ k. k ∷ []) same; said = e ∙ ap byte_word same ∙ sym f }
pieces_alike a b x y r s (lone c u ne e) (braced n v k f) h = absurd (ne (head_is c 123 r _ h))
pieces_alike a b x y r s (braced m u k e) (lone d v nd f) h = absurd (nd (sym (head_is 123 d _ s h)))
pieces_alike a b x y r s (braced m u k e) (braced n v l f) h =
    let whole = sym (behind_name m r) ∙ h ∙ behind_name n s in
    let same = name_same m n r s k l (tail_is 123 123 (m ++ 125 ∷ r) (n ++ 125 ∷ s) whole) in
    record { piece = ap (λ t. 123 ∷ t ++ 125 ∷ []) same; said = e ∙ ap named_word same ∙ sym f }

pub one_piece : OnePiece
one_piece a b x y r s p q h =
    let alike = pieces_alike a b x y r s p q h in
    (alike.piece, alike.said)
