-- A text that is made piece by piece is punched word by word.
use Rattle.std.proofs.Common.{◌≡◌, ℕ, List, [], ◌∷◌, ◌++◌, length, take, drop, Option, Some, refl, sym, ◌∙◌, arith, append_assoc, length-append}
use Rattle.std.proofs.Math.Seq.{drop-append_seam, take-append_seam}
use Rattle.std.proofs.lemmas.List.{append-nil}
use Rattle.slug_reader.specs.Meanings.{Meanings}
use Rattle.text_words.specs.declared.word.Word.{Word}
use Rattle.text_words.specs.Words.{IsPiece}
use Rattle.text_words.specs.Ligatures.{IsFirst, apart}
use Rattle.text_tape.specs.declared.adding.Added.{Added}
use Rattle.text_tape.specs.Codes.{adds, added_frames, case_behind}
use Rattle.text_tape.specs.Punching.{Punches, nothing, one_more, IsPunched}

-- words, a text of their pieces, and their frames
pub data Pieced (means : Meanings) : List Word → List ℕ → List ℕ → Type 0 where
  no_piece : Pieced means [] [] []
  one_piece :
      (words : List Word) (text frames : List ℕ) (word : Word) (piece : List ℕ) (added : Added)
      → Pieced means words text frames → IsPiece piece (Some word) → adds means (case_behind means frames) word ≡ Some added
      → Pieced means (words ++ word ∷ []) (text ++ piece) (frames ++ added_frames added)

-- a text of pieces that gives this tape
abbrev pub IsPieced : Meanings → List ℕ → List ℕ → Type 0
IsPieced means text tape = (words : List Word) × Pieced means words text tape

-- without ligatures the first piece is a piece
first_apart : (piece rest text : List ℕ) (said : Option Word) → text ≡ piece ++ rest → IsPiece piece said → IsFirst [] text (length piece) said
first_apart piece rest text said e is =
    let front : take (length piece) text ≡ piece = rw e (take-append_seam piece rest) in
    apart (length piece) said refl (rw e (omega (arith, length-append piece rest))) (rw front is)

pieced_to : (means : Meanings) (words : List Word) (front frames : List ℕ) → Pieced means words front frames → (text rest : List ℕ) → text ≡ front ++ rest → Punches [] means text (length front) words frames
pieced_to means words front frames no_piece text rest e = nothing
pieced_to means words front frames (one_piece ws t fs w piece added p is coded) text rest e =
    let whole : text ≡ t ++ (piece ++ rest) = e ∙ append_assoc t piece rest in
    let behind : drop (length t) text ≡ piece ++ rest = rw whole (drop-append_seam t (piece ++ rest)) in
    rw (length-append t piece)
    (one_more (length t) (length piece) ws fs w added (pieced_to means ws t fs p text (piece ++ rest) whole) (first_apart piece rest (drop (length t) text) (Some w) behind is) coded)

pub pieced_punched : (means : Meanings) (text tape : List ℕ) → IsPieced means text tape → IsPunched [] means text tape
pieced_punched means text tape p = (p.0, pieced_to means p.0 text tape p.1 text [] (sym (append-nil text)))
