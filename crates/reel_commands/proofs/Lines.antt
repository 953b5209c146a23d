-- One line more of a report, and its last.
use Rattle.std.proofs.Common.{◌≡◌, ℕ, ◌+◌, ◌<◌, List, [], ◌∷◌, ◌++◌, length, take, get_or, refl, sym, ap, ◌∙◌, arith, append_assoc}
use Rattle.std.specs.Prelude.{codes, decimal}
use Rattle.std.proofs.lemmas.List.{take_more, append-nil, length-take}
use Rattle.reel.specs.declared.piece.RollPiece.{RollPiece}
use Rattle.reel_commands.specs.Report.{tape_line, lines_from, foot_text}

lines_append : (n : ℕ) (xs ys : List RollPiece) → lines_from n (xs ++ ys) ≡ lines_from n xs ++ lines_from (n + length xs) ys
lines_append n [] ys = let a : n ≡ n + 0 = omega arith in λ i. lines_from (a i) ys
lines_append n (x ∷ xs) ys =
    let a : n + 1 + length xs ≡ n + length (x ∷ xs) = omega arith in
    ap (λ (zs : List ℕ). tape_line n x ++ zs) (lines_append (n + 1) xs ys ∙ rw a refl)
    ∙ sym (append_assoc (tape_line n x) (lines_from (n + 1) xs) (lines_from (n + length (x ∷ xs)) ys))

lines_more : (tapes : List RollPiece) (i : ℕ) (d : RollPiece) → i < length tapes
    → lines_from 1 (take (i + 1) tapes) ≡ lines_from 1 (take i tapes) ++ tape_line (i + 1) (get_or tapes i d)
lines_more tapes i d lt =
    let long : 1 + length (take i tapes) ≡ i + 1 = omega (arith, length-take i tapes, lt) in
    ap (lines_from 1) (take_more tapes i d lt)
    ∙ (lines_append 1 (take i tapes) (get_or tapes i d ∷ []) ∙ rw long (ap (λ (ys : List ℕ). lines_from 1 (take i tapes) ++ ys) (append-nil (tape_line (i + 1) (get_or tapes i d)))))

-- one line more that was written
pub lines_written : (tapes : List RollPiece) (i : ℕ) (d : RollPiece) (initial text : List ℕ) → i < length tapes → text ≡ initial ++ lines_from 1 (take i tapes)
    → text ++ tape_line (i + 1) (get_or tapes i d) ≡ initial ++ lines_from 1 (take (i + 1) tapes)
lines_written tapes i d initial text lt is =
    ap (λ t. t ++ tape_line (i + 1) (get_or tapes i d)) is
    ∙ (append_assoc initial (lines_from 1 (take i tapes)) (tape_line (i + 1) (get_or tapes i d))
    ∙ ap (λ (t : List ℕ). initial ++ t) (sym (lines_more tapes i d lt)))

-- the last line that was written
pub foot_is : (text : List ℕ) (tapes frames : ℕ)
    → ((text ++ (codes "tapes: " ++ decimal tapes)) ++ (codes ", frames in the reel: " ++ decimal frames)) ++ codes "\n" ≡ text ++ foot_text tapes frames
unfolding foot_text
foot_is text tapes frames =
    append_assoc (text ++ (codes "tapes: " ++ decimal tapes)) (codes ", frames in the reel: " ++ decimal frames) (codes "\n")
    ∙ append_assoc text (codes "tapes: " ++ decimal tapes) ((codes ", frames in the reel: " ++ decimal frames) ++ codes "\n")
