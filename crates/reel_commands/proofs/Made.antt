-- One file more that was made.
use Rattle.std.proofs.Common.{◌≡◌, ℕ, ◌+◌, ◌<◌, List, [], ◌∷◌, ◌++◌, Option, Some, None, length, take, get_or, refl, sym, ap, subst, ◌∙◌, arith, append_assoc}
use Rattle.std.proofs.lemmas.List.{take_more, length-take}
use Rattle.reel.specs.declared.piece.RollPiece.{RollPiece}
use Rattle.reel.specs.Names.{tape_name}
use Rattle.reel.specs.Tapes.{frames_in}
use Rattle.reel_commands.specs.Files.{TapeFile, Makes, tape_file, files_from}

files_append : (n : ℕ) (frames : List ℕ) (xs ys : List RollPiece) → files_from n frames (xs ++ ys) ≡ files_from n frames xs ++ files_from (n + length xs) frames ys
files_append n frames [] ys = let a : n ≡ n + 0 = omega arith in λ i. files_from (a i) frames ys
files_append n frames (x ∷ xs) ys =
    let a : n + 1 + length xs ≡ n + length (x ∷ xs) = omega arith in
    ap (λ zs. tape_file n frames x ∷ zs) (files_append (n + 1) frames xs ys ∙ rw a refl)

files_more : (frames : List ℕ) (tapes : List RollPiece) (i : ℕ) (d : RollPiece) → i < length tapes
    → files_from 1 frames (take (i + 1) tapes) ≡ files_from 1 frames (take i tapes) ++ tape_file (i + 1) frames (get_or tapes i d) ∷ []
files_more frames tapes i d lt =
    let long : 1 + length (take i tapes) ≡ i + 1 = omega (arith, length-take i tapes, lt) in
    ap (files_from 1 frames) (take_more tapes i d lt)
    ∙ (files_append 1 frames (take i tapes) (get_or tapes i d ∷ []) ∙ rw long refl)

makes_more : (old mid new : Option (List TapeFile)) (files : List TapeFile) (file : TapeFile) → Makes old mid files → Makes mid new (file ∷ [])
    → Makes old new (files ++ file ∷ [])
makes_more None mid new files file a b = tt
makes_more (Some old) None new files file a b = absurd a
makes_more (Some old) (Some mid) None files file a b = absurd b
makes_more (Some old) (Some mid) (Some new) files file a b = b ∙ rw a (append_assoc old files (file ∷ []))

-- the file of one tape more was made
pub made_more : (frames fs bytes : List ℕ) (tapes items : List RollPiece) (i : ℕ) (d : RollPiece) (old mid new : Option (List TapeFile)) → i < length items → items ≡ tapes → fs ≡ frames
    → bytes ≡ frames_in fs (get_or items i d) → Makes old mid (files_from 1 frames (take i tapes)) → Makes mid new (record { name = tape_name (i + 1); bytes = bytes } ∷ [])
    → Makes old new (files_from 1 frames (take (i + 1) tapes))
made_more frames fs bytes tapes items i d old mid new lt is fis bis before one =
    let less : i < length tapes = subst (λ (xs : List RollPiece). i < length xs) is lt in
    let same : bytes ≡ frames_in frames (get_or tapes i d) = bis ∙ rw (fis, is) refl in
    subst (Makes old new) (sym (files_more frames tapes i d less))
    (makes_more old mid new (files_from 1 frames (take i tapes)) (tape_file (i + 1) frames (get_or tapes i d)) before
    (subst (λ (bs : List ℕ). Makes mid new (record { name = tape_name (i + 1); bytes = bs } ∷ [])) same one))
