-- The case behind one frame more.
use Rattle.std.proofs.Common.{◌≡◌, ℕ, suc, ◌<◌, List, [], ◌∷◌, ◌++◌, length, refl, ap, arith, length-append}
use Rattle.std.specs.Prelude.{unwrap_or}
use Rattle.std.proofs.Math.ListN.{get_or-append}
use Rattle.std.proofs.Math.Seq.{get_or-append_seam}
use Rattle.code_table.specs.declared.case.Case.TheVariants as cases
use Rattle.slug_reader.specs.Positions.{before}
use Rattle.slug_reader.specs.Meanings.{Meanings, selected_by, frame_at, case_at}
use Rattle.text_tape.specs.Codes.{case_behind}
use Rattle.text_tape.proofs.Lists.{unwrap_or_else, last_push, last_agrees}

-- the case at a place depends on the frames before it alone
pub case_same : (means : Meanings) (a b : List ℕ) (i : ℕ) → ((j : ℕ) → j < i → frame_at a j ≡ frame_at b j) → case_at means a i ≡ case_at means b i
unfolding case_at
case_same means a b i h =
    ap (λ o. unwrap_or o cases.Unshift) (last_agrees (λ j. selected_by means (frame_at a j)) (λ j. selected_by means (frame_at b j)) i (λ j lt. ap (λ f. selected_by means f) (h j lt)))

pub case_more : (means : Meanings) (tape : List ℕ) (i : ℕ) → case_at means tape (suc i) ≡ unwrap_or (selected_by means (frame_at tape i)) (case_at means tape i)
unfolding case_at
case_more means tape i =
    rw (last_push (λ j. selected_by means (frame_at tape j)) (before i) i)
    (unwrap_or_else (selected_by means (frame_at tape i)) _ cases.Unshift)

pub length_one : (frames : List ℕ) (f : ℕ) → length (frames ++ f ∷ []) ≡ suc (length frames)
length_one frames f = omega (arith, length-append frames (f ∷ []))

pub case_push : (means : Meanings) (frames : List ℕ) (f : ℕ) → case_behind means (frames ++ f ∷ []) ≡ unwrap_or (selected_by means f) (case_behind means frames)
case_push means frames f =
    rw (length_one frames f, case_more means (frames ++ f ∷ []) (length frames), get_or-append_seam frames f [] 0)
    (ap (λ c. unwrap_or (selected_by means f) c) (case_same means (frames ++ f ∷ []) frames (length frames) (λ j lt. get_or-append frames (f ∷ []) 0 j lt)))

pub case_start : (means : Meanings) (frames : List ℕ) → frames ≡ [] → cases.Unshift ≡ case_behind means frames
unfolding case_at
case_start means frames e = rw e refl

pub case_first : (means : Meanings) (tape : List ℕ) → cases.Unshift ≡ case_at means tape 0
unfolding case_at
case_first means tape = refl
