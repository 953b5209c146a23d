-- All 64 frames, one after the other.
use Rattle.std.proofs.Common.{◌≡◌, ℕ, ◌+◌, List, [], ◌∷◌, ◌++◌, refl, ◌∙◌, ap, sym, append_assoc, add-one}
use Rattle.std.specs.Prelude.{flat_map}
use Rattle.std.proofs.lemmas.List.{append-nil}
use Rattle.std.proofs.lemmas.Grind.{flat_map-append}
use Rattle.slug_reader.specs.Positions.{before}
use Rattle.reel_commands.specs.Survey.{all_frames}

-- one frame more that was written
pub written_more : (f : ℕ → List ℕ) (n : ℕ) (initial text : List ℕ) → text ≡ initial ++ flat_map f (before n)
    → text ++ f n ≡ initial ++ flat_map f (before (n + 1))
written_more f n initial text is =
    ap (λ t. t ++ f n) is
    ∙ (append_assoc initial (flat_map f (before n)) (f n)
    ∙ ap (λ t. initial ++ t) (rw add-one (sym (flat_map-append f (before n) (n ∷ []) ∙ ap (λ t. flat_map f (before n) ++ t) (append-nil (f n))))))

-- behind the last all were
pub all_are : (n : ℕ) → n ≡ 64 → before n ≡ all_frames
unfolding all_frames
all_are n is = rw is refl
