-- One frame more is read.
use Rattle.std.proofs.Common.{◌≡◌, ℕ, ◌+◌, List, [], ◌∷◌, ◌++◌, length, get_or, refl, ◌∙◌, ap, add-one}
use Rattle.std.specs.Prelude.{flat_map}
use Rattle.std.proofs.lemmas.List.{append-nil}
use Rattle.std.proofs.lemmas.Grind.{flat_map-append}
use Rattle.slug_reader.specs.Positions.{before}
use Rattle.slug_reader.specs.Meanings.{Meanings, case_at, meaning_at}
use Rattle.text_tape.specs.Plain.{read_in, read_of}

-- what is read before a position
abbrev pub read_to : Meanings → List ℕ → ℕ → List ℕ
read_to means tape i = flat_map (λ j. read_in (meaning_at means tape j)) (before i)

pub read_more : (means : Meanings) (tape : List ℕ) (i : ℕ) → read_to means tape (i + 1) ≡ read_to means tape i ++ read_in (means (case_at means tape i) (get_or tape i 0))
unfolding meaning_at
read_more means tape i =
    rw add-one
    (flat_map-append (λ j. read_in (meaning_at means tape j)) (before i) (i ∷ [])
    ∙ ap (λ t. read_to means tape i ++ t) (append-nil (read_in (means (case_at means tape i) (get_or tape i 0)))))

pub read_is : (means : Meanings) (tape : List ℕ) (i : ℕ) → i ≡ length tape → read_to means tape i ≡ read_of means tape
unfolding read_of
read_is means tape i e = rw e refl
