-- What a writer was given that tells of itself. One that does not may have been given anything.
use Rattle.std.specs.Prelude.{◌≡◌, ◌++◌, ◌⊎◌, ℕ, List, [], ◌∷◌, Option, codes}
use Rattle.streams.specs.Fronts.{AppendsFront}
use Rattle.folders.specs.declared.folders.News.{News}
use Rattle.plant_log.specs.Words.{folders_text, news_text, no_memory}

-- the line, or a front of it where the writer failed; where there was no memory for the line, the words for that
abbrev pub WasTold : List ℕ → Option (List ℕ) → Option (List ℕ) → Type 0
WasTold text old new = AppendsFront old new (text ++ codes "\n") ⊎ AppendsFront old new no_memory

-- the line, where this holds, and else nothing
abbrev pub TellsIf : Type 0 → List ℕ → Option (List ℕ) → Option (List ℕ) → Type 0
TellsIf P text old new = (P → WasTold text old new) × (¬ P → new ≡ old)

-- of each of these in turn its line, where it is to be told
abbrev pub TellsEach : {A : Type 0} → (A → Type 0) → (A → List ℕ) → List A → Option (List ℕ) → Option (List ℕ) → Type 0
TellsEach P text [] old new = new ≡ old
TellsEach P text (x ∷ xs) old new = (between : Option (List ℕ)) × TellsIf (P x) (text x) old between × TellsEach P text xs between new

-- what befell the folders, in turn
abbrev pub TellsNews : List News → Option (List ℕ) → Option (List ℕ) → Type 0
TellsNews news old new = TellsEach (λ each. Unit {0}) (λ each. folders_text (news_text each)) news old new
