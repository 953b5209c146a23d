-- How often a search found nothing until it leaves the offers.
use Rattle.std.specs.Prelude.{◌≡◌, ◌≤◌, ◌+◌, ℕ, List, [], ◌∷◌, Bool, true, false}
use Rattle.folders.specs.declared.wishes.Wish.TheVariants.{Sought}
use Rattle.offers.specs.declared.stage.Landing.TheVariants as landings
use Rattle.offers.specs.declared.stage.FileNews.{FileNews}
use Rattle.offers.specs.declared.stage.FileNews.TheVariants as news
use Rattle.offers.specs.declared.stage.Stage.{Stage}
use Rattle.offers.specs.declared.stage.Stage.TheVariants.{Watched, Waiting, UnderWay, Refused, Answered, Gone}
use Rattle.offers.specs.Stages.{after, anew}

-- what befalls a file of the book: some news of it at a moment, or a look found it changed
pub data Befell : Type 0 where
  told : (news : FileNews) (now : ℕ) → Befell
  changed : (now : ℕ) → Befell

-- what is known of a file that was found first at a moment, after all this, of which the latest is told first
abbrev pub known_after : ℕ → List Befell → Stage
known_after first [] = Watched first false
known_after first (told some now ∷ before) = after some now (known_after first before)
known_after first (changed now ∷ before) = anew now (known_after first before)

-- how often a majority was found to know of nothing, since the file was found as it is
abbrev pub nothings_since : List Befell → ℕ
nothings_since [] = 0
nothings_since (told (news.Landed landings.Nothing) now ∷ before) = nothings_since before + 1
nothings_since (told some now ∷ before) = nothings_since before
nothings_since (changed now ∷ before) = 0

-- it was read as a search, since it was found as it is
abbrev pub WasSought : List Befell → Type 0
WasSought [] = ⊥
WasSought (told (news.Read Sought) now ∷ before) = Unit {0}
WasSought (told some now ∷ before) = WasSought before
WasSought (changed now ∷ before) = ⊥

-- it is a search that was answered
abbrev pub is_answered : Stage → Bool
is_answered (Watched at replaced) = false
is_answered (Waiting wish at tries) = false
is_answered (UnderWay wish tries) = false
is_answered (Refused reason at pause) = false
is_answered (Answered at pause) = true
is_answered Gone = false

-- whatever befell a file: where it is answered, it was read as a search, and a majority knew of nothing ten times, since it was found as it is
abbrev pub AnsweredAfterTen : Type 0
AnsweredAfterTen = (first : ℕ) (befell : List Befell) → is_answered (known_after first befell) ≡ true → (10 ≤ nothings_since befell) × WasSought befell
