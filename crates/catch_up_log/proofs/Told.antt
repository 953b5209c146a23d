-- What was told of a set.
use Rattle.std.proofs.Common.{◌≡◌, ◌⊎◌, inl, ℕ, zero, suc, Bool, false, List, Option, sym, ◌∙◌, arith, true≢false}
use Rattle.std.specs.Prelude.{◌==◌, codes}
use Rattle.streams.specs.Fronts.{AppendsFront}
use Rattle.gone_out.specs.Numbers.{how_many}
use Rattle.plant_log.specs.Words.{no_memory}
use Rattle.plant_log.specs.Telling.{WasTold}
use Rattle.catch_up_log.specs.Words.{missing_text}
use Rattle.catch_up_log.specs.Ranges.{NamesRanges}
use Rattle.catch_up_log.specs.Missing.{TellsSet}

-- the line with a text that names its ranges was told
pub set_told :
    (flags : List Bool) (names : List ℕ) (old new : Option (List ℕ)) → NamesRanges (codes ".seek") flags names → WasTold (missing_text (how_many flags) names) old new
    → TellsSet flags old new ⊎ AppendsFront old new no_memory
set_told flags names old new are told = inl (names, are, told)

-- what is not 0 is not
pub has_some : (n : ℕ) (b : Bool) → b ≡ (n == 0) → b ≡ false → ¬ (n ≡ 0)
has_some zero b is off none = true≢false (sym is ∙ off)
has_some (suc n) b is off none = omega (arith, none)
