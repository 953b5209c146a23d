-- What an errand is.
use Rattle.std.specs.Prelude.{◌≡◌, ◌⊎◌}
use Rattle.recalls.specs.Recalls.{Recall}
use Rattle.recalls.specs.Spelling.{spelling}
use Rattle.rolls.specs.Rolls.{Roll}
use Rattle.rolls.specs.Spelling as rolls
use Rattle.catch_up.specs.declared.errand.Errand.{Errand}
use Rattle.catch_up.specs.declared.errand.Errand.TheVariants.{Send, Tell, Seek}

-- what is sent spells a recall or a roll to the member that it is sent to
abbrev pub IsGoodErrand : Errand → Type 0
IsGoodErrand (Send to bytes) =
    ((r : Recall) × (bytes.items ≡ spelling r) × (r.to ≡ to)) ⊎ ((r : Roll) × (bytes.items ≡ rolls.spelling r) × (r.to ≡ to))
IsGoodErrand (Tell number to) = Unit {0}
IsGoodErrand (Seek number) = Unit {0}
