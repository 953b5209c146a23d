-- What is recalled, if anything is.
use Rattle.std.specs.Prelude.{◌≡◌, ℕ, [], Option, Some, None}
use Rattle.std.specs.Option.{option_map}
use Rattle.gone_out.specs.declared.origin.Origin.{Origin}
use Rattle.healing.specs.Healing.{HealingValue}
use Rattle.catch_up.specs.declared.errand.Errand.{Errand}
use Rattle.catch_up.specs.Lacking.{NoneWentOut}
use Rattle.catch_up.specs.Own.{OwnValue, GoesOn, NoneToAsk, left_by}

-- the numbers that are recalled are the plant's own, and none of them went out
pub record IsRecalling (own : Origin) (h : Option HealingValue) (v : OwnValue) : Type 0 where
  pub origin : v.origin ≡ own
  pub numbers : NoneWentOut h v.numbers
  pub left : NoneWentOut h v.left

-- what is recalled after a number went out
abbrev pub left_in : ℕ → Option OwnValue → Option OwnValue
left_in number recalling = option_map (left_by number) recalling

-- what comes next of what is recalled, if anything is
abbrev pub GoesOnFrom : Option OwnValue → Option OwnValue → Option Errand → Type 0
GoesOnFrom None new errand = (new ≡ None) × (errand ≡ None)
GoesOnFrom (Some v) None errand = ⊥
GoesOnFrom (Some v) (Some w) errand = GoesOn v w errand

-- nothing is left of what is recalled
abbrev pub IsDone : Option OwnValue → Type 0
IsDone None = Unit {0}
IsDone (Some v) = NoneToAsk v × (v.left ≡ [])
