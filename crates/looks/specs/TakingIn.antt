-- How far it is taken in which files a look found whose names ask for nothing.
use Rattle.std.specs.Prelude.{◌≡◌, ◌≤◌, ◌<◌, ℕ, List, [], String, Result, IfOk, OnOk, OnErr}
use Rattle.std.specs.Global.{Global}
use Rattle.std.specs.declared.alloc.AllocError.{AllocError}
use Rattle.folders.specs.declared.stamp.Stamp.{Stamp}
use Rattle.looks.specs.declared.strays.TakenIn.{TakenIn}
use Rattle.looks.specs.declared.strays.TakenIn.TheVariants.{Partly, Wholly}
use Rattle.looks.specs.Merging.{begun, fewer, MergingValue}
use Rattle.looks.specs.Strays.{StraysValue}

-- it is begun to put what was found beside what was known, and until that is done nothing is known; where memory is refused, all stays as it was
pub record IsBegun (found : List (String Global × Stamp)) (now : ℕ) (old new : StraysValue) (result : Result MergingValue AllocError) : Type 0 where
  pub begins : IfOk result (λ m. m ≡ begun old.files now found)
  pub ok : OnOk result (new ≡ record old { files = [] })
  pub err : OnErr result (new ≡ old)

-- a turn puts 512 files more beside what was known: where some are left, nothing is known yet that was not; and else all that was found is
-- known, each with what was known of it, and what was known is handed out
abbrev pub GoesOn : MergingValue → StraysValue → TakenIn → StraysValue → Type 0
GoesOn merging old (Partly next) new = (512 < merging.left) × (next ≡ fewer 512 merging) × (new ≡ old)
GoesOn merging old (Wholly known) new =
    (merging.left ≤ 512) × (known.items ≡ merging.known) × (new ≡ record old { files = merging.files; looked = merging.moment; next = 0 })
