-- One range more behind the first of a set.
use Rattle.std.proofs.Common.{ℕ, ◌+◌, Bool, List, [], ◌∷◌, ◌++◌, Option, Some}
use Rattle.gone_out.specs.declared.ranges.Range.{Range}
use Rattle.catch_up_log.specs.Ranges.{AreFrom, ComesFrom}

-- what comes behind the ranges is one of them from then on
pub one_behind :
    (flags : List Bool) (start : ℕ) (rs : List Range) (r : Range) (next : Option Range) → AreFrom flags start rs (Some r) → ComesFrom flags (r.last + 1) next
    → AreFrom flags start (rs ++ (r ∷ [])) next
one_behind flags start [] r next are found = (are, found)
one_behind flags start (s ∷ rs) r next are found = (are.0, one_behind flags (s.last + 1) rs r next are.1 found)
