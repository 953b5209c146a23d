-- A range as it begins is the one that was asked for.
use Rattle.std.proofs.Common.{◌≡◌, ℕ, Bool, List, Option, Some, None}
use Rattle.std.specs.Prelude.{IfSome}
use Rattle.by_hand.specs.Hands.{HandValue, IsBegun}

-- it begins where the range does, and ends where that has an end
pub range_of : (flags : List Bool) (from : ℕ) (to : Option ℕ) (h : HandValue) → IsBegun from to flags h
    → (h.first ≡ from) × IfSome to (λ (last : ℕ). h.last ≡ last)
range_of flags from None h b = (b.first, tt)
range_of flags from (Some last) h b = (b.first, b.last)
