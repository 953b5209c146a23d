-- Where a walk over a range ended.
use Rattle.std.proofs.Common.{◌≡◌, ◌≤◌, ◌⊎◌, inl, inr, ℕ, nat_lt, ap, arith}
use Rattle.std.specs.Prelude.{◌&&◌, nat_le}

-- a walk that began at one number and came to the end, or began behind it, met the numbers of the range
pub same_range : (first place end n : ℕ) → end ≤ place → (place ≤ end) ⊎ (place ≡ first) → (nat_le first n && nat_lt n place) ≡ (nat_le first n && nat_lt n end)
same_range first place end n past (inl within) =
    let same : place ≡ end = omega (arith, past, within) in
    ap (λ (k : ℕ). nat_le first n && nat_lt n k) same
same_range first place end n past (inr empty) = grind arith
