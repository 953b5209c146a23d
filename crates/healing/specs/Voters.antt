-- The members that are known to have a vote of a number, a bit for each.
use Rattle.std.specs.Prelude.{◌≡◌, ℕ, ◌^◌, ◌||◌, Bool, true, false, ◌==◌, bit_or}
use Rattle.std.specs.Int.{bit_at}
use Rattle.healing.specs.declared.voters.Voters.{Voters}

abbrev pub none : Voters
none = record { bits = 0 }

-- there are none
abbrev pub is_none : Voters → Bool
is_none v = v.bits == 0

-- the member is among them
abbrev pub is_voter : Voters → ℕ → Bool
is_voter v member = bit_at v.bits member == 1

-- these, and one more
abbrev pub with_voter : ℕ → Voters → Voters
with_voter member v = record { bits = bit_or v.bits (2 ^ member) }

-- each of the first is among the second
abbrev pub is_within : Voters → Voters → Bool
is_within v w = bit_or v.bits w.bits == w.bits

-- the bits are such sets
pub record AreSets : Type 0 where
  pub empty : (v : Voters) → is_none v ≡ true → (member : ℕ) → is_voter v member ≡ false
  pub more : (v : Voters) (new member : ℕ) → is_voter (with_voter new v) member ≡ ((new == member) || is_voter v member)
  pub within : (v w : Voters) → is_within v w ≡ true → (member : ℕ) → is_voter v member ≡ true → is_voter w member ≡ true
  pub all_within : (v w : Voters) → ((member : ℕ) → is_voter v member ≡ true → is_voter w member ≡ true) → is_within v w ≡ true
