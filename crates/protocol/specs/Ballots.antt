-- Members, ballots and their order, and what a majority is.
-- Lamport, Paxos Made Simple: proposals carry numbers that are totally ordered,
-- and different proposers draw theirs from disjoint sets. Here a number is a ballot.
use Rattle.std.specs.Prelude.{◌≡◌, ℕ, zero, suc, ◌*◌, ◌<◌, ◌≤◌, ◌⊎◌, List, [], ◌∷◌, ◌++◌, Bool, true, Option, Some, None, nat_lt, ◌==◌, ◌&&◌, ◌||◌, count_by, if◌then◌else◌}
use Rattle.protocol.specs.Limits.{most_members}

-- a round, and the member that it belongs to
pub record Ballot : Type 0 where
  pub round : ℕ
  pub owner : ℕ

-- rounds are 1 to 4,294,967,295, and owners members 1 to 15
pub record IsBallot (b : Ballot) : Type 0 where
  pub round_low : 1 ≤ b.round
  pub round_high : b.round ≤ 4294967295
  pub owner_low : 1 ≤ b.owner
  pub owner_high : b.owner ≤ most_members

-- the two are one ballot
abbrev pub is_same : Ballot → Ballot → Bool
is_same a b = (a.round == b.round) && (a.owner == b.owner)

-- ballots are in order of round, and then of owner
abbrev pub is_below : Ballot → Ballot → Bool
is_below a b = nat_lt a.round b.round || ((a.round == b.round) && nat_lt a.owner b.owner)

-- the same order as a fact
abbrev pub IsBelow : Ballot → Ballot → Type 0
IsBelow a b = (a.round < b.round) ⊎ ((a.round ≡ b.round) × (a.owner < b.owner))

-- the first is below the second, or the same
abbrev pub IsAtMost : Ballot → Ballot → Type 0
IsAtMost a b = (a.round < b.round) ⊎ ((a.round ≡ b.round) × (a.owner ≤ b.owner))

-- there is no such ballot, or it is below b
abbrev pub IsNoneOrBelow : Option Ballot → Ballot → Type 0
IsNoneOrBelow None b = Unit {0}
IsNoneOrBelow (Some a) b = IsBelow a b

-- there is no such ballot, or it is at most b
abbrev pub IsNoneOrAtMost : Option Ballot → Ballot → Type 0
IsNoneOrAtMost None b = Unit {0}
IsNoneOrAtMost (Some a) b = IsAtMost a b

-- the greatest round
abbrev pub last_round : ℕ
last_round = 4294967295

-- the owner's ballot of the round after that of the one that was seen, or of round 1 where none was; none where the rounds are spent
abbrev pub next : Option Ballot → ℕ → Option Ballot
next None owner = Some (record { round = 1; owner = owner })
next (Some seen) owner = if nat_lt seen.round last_round then Some (record { round = suc seen.round; owner = owner }) else None

-- the members of a circuit of c, in rising order
abbrev pub members : ℕ → List ℕ
members zero = []
members (suc c) = members c ++ suc c ∷ []

-- members of a circuit of c are 1 to c
abbrev pub IsMember : ℕ → ℕ → Type 0
IsMember c m = (1 ≤ m) × (m ≤ c)

-- the members that pass are a majority of the c: twice their number is more than c
abbrev pub is_majority : ℕ → (ℕ → Bool) → Bool
is_majority c passes = nat_lt c (2 * count_by passes (members c))

-- a set of members, more than half of them, and of each of it P holds
pub record Majority (c : ℕ) (P : ℕ → Type 0) : Type 0 where
  pub has : ℕ → Bool
  pub many : c < 2 * count_by has (members c)
  pub each : (m : ℕ) → IsMember c m → has m ≡ true → P m
