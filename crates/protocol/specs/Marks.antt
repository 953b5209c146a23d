-- What a station took in since its start, as a list of marks. They stand newest first.
use Rattle.std.specs.Prelude.{ℕ, Option, Bool, false, ◌==◌, ◌&&◌}
use Rattle.protocol.specs.Ballots.{Ballot, is_same}
use Rattle.protocol.specs.Entries.{Entry}
use Rattle.protocol.specs.Rows.{Vote}

-- began a ballot of a number (phase 1), with this own entry, the vote of its own row as its own report, at this moment;
-- counted a member's promise; proposed at a ballot (phase 2); was denied by a Nack with a greater promise;
-- heard a member's vote; closed a number's proposal; released a number's entry
pub data Mark : Type 0 where
  Began : (number : ℕ) → (ballot : Ballot) → (own : Option Entry) → (report : Option Vote) → (now : ℕ) → Mark
  Promised : (number : ℕ) → (member : ℕ) → (ballot : Ballot) → (report : Option Vote) → Mark
  Proposed : (number : ℕ) → (ballot : Ballot) → (now : ℕ) → Mark
  Denied : (number : ℕ) → (promised : Ballot) → Mark
  Heard : (number : ℕ) → (member : ℕ) → (ballot : Ballot) → (entry : Entry) → Mark
  Closed : (number : ℕ) → Mark
  Released : (number : ℕ) → (entry : Entry) → Mark

-- the mark begins a ballot of n
abbrev pub begins : ℕ → Mark → Bool
begins n (Began k b own report now) = k == n
begins n _ = false

-- the mark closes n's proposal
abbrev pub closes : ℕ → Mark → Bool
closes n (Closed k) = k == n
closes n _ = false

-- the mark releases n
abbrev pub releases : ℕ → Mark → Bool
releases n (Released k t) = k == n
releases n _ = false

-- the mark closes or releases n
abbrev pub ends : ℕ → Mark → Bool
ends n (Closed k) = k == n
ends n (Released k t) = k == n
ends n _ = false

-- the mark proposes n at b
abbrev pub proposes : ℕ → Ballot → Mark → Bool
proposes n b (Proposed k a now) = (k == n) && is_same a b
proposes n b _ = false
