-- The votes that were heard, read from marks: they stand newest first.
-- Lamport, learning a chosen value: an entry is known as chosen where a majority is heard to have voted at one ballot.
use Rattle.std.specs.Prelude.{ℕ, List, Option, Some, None, Bool, false, ◌==◌, ◌&&◌, filter_map, find, if◌then◌else◌}
use Rattle.protocol.specs.Lists.{greatest}
use Rattle.protocol.specs.Ballots.{Ballot, is_same, is_below, is_majority, members}
use Rattle.protocol.specs.Rows.{Vote, vote_for}
use Rattle.protocol.specs.Marks.{Mark, Heard}

-- the vote of m for n that the mark hears, if it does
abbrev pub vote_of : ℕ → ℕ → Mark → Option Vote
vote_of n m (Heard k j b t) = if (k == n) && (j == m) then Some (vote_for b t) else None
vote_of n m _ = None

-- the vote of m for n of greatest ballot, the first that was heard where equal
abbrev pub latest : ℕ → List Mark → ℕ → Option Vote
latest n marks m = greatest (λ (v u : Vote). is_below u.ballot v.ballot) (filter_map (vote_of n m) marks)

-- the vote is at b
abbrev pub votes_at : Ballot → Option Vote → Bool
votes_at b None = false
votes_at b (Some v) = is_same v.ballot b

-- the least member's latest vote at whose ballot the latest votes of a majority stand
abbrev pub ripe : ℕ → ℕ → List Mark → Option Vote
ripe c n marks = find (λ (v : Vote). is_majority c (λ m. votes_at v.ballot (latest n marks m))) (filter_map (latest n marks) (members c))
