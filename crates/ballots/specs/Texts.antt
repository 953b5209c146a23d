-- A ballot as it is written.
use Rattle.std.specs.Prelude.{ℕ, List, ◌++◌, codes, decimal}
use Rattle.protocol.specs.Ballots.{Ballot}

-- a ballot, as `round.owner`
abbrev pub ballot_text : Ballot → List ℕ
ballot_text b = decimal b.round ++ (codes "." ++ decimal b.owner)
