-- Votes, and the row that an acceptor keeps of one number.
use Rattle.std.specs.Prelude.{Bool, true, false, not, Option, Some, None}
use Rattle.protocol.specs.Ballots.{Ballot, is_below}
use Rattle.protocol.specs.Entries.{Entry}

-- a proposal that was accepted: its ballot and its entry
pub record Vote : Type 0 where
  pub ballot : Ballot
  pub entry : Entry

-- a vote for the entry at the ballot
abbrev pub vote_for : Ballot → Entry → Vote
vote_for b t = record { ballot = b; entry = t }

-- what an acceptor keeps in stable storage for one number: its highest promise, and its highest vote
pub record Row : Type 0 where
  pub promised : Option Ballot
  pub vote : Option Vote

-- a vote stands only beside a promise that isn't below it
abbrev pub may_stand : Option Ballot → Option Vote → Bool
may_stand promised None = true
may_stand None (Some v) = false
may_stand (Some p) (Some v) = not (is_below p v.ballot)

-- the row of an acceptor that was asked nothing
abbrev pub blank : Row
blank = record { promised = None; vote = None }

-- the row with its promise raised to b
abbrev pub raised : Row → Ballot → Row
raised row b = record { promised = Some b; vote = row.vote }

-- the row of an acceptor that votes for t at b: the vote raises the promise too
abbrev pub voted : Ballot → Entry → Row
voted b t = record { promised = Some b; vote = Some (vote_for b t) }
