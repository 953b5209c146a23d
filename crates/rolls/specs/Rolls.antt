-- What one station asks another about the numbers that have a vote there, and what it answers.
use Rattle.std.specs.Prelude.{◌≡◌, ℕ, ◌<◌, List}
use Rattle.protocol.specs.Ballots.{IsMember}
use Rattle.protocol.specs.Limits.{most_members}
use Rattle.recalls.specs.Tickets.{Ticket}
use Rattle.rolls.specs.Pages.{pages}
use Rattle.rolls.specs.Counts.{AreCounts}
use Rattle.rolls.specs.Votes.{AreVotes}

-- what a roll says: how many numbers of each page have a vote is asked, or told; which numbers of a page have one is asked, or told by
-- a bit for each
pub data Body : Type 0 where
  CountsAsked : Body
  Counts : (counts : List ℕ) → Body
  PageAsked : (page : ℕ) → Body
  Page : (page : ℕ) → (bytes : List ℕ) → Body

-- a roll: the circuit that it belongs to, from which member, to which, a number of the asker's, which the answer repeats,
-- and what it says
pub record Roll : Type 0 where
  pub circuit : ℕ
  pub from : ℕ
  pub to : ℕ
  pub asked : ℕ
  pub body : Body

-- what a roll begins with
abbrev pub ticket_of : Roll → Ticket
ticket_of r = record { circuit = r.circuit; from = r.from; to = r.to; asked = r.asked }

-- a roll of this ticket that says this
abbrev pub roll_of : Ticket → Body → Roll
roll_of h body = record { circuit = h.circuit; from = h.from; to = h.to; asked = h.asked; body = body }

-- counts, pages and bits are such
abbrev pub IsBody : Body → Type 0
IsBody CountsAsked = Unit {0}
IsBody (Counts counts) = AreCounts counts
IsBody (PageAsked page) = page < pages
IsBody (Page page bytes) = AreVotes (record { page = page; bytes = bytes })

-- what has a spelling: each field is in its range, and the two members differ
pub record IsRoll (r : Roll) : Type 0 where
  pub circuit : r.circuit < 65536
  pub from : IsMember most_members r.from
  pub to : IsMember most_members r.to
  pub differ : ¬ (r.from ≡ r.to)
  pub asked : r.asked < 4294967296
  pub body : IsBody r.body
