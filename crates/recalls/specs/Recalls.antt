-- What a member asks another one to tell again.
use Rattle.std.specs.Prelude.{◌≡◌, ℕ, ◌<◌, ◌≤◌, List, [], ◌∷◌, length}
use Rattle.protocol.specs.Ballots.{IsMember}
use Rattle.protocol.specs.Limits.{most_members, last_number}
use Rattle.recalls.specs.Tickets.{Ticket}

-- the most numbers of a recall
abbrev pub most_recalled : ℕ
most_recalled = 64

-- a recall: the circuit that it belongs to, from which member, to which, a number of the asker's,
-- and the numbers of which the votes are to be told again
pub record Recall : Type 0 where
  pub circuit : ℕ
  pub from : ℕ
  pub to : ℕ
  pub asked : ℕ
  pub numbers : List ℕ

-- what a recall begins with
abbrev pub ticket_of : Recall → Ticket
ticket_of r = record { circuit = r.circuit; from = r.from; to = r.to; asked = r.asked }

-- a recall of this ticket and these numbers
abbrev pub recall_of : Ticket → List ℕ → Recall
recall_of h numbers = record { circuit = h.circuit; from = h.from; to = h.to; asked = h.asked; numbers = numbers }

-- the numbers rise from above this one, up to the last circuit number
abbrev pub Rise : ℕ → List ℕ → Type 0
Rise above [] = Unit {0}
Rise above (n ∷ ns) = (above < n) × (n ≤ last_number) × Rise n ns

-- one number or more, at most so many, and each above the one before
pub record AreRecalled (numbers : List ℕ) : Type 0 where
  pub some : 1 ≤ length numbers
  pub few : length numbers ≤ most_recalled
  pub rise : Rise 0 numbers

-- what has a spelling: each field is in its range, and the two members differ
pub record IsRecall (r : Recall) : Type 0 where
  pub circuit : r.circuit < 65536
  pub from : IsMember most_members r.from
  pub to : IsMember most_members r.to
  pub differ : ¬ (r.from ≡ r.to)
  pub asked : r.asked < 4294967296
  pub some : 1 ≤ length r.numbers
  pub few : length r.numbers ≤ most_recalled
  pub rise : Rise 0 r.numbers
