-- What stations say to one another. Prepare and Accept are Lamport's two requests,
-- Promise answers the first and Accepted tells the learners of a vote; a Nack is a help to speed alone.
use Rattle.std.specs.Prelude.{ℕ, Option}
use Rattle.protocol.specs.Ballots.{Ballot}
use Rattle.protocol.specs.Entries.{Entry}
use Rattle.protocol.specs.Rows.{Vote}

-- what a packet says: a request of either phase, its answer, or a Nack with the promise that stands in the way
pub data Body : Type 0 where
  Prepare : Body
  Promise : (report : Option Vote) → Body
  Accept : (entry : Entry) → Body
  Accepted : (entry : Entry) → Body
  Nack : (promised : Ballot) → Body

-- one packet: the circuit that it belongs to, from which member, to which, about which number, at which ballot
pub record Packet : Type 0 where
  pub circuit : ℕ
  pub from : ℕ
  pub to : ℕ
  pub number : ℕ
  pub ballot : Ballot
  pub body : Body
