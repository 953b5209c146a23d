-- What the code's requests and answers say, in the words of the protocol.
use Rattle.std.specs.Prelude.{Bool, true, Option, Some, None, option_copied}
use Rattle.protocol.specs.Ballots.{Ballot, is_below}
use Rattle.protocol.specs.Rows.{Vote, Row}
use Rattle.protocol.specs.Acceptor.{Request as Asked, Prepares, Accepts, Reply as Answer, Promises, Nacks, Says_nothing, Votes, Votes_again}
use Rattle.tape_frames.specs.Entries.{owned_entry}
use Rattle.acceptor.specs.declared.request.Request.{Request}
use Rattle.acceptor.specs.declared.request.Request.TheVariants as ask
use Rattle.acceptor.specs.declared.request.Reply.{Reply}
use Rattle.acceptor.specs.declared.request.Reply.TheVariants as say
use Rattle.acceptor.specs.declared.answer.PrepareAnswer.{PrepareAnswer}
use Rattle.acceptor.specs.declared.answer.PrepareAnswer.TheVariants as prepared
use Rattle.acceptor.specs.declared.answer.AcceptAnswer.{AcceptAnswer}
use Rattle.acceptor.specs.declared.answer.AcceptAnswer.TheVariants as accepted

-- what a request asks
abbrev pub asked : Request → Asked
asked (ask.Prepare b) = Prepares b
asked (ask.Accept b t) = Accepts b (owned_entry t)

-- what a reply says
abbrev pub said : Reply → Answer
said (say.Promise report) = Promises report
said say.Silent = Says_nothing
said (say.Nack p) = Nacks p
said say.Voted = Votes
said say.Again = Votes_again

-- what the answer to a prepare says, wherever its report lies in memory
abbrev pub said_of_prepare : PrepareAnswer → Answer
said_of_prepare (prepared.Promise report) = Promises (option_copied report)
said_of_prepare prepared.Silent = Says_nothing
said_of_prepare (prepared.Nack p) = Nacks p

-- what the answer to an accept says
abbrev pub said_of_accept : AcceptAnswer → Answer
said_of_accept (accepted.Nack p) = Nacks p
said_of_accept accepted.Again = Votes_again
said_of_accept (accepted.Voted row) = Votes

-- the row after an answer to an accept
abbrev pub row_of : AcceptAnswer → Row → Row
row_of (accepted.Voted row) old = row
row_of accepted.Again old = old
row_of (accepted.Nack p) old = old

-- a reported vote is below the ballot
abbrev pub may_report : Option Vote → Ballot → Bool
may_report None b = true
may_report (Some v) b = is_below v.ballot b

-- a reported vote is below the ballot, and a promise that refuses is above it: the reply can be sent as a packet
abbrev pub fits : Answer → Ballot → Bool
fits (Promises report) b = may_report report b
fits (Nacks p) b = is_below b p
fits Says_nothing b = true
fits Votes b = true
fits Votes_again b = true
