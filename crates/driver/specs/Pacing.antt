-- The pace of a station that stays up: what was done of its works, what is found before the next, and what is heard of the members.
use Rattle.std.specs.Prelude.{ℕ, Bool, true, false, Option, Some, None}
use Rattle.protocol.specs.Ballots.{Ballot}
use Rattle.packets.specs.declared.body.PacketKind.{PacketKind}
use Rattle.packets.specs.declared.body.PacketKind.TheVariants as kinds
use Rattle.node_core.specs.declared.turn.Note.{Note}
use Rattle.node_core.specs.declared.turn.Note.TheVariants.{Idle}
use Rattle.driver.specs.declared.said.Said.{Said}
use Rattle.pace.specs.Behind.{PaceValue, asked_for, came_up, is_any_behind, seen_by, spoken_by}
use Rattle.pace.specs.Order.{Counts, after_work}
use Rattle.pace.specs.declared.turns.Done.{Done}
use Rattle.pace.specs.declared.turns.Done.TheVariants as dones
use Rattle.pace.specs.declared.turns.Sight.{Sight}
use Rattle.pace.specs.declared.turns.Work.{Work}
use Rattle.pace.specs.declared.turns.Work.TheVariants as works
use Rattle.driver.specs.declared.pacing.Asking.{Asking}
use Rattle.driver.specs.declared.sink.HeardDatagram.{HeardDatagram}
use Rattle.driver.specs.declared.sink.HeardDatagram.TheVariants.{Taken, Refused, Aside}
use Rattle.driver.specs.declared.pacing.Tasks.{Tasks}

-- what was done of a work where no number was due and, while it was waited, no datagram came
abbrev pub done_of : Work → Done
done_of works.Look = dones.Looked
done_of works.TakeIn = dones.TookIn
done_of works.Due = dones.SawNothing
done_of (works.Deed asks) = dones.DidDeed
done_of works.Wait = dones.Waited

-- what was done where what is due was seen to, and this came of it
abbrev pub seen_as : Note → Option Done → Option Done
seen_as Idle was = was
seen_as note was = Some dones.SawOne

-- what is counted once the last work has ended, at this moment
abbrev pub counts_at : ℕ → Option Done → Counts → Counts
counts_at now None c = c
counts_at now (Some done) c = after_work c done now

-- where no datagram waits, what comes from now on was sent after what was asked for
abbrev pub settled_where : Bool → PaceValue → PaceValue
settled_where true p = p
settled_where false p = record p { settled = p.asked }

-- what is found at a moment: whether a datagram waits, what is to be done with files, how many are under way, and whether a member is behind
abbrev pub sight_at : ℕ → Bool → Tasks → PaceValue → Sight
sight_at now waits tasks p =
    record { now = now; waits = waits; deeds = tasks.deeds; under_way = tasks.under_way; is_behind = is_any_behind now p }

-- what is known of the members once a datagram of this kind was taken in: a vote shows how far its sender is, a request to vote that a
-- ballot came up, and any that its sender is there
abbrev pub heard_as : PacketKind → ℕ → ℕ → ℕ → ℕ → PaceValue → PaceValue
heard_as kinds.Accepted sender number owner now p = spoken_by sender number owner now p
heard_as kinds.Accept sender number owner now p = seen_by sender 0 now (came_up number owner p)
heard_as kinds.Prepare sender number owner now p = seen_by sender 0 now p
heard_as kinds.Promise sender number owner now p = seen_by sender 0 now p
heard_as kinds.Nack sender number owner now p = seen_by sender 0 now p

-- the same, of a datagram that says this; one that was passed over says nothing
abbrev pub heard_from : Option Said → ℕ → PaceValue → PaceValue
heard_from None now p = p
heard_from (Some said) now p = heard_as said.kind said.sender said.number said.owner now p

-- what the head of a datagram says that the station took in; any other says nothing
abbrev pub said_of : HeardDatagram → Option Said
said_of (Taken said) = said
said_of (Refused refusal) = None
said_of (Aside found) = None

-- what was begun where this ballot is open of a number, for an entry of so many bytes
abbrev pub asking_of : Option Ballot → ℕ → ℕ → Option Asking
asking_of None number length = None
asking_of (Some ballot) number length = Some (record { number = number; owner = ballot.owner; length = length })

-- a ballot of the station's own was begun, if one was
abbrev pub begun_at : Option Asking → ℕ → PaceValue → PaceValue
begun_at None now p = p
begun_at (Some asking) now p = asked_for asking.number asking.owner asking.length now p
