-- What comes of an event: of a number that was not released, with what is in hand of it, and of one that was.
use Rattle.std.specs.Prelude.{◌≡◌, ◌≤◌, ℕ, List, ◌∷◌, Option, None, Bool, true, false, Result, MatchResult, IfOk, IfErr, OnOk, OnErr, MatchOption, unwrap_or, if◌then◌else◌, IsSome, IsTrue, Some, option_map}
use Rattle.protocol.specs.Ballots.{Ballot}
use Rattle.protocol.specs.Entries.{Entry}
use Rattle.protocol.specs.Rows.{Vote, Row, raised}
use Rattle.protocol.specs.Marks.{Mark, Began, Proposed, Closed}
use Rattle.protocol.specs.Acceptor.{is_above}
use Rattle.protocol.specs.Proposals.{Opening, was_released, open_proposal, proposal_at, gathering_at, since_began, counted, pick, is_due_number}
use Rattle.protocol.specs.Turn as said
use Rattle.proposer.specs.InHand.{InHand, StandsFor as ProposalStandsFor}
use Rattle.tape_frames.specs.Entries.{owned_entry}
use Rattle.tape_frames.specs.declared.entry.Entry.{Entry as OwnedEntry}
use Rattle.node_core.specs.declared.instance.Instance.{Instance}
use Rattle.node_core.specs.declared.event.Event.{Event}
use Rattle.node_core.specs.declared.turn.Turn.{Turn}
use Rattle.node_core.specs.declared.turn.Note.{Note}
use Rattle.node_core.specs.declared.turn.Note.TheVariants as notes
use Rattle.node_core.specs.declared.turn.CoreRefusal.{CoreRefusal}
use Rattle.node_core.specs.declared.turn.CoreRefusal.TheVariants as refusals
use Rattle.protocol.specs.Seats.{Seat}
use Rattle.node_core.specs.Standing.{Core, StandsFor, InstanceStands, AllStand, AreInstancesOf, IsInstanceOf, IsLeastPassing, IsLeft, Answers, Settles, Kept, Moves, IsFresh, IsSameSeat, seat_of, instance_at}
use Rattle.node_core.specs.Calls.{StartIs, TurnIs, MayTakeMemory, IsForMember, MayCome, TookTurn, IsRefused, RefusesEvent, MayWantMemory}
use Rattle.node_core.specs.Turns.{IsTurn, IsRowAfter, IsOrderly, HasPromise, HandsNothing, event_value, note_value, Stirs, sent}
use Rattle.packets.specs.Rules.{keeps_rules}
use Rattle.protocol.specs.Packets.{Packet, Prepare, Accept, Accepted}
use Rattle.protocol.specs.Turn.{accept_turn, vote_turn, recall_turn, to_others}

-- it was taken by the turn that is read from the marks, or memory was refused to it where that turn is not quiet
abbrev pub Handles : {E : Type 0} → Row → (List Mark → said.Turn) → Result Turn E → Instance → Instance → Type 0
Handles row turn result old new =
    (marks : List Mark) → InstanceStands old marks
    → MatchResult result (λ x. Answers row (turn marks) x new) (λ _. Stirs (turn marks))

-- a turn of which this is so: it is orderly, and what is in hand is still the seat's, and of the same number
pub record TakenBy {E : Type 0} (s : Seat) (result : Result Turn E) (old new : Instance) (is : Type 0) : Type 0 where
  pub turn : is
  pub orderly : IfOk result (λ x. IsOrderly x)
  pub of : IsInstanceOf s new
  pub number : new.number ≡ old.number

-- the instance may take the packet: it is the seat's, and of the packet's number, and the sender is a member
pub record MayTake (s : Seat) (p : Packet) (d : Instance) : Type 0 where
  pub of : IsInstanceOf s d
  pub number : p.number ≡ d.number
  pub from : p.from ≤ s.members

-- the instance may take the Promise: it may take the packet, and the ballot is the seat's own
pub record MayTakePromise (s : Seat) (p : Packet) (d : Instance) : Type 0 where
  pub take : MayTake s p d
  pub owner : p.ballot.owner ≡ s.me

-- the instance may propose at this ballot: it is the seat's, and so is the ballot, and a proposal is open
pub record MayPropose (s : Seat) (b : Ballot) (d : Instance) : Type 0 where
  pub of : IsInstanceOf s d
  pub begun : IsSome d.proposal
  pub owner : b.owner ≡ s.me

-- the packet is a Prepare to the seat's member
pub record IsPrepareTo (s : Seat) (p : Packet) : Type 0 where
  pub to : p.to ≡ s.me
  pub rules : IsTrue (keeps_rules p)
  pub kind : p.body ≡ Prepare

-- the packet is an Accept of this entry to the seat's member, from a member of its circuit
pub record IsAcceptTo (s : Seat) (p : Packet) (entry : Entry) : Type 0 where
  pub arrived : IsForMember s.me s.members p
  pub rules : IsTrue (keeps_rules p)
  pub kind : p.body ≡ Accept entry

-- the instance may take the Accept of this entry
pub record MayTakeAccept (s : Seat) (p : Packet) (entry : Entry) (d : Instance) : Type 0 where
  pub take : MayTake s p d
  pub accept : IsAcceptTo s p entry

-- the instance may take the event: it is the seat's, and of the event's number, and the event may come to the seat
pub record MayTakeEvent (s : Seat) (event : Event) (d : Instance) : Type 0 where
  pub of : IsInstanceOf s d
  pub number : said.number_of (event_value event) ≡ d.number
  pub arrived : MayCome s.me s.members event

-- an offer or a search was taken so; it may be refused for another cause
abbrev pub Starts : Seat → Option Entry → ℕ → Row → Result Turn CoreRefusal → Instance → Instance → Type 0
Starts s own now row result old new = TakenBy s result old new
    ((marks : List Mark) → InstanceStands old marks
    → MatchResult result (λ x. StartIs s old.number own now marks row (λ t. Answers row t x new))
    (λ e. e ≡ refusals.OutOfMemory → StartIs s old.number own now marks row Stirs))

-- any event was taken so
abbrev pub HandlesEvent : Seat → Event → Row → Result Turn CoreRefusal → Instance → Instance → Type 0
HandlesEvent s event row result old new = TakenBy s result old new
    ((marks : List Mark) → InstanceStands old marks
    → MatchResult result (λ x. TurnIs s event marks row (λ t. Answers row t x new))
    (λ e. e ≡ refusals.OutOfMemory → TurnIs s event marks row Stirs))

-- a Promise with this report was taken, to the proposal that gathers at its ballot
abbrev pub HandlesPromise : {E : Type 0} → Seat → Packet → Option Vote → ℕ → Row → Result Turn E → Instance → Instance → Type 0
HandlesPromise s p report now row result old new =
    TakenBy s result old new (Handles row (λ marks. said.promise_turn s now marks row p report (gathering_at p.number p.ballot marks)) result old new)

-- an Accept of this entry was taken
abbrev pub HandlesAccept : {E : Type 0} → Seat → Packet → Entry → Row → Result Turn E → Instance → Instance → Type 0
HandlesAccept s p entry row result old new = TakenBy s result old new (Handles row (λ marks. accept_turn s marks row p entry) result old new)

-- an Accepted of this entry was taken, whatever the row
abbrev pub HandlesAccepted : {E : Type 0} → Seat → Packet → Entry → Result Turn E → Instance → Instance → Type 0
HandlesAccepted s p entry result old new =
    TakenBy s result old new ((row : Row) → Handles row (λ marks. said.accepted_turn s marks row p entry) result old new)

-- a packet was taken, by its body
abbrev pub HandlesPacket : {E : Type 0} → Seat → ℕ → Packet → Row → Result Turn E → Instance → Instance → Type 0
HandlesPacket s now p row result old new =
    TakenBy s result old new (Handles row (λ marks. said.packet_turn s now marks row p p.body) result old new)

-- the vote of the number's row was told again
abbrev pub HandlesRecall : {E : Type 0} → Seat → ℕ → Row → Result Turn E → Instance → Instance → Type 0
HandlesRecall s to row result old new =
    TakenBy s result old new (Handles row (λ marks. recall_turn s old.number to marks row row.vote) result old new)

-- it was seen to the due moment of the instance's number
abbrev pub HandlesDue : {E : Type 0} → Seat → ℕ → Row → Result Turn E → Instance → Instance → Type 0
HandlesDue s now row result old new =
    TakenBy s result old new (Handles row (λ marks. said.due_turn s old.number now marks row (open_proposal old.number marks)) result old new)

-- whosever instance it was, it still is
abbrev pub IsStillOf : Instance → Instance → Type 0
IsStillOf old new = (s : Seat) → IsInstanceOf s old → IsInstanceOf s new

-- a Nack was taken, whatever the row
pub record AnswersNack (p : Packet) (promised : Ballot) (x : Turn) (old new : Instance) : Type 0 where
  pub turn :
      (row : Row) (marks : List Mark) → InstanceStands old marks
      → Answers row (said.nack_turn marks row p promised (proposal_at p.number p.ballot marks)) x new
  pub orderly : IsOrderly x
  pub of : IsStillOf old new
  pub number : new.number ≡ old.number

-- the proposal was closed by this turn
pub record Closes (after : Option Row) (noted : Note) (x : Turn) (old new : Instance) : Type 0 where
  pub row : x.row ≡ after
  pub mail : x.mail ≡ None
  pub release : x.release ≡ None
  pub note : x.note ≡ noted
  pub orderly : HasPromise after → IsOrderly x
  pub stands : (marks : List Mark) → InstanceStands old marks → InstanceStands new (Closed old.number ∷ marks)
  pub of : IsStillOf old new
  pub number : new.number ≡ old.number

-- the entry is the one that the proposal picks
abbrev pub IsPicked : InHand → Option OwnedEntry → Type 0
IsPicked p entry =
    (n : ℕ) (marks : List Mark) (o : Opening) → ProposalStandsFor p n marks → open_proposal n marks ≡ Some o
    → option_map owned_entry entry ≡ pick o.own (counted p.me n o (since_began n marks))

-- whether the instance's proposal is due at this moment
abbrev pub TellsDue : Instance → ℕ → Bool → Type 0
TellsDue d now due =
    (s : Seat) (marks : List Mark) → IsInstanceOf s d → InstanceStands d marks → due ≡ is_due_number s.me now marks d.number

-- the least number in hand whose proposal is due at this moment
abbrev pub TellsLeastDue : List (ℕ × Instance) → ℕ → Option ℕ → Type 0
TellsLeastDue instances now least =
    (s : Seat) (marks : List Mark) → AreInstancesOf s instances → AllStand instances marks
    → IsLeastPassing (is_due_number s.me now marks) instances least

-- what is released as the vote of a member is heard
abbrev pub ReleasesHeard : Instance → ℕ → Ballot → Entry → Option OwnedEntry → Type 0
ReleasesHeard old member b entry release =
    (marks : List Mark) → InstanceStands old marks
    → option_map owned_entry release ≡ (said.hear old.heard.members old.number member b entry marks).release

-- and what is then left in hand
abbrev pub LeavesHeard : Instance → ℕ → Ballot → Entry → Option OwnedEntry → Instance → Type 0
LeavesHeard old member b entry release new =
    (marks : List Mark) → InstanceStands old marks
    → IsLeft new release (said.hear old.heard.members old.number member b entry marks).marks

-- the vote of a member was heard, and an entry is released, or none
pub record Hears {E : Type 0} (member : ℕ) (b : Ballot) (entry : Entry) (result : Result (Option OwnedEntry) E) (old new : Instance) : Type 0 where
  pub release : IfOk result (λ release. ReleasesHeard old member b entry release)
  pub left : IfOk result (λ release. LeavesHeard old member b entry release new)
  pub of : IsStillOf old new
  pub number : new.number ≡ old.number

-- the entry that was just proposed at this ballot is voted for and sent
abbrev pub VotesFor : {E : Type 0} → Seat → Ballot → Entry → Row → Result Turn E → Instance → Instance → Type 0
VotesFor s b entry row result old new = TakenBy s result old new (IfOk result (λ x.
    (now : ℕ) (marks : List Mark) (before : Row) → InstanceStands old (Proposed old.number b now ∷ marks)
    → Answers row (said.propose s old.number b now marks before (Some entry)) x new))

-- phase 2 (Lamport) of the ballot of the open proposal, where the row promises nothing above it
abbrev pub Proposes : {E : Type 0} → Seat → Ballot → ℕ → Row → Result Turn E → Instance → Instance → Type 0
Proposes s b now row result old new = TakenBy s result old new (IfOk result (λ x.
    (marks : List Mark) (o : Opening) → is_above row.promised b ≡ false → InstanceStands old marks
    → open_proposal old.number marks ≡ Some o → o.ballot ≡ b
    → Answers row (said.propose s old.number b now marks (raised row b) (pick o.own (counted s.me old.number o (since_began old.number marks)))) x new))

-- phase 1 (Lamport) of the ballot that was just begun, where the row promises nothing above it
abbrev pub Begins : {E : Type 0} → Seat → Ballot → ℕ → Row → Result Turn E → Instance → Instance → Type 0
Begins s b now row result old new = TakenBy s result old new (IfOk result (λ x.
    (marks : List Mark) (own : Option Entry) → is_above row.promised b ≡ false
    → InstanceStands old (Began old.number b own row.vote now ∷ marks)
    → Answers row (said.begin s old.number b own now marks row) x new))

-- where no proposal is open, one is begun at its first ballot
abbrev pub BeginsFirst : {E : Type 0} → Seat → Option Entry → ℕ → Row → Result Turn E → Instance → Instance → Type 0
BeginsFirst s own now row result old new = TakenBy s result old new (IfOk result (λ x.
    (marks : List Mark) → InstanceStands old marks → open_proposal old.number marks ≡ None
    → StartIs s old.number own now marks row (λ t. Answers row t x new)))

-- the code's turn is the turn t of the definitions, which takes nothing in and releases nothing
pub record IsTurnAlone (row : Row) (marks : List Mark) (t : said.Turn) (x : Turn) : Type 0 where
  pub is_turn : IsTurn row t x
  pub takes_nothing : t.marks ≡ marks
  pub releases_nothing : x.release ≡ None

-- an event was taken by such a turn, or memory was refused to it where the turn is not quiet
abbrev pub HandlesAlone : Seat → Event → Row → List Mark → Result Turn CoreRefusal → Type 0
HandlesAlone s event row marks result =
    MatchResult result (λ x. TurnIs s event marks row (λ t. IsTurnAlone row marks t x)) (λ e. e ≡ refusals.OutOfMemory → TurnIs s event marks row Stirs)

-- a Prepare was answered, whatever the marks; or memory was refused to it where the turn is not quiet
pub record AnswersPrepare {E : Type 0} (s : Seat) (p : Packet) (row : Row) (result : Result Turn E) : Type 0 where
  pub turn : IfOk result (λ x. (marks : List Mark) → IsTurn row (said.prepare_turn s marks row p) x)
  pub orderly : IfOk result (λ x. IsOrderly x)
  pub memory : OnErr result ((marks : List Mark) → Stirs (said.prepare_turn s marks row p))

-- the number of the event was released
abbrev pub IsReleased : Event → List Mark → Type 0
IsReleased event marks = was_released (said.number_of (event_value event)) marks ≡ true

-- an event of a number that was released was taken so, or refused as one of such a number
pub record TakenReleased (s : Seat) (event : Event) (row : Row) (result : Result Turn CoreRefusal) : Type 0 where
  pub turn : (marks : List Mark) → IsReleased event marks → HandlesAlone s event row marks result
  pub orderly : IfOk result (λ x. IsOrderly x)
  pub refused : IfErr result (λ e. IsRefused event e (Unit {0}) (λ marks. IsReleased event marks) s.me row)

-- the core took the event of n, but for the settling of n; or memory was refused to it
pub record Acts (n : ℕ) (event : Event) (row : Row) (result : Result Turn CoreRefusal) (old new : Core) : Type 0 where
  pub turn :
      (marks : List Mark) → StandsFor old marks
      → MatchResult result (λ x. TurnIs (seat_of old) event marks row (λ t. Settles n row t x new))
      (λ e. e ≡ refusals.OutOfMemory → MayTakeMemory old event marks row)
  pub orderly : IfOk result (λ x. IsOrderly x)
  pub refused : IfErr result (λ e. RefusesEvent event e old row new)
  pub seat : IsSameSeat old new

-- the core may take the turn of the event: memory was not refused to it before
pub record MayTakeTurn (event : Event) (v : Core) : Type 0 where
  pub unfailed : v.failed ≡ false
  pub arrived : MayCome v.me v.members event

-- the core may act on the event of n
pub record MayAct (n : ℕ) (event : Event) (v : Core) : Type 0 where
  pub take : MayTakeTurn event v
  pub number : said.number_of (event_value event) ≡ n

-- the core took the turn of the event, or says why there is none
pub record TakesTurn (event : Event) (row : Row) (result : Result Turn CoreRefusal) (old new : Core) : Type 0 where
  pub ok : IfOk result (λ x. (marks : List Mark) → StandsFor old marks → TookTurn old event marks row x new)
  pub orderly : IfOk result (λ x. IsOrderly x)
  pub memory : IfErr result (λ e. MayWantMemory e old event row)
  pub refused : IfErr result (λ e. RefusesEvent event e old row new)
  pub seat : IsSameSeat old new

-- n was settled: it is noted as released where it is, and nothing is in hand of it then
pub record SettlesNumber {A E : Type 0} (n : ℕ) (is_released : Bool) (result : Result A E) (old new : Core) : Type 0 where
  pub moves : OnOk result (Moves old n (if is_released then None else instance_at old n) is_released new)
  pub memory : OnErr result (is_released ≡ true)
  pub seat : IsSameSeat old new

-- what is in hand was kept, or memory was refused to it, and it is not empty
pub record KeepsInHand {A E : Type 0} (d : Instance) (result : Result A E) (old new : Core) : Type 0 where
  pub kept : OnOk result (Kept old d new)
  pub memory : OnErr result (IsFresh d → ⊥)
  pub seat : IsSameSeat old new

-- what the code hands out is a vote for this entry
pub record IsVote (s : Seat) (row : Row) (p : Packet) (entry : Entry) (x : Turn) (voted : Entry) : Type 0 where
  pub after : Row
  pub line : (marks : List Mark) → accept_turn s marks row p entry ≡ vote_turn s marks after p voted (note_value x.note)
  pub row_after : IsRowAfter row after x.row
  pub out : sent row x ≡ to_others s p.number p.ballot (Accepted voted)
  pub release : x.release ≡ None

-- an Accept is voted for, by the vote of the row after, or refused
abbrev pub IsVoting : Seat → Row → Packet → Entry → Turn → Bool → Type 0
IsVoting s row p entry x false = (marks : List Mark) → IsTurnAlone row marks (accept_turn s marks row p entry) x
IsVoting s row p entry x true = MatchOption (unwrap_or x.row row).vote ⊥ (λ own. IsVote s row p entry x own.entry)

-- the station is to hear this vote of its row from itself, and the code hands out nothing but the note of that
pub record TellsItself (s : Seat) (to : ℕ) (row : Row) (x : Turn) (own : Vote) : Type 0 where
  pub itself : to ≡ s.me
  pub vote : row.vote ≡ Some own
  pub nothing : HandsNothing x
  pub noted : x.note ≡ notes.Recalled own.ballot

-- the row's vote is told again to another member, or there is none; or the station is to hear it from itself
abbrev pub IsTelling : Seat → ℕ → ℕ → Row → Turn → Option Vote → Type 0
IsTelling s n to row x None = (marks : List Mark) → IsTurnAlone row marks (recall_turn s n to marks row row.vote) x
IsTelling s n to row x (Some own) = TellsItself s to row x own
