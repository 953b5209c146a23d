-- The table of a station's turn, one constructor a line: which turns it may take at an event.
-- The turn that is computed is one of them; agreement is proved from this table.
use Rattle.std.specs.Prelude.{◌≡◌, ℕ, ◌<◌, ◌≤◌, ◌⊎◌, List, [], ◌∷◌, Option, Some, None, MatchOption}
use Rattle.protocol.specs.Seats.{Seat}
use Rattle.protocol.specs.Ballots.{Ballot, IsBelow, IsNoneOrBelow, IsNoneOrAtMost, IsMember, next, Majority}
use Rattle.protocol.specs.Entries.{Entry}
use Rattle.protocol.specs.Rows.{Vote, vote_for, Row, raised, voted}
use Rattle.protocol.specs.Packets.{Packet, Body, Prepare, Promise, Accept, Accepted, Nack}
use Rattle.protocol.specs.Acceptor.{Request, Prepares, Accepts, Reply, Promises, Nacks, Says_nothing, Votes, Votes_again, reply_of, next_row}
use Rattle.protocol.specs.Marks.{Mark, Began, Promised, Proposed, Denied, Heard, Closed, Released}
use Rattle.protocol.specs.Proposals.{begun}
use Rattle.protocol.specs.Readings.{IsReleased, IsOpen, Gathers, IsCounted, Picks, Ripe, GreatestDenied, IsDue}
use Rattle.protocol.specs.Turn.{Event, Offered, Sought, Came_due, Arrived, Recalled, number_of, Note, Note_began, Note_proposed, Note_nothing, Note_gave_up, Note_promised, Note_voted_again, Note_voted, Note_counted, Note_heard, Note_denied, Note_nacked, Note_overtaken, Note_idle, Note_silent, Note_stale, Note_repeated, Note_settled, Note_recalled, Note_blank, Turn, stays, packet_to, to_others, proposal_to_others, answer, packet_turn, turn}

-- the vote of a member for n is heard
pub data Hears (c n j : ℕ) (b : Ballot) (t : Entry) (marks : List Mark) (release : Option Entry) (after : List Mark) : Type 0 where
  was_settled : IsReleased marks n → release ≡ None → after ≡ marks → Hears c n j b t marks release after
  waits :
      ¬ IsReleased marks n → ((a : Ballot) (u : Entry) → ¬ Ripe c (Heard n j b t ∷ marks) n a u)
      → release ≡ None → after ≡ Heard n j b t ∷ marks → Hears c n j b t marks release after
  releases :
      (a : Ballot) (u : Entry) → ¬ IsReleased marks n → Ripe c (Heard n j b t ∷ marks) n a u
      → release ≡ Some u → after ≡ Released n u ∷ Heard n j b t ∷ marks → Hears c n j b t marks release after

-- the station proposes at b, with what its proposal has: its own entry, its own report and what came since it began
pub data Proposes (s : Seat) (n : ℕ) (b : Ballot) (now : ℕ) (own : Option Entry) (report : Option Vote)
    (since : List Mark) (row : Row) (marks : List Mark) (t : Turn) : Type 0 where
  nothing :
      Picks s.me n b own report since None
      → t ≡ stays row (Closed n ∷ marks) (Note_nothing b) → Proposes s n b now own report since row marks t
  proposes :
      (entry : Entry) (release : Option Entry) (after : List Mark)
      → Picks s.me n b own report since (Some entry)
      → Hears s.members n s.me b entry (Proposed n b now ∷ marks) release after
      → t ≡ record { row = voted b entry; marks = after; out = proposal_to_others s n b entry; release = release; note = Note_proposed b }
      → Proposes s n b now own report since row marks t

-- the station begins ballot b
pub data Begins (s : Seat) (n : ℕ) (b : Ballot) (own : Option Entry) (now : ℕ) (row : Row) (marks : List Mark) (t : Turn) : Type 0 where
  asks :
      1 < s.members
      → t ≡ record { row = raised row b; marks = Began n b own row.vote now ∷ marks; out = to_others s n b Prepare; release = None; note = Note_began b }
      → Begins s n b own now row marks t
  alone :
      s.members ≡ 1 → Proposes s n b now own row.vote [] (raised row b) (Began n b own row.vote now ∷ marks) t
      → Begins s n b own now row marks t

-- an offer or a search
pub data StartTurn (s : Seat) (n : ℕ) (own : Option Entry) (now : ℕ) (marks : List Mark) (row : Row) (t : Turn) : Type 0 where
  starts : (b : Ballot) → next row.promised s.me ≡ Some b → Begins s n b own now row marks t → StartTurn s n own now marks row t

-- the greater of two ballots that may be none
abbrev pub IsGreater : Option Ballot → Option Ballot → Option Ballot → Type 0
IsGreater p q None = (p ≡ None) × (q ≡ None)
IsGreater p q (Some s) = (p ≡ Some s) × IsNoneOrAtMost q s ⊎ (q ≡ Some s) × IsNoneOrAtMost p s

-- the due moment of n
pub data DueTurn (s : Seat) (n now : ℕ) (marks : List Mark) (row : Row) (t : Turn) : Type 0 where
  is_idle :
      ((b : Ballot) (own : Option Entry) → ¬ IsDue s.me marks now n b own)
      → t ≡ stays row marks Note_idle → DueTurn s n now marks row t
  gives_up :
      (b : Ballot) (own : Option Entry) (denied seen : Option Ballot) → IsDue s.me marks now n b own
      → GreatestDenied marks n denied → IsGreater row.promised denied seen
      → (32 ≤ begun n marks) ⊎ (next seen s.me ≡ None)
      → t ≡ stays row (Closed n ∷ marks) (Note_gave_up b) → DueTurn s n now marks row t
  begins_anew :
      (b : Ballot) (own : Option Entry) (denied seen : Option Ballot) (a : Ballot) → IsDue s.me marks now n b own
      → GreatestDenied marks n denied → IsGreater row.promised denied seen
      → begun n marks < 32 → next seen s.me ≡ Some a
      → Begins s n a own now row marks t → DueTurn s n now marks row t

-- a Prepare
pub data PrepareTurn (s : Seat) (marks : List Mark) (row : Row) (p : Packet) (t : Turn) : Type 0 where
  promises :
      IsNoneOrBelow row.promised p.ballot
      → t ≡ answer s marks (raised row p.ballot) p (Promise row.vote) (Note_promised p.ballot)
      → PrepareTurn s marks row p t
  is_silent : row.promised ≡ Some p.ballot → t ≡ stays row marks Note_silent → PrepareTurn s marks row p t
  nacks :
      (a : Ballot) → row.promised ≡ Some a → IsBelow p.ballot a
      → t ≡ answer s marks row p (Nack a) (Note_nacked a)
      → PrepareTurn s marks row p t

-- the row has a vote for the entry at b
abbrev pub VotedAt : Row → Ballot → Entry → Type 0
VotedAt row b entry = row.vote ≡ Some (vote_for b entry)

-- an Accept
pub data AcceptTurn (s : Seat) (marks : List Mark) (row : Row) (p : Packet) (entry : Entry) (t : Turn) : Type 0 where
  nacks :
      (a : Ballot) → row.promised ≡ Some a → IsBelow p.ballot a
      → t ≡ answer s marks row p (Nack a) (Note_nacked a)
      → AcceptTurn s marks row p entry t
  votes_again :
      (own : Entry) (release : Option Entry) (after : List Mark)
      → IsNoneOrAtMost row.promised p.ballot → VotedAt row p.ballot own
      → Hears s.members p.number s.me p.ballot own marks release after
      → t ≡ record {
        row = row;
        marks = after;
        out = to_others s p.number p.ballot (Accepted own);
        release = release;
        note = Note_voted_again p.ballot;
      }
      → AcceptTurn s marks row p entry t
  votes :
      (release : Option Entry) (after : List Mark)
      → IsNoneOrAtMost row.promised p.ballot → ((own : Entry) → ¬ VotedAt row p.ballot own)
      → Hears s.members p.number s.me p.ballot entry marks release after
      → t ≡ record {
        row = voted p.ballot entry;
        marks = after;
        out = to_others s p.number p.ballot (Accepted entry);
        release = release;
        note = Note_voted p.ballot;
      }
      → AcceptTurn s marks row p entry t

-- a Promise
pub data PromiseTurn (s : Seat) (now : ℕ) (marks : List Mark) (row : Row) (p : Packet) (r : Option Vote) (t : Turn) : Type 0 where
  is_stale :
      ((own : Option Entry) (report : Option Vote) (since : List Mark) → ¬ Gathers marks p.number p.ballot own report since)
      → t ≡ stays row marks Note_stale → PromiseTurn s now marks row p r t
  is_overtaken :
      (own : Option Entry) (report : Option Vote) (since : List Mark) → Gathers marks p.number p.ballot own report since
      → ¬ (row.promised ≡ Some p.ballot)
      → t ≡ stays row marks (Note_overtaken p.ballot) → PromiseTurn s now marks row p r t
  is_repeated :
      (own : Option Entry) (report : Option Vote) (since : List Mark) (v : Option Vote) → Gathers marks p.number p.ballot own report since
      → row.promised ≡ Some p.ballot → IsCounted s.me p.number p.ballot report since p.from v
      → t ≡ stays row marks Note_repeated → PromiseTurn s now marks row p r t
  counts :
      (own : Option Entry) (report : Option Vote) (since : List Mark) → Gathers marks p.number p.ballot own report since
      → row.promised ≡ Some p.ballot → ((v : Option Vote) → ¬ IsCounted s.me p.number p.ballot report since p.from v)
      → ¬ Majority s.members (λ j. (v : Option Vote) × IsCounted s.me p.number p.ballot report (Promised p.number p.from p.ballot r ∷ since) j v)
      → t ≡ stays row (Promised p.number p.from p.ballot r ∷ marks) (Note_counted p.ballot) → PromiseTurn s now marks row p r t
  completes :
      (own : Option Entry) (report : Option Vote) (since : List Mark) → Gathers marks p.number p.ballot own report since
      → row.promised ≡ Some p.ballot → ((v : Option Vote) → ¬ IsCounted s.me p.number p.ballot report since p.from v)
      → Majority s.members (λ j. (v : Option Vote) × IsCounted s.me p.number p.ballot report (Promised p.number p.from p.ballot r ∷ since) j v)
      → Proposes s p.number p.ballot now own report (Promised p.number p.from p.ballot r ∷ since) row (Promised p.number p.from p.ballot r ∷ marks) t
      → PromiseTurn s now marks row p r t

-- a Nack
pub data NackTurn (marks : List Mark) (row : Row) (p : Packet) (a : Ballot) (t : Turn) : Type 0 where
  is_stale :
      ((own : Option Entry) (report : Option Vote) (since : List Mark) → ¬ IsOpen marks p.number p.ballot own report since)
      → t ≡ stays row marks Note_stale → NackTurn marks row p a t
  is_denied :
      (own : Option Entry) (report : Option Vote) (since : List Mark) → IsOpen marks p.number p.ballot own report since
      → t ≡ stays row (Denied p.number a ∷ marks) (Note_denied a) → NackTurn marks row p a t

-- an Accepted
pub data AcceptedTurn (s : Seat) (marks : List Mark) (row : Row) (p : Packet) (entry : Entry) (t : Turn) : Type 0 where
  settles : IsReleased marks p.number → t ≡ stays row marks Note_settled → AcceptedTurn s marks row p entry t
  hears :
      (release : Option Entry) (after : List Mark) → ¬ IsReleased marks p.number
      → Hears s.members p.number p.from p.ballot entry marks release after
      → t ≡ record { row = row; marks = after; out = []; release = release; note = Note_heard p.ballot }
      → AcceptedTurn s marks row p entry t

-- a recall of n to a member
pub data RecallTurn (s : Seat) (n to : ℕ) (marks : List Mark) (row : Row) (t : Turn) : Type 0 where
  is_blank : row.vote ≡ None → t ≡ stays row marks Note_blank → RecallTurn s n to marks row t
  tells_again :
      (b : Ballot) (own : Entry) → ¬ (to ≡ s.me) → VotedAt row b own
      → t ≡ record { row = row; marks = marks; out = packet_to s n b (Accepted own) to ∷ []; release = None; note = Note_recalled b }
      → RecallTurn s n to marks row t
  hears_again :
      (b : Ballot) (own : Entry) (release : Option Entry) (after : List Mark) → to ≡ s.me → VotedAt row b own
      → Hears s.members n s.me b own marks release after
      → t ≡ record { row = row; marks = after; out = []; release = release; note = Note_recalled b }
      → RecallTurn s n to marks row t

-- a packet, by its body
abbrev pub AnswerTurn : Seat → ℕ → List Mark → Row → Packet → Body → Turn → Type 0
AnswerTurn s now marks row p Prepare t = PrepareTurn s marks row p t
AnswerTurn s now marks row p (Promise r) t = PromiseTurn s now marks row p r t
AnswerTurn s now marks row p (Accept entry) t = AcceptTurn s marks row p entry t
AnswerTurn s now marks row p (Accepted entry) t = AcceptedTurn s marks row p entry t
AnswerTurn s now marks row p (Nack a) t = NackTurn marks row p a t

-- the station of this seat, with these marks and this row of the event's number, takes turn t
abbrev pub IsTurn : Seat → List Mark → Row → Event → Turn → Type 0
IsTurn s marks row (Offered n entry now) t = StartTurn s n (Some entry) now marks row t
IsTurn s marks row (Sought n now) t = StartTurn s n None now marks row t
IsTurn s marks row (Came_due n now) t = DueTurn s n now marks row t
IsTurn s marks row (Arrived p now) t = AnswerTurn s now marks row p p.body t
IsTurn s marks row (Recalled n to) t = RecallTurn s n to marks row t

-- an offer or a search to which no ballot is left
abbrev pub IsSpent : ℕ → Row → Event → Type 0
IsSpent m row (Offered n entry now) = next row.promised m ≡ None
IsSpent m row (Sought n now) = next row.promised m ≡ None
IsSpent m row (Came_due n now) = ⊥
IsSpent m row (Arrived p now) = ⊥
IsSpent m row (Recalled n to) = ⊥

-- the turn that is computed is one that the table has, and there is none only where no ballot is left
abbrev pub TurnsAreOfTheTable : Type 0
TurnsAreOfTheTable =
    (s : Seat) (marks : List Mark) (row : Row) (e : Event) → IsMember s.members s.me
    → MatchOption (turn s marks row e) (IsSpent s.me row e) (λ t. IsTurn s marks row e t)

-- the note on an acceptor's reply to a request at b
abbrev pub note_on : Ballot → Reply → Note
note_on b (Promises report) = Note_promised b
note_on b (Nacks p) = Note_nacked p
note_on b Says_nothing = Note_silent
note_on b Votes = Note_voted b
note_on b Votes_again = Note_voted_again b

-- a vote's entry, to all others
abbrev pub tells_vote : Seat → Packet → Option Vote → List Packet
tells_vote s p None = []
tells_vote s p (Some v) = to_others s p.number p.ballot (Accepted v.entry)

-- what goes out on an acceptor's reply to the request in p, with the vote of its row after it: to the sender the report in a Promise,
-- or the promise that stands in the way in a Nack; to all others the entry that the row has a vote for
abbrev pub out_on : Seat → Packet → Option Vote → Reply → List Packet
out_on s p vote (Promises report) = packet_to s p.number p.ballot (Promise report) p.from ∷ []
out_on s p vote (Nacks a) = packet_to s p.number p.ballot (Nack a) p.from ∷ []
out_on s p vote Says_nothing = []
out_on s p vote Votes = tells_vote s p vote
out_on s p vote Votes_again = tells_vote s p vote

-- the turn on the request in p is what an acceptor with this row does: in the row that it leaves, in its note, and in what goes out
abbrev pub IsAcceptors : Seat → Row → Packet → Request → Turn → Type 0
IsAcceptors s row p r t =
    (t.row ≡ next_row row r) × (t.note ≡ note_on p.ballot (reply_of row r)) × (t.out ≡ out_on s p (next_row row r).vote (reply_of row r))

-- a station answers each Prepare and Accept as an acceptor with its row does
abbrev pub TurnsAreAnAcceptors : Type 0
TurnsAreAnAcceptors =
    (s : Seat) (now : ℕ) (marks : List Mark) (row : Row) (p : Packet)
    → IsAcceptors s row p (Prepares p.ballot) (packet_turn s now marks row p Prepare)
    × ((entry : Entry) → IsAcceptors s row p (Accepts p.ballot entry) (packet_turn s now marks row p (Accept entry)))

-- a turn about n doesn't release it where it was released before; what was released stays so, and what the turn releases is so from then on
pub record ReleasesOnce (marks : List Mark) (n : ℕ) (t : Turn) : Type 0 where
  pub again : IsReleased marks n → t.release ≡ None
  pub stay : (j : ℕ) → IsReleased marks j → IsReleased t.marks j
  pub noted : (entry : Entry) → t.release ≡ Some entry → IsReleased t.marks n

-- where a number was released since the start, no turn releases it again
abbrev pub NumbersAreReleasedOnce : Type 0
NumbersAreReleasedOnce =
    (s : Seat) (marks : List Mark) (row : Row) (e : Event) (t : Turn)
    → IsMember s.members s.me → turn s marks row e ≡ Some t → ReleasesOnce marks (number_of e) t

-- a recall of n to a member leaves the row, and what it tells is the row's vote, whose ballot its note names: to another member in one packet,
-- with nothing taken in, and by the station to itself in none. Where the row has no vote, it does nothing, whatever the row has promised
pub record TellsTheVote (s : Seat) (n to : ℕ) (marks : List Mark) (row : Row) (t : Turn) : Type 0 where
  pub saves_nothing : t.row ≡ row
  pub blank : row.vote ≡ None → t ≡ stays row marks Note_blank
  pub noted : (v : Vote) → row.vote ≡ Some v → t.note ≡ Note_recalled v.ballot
  pub told : (v : Vote) → row.vote ≡ Some v → ¬ (to ≡ s.me) → (t.out ≡ packet_to s n v.ballot (Accepted v.entry) to ∷ []) × (t.marks ≡ marks) × (t.release ≡ None)
  pub heard : (v : Vote) → row.vote ≡ Some v → to ≡ s.me → (t.out ≡ []) × Hears s.members n s.me v.ballot v.entry marks t.release t.marks

-- so does every recall
abbrev pub RecallsTellTheVote : Type 0
RecallsTellTheVote =
    (s : Seat) (marks : List Mark) (row : Row) (n to : ℕ) (t : Turn)
    → turn s marks row (Recalled n to) ≡ Some t → TellsTheVote s n to marks row t
