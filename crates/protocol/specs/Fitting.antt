-- What the versions promise. A station of version 2 reads both; and no entry is made up:
-- what a turn saves, keeps in mind, sends and releases fits a version where what the turn was given does.
use Rattle.std.specs.Prelude.{◌≡◌, ℕ, List, Option, Some, Ok, true, IfSome}
use Rattle.protocol.specs.Lists.{IsAmong}
use Rattle.protocol.specs.Seats.{Seat}
use Rattle.protocol.specs.Ballots.{IsMember}
use Rattle.protocol.specs.Entries.{Entry}
use Rattle.protocol.specs.Rows.{Vote, Row}
use Rattle.protocol.specs.Versions.{Version, Two, fits}
use Rattle.protocol.specs.Packets.{Packet, Body, Prepare, Promise, Accept, Accepted, Nack}
use Rattle.protocol.specs.Marks.{Mark, Began, Promised, Proposed, Denied, Heard, Closed, Released}
use Rattle.protocol.specs.Circuit.{Circuit, hears, State, History}
use Rattle.protocol.specs.Turn.{Event, Offered, Sought, Came_due, Arrived, Recalled, Turn, turn}

-- what spells a packet in either version, a station of version 2 takes for that packet
abbrev pub VersionTwoReadsBoth : (D G F : Type 0) → Type 0
VersionTwoReadsBoth D G F = (z : Circuit D G F) (v : Version) (bytes : List ℕ) (p : Packet) → z.reads v bytes ≡ Ok p → hears z Two bytes ≡ Ok p

-- the version has a spelling for the entry
abbrev pub Fits : Version → Entry → Type 0
Fits v entry = fits v entry ≡ true

-- there is no vote, or its entry fits
abbrev pub VoteFits : Version → Option Vote → Type 0
VoteFits v vote = IfSome vote (λ u. Fits v u.entry)

-- the entries in a mark fit
abbrev pub MarkFits : Version → Mark → Type 0
MarkFits v (Began n b own report now) = IfSome own (Fits v) × VoteFits v report
MarkFits v (Promised n m b report) = VoteFits v report
MarkFits v (Proposed n b now) = Unit {0}
MarkFits v (Denied n p) = Unit {0}
MarkFits v (Heard n m b entry) = Fits v entry
MarkFits v (Closed n) = Unit {0}
MarkFits v (Released n entry) = Fits v entry

-- the entries in all marks fit
pub record MarksFit (v : Version) (marks : List Mark) : Type 0 where
  pub each : (x : Mark) → IsAmong marks x → MarkFits v x

-- the entry in what a packet says fits, if there is one
abbrev pub BodyFits : Version → Body → Type 0
BodyFits v Prepare = Unit {0}
BodyFits v (Promise report) = VoteFits v report
BodyFits v (Accept entry) = Fits v entry
BodyFits v (Accepted entry) = Fits v entry
BodyFits v (Nack p) = Unit {0}

-- the entry that an event brings fits, if it brings one
abbrev pub EventFits : Version → Event → Type 0
EventFits v (Offered n entry now) = Fits v entry
EventFits v (Sought n now) = Unit {0}
EventFits v (Came_due n now) = Unit {0}
EventFits v (Arrived p now) = BodyFits v p.body
EventFits v (Recalled n to) = Unit {0}

-- the entries that a turn saves, keeps in mind, sends and releases fit
pub record TurnFits (v : Version) (t : Turn) : Type 0 where
  pub row : VoteFits v t.row.vote
  pub marks : MarksFit v t.marks
  pub out : (p : Packet) → IsAmong t.out p → BodyFits v p.body
  pub release : IfSome t.release (Fits v)

-- a turn makes no entry up: where marks, row and event fit a version, the turn does
abbrev pub TurnsFit : Type 0
TurnsFit =
    (v : Version) (s : Seat) (marks : List Mark) (row : Row) (e : Event) (t : Turn) → IsMember s.members s.me → turn s marks row e ≡ Some t
    → MarksFit v marks → VoteFits v row.vote → EventFits v e → TurnFits v t

-- the entry of each packet that is spelled in a version fits the version
abbrev pub SpellsWhatFits : {D G F : Type 0} → Circuit D G F → Type 0
SpellsWhatFits z = (v : Version) (bytes : List ℕ) (p : Packet) → z.reads v bytes ≡ Ok p → BodyFits v p.body

-- the entries of each member's saved votes and marks fit the version that it is at
pub record MembersFit {G F : Type 0} (w : State G F) : Type 0 where
  pub rows : (m n : ℕ) → VoteFits (w.version m) (w.rows m n).vote
  pub marks : (m : ℕ) → MarksFit (w.version m) (w.marks m)

-- in every history, with upgrades and torn ones among its steps, each member holds only entries that its version can save and send
abbrev pub HistoriesFit : (D G F : Type 0) → Type 0
HistoriesFit D G F = (z : Circuit D G F) (w : State G F) → SpellsWhatFits z → History z w → MembersFit w
