-- What the code's events, notes and turns say, in the protocol's words.
use Rattle.std.specs.Prelude.{◌≡◌, List, Bool, true, false, Option, Some, None, IsSome, IfSome, unwrap_or, option_map}
use Rattle.protocol.specs.Rows.{Row}
use Rattle.protocol.specs.Packets.{Packet}
use Rattle.protocol.specs.Turn as said
use Rattle.tape_frames.specs.Entries.{owned_entry}
use Rattle.node_core.specs.declared.event.Event.{Event}
use Rattle.node_core.specs.declared.event.Event.TheVariants as events
use Rattle.node_core.specs.declared.turn.Note.{Note}
use Rattle.node_core.specs.declared.turn.Note.TheVariants as notes
use Rattle.node_core.specs.declared.turn.Turn.{Turn}
use Rattle.packets.specs.Mails.{Mail, mail_sends, IsFew}

-- what comes to the station
abbrev pub event_value : Event → said.Event
event_value (events.Offer number entry now) = said.Offered number (owned_entry entry) now
event_value (events.Seek number now) = said.Sought number now
event_value (events.Due number now) = said.Came_due number now
event_value (events.Arrived packet now) = said.Arrived packet now
event_value (events.Recall number to) = said.Recalled number to

-- what the turn did
abbrev pub note_value : Note → said.Note
note_value (notes.Began b) = said.Note_began b
note_value (notes.Nothing b) = said.Note_nothing b
note_value (notes.Proposed b) = said.Note_proposed b
note_value notes.Idle = said.Note_idle
note_value (notes.GaveUp b) = said.Note_gave_up b
note_value (notes.Promised b) = said.Note_promised b
note_value notes.Silent = said.Note_silent
note_value (notes.Nacked p) = said.Note_nacked p
note_value (notes.VotedAgain b) = said.Note_voted_again b
note_value (notes.Voted b) = said.Note_voted b
note_value notes.Stale = said.Note_stale
note_value (notes.Overtaken b) = said.Note_overtaken b
note_value notes.Repeated = said.Note_repeated
note_value (notes.Counted b) = said.Note_counted b
note_value (notes.Denied p) = said.Note_denied p
note_value notes.Settled = said.Note_settled
note_value (notes.Heard b) = said.Note_heard b
note_value (notes.Recalled b) = said.Note_recalled b
note_value notes.Blank = said.Note_blank

-- a turn with this note finds that nothing is to be done, but that a Nack may be kept: it saves, sends and releases nothing
abbrev pub is_quiet : said.Note → Bool
is_quiet said.Note_silent = true
is_quiet said.Note_stale = true
is_quiet said.Note_repeated = true
is_quiet (said.Note_overtaken b) = true
is_quiet (said.Note_denied p) = true
is_quiet said.Note_settled = true
is_quiet said.Note_idle = true
is_quiet said.Note_blank = true
is_quiet _ = false

-- the turn is not quiet
abbrev pub Stirs : said.Turn → Type 0
Stirs t = is_quiet t.note ≡ false

-- the row after a turn: it is given where it differs from the row before, and only there
abbrev pub IsRowAfter : Row → Row → Option Row → Type 0
IsRowAfter before after None = after ≡ before
IsRowAfter before after (Some row) = (after ≡ row) × ¬ (row ≡ before)

-- the packets that go out with a turn that was taken at this row
abbrev pub sent : Row → Turn → List Packet
sent row x = mail_sends x.mail (unwrap_or x.row row).vote

-- what the code hands out is the turn t of the definitions, from this row
pub record IsTurn (row : Row) (t : said.Turn) (x : Turn) : Type 0 where
  pub row_after : IsRowAfter row t.row x.row
  pub out : sent row x ≡ t.out
  pub release : option_map owned_entry x.release ≡ t.release
  pub note : note_value x.note ≡ t.note

-- the row, if there is one, has a promise
abbrev pub HasPromise : Option Row → Type 0
HasPromise row = IfSome row (λ r. IsSome r.promised)

-- it saves, sends and releases nothing
pub record HandsNothing (x : Turn) : Type 0 where
  pub saves : x.row ≡ None
  pub sends : x.mail ≡ None
  pub releases : x.release ≡ None

-- the row that it changes has a promise, two packets go out to each of 14 others at most, and a quiet turn hands out nothing
pub record IsOrderly (x : Turn) : Type 0 where
  pub promised : HasPromise x.row
  pub few : IsFew x.mail
  pub quiet : is_quiet (note_value x.note) ≡ true → HandsNothing x

-- what the code hands out is this mail, with this row after and this note
pub record IsSending (x : Turn) (row : Option Row) (note : Note) (mail : Mail) : Type 0 where
  pub row_after : x.row ≡ row
  pub out : x.mail ≡ Some mail
  pub release : x.release ≡ None
  pub noted : x.note ≡ note
