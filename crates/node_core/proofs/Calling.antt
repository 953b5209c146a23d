-- What the calls of a core answer.
use Rattle.std.proofs.Common.{◌≡◌, ℕ, refl, sym, ap, subst, ◌∙◌, List, Option, Some, None, Bool, true, false}
use Rattle.std.specs.Prelude.{is_some, not}
use Rattle.protocol.specs.Rows.{Row}
use Rattle.protocol.specs.Marks.{Mark}
use Rattle.protocol.specs.Ballots.{Ballot, next}
use Rattle.protocol.specs.Turn as said
use Rattle.protocol.specs.Turn.{begin, due_turn, packet_turn, recall_turn}
use Rattle.protocol.specs.Proposals.{open_proposal}
use Rattle.protocol.specs.Packets.{Packet}
use Rattle.tape_frames.specs.Entries.{owned_entry}
use Rattle.tape_frames.specs.declared.entry.Entry.{Entry}
use Rattle.node_core.specs.declared.event.Event.{Event}
use Rattle.node_core.specs.declared.event.Event.TheVariants as events
use Rattle.node_core.specs.declared.turn.Turn.{Turn}
use Rattle.node_core.specs.declared.turn.CoreRefusal.{CoreRefusal}
use Rattle.node_core.specs.declared.turn.CoreRefusal.TheVariants as refusals
use Rattle.protocol.specs.Seats.{Seat}
use Rattle.node_core.specs.Turns.{event_value, note_value, is_quiet, Stirs, IsTurn, HandsNothing}
use Rattle.node_core.specs.Calls.{StartIs, TurnIs, RefusesToStart, IsRefused}

-- an offer or a search that begins the next ballot
pub offered : (s : Seat) (n j : ℕ) (entry : Entry) (now : ℕ) (marks : List Mark) (row : Row) (P : said.Turn → Type 0) → j ≡ n → StartIs s n (Some (owned_entry entry)) now marks row P → TurnIs s (events.Offer j entry now) marks row P
offered s n j entry now marks row P same h = subst (λ i. TurnIs s (events.Offer i entry now) marks row P) (sym same)
    (let e : next row.promised s.me ≡ Some h.ballot = h.is_next in record { free = h.free; turn = begin s n h.ballot (Some (owned_entry entry)) now marks row; is_the_turn = rw e refl; holds = h.holds })

pub sought : (s : Seat) (n j now : ℕ) (marks : List Mark) (row : Row) (P : said.Turn → Type 0) → j ≡ n → StartIs s n None now marks row P → TurnIs s (events.Seek j now) marks row P
sought s n j now marks row P same h = subst (λ i. TurnIs s (events.Seek i now) marks row P) (sym same)
    (let e : next row.promised s.me ≡ Some h.ballot = h.is_next in record { free = h.free; turn = begin s n h.ballot None now marks row; is_the_turn = rw e refl; holds = h.holds })

pub came_due : (s : Seat) (n j now : ℕ) (marks : List Mark) (row : Row) (P : said.Turn → Type 0) → j ≡ n → P (due_turn s n now marks row (open_proposal n marks)) → TurnIs s (events.Due j now) marks row P
came_due s n j now marks row P same h = subst (λ i. TurnIs s (events.Due i now) marks row P) (sym same) (record { free = tt; turn = due_turn s n now marks row (open_proposal n marks); is_the_turn = refl; holds = h })

pub packet_came : (s : Seat) (p : Packet) (now : ℕ) (marks : List Mark) (row : Row) (P : said.Turn → Type 0) → P (packet_turn s now marks row p p.body) → TurnIs s (events.Arrived p now) marks row P
packet_came s p now marks row P h = record { free = tt; turn = packet_turn s now marks row p p.body; is_the_turn = refl; holds = h }

pub recalled : (s : Seat) (n j to : ℕ) (marks : List Mark) (row : Row) (P : said.Turn → Type 0) → j ≡ n → P (recall_turn s n to marks row row.vote) → TurnIs s (events.Recall j to) marks row P
recalled s n j to marks row P same h = subst (λ i. TurnIs s (events.Recall i to) marks row P) (sym same) (record { free = tt; turn = recall_turn s n to marks row row.vote; is_the_turn = refl; holds = h })

-- a turn of which P holds is one of which Q holds
pub turn_so :
    (s : Seat) (event : Event) (marks : List Mark) (row : Row) (P Q : said.Turn → Type 0) → TurnIs s event marks row P
    → ((t : said.Turn) → said.turn s marks row (event_value event) ≡ Some t → P t → Q t) → TurnIs s event marks row Q
turn_so s event marks row P Q h f = record { free = h.free; turn = h.turn; is_the_turn = h.is_the_turn; holds = f h.turn h.is_the_turn h.holds }

-- a turn that releases an entry is not quiet
pub released_stirs : (row : Row) (t : said.Turn) (x : Turn) → IsTurn row t x → (is_quiet (note_value x.note) ≡ true → HandsNothing x) → is_some x.release ≡ true → Stirs t
released_stirs row t x is quiet released = subst (λ (note : said.Note). is_quiet note ≡ false) is.note (go (is_quiet (note_value x.note)) refl)
  where
    go : (q : Bool) → is_quiet (note_value x.note) ≡ q → is_quiet (note_value x.note) ≡ false
    go true e = let bad : false ≡ true = ap (λ (o : Option Entry). is_some o) (sym (quiet e).releases) ∙ released in absurd cc
    go false e = e

-- why there is no turn, told of what stands for the same marks and stays where the other does
module _ (A B : Type 0) (P Q : List Mark → Type 0) (stay : A → B) (stand : (marks : List Mark) → Q marks → P marks) (m : ℕ) (row : Row) where
  pub start_refused : (e : CoreRefusal) (n : ℕ) → RefusesToStart e A P m n row → RefusesToStart e B Q m n row
  start_refused refusals.Failed n h = h
  start_refused refusals.AlreadyReleased n h = (stay h.0, λ marks q. h.1 marks (stand marks q))
  start_refused refusals.AlreadyOpen n h = (stay h.0, λ marks q. h.1 marks (stand marks q))
  start_refused refusals.RoundsSpent n h = (stay h.0, (λ marks q. h.1 marks (stand marks q)), h.2)
  start_refused refusals.OutOfMemory n h = tt

  pub refused_told : (event : Event) (e : CoreRefusal) → IsRefused event e A P m row → IsRefused event e B Q m row
  refused_told (events.Offer n entry now) e h = start_refused e n h
  refused_told (events.Seek n now) e h = start_refused e n h
  refused_told (events.Due n now) e h = h
  refused_told (events.Arrived p now) e h = h
  refused_told (events.Recall n to) e h = h

-- whether there is a next ballot
pub next_told : (p q : Option Ballot) (m n : ℕ) (o : Option Ballot) (b : Bool) → p ≡ q → m ≡ n → o ≡ next p m → is_some o ≡ not b → is_some (next q n) ≡ not b
next_told p q m n o b e f g h = ap (λ k. is_some (next q k)) (sym f) ∙ ap (λ (x : Option Ballot). is_some (next x m)) (sym e) ∙ ap (λ (x : Option Ballot). is_some x) (sym g) ∙ h

pub some_so : (o : Option Ballot) → is_some o ≡ true → (b : Ballot) × (o ≡ Some b)
some_so None e = let f : false ≡ true = e in absurd cc
some_so (Some b) e = (b, refl)
