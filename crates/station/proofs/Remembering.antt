-- All that a station remembers fits the version in which it speaks.
use Rattle.std.proofs.Common.{◌≡◌, ℕ, refl, sym, ap, subst, ◌∙◌, List, [], Option, Some, None, Result, Ok, Err, IfOk, IfErr, true, false}
use Rattle.std.specs.Prelude.{◌≤◌, IfSome, IsSome, length}
use Rattle.protocol.specs.Lists.{IsAmong}
use Rattle.protocol.specs.Ballots.{IsMember}
use Rattle.protocol.specs.Entries.{Entry}
use Rattle.protocol.specs.Rows.{Row, Vote}
use Rattle.protocol.specs.Packets.{Packet}
use Rattle.protocol.specs.Versions.{Version, One, Two}
use Rattle.protocol.specs.Marks.{Mark, Began, Promised, Proposed, Denied, Heard, Closed, Released}
use Rattle.protocol.specs.Limits.{most_sent}
use Rattle.protocol.specs.Fitting as fitting
use Rattle.protocol.specs.Fitting.{Fits, VoteFits, MarkFits, MarksFit, EventFits, TurnsFit}
use Rattle.rows_saved.specs.Saved.{RowFits}
use Rattle.node_core.specs.Standing.{Core, StandsFor, seat_of}
use Rattle.node_core.specs.Turns.{event_value, note_value, sent, is_quiet, HandsNothing, IsRowAfter}
use Rattle.node_core.specs.Calls.{RefusesToStart, RefusesEvent, Refuses, TookTurn}
use Rattle.node_core.specs.declared.event.Event.{Event}
use Rattle.node_core.specs.declared.event.Event.TheVariants as events
use Rattle.node_core.specs.declared.turn.Turn.{Turn}
use Rattle.node_core.specs.declared.turn.CoreRefusal.{CoreRefusal}
use Rattle.node_core.specs.declared.turn.CoreRefusal.TheVariants as refusals
use Rattle.station.specs.Speaking.{IsOrderly, Speaks, TurnSpeaks, is_lower}

-- no mark fits every version
pub nothing_speaks : (core : Core) (wire : Version) → StandsFor core [] → Speaks core wire
nothing_speaks core wire none = record { marks = []; stands_for = none; fit = record { each = λ x h. absurd h } }

-- each mark fits version 2
own_fits : (own : Option Entry) → IfSome own (Fits Two)
own_fits None = tt
own_fits (Some entry) = refl

vote_fits : (vote : Option Vote) → VoteFits Two vote
vote_fits None = tt
vote_fits (Some vote) = refl

mark_fits : (x : Mark) → MarkFits Two x
mark_fits (Began n b own report now) = (own_fits own, vote_fits report)
mark_fits (Promised n m b report) = vote_fits report
mark_fits (Proposed n b now) = tt
mark_fits (Denied n p) = tt
mark_fits (Heard n m b entry) = refl
mark_fits (Closed n) = tt
mark_fits (Released n entry) = refl

-- what fits a version fits one that is not below it
marks_fit : (v w : Version) (marks : List Mark) → is_lower w v ≡ false → MarksFit v marks → MarksFit w marks
marks_fit One One marks above h = h
marks_fit Two One marks above h = absurd cc
marks_fit v Two marks above h = record { each = λ x among. mark_fits x }

pub speaks_above : (core : Core) (v w : Version) → is_lower w v ≡ false → Speaks core v → Speaks core w
speaks_above core v w above h = record { marks = h.marks; stands_for = h.stands_for; fit = marks_fit v w h.marks above h.fit }

-- of a turn that was taken from marks that fit, at a row and an event that do
module _ (v : Version) (event : Event) (old new : Core) (row : Row) (x : Turn) (law : TurnsFit) (member : IsMember old.members old.me) (h : Speaks old v) (row_fits : RowFits v row)
    (event_fits : EventFits v (event_value event)) (took : TookTurn old event h.marks row x new) where
  turn_fits : fitting.TurnFits v took.turn
  turn_fits = law v (seat_of old) h.marks row (event_value event) took.turn member took.is_the_turn h.fit row_fits event_fits

  pub speaks_after : Speaks new v
  speaks_after = record { marks = took.turn.marks; stands_for = took.took.stands; fit = turn_fits.marks }

  saved_fits : (o : Option Row) → IsRowAfter row took.turn.row o → IfSome o (RowFits v)
  saved_fits None l = tt
  saved_fits (Some r) l = subst (λ (q : Row). RowFits v q) l.0 turn_fits.row

  pub turn_speaks : TurnSpeaks v row x
  turn_speaks = record {
    saves = saved_fits x.row took.took.is_turn.row_after;
    sends = λ p among. turn_fits.out p (subst (λ (l : List Packet). IsAmong l p) took.took.is_turn.out among);
  }

-- a refusal that is not for want of memory leaves the core as it was
starts_same :
    (e : CoreRefusal) (same : Type 0) (stands : List Mark → Type 0) (m n : ℕ) (row : Row) → (e ≡ refusals.OutOfMemory → ⊥)
    → RefusesToStart e same stands m n row → same
starts_same refusals.Failed same stands m n row other h = absurd h
starts_same refusals.AlreadyReleased same stands m n row other h = h.0
starts_same refusals.AlreadyOpen same stands m n row other h = h.0
starts_same refusals.RoundsSpent same stands m n row other h = h.0
starts_same refusals.OutOfMemory same stands m n row other h = absurd (other refl)

pub core_stays : (e : CoreRefusal) (event : Event) (old new : Core) (row : Row) → (e ≡ refusals.OutOfMemory → ⊥) → RefusesEvent event e old row new → new ≡ old
core_stays e (events.Offer number entry now) old new row other h = starts_same e (new ≡ old) (StandsFor old) old.me number row other h
core_stays e (events.Seek number now) old new row other h = starts_same e (new ≡ old) (StandsFor old) old.me number row other h
core_stays e (events.Due number now) old new row other h = absurd (other h)
core_stays e (events.Arrived packet now) old new row other h = absurd (other h)
core_stays e (events.Recall number to) old new row other h = absurd (other h)

-- want of memory may leave any core
pub wants_memory : (event : Event) (old new : Core) (row : Row) → RefusesEvent event refusals.OutOfMemory old row new
wants_memory (events.Offer number entry now) old new row = tt
wants_memory (events.Seek number now) old new row = tt
wants_memory (events.Due number now) old new row = refl
wants_memory (events.Arrived packet now) old new row = refl
wants_memory (events.Recall number to) old new row = refl

-- a core that stands for marks has not failed
pub refused_event : (e : CoreRefusal) (event : Event) (old new : Core) (row : Row) (marks : List Mark) → StandsFor old marks → Refuses e event old row new → RefusesEvent event e old row new
refused_event refusals.Failed event old new row marks stands h = let e : true ≡ false = sym h.0 ∙ stands.unfailed in absurd cc
refused_event refusals.AlreadyReleased event old new row marks stands h = h
refused_event refusals.AlreadyOpen event old new row marks stands h = h
refused_event refusals.RoundsSpent event old new row marks stands h = h
refused_event refusals.OutOfMemory event old new row marks stands h = wants_memory event old new row

-- of what came of an event, but want of memory, that came when the marks fitted
module _ (v : Version) (event : Event) (old new : Core) (row : Row) (law : TurnsFit) (member : IsMember old.members old.me) (h : Speaks old v) (row_fits : RowFits v row)
    (event_fits : EventFits v (event_value event)) where
  pub answered_speaks :
      (r : Result Turn CoreRefusal) → IfOk r (λ x. (marks : List Mark) → StandsFor old marks → TookTurn old event marks row x new) → IfErr r (λ e. Refuses e event old row new)
      → (r ≡ Err refusals.OutOfMemory → ⊥) → Speaks new v
  answered_speaks (Ok x) ok err other = speaks_after v event old new row x law member h row_fits event_fits (ok h.marks h.stands_for)
  answered_speaks (Err e) ok err other =
      subst (λ (c : Core). Speaks c v) (sym (core_stays e event old new row (λ is. other (ap Err is)) (refused_event e event old new row h.marks h.stands_for err))) h

  pub answered_fits : (r : Result Turn CoreRefusal) → IfOk r (λ x. (marks : List Mark) → StandsFor old marks → TookTurn old event marks row x new) → IfOk r (TurnSpeaks v row)
  answered_fits (Ok x) ok = turn_speaks v event old new row x law member h row_fits event_fits (ok h.marks h.stands_for)
  answered_fits (Err e) ok = tt

-- a turn of the core's is orderly
pub orderly :
    (r : Result Turn CoreRefusal) (row : Row) → IfOk r (λ x. IfSome x.row (λ (after : Row). IsSome after.promised)) → IfOk r (λ x. length (sent row x) ≤ most_sent)
    → IfOk r (λ x. is_quiet (note_value x.note) ≡ true → HandsNothing x) → IfOk r (IsOrderly row)
orderly (Ok x) row promised few quiet = record { promised = promised; few = few; quiet = quiet }
orderly (Err e) row promised few quiet = tt
