-- Why the core took no turn.
use Rattle.std.proofs.Common.{◌≡◌, List, Option, None, true, false, refl, sym, ap, ◌∙◌}
use Rattle.std.specs.Prelude.{is_some}
use Rattle.protocol.specs.Rows.{Row}
use Rattle.protocol.specs.Marks.{Mark}
use Rattle.protocol.specs.Proposals.{Opening}
use Rattle.protocol.specs.Turn as said
use Rattle.node_core.specs.Standing.{Core, StandsFor, seat_of}
use Rattle.node_core.specs.Turns.{event_value}
use Rattle.node_core.specs.Calls.{RefusesEvent}
use Rattle.node_core.specs.declared.event.Event.{Event}
use Rattle.node_core.specs.declared.event.Event.TheVariants as events
use Rattle.node_core.specs.declared.turn.CoreRefusal.TheVariants as refusals
use Rattle.station.specs.Speaking.{Speaking}
use Rattle.station.specs.Steps.{IsFree}

-- where the rounds are spent there is no turn, and the core stays
spent_core : (event : Event) (old new : Core) (row : Row) → RefusesEvent event refusals.RoundsSpent old row new → new ≡ old
spent_core (events.Offer number entry now) old new row h = h.0
spent_core (events.Seek number now) old new row h = h.0
spent_core (events.Due number now) old new row h = absurd cc
spent_core (events.Arrived packet now) old new row h = absurd cc
spent_core (events.Recall number to) old new row h = absurd cc

pub spent_stays : (event : Event) (old new : Speaking) (row : Row) → new.wire ≡ old.wire → RefusesEvent event refusals.RoundsSpent old.core row new.core → new ≡ old
spent_stays event old new row wire h = λ i. record { core = spent_core event old.core new.core row h i; wire = wire i }

pub spent_none :
    (event : Event) (old new : Core) (row : Row) (marks : List Mark) → RefusesEvent event refusals.RoundsSpent old row new
    → said.turn (seat_of old) marks row (event_value event) ≡ None
spent_none (events.Offer number entry now) old new row marks h = rw h.2 refl
spent_none (events.Seek number now) old new row marks h = rw h.2 refl
spent_none (events.Due number now) old new row marks h = absurd cc
spent_none (events.Arrived packet now) old new row marks h = absurd cc
spent_none (events.Recall number to) old new row marks h = absurd cc

-- a free number is not refused as released
pub not_released :
    (event : Event) (old new : Core) (row : Row) (marks : List Mark) → StandsFor old marks → IsFree marks (event_value event)
    → RefusesEvent event refusals.AlreadyReleased old row new → ⊥
not_released (events.Offer number entry now) old new row marks stands free h = let e : true ≡ false = sym (h.1 marks stands) ∙ free.0 in cc
not_released (events.Seek number now) old new row marks stands free h = let e : true ≡ false = sym (h.1 marks stands) ∙ free.0 in cc
not_released (events.Due number now) old new row marks stands free h = cc
not_released (events.Arrived packet now) old new row marks stands free h = cc
not_released (events.Recall number to) old new row marks stands free h = cc

-- nor as open
pub not_open :
    (event : Event) (old new : Core) (row : Row) (marks : List Mark) → StandsFor old marks → IsFree marks (event_value event)
    → RefusesEvent event refusals.AlreadyOpen old row new → ⊥
not_open (events.Offer number entry now) old new row marks stands free h =
    let e : true ≡ false = sym (h.1 marks stands).1 ∙ ap (λ (o : Option Opening). is_some o) free.1 in cc
not_open (events.Seek number now) old new row marks stands free h =
    let e : true ≡ false = sym (h.1 marks stands).1 ∙ ap (λ (o : Option Opening). is_some o) free.1 in cc
not_open (events.Due number now) old new row marks stands free h = cc
not_open (events.Arrived packet now) old new row marks stands free h = cc
not_open (events.Recall number to) old new row marks stands free h = cc

-- nor because the core had failed
pub not_failed : (event : Event) (old new : Core) (row : Row) → RefusesEvent event refusals.Failed old row new → ⊥
not_failed (events.Offer number entry now) old new row h = h
not_failed (events.Seek number now) old new row h = h
not_failed (events.Due number now) old new row h = cc
not_failed (events.Arrived packet now) old new row h = cc
not_failed (events.Recall number to) old new row h = cc
