-- A packet of a number that was released, answered as the event of its arrival.
use Rattle.std.proofs.Common.{◌≡◌, ℕ, sym, subst, List, true}
use Rattle.std.specs.Prelude.{Result, MatchResult}
use Rattle.std.proofs.lemmas.Result.{MatchResult-weaker}
use Rattle.protocol.specs.Rows.{Row}
use Rattle.protocol.specs.Marks.{Mark}
use Rattle.protocol.specs.Packets.{Packet}
use Rattle.protocol.specs.Proposals.{was_released}
use Rattle.protocol.specs.Seats.{Seat}
use Rattle.protocol.specs.Turn as said
use Rattle.protocol.specs.Turn.{number_of, packet_turn}
use Rattle.node_core.specs.declared.event.Event.{Event}
use Rattle.node_core.specs.declared.event.Event.TheVariants as events
use Rattle.node_core.specs.declared.turn.Turn.{Turn}
use Rattle.node_core.specs.declared.turn.CoreRefusal.{CoreRefusal}
use Rattle.node_core.specs.Handling.{IsTurnAlone, IsReleased, HandlesAlone}
use Rattle.node_core.specs.Turns.{event_value, Stirs}
use Rattle.node_core.proofs.Calling.{packet_came}

-- the packet was answered by a turn that takes nothing in, whatever the moment, or memory was refused to it where the turn is not quiet
pub record Answered (s : Seat) (p : Packet) (row : Row) (result : Result Turn CoreRefusal) : Type 0 where
  pub turn :
      (now : ℕ) (marks : List Mark) → was_released p.number marks ≡ true
      → MatchResult result (λ x. IsTurnAlone row marks (packet_turn s now marks row p p.body) x) (λ _. Stirs (packet_turn s now marks row p p.body))

pub came :
    (s : Seat) (event : Event) (p : Packet) (now : ℕ) (row : Row) (result : Result Turn CoreRefusal) → event ≡ events.Arrived p now → Answered s p row result
    → (marks : List Mark) → IsReleased event marks → HandlesAlone s event row marks result
came s event p now row result is answered marks released =
    subst (λ (y : Event). HandlesAlone s y row marks result) (sym is)
    (MatchResult-weaker result (answered.turn now marks (subst (λ (y : Event). was_released (number_of (event_value y)) marks ≡ true) is released))
    (λ x t. packet_came s p now marks row (λ (u : said.Turn). IsTurnAlone row marks u x) t)
    (λ e stirs _. packet_came s p now marks row Stirs stirs))
