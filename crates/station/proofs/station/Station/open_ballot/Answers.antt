-- The open proposal of a station that has not stopped.
use Rattle.std.proofs.Common.{sym, subst}
use Rattle.node_core.specs.Standing.{Core, StandsFor}
use Rattle.station.proofs.station.Station.open_ballot.Goals as goal

pub returns-clause-opened : goal.returns-clause-opened
returns-clause-opened g c = λ goes marks stands. c.open_ballot.ensures.value marks (subst (λ (core : Core). StandsFor core marks) (sym c.core.ensures) stands)
