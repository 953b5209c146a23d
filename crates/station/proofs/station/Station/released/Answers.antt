-- What a station that has not stopped released.
use Rattle.std.proofs.Common.{sym, subst}
use Rattle.node_core.specs.Standing.{Core, StandsFor}
use Rattle.station.proofs.station.Station.released.Goals as goal

pub returns-then-not-self-clause-released : goal.returns-then-not-self-clause-released
returns-then-not-self-clause-released g c = λ goes marks stands. c.released.ensures.value marks (subst (λ (core : Core). StandsFor core marks) (sym c.core.ensures) stands)
