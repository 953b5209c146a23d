use Rattle.std.proofs.Common.{List}
use Rattle.protocol.specs.Marks.{Mark}
use Rattle.protocol.specs.Proposals.{is_due_number}
use Rattle.node_core.specs.Standing.{AllStand, AreInstancesOf}
use Rattle.protocol.specs.Seats.{Seat}
use Rattle.node_core.proofs.Dueing.{Left}
use Rattle.node_core.proofs.instances.least_due.Given as goal

-- all that is due is left
abbrev pub invariant-loop-boxed : goal.invariant-loop-boxed
invariant-loop-boxed l = (s : Seat) (marks : List Mark) → AreInstancesOf s l.instances.entries → AllStand l.instances.entries marks → Left (is_due_number s.me l.now marks) l.instances.entries l.boxed-iterator
