-- A file leaves the offers only where its number was released.
use Rattle.std.proofs.Common.{sym, subst}
use Rattle.std.specs.Prelude.{IfSome, true}
use Rattle.run_command.specs.Departing.{IsFree}
use Rattle.run_command.proofs.Looking.{departure_free}
use Rattle.run_command.proofs.plant.Papers.next_departure.Goals as goal

pub returns-in-Some : goal.returns-in-Some
returns-in-Some c =
    let b = c.args.self.now.book in
    subst (λ d. IfSome d (IsFree b true)) (sym c.departure_of.ensures) (departure_free b c.in-Some.deed c.in-Some.ensures.rules)
