use Rattle.std.proofs.Common.{refl}
use Rattle.offers.proofs.Fair.{fair_in_turn}
use Rattle.offers.proofs.Turning.{in_turn_via}
use Rattle.offers.proofs.book.Book.next.Goals as goal

pub returns-in-None-clause-turn : goal.returns-in-None-clause-turn
returns-in-None-clause-turn c =
    in_turn_via c.args.self.now c.move_if.new.self c.args.allowed c.behind_moves.result c.in-None.ensures.same (c.in-None.ensures.none refl) c.behind_moves.ensures.turn

pub returns-in-None-clause-fair : goal.returns-in-None-clause-fair
returns-in-None-clause-fair c =
    fair_in_turn c.args.self.now c.args.allowed c.behind_moves.result
    (in_turn_via c.args.self.now c.move_if.new.self c.args.allowed c.behind_moves.result c.in-None.ensures.same (c.in-None.ensures.none refl) c.behind_moves.ensures.turn)
