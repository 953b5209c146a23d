use Rattle.std.proofs.Common.{refl, rules}
use Rattle.offers.proofs.Turning.{behind_via, passed_via, forward_via}
use Rattle.offers.proofs.book.Book.behind_moves.Goals as goal

pub returns-in-None-clause-turn : goal.returns-in-None-clause-turn
returns-in-None-clause-turn c =
    behind_via c.args.self.now c.overdue.new.self c.args.asks c.ask_or_other.result c.in-None.ensures.takes.same (c.in-None.ensures.early refl) c.ask_or_other.ensures.turn

pub returns-in-None-clause-chooses : goal.returns-in-None-clause-chooses
returns-in-None-clause-chooses c = record {
  rules = search rules;
  passed = passed_via c.args.self.now c.overdue.new.self _ c.in-None.ensures.takes.same (c.in-None.ensures.early refl) c.ask_or_other.ensures.chooses.passed;
  forward = forward_via c.args.self.now c.overdue.new.self c.ask_or_other.new.self c.ask_or_other.result c.in-None.ensures.takes.same (c.in-None.ensures.early refl) c.ask_or_other.ensures.chooses.forward;
  same = search rules;
}
