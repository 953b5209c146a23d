-- The key of the first plant, if it has one, and then of the others.
use Rattle.std.proofs.lemmas.List.{nil_from_length}
use Rattle.std.proofs.lemmas.Option.{MatchOption-at_none}
use Rattle.init_command.proofs.Keys.{own_key, none_found, none_there, asked_through, found_through, none_through}
use Rattle.init_command.proofs.key_choice.+circuit_key.Goals as goal

pub returns-in_default : goal.returns-in_default
returns-in_default t c =
    let empty = nil_from_length c.args.found.now (MatchOption-at_none _ _ c.in_default.is c.split_first.ensures.cases) in
    record {
      asked = own_key c.args.asked;
      found = none_found c.args.asked c.args.found.now empty;
      none = λ is. (is, none_there c.args.found.now empty);
    }

pub returns : goal.returns
returns t c =
    let split = c.in-Some.ensures.cases.0 in
    let mid = c.in_ok-key.ensures in
    let last = c.circuit_key.ensures in
    record {
      asked = asked_through c.circuit_key.result c.in_ok-key.key c.args.asked mid.first last.asked;
      found = found_through c.circuit_key.result c.in_ok-key.key c.in-Some.first.now c.in-Some.rest.now c.args.found.now split mid.second last.asked last.found;
      none = none_through c.circuit_key.result c.in_ok-key.key c.args.asked c.in-Some.first.now c.in-Some.rest.now c.args.found.now split mid.none last.none;
    }
