use Rattle.std.proofs.Common.{rules}
use Rattle.sqlite.specs.Held.{state}
use Rattle.acceptor_store.proofs.OpeningLemmas.{refuses_station}
use Rattle.acceptor_store.proofs.opening.test_station.Goals as goal

pub returns : goal.returns
returns g c = record {
  stored = search rules;
  agrees = search rules;
  refuses = λ clean has.
      let layout = c.args.layout in
      refuses_station layout (state g.S.Store c.args.conn.now).now.trees c.in_ok-stored.stored (c.in_ok-stored.ensures.stored clean layout has) c.args.given c.wanted_station.result c.wanted_station.ensures.refuses;
  tables = record {
    unchanged = search rules;
    rests = search rules;
    leaves = λ clean has. c.read_station.ensures.leaves clean c.args.layout has;
    alone = search rules;
    clean = search rules;
  };
}

pub returns-in_err-stored : goal.returns-in_err-stored
returns-in_err-stored g c = record {
  stored = search rules;
  agrees = search rules;
  refuses = search rules;
  tables = record {
    unchanged = search rules;
    rests = search rules;
    leaves = λ clean has. c.read_station.ensures.leaves clean c.args.layout has;
    alone = search rules;
    clean = search rules;
  };
}
