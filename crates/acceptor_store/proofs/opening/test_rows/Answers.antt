use Rattle.std.proofs.Common.{rules}
use Rattle.sqlite.specs.Held.{state}
use Rattle.acceptor_store.proofs.TestingLemmas.{had_all, on_ok}
use Rattle.acceptor_store.proofs.opening.test_rows.Goals as goal

pub returns-in-Ok : goal.returns-in-Ok
returns-in-Ok g c =
    let trees = (state g.S.Store c.args.conn.now).now.trees in
    record {
      sound = λ clean has.
          let lists = had_all c.args.layout trees c.new-test.result c.visit_rows.new.visitor c.in-Ok.field-0 c.new-test.ensures (c.in-Ok.ensures.listed clean has) c.in-Ok.ensures.enough in
          on_ok (λ both. both.1) c.verdict.result (c.verdict.ensures.sound c.args.layout trees lists);
      serves = λ clean has alone settled.
          let lists = had_all c.args.layout trees c.new-test.result c.visit_rows.new.visitor c.in-Ok.field-0 c.new-test.ensures (c.in-Ok.ensures.listed clean has) c.in-Ok.ensures.enough in
          on_ok (λ both. c.in-Ok.ensures.reads.begins has alone settled both.0 clean) c.verdict.result (c.verdict.ensures.sound c.args.layout trees lists);
      refuses = λ clean has.
          let lists = had_all c.args.layout trees c.new-test.result c.visit_rows.new.visitor c.in-Ok.field-0 c.new-test.ensures (c.in-Ok.ensures.listed clean has) c.in-Ok.ensures.enough in
          c.verdict.ensures.refuses c.args.layout trees lists;
      tables = search rules;
    }
