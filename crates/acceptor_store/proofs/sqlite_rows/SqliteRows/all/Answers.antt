use Rattle.std.proofs.Common.{rules, ◌≡◌, false, true≢false, sym, ◌∙◌}
use Rattle.sqlite.specs.Held.{state}
use Rattle.acceptor_store.specs.Sqlite.{Stands}
use Rattle.acceptor_store.proofs.StandLemmas.{same_rows, was_clean}
use Rattle.acceptor_store.proofs.sqlite_rows.SqliteRows.all.Goals as goal

pub returns-in-Err : goal.returns-in-Err
returns-in-Err g c = record {
  rows = search rules;
  fits = search rules;
  reads = record {
    call = record {
      answered = record {
        call = record {
          cause = search rules;
          counts = search rules;
          stay_made = search rules;
          was_kept = search rules;
          was_open = search rules;
        };
        opened = search rules;
        blames = rw (← c.self.view_is) (
            let still : c.self.inside.stopped ≡ false = search rules in (
              λ stopped. absurd (true≢false (sym stopped ∙ still)),
              λ kept.
                  let running : c.self.inside.stopped ≡ false = search rules in
                  let layout = c.self.inside.layout in
                  let stands : Stands g.S.Store layout c.self.inside.conn c.self.inside.identity = c.self.invariant.1 running kept.1 in
                  let old = state g.S.Store c.self.inside.conn in
                  let new = state g.S.Store c.list.new.conn in
                  c.in-Err.ensures.refusal stands.serves kept.0 (λ opened. (stands.holds (was_clean old new c.list.ensures.serving.clean kept.0) opened).holds.sound),
            ));
      };
      stopped = search rules;
      ours = search rules;
      station = search rules;
    };
    same = rw (← c.self.view_is) (λ kept opened.
        let running : c.self.inside.stopped ≡ false = search rules in
        let layout = c.self.inside.layout in
        let stands : Stands g.S.Store layout c.self.inside.conn c.self.inside.identity = c.self.invariant.1 running kept.1 in
        let old = state g.S.Store c.self.inside.conn in
        let new = state g.S.Store c.list.new.conn in
        same_rows layout old new (c.list.ensures.serving.same stands.serves kept.0 opened).same);
    crash = search rules;
    stays = search rules;
  };
}
