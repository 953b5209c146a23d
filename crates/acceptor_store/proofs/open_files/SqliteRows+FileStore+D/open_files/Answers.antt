use Rattle.std.proofs.Common.{inl, inr, arith}
use Rattle.sqlite.specs.State.{HasCleanDisk}
use Rattle.sqlite.specs.Files.{file_state}
use Rattle.acceptor_store.proofs.open_files.SqliteRows+FileStore+D.open_files.Goals as goal

pub returns-in-Ok-rows_in_files-clause-taken : goal.returns-in-Ok-rows_in_files-clause-taken
returns-in-Ok-rows_in_files-clause-taken g c =
    let is = c.in-Ok-rows_in_files.ensures.given in
    let was = c.in-Ok.conn in
    record {
      is_open = λ clean ours. is.is_open (clean, ours);
      rests = λ clean ours. is.rests (clean, ours);
      made = record {
        was = was;
        opened = λ clean. c.in-Ok.ensures.opened (omega (arith, clean, is.clean));
        found = λ clean. let found = c.in-Ok.ensures.found (omega (arith, clean, is.clean)) in record { holds = found.holds; reads = found.reads };
        ours = is.ours;
      };
      rows = λ clean ours.
          let early : HasCleanDisk (file_state was) = omega (arith, clean, is.clean) in
          let found = c.in-Ok.ensures.found early in
          record {
            was = was;
            opened = c.in-Ok.ensures.opened early;
            found = record { holds = found.holds; reads = found.reads };
            tables = is.tables (clean, ours);
            unwritten = is.unwritten (clean, ours);
            crash = is.crash (clean, ours);
            same = is.same (clean, ours);
            station = is.stored (clean, ours);
            fresh = is.fresh;
          };
      agrees = is.agrees;
      fresh = is.fresh;
      unstopped = is.unstopped;
    }

pub returns-in-Ok-rows_in_files-clause-honest : goal.returns-in-Ok-rows_in_files-clause-honest
returns-in-Ok-rows_in_files-clause-honest g c =
    let is = c.in-Ok-rows_in_files.ensures.given in
    λ clean. (c.in-Ok.ensures.found (omega (arith, clean, is.clean))).honest

pub returns-in-Err-clause-refused : goal.returns-in-Err-clause-refused
returns-in-Err-clause-refused g c = inl c.in-Err.ensures.refused

pub returns-in-Err-rows_in_files-clause-refused : goal.returns-in-Err-rows_in_files-clause-refused
returns-in-Err-rows_in_files-clause-refused g c = inr (record {
  was = c.in-Ok.conn;
  now = c.in-Err-rows_in_files.conn;
  opened = c.in-Ok.ensures.opened;
  found = c.in-Ok.ensures.found;
  why = c.in-Err-rows_in_files.ensures.refused;
  gives_up = c.into_files.ensures;
})
