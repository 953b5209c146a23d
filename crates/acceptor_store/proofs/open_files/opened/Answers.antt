use Rattle.std.proofs.Common.{inr}
use Rattle.acceptor_store.proofs.open_files.opened.Goals as goal

pub returns-in-Err-clause-refused : goal.returns-in-Err-clause-refused
returns-in-Err-clause-refused g c = inr (record {
  error = c.in-Err.error;
  left = c.in-Err.left;
  named = c.in-Err.ensures.named;
  is = c.file_fault_of.ensures.fault;
  came_back = c.into_files.ensures;
  cause = c.in-Err.ensures.cause;
  unharmed = c.in-Err.ensures.unharmed;
})
