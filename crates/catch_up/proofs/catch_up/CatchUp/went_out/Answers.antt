-- A number that goes out is recalled no longer.
use Rattle.catch_up.proofs.Next.{still_recalling}
use Rattle.catch_up.proofs.catch_up.CatchUp.went_out.Goals as goal

pub invariant_of-self : goal.invariant_of-self
invariant_of-self c = record {
  recalls = still_recalling _ _ _ _ _ _ c.leave.ensures c.recall_no_longer.ensures c.self.invariant.recalls;
  calls = c.self.invariant.calls;
}
