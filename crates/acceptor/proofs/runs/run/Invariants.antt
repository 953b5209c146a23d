use Rattle.std.proofs.Common.{◌≡◌, ◌++◌, take, drop, map}
use Rattle.protocol.specs.Acceptor.{row_after, replies_after, replies_to}
use Rattle.acceptor.specs.Said.{asked, said}
use Rattle.acceptor.proofs.runs.run.Given as goal

abbrev pub invariant-loop-request : goal.invariant-loop-request
invariant-loop-request l = record {
  row : l.row ≡ row_after (map asked (take l.request-index l.requests));
  told : map said l.replies.items ++ replies_after (map asked (take l.request-index l.requests)) (map asked (drop l.request-index l.requests)) ≡ replies_to (map asked l.requests);
}
