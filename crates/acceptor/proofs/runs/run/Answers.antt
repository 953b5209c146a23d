use Rattle.acceptor.proofs.Steps.{goes_on}
use Rattle.acceptor.proofs.runs.run.Goals as goal

pub loop-request-preserved : goal.loop-request-preserved
loop-request-preserved c =
    let now = c.loop-request in
    let went = goes_on c.acceptor_steps.ensures c.args.requests.now now.request-index c.request-item.result now.row c.in_ok-next.next now.replies.items c.in_ok-next.reply _ c.loop-request-test.true c.request-item.is now.invariant.row c.in_ok-next.ensures.row c.in_ok-next.ensures.reply now.invariant.told in
    record { row = went.0; told = rw c.in_ok-push.ensures.items went.1 }
