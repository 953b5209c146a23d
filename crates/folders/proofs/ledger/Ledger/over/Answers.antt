-- What the other file lacks waits.
use Rattle.folders.specs.GoneOut.{IsFileBut}
use Rattle.folders.proofs.Ledgers.{all_written}
use Rattle.folders.proofs.ledger.Ledger.over.Goals as goal

pub returns-clause-kept : goal.returns-clause-kept
returns-clause-kept c = λ o bytes file.
    let start : IsFileBut o c.new-ledger.result.numbers c.new-ledger.result.waiting.items bytes =
    rw (c.new-ledger.ensures.numbers, c.new-ledger.ensures.waiting) (all_written o c.args.numbers bytes file) in
    c.in_ok-note.ensures.kept o bytes start
