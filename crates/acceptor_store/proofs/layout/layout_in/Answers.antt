use Rattle.std.proofs.Common.{rules, ◌≡◌}
use Rattle.acceptor_store.specs.Layouts.{layout_in}
use Rattle.acceptor_store.proofs.LayoutLemmas.{tells, tells_none}
use Rattle.acceptor_store.proofs.layout.layout_in.Goals as goal

pub returns-clause-laid : goal.returns-clause-laid
returns-clause-laid c layout same =
    let value : c.layout_by.result ≡ layout_in c.args.schema.now = search rules in
    tells c.args.schema.now layout c.layout_by.result value same

pub returns-clause-none : goal.returns-clause-none
returns-clause-none c none layout same =
    let value : c.layout_by.result ≡ layout_in c.args.schema.now = search rules in
    tells_none c.args.schema.now layout c.layout_by.result value none same
