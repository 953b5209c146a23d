-- Where the output breaks off, a prefix of the text was written.
use Rattle.std.proofs.Common.{rules}
use Rattle.editor_commands.specs.Ends.{end_in}
use Rattle.editor_commands.proofs.Ends.{spelling_cut}
use Rattle.editor_commands.proofs.spelling.write_text.Goals as goal

pub returns-clause-err : goal.returns-clause-err
returns-clause-err g c =
    spelling_cut c.put_whole.result end_in c.args.order c.in_ok-table.table c.in_ok-tape.tape c.deref-2.result.now _ _ (search rules) (search rules) (search rules) (search rules)
    c.put_whole.ensures.err
