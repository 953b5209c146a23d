use Rattle.std.proofs.Common.{rules, ◌≡◌, subst, sym, ◌∙◌}
use Rattle.protocol.specs.Entries.{Entry}
use Rattle.protocol.specs.Versions.{One}
use Rattle.protocol.specs.Fitting.{Fits}
use Rattle.tape_frames.specs.Entries.{lent_entry, entry_frames}
use Rattle.acceptor_store.proofs.ColumnLemmas.{plain_tape}
use Rattle.acceptor_store.proofs.columns.voted_frames.Goals as goal

pub returns-clause-tape : goal.returns-clause-tape
returns-clause-tape c =
    let e : Entry = lent_entry c.entry-entry.result in
    let same : e ≡ c.args.vote.now.entry = c.entry-entry.ensures in
    let fits : Fits One e = subst (Fits One) (sym same) c.requires in
    let are : c.put_plain.new.out.items ≡ entry_frames e = search rules in
    sym same ∙ (plain_tape e c.put_plain.new.out.items fits c.len-length.ensures.is_entry are).0

pub returns-clause-is_tape : goal.returns-clause-is_tape
returns-clause-is_tape c =
    let e : Entry = lent_entry c.entry-entry.result in
    let same : e ≡ c.args.vote.now.entry = c.entry-entry.ensures in
    let fits : Fits One e = subst (Fits One) (sym same) c.requires in
    let are : c.put_plain.new.out.items ≡ entry_frames e = search rules in
    (plain_tape e c.put_plain.new.out.items fits c.len-length.ensures.is_entry are).1
