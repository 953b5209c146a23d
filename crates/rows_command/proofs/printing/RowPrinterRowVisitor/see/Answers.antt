use Rattle.std.proofs.Common.{rules, ◌≡◌, ◌++◌, true, is_some, Option, None, subst}
use Rattle.rows_saved.specs.declared.identity.Identity.{Identity}
use Rattle.streams.specs.Fronts.{AppendsFront}
use Rattle.streams.specs.declared.output.PutFault.{PutFault}
use Rattle.rows_command.specs.RowsText.{row_line}
use Rattle.rows_command.specs.Printing.{head_text, Prints}
use Rattle.rows_command.proofs.PrintLemmas.{stopped_next, stopped_after}
use Rattle.rows_command.proofs.printing.RowPrinterRowVisitor.see.Goals as goal

pub returns-then-is_some-clause-saw : goal.returns-then-is_some-clause-saw
returns-then-is_some-clause-saw g c = λ first items saw.
    let some : is_some c.args.self.now.fault ≡ true = search rules in
    (saw.0, saw.1, λ fresh. stopped_after first.station (g.W.Write.contents first.out.now) (g.W.Write.contents c.args.self.now.out.now) c.args.self.now.begun c.args.self.now.fault items (c.args.number, c.args.row.now) some (saw.2 fresh))

pub returns-in-Err-clause-saw : goal.returns-in-Err-clause-saw
returns-in-Err-clause-saw g c = λ first items saw.
    let it = c.args.self.now in
    let old = g.W.Write.contents first.out.now in
    let mid = g.W.Write.contents it.out.now in
    let whole : it.fault ≡ None = search rules in
    let line : AppendsFront mid (g.W.Write.contents c.put_next-put.new.out) (head_text it.station it.begun ++ row_line (c.args.number, c.args.row.now)) = search rules in (
      saw.0,
      saw.1,
      λ fresh.
          let before = subst (λ (f : Option PutFault). Prints first.station old mid it.begun f items) whole (saw.2 fresh) in
          stopped_next first.station old mid (g.W.Write.contents c.put_next-put.new.out) items (c.args.number, c.args.row.now) it.begun before
          (subst (λ (i : Identity). AppendsFront mid (g.W.Write.contents c.put_next-put.new.out) (head_text i it.begun ++ row_line (c.args.number, c.args.row.now))) saw.1 line),
    )
