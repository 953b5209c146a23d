use Rattle.std.proofs.Common.{rules, inr}
use Rattle.streams.proofs.Fronts.{front_of_all}
use Rattle.acceptor_store.specs.Sqlite.{saved_of}
use Rattle.streams.specs.Fronts.{AppendsFront}
use Rattle.std.specs.Io.KnownBytes.{Appends}
use Rattle.rows_command.specs.Printing.{PrintsAll, head_text}
use Rattle.rows_command.proofs.PrintLemmas.{end_stopped}
use Rattle.rows_command.proofs.listing.print_rows.Goals as goal

pub returns-clause-prints : goal.returns-clause-prints
returns-clause-prints g c =
    let saved = saved_of g.S.Store c.args.rows.now in
    let i = c.args.rows.now.identity in
    let old = g.W.Write.contents c.args.out.now in
    let mid = g.W.Write.contents c.print_seen-begun.new.out in
    let new = g.W.Write.contents c.put_end.new.out in
    let begun = c.print_seen-begun.result.0 in
    record {
      front = λ kept.
          let all : PrintsAll saved i old mid begun = (rw c.in_ok-printed.was at (c.print_seen-begun.ensures.all)) kept in
          let rest : Appends mid new (head_text i begun) = search rules in
          inr (end_stopped saved i old mid new begun all (front_of_all _ _ _ rest));
      reads = c.print_seen-begun.ensures.prints.reads;
      stopped = search rules;
    }

pub returns-in_err-put_end-clause-prints : goal.returns-in_err-put_end-clause-prints
returns-in_err-put_end-clause-prints g c =
    let saved = saved_of g.S.Store c.args.rows.now in
    let i = c.args.rows.now.identity in
    let old = g.W.Write.contents c.args.out.now in
    let mid = g.W.Write.contents c.print_seen-begun.new.out in
    let new = g.W.Write.contents c.put_end.new.out in
    let begun = c.print_seen-begun.result.0 in
    record {
      front = λ kept.
          let all : PrintsAll saved i old mid begun = (rw c.in_ok-printed.was at (c.print_seen-begun.ensures.all)) kept in
          let rest : AppendsFront mid new (head_text i begun) = search rules in
          inr (end_stopped saved i old mid new begun all rest);
      reads = c.print_seen-begun.ensures.prints.reads;
      stopped = search rules;
    }
