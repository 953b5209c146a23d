use Rattle.std.proofs.Common.{rules, ◌≡◌, ◌⊎◌, inl, inr, refl, ap, subst}
use Rattle.acceptor_store.specs.Sqlite.{saved_of}
use Rattle.rows_saved.specs.declared.identity.Identity.{Identity}
use Rattle.rows_command.specs.RowsText.{IsFrontPrinted}
use Rattle.rows_command.specs.declared.printing.RowPrinter.{RowPrinter}
use Rattle.rows_command.proofs.PrintLemmas.{front_printed}
use Rattle.rows_command.proofs.listing.print_seen.Goals as goal

pub returns : goal.returns
returns g c =
    let saved = saved_of g.S.Store c.args.rows.now in
    let old = g.W.Write.contents c.args.out.now in
    let now = c.visit-seen.new.visitor in
    let new = g.W.Write.contents now.out.now in
    let seen = c.visit-seen.ensures in
    record {
      all = search rules;
      prints = record {
        front = λ kept.
            let printed : (new ≡ old) ⊎ IsFrontPrinted saved c.identity.result old new = elim (seen.front kept) [
              | inl same ↦ inl (ap (λ (p : RowPrinter g.row.W.Denot). g.W.Write.contents p.out.now) same)
              | inr h ↦ front_printed saved c.identity.result old new now.begun now.fault h.0 h.1 (h.2.2 (refl, refl))
            ] in
            let ours : (new ≡ old) ⊎ IsFrontPrinted saved c.args.rows.now.identity old new = subst (λ (i : Identity). (new ≡ old) ⊎ IsFrontPrinted saved i old new) c.identity.ensures printed in
            search rules;
        reads = record {
          keeps = record { same = seen.reads.same; was_kept = seen.reads.call.answered.call.was_kept; was_open = seen.reads.call.answered.call.was_open };
          crash = search rules;
          stays = search rules;
        };
        stopped = search rules;
      };
      ends = search rules;
      refuses = search rules;
    }
