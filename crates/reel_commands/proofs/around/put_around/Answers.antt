use Rattle.std.proofs.Common.{ℕ, List, ◌++◌, sym, ap, ◌∙◌, append-nil, append_assoc, add-one}
use Rattle.code_table.specs.Tables.{mean}
use Rattle.reel_commands.proofs.Near.{near_to, near_at, near_more, case_first, case_more}
use Rattle.reel_commands.proofs.around.put_around.Goals as goal

pub loop-at-init : goal.loop-at-init
loop-at-init c = record {
  case = case_first (mean c.args.table.now) c.args.tape.now;
  text = sym (append-nil c.args.text.now.items);
}

pub loop-at-preserved : goal.loop-at-preserved
loop-at-preserved c =
    let means = mean c.args.table.now in
    let tape = c.args.tape.now in
    let at = c.args.place in
    let i = c.loop-at.at in
    let was = c.loop-at.invariant in
    let initial = c.args.text.now.items in
    record {
      case = c.case_behind-case.ensures ∙ rw was.case (rw add-one (sym (case_more means tape i)));
      text =
          c.in_ok-put_near.ensures
          ∙ rw (was.text, c.meaning-meaning.ensures.value, was.case)
          (append_assoc initial (near_to means tape at i) (near_at means tape at i) ∙ ap (λ (t : List ℕ). initial ++ t) (sym (near_more means tape at i)));
    }
