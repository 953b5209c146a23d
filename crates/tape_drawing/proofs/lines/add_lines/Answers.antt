use Rattle.std.proofs.Common.{◌≡◌, ◌∙◌, ◌++◌, length, sym, subst, take, ap, arith}
use Rattle.std.proofs.lemmas.List.{append-nil}
use Rattle.code_table.specs.Tables.{mean}
use Rattle.code_table.specs.declared.case.Case.TheVariants as cases
use Rattle.slug_reader.specs.Meanings.{case_at}
use Rattle.tape_drawing.specs.Shapes.{text_of}
use Rattle.tape_drawing.specs.Layout.{after, first_spot, next, IsWithin}
use Rattle.tape_drawing.specs.Lines.{line_shapes, lines_shapes}
use Rattle.tape_drawing.proofs.Looking.{case_start}
use Rattle.tape_drawing.proofs.Sequences.{grown}
use Rattle.tape_drawing.proofs.Placing.{IsAt, first_within, spot_at, within_take, after_more, lines_more}
use Rattle.tape_drawing.proofs.lines.add_lines.Goals as goal

pub loop-fit-init : goal.loop-fit-init
loop-fit-init c = record {
  spot = c.first_spot.ensures;
  case = subst (λ s. cases.Unshift ≡ case_at (mean c.args.plan.now.table.now) c.args.plan.now.tape.now s.from) (sym c.first_spot.ensures) (sym (case_start (mean c.args.plan.now.table.now) c.args.plan.now.tape.now));
  text = sym (append-nil c.args.text.now.items);
}

pub add_line-requires : goal.add_line-requires
add_line-requires c =
    let fit = c.fit-item.result in
    let reached = spot_at c.args.plan.now.widths.now.measure (length c.args.plan.now.tape.now) first_spot c.args.lines.now c.loop-fit.fit-index fit fit c.requires.lines_fit (first_within (length c.args.plan.now.tape.now)) c.loop-fit-test.true c.fit-item.is in
    let here : IsAt c.args.plan.now.widths.now.measure (length c.args.plan.now.tape.now) c.loop-fit.reached.spot fit = subst (λ s. IsAt c.args.plan.now.widths.now.measure (length c.args.plan.now.tape.now) s fit) (sym c.loop-fit.invariant.spot) reached in
    record {
      tape = c.requires.tape;
      filled = here.filled;
      from = here.from;
      cut = here.cut;
      top = omega (arith, here.within.top, here.within.from, c.requires.tape.few);
      holds = c.loop-fit.invariant.case;
    }

pub next-requires : goal.next-requires
next-requires c =
    let fit = c.fit-item.result in
    let reached = spot_at c.args.plan.now.widths.now.measure (length c.args.plan.now.tape.now) first_spot c.args.lines.now c.loop-fit.fit-index fit fit c.requires.lines_fit (first_within (length c.args.plan.now.tape.now)) c.loop-fit-test.true c.fit-item.is in
    let here : IsAt c.args.plan.now.widths.now.measure (length c.args.plan.now.tape.now) c.loop-fit.reached.spot fit = subst (λ s. IsAt c.args.plan.now.widths.now.measure (length c.args.plan.now.tape.now) s fit) (sym c.loop-fit.invariant.spot) reached in
    let w = here.within in
    let few = c.requires.tape.few in
    (here.from, omega (arith, w.top, w.from, few), omega (arith, w.number, w.from, few), omega (arith, w.slug, w.from, few), omega (arith, w.faults, w.from, few), omega (arith, here.cut, few))

pub loop-fit-preserved : goal.loop-fit-preserved
loop-fit-preserved c =
    let plan = c.args.plan.now in
    let means = mean plan.table.now in
    let widths = plan.widths.now in
    let tape = plan.tape.now in
    let lines = c.args.lines.now in
    let i = c.loop-fit.fit-index in
    let fit = c.fit-item.result in
    let was = c.loop-fit.invariant in
    let here = after first_spot (take i lines) in
    let put : c.add_line.new.text.items ≡ c.loop-fit.text.items ++ text_of (line_shapes plan.page means widths tape here fit) = subst (λ s. c.add_line.new.text.items ≡ c.loop-fit.text.items ++ text_of (line_shapes plan.page means widths tape s fit)) was.spot c.in_ok-case.ensures.text in
    record {
      spot = c.next.ensures ∙ ap (λ s. next s fit) was.spot ∙ sym (after_more first_spot lines i fit fit c.loop-fit-test.true c.fit-item.is);
      case = c.in_ok-case.ensures.case ∙ ap (λ s. case_at means tape s.from) (sym c.next.ensures);
      text = grown c.args.text.now.items c.loop-fit.text.items _ (text_of (lines_shapes plan.page means widths tape first_spot (take i lines))) (text_of (line_shapes plan.page means widths tape here fit)) _
          was.text put (lines_more plan.page means widths tape first_spot lines i fit fit c.loop-fit-test.true c.fit-item.is);
    }

pub returns-clause-within : goal.returns-clause-within
returns-clause-within c =
    subst (λ s. IsWithin (length c.args.plan.now.tape.now) s) (sym c.loop-fit.invariant.spot)
    (within_take c.args.plan.now.widths.now.measure (length c.args.plan.now.tape.now) first_spot c.args.lines.now c.loop-fit.fit-index c.requires.lines_fit (first_within (length c.args.plan.now.tape.now)))
