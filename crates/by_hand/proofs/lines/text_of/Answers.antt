-- One line more, and in the end all lines.
use Rattle.std.proofs.Common.{rules, ◌<◌, ◌+◌, ◌++◌, ◌∙◌, [], ◌∷◌, ℕ, sym, subst, arith}
use Rattle.by_hand.specs.Texts.{IsLineFrom}
use Rattle.by_hand.proofs.Joining.{Joins, joins_end, joins_more, text_of_more}
use Rattle.by_hand.proofs.lines.text_of.Goals as goal

pub loop-first-preserved : goal.loop-first-preserved
loop-first-preserved c =
    let line = c.line_from-line.result in
    let so_far = c.loop-first.invariant in
    let is : IsLineFrom c.args.hand.now c.loop-first.start line = subst (λ (k : ℕ). IsLineFrom c.args.hand.now k line) c.in-Some.ensures.value c.line_from-line.ensures in
    let end = c.get-start-in-loop-first.ensures in
    record {
      lines = so_far.lines ++ line ∷ [];
      text = c.in_ok-push_line.ensures ∙ text_of_more so_far.lines line _ so_far.text;
      joins = subst (λ (k : ℕ). Joins c.args.hand.now (k + 1) (so_far.lines ++ line ∷ [])) (sym end.value)
          (joins_more c.args.hand.now c.loop-first.start so_far.lines line so_far.joins is);
      low = omega arith;
      high = omega (arith, end.high);
    }

pub returns : goal.returns
returns c =
    let so_far = c.loop-first.invariant in
    let past : c.args.hand.now.last < c.loop-first.start = search rules in
    (so_far.lines, joins_end c.args.hand.now c.loop-first.start so_far.lines so_far.joins past, so_far.text)
