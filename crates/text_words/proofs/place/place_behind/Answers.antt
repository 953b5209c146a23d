use Rattle.std.proofs.Common.{◌≡◌, ◌+◌, true, false, get_or, ◌∙◌, sym, ap, arith}
use Rattle.std.proofs.lemmas.Bool.Decides.{nat_tests}
use Rattle.text_words.specs.Places.{ends_line}
use Rattle.text_words.proofs.Placing.{line_ended, line_goes_on, column_first, column_next}
use Rattle.text_words.proofs.place.place_behind.Goals as goal
use Rattle.text_words.proofs.place.place_behind.Goals.{then-byte-eq10, else-byte-eq10}

pub loop-byte-preserved : goal.loop-byte-preserved
loop-byte-preserved c =
    let was = c.loop-byte.invariant in
    let text = c.args.prefix.now in
    let i = c.loop-byte.byte-index in
    elim c.if-byte-eq10.branch [
      | then-byte-eq10 w ↦
          let h = w.if-byte-eq10.true in
          let e : ends_line (get_or text i 0) ≡ true = grind (arith, nat_tests) in
          record {
            line = w.line-is ∙ ap (λ n. n + 1) was.line ∙ sym (line_ended text i c.loop-byte-test.true e);
            column = w.column-is ∙ sym (column_first text i c.loop-byte-test.true e);
            few_lines = omega (arith, w.line-is, was.few_lines);
            few_columns = omega (arith, w.column-is);
          }
      | else-byte-eq10 w ↦
          let h = w.if-byte-eq10.false in
          let e : ends_line (get_or text i 0) ≡ false = grind (arith, nat_tests) in
          record {
            line = w.line-is ∙ was.line ∙ sym (line_goes_on text i c.loop-byte-test.true e);
            column = w.column-is ∙ ap (λ n. n + 1) was.column ∙ sym (column_next text i c.loop-byte-test.true e);
            few_lines = omega (arith, w.line-is, was.few_lines);
            few_columns = omega (arith, w.column-is, was.few_columns);
          }
    ]
