use Rattle.std.proofs.Common.{◌≡◌, true, false, sym, ◌∙◌, arith}
use Rattle.text_words.proofs.Naming.{tail_is, name_is, unclosed_by}
use Rattle.text_words.proofs.names.name_len.Goals as goal
use Rattle.text_words.proofs.names.name_len.Goals.{else-is_printed-via-then-is_printed+then-len-inner+else-inner-len-eq125, else-is_printed-via-then-is_printed+else-len-inner, else-is_printed-via-else-is_printed}

pub returns-then-inner-len-eq125-clause-name : goal.returns-then-inner-len-eq125-clause-name
returns-then-inner-len-eq125-clause-name c =
    name_is c.args.behind.now _ c.inner_len-len.result (tail_is c.args.behind.now) c.in-len1-up.len_at_least c.inner_len-len.ensures (sym c.if-is_printed.ensures)

pub returns-else-is_printed-clause-none : goal.returns-else-is_printed-clause-none
returns-else-is_printed-clause-none c = λ none name rest.
    unclosed_by c.args.behind.now _ c.inner_len-len.result (tail_is c.args.behind.now) c.inner_len-len.ensures
    (λ printed fits closed. elim c.else-is_printed.branch [
      | else-is_printed-via-then-is_printed+then-len-inner+else-inner-len-eq125 w ↦ w.if-inner-len-eq125.false closed
      | else-is_printed-via-then-is_printed+else-len-inner w ↦ absurd (omega (arith, w.if-len-inner.false, fits))
      | else-is_printed-via-else-is_printed w ↦ let never : false ≡ true = w.if-is_printed.ensures ∙ printed in absurd cc
    ]) name rest
