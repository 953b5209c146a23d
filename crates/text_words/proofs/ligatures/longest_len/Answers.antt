use Rattle.std.proofs.Common.{sym, ◌∙◌, arith}
use Rattle.text_words.proofs.Beginning.{longest_more, begun_within}
use Rattle.text_words.proofs.ligatures.longest_len.Goals as goal

pub loop-name-preserved : goal.loop-name-preserved
loop-name-preserved c = record {
  value =
      c.greater-longest.ensures ∙ rw (c.loop-name.invariant.value, c.begun_by.ensures, c.as_bytes.ensures.value)
      (sym (longest_more c.args.ligatures.now c.loop-name.name-index c.name-item.result c.args.text.now c.loop-name-test.true c.name-item.is));
  within = omega (arith, c.greater-longest.ensures, c.begun_by.ensures, begun_within c.args.text.now c.as_bytes.result.now, c.loop-name.invariant.within);
}
