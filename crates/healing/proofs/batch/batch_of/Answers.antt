-- One number more rises, and is due.
use Rattle.std.proofs.Common.{◌≡◌, ◌≤◌, ◌+◌, ℕ, List, [], ◌∷◌, ◌++◌, length, length-append, arith}
use Rattle.healing.proofs.OneMore.{rise_more, ends_more, due_more}
use Rattle.healing.proofs.batch.batch_of.Goals as goal
use Rattle.healing.proofs.batch.batch_of.Goals.{then-number-above+then-may_be_recalled, else-number-above}

one_longer : (ns : List ℕ) (n i : ℕ) → length ns ≤ i → length (ns ++ n ∷ []) ≤ i + 1
one_longer ns n i few = let more : length (ns ++ n ∷ []) ≡ length ns + 1 = length-append ns (n ∷ []) in omega (arith, few, more)

pub loop-number-preserved : goal.loop-number-preserved
loop-number-preserved c =
    let inv = c.loop-number.invariant in
    let few = inv.few in
    elim c.if-number-above.branch [
      | then-number-above+then-may_be_recalled w ↦
          let is = w.may_be_recalled.ensures w.if-may_be_recalled.true in
          rw (w.rising-is, w.above-is, w.push.ensures.items)
          (record {
            few = one_longer c.loop-number.rising.items _ c.loop-number.number-index few;
            rise = rise_more 0 c.loop-number.rising.items c.loop-number.above _ inv.rise inv.ends w.if-number-above.true is.0;
            ends = ends_more 0 c.loop-number.rising.items _;
            due = due_more c.args.cases.now.entries c.args.now c.loop-number.rising.items _ inv.due is.1;
          })
      | else-number-above w ↦ rw (w.rising-is, w.above-is) (record { few = omega (arith, few); rise = inv.rise; ends = inv.ends; due = inv.due })
    ]
