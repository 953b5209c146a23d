-- One number more is kept, or it is passed over.
use Rattle.std.proofs.Common.{◌≡◌, ◌≤◌, ◌+◌, ℕ, true, List, [], ◌∷◌, ◌++◌, length, length-append, refl, sym, ◌∙◌, true≢false, arith}
use Rattle.healing.specs.Cases.{awaited_in}
use Rattle.healing.specs.Healing.{case_in}
use Rattle.healing.proofs.OneMore.{rise_more, ends_more}
use Rattle.healing.proofs.Repeating.{Counts, only_more, all_pushed, all_passed, floor_next, kept_before}
use Rattle.healing.proofs.repeats.awaited.Goals as goal
use Rattle.healing.proofs.repeats.awaited.Goals.{then-number-above+then-may_be_repeated, else-number-above, else-number-above-via-then-number-above+else-may_be_repeated, else-number-above-via-else-number-above}

one_longer : (ns : List ℕ) (n i : ℕ) → length ns ≤ i → length (ns ++ n ∷ []) ≤ i + 1
one_longer ns n i few = let more : length (ns ++ n ∷ []) ≡ length ns + 1 = length-append ns (n ∷ []) in omega (arith, few, more)

pub loop-number-preserved : goal.loop-number-preserved
loop-number-preserved c =
    let inv = c.loop-number.invariant in
    let few = inv.few in
    let within = c.loop-number-test.true in
    let cases = c.args.cases.now.entries in
    let now = c.args.now in
    let numbers = c.args.numbers.now in
    let i = c.loop-number.number-index in
    let items = c.loop-number.rising.items in
    let above = c.loop-number.above in
    elim c.if-number-above.branch [
      | then-number-above+then-may_be_repeated w ↦
          let yes = w.if-may_be_repeated.true in
          rw (w.rising-is, w.above-is, w.push.ensures.items)
          (record {
            few = one_longer items _ i few;
            rise = rise_more 0 items above _ inv.rise inv.ends w.if-number-above.true (w.may_be_repeated.ensures.high yes);
            ends = ends_more 0 items _;
            floor = floor_next numbers _ i c.requires.sorted (omega arith);
            all = all_pushed (Counts cases now) numbers items i _ within refl inv.all;
            only = only_more (λ n. awaited_in (case_in cases n) now ≡ true) items _ inv.only (w.may_be_repeated.ensures.is yes);
          })
      | else-number-above w ↦
          rw (w.rising-is, w.above-is)
          (record {
            few = omega (arith, few);
            rise = inv.rise;
            ends = inv.ends;
            floor = floor_next numbers above i c.requires.sorted (inv.floor within);
            all =
                all_passed (Counts cases now) numbers items i _ within refl
                (λ counted. elim w.else-number-above.branch [
                  | else-number-above-via-then-number-above+else-may_be_repeated v ↦
                      absurd (true≢false (sym (v.may_be_repeated.ensures.all counted.1 counted.2) ∙ v.if-may_be_repeated.false))
                  | else-number-above-via-else-number-above v ↦
                      kept_before items above _ inv.ends (inv.floor within) (let low = v.if-number-above.false in omega (arith, low)) counted.0
                ])
                inv.all;
            only = inv.only;
          })
    ]
