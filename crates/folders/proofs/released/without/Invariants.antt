-- Below this value all that are left are there, and from it on none.
use Rattle.std.proofs.Common.{◌≡◌, ◌<◌, ◌≤◌, ◌&&◌, ℕ, not, false}
use Rattle.gone_out.specs.Files.{IsNumber}
use Rattle.gone_out.specs.Numbers.{has}
use Rattle.folders.proofs.released.without.Given as goal

abbrev pub invariant-loop-value : goal.invariant-loop-value
invariant-loop-value l = record {
  below : (n : ℕ) → IsNumber n → n < l.value → has l.left n ≡ (has l.numbers n && not (has l.others n));
  above : (n : ℕ) → l.value ≤ n → has l.left n ≡ false;
}
