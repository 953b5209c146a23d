-- The numbers so far were asked for.
use Rattle.std.proofs.Common.{◌≡◌, ◌||◌, ℕ, take}
use Rattle.gone_out.specs.Numbers.{has}
use Rattle.healing.specs.Lists.{is_among}
use Rattle.catch_up.proofs.wave.AskedNumbers.insert.Given as goal

abbrev pub invariant-loop-each : goal.invariant-loop-each
invariant-loop-each l = record {
  numbers : (n : ℕ) → has l.self.numbers n ≡ (has l.initial.self.numbers n || is_among (take l.each-index l.numbers) n);
  released : l.self.released ≡ l.initial.self.released;
  missed : l.self.missed.items ≡ l.initial.self.missed.items;
}
