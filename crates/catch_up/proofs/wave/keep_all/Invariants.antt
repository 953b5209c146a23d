-- The numbers so far wait.
use Rattle.std.proofs.Common.{◌≡◌, take}
use Rattle.catch_up.specs.Waves.{all_kept}
use Rattle.catch_up.proofs.wave.keep_all.Given as goal

abbrev pub invariant-loop-each : goal.invariant-loop-each
invariant-loop-each l = l.numbers.items ≡ all_kept (take l.each-index l.more) l.initial.numbers.items
