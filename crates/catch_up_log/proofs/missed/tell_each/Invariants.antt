-- The numbers so far were told.
use Rattle.std.proofs.Common.{◌≡◌, true, ◌-◌}
use Rattle.std.specs.List.{range_with_len}
use Rattle.gone_out.specs.Numbers.{has}
use Rattle.plant_log.specs.Telling.{TellsEach}
use Rattle.catch_up_log.specs.Words.{missed_text}
use Rattle.catch_up_log.proofs.missed.tell_each.Given as goal

abbrev pub invariant-loop-number : goal.invariant-loop-number
invariant-loop-number g l =
    TellsEach (λ n. has l.numbers n ≡ true) missed_text (range_with_len 1 (l.number - 1)) (g.E.Write.contents l.initial.err) (g.E.Write.contents l.err)
