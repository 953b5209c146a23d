-- The numbers so far are known as at the start, and none above them.
use Rattle.std.proofs.Common.{◌≡◌}
use Rattle.catch_up.proofs.Starting.{AreFirstUpTo, NoneAbove}
use Rattle.catch_up.proofs.start.tell_rows.Given as goal

abbrev pub invariant-loop-before : goal.invariant-loop-before
invariant-loop-before l = record {
  own : l.healing.own ≡ l.initial.healing.own;
  gone : l.healing.gone ≡ l.initial.healing.gone;
  first : AreFirstUpTo l.initial.healing.own l.known l.initial.healing.gone l.now l.before l.healing;
  none : NoneAbove l.before l.healing;
}
