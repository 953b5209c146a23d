-- There are no more than were looked at, and all that waited still stand in the queue.
use Rattle.std.proofs.Common.{◌≡◌, ◌≤◌, ℕ, true, length}
use Rattle.healing.specs.Queue.{stands_in}
use Rattle.healing.proofs.batch.take_due.Given as goal

abbrev pub invariant-loop : goal.invariant-loop
invariant-loop l = record {
  few : length l.few.items ≤ l.counter;
  waiting : (n : ℕ) → stands_in l.initial.queue.waiting.keys n ≡ true → stands_in l.queue.waiting.keys n ≡ true;
}
