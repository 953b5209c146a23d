-- So many of the members so far.
use Rattle.std.proofs.Common.{◌≡◌, ◌≤◌, take}
use Rattle.std.specs.List.{count_by}
use Rattle.roll_call.specs.Asks.{is_whole}
use Rattle.roll_call.proofs.asks.Asks.whole.Given as goal

abbrev pub invariant-loop-teller : goal.invariant-loop-teller
invariant-loop-teller l = record { many : l.whole ≡ count_by is_whole (take l.teller-index l.self.tellers); few : l.whole ≤ l.teller-index }
