-- The numbers so far were asked for.
use Rattle.std.proofs.Common.{◌≡◌, take}
use Rattle.catch_up.specs.Asked.{asked_all}
use Rattle.catch_up.proofs.asked.RecallQueue.ask.Given as goal

abbrev pub invariant-loop-value : goal.invariant-loop-value
invariant-loop-value l = l.self ≡ asked_all l.member (take l.value-index l.numbers) l.initial.self
