-- The numbers so far are those of the records so far.
use Rattle.gone_out.proofs.Records.{AreBefore}
use Rattle.gone_out.proofs.reading.numbers_of.Given as goal

abbrev pub invariant-loop-place : goal.invariant-loop-place
invariant-loop-place l = AreBefore l.bytes l.origin l.numbers l.place
