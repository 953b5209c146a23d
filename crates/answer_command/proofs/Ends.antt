-- What the command has written at its end, of an input that may be unknown.
use Rattle.std.proofs.Common.{◌≡◌, ℕ, List, Option, Some, None, Result, Ok, Err, OnOk, subst}
use Rattle.std.specs.Prelude.{IfSome, IfErr}
use Rattle.std.specs.Io.KnownBytes.{Appends}
use Rattle.tape_frames.specs.Entries.{version_of}
use Rattle.streams.specs.Fronts.{AppendsFront}
use Rattle.streams.specs.Writing.{Writes}
use Rattle.streams.proofs.Fronts.{front_of_all}
use Rattle.answer_command.specs.AnswerText.{WritesAnswer, WritesAnswerFront}
use Rattle.answer_command.specs.Seats.{answer_at, AnswersInput}
use Rattle.answer_command.specs.declared.line.AcceptorSeat.{AcceptorSeat}
use Rattle.command_ends.specs.Ends.{end_of, IsOfInput}
use Rattle.command_ends.specs.declared.fault.Fault.{Fault}

-- however the writing of a text ended, a front of it was written
front_of_written : {E : Type 0} (r : Result (Unit {0}) E) (old new : Option (List ℕ)) (text : List ℕ) → Writes r old new text → AppendsFront old new text
front_of_written (Ok done) old new text wrote = front_of_all old new text wrote.ok
front_of_written (Err fault) old new text wrote = wrote.err

-- what holds of what was read holds of what the reader had, where that is known
of_known : (known : Option (List ℕ)) (bytes : List ℕ) (P : List ℕ → Type 0) → IfSome known (λ xs. bytes ≡ xs) → P bytes → IfSome known (λ xs. P xs)
of_known None bytes P is p = tt
of_known (Some xs) bytes P is p = subst P is p

-- so a front of the answer was, whatever the outcome
answer_front : {E : Type 0} (seat : AcceptorSeat) (outcome : Result (Unit {0}) E) (known old new : Option (List ℕ)) (bytes : List ℕ) → IfSome known (λ xs. bytes ≡ xs)
    → Writes outcome old new (answer_at seat bytes) → WritesAnswerFront seat.circuit seat.me (version_of seat.wire) known old new
answer_front seat outcome known old new bytes is wrote =
    of_known known bytes (λ xs. AppendsFront old new (answer_at seat xs)) is (front_of_written outcome old new (answer_at seat bytes) wrote)

-- and where it is a good one, all of it
answer_whole : {E : Type 0} (seat : AcceptorSeat) (outcome : Result (Unit {0}) E) (known old new : Option (List ℕ)) (bytes : List ℕ) → IfSome known (λ xs. bytes ≡ xs)
    → Writes outcome old new (answer_at seat bytes) → OnOk outcome (WritesAnswer seat.circuit seat.me (version_of seat.wire) known old new)
answer_whole seat (Ok done) known old new bytes is wrote = of_known known bytes (λ xs. Appends old new (answer_at seat xs)) is wrote.ok
answer_whole seat (Err fault) known old new bytes is wrote = tt

-- an input that was read is answered
pub answered : (seat : AcceptorSeat) (outcome : Result (Unit {0}) Fault) (known old new : Option (List ℕ)) (bytes : List ℕ) → IfSome known (λ xs. bytes ≡ xs)
    → Writes outcome old new (answer_at seat bytes) → IfErr outcome (λ fault. IsOfInput (end_of fault)) → AnswersInput seat outcome known old new
answered seat outcome known old new bytes is wrote kind = record {
  done = answer_whole seat outcome known old new bytes is wrote;
  front = answer_front seat outcome known old new bytes is wrote;
  fault = kind;
}
