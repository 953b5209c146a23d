-- How `rehearse` ends, by its outcome.
use Rattle.std.proofs.Common.{ℕ, List, Option, Result, Ok, Err, sym, subst}
use Rattle.std.specs.Io.KnownBytes.{Keeps}
use Rattle.command_ends.specs.Ends.{end_of, EndsAfter, IsOfInput}
use Rattle.command_ends.specs.declared.end.End.{End}
use Rattle.command_ends.specs.declared.fault.Fault.{Fault}
use Rattle.rehearse_command.specs.Rehearsals.{Inputs, RehearsesUpTo, HasRehearsed}
use Rattle.rehearse_command.proofs.Shown.{front_rehearsed, kept_rehearsed, kept_front_rehearsed}

-- a command ends after what it rehearsed, and what was written stays: all of it is a front of itself
pub rehearsed_so :
    (by : Inputs) (outcome : Result (Unit {0}) Fault) (end : End) (start now later : Option (List ℕ)) → EndsAfter end_of outcome end → Keeps now later
    → RehearsesUpTo by outcome start now → HasRehearsed by end start later
rehearsed_so by (Ok done) end start now later ends keeps upto =
    let all = kept_rehearsed by start now later keeps upto.ok in
    record {
      done = λ well. all;
      front = front_rehearsed by start later all;
      ends = subst IsOfInput (sym ends.ok) tt;
    }
rehearsed_so by (Err fault) end start now later ends keeps upto = record {
  done = λ well. absurd (ends.err.fails well);
  front = kept_front_rehearsed by start now later keeps upto.err;
  ends = subst IsOfInput (sym ends.err.end) upto.ends;
}
