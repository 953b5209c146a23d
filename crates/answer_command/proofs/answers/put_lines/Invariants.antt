use Rattle.std.proofs.Common.{◌≡◌, map, drop}
use Rattle.tape_frames.specs.Entries.{version_of}
use Rattle.rows_saved.specs.Memory.{saved}
use Rattle.answer_command.proofs.Loop.{Standing}
use Rattle.answer_command.proofs.answers.put_lines.Given as goal

abbrev pub invariant-loop-line : goal.invariant-loop-line
invariant-loop-line g l =
    let lines = map (λ x. x.now) l.lines in
    (l.rows.version ≡ version_of l.seat.wire) × Standing l.seat.circuit l.seat.me (version_of l.seat.wire) (saved l.rows) lines (drop l.line-index lines) (g.W.Write.contents l.initial.out) (g.W.Write.contents l.out)
