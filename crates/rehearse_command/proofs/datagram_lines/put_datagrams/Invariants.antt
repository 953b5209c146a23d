-- The datagrams so far are written.
use Rattle.std.proofs.Common.{take}
use Rattle.std.specs.Io.KnownBytes.{Appends}
use Rattle.rehearse_command.specs.Datagrams.{datagrams_text}
use Rattle.rehearse_command.proofs.datagram_lines.put_datagrams.Given as goal

abbrev pub invariant-loop-index : goal.invariant-loop-index
invariant-loop-index g l = Appends (g.W.Write.contents l.initial.out) (g.W.Write.contents l.out) (datagrams_text l.before (take l.index l.sent))
