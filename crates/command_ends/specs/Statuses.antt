-- The exit status of how a command ends.
use Rattle.std.specs.Prelude.{ℕ}
use Rattle.command_ends.specs.declared.end.End.{End}
use Rattle.command_ends.specs.declared.end.End.TheVariants as ends

-- the exit status of a program whose command ends so
abbrev pub status_of : End → ℕ
status_of ends.Done = 0
status_of ends.Input = 1
status_of ends.Usage = 2
status_of ends.Store = 3
status_of ends.Socket = 4
status_of ends.Memory = 5
status_of ends.Busy = 6
