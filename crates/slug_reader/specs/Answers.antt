-- What a call answered, beside what the definitions give.
use Rattle.std.specs.Prelude.{◌≡◌, List, Result, Ok, Err}
use Rattle.std.specs.declared.vec.Vec.{Vec}
use Rattle.std.specs.Global.{Global}
use Rattle.slug_reader.specs.declared.line.Line.{Line}
use Rattle.slug_reader.specs.declared.fault.ReadFault.{ReadFault}
use Rattle.slug_reader.specs.declared.fault.ReadFault.TheVariants.{UnknownCode, NoWidth, Unfinished, TooLong, OutOfMemory}

-- these lines, or this fault, unless memory ran out; no tape is too long
abbrev pub Reads : Result (Vec Line Global) ReadFault → Result (List Line) ReadFault → Type 0
Reads (Ok lines) read = read ≡ Ok lines.items
Reads (Err OutOfMemory) read = Unit {0}
Reads (Err (UnknownCode at)) read = read ≡ Err (UnknownCode at)
Reads (Err (NoWidth at)) read = read ≡ Err (NoWidth at)
Reads (Err (Unfinished at)) read = read ≡ Err (Unfinished at)
Reads (Err (TooLong at)) read = ⊥
