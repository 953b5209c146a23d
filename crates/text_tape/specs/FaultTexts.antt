-- The words for why a text is not punched.
use Rattle.std.specs.Prelude.{ℕ, List, ◌++◌, codes, decimal}
use Rattle.text_tape.specs.declared.fault.PunchCause.{PunchCause}
use Rattle.text_tape.specs.declared.fault.PunchCause.TheVariants.{NoCode, NoEnd, TooLong}
use Rattle.text_tape.specs.declared.fault.PunchFault.{PunchFault}
use Rattle.text_tape.specs.declared.fault.PunchError.{PunchError}
use Rattle.text_tape.specs.declared.fault.PunchError.TheVariants as errors

-- what keeps a word from being punched, in a few words
abbrev pub cause_word : PunchCause → List ℕ
cause_word (NoCode len) = codes "no code"
cause_word NoEnd = codes "no end of a word"
cause_word TooLong = codes "too long"

-- the first word of a text that is not punched: what keeps it, its line and its column
abbrev pub fault_text : PunchFault → List ℕ
fault_text fault =
    codes "text: " ++ (cause_word fault.cause ++ (codes " at line " ++ (decimal fault.line ++ (codes " column " ++ decimal fault.column))))

-- why there is no tape of a text
abbrev pub error_text : PunchError → List ℕ
error_text (errors.Fault fault) = fault_text fault
error_text errors.Empty = codes "text: empty"
error_text errors.OutOfMemory = codes "out of memory"
