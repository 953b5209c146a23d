-- What came of a number.
use Rattle.std.specs.Prelude.{ℕ, Bool, List, codes, if◌then◌else◌}
use Rattle.by_hand.specs.declared.answer.SearchEnd.{SearchEnd}
use Rattle.by_hand.specs.declared.answer.SearchEnd.TheVariants.{Tape, Void, Nothing}

-- its word in the text
abbrev pub answer_word : SearchEnd → List ℕ
answer_word Tape = codes "tape"
answer_word Void = codes "void"
answer_word Nothing = codes "nothing"

-- what came of a number that is a tape, or is withdrawn, or is neither
abbrev pub answer_by : Bool → Bool → SearchEnd
answer_by is_tape is_void = if is_tape then Tape else if is_void then Void else Nothing

-- what was found of a number stands, whatever is told of it later
abbrev pub answer_after : SearchEnd → SearchEnd → SearchEnd
answer_after Tape told = Tape
answer_after Void told = Void
answer_after Nothing told = told
