-- The kinds of rolls.
use Rattle.std.specs.Prelude.{ℕ, ◌==◌, Option, Some, None, if◌then◌else◌}
use Rattle.rolls.specs.declared.body.RollKind.{RollKind}
use Rattle.rolls.specs.declared.body.RollKind.TheVariants as kinds

-- the number of a kind, the fourth byte of a roll
abbrev pub number_of_kind : RollKind → ℕ
number_of_kind kinds.CountsAsked = 2
number_of_kind kinds.Counts = 3
number_of_kind kinds.PageAsked = 4
number_of_kind kinds.Page = 5

-- the kind of this number
abbrev pub kind_of_byte : ℕ → Option RollKind
kind_of_byte n =
    if n == 2 then Some kinds.CountsAsked else
    if n == 3 then Some kinds.Counts else
    if n == 4 then Some kinds.PageAsked else
    if n == 5 then Some kinds.Page else None

-- how many bytes a body of this kind has: five; two for each page; five; one and the bits of a page
abbrev pub body_len : RollKind → ℕ
body_len kinds.CountsAsked = 5
body_len kinds.Counts = 246
body_len kinds.PageAsked = 5
body_len kinds.Page = 1025
