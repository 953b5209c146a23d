-- The widths that are kept at hand: of the matrices whose names are one byte.
use Rattle.std.specs.Prelude.{ℕ, List, [], ◌∷◌, Option, None, map, if◌then◌else◌}
use Rattle.code_table.specs.Names.{is_name}
use Rattle.widths.specs.Widths.{WidthFile, width_of}
use Rattle.slug_reader.specs.Positions.{before}

-- the width of the matrix whose name is this byte, where a matrix may have that name
abbrev pub byte_width : WidthFile → ℕ → Option ℕ
byte_width widths byte = if is_name (byte ∷ []) then width_of widths (byte ∷ []) else None

-- the same of the bytes 0 to 126, in order
unfoldable pub byte_widths : WidthFile → List (Option ℕ)
byte_widths widths = map (byte_width widths) (before 127)
