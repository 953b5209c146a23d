-- What `import` tells of a reel: a line for each tape, and a last line.
use Rattle.std.specs.Prelude.{ℕ, ◌+◌, ◌-◌, List, [], ◌∷◌, ◌++◌, codes, decimal, length, nat_lt, Bool, true, false, if◌then◌else◌}
use Rattle.tape_frames.specs.Frames.{most_frames}
use Rattle.reel.specs.declared.piece.RollPiece.{RollPiece}
use Rattle.reel.specs.Names.{tape_name}
use Rattle.reel_commands.specs.declared.importing.Imported.{Imported}

-- how many frames a piece has
abbrev pub len_of : RollPiece → ℕ
len_of piece = piece.to - piece.from

-- a piece is longer than a tape may be
abbrev pub is_long : RollPiece → Bool
is_long piece = nat_lt most_frames (len_of piece)

-- what is told of a piece that is too long
unfoldable pub warning : RollPiece → List ℕ
warning piece = if is_long piece then codes ", too long: a tape has at most 16384" else []

-- the line of a tape: its file, how many frames it has, and where in the reel the first of them is
abbrev pub tape_line : ℕ → RollPiece → List ℕ
tape_line number piece =
    tape_name number ++ codes " frames " ++ decimal (len_of piece) ++ codes " from " ++ decimal piece.from ++ warning piece ++ codes "\n"

-- the lines of tapes, numbered from this number on
abbrev pub lines_from : ℕ → List RollPiece → List ℕ
lines_from number [] = []
lines_from number (piece ∷ pieces) = tape_line number piece ++ lines_from (number + 1) pieces

-- the last line: how many tapes there are, and how many frames the reel has
unfoldable pub foot_text : ℕ → ℕ → List ℕ
foot_text tapes frames = (codes "tapes: " ++ decimal tapes) ++ ((codes ", frames in the reel: " ++ decimal frames) ++ codes "\n")

-- all that is told
abbrev pub import_text : Imported → List ℕ
import_text done = lines_from 1 done.tapes.items ++ foot_text (length done.tapes.items) done.frames

-- none of these pieces is longer than a tape may be
abbrev pub are_tapes : List RollPiece → Bool
are_tapes [] = true
are_tapes (piece ∷ pieces) = if is_long piece then false else are_tapes pieces
