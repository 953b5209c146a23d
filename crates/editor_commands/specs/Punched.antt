-- What `punch` writes: the tape of its text.
use Rattle.std.specs.Prelude.{◌≡◌, ◌≤◌, ℕ, List, Option, Ok, length}
use Rattle.std.specs.Io.KnownBytes.{Appends}
use Rattle.streams.specs.Fronts.{AppendsFront}
use Rattle.toml.specs.Parse.{parse_document}
use Rattle.code_table.specs.Tables.{Places, mean}
use Rattle.code_table.specs.Reading.{read_table}
use Rattle.tape_frames.specs.Frames.{IsTape}
use Rattle.tape_frames.specs.declared.version.Version.{Version}
use Rattle.text_tape.specs.Punching.{Ligatures, most_in, IsPunched}
use Rattle.command_ends.specs.Ends.{IsOfInput}
use Rattle.command_ends.specs.declared.end.End.{End}
use Rattle.command_ends.specs.declared.end.End.TheVariants.{Done, Input}
use Rattle.editor_commands.specs.Ends.{BreaksOff, IfBoth}

-- a tape that is to be punched: the texts of its files as far as they are known, the ligatures, and the version that is to have room
pub record ToPunch : Type 0 where
  pub table : Option (List ℕ)
  pub text : Option (List ℕ)
  pub ligatures : Ligatures
  pub room : Version

-- a text is a code table, and the other is punched by it as a tape for which the version has room, of which this was written
pub record IsTapeOf (order : ToPunch) (table text : List ℕ) (IsWritten : List ℕ → Type 0) : Type 0 where
  pub places : Places
  pub tape : List ℕ
  pub is_table : read_table (parse_document table) ≡ Ok places
  pub is_tape : IsTape tape
  pub few : length tape ≤ most_in order.room
  pub punched : IsPunched order.ligatures (mean places) text tape
  pub wrote : IsWritten tape

-- the tape was written, all of it
abbrev pub WasPunched : ToPunch → Option (List ℕ) → Option (List ℕ) → Type 0
WasPunched order old new = IfBoth order.table order.text (λ ts xs. IsTapeOf order ts xs (Appends old new))

-- how `punch` breaks off, and what it has written then
pub record BreaksOffPunching (order : ToPunch) (end : End) (old new : Option (List ℕ)) : Type 0 where
  -- it is a fault of an input, or memory was refused
  pub ends : IsOfInput end
  -- nothing was written, or a prefix of the tape
  pub wrote : IfBoth order.table order.text (λ ts xs. BreaksOff (IsTapeOf order ts xs (AppendsFront old new)) end old new)

-- what `punch` has written at its end, by its cause
pub data Punched (order : ToPunch) (table text : List ℕ) (end : End) (old new : Option (List ℕ)) : Type 0 where
  -- the tape was written
  Whole : end ≡ Done → IsTapeOf order table text (Appends old new) → Punched order table text end old new
  -- an input is not taken, the text can't be punched, or memory was refused: nothing was written
  Unwritten : IsOfInput end → ¬ (end ≡ Done) → new ≡ old → Punched order table text end old new
  -- the output can't be written: a prefix of the tape was
  Cut : end ≡ Input → IsTapeOf order table text (AppendsFront old new) → Punched order table text end old new

-- what `punch` does: how it ends, and what it has written then
pub record Punches (order : ToPunch) (end : End) (old new : Option (List ℕ)) : Type 0 where
  -- it ends well, by a fault of an input, or as memory was refused
  pub ends : IsOfInput end
  -- where it ends well, the tape was written
  pub done : end ≡ Done → WasPunched order old new
  -- what was written at each end
  pub cause : IfBoth order.table order.text (λ ts xs. Punched order ts xs end old new)
