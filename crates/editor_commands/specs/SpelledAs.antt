-- What `spell` writes: the text of its tape.
use Rattle.std.specs.Prelude.{◌≡◌, ℕ, List, Option, Ok}
use Rattle.std.specs.Io.KnownBytes.{Appends}
use Rattle.streams.specs.Fronts.{AppendsFront}
use Rattle.toml.specs.Parse.{parse_document}
use Rattle.code_table.specs.Tables.{Places, mean}
use Rattle.code_table.specs.Reading.{read_table}
use Rattle.slug_reader.specs.Meanings.{Meanings}
use Rattle.tape_frames.specs.Frames.{IsTape}
use Rattle.text_tape.specs.Plain.{read_of}
use Rattle.text_tape.specs.Spelling.{spelled}
use Rattle.command_ends.specs.Ends.{IsOfInput}
use Rattle.command_ends.specs.declared.end.End.{End}
use Rattle.command_ends.specs.declared.end.End.TheVariants.{Done, Input}
use Rattle.editor_commands.specs.Ends.{BreaksOff, IfBoth}
use Rattle.editor_commands.specs.declared.spelling.Form.{Form}
use Rattle.editor_commands.specs.declared.spelling.Form.TheVariants as forms

-- a tape that is to be spelled: the texts of its files as far as they are known, and how it is written
pub record ToSpell : Type 0 where
  pub table : Option (List ℕ)
  pub tape : Option (List ℕ)
  pub form : Form

-- a tape in a form: spelled so that it is punched again, or as a reader reads it
abbrev pub text_in : Form → Meanings → List ℕ → List ℕ
text_in forms.Punchable means tape = spelled means tape
text_in forms.Plain means tape = read_of means tape

-- a text is a code table, and of the text of a tape by it this was written
pub record IsTextOf (order : ToSpell) (table tape : List ℕ) (IsWritten : List ℕ → Type 0) : Type 0 where
  pub places : Places
  pub is_table : read_table (parse_document table) ≡ Ok places
  pub is_tape : IsTape tape
  pub wrote : IsWritten (text_in order.form (mean places) tape)

-- the text was written, all of it
abbrev pub WasSpelled : ToSpell → Option (List ℕ) → Option (List ℕ) → Type 0
WasSpelled order old new = IfBoth order.table order.tape (λ ts xs. IsTextOf order ts xs (Appends old new))

-- how `spell` breaks off, and what it has written then
pub record BreaksOffSpelling (order : ToSpell) (end : End) (old new : Option (List ℕ)) : Type 0 where
  -- it is a fault of an input, or memory was refused
  pub ends : IsOfInput end
  -- nothing was written, or a prefix of the text
  pub wrote : IfBoth order.table order.tape (λ ts xs. BreaksOff (IsTextOf order ts xs (AppendsFront old new)) end old new)

-- what `spell` has written at its end, by its cause
pub data SpelledAs (order : ToSpell) (table tape : List ℕ) (end : End) (old new : Option (List ℕ)) : Type 0 where
  -- the text was written
  Whole : end ≡ Done → IsTextOf order table tape (Appends old new) → SpelledAs order table tape end old new
  -- an input is not taken, or memory was refused: nothing was written
  Unwritten : IsOfInput end → ¬ (end ≡ Done) → new ≡ old → SpelledAs order table tape end old new
  -- the output can't be written: a prefix of the text was
  Cut : end ≡ Input → IsTextOf order table tape (AppendsFront old new) → SpelledAs order table tape end old new

-- what `spell` does: how it ends, and what it has written then
pub record Spells (order : ToSpell) (end : End) (old new : Option (List ℕ)) : Type 0 where
  -- it ends well, by a fault of an input, or as memory was refused
  pub ends : IsOfInput end
  -- where it ends well, the text was written
  pub done : end ≡ Done → WasSpelled order old new
  -- what was written at each end
  pub cause : IfBoth order.table order.tape (λ ts xs. SpelledAs order ts xs end old new)
