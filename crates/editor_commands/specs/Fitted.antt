-- What `fit` writes: the report of its story.
use Rattle.std.specs.Prelude.{◌≡◌, ℕ, zero, suc, List, [], Option, None, Ok}
use Rattle.std.specs.Io.KnownBytes.{Appends}
use Rattle.streams.specs.Fronts.{AppendsFront}
use Rattle.toml.specs.Parse.{parse_document}
use Rattle.code_table.specs.Tables.{Places, mean}
use Rattle.code_table.specs.Reading.{read_table}
use Rattle.widths.specs.Widths.{WidthFile}
use Rattle.widths.specs.Reading.{read_widths}
use Rattle.slug_reader.specs.Meanings.{Meanings}
use Rattle.text_tape.specs.Punching.{IsPunched}
use Rattle.line_check.specs.declared.setting.Setting.{Setting}
use Rattle.line_check.specs.Sets.{first_fault}
use Rattle.line_fit.specs.declared.fitting.Fitting.{Fitting}
use Rattle.line_fit.specs.Fitting.{Fits}
use Rattle.command_ends.specs.Ends.{IsOfInput}
use Rattle.command_ends.specs.declared.end.End.{End}
use Rattle.command_ends.specs.declared.end.End.TheVariants.{Done, Input}
use Rattle.editor_commands.specs.Ends.{BreaksOff, IfAll}
use Rattle.editor_commands.specs.Report.{faults_in, report_text}
use Rattle.editor_commands.specs.declared.fitting.Given.{Given}
use Rattle.editor_commands.specs.declared.fitting.Given.TheVariants as given

-- a story of which it is to be told how it fits: the texts of its files as far as they are known, and how it is given
pub record ToFit : Type 0 where
  pub table : Option (List ℕ)
  pub widths : Option (List ℕ)
  pub story : Option (List ℕ)
  pub given : Given

-- the tape of a story that is given as a tape or as a text
abbrev pub IsStory : Given → Meanings → List ℕ → List ℕ → Type 0
IsStory given.Tape means story tape = tape ≡ story
IsStory given.Text means story tape = IsPunched [] means story tape

-- a tape fits so, with so many lines that do not set, and of its report this was written; where there is none, the tape sets
pub record IsReport (means : Meanings) (file : WidthFile) (tape : List ℕ) (faults : ℕ) (IsWritten : List ℕ → Type 0) : Type 0 where
  pub fitting : Fitting
  pub fits : Fits means file tape fitting
  pub is_faults : faults ≡ faults_in fitting
  pub sets : faults_in fitting ≡ 0 → first_fault means file tape ≡ None
  pub wrote : IsWritten (report_text file.measure fitting)

-- the texts are a code table and a width file, and so the report of the story by them was written
pub record IsReportOf (order : ToFit) (table widths story : List ℕ) (faults : ℕ) (IsWritten : List ℕ → Type 0) : Type 0 where
  pub places : Places
  pub file : WidthFile
  pub tape : List ℕ
  pub is_table : read_table (parse_document table) ≡ Ok places
  pub is_widths : read_widths (parse_document widths) ≡ Ok file
  pub is_story : IsStory order.given (mean places) story tape
  pub is_report : IsReport (mean places) file tape faults IsWritten

-- the report of a tape was written by a table and widths, all of it
abbrev pub WasReported : Setting → List ℕ → ℕ → Option (List ℕ) → Option (List ℕ) → Type 0
WasReported setting tape faults old new = IsReport (mean setting.table) setting.widths tape faults (Appends old new)

-- how the report of a tape breaks off
abbrev pub BreaksOffReport : Setting → List ℕ → End → Option (List ℕ) → Option (List ℕ) → Type 0
BreaksOffReport setting tape end old new =
    BreaksOff ((faults : ℕ) × IsReport (mean setting.table) setting.widths tape faults (AppendsFront old new)) end old new

-- the report was written, all of it, of a story of which so many lines do not set
abbrev pub WasFitted : ToFit → ℕ → Option (List ℕ) → Option (List ℕ) → Type 0
WasFitted order faults old new = IfAll order.table order.widths order.story (λ ts ws xs. IsReportOf order ts ws xs faults (Appends old new))

-- a prefix of the report of these texts was written
abbrev pub WasPrefixFitted : ToFit → List ℕ → List ℕ → List ℕ → Option (List ℕ) → Option (List ℕ) → Type 0
WasPrefixFitted order table widths story old new = (faults : ℕ) × IsReportOf order table widths story faults (AppendsFront old new)

-- how `fit` breaks off, and what it has written then
pub record BreaksOffFitting (order : ToFit) (end : End) (old new : Option (List ℕ)) : Type 0 where
  -- it is a fault of an input, or memory was refused
  pub ends : IsOfInput end
  -- nothing was written, or a prefix of the report
  pub wrote : IfAll order.table order.widths order.story (λ ts ws xs. BreaksOff (WasPrefixFitted order ts ws xs old new) end old new)

-- the end once a report is written: a line that does not set is a fault of an input
abbrev pub end_by : ℕ → End
end_by zero = Done
end_by (suc n) = Input

-- what `fit` has written at its end, by its cause
pub data FitsStory (order : ToFit) (table widths story : List ℕ) (end : End) (old new : Option (List ℕ)) : Type 0 where
  -- each line sets, and the report was written
  Whole : end ≡ Done → IsReportOf order table widths story 0 (Appends old new) → FitsStory order table widths story end old new
  -- so many lines do not set, and the report was written
  Faulty : (faults : ℕ) → end ≡ Input → IsReportOf order table widths story (suc faults) (Appends old new) → FitsStory order table widths story end old new
  -- an input is not taken, or memory was refused: nothing was written
  Unwritten : IsOfInput end → ¬ (end ≡ Done) → new ≡ old → FitsStory order table widths story end old new
  -- the output can't be written: a prefix of the report was
  Cut : (faults : ℕ) → end ≡ Input → IsReportOf order table widths story faults (AppendsFront old new) → FitsStory order table widths story end old new

-- what `fit` does: how it ends, and what it has written then
pub record FitsWhole (order : ToFit) (end : End) (old new : Option (List ℕ)) : Type 0 where
  -- it ends well, by a fault of an input, or as memory was refused
  pub ends : IsOfInput end
  -- where it ends well, the report of a story of which each line sets was written
  pub done : end ≡ Done → WasFitted order 0 old new
  -- what was written at each end
  pub cause : IfAll order.table order.widths order.story (λ ts ws xs. FitsStory order ts ws xs end old new)
