-- The report of `fit`: a head, a row for each line, what is wrong behind the last, and how many lines do not set.
use Rattle.std.specs.Prelude.{ℕ, ◌+◌, ◌-◌, List, [], ◌∷◌, ◌++◌, codes, Bool, true, false, Option, Some, None, length, replicate, decimal, flat_map, count_by, ◌==◌, if◌then◌else◌}
use Rattle.slug_reader.specs.declared.item.Item.{Item}
use Rattle.slug_reader.specs.declared.item.Item.TheVariants as items
use Rattle.slug_reader.specs.declared.line.Line.{Line}
use Rattle.slug_reader.specs.Positions.{first, last}
use Rattle.line_check.specs.declared.fault.Cause.{Cause}
use Rattle.line_check.specs.declared.fault.Cause.TheVariants as causes
use Rattle.line_check.specs.declared.fault.SetFault.{SetFault}
use Rattle.line_check.specs.declared.slug.Kind.{Kind}
use Rattle.line_check.specs.declared.slug.Kind.TheVariants as kinds
use Rattle.line_check.specs.declared.slug.Slug.{Slug}
use Rattle.line_check.specs.Slugs.{band_width}
use Rattle.line_fit.specs.declared.verdict.Verdict.{Verdict}
use Rattle.columns.specs.Columns.{on_the_right, on_the_left}
use Rattle.line_fit.specs.declared.verdict.Verdict.TheVariants.{Nothing, Faulty, Sets}
use Rattle.line_fit.specs.declared.verdict.LineFit.{LineFit}
use Rattle.line_fit.specs.declared.fitting.Fitting.{Fitting}

-- what is read of an item: a matrix by its name, a band or a fixed space as a blank
abbrev pub item_read : Item → List ℕ
item_read (items.Matrix name rail width) = name
item_read items.Band = 32 ∷ []
item_read (items.Space width) = 32 ∷ []

-- the words of a cause at a position
abbrev pub cause_words : ℕ → Cause → List ℕ
cause_words at causes.UnknownCode = codes "unknown-code " ++ decimal at
cause_words at causes.NoWidth = codes "no-width " ++ decimal at
cause_words at causes.Unfinished = codes "unfinished"
cause_words at (causes.Overset over) = codes "overset " ++ decimal over
cause_words at (causes.Loose under) = codes "loose " ++ decimal under

-- the words of a fault; its line stands before them
abbrev pub fault_words : SetFault → List ℕ
fault_words fault = cause_words fault.at fault.cause

-- the letter of a justified slug, and the width of its bands, which the first may have by a unit more
abbrev pub justified_words : Option ℕ → Option ℕ → List ℕ
justified_words (Some widest) (Some narrowest) = if widest == narrowest then codes "J " ++ decimal narrowest else codes "J " ++ decimal narrowest ++ codes "+"
justified_words (Some widest) None = codes "J"
justified_words None narrowest = codes "J"

-- the words of a slug: how it fills the measure
abbrev pub filled_words : Kind → Slug → List ℕ
filled_words kinds.J slug = justified_words (first band_width slug.items) (last band_width slug.items)
filled_words kinds.L slug = codes "L " ++ decimal (slug.left + slug.right)
filled_words kinds.C slug = codes "C " ++ decimal (slug.left + slug.right)
filled_words kinds.R slug = codes "R " ++ decimal (slug.left + slug.right)

-- the words of a verdict
abbrev pub verdict_words : Verdict → List ℕ
verdict_words Nothing = codes "nothing"
verdict_words (Faulty fault) = fault_words fault
verdict_words (Sets slug) = filled_words slug.kind slug

-- the number of a slug, where there is one
abbrev pub slug_column : ℕ → Verdict → List ℕ
slug_column number Nothing = replicate 4 32
slug_column number (Faulty fault) = replicate 4 32
slug_column number (Sets slug) = on_the_right 4 (decimal number)

-- a verdict, and behind it the least and the greatest width of a line and what is read of it, where it has an item
abbrev pub line_columns : List ℕ → ℕ → ℕ → Option Line → List ℕ
line_columns verdict least greatest None = verdict
line_columns verdict least greatest (Some line) =
    on_the_left 15 verdict ++ 32 ∷ on_the_right 4 (decimal least) ++ codes " .. " ++ on_the_left 3 (decimal greatest) ++ codes "  " ++ flat_map item_read line.items

-- the row of a line, of these numbers of line and slug
abbrev pub row_text : ℕ → ℕ → LineFit → List ℕ
row_text number slug fit =
    on_the_right 4 (decimal number) ++ codes "  " ++ slug_column slug fit.verdict ++ codes "  "
    ++ line_columns (verdict_words fit.verdict) fit.least fit.greatest fit.line ++ 10 ∷ []

-- how many slugs a verdict has
abbrev pub slugs_in : Verdict → ℕ
slugs_in Nothing = 0
slugs_in (Faulty fault) = 0
slugs_in (Sets slug) = 1

-- the rows of lines, numbered from these numbers of line and slug on
abbrev pub rows_from : ℕ → ℕ → List LineFit → List ℕ
rows_from number slug [] = []
rows_from number slug (fit ∷ fits) = row_text number slug fit ++ rows_from (number + 1) (slug + slugs_in fit.verdict) fits

-- a verdict is that a line does not set
abbrev pub is_fault : Verdict → Bool
is_fault Nothing = false
is_fault (Faulty fault) = true
is_fault (Sets slug) = false

-- a line does not set
abbrev pub is_faulty : LineFit → Bool
is_faulty fit = is_fault fit.verdict

-- the row of what stands behind the last line, where that is wrong
abbrev pub rest_row : Option SetFault → List ℕ
rest_row None = []
rest_row (Some fault) = on_the_right 4 (decimal fault.line) ++ replicate 8 32 ++ fault_words fault ++ 10 ∷ []

-- one, where there is a fault
abbrev pub one_if : Option SetFault → ℕ
one_if None = 0
one_if (Some fault) = 1

-- how many lines do not set; what is wrong behind the last counts as one
abbrev pub faults_in : Fitting → ℕ
faults_in fitting = count_by is_faulty fitting.lines.items + one_if fitting.rest

-- how many lines a report has
abbrev pub lines_in : Fitting → ℕ
lines_in fitting = length fitting.lines.items + one_if fitting.rest

-- the head of a report
unfoldable pub head_text : ℕ → List ℕ
head_text measure = codes "line  slug  verdict        least .. most of " ++ decimal measure ++ codes "\n"

-- its foot: so many of so many lines do not set
unfoldable pub foot_text : ℕ → ℕ → List ℕ
foot_text faults lines = decimal faults ++ codes " of " ++ decimal lines ++ codes " lines do not set\n"

-- the report of how a tape fits
abbrev pub report_text : ℕ → Fitting → List ℕ
report_text measure fitting =
    head_text measure ++ rows_from 1 1 fitting.lines.items ++ rest_row fitting.rest ++ foot_text (faults_in fitting) (lines_in fitting)
