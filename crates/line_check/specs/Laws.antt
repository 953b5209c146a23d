-- The laws of slugs.
use Rattle.std.specs.Prelude.{◌≡◌, ℕ, ◌+◌, List, Some, None, Result, sum_by}
use Rattle.widths.specs.Widths.{WidthFile}
use Rattle.slug_reader.specs.declared.line.Line.{Line}
use Rattle.slug_reader.specs.Meanings.{Meanings}
use Rattle.line_check.specs.declared.slug.Slug.{Slug}
use Rattle.line_check.specs.declared.fault.Cause.{Cause}
use Rattle.line_check.specs.declared.fault.SetFault.{SetFault}
use Rattle.line_check.specs.Slugs.{IsSlug, sort_width, misfit}
use Rattle.line_check.specs.Sets.{Sets}

-- at most one slug meets the equations of a line
abbrev pub OneSlug : Type 0
OneSlug = (widths : WidthFile) (line : Line) (a b : Slug) → IsSlug widths line a → IsSlug widths line b → a ≡ b

-- left, items and right add up to the measure
abbrev pub AddsUp : Type 0
AddsUp =
    (widths : WidthFile) (line : Line) (slug : Slug) → IsSlug widths line slug
    → slug.left + sum_by sort_width slug.items + slug.right ≡ widths.measure

-- no slug meets the equations of a line that does not fit
abbrev pub HasNoSlug : Type 0
HasNoSlug = (widths : WidthFile) (line : Line) (cause : Cause) (slug : Slug) → misfit widths line ≡ Some cause → IsSlug widths line slug → ⊥

-- a line that is neither overset nor loose has one
abbrev pub HasSlug : Type 0
HasSlug = (widths : WidthFile) (line : Line) → misfit widths line ≡ None → (slug : Slug) × IsSlug widths line slug

-- a tape sets in one way
abbrev pub OneSetting : Type 0
OneSetting =
    (means : Meanings) (widths : WidthFile) (tape : List ℕ) (a b : Result (List Slug) SetFault)
    → Sets means widths tape a → Sets means widths tape b → a ≡ b

-- each tape sets in some way: as slugs, or with a fault
abbrev pub HasSetting : Type 0
HasSetting = (means : Meanings) (widths : WidthFile) (tape : List ℕ) → (set : Result (List Slug) SetFault) × Sets means widths tape set
