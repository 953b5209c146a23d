-- A line that is neither overset nor loose has a slug, and each tape sets in some way.
use Rattle.std.proofs.Common.{◌≡◌, ℕ, zero, suc, ◌+◌, ◌-◌, ◌*◌, ◌/◌, ◌%◌, ◌<◌, ◌≤◌, Bool, true, false, cond, ltb, List, [], ◌∷◌, length, map, Option, Some, None, refl, arith}
use Rattle.std.specs.Prelude.{option_map, Result, Ok, Err}
use Rattle.std.proofs.lemmas.Bool.{ltb-false}
use Rattle.widths.specs.Widths.{WidthFile}
use Rattle.slug_reader.specs.declared.item.Item.{Item}
use Rattle.slug_reader.specs.declared.line.Line.{Line}
use Rattle.slug_reader.specs.declared.line.Quad.{Quad}
use Rattle.slug_reader.specs.declared.line.Quad.TheVariants as quads
use Rattle.slug_reader.specs.Meanings.{Meanings}
use Rattle.slug_reader.specs.Lines.{lines_before}
use Rattle.line_check.specs.declared.slug.Slug.{Slug}
use Rattle.line_check.specs.declared.slug.Kind.TheVariants as kinds
use Rattle.line_check.specs.declared.fault.SetFault.{SetFault}
use Rattle.line_check.specs.Slugs.{fixed_of, bands_of, kind_of, StandsAt, Fills, AreSlugs, least_width, greatest_width, looseness, misfit, item_of_sort}
use Rattle.line_check.specs.Spreading.{sorts_of, misfit_among}
use Rattle.line_check.specs.Sets.{first_fault, Sets}
use Rattle.line_check.specs.Laws.{HasSlug, HasSetting}
use Rattle.line_check.proofs.Spread.{items_kept, justifies, quads_line}
use Rattle.line_check.proofs.FirstFault.{neither, mapped_none, all_fit}

-- a test that chose nothing
unchosen : {A : Type 0} (b : Bool) (x : A) (y : Option A) → cond b (Some x) y ≡ None → (b ≡ false) × (y ≡ None)
unchosen true x y e = absurd cc
unchosen false x y e = (refl, e)

-- so much shared out over k bands
record Share (k rest : ℕ) : Type 0 where
  width : ℕ
  wider : ℕ
  whole : k * width + wider ≡ rest
  less : 0 < k → wider < k

shared : (k rest : ℕ) → Share k rest
shared zero rest = record { width = 0; wider = rest; whole = omega arith; less = λ h. absurd (omega (arith, h)) }
shared (suc k) rest = record { width = rest / suc k; wider = rest % suc k; whole = omega arith; less = λ h. omega arith }

-- the blank on both sides
record Sides (quad : Quad) (blank : ℕ) : Type 0 where
  left : ℕ
  right : ℕ
  whole : left + right ≡ blank
  stands : StandsAt quad left right

sides : (quad : Quad) (blank : ℕ) → Sides quad blank
sides quads.Left blank = record { left = 0; right = blank; whole = omega arith; stands = refl }
sides quads.Center blank = record { left = blank / 2; right = blank - blank / 2; whole = omega arith; stands = (omega arith, omega arith) }
sides quads.Right blank = record { left = blank; right = 0; whole = omega arith; stands = refl }

filled : (widths : WidthFile) (line : List Item) (quad : Option Quad) → least_width widths line ≤ widths.measure → looseness widths line quad ≡ None
    → (slug : Slug) × (map item_of_sort slug.items ≡ line) × Fills widths (fixed_of line) quad slug
filled widths line None least e =
    let close = ltb-false (greatest_width widths line) widths.measure (unchosen (ltb (greatest_width widths line) widths.measure) _ None e).0 in
    let share = shared (bands_of line) (widths.measure - fixed_of line) in (
      record { items = sorts_of share.width share.wider line; kind = kinds.J; left = 0; right = 0 },
      items_kept share.width share.wider line,
      justifies widths line share.width share.wider (widths.measure - fixed_of line) least close refl share.whole share.less,
    )
filled widths line (Some quad) least e =
    let blank = sides quad (widths.measure - least_width widths line) in
    let whole : blank.left + blank.right + least_width widths line ≡ widths.measure = omega (arith, blank.whole, least) in (
      record { items = sorts_of widths.band_min 0 line; kind = kind_of quad; left = blank.left; right = blank.right },
      items_kept widths.band_min 0 line,
      quads_line widths line quad blank.left blank.right whole blank.stands,
    )

pub has_slug : HasSlug
has_slug widths line e =
    let fits = unchosen (ltb widths.measure (least_width widths line.items)) _ (looseness widths line.items line.quad) e in
    let found = filled widths line.items line.quad (ltb-false widths.measure (least_width widths line.items) fits.0) fits.1 in
    (found.0, record { items = found.1; fills = found.2 })

-- lines of which each fits have slugs
lines_set : (widths : WidthFile) (lines : List Line) → misfit_among widths lines ≡ None → (slugs : List Slug) × AreSlugs widths lines slugs
lines_set widths [] fit = ([], tt)
lines_set widths (line ∷ lines) fit =
    let both = neither (option_map (λ cause. (line.elevate_at, cause)) (misfit widths line)) (misfit_among widths lines) fit in
    let slug = has_slug widths line (mapped_none (λ cause. (line.elevate_at, cause)) (misfit widths line) both.0) in
    let rest = lines_set widths lines both.1 in
    (slug.0 ∷ rest.0, (slug.1, rest.1))

-- a tape sets, by whether it has a fault
tape_sets : (means : Meanings) (widths : WidthFile) (tape : List ℕ) (fault : Option SetFault) → first_fault means widths tape ≡ fault → (set : Result (List Slug) SetFault) × Sets means widths tape set
tape_sets means widths tape (Some fault) first = (Err fault, first)
tape_sets means widths tape None first =
    let slugs = lines_set widths (lines_before means widths tape (length tape)) (all_fit means widths tape first) in
    (Ok slugs.0, (first, slugs.1))

pub has_setting : HasSetting
has_setting means widths tape = tape_sets means widths tape (first_fault means widths tape) refl
