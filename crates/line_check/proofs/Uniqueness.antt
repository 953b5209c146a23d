-- At most one row of widths meets the equations of a slug, and none where a line does not fit.
use Rattle.std.proofs.Common.{◌≡◌, ℕ, ◌+◌, ◌*◌, ◌≤◌, Bool, true, false, cond, ltb, List, [], ◌∷◌, length, map, Option, Some, None, refl, sym, ◌∙◌, ap, arith, inl, inr, ◌⊎◌}
use Rattle.std.specs.Prelude.{sum, sum_by, Ok, Err}
use Rattle.std.specs.List.{AllByRecursion}
use Rattle.std.proofs.lemmas.Bool.{cases_lt, ltb-true}
use Rattle.std.proofs.lemmas.List.Sums.{sum_by-cons}
use Rattle.std.proofs.Math.Nat.{mul-le-mul_left}
use Rattle.widths.specs.Widths.{WidthFile}
use Rattle.slug_reader.specs.declared.item.Item.{Item}
use Rattle.slug_reader.specs.declared.item.Item.TheVariants as items
use Rattle.slug_reader.specs.declared.line.Line.{Line}
use Rattle.slug_reader.specs.declared.line.Quad.{Quad}
use Rattle.slug_reader.specs.declared.line.Quad.TheVariants as quads
use Rattle.slug_reader.specs.Lines.{lines_before}
use Rattle.line_check.specs.declared.sort.Sort.{Sort}
use Rattle.line_check.specs.declared.sort.Sort.TheVariants as sorts
use Rattle.line_check.specs.declared.slug.Slug.{Slug}
use Rattle.line_check.specs.declared.slug.Kind.{Kind}
use Rattle.line_check.specs.declared.fault.Cause.{Cause}
use Rattle.line_check.specs.Slugs.{fixed_width, fixed_of, bands_of, item_of_sort, sort_width, band_widths, IsEven, StandsAt, Fills, AreSlugs, least_width, greatest_width, looseness}
use Rattle.line_check.specs.Laws.{OneSlug, AddsUp, HasNoSlug, OneSetting}
use Rattle.line_check.proofs.Spread.{sum_cons, bands_cons}

most_sum : (w : ℕ) (ws : List ℕ) → AllByRecursion (λ v. (v ≤ w) × (w ≤ v + 1)) ws → sum ws ≤ length ws * w
most_sum w [] h = omega arith
most_sum w (v ∷ ws) h = omega (arith, sum_cons v ws, h.0.0, most_sum w ws h.1)

least_sum : (w : ℕ) (ws : List ℕ) → AllByRecursion (λ v. (v ≤ w) × (w ≤ v + 1)) ws → length ws * w ≤ sum ws + length ws
least_sum w [] h = omega arith
least_sum w (v ∷ ws) h = omega (arith, sum_cons v ws, h.0.1, least_sum w ws h.1)

-- two even rows of one length and one sum begin alike
not_below : (a b n s t : ℕ) → s ≤ n * a → n * b ≤ t + n → a + s ≡ b + t → b ≤ a
not_below a b n s t le ge e =
    elim (cases_lt a b) [
      | inl less ↦ let more : n * (a + 1) ≤ n * b = mul-le-mul_left n (omega (arith, less)) in absurd (omega (arith, more, le, ge, e, less))
      | inr done ↦ done
    ]

even_same : (ws vs : List ℕ) → IsEven ws → IsEven vs → length ws ≡ length vs → sum ws ≡ sum vs → ws ≡ vs
even_same [] [] p q n e = refl
even_same [] (v ∷ vs) p q n e = absurd (omega (arith, n))
even_same (w ∷ ws) [] p q n e = absurd (omega (arith, n))
even_same (w ∷ ws) (v ∷ vs) p q n e =
    let long : length ws ≡ length vs = omega (arith, n) in
    let sums : w + sum ws ≡ v + sum vs = omega (arith, sum_cons w ws, sum_cons v vs, e) in
    let wide = rw long at (most_sum w ws p.0) in
    let wide_least = rw long at (least_sum w ws p.0) in
    let le : v ≤ w = not_below w v (length vs) (sum ws) (sum vs) wide (least_sum v vs q.0) sums in
    let ge : w ≤ v = not_below v w (length vs) (sum vs) (sum ws) (most_sum v vs q.0) wide_least (sym sums) in
    let same : w ≡ v = omega (arith, le, ge) in
    let rest : ws ≡ vs = even_same ws vs p.1 q.1 long (omega (arith, sums, same)) in
    cc

all_same : (w : ℕ) (ws vs : List ℕ) → AllByRecursion (λ v. v ≡ w) ws → AllByRecursion (λ v. v ≡ w) vs → length ws ≡ length vs → ws ≡ vs
all_same w [] [] p q n = refl
all_same w [] (v ∷ vs) p q n = absurd (omega (arith, n))
all_same w (x ∷ ws) [] p q n = absurd (omega (arith, n))
all_same w (x ∷ ws) (v ∷ vs) p q n =
    let rest : ws ≡ vs = all_same w ws vs p.1 q.1 (omega (arith, n)) in
    let same : x ≡ v = p.0 ∙ sym q.0 in
    cc

-- sorts of the same items with the same widths of bands
sorts_same : (ps qs : List Sort) → map item_of_sort ps ≡ map item_of_sort qs → band_widths ps ≡ band_widths qs → ps ≡ qs
sorts_same [] [] e f = refl
sorts_same [] (b ∷ qs) e f = absurd cc
sorts_same (a ∷ ps) [] e f = absurd cc
sorts_same (sorts.Matrix n r w ∷ ps) (sorts.Matrix m s v ∷ qs) e f =
    let tail : map item_of_sort ps ≡ map item_of_sort qs = cc in
    let rest : ps ≡ qs = sorts_same ps qs tail f in
    cc
sorts_same (sorts.Matrix n r w ∷ ps) (sorts.Band v ∷ qs) e f = absurd cc
sorts_same (sorts.Matrix n r w ∷ ps) (sorts.Space v ∷ qs) e f = absurd cc
sorts_same (sorts.Band w ∷ ps) (sorts.Matrix m s v ∷ qs) e f = absurd cc
sorts_same (sorts.Band w ∷ ps) (sorts.Band v ∷ qs) e f =
    let tail : map item_of_sort ps ≡ map item_of_sort qs = cc in
    let bands : band_widths ps ≡ band_widths qs = cc in
    let rest : ps ≡ qs = sorts_same ps qs tail bands in
    cc
sorts_same (sorts.Band w ∷ ps) (sorts.Space v ∷ qs) e f = absurd cc
sorts_same (sorts.Space w ∷ ps) (sorts.Matrix m s v ∷ qs) e f = absurd cc
sorts_same (sorts.Space w ∷ ps) (sorts.Band v ∷ qs) e f = absurd cc
sorts_same (sorts.Space w ∷ ps) (sorts.Space v ∷ qs) e f =
    let tail : map item_of_sort ps ≡ map item_of_sort qs = cc in
    let rest : ps ≡ qs = sorts_same ps qs tail f in
    cc

-- ps many widths ps bands
length-bands : (ps : List Sort) → length (band_widths ps) ≡ bands_of (map item_of_sort ps)
length-bands [] = refl
length-bands (sorts.Matrix n r w ∷ ps) = omega (arith, bands_cons (items.Matrix n r w) (map item_of_sort ps), length-bands ps)
length-bands (sorts.Band w ∷ ps) = omega (arith, bands_cons items.Band (map item_of_sort ps), length-bands ps)
length-bands (sorts.Space w ∷ ps) = omega (arith, bands_cons (items.Space w) (map item_of_sort ps), length-bands ps)

bands_count : (line : List Item) (ps : List Sort) → map item_of_sort ps ≡ line → length (band_widths ps) ≡ bands_of line
bands_count line ps e = length-bands ps ∙ ap bands_of e

abbrev made : List Sort → Kind → ℕ → ℕ → Slug
made items kind left right = record { items = items; kind = kind; left = left; right = right }

slug_same : (a b : Slug) → a.items ≡ b.items → a.kind ≡ b.kind → a.left ≡ b.left → a.right ≡ b.right → a ≡ b
slug_same a b items kind left right =
    ap (λ x. made x a.kind a.left a.right) items
    ∙ (ap (λ x. made b.items x a.left a.right) kind ∙ (ap (λ x. made b.items b.kind x a.right) left ∙ ap (λ x. made b.items b.kind b.left x) right))

sides_same : (quad : Quad) (l r m s : ℕ) → StandsAt quad l r → StandsAt quad m s → l + r ≡ m + s → (l ≡ m) × (r ≡ s)
sides_same quads.Left l r m s p q e = (omega (arith, p, q), omega (arith, p, q, e))
sides_same quads.Center l r m s p q e = (omega (arith, p.0, p.1, q.0, q.1, e), omega (arith, p.0, p.1, q.0, q.1, e))
sides_same quads.Right l r m s p q e = (omega (arith, p, q, e), omega (arith, p, q))

filled_same : (widths : WidthFile) (line : List Item) (quad : Option Quad) (a b : Slug) → map item_of_sort a.items ≡ line → map item_of_sort b.items ≡ line
    → Fills widths (fixed_of line) quad a → Fills widths (fixed_of line) quad b → a ≡ b
filled_same widths line None a b p q f g =
    let long : length (band_widths a.items) ≡ length (band_widths b.items) = bands_count line a.items p ∙ sym (bands_count line b.items q) in
    let sums : sum (band_widths a.items) ≡ sum (band_widths b.items) = omega (arith, f.full, g.full) in
    slug_same a b
    (sorts_same a.items b.items (p ∙ sym q) (even_same (band_widths a.items) (band_widths b.items) f.even g.even long sums))
    (f.kind ∙ sym g.kind) (f.left ∙ sym g.left) (f.right ∙ sym g.right)
filled_same widths line (Some quad) a b p q f g =
    let long : length (band_widths a.items) ≡ length (band_widths b.items) = bands_count line a.items p ∙ sym (bands_count line b.items q) in
    let bands : band_widths a.items ≡ band_widths b.items = all_same widths.band_min (band_widths a.items) (band_widths b.items) f.bands g.bands long in
    let sums : sum (band_widths a.items) ≡ sum (band_widths b.items) = ap sum bands in
    let sides = sides_same quad a.left a.right b.left b.right f.sides g.sides (omega (arith, f.full, g.full, sums)) in
    slug_same a b (sorts_same a.items b.items (p ∙ sym q) bands) (f.kind ∙ sym g.kind) sides.0 sides.1

pub one_slug : OneSlug
one_slug widths line a b p q = filled_same widths line.items line.quad a b p.items q.items p.fills q.fills

fixed_cons : (item : Item) (rest : List Item) → fixed_of (item ∷ rest) ≡ fixed_width item + fixed_of rest
fixed_cons item rest = sum_by-cons fixed_width item rest

-- the widths of the sorts are the fixed ones and those of the bands
sorts_sum : (ps : List Sort) → sum_by sort_width ps ≡ fixed_of (map item_of_sort ps) + sum (band_widths ps)
sorts_sum [] = refl
sorts_sum (sorts.Matrix n r w ∷ ps) =
    omega (arith, sum_by-cons sort_width (sorts.Matrix n r w) ps, fixed_cons (items.Matrix n r w) (map item_of_sort ps), sorts_sum ps)
sorts_sum (sorts.Band w ∷ ps) =
    omega (arith, sum_by-cons sort_width (sorts.Band w) ps, fixed_cons items.Band (map item_of_sort ps), sum_cons w (band_widths ps), sorts_sum ps)
sorts_sum (sorts.Space w ∷ ps) =
    omega (arith, sum_by-cons sort_width (sorts.Space w) ps, fixed_cons (items.Space w) (map item_of_sort ps), sorts_sum ps)

filled_sum : (widths : WidthFile) (fixed : ℕ) (quad : Option Quad) (slug : Slug) → Fills widths fixed quad slug
    → slug.left + (fixed + sum (band_widths slug.items)) + slug.right ≡ widths.measure
filled_sum widths fixed None slug f = omega (arith, f.left, f.right, f.full)
filled_sum widths fixed (Some quad) slug f = omega (arith, f.full)

pub adds_up : AddsUp
adds_up widths line slug p =
    let sums : sum_by sort_width slug.items ≡ fixed_of line.items + sum (band_widths slug.items) = sorts_sum slug.items ∙ ap (λ (xs : List Item). fixed_of xs + sum (band_widths slug.items)) p.items in
    rw sums (filled_sum widths (fixed_of line.items) line.quad slug p.fills)

low_sum : (low high : ℕ) (ws : List ℕ) → AllByRecursion (λ w. (low ≤ w) × (w ≤ high)) ws → length ws * low ≤ sum ws
low_sum low high [] h = omega arith
low_sum low high (w ∷ ws) h = omega (arith, sum_cons w ws, h.0.0, low_sum low high ws h.1)

high_sum : (low high : ℕ) (ws : List ℕ) → AllByRecursion (λ w. (low ≤ w) × (w ≤ high)) ws → sum ws ≤ length ws * high
high_sum low high [] h = omega arith
high_sum low high (w ∷ ws) h = omega (arith, sum_cons w ws, h.0.1, high_sum low high ws h.1)

equal_sum : (low : ℕ) (ws : List ℕ) → AllByRecursion (λ w. w ≡ low) ws → sum ws ≡ length ws * low
equal_sum low [] h = omega arith
equal_sum low (w ∷ ws) h = omega (arith, sum_cons w ws, h.0, equal_sum low ws h.1)

chosen : {A : Type 0} (b : Bool) (x y : Option A) (z : A) → cond b x y ≡ Some z → (b ≡ true) ⊎ ((b ≡ false) × (y ≡ Some z))
chosen true x y z e = inl refl
chosen false x y z e = inr (refl, e)

-- a line that is filled is not overset
filled_least : (widths : WidthFile) (line : List Item) (quad : Option Quad) (slug : Slug) → map item_of_sort slug.items ≡ line → Fills widths (fixed_of line) quad slug
    → least_width widths line ≤ widths.measure
filled_least widths line None slug p f =
    let low = rw (bands_count line slug.items p) at (low_sum widths.band_min widths.band_max (band_widths slug.items) f.range) in
    omega (arith, low, f.full)
filled_least widths line (Some quad) slug p f =
    let low = rw (bands_count line slug.items p) at (equal_sum widths.band_min (band_widths slug.items) f.bands) in
    omega (arith, low, f.full)

-- a line that is filled is not loose
not_loose : (widths : WidthFile) (line : List Item) (quad : Option Quad) (cause : Cause) (slug : Slug) → map item_of_sort slug.items ≡ line → Fills widths (fixed_of line) quad slug
    → looseness widths line quad ≡ Some cause → ⊥
not_loose widths line None cause slug p f e =
    let high = rw (bands_count line slug.items p) at (high_sum widths.band_min widths.band_max (band_widths slug.items) f.range) in
    elim (chosen (ltb (greatest_width widths line) widths.measure) _ None cause e) [
      | inl above ↦ let lt = ltb-true (greatest_width widths line) widths.measure above in absurd (omega (arith, high, f.full, lt))
      | inr other ↦ absurd cc
    ]
not_loose widths line (Some quad) cause slug p f e = absurd cc

pub no_slug : HasNoSlug
no_slug widths line cause slug e p =
    elim (chosen (ltb widths.measure (least_width widths line.items)) _ (looseness widths line.items line.quad) cause e) [
      | inl above ↦
          let lt = ltb-true widths.measure (least_width widths line.items) above in
          absurd (omega (arith, lt, filled_least widths line.items line.quad slug p.items p.fills))
      | inr other ↦ not_loose widths line.items line.quad cause slug p.items p.fills other.1
    ]

slugs_same : (widths : WidthFile) (lines : List Line) (ps qs : List Slug) → AreSlugs widths lines ps → AreSlugs widths lines qs → ps ≡ qs
slugs_same widths [] [] [] p q = refl
slugs_same widths [] [] (b ∷ qs) p q = absurd q
slugs_same widths [] (a ∷ ps) qs p q = absurd p
slugs_same widths (line ∷ lines) [] qs p q = absurd p
slugs_same widths (line ∷ lines) (a ∷ ps) [] p q = absurd q
slugs_same widths (line ∷ lines) (a ∷ ps) (b ∷ qs) p q =
    let same : a ≡ b = one_slug widths line a b p.0 q.0 in
    let rest : ps ≡ qs = slugs_same widths lines ps qs p.1 q.1 in
    cc

pub one_setting : OneSetting
one_setting means widths tape (Ok ps) (Ok qs) p q = ap Ok (slugs_same widths (lines_before means widths tape (length tape)) ps qs p.1 q.1)
one_setting means widths tape (Ok ps) (Err f) p q = let h = sym p.0 ∙ q in absurd cc
one_setting means widths tape (Err f) (Ok qs) p q = let h = sym q.0 ∙ p in absurd cc
one_setting means widths tape (Err f) (Err g) p q = let h = sym p ∙ q in cc
