-- The boxes of a slug, side by side.
use Rattle.std.proofs.Common.{◌≡◌, ℕ, ◌+◌, ◌-◌, ◌*◌, ◌≤◌, ◌/◌, leb, ltb, length, None, Bool, true, false, cond, List, [], ◌∷◌, ◌++◌, refl, sym, subst, ap, ◌∙◌, arith}
use Rattle.std.specs.Prelude.{filter_map, sum_by, ◌==◌}
use Rattle.std.proofs.Math.Nat.{div-mul-le_self, zero-div, mul-div_cancel_left}
use Rattle.std.proofs.lemmas.Bool.{eqb-true}
use Rattle.std.proofs.lemmas.List.{append-nil}
use Rattle.std.proofs.lemmas.List.Sums.{sum_by-cons}
use Rattle.std.proofs.lemmas.Nat.{le-div}
use Rattle.std.proofs.lemmas.List.Elements.{filter_map-append}
use Rattle.widths.specs.Widths.{WidthFile}
use Rattle.slug_reader.specs.declared.item.Rail.{Rail}
use Rattle.slug_reader.specs.declared.item.Item.{Item}
use Rattle.slug_reader.specs.declared.item.Item.TheVariants as items
use Rattle.line_check.specs.declared.fault.Cause.{Cause}
use Rattle.line_check.specs.declared.fault.Cause.TheVariants as causes
use Rattle.line_check.specs.declared.fault.SetFault.{SetFault}
use Rattle.line_check.specs.declared.sort.Sort.TheVariants as sorts
use Rattle.line_check.specs.Slugs.{sort_width, fixed_width, fixed_of, is_band, bands_of, least_width, greatest_width}
use Rattle.tape_drawing.specs.declared.elements.Look.{Look}
use Rattle.tape_drawing.specs.declared.elements.Look.TheVariants as looks
use Rattle.tape_drawing.specs.declared.layout.Stretch.{Stretch}
use Rattle.tape_drawing.specs.declared.elements.Style.TheVariants as styles
use Rattle.tape_drawing.specs.Lengths.{margin, measure_width, right_edge, width_room, behind_right, behind_foot}
use Rattle.tape_drawing.specs.Shapes.{Shape, Words}
use Rattle.tape_drawing.specs.Layout.{edge, across}
use Rattle.tape_drawing.specs.Slugs.{stretch, look_in, box_shapes, blank_shapes, name_shapes, width_shapes, sort_shapes, item_shapes, item_width, laid, sorts_shapes, items_shapes, gap_shapes}
use Rattle.tape_drawing.specs.Lines.{band_in, fault_words, unset_shapes}
use Rattle.tape_drawing.specs.Laws.{box_span, Tiles, drawn_width, BoxesAddUp, FaultyAddUp}

-- the boxes among elements
abbrev pub spans : List Shape → List (ℕ × ℕ)
spans shapes = filter_map box_span shapes

tiles_append : (a b c : ℕ) (xs ys : List (ℕ × ℕ)) → Tiles a b xs → Tiles b c ys → Tiles a c (xs ++ ys)
tiles_append a b c [] ys p q = subst (λ n. Tiles n c ys) (sym p) q
tiles_append a b c (x ∷ xs) ys p q = (p.0, tiles_append (a + x.1) b c xs ys p.1 q)

pub edge_mono : (measure a b : ℕ) → 1 ≤ measure → a ≤ b → edge measure a ≤ edge measure b
edge_mono measure a b some le =
    let low = div-mul-le_self (a * measure_width) measure in
    let fits = le-div (a * measure_width / measure) (b * measure_width) measure (omega (arith, some)) (omega (arith, low, le)) in
    omega (arith, fits)

reaches : (measure from width : ℕ) → 1 ≤ measure → edge measure from + (edge measure (from + width) - edge measure from) ≡ edge measure (from + width)
reaches measure from width some = omega (arith, edge_mono measure from (from + width) some (omega arith))

no_box_in_name_case : (b : Bool) (x y : Shape) → box_span x ≡ None → box_span y ≡ None → spans (cond b (x ∷ []) (y ∷ [])) ≡ []
no_box_in_name_case true x y e f = rw e refl
no_box_in_name_case false x y e f = rw f refl

no_box_in_name : (s : Stretch) (rail : Rail) (name : List ℕ) → spans (name_shapes s rail name) ≡ []
no_box_in_name s rail name = no_box_in_name_case (leb 2 (length name)) _ _ refl refl

no_box_in_width_case : (b : Bool) (x : Shape) → box_span x ≡ None → spans (cond b [] (x ∷ [])) ≡ []
no_box_in_width_case true x e = refl
no_box_in_width_case false x e = rw e refl

no_box_in_width : (s : Stretch) → spans (width_shapes s) ≡ []
no_box_in_width s = no_box_in_width_case (ltb (across s) width_room) _ refl

box_tiles : (measure top from width : ℕ) (look : Look) (more : List Shape) → 1 ≤ measure → spans more ≡ []
    → Tiles (edge measure from) (edge measure (from + width)) (spans (box_shapes look (stretch measure top from width) ++ more))
box_tiles measure top from width look more some none =
    (refl, subst (λ ps. Tiles (edge measure from + (edge measure (from + width) - edge measure from)) (edge measure (from + width)) ps) (sym none) (reaches measure from width some))

-- each piece is a box of its width, and nothing else that is one
abbrev pub IsTiled : {A : Type 0} → (A → Stretch → List Shape) → (A → ℕ) → ℕ → ℕ → Type 0
IsTiled {A} shapes width measure top =
    (from : ℕ) (piece : A) → Tiles (edge measure from) (edge measure (from + width piece)) (spans (shapes piece (stretch measure top from (width piece))))

sort_tiles : (measure top : ℕ) → 1 ≤ measure → IsTiled sort_shapes sort_width measure top
sort_tiles measure top some from (sorts.Matrix name rail width) = box_tiles measure top from width (look_in (stretch measure top from width) looks.Matrix) (name_shapes (stretch measure top from width) rail name) some (no_box_in_name _ rail name)
sort_tiles measure top some from (sorts.Band width) = box_tiles measure top from width (look_in (stretch measure top from width) looks.Band) (width_shapes (stretch measure top from width)) some (no_box_in_width _)
sort_tiles measure top some from (sorts.Space width) = box_tiles measure top from width (look_in (stretch measure top from width) looks.Space) (width_shapes (stretch measure top from width)) some (no_box_in_width _)

item_tiles : (measure top band : ℕ) → 1 ≤ measure → IsTiled item_shapes (item_width band) measure top
item_tiles measure top band some from (items.Matrix name rail width) = box_tiles measure top from width (look_in (stretch measure top from width) looks.Matrix) (name_shapes (stretch measure top from width) rail name) some (no_box_in_name _ rail name)
item_tiles measure top band some from items.Band = box_tiles measure top from band (look_in (stretch measure top from band) looks.Band) (width_shapes (stretch measure top from band)) some (no_box_in_width _)
item_tiles measure top band some from (items.Space width) = box_tiles measure top from width (look_in (stretch measure top from width) looks.Space) (width_shapes (stretch measure top from width)) some (no_box_in_width _)

laid_tiles : {A : Type 0} (shapes : A → Stretch → List Shape) (width : A → ℕ) (measure top from : ℕ) (pieces : List A) → IsTiled shapes width measure top
    → Tiles (edge measure from) (edge measure (from + sum_by width pieces)) (spans (laid shapes width measure top from pieces))
laid_tiles shapes width measure top from [] tiled = ap (edge measure) (omega arith)
laid_tiles shapes width measure top from (piece ∷ rest) tiled =
    let next = from + width piece in
    let same : next + sum_by width rest ≡ from + sum_by width (piece ∷ rest) = omega (arith, sum_by-cons width piece rest) in
    rw (filter_map-append box_span (shapes piece (stretch measure top from (width piece))) (laid shapes width measure top next rest))
    (tiles_append (edge measure from) (edge measure next) (edge measure (from + sum_by width (piece ∷ rest))) _ _
    (tiled from piece) (rw same at (laid_tiles shapes width measure top next rest tiled)))

blank_case : (measure top from width : ℕ) (b : Bool) → (width == 0) ≡ b → 1 ≤ measure
    → Tiles (edge measure from) (edge measure (from + width)) (spans (cond b [] (box_shapes looks.Blank (stretch measure top from width))))
blank_case measure top from width true e some = ap (edge measure) (omega (arith, eqb-true width 0 e))
blank_case measure top from width false e some = (refl, reaches measure from width some)

blank_tiles : (measure top from width : ℕ) → 1 ≤ measure → Tiles (edge measure from) (edge measure (from + width)) (spans (blank_shapes (stretch measure top from width)))
blank_tiles measure top from width some = blank_case measure top from width (width == 0) refl some

at_left : (measure : ℕ) → edge measure 0 ≡ margin
at_left measure = ap (λ n. margin + n) (zero-div measure)

at_right : (measure : ℕ) → 1 ≤ measure → edge measure measure ≡ right_edge
at_right measure some = ap (λ n. margin + n) (mul-div_cancel_left measure_width (omega (arith, some)))

tiles_between : (a c b d : ℕ) (xs : List (ℕ × ℕ)) → a ≡ c → b ≡ d → Tiles a b xs → Tiles c d xs
tiles_between a c b d xs p q t = subst (λ n. Tiles c n xs) q (subst (λ n. Tiles n b xs) p t)

-- the boxes of a slug lie side by side over the whole measure
pub boxes_add_up : BoxesAddUp
boxes_add_up measure top slug some full =
    let before = slug.left in
    let behind = slug.left + sum_by sort_width slug.items in
    let whole : behind + slug.right ≡ measure = full in
    let ends : 0 + slug.left ≡ slug.left = omega arith in
    let first = blank_shapes (stretch measure top 0 slug.left) in
    let pieces = sorts_shapes measure top before slug.items in
    let last = blank_shapes (stretch measure top behind slug.right) in
    let left = tiles_between (edge measure 0) margin (edge measure (0 + slug.left)) (edge measure before) (spans first) (at_left measure) (ap (edge measure) ends) (blank_tiles measure top 0 slug.left some) in
    let right = tiles_between (edge measure behind) (edge measure behind) (edge measure (behind + slug.right)) right_edge (spans last) refl (ap (edge measure) whole ∙ at_right measure some) (blank_tiles measure top behind slug.right some) in
    let rest : Tiles (edge measure before) right_edge (spans pieces ++ spans last) = tiles_append (edge measure before) (edge measure behind) right_edge (spans pieces) (spans last) (laid_tiles sort_shapes sort_width measure top before slug.items (sort_tiles measure top some)) right in
    let apart : spans (first ++ (pieces ++ last)) ≡ spans first ++ (spans pieces ++ spans last) = filter_map-append box_span first (pieces ++ last) ∙ ap (λ ps. spans first ++ ps) (filter_map-append box_span pieces last) in
    subst (λ ps. Tiles margin right_edge ps) (sym apart) (tiles_append margin (edge measure before) right_edge (spans first) (spans pieces ++ spans last) left rest)

more_bands : (n band : ℕ) → (1 + n) * band ≡ band + n * band
more_bands n band = grind arith

none_more : (n band : ℕ) → (0 + n) * band ≡ n * band
none_more n band = grind arith

pub items_sum : (line : List Item) (band : ℕ) → sum_by (item_width band) line ≡ fixed_of line + bands_of line * band
items_sum [] band = grind arith
items_sum (items.Matrix name rail width ∷ rest) band =
    omega (arith, items_sum rest band, none_more (bands_of rest) band, sum_by-cons (item_width band) (items.Matrix name rail width) rest, sum_by-cons fixed_width (items.Matrix name rail width) rest)
items_sum (items.Band ∷ rest) band =
    let count : bands_of (items.Band ∷ rest) ≡ 1 + bands_of rest = sum_by-cons (λ item. cond (is_band item) 1 0) items.Band rest in
    let product : bands_of (items.Band ∷ rest) * band ≡ band + bands_of rest * band = ap (λ n. n * band) count ∙ more_bands (bands_of rest) band in
    omega (arith, items_sum rest band, product, sum_by-cons (item_width band) items.Band rest, sum_by-cons fixed_width items.Band rest)
items_sum (items.Space width ∷ rest) band =
    omega (arith, items_sum rest band, none_more (bands_of rest) band, sum_by-cons (item_width band) (items.Space width) rest, sum_by-cons fixed_width (items.Space width) rest)

no_box_in_gap_case : (b : Bool) (x : Shape) → box_span x ≡ None → spans (cond b [] (x ∷ [])) ≡ []
no_box_in_gap_case true x e = refl
no_box_in_gap_case false x e = rw e refl

some_tile : (widths : WidthFile) (top band all : ℕ) (fault : SetFault) (line : List Item) → 1 ≤ widths.measure → band_in widths fault.cause ≡ band → sum_by (item_width band) line ≡ all
    → Tiles margin (edge widths.measure all) (spans (unset_shapes widths top fault line))
some_tile widths top band all fault line some is e =
    let here = band_in widths fault.cause in
    let words : List Shape = Words styles.Behind behind_right (top + behind_foot) (fault_words fault) ∷ [] in
    let pieces = items_shapes widths.measure top here line in
    let gap = gap_shapes widths.measure top (sum_by (item_width here) line) in
    let no_gap : spans gap ≡ [] = no_box_in_gap_case (leb widths.measure (sum_by (item_width here) line)) _ refl in
    let filled : spans (pieces ++ gap) ≡ spans pieces = filter_map-append box_span pieces gap ∙ (ap (λ ps. spans pieces ++ ps) no_gap ∙ append-nil (spans pieces)) in
    let whole : spans ((pieces ++ gap) ++ words) ≡ spans pieces = filter_map-append box_span (pieces ++ gap) words ∙ (append-nil (spans (pieces ++ gap)) ∙ filled) in
    let reach : 0 + sum_by (item_width band) line ≡ all = omega (arith, e) in
    let tiled : Tiles margin (edge widths.measure all) (spans (items_shapes widths.measure top band line)) =
    tiles_between (edge widths.measure 0) margin (edge widths.measure (0 + sum_by (item_width band) line)) (edge widths.measure all) (spans (items_shapes widths.measure top band line)) (at_left widths.measure) (ap (edge widths.measure) reach)
    (laid_tiles item_shapes (item_width band) widths.measure top 0 line (item_tiles widths.measure top band some)) in
    let all_tiles : Tiles margin (edge widths.measure all) (spans pieces) = subst (λ b. Tiles margin (edge widths.measure all) (spans (items_shapes widths.measure top b line))) (sym is) tiled in
    subst (λ ps. Tiles margin (edge widths.measure all) ps) (sym whole) all_tiles

faulty_by : (widths : WidthFile) (top : ℕ) (fault : SetFault) (cause : Cause) (line : List Item) → fault.cause ≡ cause → 1 ≤ widths.measure
    → Tiles margin (edge widths.measure (drawn_width widths cause line)) (spans (unset_shapes widths top fault line))
faulty_by widths top fault causes.UnknownCode line is some = some_tile widths top widths.band_min (least_width widths line) fault line some (rw is refl) (items_sum line widths.band_min)
faulty_by widths top fault causes.NoWidth line is some = some_tile widths top widths.band_min (least_width widths line) fault line some (rw is refl) (items_sum line widths.band_min)
faulty_by widths top fault causes.Unfinished line is some = some_tile widths top widths.band_min (least_width widths line) fault line some (rw is refl) (items_sum line widths.band_min)
faulty_by widths top fault (causes.Overset over) line is some = some_tile widths top widths.band_min (least_width widths line) fault line some (rw is refl) (items_sum line widths.band_min)
faulty_by widths top fault (causes.Loose under) line is some = some_tile widths top widths.band_max (greatest_width widths line) fault line some (rw is refl) (items_sum line widths.band_max)

-- the boxes of a line that does not set lie side by side over its least or its greatest width
pub faulty_add_up : FaultyAddUp
faulty_add_up widths top fault line some = faulty_by widths top fault fault.cause line refl some
