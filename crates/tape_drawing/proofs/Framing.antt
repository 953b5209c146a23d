-- Each frame is drawn once, in its order.
use Rattle.std.proofs.Common.{◌≡◌, ℕ, zero, suc, ◌+◌, ◌-◌, ◌≤◌, leb, ltb, Bool, true, false, cond, List, [], ◌∷◌, ◌++◌, length, Option, Some, None, map, refl, sym, ap, ◌∙◌, arith, append_assoc, inl, inr}
use Rattle.std.specs.Prelude.{filter_map, flat_map, ◌==◌, sum_by}
use Rattle.std.proofs.lemmas.Bool.{cases_lt, lt-ltb}
use Rattle.std.proofs.lemmas.Grind.{flat_map-append}
use Rattle.std.proofs.lemmas.List.{append-nil, map-append}
use Rattle.std.proofs.lemmas.List.Elements.{filter_map-append}
use Rattle.widths.specs.Widths.{WidthFile}
use Rattle.slug_reader.specs.declared.line.Line.{Line}
use Rattle.slug_reader.specs.declared.item.Rail.{Rail}
use Rattle.slug_reader.specs.declared.item.Item.{Item}
use Rattle.slug_reader.specs.declared.item.Item.TheVariants as items
use Rattle.slug_reader.specs.Positions.{before}
use Rattle.slug_reader.specs.Meanings.{Meanings, frame_at, meaning_at}
use Rattle.line_check.specs.Laws.{AddsUp}
use Rattle.line_check.specs.declared.fault.SetFault.{SetFault}
use Rattle.line_check.specs.declared.sort.Sort.{Sort}
use Rattle.line_check.specs.declared.sort.Sort.TheVariants as sorts
use Rattle.line_check.specs.declared.slug.Slug.{Slug}
use Rattle.line_check.specs.Slugs.{sort_width}
use Rattle.line_fit.specs.declared.verdict.Verdict.{Verdict}
use Rattle.line_fit.specs.declared.verdict.Verdict.TheVariants.{Nothing, Faulty, Sets}
use Rattle.line_fit.specs.declared.verdict.LineFit.{LineFit}
use Rattle.line_fit.specs.Fitting.{fault_in}
use Rattle.tape_drawing.specs.declared.elements.Look.{Look}
use Rattle.tape_drawing.specs.declared.layout.Spot.{Spot}
use Rattle.tape_drawing.specs.declared.layout.Stretch.{Stretch}
use Rattle.tape_drawing.specs.declared.page.DrawingForm.{DrawingForm}
use Rattle.tape_drawing.specs.Lengths.{frame_middle, width_room}
use Rattle.tape_drawing.specs.Shapes.{Shape, Frame}
use Rattle.tape_drawing.specs.Layout.{corner, next, after, first_spot, frames_in, AreLines}
use Rattle.tape_drawing.specs.Frames.{paper_shapes, position_shapes, frame_shapes, strip_shapes}
use Rattle.tape_drawing.specs.Slugs.{stretch, laid, item_width, box_shapes, blank_shapes, name_shapes, width_shapes, sort_shapes, item_shapes, sorts_shapes, items_shapes, pieces_shapes, gap_shapes}
use Rattle.tape_drawing.specs.Lines.{band_in, mark_shapes, unset_shapes, foot_shapes, taped_shapes, line_shapes, lines_shapes, rest_words, rest_shapes}
use Rattle.tape_drawing.specs.Laws.{Drawn, drawn_at, frame_drawn, FramesInOrder}
use Rattle.tape_drawing.proofs.Placing.{are_lines, first_within, within_after}

-- the frames among elements
abbrev pub framed : List Shape → List Drawn
framed shapes = filter_map frame_drawn shapes

-- none of these is a frame
abbrev pub NoFrame : List Shape → Type 0
NoFrame shapes = framed shapes ≡ []

both : (a b : List Shape) → NoFrame a → NoFrame b → NoFrame (a ++ b)
both a b p q = filter_map-append frame_drawn a b ∙ rw (p, q) refl

given : (b : Bool) (x : Shape) → frame_drawn x ≡ None → NoFrame (cond b (x ∷ []) [])
given true x e = rw e refl
given false x e = refl

but : (b : Bool) (x : Shape) → frame_drawn x ≡ None → NoFrame (cond b [] (x ∷ []))
but true x e = refl
but false x e = rw e refl

either : (b : Bool) (x y : Shape) → frame_drawn x ≡ None → frame_drawn y ≡ None → NoFrame (cond b (x ∷ []) (y ∷ []))
either true x y e f = rw e refl
either false x y e f = rw f refl

name_none : (s : Stretch) (rail : Rail) (name : List ℕ) → NoFrame (name_shapes s rail name)
name_none s rail name = either (leb 2 (length name)) _ _ refl refl

width_none : (s : Stretch) → NoFrame (width_shapes s)
width_none s = but (ltb _ width_room) _ refl

sort_none : (sort : Sort) (s : Stretch) → NoFrame (sort_shapes sort s)
sort_none (sorts.Matrix name rail width) s = name_none s rail name
sort_none (sorts.Band width) s = width_none s
sort_none (sorts.Space width) s = width_none s

item_none : (item : Item) (s : Stretch) → NoFrame (item_shapes item s)
item_none (items.Matrix name rail width) s = name_none s rail name
item_none items.Band s = width_none s
item_none (items.Space width) s = width_none s

laid_none : {A : Type 0} (shapes : A → Stretch → List Shape) (width : A → ℕ) (measure top from : ℕ) (pieces : List A) → ((x : A) (s : Stretch) → NoFrame (shapes x s)) → NoFrame (laid shapes width measure top from pieces)
laid_none shapes width measure top from [] none = refl
laid_none shapes width measure top from (x ∷ xs) none =
    both (shapes x (stretch measure top from (width x))) (laid shapes width measure top (from + width x) xs) (none x _) (laid_none shapes width measure top (from + width x) xs none)

blank_none_case : (b : Bool) (look : Look) (s : Stretch) → NoFrame (cond b [] (box_shapes look s))
blank_none_case true look s = refl
blank_none_case false look s = refl

blank_none : (s : Stretch) → NoFrame (blank_shapes s)
blank_none s = blank_none_case (s.width == 0) _ s

pieces_none : (measure top : ℕ) (slug : Slug) → NoFrame (pieces_shapes measure top slug)
pieces_none measure top slug =
    both (blank_shapes (stretch measure top 0 slug.left)) (sorts_shapes measure top slug.left slug.items ++ blank_shapes (stretch measure top (slug.left + sum_by sort_width slug.items) slug.right)) (blank_none (stretch measure top 0 slug.left))
    (both (sorts_shapes measure top slug.left slug.items) (blank_shapes (stretch measure top (slug.left + sum_by sort_width slug.items) slug.right)) (laid_none sort_shapes sort_width measure top slug.left slug.items sort_none) (blank_none (stretch measure top (slug.left + sum_by sort_width slug.items) slug.right)))

unset_none : (widths : WidthFile) (top : ℕ) (fault : SetFault) (line : List Item) → NoFrame (unset_shapes widths top fault line)
unset_none widths top fault line =
    let band = band_in widths fault.cause in
    let pieces = items_shapes widths.measure top band line in
    let gap = gap_shapes widths.measure top (sum_by (item_width band) line) in
    let filled : NoFrame (pieces ++ gap) = both pieces gap (laid_none item_shapes (item_width band) widths.measure top 0 line item_none) (but (leb widths.measure (sum_by (item_width band) line)) _ refl) in
    both (pieces ++ gap) _ filled refl

foot_none : (widths : WidthFile) (number top : ℕ) (v : Verdict) (line : Option Line) → NoFrame (foot_shapes widths number top v line)
foot_none widths number top (Sets slug) line = pieces_none widths.measure top slug
foot_none widths number top Nothing line = refl
foot_none widths number top (Faulty fault) None = refl
foot_none widths number top (Faulty fault) (Some line) = unset_none widths top fault line.items

mark_none : (from top : ℕ) (fault : Option SetFault) → NoFrame (mark_shapes from top fault)
mark_none from top None = refl
mark_none from top (Some fault) = refl

-- the frames of so many positions
abbrev pub stood : Meanings → List ℕ → ℕ → ℕ → List Drawn
stood means tape from n = map (λ k. drawn_at means tape (from + k)) (before n)

stood_more : (means : Meanings) (tape : List ℕ) (from n : ℕ) → stood means tape from (suc n) ≡ stood means tape from n ++ drawn_at means tape (from + n) ∷ []
stood_more means tape from n = map-append (λ k. drawn_at means tape (from + k)) (before n) (n ∷ [])

stood_append : (means : Meanings) (tape : List ℕ) (m n : ℕ) → stood means tape 0 m ++ stood means tape m n ≡ stood means tape 0 (m + n)
stood_append means tape m zero =
    let same : m ≡ m + 0 = omega arith in
    append-nil (stood means tape 0 m) ∙ ap (λ j. stood means tape 0 j) same
stood_append means tape m (suc n) =
    let last : List Drawn = drawn_at means tape (m + n) ∷ [] in
    let here : m + n ≡ 0 + (m + n) = omega arith in
    let whole : suc (m + n) ≡ m + suc n = omega arith in
    ap (λ ds. stood means tape 0 m ++ ds) (stood_more means tape m n)
    ∙ sym (append_assoc (stood means tape 0 m) (stood means tape m n) last)
    ∙ ap (λ ds. ds ++ last) (stood_append means tape m n)
    ∙ ap (λ j. stood means tape 0 (m + n) ++ drawn_at means tape j ∷ []) here
    ∙ sym (stood_more means tape 0 (m + n))
    ∙ ap (λ j. stood means tape 0 j) whole

stood_all : (means : Meanings) (tape : List ℕ) (n : ℕ) → stood means tape 0 n ≡ map (drawn_at means tape) (before n)
stood_all means tape zero = refl
stood_all means tape (suc n) =
    let here : 0 + n ≡ n = omega arith in
    stood_more means tape 0 n ∙ ap (λ ds. ds ++ drawn_at means tape (0 + n) ∷ []) (stood_all means tape n)
    ∙ ap (λ j. map (drawn_at means tape) (before n) ++ drawn_at means tape j ∷ []) here
    ∙ sym (map-append (drawn_at means tape) (before n) (n ∷ []))

one_frame : (means : Meanings) (tape : List ℕ) (from frames top k : ℕ) → framed (frame_shapes means tape from frames top k) ≡ drawn_at means tape (from + k) ∷ []
one_frame means tape from frames top k =
    let at = corner top k in
    let paper = paper_shapes k frames at in
    let position = position_shapes (from + k) at in
    let frame : List Shape = Frame (at.x + frame_middle) at.y (from + k) (frame_at tape (from + k)) (meaning_at means tape (from + k)) ∷ [] in
    filter_map-append frame_drawn (paper ++ position) frame
    ∙ ap (λ ds. ds ++ framed frame) (both paper position (given _ _ refl) (given _ _ refl))

strip_framed : (means : Meanings) (tape : List ℕ) (from frames top n : ℕ) → framed (flat_map (frame_shapes means tape from frames top) (before n)) ≡ stood means tape from n
strip_framed means tape from frames top zero = refl
strip_framed means tape from frames top (suc n) =
    let f = frame_shapes means tape from frames top in
    ap framed (flat_map-append f (before n) (n ∷ []) ∙ ap (λ xs. flat_map f (before n) ++ xs) (append-nil (f n)))
    ∙ filter_map-append frame_drawn (flat_map f (before n)) (f n)
    ∙ ap (λ ds. ds ++ framed (f n)) (strip_framed means tape from frames top n)
    ∙ ap (λ ds. stood means tape from n ++ ds) (one_frame means tape from frames top n)
    ∙ sym (stood_more means tape from n)

taped_framed : (means : Meanings) (tape : List ℕ) (spot : Spot) (frames : ℕ) (fault : Option SetFault) → framed (taped_shapes means tape spot frames fault) ≡ stood means tape spot.from frames
taped_framed means tape spot frames fault =
    filter_map-append frame_drawn (strip_shapes means tape spot.from frames spot.top) (mark_shapes spot.from spot.top fault)
    ∙ ap (λ ds. framed (strip_shapes means tape spot.from frames spot.top) ++ ds) (mark_none spot.from spot.top fault)
    ∙ append-nil (framed (strip_shapes means tape spot.from frames spot.top))
    ∙ strip_framed means tape spot.from frames spot.top frames

line_framed : (page : DrawingForm) (means : Meanings) (widths : WidthFile) (tape : List ℕ) (spot : Spot) (fit : LineFit)
    → framed (line_shapes page means widths tape spot fit) ≡ stood means tape spot.from (frames_in spot.from fit)
line_framed page means widths tape spot fit =
    let taped = taped_shapes means tape spot (frames_in spot.from fit) (fault_in fit.verdict) in
    filter_map-append frame_drawn taped _
    ∙ ap (λ ds. framed taped ++ ds) (both (foot_shapes widths spot.slug _ fit.verdict fit.line) _ (foot_none widths spot.slug _ fit.verdict fit.line) refl)
    ∙ append-nil (framed taped)
    ∙ taped_framed means tape spot (frames_in spot.from fit) (fault_in fit.verdict)

lines_framed : (page : DrawingForm) (means : Meanings) (widths : WidthFile) (tape : List ℕ) (end : ℕ) (spot : Spot) (fits : List LineFit) → AreLines widths.measure end spot.from fits
    → stood means tape 0 spot.from ++ framed (lines_shapes page means widths tape spot fits) ≡ stood means tape 0 (after spot fits).from
lines_framed page means widths tape end spot [] are = append-nil (stood means tape 0 spot.from)
lines_framed page means widths tape end spot (fit ∷ fits) are =
    let line = line_shapes page means widths tape spot fit in
    let rest = lines_shapes page means widths tape (next spot fit) fits in
    let n = frames_in spot.from fit in
    let reach : spot.from + n ≡ fit.cut_at + 1 = omega (arith, are.0.0) in
    ap (λ ds. stood means tape 0 spot.from ++ ds) (filter_map-append frame_drawn line rest ∙ ap (λ ds. ds ++ framed rest) (line_framed page means widths tape spot fit))
    ∙ sym (append_assoc (stood means tape 0 spot.from) (stood means tape spot.from n) (framed rest))
    ∙ ap (λ ds. ds ++ framed rest) (stood_append means tape spot.from n ∙ ap (λ j. stood means tape 0 j) reach)
    ∙ lines_framed page means widths tape end (next spot fit) fits are.1

words_none : (top : ℕ) (fault : Option SetFault) → frame_drawn (rest_words top fault) ≡ None
words_none top None = refl
words_none top (Some fault) = refl

rest_case : (page : DrawingForm) (means : Meanings) (tape : List ℕ) (spot : Spot) (fault : Option SetFault) (b : Bool) → ltb spot.from (length tape) ≡ b → spot.from ≤ length tape
    → stood means tape 0 spot.from ++ framed (rest_shapes page means tape spot fault) ≡ stood means tape 0 (length tape)
rest_case page means tape spot fault true is le =
    let n = length tape - spot.from in
    let taped = taped_shapes means tape spot n fault in
    let reach : spot.from + n ≡ length tape = omega (arith, le) in
    rw is
    (ap (λ ds. stood means tape 0 spot.from ++ ds)
    (filter_map-append frame_drawn taped _
    ∙ ap (λ ds. framed taped ++ ds) (rw (words_none _ fault) refl)
    ∙ append-nil (framed taped) ∙ taped_framed means tape spot n fault)
    ∙ stood_append means tape spot.from n ∙ ap (λ j. stood means tape 0 j) reach)
rest_case page means tape spot fault false is le =
    let reach : spot.from ≡ length tape = elim (cases_lt spot.from (length tape)) [ inl less ↦ absurd (let h : true ≡ false = sym (lt-ltb spot.from (length tape) less) ∙ is in cc) | inr more ↦ omega (arith, le, more) ] in
    rw is (append-nil (stood means tape 0 spot.from) ∙ ap (λ j. stood means tape 0 j) reach)

-- with the law by which each slug fills its measure
pub in_order : AddsUp → FramesInOrder
in_order law page means widths tape fitting fits =
    let are = are_lines law means widths tape fitting.lines.items fits.lines in
    let end = after first_spot fitting.lines.items in
    let lines = lines_shapes page means widths tape first_spot fitting.lines.items in
    let rest = rest_shapes page means tape end fitting.rest in
    let within = within_after widths.measure (length tape) first_spot fitting.lines.items are (first_within (length tape)) in
    filter_map-append frame_drawn lines rest
    ∙ ap (λ ds. ds ++ framed rest) (lines_framed page means widths tape (length tape) first_spot fitting.lines.items are)
    ∙ rest_case page means tape end fitting.rest (ltb end.from (length tape)) refl within.from
    ∙ stood_all means tape (length tape)
