-- Where the lines of a tape begin.
use Rattle.std.proofs.Common.{◌≡◌, ℕ, zero, suc, ◌+◌, ◌-◌, ◌<◌, ◌≤◌, Bool, true, false, cond, List, [], ◌∷◌, ◌++◌, length, Option, Some, None, take, get_or, refl, sym, subst, ap, ◌∙◌, arith, append_assoc}
use Rattle.std.specs.Prelude.{filter}
use Rattle.std.proofs.Math.Nat.{div-mul-le_self}
use Rattle.std.proofs.lemmas.List.{take_more, append-nil}
use Rattle.std.proofs.lemmas.List.Elements.{filter-append}
use Rattle.widths.specs.Widths.{WidthFile}
use Rattle.slug_reader.specs.declared.line.Line.{Line}
use Rattle.slug_reader.specs.Positions.{before}
use Rattle.slug_reader.specs.Meanings.{Meanings}
use Rattle.slug_reader.specs.Lines.{is_cut, cuts, line_of}
use Rattle.line_check.specs.Laws.{AddsUp}
use Rattle.line_fit.specs.declared.verdict.Verdict.{Verdict}
use Rattle.line_fit.specs.declared.verdict.Verdict.TheVariants.{Nothing, Faulty, Sets}
use Rattle.line_fit.specs.declared.verdict.LineFit.{LineFit}
use Rattle.line_fit.specs.Fitting.{IsVerdict, AreFits}
use Rattle.tape_drawing.specs.declared.layout.Spot.{Spot}
use Rattle.tape_drawing.specs.declared.page.DrawingForm.{DrawingForm}
use Rattle.tape_drawing.specs.Shapes.{Shape, text_of}
use Rattle.tape_drawing.specs.Lines.{line_shapes, lines_shapes}
use Rattle.tape_drawing.proofs.Sequences.{text_append}
use Rattle.tape_drawing.specs.Layout.{next, after, first_spot, slugs_in, faults_in, height_below, IsWithin, IsFilled, AreLines}

-- positions, each behind the one before it and before an end
abbrev pub Ascend : ℕ → ℕ → List ℕ → Type 0
Ascend end from [] = Unit {0}
Ascend end from (cut ∷ cuts) = (from ≤ cut) × (cut < end) × Ascend end (cut + 1) cuts

ascend_more : (end from : ℕ) (cs : List ℕ) → Ascend end from cs → from ≤ end → Ascend (suc end) from (cs ++ end ∷ [])
ascend_more end from [] a le = (le, omega arith, tt)
ascend_more end from (c ∷ cs) a le = (a.0, omega (arith, a.1), ascend_more end (c + 1) cs a.2 (omega (arith, a.1)))

ascend_same : (end from : ℕ) (cs : List ℕ) → Ascend end from cs → Ascend (suc end) from cs
ascend_same end from [] a = tt
ascend_same end from (c ∷ cs) a = (a.0, omega (arith, a.1), ascend_same end (c + 1) cs a.2)

ascend_case : (end : ℕ) (cs : List ℕ) (b : Bool) → Ascend end 0 cs → Ascend (suc end) 0 (cs ++ cond b (end ∷ []) [])
ascend_case end cs true a = ascend_more end 0 cs a (omega arith)
ascend_case end cs false a = rw (append-nil cs) (ascend_same end 0 cs a)

filtered : (p : ℕ → Bool) (n : ℕ) → Ascend n 0 (filter p (before n))
filtered p zero = tt
filtered p (suc n) = rw (filter-append p (before n) (n ∷ [])) (ascend_case n (filter p (before n)) (p n) (filtered p n))

is_filled : AddsUp → (means : Meanings) (widths : WidthFile) (tape : List ℕ) (cut : ℕ) (v : Verdict) → IsVerdict means widths tape cut v → IsFilled widths.measure v
is_filled law means widths tape cut (Faulty fault) is = tt
is_filled law means widths tape cut Nothing is = tt
is_filled law means widths tape cut (Sets slug) is = law widths (line_of means widths tape cut) slug is.1

are_placed : AddsUp → (means : Meanings) (widths : WidthFile) (tape : List ℕ) (end from : ℕ) (cs : List ℕ) (fits : List LineFit)
    → Ascend end from cs → AreFits means widths tape cs fits → AreLines widths.measure end from fits
are_placed law means widths tape end from [] [] a fs = tt
are_placed law means widths tape end from [] (f ∷ fits) a fs = absurd fs
are_placed law means widths tape end from (c ∷ cs) [] a fs = absurd fs
are_placed law means widths tape end from (c ∷ cs) (f ∷ fits) a fs =
    let place = fs.0.place in (
      (omega (arith, a.0, place), omega (arith, a.1, place), is_filled law means widths tape c f.verdict fs.0.verdict),
      subst (λ n. AreLines widths.measure end (n + 1) fits) (sym place) (are_placed law means widths tape end (c + 1) cs fits a.2 fs.1),
    )

-- the lines of a tape that fit so stand one after the other
pub are_lines : AddsUp → (means : Meanings) (widths : WidthFile) (tape : List ℕ) (fits : List LineFit) → AreFits means widths tape (cuts means tape) fits → AreLines widths.measure (length tape) 0 fits
are_lines law means widths tape fits fs = are_placed law means widths tape (length tape) 0 (cuts means tape) fits (filtered (is_cut means tape) (length tape)) fs

low_below : (v : Verdict) (line : Option Line) → height_below v line ≤ 64
low_below (Sets slug) line = omega arith
low_below Nothing line = omega arith
low_below (Faulty fault) None = omega arith
low_below (Faulty fault) (Some line) = omega arith

one_slug : (v : Verdict) → slugs_in v ≤ 1
one_slug (Sets slug) = omega arith
one_slug Nothing = omega arith
one_slug (Faulty fault) = omega arith

one_fault : (v : Verdict) → faults_in v ≤ 1
one_fault (Sets slug) = omega arith
one_fault Nothing = omega arith
one_fault (Faulty fault) = omega arith

-- where the next line begins
pub next_within : (end : ℕ) (spot : Spot) (fit : LineFit) → IsWithin end spot → spot.from ≤ fit.cut_at → fit.cut_at < end → IsWithin end (next spot fit)
next_within end spot fit w le lt =
    let rows = div-mul-le_self (fit.cut_at + 1 - spot.from + 39) 40 in
    record {
      from = omega (arith, lt);
      some_lines = omega (arith, w.some_lines);
      some_slugs = omega (arith, w.some_slugs);
      number = omega (arith, w.number, le);
      slug = omega (arith, w.slug, le, one_slug fit.verdict);
      faults = omega (arith, w.faults, le, one_fault fit.verdict);
      top = omega (arith, w.top, le, rows, low_below fit.verdict fit.line);
    }

pub first_within : (end : ℕ) → IsWithin end first_spot
first_within end = record { from = omega arith; some_lines = omega arith; some_slugs = omega arith; number = omega arith; slug = omega arith; faults = omega arith; top = omega arith }

-- what is known of a line where it is come to
pub record IsAt (measure end : ℕ) (spot : Spot) (fit : LineFit) : Type 0 where
  pub within : IsWithin end spot
  pub from : spot.from ≤ fit.cut_at
  pub cut : fit.cut_at < end
  pub filled : IsFilled measure fit.verdict

pub spot_at : (measure end : ℕ) (spot : Spot) (fits : List LineFit) (i : ℕ) (d fit : LineFit) → AreLines measure end spot.from fits → IsWithin end spot → i < length fits → fit ≡ get_or fits i d
    → IsAt measure end (after spot (take i fits)) fit
spot_at measure end spot [] i d fit are w lt is = absurd (omega (arith, lt))
spot_at measure end spot (f ∷ fits) zero d fit are w lt is =
    subst (λ (x : LineFit). IsAt measure end spot x) (sym is) (record { within = w; from = are.0.0; cut = are.0.1; filled = are.0.2 })
spot_at measure end spot (f ∷ fits) (suc i) d fit are w lt is =
    spot_at measure end (next spot f) fits i d fit are.1 (next_within end spot f w are.0.0 are.0.1) (omega (arith, lt)) is

-- behind all lines
pub within_after : (measure end : ℕ) (spot : Spot) (fits : List LineFit) → AreLines measure end spot.from fits → IsWithin end spot → IsWithin end (after spot fits)
within_after measure end spot [] are w = w
within_after measure end spot (f ∷ fits) are w = within_after measure end (next spot f) fits are.1 (next_within end spot f w are.0.0 are.0.1)

after_append : (spot : Spot) (xs ys : List LineFit) → after spot (xs ++ ys) ≡ after (after spot xs) ys
after_append spot [] ys = refl
after_append spot (x ∷ xs) ys = after_append (next spot x) xs ys

-- one line more
pub after_more : (spot : Spot) (fits : List LineFit) (i : ℕ) (d fit : LineFit) → i < length fits → fit ≡ get_or fits i d → after spot (take (i + 1) fits) ≡ next (after spot (take i fits)) fit
after_more spot fits i d fit lt is = rw (take_more fits i d lt, ← is) (after_append spot (take i fits) (fit ∷ []))

lines_append : (page : DrawingForm) (means : Meanings) (widths : WidthFile) (tape : List ℕ) (spot : Spot) (xs ys : List LineFit)
    → lines_shapes page means widths tape spot (xs ++ ys) ≡ lines_shapes page means widths tape spot xs ++ lines_shapes page means widths tape (after spot xs) ys
lines_append page means widths tape spot [] ys = refl
lines_append page means widths tape spot (x ∷ xs) ys =
    ap (λ (zs : List Shape). line_shapes page means widths tape spot x ++ zs) (lines_append page means widths tape (next spot x) xs ys)
    ∙ sym (append_assoc (line_shapes page means widths tape spot x) (lines_shapes page means widths tape (next spot x) xs) (lines_shapes page means widths tape (after spot (x ∷ xs)) ys))

-- what is drawn of one line more
pub lines_more : (page : DrawingForm) (means : Meanings) (widths : WidthFile) (tape : List ℕ) (spot : Spot) (fits : List LineFit) (i : ℕ) (d fit : LineFit) → i < length fits → fit ≡ get_or fits i d
    → text_of (lines_shapes page means widths tape spot (take (i + 1) fits))
    ≡ text_of (lines_shapes page means widths tape spot (take i fits)) ++ text_of (line_shapes page means widths tape (after spot (take i fits)) fit)
lines_more page means widths tape spot fits i d fit lt is =
    rw (take_more fits i d lt, ← is, lines_append page means widths tape spot (take i fits) (fit ∷ []), append-nil (line_shapes page means widths tape (after spot (take i fits)) fit))
    (text_append (lines_shapes page means widths tape spot (take i fits)) (line_shapes page means widths tape (after spot (take i fits)) fit))

-- behind the first so many lines
pub within_take : (measure end : ℕ) (spot : Spot) (fits : List LineFit) (i : ℕ) → AreLines measure end spot.from fits → IsWithin end spot → IsWithin end (after spot (take i fits))
within_take measure end spot fits zero are w = w
within_take measure end spot [] (suc i) are w = w
within_take measure end spot (f ∷ fits) (suc i) are w = within_take measure end (next spot f) fits i are.1 (next_within end spot f w are.0.0 are.0.1)
