-- The first fault of a tape: that of the first line that does not fit, or of the first frame that cannot be read.
use Rattle.std.proofs.Common.{◌≡◌, ℕ, zero, suc, ◌+◌, ◌<◌, ◌≤◌, Bool, true, false, cond, List, [], ◌∷◌, ◌++◌, length, map, take, drop, get_or, Option, Some, None, refl, sym, ◌∙◌, ap, arith, inl, inr, add-one, append_assoc}
use Rattle.std.specs.Prelude.{filter, option_map}
use Rattle.std.proofs.lemmas.Bool.{cases_lt}
use Rattle.std.proofs.lemmas.List.{map-append, take_more}
use Rattle.std.proofs.Math.Seq.{drop-cons}
use Rattle.std.proofs.lemmas.List.Elements.{filter-append}
use Rattle.widths.specs.Widths.{WidthFile}
use Rattle.slug_reader.specs.declared.fault.Flaw.{Flaw}
use Rattle.slug_reader.specs.declared.line.Line.{Line}
use Rattle.slug_reader.specs.Positions.{before, or_else, first}
use Rattle.slug_reader.specs.Meanings.{Meanings}
use Rattle.slug_reader.specs.Lines.{is_cast, line_of, lines_before}
use Rattle.slug_reader.specs.Faults.{flaw_at}
use Rattle.line_check.specs.declared.slug.Slug.{Slug}
use Rattle.line_check.specs.declared.fault.Cause.{Cause}
use Rattle.line_check.specs.declared.fault.SetFault.{SetFault}
use Rattle.line_check.specs.Slugs.{misfit, AreSlugs, IsSlug}
use Rattle.line_check.specs.Sets.{cause_of, fault_at, set_fault_at, first_fault_before, first_fault, end_fault}
use Rattle.line_check.specs.Spreading.{misfit_among}

or_else_none : {A : Type 0} (x : Option A) → or_else x None ≡ x
or_else_none None = refl
or_else_none (Some x) = refl

or_else_assoc : {A : Type 0} (x y z : Option A) → or_else (or_else x y) z ≡ or_else x (or_else y z)
or_else_assoc None y z = refl
or_else_assoc (Some x) y z = refl

-- where there is no answer there is none in either part
pub neither : {A : Type 0} (x y : Option A) → or_else x y ≡ None → (x ≡ None) × (y ≡ None)
neither None y e = (refl, e)
neither (Some x) y e = absurd cc

first_push : {A B : Type 0} (f : A → Option B) (xs : List A) (x : A) → first f (xs ++ x ∷ []) ≡ or_else (first f xs) (f x)
first_push f [] x = or_else_none (f x)
first_push f (y ∷ xs) x = ap (or_else (f y)) (first_push f xs x) ∙ sym (or_else_assoc (f y) (first f xs) (f x))

-- an answer behind positions that have none is the first, however far one looks
first_at : {B : Type 0} (f : ℕ → Option B) (i n : ℕ) (x : B) → first f (before i) ≡ None → f i ≡ Some x → i < n → first f (before n) ≡ Some x
first_at f i zero x none some lt = absurd (omega (arith, lt))
first_at f i (suc n) x none some lt =
    first_push f (before n) n ∙
    elim (cases_lt i n) [
      | inl less ↦ ap (λ o. or_else o (f n)) (first_at f i n x none some less)
      | inr more ↦ let same : n ≡ i = omega arith in rw (same, none, some) refl
    ]

-- an answer that is found stays the first, however far one looks
first_stays : {B : Type 0} (f : ℕ → Option B) (i n : ℕ) (x : B) → first f (before i) ≡ Some x → i ≤ n → first f (before n) ≡ Some x
first_stays f i zero x some le = let same : i ≡ 0 = omega (arith, le) in rw same at some
first_stays f i (suc n) x some le =
    elim (cases_lt n i) [
      | inl more ↦ let same : i ≡ suc n = omega arith in rw same at some
      | inr less ↦ first_push f (before n) n ∙ ap (λ o. or_else o (f n)) (first_stays f i n x some less)
    ]

abbrev pub found_fault : Meanings → List ℕ → ℕ × Cause → SetFault
found_fault means tape m = fault_at means tape m.0 m.1

-- the first line among these that does not fit, as a fault of the tape
abbrev pub misfit_fault : Meanings → List ℕ → Option (ℕ × Cause) → Option SetFault
misfit_fault means tape found = option_map (found_fault means tape) found

pub misfit_append : (widths : WidthFile) (xs ys : List Line) → misfit_among widths (xs ++ ys) ≡ or_else (misfit_among widths xs) (misfit_among widths ys)
misfit_append widths [] ys = refl
misfit_append widths (x ∷ xs) ys =
    ap (or_else (option_map (λ cause. (x.elevate_at, cause)) (misfit widths x))) (misfit_append widths xs ys)
    ∙ sym (or_else_assoc (option_map (λ cause. (x.elevate_at, cause)) (misfit widths x)) (misfit_among widths xs) (misfit_among widths ys))

mapped_else : {A B : Type 0} (f : A → B) (x y : Option A) → option_map f (or_else x y) ≡ or_else (option_map f x) (option_map f y)
mapped_else f None y = refl
mapped_else f (Some x) y = refl

pub mapped_none : {A B : Type 0} (f : A → B) (x : Option A) → option_map f x ≡ None → x ≡ None
mapped_none f None e = refl
mapped_none f (Some x) e = absurd cc

lines_more : (means : Meanings) (widths : WidthFile) (tape : List ℕ) (i : ℕ)
    → lines_before means widths tape (suc i) ≡ lines_before means widths tape i ++ map (line_of means widths tape) (filter (is_cast means widths tape) (i ∷ []))
unfolding lines_before
lines_more means widths tape i =
    rw (filter-append (is_cast means widths tape) (before i) (i ∷ []))
    (map-append (line_of means widths tape) (filter (is_cast means widths tape) (before i)) (filter (is_cast means widths tape) (i ∷ [])))

two_maps : (means : Meanings) (tape : List ℕ) (i : ℕ) (o : Option Cause)
    → option_map (fault_at means tape i) o ≡ misfit_fault means tape (or_else (option_map (λ cause. (i, cause)) o) None)
two_maps means tape i None = refl
two_maps means tape i (Some cause) = refl

-- at a position that can be read
one_misfit : (means : Meanings) (widths : WidthFile) (tape : List ℕ) (i : ℕ) (b : Bool)
    → option_map (fault_at means tape i) (cond b (misfit widths (line_of means widths tape i)) None)
    ≡ misfit_fault means tape (misfit_among widths (map (line_of means widths tape) (cond b (i ∷ []) [])))
one_misfit means widths tape i true = two_maps means tape i (misfit widths (line_of means widths tape i))
one_misfit means widths tape i false = refl

-- before the first answer there is none
pub none_before : {B : Type 0} (f : ℕ → Option B) (i : ℕ) → first f (before i) ≡ None → (j : ℕ) → j < i → f j ≡ None
none_before f zero none j lt = absurd (omega (arith, lt))
none_before f (suc i) none j lt =
    let both = neither (first f (before i)) (f i) (sym (first_push f (before i) i) ∙ none) in
    elim (cases_lt j i) [
      | inl less ↦ none_before f i both.0 j less
      | inr more ↦ let same : j ≡ i = omega arith in rw same both.1
    ]

-- each frame before a position can be read
abbrev pub AreRead : Meanings → WidthFile → List ℕ → ℕ → Type 0
AreRead means widths tape i = (j : ℕ) → j < i → flaw_at means widths tape j ≡ None

fault_read : (means : Meanings) (widths : WidthFile) (tape : List ℕ) (i : ℕ) → flaw_at means widths tape i ≡ None
    → set_fault_at means widths tape i ≡ misfit_fault means tape (misfit_among widths (map (line_of means widths tape) (filter (is_cast means widths tape) (i ∷ []))))
unfolding set_fault_at
fault_read means widths tape i none =
    rw none (one_misfit means widths tape i (is_cast means widths tape i))

-- before the first frame that cannot be read only lines are faulty
pub faults_before : (means : Meanings) (widths : WidthFile) (tape : List ℕ) (i : ℕ) → AreRead means widths tape i
    → first (set_fault_at means widths tape) (before i) ≡ misfit_fault means tape (misfit_among widths (lines_before means widths tape i))
unfolding lines_before
faults_before means widths tape zero read = refl
faults_before means widths tape (suc i) read =
    let here = fault_read means widths tape i (read i (omega arith)) in
    let rest = faults_before means widths tape i (λ j lt. read j (omega (arith, lt))) in
    let last = map (line_of means widths tape) (filter (is_cast means widths tape) (i ∷ [])) in
    first_push (set_fault_at means widths tape) (before i) i
    ∙ (rw (rest, here) (sym (mapped_else (found_fault means tape) (misfit_among widths (lines_before means widths tape i)) (misfit_among widths last)))
    ∙ ap (misfit_fault means tape) (sym (misfit_append widths (lines_before means widths tape i) last) ∙ ap (misfit_among widths) (sym (lines_more means widths tape i))))

-- a frame that cannot be read
flawed : (means : Meanings) (widths : WidthFile) (tape : List ℕ) (i : ℕ) (flaw : Flaw) → flaw_at means widths tape i ≡ Some flaw
    → set_fault_at means widths tape i ≡ Some (fault_at means tape i (cause_of flaw))
unfolding set_fault_at
flawed means widths tape i flaw some = rw some refl

none_fit : (means : Meanings) (widths : WidthFile) (tape : List ℕ) (i : ℕ) → AreRead means widths tape i → misfit_among widths (lines_before means widths tape i) ≡ None
    → first (set_fault_at means widths tape) (before i) ≡ None
none_fit means widths tape i read fit = faults_before means widths tape i read ∙ rw fit refl

-- the first line that does not fit, before any frame that cannot be read
pub first_misfit : (means : Meanings) (widths : WidthFile) (tape : List ℕ) (i at : ℕ) (cause : Cause) → i ≤ length tape → AreRead means widths tape i
    → misfit_among widths (lines_before means widths tape i) ≡ Some (at, cause) → first_fault means widths tape ≡ Some (fault_at means tape at cause)
unfolding first_fault first_fault_before
first_misfit means widths tape i at cause le read found =
    let stays = first_stays (set_fault_at means widths tape) i (length tape) (fault_at means tape at cause) (faults_before means widths tape i read ∙ rw found refl) le in
    rw stays refl

-- the first frame that cannot be read, where the lines before it fit
pub first_flaw : (means : Meanings) (widths : WidthFile) (tape : List ℕ) (i : ℕ) (flaw : Flaw) → i < length tape → AreRead means widths tape i
    → misfit_among widths (lines_before means widths tape i) ≡ None → flaw_at means widths tape i ≡ Some flaw → first_fault means widths tape ≡ Some (fault_at means tape i (cause_of flaw))
unfolding first_fault first_fault_before
first_flaw means widths tape i flaw lt read fit some =
    let here = first_at (set_fault_at means widths tape) i (length tape) (fault_at means tape i (cause_of flaw)) (none_fit means widths tape i read fit) (flawed means widths tape i flaw some) lt in
    rw here refl

-- the end, where all frames can be read and all lines fit
pub first_end : (means : Meanings) (widths : WidthFile) (tape : List ℕ) → AreRead means widths tape (length tape)
    → misfit_among widths (lines_before means widths tape (length tape)) ≡ None → first_fault means widths tape ≡ end_fault means widths tape
unfolding first_fault first_fault_before
first_end means widths tape read fit = rw (none_fit means widths tape (length tape) read fit) refl

unfaulty : (means : Meanings) (widths : WidthFile) (tape : List ℕ) (i : ℕ) → set_fault_at means widths tape i ≡ None → flaw_at means widths tape i ≡ None
unfolding set_fault_at
unfaulty means widths tape i none =
    mapped_none cause_of (flaw_at means widths tape i) (neither (option_map cause_of (flaw_at means widths tape i)) _ (mapped_none (fault_at means tape i) _ none)).0

-- a tape without a fault has only lines that fit
pub all_fit : (means : Meanings) (widths : WidthFile) (tape : List ℕ) → first_fault means widths tape ≡ None → misfit_among widths (lines_before means widths tape (length tape)) ≡ None
unfolding first_fault first_fault_before
all_fit means widths tape none =
    let frames = (neither (first (set_fault_at means widths tape) (before (length tape))) (end_fault means widths tape) none).0 in
    let read : AreRead means widths tape (length tape) = λ j lt. unfaulty means widths tape j (none_before (set_fault_at means widths tape) (length tape) frames j lt) in
    mapped_none (found_fault means tape) (misfit_among widths (lines_before means widths tape (length tape))) (sym (faults_before means widths tape (length tape) read) ∙ frames)

are_push : (widths : WidthFile) (lines : List Line) (slugs : List Slug) (line : Line) (slug : Slug) → AreSlugs widths lines slugs → IsSlug widths line slug
    → AreSlugs widths (lines ++ line ∷ []) (slugs ++ slug ∷ [])
are_push widths [] [] line slug are is = (is, tt)
are_push widths [] (s ∷ ss) line slug are is = absurd are
are_push widths (l ∷ ls) [] line slug are is = absurd are
are_push widths (l ∷ ls) (s ∷ ss) line slug are is = (are.0, are_push widths ls ss line slug are.1 is)

-- one line more has its slug
pub are_more : (widths : WidthFile) (earlier lines : List Line) (i : ℕ) (slugs : List Slug) (line : Line) (slug : Slug) → i < length lines → line ≡ get_or lines i line
    → AreSlugs widths (earlier ++ take i lines) slugs → IsSlug widths line slug → AreSlugs widths (earlier ++ take (i + 1) lines) (slugs ++ slug ∷ [])
are_more widths earlier lines i slugs line slug lt item are is =
    rw (take_more lines i line lt, ← item, ← append_assoc earlier (take i lines) (line ∷ [])) (are_push widths (earlier ++ take i lines) slugs line slug are is)

-- a line that fits is passed over
pub misfit_rest : (widths : WidthFile) (lines : List Line) (i : ℕ) (line : Line) → i < length lines → line ≡ get_or lines i line
    → misfit_among widths (drop i lines) ≡ or_else (option_map (λ cause. (line.elevate_at, cause)) (misfit widths line)) (misfit_among widths (drop (i + 1) lines))
misfit_rest widths lines i line lt item =
    let next : drop i lines ≡ line ∷ drop (i + 1) lines = rw (← item, ← add-one i) at (drop-cons lines i line lt) in
    rw next refl
