-- The rows of one line more.
use Rattle.std.proofs.Common.{◌≡◌, ℕ, ◌+◌, ◌<◌, List, [], ◌∷◌, ◌++◌, length, take, get_or, refl, sym, ap, ◌∙◌, arith, append_assoc}
use Rattle.std.specs.Prelude.{sum_by}
use Rattle.std.proofs.lemmas.List.{take_more, append-nil, length-take}
use Rattle.std.proofs.lemmas.List.Sums.{sum_by-cons, sum_by-append}
use Rattle.line_fit.specs.declared.verdict.LineFit.{LineFit}
use Rattle.editor_commands.specs.Report.{row_text, slugs_in, rows_from}

-- how many slugs lines have
abbrev pub slugs_among : List LineFit → ℕ
slugs_among fits = sum_by (λ fit. slugs_in fit.verdict) fits

rows_append : (n s : ℕ) (xs ys : List LineFit) → rows_from n s (xs ++ ys) ≡ rows_from n s xs ++ rows_from (n + length xs) (s + slugs_among xs) ys
rows_append n s [] ys =
    let a : n ≡ n + 0 = omega arith in
    let b : s ≡ s + 0 = omega arith in
    λ i. rows_from (a i) (b i) ys
rows_append n s (x ∷ xs) ys =
    let a : n + 1 + length xs ≡ n + length (x ∷ xs) = omega arith in
    let b : s + slugs_in x.verdict + slugs_among xs ≡ s + slugs_among (x ∷ xs) = omega (arith, sum_by-cons (λ (fit : LineFit). slugs_in fit.verdict) x xs) in
    ap (λ (zs : List ℕ). row_text n s x ++ zs) (rows_append (n + 1) (s + slugs_in x.verdict) xs ys ∙ rw (a, b) refl)
    ∙ sym (append_assoc (row_text n s x) (rows_from (n + 1) (s + slugs_in x.verdict) xs) (rows_from (n + length (x ∷ xs)) (s + slugs_among (x ∷ xs)) ys))

pub rows_more : (fits : List LineFit) (i s : ℕ) (fit : LineFit) → i < length fits → fit ≡ get_or fits i fit → s ≡ 1 + slugs_among (take i fits)
    → rows_from 1 1 (take (i + 1) fits) ≡ rows_from 1 1 (take i fits) ++ row_text (i + 1) s fit
rows_more fits i s fit lt is e =
    let long : 1 + length (take i fits) ≡ i + 1 = omega (arith, length-take i fits) in
    ap (rows_from 1 1) (take_more fits i fit lt)
    ∙ (rows_append 1 1 (take i fits) (get_or fits i fit ∷ []) ∙ rw (long, ← e, ← is) (ap (λ (ys : List ℕ). rows_from 1 1 (take i fits) ++ ys) (append-nil (row_text (i + 1) s fit))))

slugs_push : (xs : List LineFit) (x : LineFit) → slugs_among (xs ++ x ∷ []) ≡ slugs_among xs + slugs_in x.verdict
slugs_push xs x =
    omega (arith, sum_by-append (λ (fit : LineFit). slugs_in fit.verdict) xs (x ∷ []), sum_by-cons (λ (fit : LineFit). slugs_in fit.verdict) x [])

pub slugs_more : (fits : List LineFit) (i : ℕ) (fit : LineFit) → i < length fits → fit ≡ get_or fits i fit → slugs_among (take (i + 1) fits) ≡ slugs_among (take i fits) + slugs_in fit.verdict
slugs_more fits i fit lt is = ap slugs_among (take_more fits i fit lt) ∙ slugs_push (take i fits) (get_or fits i fit) ∙ rw (← is) refl
