-- The faults of the lines one by one are those of the tape.
use Rattle.std.proofs.Common.{◌≡◌, ℕ, zero, suc, true, false, cond, List, [], ◌∷◌, ◌++◌, length, Some, None, refl, sym, ◌∙◌, ap}
use Rattle.std.specs.Prelude.{filter}
use Rattle.std.proofs.lemmas.List.{append-nil}
use Rattle.std.proofs.lemmas.List.Elements.{filter-append}
use Rattle.widths.specs.Widths.{WidthFile}
use Rattle.slug_reader.specs.declared.item.Item.{Item}
use Rattle.slug_reader.specs.Positions.{before, or_else, first}
use Rattle.slug_reader.specs.Meanings.{Meanings}
use Rattle.slug_reader.specs.Lines.{is_cut, cuts, line_before, items_before, is_filled, line_number}
use Rattle.line_check.specs.declared.fault.Cause.TheVariants as causes
use Rattle.line_check.specs.declared.fault.SetFault.{SetFault}
use Rattle.line_check.specs.Sets.{set_fault_at, first_fault_before, end_fault, first_fault}
use Rattle.line_fit.specs.declared.pending.Pending.{Pending}
use Rattle.line_fit.specs.declared.verdict.Verdict.{Verdict}
use Rattle.line_fit.specs.declared.verdict.Verdict.TheVariants.{Nothing, Faulty, Sets}
use Rattle.line_fit.specs.declared.verdict.LineFit.{LineFit}
use Rattle.line_fit.specs.Fitting.{line_fault, rest_fault, IsVerdict, IsFit, AreFits, fault_in, TellsFirst}
use Rattle.line_fit.specs.Pending.{Stands, fault_by, if_filled}
use Rattle.line_fit.proofs.Lists.{or_else_none, or_else_assoc, first_push}
use Rattle.line_fit.proofs.Looking.{line_emptied, line_more}

-- one fit more
pub are_more : (means : Meanings) (widths : WidthFile) (tape : List ℕ) (cs : List ℕ) (fits : List LineFit) (cut : ℕ) (fit : LineFit) → AreFits means widths tape cs fits → IsFit means widths tape cut fit → AreFits means widths tape (cs ++ cut ∷ []) (fits ++ fit ∷ [])
are_more means widths tape [] [] cut fit h k = (k, tt)
are_more means widths tape [] (f ∷ fits) cut fit h k = absurd h
are_more means widths tape (c ∷ cs) [] cut fit h k = absurd h
are_more means widths tape (c ∷ cs) (f ∷ fits) cut fit h k = (h.0, are_more means widths tape cs fits cut fit h.1 k)

cuts_push : (means : Meanings) (tape : List ℕ) (i : ℕ) → filter (is_cut means tape) (before (suc i)) ≡ filter (is_cut means tape) (before i) ++ cond (is_cut means tape i) (i ∷ []) []
cuts_push means tape i = filter-append (is_cut means tape) (before i) (i ∷ [])

pub cuts_more : (means : Meanings) (tape : List ℕ) (i : ℕ) → is_cut means tape i ≡ true → filter (is_cut means tape) (before (suc i)) ≡ filter (is_cut means tape) (before i) ++ i ∷ []
cuts_more means tape i e = cuts_push means tape i ∙ rw e refl

pub cuts_same : (means : Meanings) (tape : List ℕ) (i : ℕ) → is_cut means tape i ≡ false → filter (is_cut means tape) (before (suc i)) ≡ filter (is_cut means tape) (before i)
cuts_same means tape i e = cuts_push means tape i ∙ rw e (append-nil _)

-- the faults before a position are those of the lines cut before it, and then those of its line so far
split_cut : (means : Meanings) (widths : WidthFile) (tape : List ℕ) (i : ℕ) → is_cut means tape i ≡ true
    → first (set_fault_at means widths tape) (before i) ≡ or_else (first (line_fault means widths tape) (filter (is_cut means tape) (before i))) (first (set_fault_at means widths tape) (line_before means tape i))
    → first (set_fault_at means widths tape) (before (suc i)) ≡ or_else (first (line_fault means widths tape) (filter (is_cut means tape) (before (suc i)))) (first (set_fault_at means widths tape) (line_before means tape (suc i)))
split_cut means widths tape i e h =
    let f = set_fault_at means widths tape in
    let g = line_fault means widths tape in
    let cs = filter (is_cut means tape) (before i) in
    let here : g i ≡ or_else (first f (line_before means tape i)) (f i) = first_push f (line_before means tape i) i in
    first_push f (before i) i ∙ ap (λ o. or_else o (f i)) h
    ∙ or_else_assoc (first g cs) (first f (line_before means tape i)) (f i)
    ∙ rw (cuts_more means tape i e, line_emptied means tape i e, first_push g cs i, or_else_none, here) refl

split_kept : (means : Meanings) (widths : WidthFile) (tape : List ℕ) (i : ℕ) → is_cut means tape i ≡ false
    → first (set_fault_at means widths tape) (before i) ≡ or_else (first (line_fault means widths tape) (filter (is_cut means tape) (before i))) (first (set_fault_at means widths tape) (line_before means tape i))
    → first (set_fault_at means widths tape) (before (suc i)) ≡ or_else (first (line_fault means widths tape) (filter (is_cut means tape) (before (suc i)))) (first (set_fault_at means widths tape) (line_before means tape (suc i)))
split_kept means widths tape i e h =
    let f = set_fault_at means widths tape in
    let g = line_fault means widths tape in
    let cs = filter (is_cut means tape) (before i) in
    first_push f (before i) i ∙ ap (λ o. or_else o (f i)) h
    ∙ or_else_assoc (first g cs) (first f (line_before means tape i)) (f i)
    ∙ rw (cuts_same means tape i e, line_more means tape i e, first_push f (line_before means tape i) i) refl

split_none : (means : Meanings) (widths : WidthFile) (tape : List ℕ) → None ≡ first (set_fault_at means widths tape) (line_before means tape 0)
unfolding line_before
split_none means widths tape = refl

faults_split : (means : Meanings) (widths : WidthFile) (tape : List ℕ) (i : ℕ) →
    first (set_fault_at means widths tape) (before i) ≡ or_else (first (line_fault means widths tape) (filter (is_cut means tape) (before i))) (first (set_fault_at means widths tape) (line_before means tape i))
faults_split means widths tape zero = split_none means widths tape
faults_split means widths tape (suc i) =
    elim (is_cut means tape i) as (λ b. is_cut means tape i ≡ b
    → first (set_fault_at means widths tape) (before (suc i)) ≡ or_else (first (line_fault means widths tape) (filter (is_cut means tape) (before (suc i)))) (first (set_fault_at means widths tape) (line_before means tape (suc i)))) [
      | true ↦ λ e. split_cut means widths tape i e (faults_split means widths tape i)
      | false ↦ λ e. split_kept means widths tape i e (faults_split means widths tape i)
    ] refl

told_is : (means : Meanings) (widths : WidthFile) (tape : List ℕ) (cut : ℕ) (v : Verdict) → IsVerdict means widths tape cut v → fault_in v ≡ line_fault means widths tape cut
told_is means widths tape cut (Faulty f) h = sym h
told_is means widths tape cut Nothing h = sym h.0
told_is means widths tape cut (Sets slug) h = sym h.0

all_told : (means : Meanings) (widths : WidthFile) (tape : List ℕ) (cs : List ℕ) (fits : List LineFit) → AreFits means widths tape cs fits → first (λ fit. fault_in fit.verdict) fits ≡ first (line_fault means widths tape) cs
all_told means widths tape [] [] h = refl
all_told means widths tape [] (f ∷ fits) h = absurd h
all_told means widths tape (c ∷ cs) [] h = absurd h
all_told means widths tape (c ∷ cs) (f ∷ fits) h =
    let one = told_is means widths tape c f.verdict h.0.verdict in
    let rest = all_told means widths tape cs fits h.1 in
    λ i. or_else (one i) (rest i)

pub tells_first : TellsFirst
unfolding first_fault first_fault_before
tells_first means widths tape fitting h =
    let lines = all_told means widths tape (cuts means tape) fitting.lines.items h.lines in
    rw (lines, h.rest, faults_split means widths tape (length tape))
    (sym (or_else_assoc (first (line_fault means widths tape) (cuts means tape)) (first (set_fault_at means widths tape) (line_before means tape (length tape))) (end_fault means widths tape)))

-- what stands behind the last cut
if_filled_is : (items : List Item) (fault : SetFault) → if_filled items fault ≡ cond (is_filled items) (Some fault) None
if_filled_is [] fault = refl
if_filled_is (item ∷ items) fault = refl

pub rest_is : (means : Meanings) (widths : WidthFile) (tape : List ℕ) (p : Pending) (end : ℕ) → end ≡ length tape → Stands means widths tape (length tape) p
    → or_else p.fault (if_filled p.items.items (fault_by end p.line causes.Unfinished)) ≡ rest_fault means widths tape
rest_is means widths tape p end e s =
    rw (s.fault, s.items, s.line, e, if_filled_is (items_before means widths tape (length tape)) (fault_by (length tape) (line_number means tape (length tape)) causes.Unfinished)) refl
