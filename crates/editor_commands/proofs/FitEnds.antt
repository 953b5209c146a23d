-- How `fit` ends, by its cause; and that a tape sets where no line has a fault.
use Rattle.std.proofs.Common.{◌≡◌, ℕ, zero, suc, ◌+◌, cond, List, [], ◌∷◌, Option, Some, None, inl, inr, refl, sym, subst, ◌∙◌, arith}
use Rattle.std.specs.Prelude.{count_by}
use Rattle.std.proofs.lemmas.List.Sums.{sum_by-cons}
use Rattle.std.specs.Io.KnownBytes.{Appends}
use Rattle.slug_reader.specs.Positions.{first}
use Rattle.code_table.specs.Tables.{mean}
use Rattle.line_check.specs.declared.fault.SetFault.{SetFault}
use Rattle.line_check.specs.declared.setting.Setting.{Setting}
use Rattle.line_check.specs.Sets.{first_fault}
use Rattle.line_fit.specs.declared.verdict.Verdict.TheVariants as verdicts
use Rattle.line_fit.specs.declared.verdict.LineFit.{LineFit}
use Rattle.line_fit.specs.declared.fitting.Fitting.{Fitting}
use Rattle.line_fit.specs.Fitting.{Fits, fault_in, first_told}
use Rattle.command_ends.specs.declared.end.End.{End}
use Rattle.command_ends.specs.declared.end.End.TheVariants.{Done, Input}
use Rattle.command_ends.specs.Ends.{IsOfInput}
use Rattle.streams.specs.Fronts.{AppendsFront}
use Rattle.editor_commands.specs.Ends.{BreaksOff, BreaksOffText, IfAll}
use Rattle.editor_commands.specs.Report.{is_faulty, one_if, faults_in, report_text}
use Rattle.editor_commands.specs.Fitted.{ToFit, IsReportOf, WasReported, BreaksOffReport, WasFitted, WasPrefixFitted, BreaksOffFitting, end_by, FitsStory, Whole, Faulty, Unwritten, Cut, FitsWhole}

-- what follows of the texts follows where they are known
mapped : (table widths story : Option (List ℕ)) (P Q : List ℕ → List ℕ → List ℕ → Type 0) → ((ts ws xs : List ℕ) → P ts ws xs → Q ts ws xs) → IfAll table widths story P → IfAll table widths story Q
mapped None widths story P Q f h = tt
mapped (Some ts) None story P Q f h = tt
mapped (Some ts) (Some ws) None P Q f h = tt
mapped (Some ts) (Some ws) (Some xs) P Q f h = f ts ws xs h

fitted_by : (order : ToFit) (ts ws xs : List ℕ) (faults : ℕ) (end : End) (old new : Option (List ℕ)) → end ≡ end_by faults
    → IsReportOf order ts ws xs faults (Appends old new) → FitsStory order ts ws xs end old new
fitted_by order ts ws xs zero end old new is w = Whole is w
fitted_by order ts ws xs (suc n) end old new is w = Faulty n is w

input_is_not_done : ¬ (Input ≡ Done)
input_is_not_done e = cc

-- a report ends a command by how many lines do not set
report_ends : (faults : ℕ) (end : End) → end ≡ end_by faults → IsOfInput end
report_ends zero end is = subst IsOfInput (sym is) tt
report_ends (suc n) end is = subst IsOfInput (sym is) tt

-- where it ends well each line sets
whole : (order : ToFit) (faults : ℕ) (end : End) (old new : Option (List ℕ)) → end ≡ end_by faults → WasFitted order faults old new → end ≡ Done → WasFitted order 0 old new
whole order zero end old new is h well = h
whole order (suc n) end old new is h well = absurd (input_is_not_done (sym is ∙ well))

-- a report that was written ends the command by how many lines do not set
pub fitted : (order : ToFit) (faults : ℕ) (end : End) (old new : Option (List ℕ)) → end ≡ end_by faults → WasFitted order faults old new → FitsWhole order end old new
fitted order faults end old new is h = record {
  ends = report_ends faults end is;
  done = (λ well. whole order faults end old new is h well);
  cause =
      mapped order.table order.widths order.story (λ ts ws xs. IsReportOf order ts ws xs faults (Appends old new)) (λ ts ws xs. FitsStory order ts ws xs end old new)
      (λ ts ws xs w. fitted_by order ts ws xs faults end old new is w) h;
}

broken_off : (order : ToFit) (ts ws xs : List ℕ) (end : End) (old new : Option (List ℕ)) → ¬ (end ≡ Done)
    → BreaksOff (WasPrefixFitted order ts ws xs old new) end old new → FitsStory order ts ws xs end old new
broken_off order ts ws xs end old new fails (inl none) = Unwritten none.0 fails none.1
broken_off order ts ws xs end old new fails (inr some) = Cut some.1.0 some.0 some.1.1

broken_by : (order : ToFit) (end : End) (old new : Option (List ℕ)) → ¬ (end ≡ Done) → BreaksOffFitting order end old new → FitsWhole order end old new
broken_by order end old new fails off = record {
  ends = off.ends;
  done = (λ well. absurd (fails well));
  cause =
      mapped order.table order.widths order.story (λ ts ws xs. BreaksOff (WasPrefixFitted order ts ws xs old new) end old new) (λ ts ws xs. FitsStory order ts ws xs end old new)
      (λ ts ws xs b. broken_off order ts ws xs end old new fails b) off.wrote;
}

-- a command that breaks off ends by what broke it off
pub broken : (order : ToFit) (end told : End) (old new : Option (List ℕ)) → end ≡ told → ¬ (end ≡ Done) → BreaksOffFitting order told old new → FitsWhole order end old new
broken order end told old new same fails off = broken_by order end old new fails (subst (λ e. BreaksOffFitting order e old new) (sym same) off)

-- where no line is faulty, none tells a fault
sum_none : (a b : ℕ) → a + b ≡ 0 → (a ≡ 0) × (b ≡ 0)
sum_none a b h = (omega (arith, h), omega (arith, h))

none_told : (fits : List LineFit) → count_by is_faulty fits ≡ 0 → first (λ fit. fault_in fit.verdict) fits ≡ None
none_told [] h = refl
none_told (fit ∷ fits) h =
    let whole : cond (is_faulty fit) 1 0 + count_by is_faulty fits ≡ 0 = sym (sum_by-cons (λ (x : LineFit). cond (is_faulty x) 1 0) fit fits) ∙ h in
    let parts = sum_none (cond (is_faulty fit) 1 0) (count_by is_faulty fits) whole in
    elim fit.verdict as (λ v. fit.verdict ≡ v → first (λ fit. fault_in fit.verdict) (fit ∷ fits) ≡ None) [
      | verdicts.Nothing ↦ λ e. rw e (none_told fits parts.1)
      | verdicts.Faulty fault ↦ λ e. let never : 1 ≡ 0 = rw e at parts.0 in absurd (omega (arith, never))
      | verdicts.Sets slug ↦ λ e. rw e (none_told fits parts.1)
    ] refl

rest_none : (o : Option SetFault) → one_if o ≡ 0 → o ≡ None
rest_none None h = refl
rest_none (Some fault) h = absurd cc

-- a tape whose report has no fault sets
pub sets : (fitting : Fitting) (first_one : Option SetFault) → first_told fitting ≡ first_one → faults_in fitting ≡ 0 → first_one ≡ None
sets fitting first_one is h =
    let parts = sum_none (count_by is_faulty fitting.lines.items) (one_if fitting.rest) h in
    sym is ∙ rw (none_told fitting.lines.items parts.0) (rest_none fitting.rest parts.1)

-- a report that breaks off
pub report_broken :
    (setting : Setting) (tape : List ℕ) (fitting : Fitting) (text : List ℕ) (end : End) (old new : Option (List ℕ))
    → Fits (mean setting.table) setting.widths tape fitting → first_told fitting ≡ first_fault (mean setting.table) setting.widths tape
    → text ≡ report_text setting.widths.measure fitting → BreaksOffText text end old new → BreaksOffReport setting tape end old new
report_broken setting tape fitting text end old new fits first is (inl none) = inl none
report_broken setting tape fitting text end old new fits first is (inr some) =
    inr (
      some.0,
      (
        faults_in fitting,
        record { fitting = fitting; fits = fits; is_faults = refl; sets = (λ e. sets fitting _ first e); wrote = rw is at some.1 },
      ),
    )

-- and one that was written
pub report_whole :
    (setting : Setting) (tape : List ℕ) (fitting : Fitting) (text : List ℕ) (faults : ℕ) (old new : Option (List ℕ))
    → Fits (mean setting.table) setting.widths tape fitting → first_told fitting ≡ first_fault (mean setting.table) setting.widths tape
    → text ≡ report_text setting.widths.measure fitting → faults ≡ faults_in fitting → Appends old new text → WasReported setting tape faults old new
report_whole setting tape fitting text faults old new fits first is many wrote =
    record { fitting = fitting; fits = fits; is_faults = many; sets = (λ e. sets fitting _ first e); wrote = rw is at wrote }
