-- How `chart` ends, by its cause.
use Rattle.std.proofs.Common.{◌≡◌, ℕ, List, Option, Some, None, Result, Ok, Err, OnOk, inl, inr, refl, sym, subst, ◌∙◌}
use Rattle.std.specs.Prelude.{IfSome, IfErr}
use Rattle.std.specs.Io.KnownBytes.{Appends}
use Rattle.command_ends.specs.declared.end.End.{End}
use Rattle.command_ends.specs.declared.end.End.TheVariants.{Done, Input}
use Rattle.command_ends.specs.declared.fault.Fault.{Fault}
use Rattle.command_ends.specs.Ends.{end_of, IsOfInput}
use Rattle.draw_command.specs.Drawing.{BreaksOffText}
use Rattle.draw_command.specs.Charting.{ToChart, IsChart, IsCharted, Charted, Whole, Unwritten, Cut, Charts, ChartsBy}

-- what follows of the texts follows where they are known
mapped :
    (table widths : Option (List ℕ)) (P Q : List ℕ → List ℕ → Type 0) → ((ts ws : List ℕ) → P ts ws → Q ts ws)
    → IfSome table (λ ts. IfSome widths (λ ws. P ts ws)) → IfSome table (λ ts. IfSome widths (λ ws. Q ts ws))
mapped None widths P Q f h = tt
mapped (Some ts) None P Q f h = tt
mapped (Some ts) (Some ws) P Q f h = f ts ws h

-- what holds of any texts holds of those that are known
always : (table widths : Option (List ℕ)) (Q : List ℕ → List ℕ → Type 0) → ((ts ws : List ℕ) → Q ts ws) → IfSome table (λ ts. IfSome widths (λ ws. Q ts ws))
always None widths Q f = tt
always (Some ts) None Q f = tt
always (Some ts) (Some ws) Q f = f ts ws

-- a chart that was written ends the command well
pub whole : (order : ToChart) (text : List ℕ) (old new : Option (List ℕ)) → IsCharted order text → Appends old new text → Charts order Done old new
whole order text old new is wrote = record {
  ends = tt;
  cause = mapped order.table order.widths (λ ts ws. IsChart order ts ws text) (λ ts ws. Charted order ts ws Done old new) (λ ts ws c. Whole text refl c wrote) is;
}

off_ends : (text : List ℕ) (told : End) (old new : Option (List ℕ)) → BreaksOffText text told old new → IsOfInput told
off_ends text told old new (inl none) = none.0
off_ends text told old new (inr front) = subst IsOfInput (sym front.0) tt

broken : (order : ToChart) (ts ws text : List ℕ) (end told : End) (old new : Option (List ℕ)) → end ≡ told → ¬ (end ≡ Done)
    → BreaksOffText text told old new → IsChart order ts ws text → Charted order ts ws end old new
broken order ts ws text end told old new same fails (inl none) is = Unwritten (subst IsOfInput (sym same) none.0) fails none.1
broken order ts ws text end told old new same fails (inr front) is = Cut text (same ∙ front.0) is front.1

-- one that was not ends it by what broke it off
pub cut : (order : ToChart) (text : List ℕ) (end told : End) (old new : Option (List ℕ)) → end ≡ told → ¬ (end ≡ Done) → IsCharted order text
    → BreaksOffText text told old new → Charts order end old new
cut order text end told old new same fails is off = record {
  ends = subst IsOfInput (sym same) (off_ends text told old new off);
  cause =
      mapped order.table order.widths (λ ts ws. IsChart order ts ws text) (λ ts ws. Charted order ts ws end old new)
      (λ ts ws c. broken order ts ws text end told old new same fails off c) is;
}

-- so a command ends after the outcome of the writing
pub written : (order : ToChart) (text : List ℕ) (outcome : Result (Unit {0}) Fault) (old new : Option (List ℕ)) → IsCharted order text
    → OnOk outcome (Appends old new text) → IfErr outcome (λ fault. BreaksOffText text (end_of fault) old new) → ChartsBy order outcome old new
written order text (Ok done) old new is wrote off = λ end by. subst (λ e. Charts order e old new) (sym by.ok) (whole order text old new is wrote)
written order text (Err fault) old new is wrote off = λ end by. cut order text end (end_of fault) old new by.err.end by.err.fails is off

-- an input that is not taken leaves nothing written
left : (order : ToChart) (end : End) (old new : Option (List ℕ)) → IsOfInput end → ¬ (end ≡ Done) → new ≡ old → Charts order end old new
left order end old new ends fails same = record {
  ends = ends;
  cause = always order.table order.widths (λ ts ws. Charted order ts ws end old new) (λ ts ws. Unwritten ends fails same);
}

-- so it ends, whatever fault of an input that was
pub unwritten : (order : ToChart) (fault : Fault) (old new : Option (List ℕ)) → IsOfInput (end_of fault) → new ≡ old → ChartsBy order (Err fault) old new
unwritten order fault old new is same = λ end by. left order end old new (subst IsOfInput (sym by.err.end) is) by.err.fails same
