-- How `draw` ends, by its cause.
use Rattle.std.proofs.Common.{◌≡◌, ℕ, List, Option, Some, None, Ok, Err, inl, inr, sym, subst, ◌∙◌}
use Rattle.std.specs.Io.KnownBytes.{Appends}
use Rattle.std.specs.Prelude.{IfSome}
use Rattle.line_check.specs.declared.fault.SetFault.{SetFault}
use Rattle.streams.specs.Fronts.{AppendsFront}
use Rattle.command_ends.specs.declared.end.End.{End}
use Rattle.command_ends.specs.declared.end.End.TheVariants.{Done, Input}
use Rattle.command_ends.specs.declared.fault.Fault.{Fault}
use Rattle.command_ends.specs.declared.fault.Fault.TheVariants as faults
use Rattle.command_ends.specs.Ends.{end_of, IsOfInput}
use Rattle.draw_command.specs.Drawing.{ToDraw, IsDrawingOf, WasDrawn, BreaksOff, BreaksOffDrawing, end_by, Drew, Whole, Unset, Unwritten, Cut, Draws, DrawsBy}

-- what follows of the texts follows where they are known
mapped :
    (table widths tape : Option (List ℕ)) (P Q : List ℕ → List ℕ → List ℕ → Type 0) → ((ts ws xs : List ℕ) → P ts ws xs → Q ts ws xs)
    → IfSome table (λ ts. IfSome widths (λ ws. IfSome tape (λ xs. P ts ws xs))) → IfSome table (λ ts. IfSome widths (λ ws. IfSome tape (λ xs. Q ts ws xs)))
mapped None widths tape P Q f h = tt
mapped (Some ts) None tape P Q f h = tt
mapped (Some ts) (Some ws) None P Q f h = tt
mapped (Some ts) (Some ws) (Some xs) P Q f h = f ts ws xs h

drawn_by : (order : ToDraw) (ts ws xs : List ℕ) (fault : Option SetFault) (end : End) (old new : Option (List ℕ)) → end ≡ end_by fault
    → IsDrawingOf order ts ws xs fault (Appends old new) → Drew order ts ws xs end old new
drawn_by order ts ws xs None end old new is d = Whole is d
drawn_by order ts ws xs (Some fault) end old new is d = Unset fault is d

input_is_not_done : ¬ (Input ≡ Done)
input_is_not_done e = cc

-- a drawing ends a command by its fault
drawing_ends : (fault : Option SetFault) (end : End) → end ≡ end_by fault → IsOfInput end
drawing_ends None end is = subst IsOfInput (sym is) tt
drawing_ends (Some fault) end is = subst IsOfInput (sym is) tt

-- where it ends well there is no fault
whole : (order : ToDraw) (fault : Option SetFault) (end : End) (old new : Option (List ℕ)) → end ≡ end_by fault → WasDrawn order fault old new → end ≡ Done
    → WasDrawn order None old new
whole order None end old new is h well = h
whole order (Some fault) end old new is h well = absurd (input_is_not_done (sym is ∙ well))

-- a drawing that was written ends the command by the fault of its tape
drawn : (order : ToDraw) (fault : Option SetFault) (end : End) (old new : Option (List ℕ)) → end ≡ end_by fault → WasDrawn order fault old new → Draws order end old new
drawn order fault end old new is h = record {
  ends = drawing_ends fault end is;
  done = (λ well. whole order fault end old new is h well);
  cause =
      mapped order.table order.widths order.tape (λ ts ws xs. IsDrawingOf order ts ws xs fault (Appends old new)) (λ ts ws xs. Drew order ts ws xs end old new)
      (λ ts ws xs d. drawn_by order ts ws xs fault end old new is d) h;
}

broken_off : (order : ToDraw) (ts ws xs : List ℕ) (end : End) (old new : Option (List ℕ)) → ¬ (end ≡ Done)
    → BreaksOff ((fault : Option SetFault) × IsDrawingOf order ts ws xs fault (AppendsFront old new)) end old new → Drew order ts ws xs end old new
broken_off order ts ws xs end old new fails (inl none) = Unwritten none.0 fails none.1
broken_off order ts ws xs end old new fails (inr front) = Cut front.1.0 front.0 front.1.1

broken_by : (order : ToDraw) (end : End) (old new : Option (List ℕ)) → ¬ (end ≡ Done) → BreaksOffDrawing order end old new → Draws order end old new
broken_by order end old new fails off = record {
  ends = off.ends;
  done = (λ well. absurd (fails well));
  cause =
      mapped order.table order.widths order.tape
      (λ ts ws xs. BreaksOff ((fault : Option SetFault) × IsDrawingOf order ts ws xs fault (AppendsFront old new)) end old new) (λ ts ws xs. Drew order ts ws xs end old new)
      (λ ts ws xs b. broken_off order ts ws xs end old new fails b) off.wrote;
}

-- a tape that sets ends the command well once it is drawn
pub sets : (order : ToDraw) (old new : Option (List ℕ)) → WasDrawn order None old new → DrawsBy order (Ok tt) old new
sets order old new drawn_whole = λ end by. drawn order None end old new by.ok drawn_whole

-- one that does not set ends it by its first fault
pub does_not_set : (order : ToDraw) (fault : SetFault) (old new : Option (List ℕ)) → WasDrawn order (Some fault) old new → DrawsBy order (Err (faults.Unset fault)) old new
does_not_set order fault old new drawn_whole = λ end by. drawn order (Some fault) end old new by.err.end drawn_whole

-- a command that breaks off ends by what broke it off
pub broke_off : (order : ToDraw) (fault : Fault) (old new : Option (List ℕ)) → BreaksOffDrawing order (end_of fault) old new → DrawsBy order (Err fault) old new
broke_off order fault old new off = λ end by. broken_by order end old new by.err.fails (subst (λ e. BreaksOffDrawing order e old new) (sym by.err.end) off)
