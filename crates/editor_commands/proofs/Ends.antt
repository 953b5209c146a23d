-- How the commands for editors end, by their cause.
use Rattle.std.proofs.Common.{◌≡◌, ℕ, List, Option, Some, None, Result, Ok, Err, IfSome, IfErr, inl, inr, refl, sym, subst}
use Rattle.std.specs.Io.KnownBytes.{Appends}
use Rattle.streams.specs.Fronts.{AppendsFront}
use Rattle.toml.specs.Parse.{parse_document}
use Rattle.code_table.specs.Tables.{Places, mean}
use Rattle.code_table.specs.Reading.{read_table}
use Rattle.tape_frames.specs.Frames.{IsTape}
use Rattle.command_ends.specs.Ends.{IsOfInput}
use Rattle.command_ends.specs.declared.end.End.{End}
use Rattle.command_ends.specs.declared.end.End.TheVariants.{Done}
use Rattle.editor_commands.specs.Ends.{BreaksOff, BreaksOffText, IfBoth}
use Rattle.editor_commands.specs.Punched as punched
use Rattle.editor_commands.specs.Punched.{ToPunch, IsTapeOf, WasPunched, BreaksOffPunching, Punched, Punches}
use Rattle.editor_commands.specs.SpelledAs as spelled
use Rattle.editor_commands.specs.SpelledAs.{ToSpell, text_in, IsTextOf, WasSpelled, BreaksOffSpelling, SpelledAs, Spells}

-- what follows of two texts follows where they are known
both : (first second : Option (List ℕ)) (P Q : List ℕ → List ℕ → Type 0) → ((xs ys : List ℕ) → P xs ys → Q xs ys) → IfBoth first second P → IfBoth first second Q
both None second P Q f h = tt
both (Some xs) None P Q f h = tt
both (Some xs) (Some ys) P Q f h = f xs ys h

-- a tape that was written ends the command well
pub punched_whole : (order : ToPunch) (old new : Option (List ℕ)) → WasPunched order old new → Punches order Done old new
punched_whole order old new h = record {
  ends = tt;
  done = (λ well. h);
  cause = both order.table order.text (λ ts xs. IsTapeOf order ts xs (Appends old new)) (λ ts xs. Punched order ts xs Done old new) (λ ts xs w. punched.Whole refl w) h;
}

punching_off : (order : ToPunch) (ts xs : List ℕ) (end : End) (old new : Option (List ℕ)) → ¬ (end ≡ Done) → BreaksOff (IsTapeOf order ts xs (AppendsFront old new)) end old new → Punched order ts xs end old new
punching_off order ts xs end old new fails (inl none) = punched.Unwritten none.0 fails none.1
punching_off order ts xs end old new fails (inr some) = punched.Cut some.0 some.1

punching_by : (order : ToPunch) (end : End) (old new : Option (List ℕ)) → ¬ (end ≡ Done) → BreaksOffPunching order end old new → Punches order end old new
punching_by order end old new fails off = record {
  ends = off.ends;
  done = (λ well. absurd (fails well));
  cause =
      both order.table order.text (λ ts xs. BreaksOff (IsTapeOf order ts xs (AppendsFront old new)) end old new) (λ ts xs. Punched order ts xs end old new)
      (λ ts xs b. punching_off order ts xs end old new fails b) off.wrote;
}

-- a command that breaks off ends by what broke it off
pub punching_broken : (order : ToPunch) (end told : End) (old new : Option (List ℕ)) → end ≡ told → ¬ (end ≡ Done) → BreaksOffPunching order told old new → Punches order end old new
punching_broken order end told old new same fails off = punching_by order end old new fails (subst (λ e. BreaksOffPunching order e old new) (sym same) off)

-- a text that was written ends the command well
pub spelled_whole : (order : ToSpell) (old new : Option (List ℕ)) → WasSpelled order old new → Spells order Done old new
spelled_whole order old new h = record {
  ends = tt;
  done = (λ well. h);
  cause = both order.table order.tape (λ ts xs. IsTextOf order ts xs (Appends old new)) (λ ts xs. SpelledAs order ts xs Done old new) (λ ts xs w. spelled.Whole refl w) h;
}

spelling_off : (order : ToSpell) (ts xs : List ℕ) (end : End) (old new : Option (List ℕ)) → ¬ (end ≡ Done) → BreaksOff (IsTextOf order ts xs (AppendsFront old new)) end old new → SpelledAs order ts xs end old new
spelling_off order ts xs end old new fails (inl none) = spelled.Unwritten none.0 fails none.1
spelling_off order ts xs end old new fails (inr some) = spelled.Cut some.0 some.1

spelling_by : (order : ToSpell) (end : End) (old new : Option (List ℕ)) → ¬ (end ≡ Done) → BreaksOffSpelling order end old new → Spells order end old new
spelling_by order end old new fails off = record {
  ends = off.ends;
  done = (λ well. absurd (fails well));
  cause =
      both order.table order.tape (λ ts xs. BreaksOff (IsTextOf order ts xs (AppendsFront old new)) end old new) (λ ts xs. SpelledAs order ts xs end old new)
      (λ ts xs b. spelling_off order ts xs end old new fails b) off.wrote;
}

ended_off : (end : End) (old new : Option (List ℕ)) (text : List ℕ) → BreaksOffText text end old new → IsOfInput end
ended_off end old new text (inl none) = none.0
ended_off end old new text (inr some) = subst IsOfInput (sym some.0) tt

cut_off : (order : ToSpell) (places : Places) (ts xs text : List ℕ) (end : End) (old new : Option (List ℕ)) → read_table (parse_document ts) ≡ Ok places → IsTape xs → text ≡ text_in order.form (mean places) xs → BreaksOffText text end old new → BreaksOff (IsTextOf order ts xs (AppendsFront old new)) end old new
cut_off order places ts xs text end old new is_table is_tape same (inl none) = inl none
cut_off order places ts xs text end old new is_table is_tape same (inr some) = inr (some.0, record { places = places; is_table = is_table; is_tape = is_tape; wrote = subst (AppendsFront old new) same some.1 })

wrote_off : (order : ToSpell) (table tape : Option (List ℕ)) (places : Places) (frames text : List ℕ) (end : End) (old new : Option (List ℕ)) → IfSome table (λ ts. read_table (parse_document ts) ≡ Ok places) → IfSome tape (λ xs. frames ≡ xs) → IsTape frames → text ≡ text_in order.form (mean places) frames → BreaksOffText text end old new → IfBoth table tape (λ ts xs. BreaksOff (IsTextOf order ts xs (AppendsFront old new)) end old new)
wrote_off order None tape places frames text end old new taken given is_tape same off = tt
wrote_off order (Some ts) None places frames text end old new taken given is_tape same off = tt
wrote_off order (Some ts) (Some xs) places frames text end old new taken given is_tape same off = subst (λ ys. BreaksOff (IsTextOf order ts ys (AppendsFront old new)) end old new) given (cut_off order places ts frames text end old new taken is_tape same off)

-- the text of a tape that was not written whole breaks the command off
pub spelling_cut : {A F : Type 0} (result : Result A F) (ends_as : F → End) (order : ToSpell) (places : Places) (frames text : List ℕ) (old new : Option (List ℕ)) → IfSome order.table (λ ts. read_table (parse_document ts) ≡ Ok places) → IfSome order.tape (λ xs. frames ≡ xs) → IsTape frames → text ≡ text_in order.form (mean places) frames → IfErr result (λ e. BreaksOffText text (ends_as e) old new) → IfErr result (λ e. BreaksOffSpelling order (ends_as e) old new)
spelling_cut (Ok done) ends_as order places frames text old new taken given is_tape same off = tt
spelling_cut (Err e) ends_as order places frames text old new taken given is_tape same off = record {
  ends = ended_off (ends_as e) old new text off;
  wrote = wrote_off order order.table order.tape places frames text (ends_as e) old new taken given is_tape same off;
}

-- a command that breaks off ends by what broke it off
pub spelling_broken : (order : ToSpell) (end told : End) (old new : Option (List ℕ)) → end ≡ told → ¬ (end ≡ Done) → BreaksOffSpelling order told old new → Spells order end old new
spelling_broken order end told old new same fails off = spelling_by order end old new fails (subst (λ e. BreaksOffSpelling order e old new) (sym same) off)
