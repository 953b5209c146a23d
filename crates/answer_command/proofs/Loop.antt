-- The loop over the lines: what is written so far, and what is left.
use Rattle.std.proofs.Common.{◌≡◌, ℕ, ◌+◌, ◌<◌, List, [], ◌∷◌, ◌++◌, length, get_or, drop, map, true, false, Option, refl, sym, ap, subst, ◌∙◌, append_assoc, arith}
use denote.Ref.{Bor}
use Rattle.std.specs.Io.KnownBytes.{Appends}
use Rattle.std.proofs.KnownBytes.{Appends-trans, Appends-nil}
use Rattle.std.proofs.lemmas.List.{drop_more, get_or-map, length-map}
use Rattle.protocol.specs.Versions.{Version}
use Rattle.protocol.specs.Rows.{Row}
use Rattle.protocol.specs.Acceptor.{Request, StepsAreOfTheWhole}
use Rattle.streams.specs.Fronts.{AppendsFront}
use Rattle.streams.proofs.Fronts.{front_more, front_of_all}
use Rattle.streams.proofs.Parts.{front_of}
use Rattle.answer_command.specs.Asked.{asked_of}
use Rattle.answer_command.specs.Replies.{answered, rows_after}
use Rattle.answer_command.specs.AnswerText.{is_blank, heard_after, lines_text, Stands}
use Rattle.answer_command.proofs.History.{text_stands, rows_stand}

pub record Standing (circuit me : ℕ) (v : Version) (rows : ℕ → Row) (lines rest : List (List ℕ)) (old new : Option (List ℕ)) : Type 0 where
  pub heard : List (ℕ × Request)
  pub done : List ℕ
  pub stands : Stands rows heard
  pub wrote : Appends old new done
  pub all : done ++ lines_text circuit me v heard rest ≡ lines_text circuit me v [] lines

pub starts : (circuit me : ℕ) (v : Version) (rows : ℕ → Row) (lines : List (List ℕ)) (out : Option (List ℕ)) → Stands rows [] → Standing circuit me v rows lines lines out out
starts circuit me v rows lines out s = record { heard = []; done = []; stands = s; wrote = Appends-nil out; all = refl }

pub skips : (circuit me : ℕ) (v : Version) (rows : ℕ → Row) (lines : List (List ℕ)) (line : List ℕ) (rest : List (List ℕ)) (old new : Option (List ℕ)) → is_blank line ≡ true → Standing circuit me v rows lines (line ∷ rest) old new → Standing circuit me v rows lines rest old new
skips circuit me v rows lines line rest old new blank s = record { heard = s.heard; done = s.done; stands = s.stands; wrote = s.wrote; all = rw blank at s.all }

abbrev text_of : (circuit me : ℕ) (v : Version) (rows : ℕ → Row) (line : List ℕ) → List ℕ
text_of circuit me v rows line = answered circuit me v rows (asked_of circuit me v line) ++ 10 ∷ []

opened : StepsAreOfTheWhole → (circuit me : ℕ) (v : Version) (rows : ℕ → Row) (heard : List (ℕ × Request)) (line : List ℕ) (rest : List (List ℕ)) → is_blank line ≡ false → Stands rows heard → lines_text circuit me v heard (line ∷ rest) ≡ text_of circuit me v rows line ++ lines_text circuit me v (heard_after heard (asked_of circuit me v line)) rest
opened steps circuit me v rows heard line rest full s =
    let text = text_stands steps circuit me v rows heard (asked_of circuit me v line) s in
    rw (full, text) refl

pub goes_on : StepsAreOfTheWhole → (circuit me : ℕ) (v : Version) (rows after : ℕ → Row) (lines : List (List ℕ)) (line : List ℕ) (rest : List (List ℕ)) (old mid new : Option (List ℕ)) → is_blank line ≡ false → Standing circuit me v rows lines (line ∷ rest) old mid → Appends mid new (text_of circuit me v rows line) → ((n : ℕ) → after n ≡ rows_after rows (asked_of circuit me v line) n) → Standing circuit me v after lines rest old new
goes_on steps circuit me v rows after lines line rest old mid new full s wrote changed =
    let asked = asked_of circuit me v line in
    record {
      heard = heard_after s.heard asked;
      done = s.done ++ text_of circuit me v rows line;
      stands = rows_stand steps rows after s.heard asked s.stands changed;
      wrote = Appends-trans old mid new s.done (text_of circuit me v rows line) s.wrote wrote;
      all = append_assoc s.done (text_of circuit me v rows line) (lines_text circuit me v (heard_after s.heard asked) rest) ∙ ap (λ (xs : List ℕ). s.done ++ xs) (sym (opened steps circuit me v rows s.heard line rest full s.stands)) ∙ s.all;
    }

pub stops : StepsAreOfTheWhole → (circuit me : ℕ) (v : Version) (rows : ℕ → Row) (lines : List (List ℕ)) (line : List ℕ) (rest : List (List ℕ)) (old mid new : Option (List ℕ)) → is_blank line ≡ false → Standing circuit me v rows lines (line ∷ rest) old mid → AppendsFront mid new (text_of circuit me v rows line) → AppendsFront old new (lines_text circuit me v [] lines)
stops steps circuit me v rows lines line rest old mid new full s front =
    let asked = asked_of circuit me v line in
    front_more old mid new s.done (text_of circuit me v rows line) (lines_text circuit me v (heard_after s.heard asked) rest) (lines_text circuit me v [] lines) s.wrote front (ap (λ (xs : List ℕ). s.done ++ xs) (sym (opened steps circuit me v rows s.heard line rest full s.stands)) ∙ s.all)

-- no memory for the text of a line: of that line nothing was written
pub unanswered : StepsAreOfTheWhole → (circuit me : ℕ) (v : Version) (rows : ℕ → Row) (lines : List (List ℕ)) (line : List ℕ) (rest : List (List ℕ)) (old new : Option (List ℕ)) → is_blank line ≡ false → Standing circuit me v rows lines (line ∷ rest) old new → AppendsFront old new (lines_text circuit me v [] lines)
unanswered steps circuit me v rows lines line rest old new full s =
    stops steps circuit me v rows lines line rest old new new full s (front_of new new [] (text_of circuit me v rows line) (front_of_all new new [] (Appends-nil new)))

abbrev pub texts : List (Bor (List ℕ)) → List (List ℕ)
texts ls = map (λ l. l.now) ls

-- the line at i is the first of what is left there
pub left_at : (ls : List (Bor (List ℕ))) (i : ℕ) (d : Bor (List ℕ)) → i < length ls → drop i (texts ls) ≡ (get_or ls i d).now ∷ drop (i + 1) (texts ls)
left_at ls i d lt =
    let fits : i < length (texts ls) = omega (arith, length-map ls (λ (l : Bor (List ℕ)). l.now)) in
    drop_more (texts ls) i [] fits ∙ ap (λ (x : List ℕ). x ∷ drop (i + 1) (texts ls)) (get_or-map (λ (l : Bor (List ℕ)). l.now) ls i d [] lt)

pub standing_at : (circuit me : ℕ) (v : Version) (rows : ℕ → Row) (ls : List (Bor (List ℕ))) (i : ℕ) (d : Bor (List ℕ)) (old new : Option (List ℕ)) → i < length ls → Standing circuit me v rows (texts ls) (drop i (texts ls)) old new → Standing circuit me v rows (texts ls) ((get_or ls i d).now ∷ drop (i + 1) (texts ls)) old new
standing_at circuit me v rows ls i d old new lt s =
    subst (λ (rest : List (List ℕ)). Standing circuit me v rows (texts ls) rest old new) (left_at ls i d lt) s
