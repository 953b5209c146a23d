-- Rows that stand for the requests heard.
use Rattle.std.proofs.Common.{◌≡◌, ℕ, List, [], ◌∷◌, ◌++◌, true, false, cond, eqb, Result, Ok, Err, refl, ap, sym, ◌∙◌}
use Rattle.std.specs.Prelude.{OnOk}
use Rattle.std.proofs.lemmas.Bool.{eqb-true}
use Rattle.protocol.specs.Versions.{Version}
use Rattle.protocol.specs.Rows.{Row}
use Rattle.protocol.specs.Packets.{Accepted}
use Rattle.protocol.specs.Acceptor.{Request, Reply, Votes, row_after, reply_after, reply_of, next_row, StepsAreOfTheWhole}
use Rattle.rows_saved.specs.Saved.{WithRow}
use Rattle.answer_command.specs.Asked.{Asked}
use Rattle.answer_command.specs.Replies.{answered, reply_text, rows_after, sent_back, voted_entry}
use Rattle.answer_command.specs.AnswerText.{requests_for, heard_after, line_text, Stands}
use Rattle.refusals.specs.declared.line_refusal.Refusal.{Refusal}

requests_for-more : (n : ℕ) (heard : List (ℕ × Request)) (k : ℕ) (r : Request) → requests_for n (heard ++ (k, r) ∷ []) ≡ cond (eqb n k) (requests_for n heard ++ r ∷ []) (requests_for n heard)
requests_for-more n [] k r = elim (eqb n k) as (λ p. cond p (r ∷ []) [] ≡ cond p (r ∷ []) []) [ true ↦ refl | false ↦ refl ]
requests_for-more n (h ∷ hs) k r =
    let rest = requests_for-more n hs k r in
    elim (eqb n h.0) as (λ q. cond q (h.1 ∷ requests_for n (hs ++ (k, r) ∷ [])) (requests_for n (hs ++ (k, r) ∷ [])) ≡ cond (eqb n k) (cond q (h.1 ∷ requests_for n hs) (requests_for n hs) ++ r ∷ []) (cond q (h.1 ∷ requests_for n hs) (requests_for n hs))) [
      | true ↦ ap (λ (rs : List Request). h.1 ∷ rs) rest ∙ elim (eqb n k) as (λ p. h.1 ∷ cond p (requests_for n hs ++ r ∷ []) (requests_for n hs) ≡ cond p ((h.1 ∷ requests_for n hs) ++ r ∷ []) (h.1 ∷ requests_for n hs)) [ true ↦ refl | false ↦ refl ]
      | false ↦ rest
    ]

-- the text of a line is that behind the requests heard
pub text_stands : StepsAreOfTheWhole → (circuit me : ℕ) (v : Version) (rows : ℕ → Row) (heard : List (ℕ × Request)) (asked : Result Asked Refusal) → Stands rows heard → answered circuit me v rows asked ≡ line_text circuit me v heard asked
text_stands steps circuit me v rows heard (Err refusal) s = refl
text_stands steps circuit me v rows heard (Ok asked) s =
    let before = requests_for asked.number heard in
    let row : rows asked.number ≡ row_after before = s asked.number in
    let reply : reply_of (rows asked.number) asked.request ≡ reply_after before asked.request = ap (λ (r : Row). reply_of r asked.request) row ∙ (steps before asked.request).1 in
    let next : next_row (rows asked.number) asked.request ≡ row_after (before ++ asked.request ∷ []) = ap (λ (r : Row). next_row r asked.request) row ∙ (steps before asked.request).0 in
    ap (λ (r : Reply). reply_text circuit me v asked r (next_row (rows asked.number) asked.request)) reply ∙ ap (λ (r : Row). reply_text circuit me v asked (reply_after before asked.request) r) next

-- and the rows after it stand for the requests heard after it
pub rows_stand : StepsAreOfTheWhole → (rows new : ℕ → Row) (heard : List (ℕ × Request)) (asked : Result Asked Refusal) → Stands rows heard → ((n : ℕ) → new n ≡ rows_after rows asked n) → Stands new (heard_after heard asked)
rows_stand steps rows new heard (Err refusal) s e n = e n ∙ s n
rows_stand steps rows new heard (Ok asked) s e n =
    let next : (k : ℕ) → next_row (rows k) asked.request ≡ row_after (requests_for k heard ++ asked.request ∷ []) = λ k. ap (λ (r : Row). next_row r asked.request) (s k) ∙ (steps (requests_for k heard) asked.request).0 in
    let before = requests_for n heard in
    e n ∙ (rw (requests_for-more n heard asked.number asked.request) (
    elim (eqb n asked.number) as (λ p. eqb n asked.number ≡ p → cond p (next_row (rows asked.number) asked.request) (rows n) ≡ row_after (cond p (before ++ asked.request ∷ []) before)) [
      | true ↦ λ h. let same : n ≡ asked.number = eqb-true n asked.number h in rw same (next asked.number)
      | false ↦ λ _. s n
    ] refl
    ))

-- where the row of a number is the one it had, no row is changed
row_stays : (rows : ℕ → Row) (n : ℕ) (row : Row) → row ≡ rows n → WithRow rows n row rows
row_stays rows n row e k =
    elim (eqb k n) as (λ p. eqb k n ≡ p → rows k ≡ cond p row (rows k)) [
      | true ↦ λ h. ap rows (eqb-true k n h) ∙ sym e
      | false ↦ λ _. refl
    ] refl

pub stays_on_ok : {A E : Type 0} (r : Result A E) (rows : ℕ → Row) (n : ℕ) (row : Row) → row ≡ rows n → OnOk r (WithRow rows n row rows)
stays_on_ok (Ok x) rows n row e = row_stays rows n row e
stays_on_ok (Err x) rows n row e = tt

-- a row that was saved, by another name of it
pub saved_as : (rows new : ℕ → Row) (n : ℕ) (row other : Row) → WithRow rows n row new → row ≡ other → WithRow rows n other new
saved_as rows new n row other saved e = rw (← e) saved

-- the text of a vote is that of the reply, where the reply is to vote and the row that voted is the one after it
pub voted_text : (circuit me : ℕ) (v : Version) (asked : Asked) (text : List ℕ) (row next : Row) (reply : Reply) → text ≡ sent_back circuit me v asked (Accepted (voted_entry row.vote)) → Votes ≡ reply → row ≡ next → text ≡ reply_text circuit me v asked reply next
voted_text circuit me v asked text row next reply sent votes after = rw (← votes, ← after) sent
