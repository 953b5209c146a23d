-- What was sent and what waits is what was handed out.
use Rattle.std.proofs.Common.{◌≡◌, ◌++◌, ◌∙◌, List, [], ◌∷◌, Result, Ok, Err, refl, sym, ap, append-nil, append_assoc}
use Rattle.std.specs.Prelude.{flat_map}
use Rattle.std.proofs.lemmas.Grind.{flat_map-append}
use Rattle.protocol.specs.Circuit.{Datagram}
use Rattle.protocol.specs.Refusals.{Offering, Seeking, Falling_due, Receiving, Recalling}
use Rattle.station.specs.declared.answer.Answer.{Answer}
use Rattle.refusals.specs.declared.refusal.StepRefusal.{StepRefusal}
use Rattle.rows_saved.specs.declared.rows.Rows.{Ghosts}
use Rattle.wire.specs.Passing.{Passed, Trace, sent}
use Rattle.driver.specs.Driving.{Fate}
use Rattle.driver.specs.Events.{Event, Aside, asked, took, stored, aside, heard, hailed, rolled, sending, going, going_by, passing_behind, waiting_behind}
use Rattle.process_days.specs.Cutting.{sent_in, sent_of}
use Rattle.process_days.specs.Ends.{GoodEndsSendAll, handed_in}

-- all that is handed out is to be sent
sent_sending : (out : List Datagram) → sent_of (sending out) ≡ sending out
sent_sending [] = refl
sent_sending (d ∷ out) = ap (λ (l : List Passed). sent d.to d.bytes ∷ l) (sent_sending out)

sent_going : (answer : Result Answer StepRefusal) → sent_of (going answer) ≡ going answer
sent_going (Ok answer) = sent_sending answer.out.items
sent_going (Err refusal) = refl

sent_by : (what : Aside) → sent_of (going_by what) ≡ going_by what
sent_by (heard rest) = refl
sent_by (hailed recall) = refl
sent_by (rolled roll) = refl

sent_both : (xs ys : List Passed) → sent_of xs ≡ xs → sent_of ys ≡ ys → sent_of (xs ++ ys) ≡ xs ++ ys
sent_both xs ys p q = flat_map-append sent_in xs ys ∙ ap (λ (l : List Passed). l ++ sent_of ys) p ∙ ap (λ (l : List Passed). xs ++ l) q

-- what was sent behind what waited, and what waits then
abbrev Accounts : List Passed → List Event → Type 0
Accounts waits log = sent_of (passing_behind waits log) ++ waiting_behind waits log ≡ waits ++ flat_map handed_in log

-- it waits behind what waited
accounts_more : (waits more : List Passed) (log : List Event) → Accounts (waits ++ more) log
    → sent_of (passing_behind (waits ++ more) log) ++ waiting_behind (waits ++ more) log ≡ waits ++ (more ++ flat_map handed_in log)
accounts_more waits more log it = it ∙ append_assoc waits more (flat_map handed_in log)

-- all that waited was sent
accounts_stored : (waits : List Passed) (log : List Event) → sent_of waits ≡ waits → Accounts [] log
    → sent_of (waits ++ passing_behind [] log) ++ waiting_behind [] log ≡ waits ++ flat_map handed_in log
accounts_stored waits log all it =
    let passed = passing_behind [] log in
    let left = waiting_behind [] log in
    ap (λ (l : List Passed). l ++ left) (flat_map-append sent_in waits passed ∙ ap (λ (l : List Passed). l ++ sent_of passed) all)
    ∙ append_assoc waits (sent_of passed) left ∙ ap (λ (l : List Passed). waits ++ l) it

accounts : (waits : List Passed) (log : List Event) → sent_of waits ≡ waits → Accounts waits log
accounts waits [] all = sym (append-nil waits)
accounts waits (asked moment ∷ log) all = accounts waits log all
accounts waits (stored (Ok unit) ∷ log) all = accounts_stored waits log all (accounts [] log refl)
accounts waits (stored (Err refusal) ∷ log) all = accounts waits log all
accounts waits (aside (heard rest) ∷ log) all =
    accounts_more waits [] log (accounts (waits ++ []) log (sent_both waits [] all refl))
accounts waits (aside (hailed recall) ∷ log) all =
    let more = going_by (hailed recall) in accounts_more waits more log (accounts (waits ++ more) log (sent_both waits more all (sent_by (hailed recall))))
accounts waits (aside (rolled roll) ∷ log) all =
    let more = going_by (rolled roll) in accounts_more waits more log (accounts (waits ++ more) log (sent_both waits more all (sent_by (rolled roll))))
accounts waits (took (Offering n entry now) answer ∷ log) all =
    accounts_more waits (going answer) log (accounts (waits ++ going answer) log (sent_both waits (going answer) all (sent_going answer)))
accounts waits (took (Seeking n now) answer ∷ log) all =
    accounts_more waits (going answer) log (accounts (waits ++ going answer) log (sent_both waits (going answer) all (sent_going answer)))
accounts waits (took (Falling_due now) answer ∷ log) all =
    accounts_more waits (going answer) log (accounts (waits ++ going answer) log (sent_both waits (going answer) all (sent_going answer)))
accounts waits (took (Receiving bytes now) answer ∷ log) all =
    accounts_more waits (going answer) log (accounts (waits ++ going answer) log (sent_both waits (going answer) all (sent_going answer)))
accounts waits (took (Recalling n to) answer ∷ log) all =
    accounts_more waits (going answer) log (accounts (waits ++ going answer) log (sent_both waits (going answer) all (sent_going answer)))

pub good_ends_send_all : {R N S : Type 0} (g : Ghosts R) (is_settled : R → Type 0) (passed : N → Trace) (fate : Fate S) → GoodEndsSendAll g is_settled passed fate
good_ends_send_all g is_settled passed fate old new log before behind driven =
    let left : waiting_behind [] log ≡ [] = ap (λ (l : List Passed). waiting_behind l log) (sym before) ∙ sym (driven.waits refl) ∙ behind in
    sym (append-nil (sent_of (passing_behind [] log))) ∙ ap (λ (l : List Passed). sent_of (passing_behind [] log) ++ l) (sym left) ∙ accounts [] log refl
