-- Nothing of the station's own waits, so nothing is answered to it.
use Rattle.std.proofs.Common.{◌≡◌, ◌≢◌, ℕ, List, [], ◌∷◌, length, Option, Some, None, IfSome, sym, ap, ◌∙◌, arith}
use Rattle.std.specs.Prelude.{◌-◌}
use Rattle.std.proofs.lemmas.List.{get_or-set_other}
use Rattle.roll_call.specs.declared.ask.Ask.{Ask}
use Rattle.roll_call.specs.Answers.{AskerValue, AnswersValue, answered, asker_at, nobody, waiting_for, TakesTurn}

-- the member whose turn it is waits for something
apart :
    (own now : ℕ) (ask : Ask) (to : ℕ) (old new : AnswersValue) → waiting_for own old ≡ [] → TakesTurn now (Some (ask, to)) old new → own - 1 ≢ to - 1
apart own now ask to old new none turn same =
    let e : length {A = Ask} [] ≡ length (ask ∷ waiting_for to new) =
    ap (λ (l : List Ask). length l) (sym (ap (λ (k : ℕ). (asker_at k old).waiting) (sym same) ∙ none) ∙ turn.1) in
    omega (arith, e)

pub take_apart :
    (own now : ℕ) (r : Option (Ask × ℕ)) (old new : AnswersValue) → waiting_for own old ≡ [] → TakesTurn now r old new → IfSome r (λ p. ¬ (p.1 ≡ own))
take_apart own now None old new none turn = tt
take_apart own now (Some (ask, to)) old new none turn = λ same. apart own now ask to old new none turn (ap (λ (k : ℕ). k - 1) (sym same))

pub take_still :
    (own now : ℕ) (r : Option (Ask × ℕ)) (old new : AnswersValue) → waiting_for own old ≡ [] → TakesTurn now r old new → waiting_for own new ≡ []
take_still own now None old new none turn = ap (waiting_for own) turn.1 ∙ none
take_still own now (Some (ask, to)) old new none turn =
    let s : AskerValue = record (answered now (asker_at (to - 1) old)) { waiting = waiting_for to new } in
    ap (waiting_for own) turn.2
    ∙ ap (λ (s : AskerValue). s.waiting) (get_or-set_other old.askers (to - 1) (own - 1) s nobody (apart own now ask to old new none turn))
    ∙ none
