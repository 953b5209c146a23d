-- The member whose turn it is has a number that waits.
use Rattle.std.proofs.Common.{◌≡◌, ℕ, Bool, true, false, ◌&&◌, List, [], length, drop, Option, Some, None, refl, sym, ap, subst, ◌∙◌, true≢false, nat_lt}
use Rattle.std.specs.Prelude.{position}
use Rattle.std.proofs.lemmas.List.{get_or-drop}
use Rattle.std.proofs.lemmas.List.Quantifiers.{position-Some}
use Rattle.std.proofs.lemmas.Option.{same_Some}
use Rattle.roll_call.specs.declared.ask.Ask.{Ask}
use Rattle.roll_call.specs.Answers.{AskerValue, AnswersValue, nobody, is_ready, turn_of, turn_from, asker_at}

-- the place whose turn it is is ready
pub turn_ready : (now : ℕ) (a : AnswersValue) (place : ℕ) → turn_of now a ≡ Some place → is_ready now (asker_at place a) ≡ true
turn_ready now a place turn = go (position (is_ready now) (drop a.next a.askers)) refl turn
  where
    go : (o : Option ℕ) → position (is_ready now) (drop a.next a.askers) ≡ o → turn_from o a.next (position (is_ready now) a.askers) ≡ Some place → is_ready now (asker_at place a) ≡ true
    go (Some i) at is =
        subst (λ (k : ℕ). is_ready now (asker_at k a) ≡ true) (same_Some _ _ is)
        (ap (is_ready now) (sym (get_or-drop a.next a.askers i nobody)) ∙ (position-Some (is_ready now) (drop a.next a.askers) i nobody at).1)
    go None at is = (position-Some (is_ready now) a.askers place nobody is).1

false_and : (a b : Bool) → a ≡ false → (a && b) ≡ false
false_and true b is = absurd (true≢false is)
false_and false b is = refl

-- and so a number waits there
pub ready_waits : (now : ℕ) (s : AskerValue) → is_ready now s ≡ true → ¬ (s.waiting ≡ [])
ready_waits now s ready none = true≢false (sym ready ∙ false_and (nat_lt 0 (length s.waiting)) _ (ap (λ (l : List Ask). nat_lt 0 (length l)) none))
