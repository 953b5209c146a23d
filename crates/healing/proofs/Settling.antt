-- Numbers of a list put into another stage, one after the other.
use Rattle.std.proofs.Common.{◌≡◌, ℕ, Bool, true, false, not, List, [], ◌∷◌, ◌++◌, ◌<◌, ◌+◌, length, take, get_or, Option, Some, None, refl, sym, ap, subst, ◌∙◌, true≢false, eqb, eq-eqb, ne_eqb, inl, inr}
use Rattle.std.specs.Prelude.{if◌then◌else◌, ◌&&◌, ◌||◌}
use Rattle.std.specs.Option.{option_map}
use Rattle.std.proofs.lemmas.Bool.{eqb-true, cases_eq}
use Rattle.std.proofs.lemmas.List.{take_more}
use Rattle.healing.specs.declared.case.LackedNumber.{LackedNumber}
use Rattle.healing.specs.declared.case.LackStage.TheVariants.{Left}
use Rattle.healing.specs.Cases.{is_due, is_over, settled, with_stage, was_recalled, has_vote}
use Rattle.healing.specs.Lists.{is_among}
use Rattle.healing.specs.Healing.{case_in, CaseIsPut, IsDueIn, AreDueIn}
use Rattle.healing.proofs.OneMore.{among_more}

-- each of these numbers was changed so
abbrev pub AreChanged : (LackedNumber → LackedNumber) → List ℕ → List (ℕ × LackedNumber) → List (ℕ × LackedNumber) → Type 0
AreChanged change numbers old new = (n : ℕ) → case_in new n ≡ (if is_among numbers n then option_map change (case_in old n) else case_in old n)

twice : (change : LackedNumber → LackedNumber) → ((c : LackedNumber) → change (change c) ≡ change c) → (c : Option LackedNumber) → option_map change (option_map change c) ≡ option_map change c
twice change same None = refl
twice change same (Some c) = ap Some (same c)

changed :
    (change : LackedNumber → LackedNumber) → ((c : LackedNumber) → change (change c) ≡ change c) → (a b : Bool) (was here now : Option LackedNumber)
    → now ≡ (if a then option_map change was else was) → (b ≡ true → here ≡ now)
    → (if b then option_map change here else now) ≡ (if (a || b) then option_map change was else was)
changed change same true true was here now is at = ap (option_map change) (at refl ∙ is) ∙ twice change same was
changed change same false true was here now is at = ap (option_map change) (at refl ∙ is)
changed change same true false was here now is at = is
changed change same false false was here now is at = is

eqb_sym : (n k : ℕ) → eqb n k ≡ eqb k n
eqb_sym n k =
    elim (cases_eq n k) [
      | inl same ↦ eq-eqb n k same ∙ sym (eq-eqb k n (sym same))
      | inr other ↦ ne_eqb n k other ∙ sym (ne_eqb k n (λ e. other (sym e)))
    ]

-- one number more was changed
pub one_changed :
    (change : LackedNumber → LackedNumber) → ((c : LackedNumber) → change (change c) ≡ change c) → (numbers : List ℕ) (k : ℕ) (old mid new : List (ℕ × LackedNumber))
    → AreChanged change numbers old mid → CaseIsPut mid new k (option_map change (case_in mid k)) → AreChanged change (numbers ++ k ∷ []) old new
one_changed change same numbers k old mid new before put n =
    put n
    ∙ changed change same (is_among numbers n) (eqb n k) (case_in old n) (case_in mid k) (case_in mid n) (before n) (λ e. ap (case_in mid) (sym (eqb-true n k e)))
    ∙ ap (λ (b : Bool). if b then option_map change (case_in old n) else case_in old n)
    (ap (λ (b : Bool). is_among numbers n || b) (eqb_sym n k) ∙ sym (among_more numbers k n))

-- to be settled twice is to be settled
pub settled_twice : (now : ℕ) (c : LackedNumber) → settled now (settled now c) ≡ settled now c
settled_twice now c = go (was_recalled c.stage now && not (has_vote c)) refl
  where
    go : (b : Bool) → (was_recalled c.stage now && not (has_vote c)) ≡ b → settled now (if b then with_stage Left c else c) ≡ (if b then with_stage Left c else c)
    go true left = refl
    go false stays = ap (λ (b : Bool). if b then with_stage Left c else c) stays

some_same : {c d : LackedNumber} → Some c ≡ Some d → c ≡ d
some_same e = cc

no_some : {c : LackedNumber} → None ≡ Some c → ⊥
no_some e = cc

-- what is due was not left
stays : (now : ℕ) (c : LackedNumber) (b : Bool) → is_due (if b then with_stage Left c else c) now ≡ true → (if b then with_stage Left c else c) ≡ c
stays now c true due = absurd (true≢false (sym due))
stays now c false due = refl

back : (now : ℕ) (y : Option LackedNumber) (c : LackedNumber) → option_map (settled now) y ≡ Some c → is_due c now ≡ true → y ≡ Some c
back now None c e due = absurd (no_some e)
back now (Some d) c e due =
    let is : settled now d ≡ c = some_same e in
    let stayed : settled now d ≡ d = stays now d (is_over d now && not (has_vote d)) (ap (λ (k : LackedNumber). is_due k now) is ∙ due) in
    ap Some (sym stayed ∙ is)

-- a number that is due after all were settled was so before
due_before :
    (old new : List (ℕ × LackedNumber)) (now : ℕ) → ((n : ℕ) → case_in new n ≡ option_map (settled now) (case_in old n)) → (n : ℕ) → IsDueIn new now n → IsDueIn old now n
due_before old new now all n h = (h.0, back now (case_in old n) h.0 (sym (all n) ∙ h.1) h.2, h.2)

pub all_due :
    (old new : List (ℕ × LackedNumber)) (now : ℕ) → ((n : ℕ) → case_in new n ≡ option_map (settled now) (case_in old n))
    → (ns : List ℕ) → AreDueIn new now ns → AreDueIn old now ns
all_due old new now all [] due = tt
all_due old new now all (n ∷ ns) due = (due_before old new now all n due.0, all_due old new now all ns due.1)

-- one place more was changed
pub next_changed :
    (change : LackedNumber → LackedNumber) → ((c : LackedNumber) → change (change c) ≡ change c) → (numbers : List ℕ) (i k : ℕ) (old mid new : List (ℕ × LackedNumber))
    → i < length numbers → k ≡ get_or numbers i 0 → AreChanged change (take i numbers) old mid → CaseIsPut mid new k (option_map change (case_in mid k))
    → AreChanged change (take (i + 1) numbers) old new
next_changed change same numbers i k old mid new within is before put =
    subst (λ (l : List ℕ). AreChanged change l old new) (ap (λ (m : ℕ). take i numbers ++ m ∷ []) is ∙ sym (take_more numbers i 0 within))
    (one_changed change same (take i numbers) k old mid new before put)
