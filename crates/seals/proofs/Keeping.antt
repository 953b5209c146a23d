-- What is known of a packet stays where others come and go.
use Rattle.std.proofs.Common.{◌≡◌, ◌≢◌, ℕ, suc, ◌+◌, ◌-◌, ◌<◌, ◌≤◌, ◌⊎◌, inl, inr, Bool, false, List, [], ◌∷◌, ◌++◌, length, take, drop, get_or, set, replicate, refl, sym, ap, subst, ◌∙◌, arith}
use Rattle.std.specs.Prelude.{remove}
use Rattle.std.specs.List.{All, HoldsAt}
use Rattle.std.proofs.lemmas.Bool.{cases_lt, cases_order}
use Rattle.std.proofs.lemmas.List.{length-set, length-take, length-take-le, length_push, take-append-le, take-take, take-set-le, get_or-take, get_or-set_other, get_or-set_same, get_or_append_left}
use Rattle.std.proofs.lemmas.List.Edits.{length-remove, get_or-remove_below, get_or-remove_above}
use Rattle.std.proofs.lemmas.List.Elements.{All-append, All-take, All-drop, All-set, All-push}
use Rattle.std.proofs.Math.Seq.{take-set-lt}
use Rattle.seals.specs.declared.label.Label.{Label}
use Rattle.seals.specs.declared.opening.KeyPlace.{KeyPlace}
use Rattle.seals.specs.Parts.{Parts, IsFor, blank, with_part}
use Rattle.seals.specs.Places.{IsFirst, IsReady, PutsAt, Roomed, Holds, Knows, Keeps, count_from}
use Rattle.seals.proofs.Counting.{some_parts}
use Rattle.seals.proofs.Knowing.{ready_for, ready_inside}

-- none is there and a fact, or the first is there and holds
abbrev Known : (Parts → Type 0) → (Parts → Type 0) → Type 0 → List Parts → Type 0
Known P Q A slots = (All (λ p. ¬ P p) slots × A) ⊎ ((n : ℕ) × IsFirst P slots n × HoldsAt Q slots n)

-- one that is none of these is put behind
keep_push : (P Q : Parts → Type 0) (A : Type 0) (slots : List Parts) (x : Parts) → ¬ P x → Known P Q A slots → Known P Q A (slots ++ x ∷ [])
keep_push P Q A slots x other_x (inl none) = inl (All-push (λ (p : Parts). ¬ P p) slots x none.0 other_x, none.1)
keep_push P Q A slots x other_x (inr some) =
    let n = some.0 in
    let f = some.1 in
    let inside = f.inside in
    let long = length_push slots x in
    let same : (d : Parts) → get_or (slots ++ x ∷ []) n d ≡ get_or slots n d = λ d. get_or_append_left slots (x ∷ []) d n inside in
    let first : IsFirst P (slots ++ x ∷ []) n = record {
      inside = omega arith;
      before = subst (λ (l : List Parts). All (λ p. ¬ P p) l) (sym (take-append-le n slots (x ∷ []) (omega arith))) f.before;
      here = λ d. subst P (sym (same d)) (f.here d);
    } in
    inr (n, first, λ d. subst Q (sym (same d)) (some.2 d))

-- the place of one that is none of these
elsewhere : (P : Parts → Type 0) (slots : List Parts) (n k : ℕ) → IsFirst P slots n → ¬ P (get_or slots k some_parts) → n ≢ k
elsewhere P slots n k f other_x same = other_x (subst (λ (m : ℕ). P (get_or slots m some_parts)) same (f.here some_parts))

-- one that is none of these is written over one that is none
keep_set : (P Q : Parts → Type 0) (A : Type 0) (slots : List Parts) (k : ℕ) (y : Parts) → ¬ P (get_or slots k some_parts) → ¬ P y → Known P Q A slots → Known P Q A (set slots k y)
keep_set P Q A slots k y other_x other_y (inl none) = inl (All-set (λ (p : Parts). ¬ P p) slots k y other_y none.0, none.1)
keep_set P Q A slots k y other_x other_y (inr some) =
    let n = some.0 in
    let f = some.1 in
    let inside = f.inside in
    let other = elsewhere P slots n k f other_x in
    let same : (d : Parts) → get_or (set slots k y) n d ≡ get_or slots n d = λ d. get_or-set_other slots k n y d other in
    let before : All (λ (p : Parts). ¬ P p) (take n (set slots k y)) = elim (cases_lt k n) as (λ _. All (λ (p : Parts). ¬ P p) (take n (set slots k y))) [
      | inl low ↦ subst (λ (l : List Parts). All (λ p. ¬ P p) l) (sym (take-set-lt n slots k y low)) (All-set (λ (p : Parts). ¬ P p) (take n slots) k y other_y f.before)
      | inr high ↦ subst (λ (l : List Parts). All (λ p. ¬ P p) l) (sym (take-set-le n slots k y high)) f.before
    ] in
    let first : IsFirst P (set slots k y) n = record {
      inside = let e = length-set slots k y in omega arith;
      before = before;
      here = λ d. subst P (sym (same d)) (f.here d);
    } in
    inr (n, first, λ d. subst Q (sym (same d)) (some.2 d))

-- one behind the first is taken out
remove_behind : (P Q : Parts → Type 0) (slots : List Parts) (n k : ℕ) → k < length slots → n < k → IsFirst P slots n → HoldsAt Q slots n → IsFirst P (remove slots k) n × HoldsAt Q (remove slots k) n
remove_behind P Q slots n k inside low f h =
    let short = length-remove slots k inside in
    let cut = length-take-le k slots (omega arith) in
    let same : (d : Parts) → get_or (remove slots k) n d ≡ get_or slots n d = λ d. get_or-remove_below slots k d n low inside in
    let front : take n (remove slots k) ≡ take n slots = take-append-le n (take k slots) (drop (suc k) slots) (omega arith) ∙ take-take n k slots (omega arith) in (
      record {
        inside = omega arith;
        before = subst (λ (l : List Parts). All (λ p. ¬ P p) l) (sym front) f.before;
        here = λ d. subst P (sym (same d)) (f.here d);
      },
      λ d. subst Q (sym (same d)) (h d),
    )

-- before the first of these stands none
not_before : (P : Parts → Type 0) (slots : List Parts) (n j : ℕ) (d : Parts) → IsFirst P slots n → j < n → ¬ P (get_or slots j d)
not_before P slots n j d f low =
    let inside = f.inside in
    let long = length-take n slots in
    subst (λ (p : Parts). ¬ P p) (get_or-take n slots j d low) (f.before j d (omega arith))

-- one before the first is taken out
remove_before : (P Q : Parts → Type 0) (slots : List Parts) (m k : ℕ) → k < length slots → k ≤ m → IsFirst P slots (m + 1) → HoldsAt Q slots (m + 1) → IsFirst P (remove slots k) m × HoldsAt Q (remove slots k) m
remove_before P Q slots m k inside high f h =
    let short = length-remove slots k inside in
    let last = f.inside in
    let same : (d : Parts) → get_or (remove slots k) m d ≡ get_or slots (m + 1) d = λ d. get_or-remove_above slots k d m high inside in
    let long = length-take m (remove slots k) in
    let before : All (λ (p : Parts). ¬ P p) (take m (remove slots k)) = λ j d lt.
    let low : j < m = omega arith in
    let at = get_or-take m (remove slots k) j d low in
    elim (cases_lt j k) as (λ _. ¬ P (get_or (take m (remove slots k)) j d)) [
      | inl left ↦ subst (λ (p : Parts). ¬ P p) (sym (at ∙ get_or-remove_below slots k d j left inside)) (not_before P slots (m + 1) j d f (omega arith))
      | inr right ↦ subst (λ (p : Parts). ¬ P p) (sym (at ∙ get_or-remove_above slots k d j right inside)) (not_before P slots (m + 1) (j + 1) d f (omega arith))
    ]
    in (
      record {
        inside = omega arith;
        before = before;
        here = λ d. subst P (sym (same d)) (f.here d);
      },
      λ d. subst Q (sym (same d)) (h d),
    )

-- one that is none of these is taken out
keep_remove : (P Q : Parts → Type 0) (A : Type 0) (slots : List Parts) (k : ℕ) → k < length slots → ¬ P (get_or slots k some_parts) → Known P Q A slots → Known P Q A (remove slots k)
keep_remove P Q A slots k inside other_x (inl none) =
    inl (All-append (λ (p : Parts). ¬ P p) (take k slots) (drop (suc k) slots) (All-take (λ (p : Parts). ¬ P p) k slots none.0) (All-drop (λ (p : Parts). ¬ P p) (suc k) slots none.0), none.1)
keep_remove P Q A slots k inside other_x (inr some) =
    let n = some.0 in
    let other = elsewhere P slots n k some.1 other_x in
    elim (cases_order n k) as (λ _. Known P Q A (remove slots k)) [
      | inl same ↦ absurd (other same)
      | inr (inl low) ↦ let r = remove_behind P Q slots n k inside low some.1 some.2 in inr (n, r.0, r.1)
      | inr (inr high) ↦
          let e : n ≡ n - 1 + 1 = omega arith in
          let r = remove_before P Q slots (n - 1) k inside (omega arith) (subst (IsFirst P slots) e some.1) (subst (HoldsAt Q slots) e some.2) in
          inr (n - 1, r.0, r.1)
    ]

-- ---- for the packets of other labels

keep_roomed : (P Q : Parts → Type 0) (A : Type 0) (member : ℕ) (old new : List Parts) → ((p : Parts) → p.label.from ≡ member → ¬ P p) ⊎ (count_from member old < 4) → Roomed member old new → Known P Q A old → Known P Q A new
keep_roomed P Q A member old new spared (inl same) known = subst (Known P Q A) (sym same.1) known
keep_roomed P Q A member old new (inl spared) (inr drops) known = subst (Known P Q A) (sym drops.3) (keep_remove P Q A old drops.0 drops.1 (spared (get_or old drops.0 some_parts) (drops.2 some_parts)) known)
keep_roomed P Q A member old new (inr few) (inr drops) known = let many = drops.4 in absurd (omega arith)

not_for : (place place' : KeyPlace) (label label' : Label) (p : Parts) → ¬ ((place' ≡ place) × (label' ≡ label)) → IsFor place label p → ¬ IsFor place' label' p
not_for place place' label label' p other f g = other (sym g.0 ∙ f.0, sym g.1 ∙ f.1)

not_from : (place' : KeyPlace) (label label' : Label) → label'.from ≢ label.from → (p : Parts) → p.label.from ≡ label.from → ¬ IsFor place' label' p
not_from place' label label' differ p from g = differ (sym (ap (λ (l : Label). l.from) g.1) ∙ from)

spares : (place' : KeyPlace) (label label' : Label) (old : List Parts) → (label'.from ≢ label.from) ⊎ (count_from label.from old < 4) → ((p : Parts) → p.label.from ≡ label.from → ¬ IsFor place' label' p) ⊎ (count_from label.from old < 4)
spares place' label label' old (inl differ) = inl (not_from place' label label' differ)
spares place' label label' old (inr few) = inr few

ready_keeps : (place : KeyPlace) (label : Label) (old new : List Parts) (n : ℕ) → IsReady place label old new n → Keeps place label old new
ready_keeps place label old new n (inl ready) = λ place' label' packet had other spared known. subst (Knows place' label' packet had) (sym ready.1) known
ready_keeps place label old new n (inr ready) = λ place' label' packet had other spared known.
    let roomed = ready.1.0 in
    let P : Parts → Type 0 = IsFor place' label' in
    let Q : Parts → Type 0 = Holds packet had in
    let A : Type 0 = had ≡ replicate 11 false in
    let left = keep_roomed P Q A label.from old roomed (spares place' label label' old spared) ready.1.1 known in
    let pushed = keep_push P Q A roomed (blank place label) (not_for place place' label label' (blank place label) other (refl, refl)) left in
    subst (Knows place' label' packet had) (sym ready.1.2) pushed

-- a part that is taken in
pub put_keeps : (place : KeyPlace) (label : Label) (index : ℕ) (part : List ℕ) (old mid new : List Parts) (n : ℕ) (whole : Bool) → IsReady place label old mid n → PutsAt n index part mid new whole → Keeps place label old new
put_keeps place label index part old mid new n whole ready puts = λ place' label' packet had other spared known.
    let P : Parts → Type 0 = IsFor place' label' in
    let Q : Parts → Type 0 = Holds packet had in
    let A : Type 0 = had ≡ replicate 11 false in
    let p = get_or mid n some_parts in
    let r = ready_for place label old mid n ready in
    let other_x : ¬ P p = not_for place place' label label' p other (r.1 some_parts) in
    let kept = ready_keeps place label old mid n ready place' label' packet had other spared known in
    subst (Knows place' label' packet had) (sym (puts some_parts).0) (keep_set P Q A mid n (with_part p index part) other_x other_x kept)

-- and the packet that is whole then taken out
pub whole_keeps : (place : KeyPlace) (label : Label) (index : ℕ) (part : List ℕ) (old mid new rest : List Parts) (n : ℕ) (whole : Bool) → IsReady place label old mid n → PutsAt n index part mid new whole → rest ≡ remove new n → Keeps place label old rest
whole_keeps place label index part old mid new rest n whole ready puts out = λ place' label' packet had other spared known.
    let P : Parts → Type 0 = IsFor place' label' in
    let Q : Parts → Type 0 = Holds packet had in
    let A : Type 0 = had ≡ replicate 11 false in
    let p = get_or mid n some_parts in
    let q = with_part p index part in
    let r = ready_for place label old mid n ready in
    let inside = ready_inside place label index part old mid new n whole ready puts in
    let here : get_or new n some_parts ≡ q = ap (λ (l : List Parts). get_or l n some_parts) (puts some_parts).0 ∙ get_or-set_same mid n q some_parts r.0 in
    let other_x : ¬ P (get_or new n some_parts) = subst (λ (x : Parts). ¬ P x) (sym here) (not_for place place' label label' q other (r.1 some_parts)) in
    let kept = put_keeps place label index part old mid new n whole ready puts place' label' packet had other spared known in
    subst (Knows place' label' packet had) (sym out) (keep_remove P Q A new n inside other_x kept)
