-- How many are of a member.
use Rattle.std.proofs.Common.{◌≡◌, ℕ, suc, ◌+◌, ◌<◌, ◌≤◌, inl, inr, cond, eqb, Bool, List, [], ◌∷◌, ◌++◌, length, get_or, refl, ap, subst, ◌∙◌, arith}
use Rattle.std.specs.Prelude.{remove}
use Rattle.std.specs.List.{All}
use Rattle.std.proofs.lemmas.Bool.{eq-eqb, ne_eqb, eqb-true, cases_Bool}
use Rattle.std.proofs.lemmas.List.Sums.{sum_by-append, sum_by_push, sum_by-set, sum_by-remove}
use Rattle.seals.specs.declared.label.Label.{Label}
use Rattle.seals.specs.declared.opening.KeyPlace.{KeyPlace}
use Rattle.seals.specs.declared.opening.KeyPlace.TheVariants as places
use Rattle.seals.specs.Parts.{Parts, blank, with_part}
use Rattle.seals.specs.Places.{IsBounded, IsReady, PutsAt, Roomed, count_from}

-- some packet, where a list has none
abbrev pub some_parts : Parts
some_parts = record { place = places.First; label = record { from = 1; to = 1; length = 0; id = [] }; have = []; bytes = [] }

-- 1 where it is of the member
abbrev pub one_of : ℕ → Parts → ℕ
one_of member p = cond (eqb p.label.from member) 1 0

removed : (member : ℕ) (old : List Parts) (n : ℕ) → n < length old → count_from member (remove old n) + one_of member (get_or old n some_parts) ≡ count_from member old
removed member old n inside = sum_by-remove (one_of member) old n some_parts inside

-- no more are left than there were
pub remove_counts : (old : List Parts) (n : ℕ) → n < length old → IsBounded old → IsBounded (remove old n)
remove_counts old n inside few member =
    let e = removed member old n inside in
    let most = few member in
    omega arith

pub roomed_counts : (member : ℕ) (old new : List Parts) → Roomed member old new → IsBounded old → IsBounded new
roomed_counts member old new (inl h) few m = rw h.1 (few m)
roomed_counts member old new (inr h) few m = rw h.3 (remove_counts old h.0 h.1 few m)

-- there is room for one more
roomed_less : (member : ℕ) (old new : List Parts) → Roomed member old new → IsBounded old → count_from member new < 4
roomed_less member old new (inl h) few = rw h.1 h.0
roomed_less member old new (inr h) few =
    let e = removed member old h.0 h.1 in
    let one : one_of member (get_or old h.0 some_parts) ≡ 1 = ap (λ (b : Bool). cond b 1 0) (eq-eqb _ _ (h.2 some_parts)) in
    let most = few member in
    rw h.3 (omega arith)

one_more : (from member n : ℕ) → (from ≡ member → n < 4) → n ≤ 4 → n + cond (eqb from member) 1 0 ≤ 4
one_more from member n less most = elim (cases_Bool (eqb from member)) as (λ _. n + cond (eqb from member) 1 0 ≤ 4) [
  | inl t ↦ let l = less (eqb-true _ _ t) in rw t (omega arith)
  | inr f ↦ rw f (omega arith)
]

push_counts : (label : Label) (place : KeyPlace) (roomed : List Parts) → IsBounded roomed → count_from label.from roomed < 4 → IsBounded (roomed ++ blank place label ∷ [])
push_counts label place roomed few less member =
    let e = sum_by_push (one_of member) roomed (blank place label) in
    let most = few member in
    let bound = one_more label.from member (count_from member roomed) (λ (same : label.from ≡ member). subst (λ (m : ℕ). count_from m roomed < 4) same less) most in
    omega arith

pub ready_counts : (place : KeyPlace) (label : Label) (old new : List Parts) (n : ℕ) → IsReady place label old new n → IsBounded old → IsBounded new
ready_counts place label old new n (inl h) few = λ m. rw h.1 (few m)
ready_counts place label old new n (inr h) few =
    let roomed = h.1.0 in
    let bounded = roomed_counts label.from old roomed h.1.1 few in
    let less = roomed_less label.from old roomed h.1.1 few in
    let pushed = push_counts label place roomed bounded less in
    λ m. rw h.1.2 (pushed m)

pub put_counts : (n index : ℕ) (part : List ℕ) (old new : List Parts) (whole : Bool) → n < length old → PutsAt n index part old new whole → IsBounded old → IsBounded new
put_counts n index part old new whole inside puts few = λ member.
    let p = get_or old n some_parts in
    let e = sum_by-set (one_of member) old n (with_part p index part) some_parts inside in
    let most = few member in
    rw (puts some_parts).0 (omega arith)

-- none is where each is of another
pub none_count : (member : ℕ) (slots : List Parts) → All (λ p. ¬ (p.label.from ≡ member)) slots → count_from member slots ≡ 0
none_count member [] others = refl
none_count member (x ∷ xs) others =
    let first : one_of member x ≡ 0 = ap (λ (b : Bool). cond b 1 0) (ne_eqb _ _ (others 0 x (omega arith))) in
    let rest = none_count member xs (λ k d lt. others (suc k) d (omega arith)) in
    let both = sum_by-append (one_of member) (x ∷ []) xs in
    let sum : 0 + one_of member x + count_from member xs ≡ 0 = omega arith in
    both ∙ sum
