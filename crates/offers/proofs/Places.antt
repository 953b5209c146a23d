-- The places at which files are read or refused: those that are no searches first, then the searches.
use Rattle.std.proofs.Common.{◌≡◌, ℕ, ◌+◌, ◌-◌, ◌<◌, ◌≤◌, List, Option, Some, None, IfSome, IsSome, Bool, true, false, length, get_or, ◌&&◌, refl, sym, ◌∙◌, arith}
use Rattle.offers.specs.declared.marks.Marks.{Marks}
use Rattle.offers.specs.Left.{NoOthers, IsOtherAt, read_place}
use Rattle.offers.specs.Marks.{flag, is_among, IsMarked}
use Rattle.offers.specs.Moments.{moment_at, NoneIn}
use Rattle.offers.specs.Order.{is_search}
use Rattle.offers.specs.Rules.{Standing, has_other_of}
use Rattle.offers.proofs.Marking.{inside_some}

-- ---- of one file: whether it is one of those that are marked so, and whether it is read or refused

-- one that is not marked is not, where it is one of them
no_mark : (s k has : Bool) → flag (is_among s k && has) ≡ None → k ≡ s → has ≡ false
no_mark true true true none e = cc
no_mark true true false none e = refl
no_mark true false has none e = cc
no_mark false true has none e = cc
no_mark false false true none e = cc
no_mark false false false none e = refl

is_none : IsSome {T = ℕ} None → ⊥
is_none h = cc

-- one that is marked is, and is one of them
mark_has : (s k has : Bool) → IsSome (flag (is_among s k && has)) → has ≡ true
mark_has true true true h = refl
mark_has true true false h = absurd (is_none h)
mark_has true false has h = absurd (is_none h)
mark_has false true has h = absurd (is_none h)
mark_has false false true h = refl
mark_has false false false h = absurd (is_none h)

mark_is : (s k has : Bool) → IsSome (flag (is_among s k && has)) → k ≡ s
mark_is true true has h = refl
mark_is true false has h = absurd (is_none h)
mark_is false true has h = absurd (is_none h)
mark_is false false has h = refl

-- where a place is one of those before the searches, its file is no search
no_search : (many i high : ℕ) (k : Bool) → high ≤ many → read_place many i k < high → (k ≡ false) × (i < high)
no_search many i high true le lt = absurd (omega arith)
no_search many i high false le lt = (refl, lt)

own_place : (many i low : ℕ) (k : Bool) → k ≡ false → low ≤ read_place many i k → low ≤ i
own_place many i low true e le = cc
own_place many i low false e le = le

-- ---- those that are no searches

entries_none : (b : Standing) (m : Marks) (low high : ℕ) → IsMarked b m → high ≤ length b.files → NoneIn m.others low high → NoOthers b low high
entries_none b m low high marked le none = λ i d within from lt.
    let own = no_search (length b.files) i high (is_search (get_or b.files i d).request.kind) le lt in
    let low_is = own_place (length b.files) i low (is_search (get_or b.files i d).request.kind) own.0 from in
    no_mark false _ (has_other_of b (get_or b.files i d)) (sym (marked.others.is i d within) ∙ none i low_is own.1) own.0

fewer : (moments : List (Option ℕ)) (low high end : ℕ) → high ≤ end → NoneIn moments low end → NoneIn moments low high
fewer moments low high end le none = λ i from lt. none i from (omega arith)

pub no_entry : (b : Standing) (m : Marks) (low : ℕ) → IsMarked b m → NoneIn m.others low (length m.others) → NoOthers b low (length b.files)
no_entry b m low marked none = entries_none b m low (length b.files) marked (omega arith) (fewer m.others low (length b.files) (length m.others) marked.others.room none)

pub entry_at : (b : Standing) (m : Marks) (i : ℕ) → IsMarked b m → IsSome (moment_at m.others i) → IsOtherAt b i i
entry_at b m i marked some =
    let within = inside_some _ b.files m.others i marked.others some in
    record {
      within = within;
      place = λ d. let kind = mark_is false (is_search (get_or b.files i d).request.kind) (has_other_of b (get_or b.files i d)) (rw (marked.others.is i d within) at some) in rw kind refl;
      has = λ d. mark_has false (is_search (get_or b.files i d).request.kind) _ (rw (marked.others.is i d within) at some);
    }

pub before_entry : (b : Standing) (m : Marks) (low i : ℕ) → IsMarked b m → IsSome (moment_at m.others i) → NoneIn m.others low i → NoOthers b low i
before_entry b m low i marked some none = let within = inside_some _ b.files m.others i marked.others some in entries_none b m low i marked (omega arith) none

-- ---- the searches

pub search_at : (b : Standing) (m : Marks) (i : ℕ) → IsMarked b m → IsSome (moment_at m.sought i) → IsOtherAt b (length b.files + i) i
search_at b m i marked some =
    let within = inside_some _ b.files m.sought i marked.sought some in
    record {
      within = within;
      place = λ d. let kind = mark_is true (is_search (get_or b.files i d).request.kind) (has_other_of b (get_or b.files i d)) (rw (marked.sought.is i d within) at some) in rw kind refl;
      has = λ d. mark_has true (is_search (get_or b.files i d).request.kind) _ (rw (marked.sought.is i d within) at some);
    }

-- ---- what was found of them

pub found_entry : (b : Standing) (m : Marks) (x : Option ℕ) → IsMarked b m → IfSome x (λ i. (b.others ≤ i) × (i < length m.others) × IsSome (moment_at m.others i)) → IfSome x (λ i. IsOtherAt b i i)
found_entry b m None marked some = tt
found_entry b m (Some i) marked some = entry_at b m i marked some.2

pub found_before_entry : (b : Standing) (m : Marks) (x : Option ℕ) → IsMarked b m → IfSome x (λ i. (b.others ≤ i) × (i < length m.others) × IsSome (moment_at m.others i)) → IfSome x (λ i. NoneIn m.others b.others i) → IfSome x (λ i. NoOthers b b.others i)
found_before_entry b m None marked some none = tt
found_before_entry b m (Some i) marked some none = before_entry b m b.others i marked some.2 none

pub found_search : (b : Standing) (m : Marks) (x : Option ℕ) → IsMarked b m → IfSome x (λ i. (b.others - length b.files ≤ i) × (i < length m.sought) × IsSome (moment_at m.sought i)) → IfSome x (λ i. IsOtherAt b (length b.files + i) i)
found_search b m None marked some = tt
found_search b m (Some i) marked some = search_at b m i marked some.2
