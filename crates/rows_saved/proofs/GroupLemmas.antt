-- A map, and rows that are put into it one after the other.
use Rattle.std.proofs.Common.{◌≡◌, ◌⊎◌, inl, inr, ◌<◌, ◌≤◌, ◌++◌, ◌==◌, ℕ, zero, suc, Bool, true, false, List, [], ◌∷◌, length, take, drop, Some, None, Option, Result, Ok, Err, OnErr, refl, sym, ap, subst, ◌∙◌, arith}
use Rattle.std.specs.Prelude.{slice_get, slice_index_or, ◌-◌, if◌then◌else◌}
use Rattle.std.specs.List.{AllByRecursion}
use Rattle.std.proofs.lemmas.Option.{slice_get-get_or}
use Rattle.protocol.specs.Rows.{Row}
use Rattle.rows_saved.specs.Saved.{Saved, SameRows, WithRow, IsEither, with_row}
use Rattle.rows_saved.specs.declared.rows.Rows.{Ghosts}
use Rattle.rows_saved.specs.Groups.{with_all, WithAll, WithSome, last_of, or_this}

-- ---- lists

pub take_more : {X : Type 0} (xs : List X) (i : ℕ) (x : X) → slice_get xs i ≡ Some x → take (suc i) xs ≡ take i xs ++ x ∷ []
take_more [] i x e = cc
take_more (y ∷ ys) zero x e = let same : y ≡ x = cc in ap (λ z. z ∷ []) same
take_more (y ∷ ys) (suc i) x e = ap (λ zs. y ∷ zs) (take_more ys i x e)

pub all_at : {X : Type 0} (P : X → Type 0) (xs : List X) (i : ℕ) (x : X) → slice_get xs i ≡ Some x → AllByRecursion P xs → P x
all_at P [] i x e all = absurd cc
all_at P (y ∷ ys) zero x e all = let same : y ≡ x = cc in subst P same all.0
all_at P (y ∷ ys) (suc i) x e all = all_at P ys i x e all.1

pub on_err : {A E P : Type 0} (r : Result A E) → P → OnErr r P
on_err (Ok a) p = tt
on_err (Err e) p = p

-- ---- maps

same_row : (a b : Saved) (n : ℕ) (row : Row) → SameRows a b → SameRows (with_row a n row) (with_row b n row)
same_row a b n row same k = ap (λ r. if k == n then row else r) (same k)

-- what is put into equal maps leaves equal maps
pub same_all : (items : List (ℕ × Row)) (a b : Saved) → SameRows a b → SameRows (with_all a items) (with_all b items)
same_all [] a b same = same
same_all (p ∷ ps) a b same = same_all ps (with_row a p.0 p.1) (with_row b p.0 p.1) (same_row a b p.0 p.1 same)

-- the last is put in behind all others
pub last_in : (items : List (ℕ × Row)) (saved : Saved) (p : ℕ × Row) → with_all saved (items ++ p ∷ []) ≡ with_row (with_all saved items) p.0 p.1
last_in [] saved p = refl
last_in (q ∷ qs) saved p = last_in qs (with_row saved q.0 q.1) p

-- one more is put in
pub one_in : (items : List (ℕ × Row)) (old mid new : Saved) (n : ℕ) (row : Row) → WithAll old items mid → WithRow mid n row new → WithAll old (items ++ (n, row) ∷ []) new
one_in items old mid new n row all one k =
    one k ∙ ap (λ r. if k == n then row else r) (all k) ∙ sym (ap (λ (m : Saved). m k) (last_in items old (n, row)))

-- a map in which nothing is changed
pub none_in : (items : List (ℕ × Row)) (old mid new : Saved) → WithAll old items mid → SameRows mid new → WithAll old items new
none_in items old mid new all same k = same k ∙ all k

-- the row that is found where none of these stands under the number, and else the last that does
abbrev pub found : Option Row → Row → Row
found None row = row
found (Some last) row = last

pub last_is : (items : List (ℕ × Row)) (saved : Saved) (n : ℕ) → with_all saved items n ≡ found (last_of items n) (saved n)
last_is [] saved n = refl
last_is (p ∷ ps) saved n = last_is ps (with_row saved p.0 p.1) n ∙ later (last_of ps n)
  where
    here : (b : Bool) → (if b then p.1 else saved n) ≡ found (if b then Some p.1 else None) (saved n)
    here true = refl
    here false = refl

    later : (o : Option Row) → found o (with_row saved p.0 p.1 n) ≡ found (or_this o (if n == p.0 then Some p.1 else None)) (saved n)
    later (Some last) = refl
    later None = here (n == p.0)

-- the last of the rest is the last of all
pub last_from : (items : List (ℕ × Row)) (k n : ℕ) (row : Row) → last_of (drop k items) n ≡ Some row → last_of items n ≡ Some row
last_from [] zero n row e = e
last_from [] (suc k) n row e = e
last_from (p ∷ ps) zero n row e = e
last_from (p ∷ ps) (suc k) n row e = ap (λ o. or_this o (if n == p.0 then Some p.1 else None)) (last_from ps k n row e)

-- of the rest none stands under the number, and here is one, or none
pub last_here : (items : List (ℕ × Row)) (i n : ℕ) (item : ℕ × Row) → slice_get items i ≡ Some item → last_of (drop (suc i) items) n ≡ None
    → last_of (drop i items) n ≡ (if n == item.0 then Some item.1 else None)
last_here [] i n item at none = cc
last_here (p ∷ ps) zero n item at none = let same : p ≡ item = cc in
    ap (λ o. or_this o (if n == p.0 then Some p.1 else None)) none ∙ ap (λ (q : ℕ × Row). if n == q.0 then Some q.1 else None) same
last_here (p ∷ ps) (suc i) n item at none = last_here ps i n item at none

-- the last that was looked at stands under the number, and none of the rest does
pub last_hit : (items : List (ℕ × Row)) (b n : ℕ) (looked item : ℕ × Row) → b ≤ length items → 0 < b → looked ≡ slice_index_or items (b - 1) looked
    → item ≡ slice_index_or items (b - 1) item → (n == looked.0) ≡ true → last_of (drop b items) n ≡ None → Some item.1 ≡ last_of items n
last_hit items b n looked item within some looks is hit none =
    let i = b - 1 in
    let next : b ≡ suc i = omega (arith, some) in
    let at_looked : slice_get items i ≡ Some looked = slice_get-get_or items i looked (omega (arith, within, some)) ∙ ap Some (sym looks) in
    let at : slice_get items i ≡ Some item = slice_get-get_or items i item (omega (arith, within, some)) ∙ ap Some (sym is) in
    let both : Some looked ≡ Some item = sym at_looked ∙ at in
    let same : looked ≡ item = cc in
    let here : (n == item.0) ≡ true = subst (λ (p : ℕ × Row). (n == p.0) ≡ true) same hit in
    let last = last_here items i n item at (subst (λ (k : ℕ). last_of (drop k items) n ≡ None) next none) in
    sym (last_from items i n item.1 (last ∙ ap (λ b. if b then Some item.1 else None) here))

-- ---- rows that were put one after the other

-- so many of these were put
pub record SoFar {R : Type 0} (x : Ghosts R) (items : List (ℕ × Row)) (i : ℕ) (old new : R) : Type 0 where
  pub saved : x.kept new → WithAll (x.saved old) (take i items) (x.saved new)
  pub opened : x.kept new → x.is_open old → x.is_open new
  pub version : x.version new ≡ x.version old
  pub counts : x.refusals old ≤ x.refusals new
  pub made : x.made old → x.made new
  pub was_kept : x.kept new → x.kept old
  pub was_open : x.kept new → x.is_open new → x.is_open old

pub none_yet : {R : Type 0} (x : Ghosts R) (items : List (ℕ × Row)) (s : R) → SoFar x items 0 s s
none_yet x items s = record {
  saved = λ kept n. refl;
  opened = λ kept o. o;
  version = refl;
  counts = omega arith;
  made = λ m. m;
  was_kept = λ k. k;
  was_open = λ k o. o;
}

-- what the next of them left
pub next_left : {R : Type 0} (x : Ghosts R) (items : List (ℕ × Row)) (i : ℕ) (item : ℕ × Row) (old mid new : R) → slice_get items i ≡ Some item → SoFar x items i old mid
    → x.kept mid → (¬ x.is_open new) ⊎ IsEither (x.saved mid) item.0 item.1 (x.saved new) → i < length items
    → (¬ x.is_open new) ⊎ WithSome (x.saved old) items (x.saved new)
next_left x items i item old mid new at h kept (inl shut) below = inl shut
next_left x items i item old mid new at h kept (inr (inl same)) below =
    inr (record { many = i; within = omega (arith, below); saved = none_in (take i items) (x.saved old) (x.saved mid) (x.saved new) (h.saved kept) same })
next_left x items i item old mid new at h kept (inr (inr one)) below =
    inr (record {
      many = suc i;
      within = omega (arith, below);
      saved = subst (λ l. WithAll (x.saved old) l (x.saved new)) (sym (take_more items i item at)) (one_in (take i items) (x.saved old) (x.saved mid) (x.saved new) item.0 item.1 (h.saved kept) one);
    })
