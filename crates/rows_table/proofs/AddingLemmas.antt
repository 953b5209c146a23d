-- Entries that are added one after the other, in a transaction.
use Rattle.std.proofs.Common.{◌≡◌, inl, ℕ, suc, zero, ◌≤◌, ◌+◌, List, [], ◌∷◌, drop, length, Some, IsTrue, refl, ap, subst, ◌∙◌, arith}
use Rattle.std.specs.Prelude.{slice_get}
use Rattle.sqlite_value.specs.Order.{Row}
use Rattle.sqlite_trees.specs.Tree.{Trees, put_row}
use Rattle.sqlite.proofs.StateLemmas.{survives_then}
use Rattle.sqlite.specs.State.{State, HasCleanDisk, KeepsCommit, Survives}
use Rattle.rows_table.specs.Entries.{HasEntries, entry_row, with_entries}
use Rattle.rows_table.specs.Tables.{LayoutOrigin}
use Rattle.rows_table.specs.declared.entry_table.EntryColumns.{EntryColumns}

-- what survives each of two statements survives both
pub survives_both : (a b c : State) → Survives a b (λ _. ⊥) → Survives b c (λ _. ⊥) → Survives a c (λ _. ⊥)
survives_both a b c f s = survives_then a b c (λ _. ⊥) (λ _. ⊥) (λ _. ⊥) (λ _ db x. x) (λ _ db x. x) f s

-- what each of two statements keeps of the last commit both keep
pub kept_then : (a b c : State) → KeepsCommit a b → KeepsCommit b c → KeepsCommit a c
kept_then a b c f s = record { was_open = λ o. f.was_open (s.was_open o); committed = λ o. s.committed o ∙ f.committed (s.was_open o) }

-- from a place on a list has what stands there and then the rest
drop_here : {X : Type 0} (xs : List X) (i : ℕ) (x : X) → slice_get xs i ≡ Some x → drop i xs ≡ x ∷ drop (suc i) xs
drop_here [] i x e = cc
drop_here (y ∷ ys) zero x e = let same : y ≡ x = cc in ap (λ z. z ∷ ys) same
drop_here (y ∷ ys) (suc i) x e = drop_here ys i x e

drop_more : {X : Type 0} (xs : List X) (i : ℕ) (x : X) → slice_get xs i ≡ Some x → drop i xs ≡ x ∷ drop (i + 1) xs
drop_more xs i x e = let next : suc i ≡ i + 1 = omega arith in subst (λ (k : ℕ). drop i xs ≡ x ∷ drop k xs) next (drop_here xs i x e)

-- so many of the entries were added, and what is still to be added makes the whole table of it
pub record Added (entries : List EntryColumns) (i : ℕ) (old new : State) : Type 0 where
  pub added : HasCleanDisk new
      → (origin : LayoutOrigin) (before : Trees) (rows : List Row) → HasEntries origin before rows old → (now : List Row) × HasEntries origin before now new × (with_entries (drop i entries) now ≡ with_entries entries rows)
  pub inside : HasCleanDisk new → IsTrue old.in_transaction → IsTrue new.in_transaction
  pub kept : HasCleanDisk new → IsTrue old.in_transaction → KeepsCommit old new
  pub survives : Survives old new (λ _. ⊥)

pub none_added : (entries : List EntryColumns) (s : State) → Added entries 0 s s
none_added entries s = record {
  added = λ clean origin before rows has. (rows, has, refl);
  inside = λ clean i. i;
  kept = λ clean i. record { was_open = λ o. o; committed = λ o. refl };
  survives = record { clean = omega arith; shield = λ x. x; counts = omega arith; limit = refl; closes = λ clean o. inl o; crash = λ clean db left. inl left };
}

pub one_added :
    (entries : List EntryColumns) (i : ℕ) (e : EntryColumns) (old mid new : State) → slice_get entries i ≡ Some e → Added entries i old mid → Survives mid new (λ _. ⊥)
    → (HasCleanDisk new → (origin : LayoutOrigin) (before : Trees) (rows : List Row) → HasEntries origin before rows mid → HasEntries origin before (put_row (entry_row e) rows) new)
    → (HasCleanDisk new → IsTrue mid.in_transaction → IsTrue new.in_transaction)
    → (HasCleanDisk new → IsTrue mid.in_transaction → KeepsCommit mid new)
    → Added entries (i + 1) old new
one_added entries i e old mid new at h survives puts inside kept = record {
  added = λ clean origin before rows has.
      let (now, there, same) = h.added (early clean) origin before rows has in
      (put_row (entry_row e) now, puts clean origin before now there, subst (λ (l : List EntryColumns). with_entries l now ≡ with_entries entries rows) (drop_more entries i e at) same);
  inside = λ clean in_. inside clean (h.inside (early clean) in_);
  kept = λ clean in_. kept_then old mid new (h.kept (early clean) in_) (kept clean (h.inside (early clean) in_));
  survives = survives_both old mid new h.survives survives;
}
  where
    early : HasCleanDisk new → HasCleanDisk mid
    early clean = omega (arith, survives.clean, clean)

drop_past : {X : Type 0} (xs : List X) (i : ℕ) → length xs ≤ i → drop i xs ≡ []
drop_past [] zero l = refl
drop_past [] (suc i) l = refl
drop_past (x ∷ xs) zero l = absurd (omega (arith, l))
drop_past (x ∷ xs) (suc i) l = drop_past xs i (omega (arith, l))

pub all_added : (entries : List EntryColumns) (i : ℕ) (old new : State) → length entries ≤ i → Added entries i old new → HasCleanDisk new
    → (origin : LayoutOrigin) (before : Trees) (rows : List Row) → HasEntries origin before rows old → HasEntries origin before (with_entries entries rows) new
all_added entries i old new past h clean origin before rows has =
    let (now, there, same) = h.added clean origin before rows has in
    subst (λ (l : List Row). HasEntries origin before l new) (subst (λ (l : List EntryColumns). with_entries l now ≡ with_entries entries rows) (drop_past entries i past) same) there
