-- What is kept in mind of names that are passed over.
use Rattle.std.proofs.Common.{◌≡◌, ◌⊎◌, ◌∷◌, ◌++◌, [], ℕ, Bool, true, false, List, Option, Some, Result, Ok, Err, OnOk, OnErr, cond, inl, inr, ◌∙◌, refl, subst, ap}
use Rattle.std.specs.Prelude.{String, string_bytes}
use Rattle.std.specs.BTreeMap.{BTreeMap, get_by_text, is_at, IsUnchanged, Updates}
use Rattle.std.specs.Cmp.Lexicographic.{slice_cmp}
use Rattle.std.specs.Global.{Global}
use Rattle.std.specs.Map.{lookup}
use Rattle.std.specs.Ordering.{nat_cmp}
use Rattle.std.specs.Str.{bytes_eq}
use Rattle.std.specs.String.{string_cmp}
use Rattle.std.proofs.lemmas.Map.Text.{btree_map_updates_text}
use Rattle.std.proofs.lemmas.Slice.Eq.{bytes_eq-Decides}
use Rattle.protocol.specs.Lists.{IsAmong}
use Rattle.folders.specs.declared.folders.PassedOver.{PassedOver}
use Rattle.plant_log.specs.declared.standing.Standing.{Standing}
use Rattle.plant_log.specs.Standing.{StandsAfter}
use Rattle.plant_log.specs.Passing.{IsKeptOf, KeepsOne, Remembers}

picked : (last old new : BTreeMap (String Global) Standing) (now : ℕ) (each : PassedOver) (s : Standing) (name : List ℕ) (b : Bool) → bytes_eq (string_bytes each.name) name ≡ b
    → StandsAfter (get_by_text last (string_bytes each.name)) each.fault now s → get_by_text new name ≡ cond b (Some s) (get_by_text old name)
    → (get_by_text new name ≡ get_by_text old name) ⊎ ((s : Standing) × (get_by_text new name ≡ Some s) × IsKeptOf last now name each s)
picked last old new now each s name true is after sets =
    let same : string_bytes each.name ≡ name = (bytes_eq-Decides (string_bytes each.name) name).0 is in
    inr (s, sets, (same, subst (λ bs. StandsAfter (get_by_text last bs) each.fault now s) same after))
picked last old new now each s name false is after sets = inl sets

-- it was put in under its name, or there was no memory for it
pub inserted : {E : Type 0} (last old new : BTreeMap (String Global) Standing) (now : ℕ) (each : PassedOver) (s : Standing) (r : Result (Option Standing) E)
    → StandsAfter (get_by_text last (string_bytes each.name)) each.fault now s → OnOk r (Updates string_cmp old new each.name (Some s)) → OnErr r (IsUnchanged old new)
    → KeepsOne last now each old new
inserted last old new now each s (Ok was) after sets same = λ name.
    picked last old new now each s name (bytes_eq (string_bytes each.name) name) refl after (btree_map_updates_text (string_bytes each.name) old new (Some s) sets name)
inserted last old new now each s (Err e) after sets same = λ name.
    inl (ap (λ es. lookup (is_at (λ k. slice_cmp nat_cmp name (string_bytes k))) es) same)

stays : (xs : List PassedOver) (x y : PassedOver) → IsAmong xs y → IsAmong (xs ++ (x ∷ [])) y
stays [] x y p = absurd p
stays (z ∷ zs) x y (inl is) = inl is
stays (z ∷ zs) x y (inr p) = inr (stays zs x y p)

comes : (xs : List PassedOver) (x : PassedOver) → IsAmong (xs ++ (x ∷ [])) x
comes [] x = inl refl
comes (z ∷ zs) x = inr (comes zs x)

-- none is
pub none_kept : (last old : BTreeMap (String Global) Standing) (now : ℕ) → Remembers last now [] old old
none_kept last old now = λ name. inl refl

-- one more is
pub one_more_kept : (last first old new : BTreeMap (String Global) Standing) (now : ℕ) (xs : List PassedOver) (x : PassedOver) → Remembers last now xs first old → KeepsOne last now x old new
    → Remembers last now (xs ++ (x ∷ [])) first new
one_more_kept last first old new now xs x kept one = λ name.
    elim (one name) [
      | inl same ↦ elim (kept name) [
        | inl before ↦ inl (same ∙ before)
        | inr put ↦ inr (put.0, same ∙ put.1, (put.2.0, stays xs x put.2.0 put.2.1, put.2.2))
      ]
      | inr put ↦ inr (put.0, put.1, (x, comes xs x, put.2))
    ]
