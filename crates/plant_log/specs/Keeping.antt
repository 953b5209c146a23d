-- What is kept in mind for many keys.
use Rattle.std.specs.Prelude.{◌≤◌, ℕ, None}
use Rattle.std.specs.Ordering.{nat_cmp}
use Rattle.std.specs.BTreeMap.{BTreeMap, btree_map_len, Updates}

-- where it was kept for 65,536 keys at most, it still is
abbrev pub HasRoom : {A : Type 0} → BTreeMap ℕ A → BTreeMap ℕ A → Type 0
HasRoom old new = btree_map_len old ≤ 65_536 → btree_map_len new ≤ 65_536

-- what was kept for a key is forgotten, and that of the others stays
pub record Forgets {A : Type 0} (key : ℕ) (old new : BTreeMap ℕ A) : Type 0 where
  pub forgets : Updates nat_cmp old new key None
  pub bound : btree_map_len new ≤ btree_map_len old
