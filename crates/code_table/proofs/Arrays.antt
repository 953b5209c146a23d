-- An array is empty just where its vector is.
use Rattle.std.proofs.Common.{◌≡◌, ◌≤◌, List, [], ◌∷◌, length, Some, None, refl, arith}
use Rattle.toml.specs.View.{items_view}
use Rattle.toml.specs.declared.value.Value.{Value}
use Rattle.code_table.specs.Reading.{filled}

pub filled_empty : (values : List Value) → length values ≡ 0 → filled (items_view values) ≡ None
filled_empty [] h = refl
filled_empty (value ∷ rest) h = absurd (omega arith)

pub filled_some : (values : List Value) → 1 ≤ length values → filled (items_view values) ≡ Some (items_view values)
filled_some [] h = absurd (omega arith)
filled_some (value ∷ rest) h = refl
