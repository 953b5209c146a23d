-- The law of the members in byte order of their names.
use Rattle.std.specs.Prelude.{ℕ, List, [], ◌∷◌, IsPermutation, IsSortedByKey}
use Rattle.std.specs.Ordering.{nat_cmp}
use Rattle.std.specs.Cmp.Lexicographic.{slice_cmp}
use Rattle.toml.specs.Data.{Data, Members, no_members, member}
use Rattle.widths.specs.Reading.{in_name_order}

-- the members as a list, each a name and a value
abbrev pub listed : Members → List (List ℕ × Data)
listed no_members = []
listed (member name value rest) = (name, value) ∷ listed rest

-- whatever the table, the names ascend byte by byte
abbrev pub StandsInOrder : Type 0
StandsInOrder = (table : Members) → IsSortedByKey (λ member. member.0) (slice_cmp nat_cmp) (listed (in_name_order table))

-- and the members are those of the table, each as often as there
abbrev pub KeepsMembers : Type 0
KeepsMembers = (table : Members) → IsPermutation (listed table) (listed (in_name_order table))
