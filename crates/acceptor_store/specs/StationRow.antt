-- The station in its table: whose rows a database holds, and in which layout.
use Rattle.std.specs.Prelude.{◌≡◌, ◌≢◌, ◌==◌, ℕ, Bool, nat_le, ◌&&◌, if◌then◌else◌, map, List, [], ◌∷◌, Option, Some, None, IfSome}
use Rattle.protocol.specs.Limits.{most_members}
use Rattle.sqlite_value.specs.Order.{Row as Columns, column}
use Rattle.sqlite_trees.specs.Tree.{Trees}
use Rattle.rows_table.specs.declared.layout.Layout.{Layout}
use Rattle.rows_table.specs.Tables.{station_tree, layout_number}
use Rattle.rows_table.specs.Station.{station_columns}
use Rattle.rows_saved.specs.declared.identity.Identity.{Identity}
use Rattle.rows_saved.specs.declared.fault.RowsFault.{RowsFault}
use Rattle.rows_saved.specs.declared.fault.RowsFault.TheVariants.{Store, WrongStation, WrongSchema, Damaged, OutOfMemory}
use Rattle.acceptor_store.specs.Columns.{whole_in}

-- there may be this member among so many
abbrev pub is_member_of : ℕ → ℕ → Bool
is_member_of member members = nat_le 1 member && (nat_le member members && nat_le members most_members)

-- the key is 1, the layout is 1 or 2, and the numbers are in range
abbrev pub is_station : ℕ → ℕ → ℕ → ℕ → ℕ → Bool
is_station key layout circuit member members =
    key == 1 && ((nat_le 1 layout && nat_le layout 2) && (nat_le circuit 65535 && is_member_of member members))

-- what the columns say, if they are those of a station: the layout's number and the station
abbrev pub station_from : Option ℕ → Option ℕ → Option ℕ → Option ℕ → Option ℕ → Option (ℕ × Identity)
station_from None layout circuit member members = None
station_from (Some key) None circuit member members = None
station_from (Some key) (Some layout) None member members = None
station_from (Some key) (Some layout) (Some circuit) None members = None
station_from (Some key) (Some layout) (Some circuit) (Some member) None = None
station_from (Some key) (Some layout) (Some circuit) (Some member) (Some members) =
    if is_station key layout circuit member members then Some (layout, record { circuit = circuit; member = member; members = members }) else None

-- the layout's number and the station that five columns are
abbrev pub station_of : Columns → Option (ℕ × Identity)
station_of r = station_from (whole_in (column r 0)) (whole_in (column r 1)) (whole_in (column r 2)) (whole_in (column r 3)) (whole_in (column r 4))

-- those in the station table, which has one row
abbrev pub station_in : List Columns → Option (ℕ × Identity)
station_in [] = None
station_in (r ∷ []) = station_of r
station_in (r ∷ s ∷ rs) = None

-- those that a database holds
abbrev pub stored_station : Trees → Option (ℕ × Identity)
stored_station trees = station_in (map station_columns (trees station_tree))

-- the database holds this station, in this layout
abbrev pub IsStationOf : Layout → Identity → Trees → Type 0
IsStationOf layout i trees = stored_station trees ≡ Some (layout_number layout, i)

-- the identity that was given, if any, is this one
abbrev pub Agrees : Option Identity → Identity → Type 0
Agrees given i = IfSome given (λ wanted. wanted ≡ i)

-- why a station, stored with its layout's number, is not taken up in this layout: the number is another's, or else it is not the one that was given
abbrev pub RefusesStation : Layout → Option Identity → ℕ × Identity → RowsFault → Type 0
RefusesStation layout given stored Store = ⊥
RefusesStation layout given stored OutOfMemory = ⊥
RefusesStation layout given stored WrongSchema = stored.0 ≢ layout_number layout
RefusesStation layout given stored WrongStation = (stored.0 ≡ layout_number layout) × (wanted : Identity) × (given ≡ Some wanted) × (wanted ≢ stored.1)
RefusesStation layout given stored (Damaged number) = ⊥
