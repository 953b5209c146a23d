-- What the query of the station answers.
use Rattle.std.proofs.Common.{◌≡◌, List, [], ◌∷◌, map, sym, ap, subst, ◌∙◌}
use Rattle.std.specs.List.Sorted.{IsPermutation}
use Rattle.std.proofs.lemmas.List.Sorted.{IsPermutation-map}
use Rattle.sqlite_value.specs.Order.{Row}
use Rattle.sqlite_value.specs.declared.value.Value.TheVariants.{Null}
use Rattle.sqlite_trees.proofs.ListLemmas.{map-map}
use Rattle.sqlite.specs.Command.TheVariants.{Select}
use Rattle.sqlite.specs.Query.{Output, output}
use Rattle.sqlite.specs.State.{State, Shown}
use Rattle.sqlite.proofs.Callers.{reads_as}
use Rattle.rows_table.specs.Tables.{Layout, station_tree, layout_schema}
use Rattle.rows_table.specs.Station.{station_columns}
use Rattle.rows_table.proofs.AllLemmas.{as_map}
use Rattle.rows_table.proofs.ReadTexts.{station_text, station_is, of_station, station_names}

pub stations : (layout : Layout) (old new : State) (rows : List Row) → old.now.schema ≡ layout_schema layout → Shown station_text [] old new rows → IsPermutation (map station_columns (old.now.trees station_tree)) rows
stations layout old new rows schema h =
    let is = station_is layout in
    let a = (reads_as station_text [] old new (layout_schema layout) schema (Select (record { lets = []; body = of_station }) station_names) is.command is.plain is.unlisted rows h).answer Null in
    let table = old.now.trees station_tree in
    let out = λ (p : Output). p.1 in
    let kept : a.kept ≡ map (output of_station) (map (λ r. [] ∷ r ∷ []) table) = a.distinct ∙ ap (map (output of_station)) (a.grouped ∙ as_map table) in
    let flat : map out a.kept ≡ map station_columns table = ap (map out) (kept ∙ map-map (output of_station) (λ r. [] ∷ r ∷ []) table) ∙ map-map out (λ r. output of_station ([] ∷ r ∷ [])) table in
    subst (λ l. IsPermutation l rows) flat (subst (λ l. IsPermutation (map out a.kept) l) (sym a.shown) (IsPermutation-map out a.kept a.ordered a.same))
