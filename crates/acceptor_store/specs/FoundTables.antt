-- Which of the tables of saved rows a schema has.
use Rattle.std.specs.Prelude.{Bool, ◌&&◌, ◌||◌, not, is_some, codes}
use Rattle.sqlite_schema.specs.Names.{table_named}
use Rattle.sqlite_schema.specs.declared.schema.Schema.{Schema}
use Rattle.acceptor_store.specs.Layouts.{layout_in}

-- the table of the station is there
abbrev pub has_station : Schema → Bool
has_station schema = is_some (table_named schema (codes "station"))

-- so is a table of saved rows
abbrev pub has_tables : Schema → Bool
has_tables schema = has_station schema && is_some (layout_in schema)

-- neither is there
abbrev pub has_none : Schema → Bool
has_none schema = not (has_station schema) && not (is_some (layout_in schema))

-- a table of one of their names is there, whatever its columns are
abbrev pub has_any : Schema → Bool
has_any schema =
    (has_station schema || is_some (table_named schema (codes "acceptor_row"))) || is_some (table_named schema (codes "acceptor_entry"))
