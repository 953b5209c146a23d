-- The layout of rows that are made or upgraded, and the layout that a schema tells.
use Rattle.std.specs.Prelude.{ℕ, List, Option, Some, None, ◌&&◌, codes, is_some}
use Rattle.std.specs.List.{position_from}
use Rattle.sqlite_schema.specs.Names.{same_name, column_named}
use Rattle.sqlite_schema.specs.declared.schema.Schema.{Schema}
use Rattle.rows_table.specs.declared.layout.Layout.{Layout}
use Rattle.rows_table.specs.declared.layout.Layout.TheVariants as layouts
use Rattle.rows_table.specs.declared.layout.LayoutOrigin.TheVariants.{Created, Upgraded}
use Rattle.protocol.specs.Versions.{Version, One, Two}

-- the layout of rows that were upgraded from this one
abbrev pub upgraded_from : Layout → Layout
upgraded_from layouts.One = layouts.Two Upgraded
upgraded_from (layouts.Two origin) = layouts.Two origin

-- the layout that rows of a version are made in
abbrev pub made_in : Version → Layout
made_in One = layouts.One
made_in Two = layouts.Two Created

-- where the table of rows stands, and that of entries: both are there after an upgrade
abbrev pub layout_by : Option ℕ → Option ℕ → Option Layout
layout_by None None = None
layout_by (Some row) None = Some layouts.One
layout_by None (Some entry) = Some (layouts.Two Created)
layout_by (Some row) (Some entry) = Some (layouts.Two Upgraded)

-- where the first table stands that has this name and a column of that name, if there is one
abbrev pub table_with : Schema → List ℕ → List ℕ → Option ℕ
table_with schema name column = position_from (λ t. same_name t.name name && is_some (column_named t column)) 0 schema.tables

-- the layout that the tables of a schema tell, by their names and by the column that the one or the other keeps an entry in, if any
abbrev pub layout_in : Schema → Option Layout
layout_in schema = layout_by (table_with schema (codes "acceptor_row") (codes "tape")) (table_with schema (codes "acceptor_entry") (codes "packed"))
