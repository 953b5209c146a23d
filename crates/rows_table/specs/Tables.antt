-- The tables of the row store, in each of its layouts.
use Rattle.sqlite.specs.Collation.TheVariants.{Binary}
use Rattle.std.specs.Prelude.{true, false, [], ◌∷◌, Some, codes, List, ℕ, pos}
use Rattle.sqlite.specs.declared.types.Value.TheVariants.{Null, Int}
use Rattle.sqlite.specs.Term.{lit, col, op2}
use Rattle.sqlite_sql.specs.declared.ops.BinaryOp.TheVariants.{Compare}
use Rattle.sqlite_sql.specs.declared.ops.CompareOp.TheVariants.{Eq}
use Rattle.sqlite.specs.Table.{Table}
use Rattle.sqlite_schema.specs.declared.schema.Column.{Column}
use Rattle.sqlite.specs.Schema.{Schema}
use Rattle.sqlite.specs.Kind.TheVariants.{Integer, Blob}
use Rattle.rows_table.specs.declared.layout.Layout.TheVariants.{One, Two}
use Rattle.rows_table.specs.declared.layout.LayoutOrigin.TheVariants.{Created, Upgraded}
pub use Rattle.rows_table.specs.declared.layout.Layout.{Layout}
pub use Rattle.rows_table.specs.declared.layout.LayoutOrigin.{LayoutOrigin}

-- a column that always holds an integer
abbrev pub number_column : List ℕ → Column
number_column name = record { name = name; kind = Integer; is_strict = true; not_null = true; default = Null; collation = Binary }

-- a column that holds an integer or null
abbrev pub optional_column : List ℕ → Column
optional_column name = record { name = name; kind = Integer; is_strict = true; not_null = false; default = Null; collation = Binary }

-- where the station's table lies among the trees of a database
abbrev pub station_tree : ℕ
station_tree = 0

-- where the rows of layout 1 lie among them
abbrev pub rows_tree : ℕ
rows_tree = 1

-- which station the rows belong to, in one row
abbrev pub station : Table
station = record {
  name = codes "station";
  tree = station_tree;
  columns = optional_column (codes "one") ∷ number_column (codes "layout") ∷ number_column (codes "circuit")
      ∷ number_column (codes "member") ∷ number_column (codes "members") ∷ [];
  key = Some 0;
  primary = 0 ∷ [];
  uniques = [];
  orders = [];
  checks = op2 (Compare Eq Binary) (col 1 0) (lit (Int (pos 1))) ∷ [];
  references = [];
  computed = [];
  stamps = record { places = []; terms = []; formats = [] };
  is_counted = false;
}

-- the rows of layout 1, by number: the promise, and the vote with its tape
abbrev pub acceptor_row : Table
acceptor_row = record {
  name = codes "acceptor_row";
  tree = rows_tree;
  columns = optional_column (codes "number") ∷ number_column (codes "promised_round") ∷ number_column (codes "promised_owner")
      ∷ optional_column (codes "vote_round") ∷ optional_column (codes "vote_owner")
      ∷ (record { name = codes "tape"; kind = Blob; is_strict = true; not_null = false; default = Null; collation = Binary }) ∷ [];
  key = Some 0;
  primary = 0 ∷ [];
  uniques = [];
  orders = [];
  checks = [];
  references = [];
  computed = [];
  stamps = record { places = []; terms = []; formats = [] };
  is_counted = false;
}

-- the schema with the table of the station alone
abbrev pub station_schema : Schema
station_schema = record { tables = station ∷ []; indexes = []; views = [] }

-- the schema of layout 1: the station and the table of rows
abbrev pub row_schema : Schema
row_schema = record { tables = station ∷ acceptor_row ∷ []; indexes = []; views = [] }

-- the table of entries, in layout 2, kept in this tree
abbrev pub acceptor_entry : ℕ → Table
acceptor_entry tree = record {
  name = codes "acceptor_entry";
  tree = tree;
  columns = optional_column (codes "number") ∷ number_column (codes "promised_round") ∷ number_column (codes "promised_owner")
      ∷ optional_column (codes "vote_round") ∷ optional_column (codes "vote_owner") ∷ optional_column (codes "length")
      ∷ (record { name = codes "packed"; kind = Blob; is_strict = true; not_null = false; default = Null; collation = Binary }) ∷ [];
  key = Some 0;
  primary = 0 ∷ [];
  uniques = [];
  orders = [];
  checks = [];
  references = [];
  computed = [];
  stamps = record { places = []; terms = []; formats = [] };
  is_counted = false;
}

-- the tree of the table of entries, which is the last table that was made
abbrev pub entries_tree : LayoutOrigin → ℕ
entries_tree Created = 1
entries_tree Upgraded = 2

-- the schema that the table of entries is made in
abbrev pub schema_before : LayoutOrigin → Schema
schema_before Created = station_schema
schema_before Upgraded = row_schema

-- the schema with the table of entries
abbrev pub entry_schema : LayoutOrigin → Schema
entry_schema Created = record { tables = station ∷ acceptor_entry 1 ∷ []; indexes = []; views = [] }
entry_schema Upgraded = record { tables = station ∷ acceptor_row ∷ acceptor_entry 2 ∷ []; indexes = []; views = [] }

-- the number of a layout, as the row of the station tells it
abbrev pub layout_number : Layout → ℕ
layout_number One = 1
layout_number (Two origin) = 2

-- the tree of the table that the saved rows are in
abbrev pub layout_tree : Layout → ℕ
layout_tree One = rows_tree
layout_tree (Two origin) = entries_tree origin

-- the schema with that table and the station, and no other table but the one that was upgraded
abbrev pub layout_schema : Layout → Schema
layout_schema One = row_schema
layout_schema (Two origin) = entry_schema origin

-- the schema of an empty database
abbrev pub no_schema : Schema
no_schema = record { tables = []; indexes = []; views = [] }
