-- A width file as a TOML document gives it: its measures and widths, or its first fault.
use Rattle.std.specs.Prelude.{ℕ, zero, suc, List, [], ◌∷◌, ◌++◌, Option, Some, None, Result, Ok, Err, nat_le, if◌then◌else◌}
use Rattle.toml.specs.Data.{Data, string, Members, no_members, member, is_before}
use Rattle.code_table.specs.Names.{is_name}
use Rattle.widths.specs.Widths.{WidthFile, width_file}
use Rattle.widths.specs.Numbers.{◌>>=◌, holds, number_of, measures_in, matrix_in}
use Rattle.widths.specs.declared.entry.MatrixWidth.{MatrixWidth}
use Rattle.widths.specs.declared.fault.WidthKey.TheVariants.{Entry}
use Rattle.widths.specs.declared.fault.WidthFault.{WidthFault}
use Rattle.widths.specs.declared.fault.WidthFault.TheVariants.{NotToml, BandsCrossed, BadName}

-- the matrix at a place, counted from 1, with its width
unfoldable pub read_entry : ℕ → List ℕ → Data → Result MatrixWidth WidthFault
read_entry place name value = do
  named ← holds (BadName place) (is_name name)
  width ← number_of (Entry place) 999 value
  Ok (record { name = name; width = width })

-- how many members there are
abbrev pub count : Members → ℕ
count no_members = zero
count (member name value rest) = suc (count rest)

-- the name and the value of the member at a place, counted from 0; past the last an empty name and an empty text
abbrev pub member_at : Members → ℕ → List ℕ × Data
member_at no_members place = ([], string [])
member_at (member name value rest) zero = (name, value)
member_at (member name value rest) (suc place) = member_at rest place

-- the matrices of the first so many members; or their first fault
abbrev pub first_entries : Members → ℕ → Result (List MatrixWidth) WidthFault
first_entries table zero = Ok []
first_entries table (suc n) = do
  earlier ← first_entries table n
  entry ← read_entry (suc n) (member_at table n).0 (member_at table n).1
  Ok (earlier ++ entry ∷ [])

-- the matrices of all members; or their first fault
abbrev pub all_entries : Members → Result (List MatrixWidth) WidthFault
all_entries table = first_entries table (count table)

-- a member more, before the first that has a greater name
abbrev pub put_in_order : List ℕ → Data → Members → Members
put_in_order name value no_members = member name value no_members
put_in_order name value (member first other rest) =
    if is_before name (member first other rest)
    then member name value (member first other rest)
    else member first other (put_in_order name value rest)

-- the members in byte order of their names
abbrev pub in_name_order : Members → Members
in_name_order no_members = no_members
in_name_order (member name value rest) = put_in_order name value (in_name_order rest)

-- the matrices of a table in byte order of their names, or their first fault
unfoldable pub read_matrix : Members → Result (List MatrixWidth) WidthFault
read_matrix table = all_entries (in_name_order table)

-- the measures and widths of a document, or its first fault
unfoldable pub read_file : Members → Result WidthFile WidthFault
read_file file = do
  measures ← measures_in file
  table ← matrix_in file
  bands ← holds BandsCrossed (nat_le measures.band_min measures.band_max)
  matrix ← read_matrix table
  Ok (width_file measures.measure measures.band_min measures.band_max measures.thin measures.en measures.em matrix)

-- the measures and widths of a document that was read; where none was read, it is not TOML
unfoldable pub read_widths : Option Members → Result WidthFile WidthFault
read_widths None = Err NotToml
read_widths (Some file) = read_file file
