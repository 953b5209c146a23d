-- A code table as a TOML document gives it: the table, or its first fault.
use Rattle.std.specs.Prelude.{ℕ, zero, suc, List, [], ◌∷◌, ◌++◌, Bool, codes, Option, Some, None, is_some, unwrap_or, Result, Ok, Err, ◌==◌, if◌then◌else◌}
use Rattle.std.specs.Option.{option_and_then}
use Rattle.toml.specs.Data.{Data, string, Items, no_items, item, Members, get_item}
use Rattle.code_table.specs.Tables.{Places}
use Rattle.code_table.specs.Entries.{◌>>=◌, wanted, array_at, read_entry}
use Rattle.code_table.specs.declared.entry.FrameMeanings.{FrameMeanings}
use Rattle.code_table.specs.declared.fault.TableFault.{TableFault}
use Rattle.code_table.specs.declared.fault.TableFault.TheVariants.{NotToml, MissingCodes}

-- the entry of a frame among some
abbrev pub entry_among : List (ℕ × FrameMeanings) → ℕ → Option FrameMeanings
entry_among [] frame = None
entry_among (entry ∷ rest) frame = if entry.0 == frame then Some entry.1 else entry_among rest frame

-- one of these entries has this frame
abbrev pub is_taken : List (ℕ × FrameMeanings) → ℕ → Bool
is_taken earlier frame = is_some (entry_among earlier frame)

-- how many items there are
abbrev pub count : Items → ℕ
count no_items = zero
count (item code rest) = suc (count rest)

-- the item at a place, counted from 0; past the last there is an empty text
abbrev pub item_at : Items → ℕ → Data
item_at items place = unwrap_or (get_item place items) (string [])

-- the entries of the first so many items, each read beside those before it; or their first fault
abbrev pub first_entries : Items → ℕ → Result (List (ℕ × FrameMeanings)) TableFault
first_entries codes zero = Ok []
first_entries codes (suc n) = do
  earlier ← first_entries codes n
  entry ← read_entry (is_taken earlier) (suc n) (item_at codes n)
  Ok (earlier ++ entry ∷ [])

-- the places of so many frames from this one on, each with its entry among these
abbrev pub places_from : ℕ → ℕ → List (ℕ × FrameMeanings) → Places
places_from frame zero entries = []
places_from frame (suc more) entries = entry_among entries frame ∷ places_from (suc frame) more entries

-- the places of all 64 frames
unfoldable pub places_of : List (ℕ × FrameMeanings) → Places
places_of entries = places_from 0 64 entries

-- the places of an array's entries, or their first fault
unfoldable pub read_places : Items → Result Places TableFault
read_places codes = do
  entries ← first_entries codes (count codes)
  Ok (places_of entries)

-- an array that is not empty
abbrev pub filled : Items → Option Items
filled no_items = None
filled (item code rest) = Some (item code rest)

-- the entries of a document: the array at `code`, which is not empty
unfoldable pub codes_in : Members → Result Items TableFault
codes_in document = wanted MissingCodes (option_and_then filled (array_at (codes "code") document))

-- the table of a document that was read, or its first fault; where none was read, it is not TOML
unfoldable pub read_table : Option Members → Result Places TableFault
read_table None = Err NotToml
read_table (Some document) = do
  items ← codes_in document
  read_places items
