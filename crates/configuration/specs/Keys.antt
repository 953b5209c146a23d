-- The keys of a configuration, as a TOML document has them.
use Rattle.std.specs.Prelude.{◌≡◌, ℕ, zero, suc, ℤ, pos, negsuc, List, Bool, true, false, codes, Option, Some, None, option_map, Result, Ok, Err, MatchResult, nat_le, not, ◌&&◌, if◌then◌else◌}
use Rattle.protocol.specs.Limits.{most_members}
use Rattle.toml.specs.Data.{Data, Items, no_items, item, Members, get_member, as_integer, as_str, as_bool, as_array, as_table}
use Rattle.configuration.specs.declared.keys.FolderPaths.{FolderPaths as CodeFolderPaths}
use Rattle.configuration.specs.declared.fault.ConfigKey.{ConfigKey}
use Rattle.configuration.specs.declared.fault.ConfigKey.TheVariants.{Circuit, Member, Table, Widths, Rows, Folders, Offers, Releases, Text, Renamed, Status, CatchUp, Off, Wire, Key, Station}
use Rattle.configuration.specs.declared.fault.ConfigFault.{ConfigFault}
use Rattle.configuration.specs.declared.fault.ConfigFault.TheVariants.{Missing, WrongType, OutOfRange}

-- one step after another, up to the first fault
infixl 10 ◌>>=◌
abbrev pub ◌>>=◌ : {A B : Type 0} → Result A ConfigFault → (A → Result B ConfigFault) → Result B ConfigFault
(Ok x) >>= f = f x
(Err e) >>= f = Err e

-- a call gives what is read: this of what it found, or the same fault
abbrev pub Gives : {X A : Type 0} → Result X ConfigFault → (X → A) → Result A ConfigFault → Type 0
Gives result view read = MatchResult result (λ x. read ≡ Ok (view x)) (λ e. read ≡ Err e)

-- a value, or this fault where there is none
abbrev pub wanted : {A : Type 0} → ConfigFault → Option A → Result A ConfigFault
wanted fault None = Err fault
wanted fault (Some x) = Ok x

-- a test that has to hold, or this fault
abbrev pub holds : ConfigFault → Bool → Result (Unit {0}) ConfigFault
holds fault test = if test then Ok tt else Err fault

-- a whole number from the least to the most
unfoldable pub in_range : ℕ → ℕ → ℤ → Option ℕ
in_range least most (pos n) = if nat_le least n && nat_le n most then Some n else None
in_range least most (negsuc n) = None

-- a key as it stands in the file
abbrev pub name_of : ConfigKey → List ℕ
name_of Circuit = codes "circuit"
name_of Member = codes "member"
name_of Table = codes "table"
name_of Widths = codes "widths"
name_of Rows = codes "rows"
name_of Folders = codes "folders"
name_of Offers = codes "offers"
name_of Releases = codes "releases"
name_of Text = codes "text"
name_of Renamed = codes "renamed"
name_of Status = codes "status"
name_of CatchUp = codes "catch_up"
name_of Off = codes "off"
name_of Wire = codes "wire"
name_of Key = codes "key"
name_of Station = codes "station"

-- the value at a key
unfoldable pub value_at : ConfigKey → Members → Result Data ConfigFault
value_at key file = wanted (Missing key) (get_member (name_of key) file)

-- the whole number at a key, from the least to the most
unfoldable pub number_at : ConfigKey → ℕ → ℕ → Members → Result ℕ ConfigFault
number_at key least most file = do
  value ← value_at key file
  number ← wanted (WrongType key) (as_integer value)
  wanted (OutOfRange key) (in_range least most number)

-- the text at a key
unfoldable pub text_at : ConfigKey → Members → Result (List ℕ) ConfigFault
text_at key file = do
  value ← value_at key file
  wanted (WrongType key) (as_str value)

-- the paths of three files
pub record Paths : Type 0 where
  pub table : List ℕ
  pub widths : List ℕ
  pub rows : List ℕ

-- these three
abbrev pub three_paths : List ℕ → List ℕ → List ℕ → Paths
three_paths table widths rows = record { table = table; widths = widths; rows = rows }

-- the three paths in a document
unfoldable pub paths_in : Members → Result Paths ConfigFault
paths_in file = do
  table ← text_at Table file
  widths ← text_at Widths file
  rows ← text_at Rows file
  Ok (three_paths table widths rows)

-- true or false, as the value at a key has it where there is one, and else as here
abbrev pub flag_of : ConfigKey → Bool → Option Data → Result Bool ConfigFault
flag_of key default None = Ok default
flag_of key default (Some value) = wanted (WrongType key) (as_bool value)

-- the same of the key
unfoldable pub flag_at : ConfigKey → Bool → Members → Result Bool ConfigFault
flag_at key default keys = flag_of key default (get_member (name_of key) keys)

-- the text of the value at a key, where there is one
abbrev pub text_of : ConfigKey → Option Data → Result (Option (List ℕ)) ConfigFault
text_of key None = Ok None
text_of key (Some value) = do
  text ← wanted (WrongType key) (as_str value)
  Ok (Some text)

-- the same of the key
unfoldable pub text_where : ConfigKey → Members → Result (Option (List ℕ)) ConfigFault
text_where key keys = text_of key (get_member (name_of key) keys)

-- the paths of two folders, whether texts may be offered in the first, whether files come into it only by being renamed, and the path of
-- the status file, where there is to be one
pub record FolderPaths : Type 0 where
  pub offers : List ℕ
  pub releases : List ℕ
  pub text : Bool
  pub renamed : Bool
  pub status : Option (List ℕ)

-- these
abbrev pub folder_paths : List ℕ → List ℕ → Bool → Bool → Option (List ℕ) → FolderPaths
folder_paths offers releases text renamed status =
    record { offers = offers; releases = releases; text = text; renamed = renamed; status = status }

-- what the code found of them
abbrev pub lent_paths : CodeFolderPaths → FolderPaths
lent_paths p = folder_paths p.offers.now p.releases.now p.text p.renamed (option_map (λ s. s.now) p.status)

-- the paths in a table; texts may be offered unless it says that they may not, files come in any way unless it says that they are
-- renamed, and there is a status file where it names one
unfoldable pub folder_paths_in : Members → Result FolderPaths ConfigFault
folder_paths_in keys = do
  offers ← text_at Offers keys
  releases ← text_at Releases keys
  text ← flag_at Text true keys
  renamed ← flag_at Renamed false keys
  status ← text_where Status keys
  Ok (folder_paths offers releases text renamed status)

-- the folders of the value at their key, where there is one: a table
abbrev pub folders_of : Option Data → Result (Option FolderPaths) ConfigFault
folders_of None = Ok None
folders_of (Some value) = do
  keys ← wanted (WrongType Folders) (as_table value)
  paths ← folder_paths_in keys
  Ok (Some paths)

-- the folders, where there are such
unfoldable pub folders_in : Members → Result (Option FolderPaths) ConfigFault
folders_in file = folders_of (get_member (name_of Folders) file)

-- a station catches up by itself, unless the value at the key of that, where there is one, says that this is off: a table
abbrev pub catches_up_of : Option Data → Result Bool ConfigFault
catches_up_of None = Ok true
catches_up_of (Some value) = do
  keys ← wanted (WrongType CatchUp) (as_table value)
  off ← flag_at Off false keys
  Ok (not off)

-- whether a station catches up by itself
unfoldable pub catches_up_in : Members → Result Bool ConfigFault
catches_up_in file = catches_up_of (get_member (name_of CatchUp) file)

-- the path of the file of keys in the value at the key of the wire, where there is one: a table
abbrev pub wire_of : Option Data → Result (Option (List ℕ)) ConfigFault
wire_of None = Ok None
wire_of (Some value) = do
  keys ← wanted (WrongType Wire) (as_table value)
  path ← text_at Key keys
  Ok (Some path)

-- the path of the file of keys, where the wire is to be sealed
unfoldable pub wire_in : Members → Result (Option (List ℕ)) ConfigFault
wire_in file = wire_of (get_member (name_of Wire) file)

-- how many items there are
abbrev pub count : Items → ℕ
count no_items = zero
count (item value rest) = suc (count rest)

-- the entries of the stations, as many as a circuit has members at most
unfoldable pub entries_at : Members → Result Items ConfigFault
entries_at file = do
  value ← value_at Station file
  entries ← wanted (WrongType Station) (as_array value)
  few ← holds (OutOfRange Station) (nat_le (count entries) most_members)
  Ok entries
