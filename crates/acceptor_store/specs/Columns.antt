-- A row as the columns of its table, in each layout, and back.
use Rattle.std.specs.Prelude.{◌≡◌, ◌≤◌, ◌^◌, ◌+◌, ◌==◌, ℕ, ℤ, pos, negsuc, Bool, true, false, nat_lt, nat_le, ◌&&◌, if◌then◌else◌, List, [], ◌∷◌, length, Option, Some, None, option_map, unwrap_or, is_some, IsSome}
use Rattle.sqlite_value.specs.declared.value.Value.{Value}
use Rattle.sqlite_value.specs.declared.value.Value.TheVariants.{Null, Int, Real, Text, Blob}
use Rattle.sqlite_value.specs.Order.{Row as Columns, column}
use Rattle.sqlite_trees.specs.Tree.{Trees}
use Rattle.rows_table.specs.declared.layout.Layout.{Layout}
use Rattle.rows_table.specs.Tables.{layout_tree}
use Rattle.rows_table.specs.declared.layout.Layout.TheVariants as layouts
use Rattle.rows_table.specs.Rows.{columns_of, columns_at}
use Rattle.rows_table.specs.Entries.{entry_columns}
use Rattle.tape_frames.specs.Frames.{most_frames, tape_fault}
use Rattle.tape_frames.specs.Packing.{packed_len, pad_of, packing_of, unpacked}
use Rattle.tape_frames.specs.Entries.{entry_frames, IsEntry}
use Rattle.protocol.specs.Ballots.{Ballot}
use Rattle.protocol.specs.Entries.{Tape, Entry, Void, Taped}
use Rattle.protocol.specs.Rows.{Vote, Row, vote_for, blank, may_stand}
use Rattle.protocol.specs.Versions.{Version, One, Two}
use Rattle.protocol.specs.Limits.{most_members, last_number, most_frames_one, is_number as is_circuit_number}
use Rattle.rows_saved.specs.Saved.{Saved}

-- the version of the rows that a layout keeps
abbrev pub version_in : Layout → Version
version_in layouts.One = One
version_in (layouts.Two origin) = Two

-- ---- out of the columns

-- a whole number of 32 bits
abbrev pub small : ℤ → Option ℕ
small (pos n) = if nat_lt n (2 ^ 32) then Some n else None
small (negsuc n) = None

-- the whole number of 32 bits in a column, if it is one
abbrev pub whole_in : Value → Option ℕ
whole_in (Int z) = small z
whole_in Null = None
whole_in (Real x) = None
whole_in (Text t) = None
whole_in (Blob b) = None

-- a ballot may have this round and this owner
abbrev pub is_ballot : ℕ → ℕ → Bool
is_ballot round owner = nat_le 1 round && (nat_le 1 owner && nat_le owner most_members)

-- the ballot of a round and an owner, if they are in range
abbrev pub ballot_from : Option ℕ → Option ℕ → Option Ballot
ballot_from None owner = None
ballot_from (Some round) None = None
ballot_from (Some round) (Some owner) = if is_ballot round owner then Some (record { round = round; owner = owner }) else None

-- this value, unless there is a fault
abbrev pub unless : {A B : Type 0} → Option A → B → Option B
unless None b = Some b
unless (Some a) b = None

-- the tape of these frames, if they are one and a row of layout 1 holds so many
abbrev pub stored_tape : List ℕ → Option Tape
stored_tape frames = if nat_le (length frames) most_frames_one then unless (tape_fault frames) frames else None

-- the tape in a column, one frame a byte, if it is one
abbrev pub tape_in : Value → Option Tape
tape_in (Blob frames) = stored_tape frames
tape_in Null = None
tape_in (Int z) = None
tape_in (Real x) = None
tape_in (Text t) = None

-- the bytes are a packed tape of so many frames: as many as a tape may have, in their number of bytes, and zero bits behind the last
abbrev pub is_packed : ℕ → List ℕ → Bool
is_packed frames bytes = (nat_le 1 frames && nat_le frames most_frames) && ((length bytes == packed_len frames) && (pad_of frames bytes == 0))

-- the tape of so many frames that are packed in these bytes, if they are one
abbrev pub packed_tape : ℕ → List ℕ → Option Entry
packed_tape frames bytes = if is_packed frames bytes then Some (Taped (unpacked frames bytes)) else None

-- the entry of so many frames in these bytes: a withdrawal has no frame and no byte
abbrev pub packed_entry : ℕ → List ℕ → Option Entry
packed_entry frames bytes = if (frames == 0) && (length bytes == 0) then Some Void else packed_tape frames bytes

-- the entry of so many frames, if their number is known, in the bytes of a column
abbrev pub entry_from : Option ℕ → Value → Option Entry
entry_from None packed = None
entry_from (Some frames) (Blob bytes) = packed_entry frames bytes
entry_from (Some frames) Null = None
entry_from (Some frames) (Int z) = None
entry_from (Some frames) (Real x) = None
entry_from (Some frames) (Text t) = None

-- the entry in two columns, its length and its packed frames, if they are one
abbrev pub entry_in : Value → Value → Option Entry
entry_in frames packed = entry_from (whole_in frames) packed

-- the column holds nothing
abbrev pub is_null : Value → Bool
is_null Null = true
is_null (Int z) = false
is_null (Real x) = false
is_null (Text t) = false
is_null (Blob b) = false

-- the entry in the columns from this place on: the tape in one of them, or the packed entry in two
abbrev pub entry_at : Layout → ℕ → Columns → Option Entry
entry_at layouts.One at c = option_map (λ t. Taped t) (tape_in (column c at))
entry_at (layouts.Two origin) at c = entry_in (column c at) (column c (at + 1))

-- those columns hold nothing
abbrev pub no_entry_at : Layout → ℕ → Columns → Bool
no_entry_at layouts.One at c = is_null (column c at)
no_entry_at (layouts.Two origin) at c = is_null (column c at) && is_null (column c (at + 1))

-- the vote for an entry at a ballot, where both are some
abbrev pub vote_from : Option Ballot → Option Entry → Option (Option Vote)
vote_from None entry = None
vote_from (Some ballot) None = None
vote_from (Some ballot) (Some entry) = Some (Some (vote_for ballot entry))

-- the vote in the columns from this place on, which may be none where all of them are null
abbrev pub vote_at : Layout → ℕ → Columns → Option (Option Vote)
vote_at layout at c =
    if is_null (column c at) && (is_null (column c (at + 1)) && no_entry_at layout (at + 2) c) then Some None
    else vote_from (ballot_from (whole_in (column c at)) (whole_in (column c (at + 1)))) (entry_at layout (at + 2) c)

-- the row of a promise and a vote
abbrev pub row_of : Ballot → Option Vote → Row
row_of promise vote = record { promised = Some promise; vote = vote }

-- the row of a promise and a vote, where the vote may stand beside the promise
abbrev pub row_from : Option Ballot → Option (Option Vote) → Option Row
row_from None vote = None
row_from (Some promise) None = None
row_from (Some promise) (Some vote) = if may_stand (Some promise) vote then Some (row_of promise vote) else None

-- the row that the columns from this place on are, if they are one: five in layout 1, six in layout 2
abbrev pub row_in : Layout → ℕ → Columns → Option Row
row_in layout first c = row_from (ballot_from (whole_in (column c first)) (whole_in (column c (first + 1)))) (vote_at layout (first + 2) c)

-- ---- into the columns

-- the tape of an entry, if it has one
abbrev pub tape_of : Entry → Option Tape
tape_of Void = None
tape_of (Taped tape) = Some tape

-- the tape that was voted for, if any
abbrev pub voted_tape : Option Vote → Option Tape
voted_tape None = None
voted_tape (Some v) = tape_of v.entry

-- the round of a vote's ballot
abbrev pub vote_round : Option Vote → Option ℕ
vote_round = option_map (λ v. v.ballot.round)

-- the owner of a vote's ballot
abbrev pub vote_owner : Option Vote → Option ℕ
vote_owner = option_map (λ v. v.ballot.owner)

-- how many frames the entry has that was voted for: a withdrawal has none
abbrev pub voted_length : Option Vote → Option ℕ
voted_length = option_map (λ v. length (entry_frames v.entry))

-- the frames of the entry that was voted for, packed
abbrev pub voted_packing : Option Vote → Option (List ℕ)
voted_packing = option_map (λ v. packing_of (entry_frames v.entry))

-- the columns of a promise and a vote; layout 1 has none for the vote for a withdrawal
abbrev pub columns_with : Layout → Option Ballot → Option Vote → Columns
columns_with layout None vote = []
columns_with layouts.One (Some p) vote = columns_of p.round p.owner (vote_round vote) (vote_owner vote) (voted_tape vote)
columns_with (layouts.Two origin) (Some p) vote = entry_columns p.round p.owner (vote_round vote) (vote_owner vote) (voted_length vote) (voted_packing vote)

-- the columns of a row that has a promise
abbrev pub columns_for : Layout → Row → Columns
columns_for layout row = columns_with layout row.promised row.vote

-- the row comes back out of its columns
abbrev pub ComesBack : Layout → Row → Type 0
ComesBack layout row = row_in layout 0 (columns_for layout row) ≡ Some row

-- each entry comes back out of its length and its packed frames
abbrev pub EntriesComeBack : Type 0
EntriesComeBack = (entry : Entry) → IsEntry entry → packed_entry (length (entry_frames entry)) (packing_of (entry_frames entry)) ≡ Some entry

-- ---- the rows of a table

-- the row of the columns that were found, blank where none were
abbrev pub row_or_blank : Layout → Option Columns → Row
row_or_blank layout None = blank
row_or_blank layout (Some c) = unwrap_or (row_in layout 0 c) blank

-- the map that a table holds
abbrev pub saved_at : Layout → List Columns → Saved
saved_at layout table n = row_or_blank layout (columns_at layout table n)

-- the map that a database holds
abbrev pub saved_in : Layout → Trees → Saved
saved_in layout trees = saved_at layout (trees (layout_tree layout))

-- the key is a circuit number, and the columns are a row
pub record IsSound (layout : Layout) (n : ℕ) (c : Columns) : Type 0 where
  pub low : 1 ≤ n
  pub high : n ≤ last_number
  pub row : IsSome (row_in layout 0 c)

-- each row of the table is sound
abbrev pub AreSound : Layout → List Columns → Type 0
AreSound layout table = (n : ℕ) (c : Columns) → columns_at layout table n ≡ Some c → IsSound layout n c

-- ---- a listing of the table, in order of the keys

-- the key is a circuit number
abbrev pub is_number : ℤ → Bool
is_number (pos n) = is_circuit_number n
is_number (negsuc n) = false

-- the key, where it is no circuit number or its columns are no row
abbrev pub damage_of : Value → Option Row → Option ℤ
damage_of (Int z) row = if is_number z && is_some row then None else Some z
damage_of Null row = None
damage_of (Real x) row = None
damage_of (Text t) row = None
damage_of (Blob b) row = None

-- the first of two, if any
abbrev pub first_of : Option ℤ → Option ℤ → Option ℤ
first_of None rest = rest
first_of (Some z) rest = Some z

-- the key of the first row that is none, or that stands under no circuit number
abbrev pub damage_in : Layout → List Columns → Option ℤ
damage_in layout [] = None
damage_in layout (r ∷ rs) = first_of (damage_of (column r 0) (row_in layout 1 r)) (damage_in layout rs)

-- a number and its row, where both are some and the number is a circuit number
abbrev pub item_from : Option ℕ → Option Row → Option (ℕ × Row)
item_from None row = None
item_from (Some n) None = None
item_from (Some n) (Some row) = if is_circuit_number n then Some (n, row) else None

-- the number and the row that a line of the listing is
abbrev pub item_in : Layout → Columns → Option (ℕ × Row)
item_in layout r = item_from (whole_in (column r 0)) (row_in layout 1 r)
