-- What a turn hands out, made ready before its row is saved; and what the save leaves.
use Rattle.std.specs.Prelude.{◌≡◌, ◌≤◌, ◌⊎◌, ℕ, List, [], Option, Some, None, IfSome, Result, Ok, Err, option_map, slice_get, take}
use Rattle.std.specs.List.{AllZip}
use Rattle.std.specs.declared.vec.Vec.{Vec}
use Rattle.std.specs.Global.{Global}
use Rattle.protocol.specs.Entries.{Entry, Void, Taped}
use Rattle.protocol.specs.Limits.{last_number}
use Rattle.protocol.specs.Rows.{Row}
use Rattle.protocol.specs.Packets.{Packet}
use Rattle.protocol.specs.Versions.{Version}
use Rattle.protocol.specs.Circuit.{Datagram}
use Rattle.rows_saved.specs.Saved.{WithRow, IsEither}
use Rattle.rows_saved.specs.declared.fault.RowsFault.{RowsFault}
use Rattle.tape_frames.specs.Entries.{owned_entry}
use Rattle.packets.specs.Grammar.{Spells, SpellsAlike}
use Rattle.packets.specs.Reading.{packet_in}
use Rattle.code_table.specs.Tables.{Places, mean}
use Rattle.code_table.specs.declared.case.Case.{Case}
use Rattle.code_table.specs.declared.meaning.Meaning.{Meaning}
use Rattle.widths.specs.Widths.{WidthFile}
use Rattle.line_check.specs.Sets.{Sets}
use Rattle.line_check.specs.declared.fault.SetFault.{SetFault}
use Rattle.line_check.specs.declared.slug.Slug.{Slug}
use Rattle.node_core.specs.Turns.{HandsNothing, sent}
use Rattle.node_core.specs.declared.turn.Turn.{Turn}
use Rattle.node_core.specs.declared.turn.Note.TheVariants as notes
use Rattle.station.specs.declared.answer.Answer.{Answer}
use Rattle.station.specs.declared.answer.Release.{Release}
use Rattle.station.specs.declared.save.Checked.{Checked}
use Rattle.refusals.specs.declared.refusal.StepRefusal.{StepRefusal}
use Rattle.refusals.specs.declared.refusal.StepRefusal.TheVariants.{Store, OutOfMemory}
use Rattle.station.specs.Stations.{Sight}

-- the datagram spells the packet in this version, and goes to its addressee
abbrev pub Carries : Version → Packet → Datagram → Type 0
Carries v p d = (d.to ≡ p.to) × (packet_in v d.bytes ≡ Ok p)

-- and its bytes are the packet's spelling
abbrev pub IsSpelled : Version → Packet → Datagram → Type 0
IsSpelled v p d = Carries v p d × Spells v d.bytes p

-- the bytes say the same as the packet at this place, in whatever version the packets before it were spelled
abbrev pub SaysTheSameAt : List Packet → ℕ → List Datagram → List ℕ → Type 0
SaysTheSameAt packets place out bytes =
    (v : Version) (p : Packet) → AllZip (IsSpelled v) (take place packets) out → slice_get packets place ≡ Some p → SpellsAlike v bytes p

-- what setting a tape gave, its slugs as a list
abbrev pub slugs_of : Result (Vec Slug Global) SetFault → Result (List Slug) SetFault
slugs_of (Ok slugs) = Ok slugs.items
slugs_of (Err fault) = Err fault

-- what the meanings of frames and the widths make of an entry: of a tape its slugs or its first fault, of a withdrawal no slug
abbrev pub SetsEntry : (Case → ℕ → Option Meaning) → WidthFile → Entry → Result (List Slug) SetFault → Type 0
SetsEntry means widths Void set = set ≡ Ok []
SetsEntry means widths (Taped tape) set = Sets means widths tape set

-- a tape that was set before gave these slugs
abbrev pub WasChecked : Places → WidthFile → Option Checked → Type 0
WasChecked table widths None = Unit {0}
WasChecked table widths (Some c) = Sets (mean table) widths c.tape.now (Ok c.slugs.items)

-- what is handed out of a released entry: its number, the entry, and what the code table and the widths make of it
abbrev pub IsReleased : Places → WidthFile → ℕ → Option Entry → Option Release → Type 0
IsReleased table widths n None None = Unit {0}
IsReleased table widths n None (Some r) = ⊥
IsReleased table widths n (Some entry) None = ⊥
IsReleased table widths n (Some entry) (Some r) = (r.number ≡ n) × (owned_entry r.entry ≡ entry) × SetsEntry (mean table) widths entry (slugs_of r.set)

-- a story has this number
abbrev pub IsNumber : ℕ → Type 0
IsNumber n = (1 ≤ n) × (n ≤ last_number)

-- what is released, if anything is, has a number that a story has
abbrev pub IsNumbered : Option Release → Type 0
IsNumbered o = IfSome o (λ r. IsNumber r.number)

-- nothing was due: the answer is about no number, and hands nothing out
pub record IsIdle (a : Answer) : Type 0 where
  pub number : a.number ≡ None
  pub out : a.out.items ≡ []
  pub release : a.release ≡ None
  pub note : a.note ≡ notes.Idle

-- the rows after a save of the turn's row that was done; where it has none, the rows stay
abbrev pub RowSaved : {R : Type 0} → Sight R → ℕ → Option Row → R → R → Type 0
RowSaved x n None old new = new ≡ old
RowSaved x n (Some row) old new =
    x.passes old new × x.is_open new × (x.is_open new → x.is_open old) × WithRow (x.saved old) n row (x.saved new)

-- the rows after a save that was refused
abbrev pub RowBalked : {R : Type 0} → Sight R → ℕ → Option Row → RowsFault → R → R → Type 0
RowBalked x n None fault old new = ⊥
RowBalked x n (Some row) fault old new =
    x.tells old new n row × (x.is_open new → x.is_open old) × ((¬ x.is_open new) ⊎ IsEither (x.saved old) n row (x.saved new)) × x.blames old new fault

-- what is handed out, of a turn that was taken at this row, was ready before the row was saved; that takes memory only where something is handed out
abbrev pub Saves : {R : Type 0} → Sight R → Places → WidthFile → ℕ → Row → Turn → R → R → Result Answer StepRefusal → Type 0
Saves x table widths n row turn old new (Ok a) =
    RowSaved x n turn.row old new × AllZip (Carries (x.version old)) (sent row turn) a.out.items
    × IsReleased table widths n (option_map owned_entry turn.release) a.release × (a.note ≡ turn.note) × (a.number ≡ Some n)
Saves x table widths n row turn old new (Err (Store fault)) = RowBalked x n turn.row fault old new
Saves x table widths n row turn old new (Err OutOfMemory) = (new ≡ old) × ¬ HandsNothing turn
Saves x table widths n row turn old new (Err _) = ⊥
