-- What the code's versions and entries are, in the protocol's words.
use Rattle.std.specs.Prelude.{ℕ, List, []}
use Rattle.protocol.specs.Versions.{One, Two}
use Rattle.protocol.specs.Versions.{Version as VersionValue}
use Rattle.protocol.specs.Entries.{Entry as EntryValue, Void, Taped}
use Rattle.tape_frames.specs.Frames.{IsTape}
use Rattle.tape_frames.specs.declared.version.Version.{Version}
use Rattle.tape_frames.specs.declared.version.Version.TheVariants as versions
use Rattle.tape_frames.specs.declared.entry.Entry.{Entry}
use Rattle.tape_frames.specs.declared.entry.Entry.TheVariants as owned
use Rattle.tape_frames.specs.declared.entry.EntryRef.{EntryRef}
use Rattle.tape_frames.specs.declared.entry.EntryRef.TheVariants as lent

-- the version of packets and rows
abbrev pub version_of : Version → VersionValue
version_of versions.One = One
version_of versions.Two = Two

-- the entry that owns its frames
abbrev pub owned_entry : Entry → EntryValue
owned_entry owned.Void = Void
owned_entry (owned.Tape tape) = Taped tape

-- the entry that is lent, its frames one a byte or packed
abbrev pub lent_entry : EntryRef → EntryValue
lent_entry lent.Void = Void
lent_entry (lent.Plain tape) = Taped tape
lent_entry (lent.Packed tape) = Taped tape

-- the frames of an entry; a withdrawal has none
abbrev pub entry_frames : EntryValue → List ℕ
entry_frames Void = []
entry_frames (Taped tape) = tape

-- a withdrawal, or a tape
abbrev pub IsEntry : EntryValue → Type 0
IsEntry Void = Unit {0}
IsEntry (Taped tape) = IsTape tape
