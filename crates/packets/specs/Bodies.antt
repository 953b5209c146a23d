-- What the code's bodies say, in the protocol's words.
use Rattle.std.specs.Prelude.{Bool, true, false, Some, None}
use Rattle.protocol.specs.Entries.{Entry, Void, Taped}
use Rattle.protocol.specs.Packets.{Body, Prepare, Promise, Accept, Accepted, Nack}
use Rattle.tape_frames.specs.Entries.{owned_entry, lent_entry}
use Rattle.packets.specs.declared.body.BodyRef.{BodyRef}
use Rattle.packets.specs.declared.body.BodyRef.TheVariants as lent
use Rattle.packets.specs.declared.body.Body.{Body as OwnedBody}
use Rattle.packets.specs.declared.body.Body.TheVariants as owned

-- what a body says whose entries are lent
abbrev pub said : BodyRef → Body
said lent.Prepare = Prepare
said (lent.Promise report) = Promise report
said (lent.Accept entry) = Accept (lent_entry entry)
said (lent.Accepted entry) = Accepted (lent_entry entry)
said (lent.Nack promised) = Nack promised

-- what a body says that owns its entries
abbrev pub told : OwnedBody → Body
told owned.Prepare = Prepare
told (owned.Promise report) = Promise report
told (owned.Accept entry) = Accept (owned_entry entry)
told (owned.Accepted entry) = Accepted (owned_entry entry)
told (owned.Nack promised) = Nack promised

-- the entry is a tape
abbrev pub is_tape : Entry → Bool
is_tape Void = false
is_tape (Taped tape) = true

-- a tape stands in the body
abbrev pub has_tape : Body → Bool
has_tape Prepare = false
has_tape (Promise None) = false
has_tape (Promise (Some vote)) = is_tape vote.entry
has_tape (Accept entry) = is_tape entry
has_tape (Accepted entry) = is_tape entry
has_tape (Nack promised) = false
