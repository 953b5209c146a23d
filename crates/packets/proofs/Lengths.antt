-- How many bytes a spelling has.
use Rattle.std.proofs.Common.{◌≡◌, ℕ, ◌+◌, ◌≤◌, List, length, Some, None, ap, arith}
use Rattle.tape_frames.specs.Entries.{entry_frames, IsEntry}
use Rattle.protocol.specs.Limits.{most_frames_one}
use Rattle.protocol.specs.Entries.{Entry, Void, Taped}
use Rattle.protocol.specs.Versions.{Version, One, Two}
use Rattle.protocol.specs.Packets.{Packet, Body, Prepare, Promise, Accept, Accepted, Nack}
use Rattle.protocol.specs.Fitting.{Fits, BodyFits}
use Rattle.packets.specs.Spelling.{entry_bytes, body_bytes, spelling}
use Rattle.packets.specs.Grammar.{IsBody, Spells}
use Rattle.packets.specs.Laws.{shortest, longest, LengthsAreBounded, Packings}
use Rattle.packets.proofs.Entries.{few_frames, packing_length}
use Rattle.packets.proofs.Tapes.{tape_one}
use Rattle.packets.proofs.Written.{packet_are, packet_is}

-- an entry leaves room for the header, a flag and a ballot
entry_length : (v : Version) (x : Entry) → IsEntry x → Fits v x → 23 + length (entry_bytes v x) ≤ longest v
entry_length One Void is fits = absurd cc
entry_length One (Taped tape) is fits = let few : length tape ≤ most_frames_one = (tape_one tape is fits).few in omega (arith, few)
entry_length Two x is fits = omega (arith, few_frames x is, packing_length (entry_frames x))

body_length : (v : Version) (b : Body) → IsBody b → BodyFits v b → 17 + length (body_bytes v b) ≤ longest v
body_length One Prepare is fits = omega arith
body_length Two Prepare is fits = omega arith
body_length One (Promise None) is fits = omega arith
body_length Two (Promise None) is fits = omega arith
body_length v (Promise (Some vote)) is fits = omega (arith, entry_length v vote.entry is.1 fits)
body_length v (Accept entry) is fits = omega (arith, entry_length v entry is fits)
body_length v (Accepted entry) is fits = omega (arith, entry_length v entry is fits)
body_length One (Nack promised) is fits = omega arith
body_length Two (Nack promised) is fits = omega arith

module _ (k : Packings) where
  as_written : (v : Version) (bytes : List ℕ) (p : Packet) → Spells v bytes p → length bytes ≡ length (spelling v p)
  as_written v bytes p s = ap (λ (x : List ℕ). length x) (packet_are k v bytes p s)

  has_header : (v : Version) (bytes : List ℕ) (p : Packet) → Spells v bytes p → shortest ≤ length bytes
  has_header v bytes p s = omega (arith, as_written v bytes p s)

  pub lengths_are_bounded : LengthsAreBounded
  lengths_are_bounded v bytes p s =
      let is = packet_is v bytes p s in
      (has_header v bytes p s, omega (arith, as_written v bytes p s, body_length v p.body is.0.body is.1))
