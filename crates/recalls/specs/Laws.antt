-- The laws of a grammar and of its reading. They are said of any messages: m is one, spells is the grammar, and is tells what has a spelling.
use Rattle.std.specs.Prelude.{◌≡◌, ℕ, ◌+◌, ◌*◌, List, ◌++◌, length, Result, Ok, Err}
use Rattle.protocol.specs.Versions.{Version}
use Rattle.packets.specs.Grammar.{IsBytes}
use Rattle.packets.specs.Reading.{packet_in}
use Rattle.packets.specs.declared.fault.PacketFault.TheVariants.{BadMark}
use Rattle.recalls.specs.Recalls.{Recall}
use Rattle.recalls.specs.Grammar.{Spells}

-- each message has a spelling, and only one
abbrev pub HasOneSpelling : {M : Type 0} → (List ℕ → M → Type 0) → (M → Type 0) → Type 0
HasOneSpelling {M} spells is = (m : M) → is m → (bytes : List ℕ) × spells bytes m × ((other : List ℕ) → spells other m → other ≡ bytes)

-- nothing else has one
abbrev pub OnlyThese : {M : Type 0} → (List ℕ → M → Type 0) → (M → Type 0) → Type 0
OnlyThese {M} spells is = (bytes : List ℕ) (m : M) → spells bytes m → is m

-- no bytes spell two messages
abbrev pub SpellsOne : {M : Type 0} → (List ℕ → M → Type 0) → Type 0
SpellsOne {M} spells = (bytes : List ℕ) (m n : M) → spells bytes m → spells bytes n → m ≡ n

-- no spelling is a prefix of another's: two of which one begins with the other are equal
abbrev pub NoPrefix : {M : Type 0} → (List ℕ → M → Type 0) → Type 0
NoPrefix {M} spells = (short long rest : List ℕ) (m n : M) → spells short m → spells long n → long ≡ short ++ rest → short ≡ long

-- what spells a message is read as it
abbrev pub ReadsItAgain : {M F : Type 0} → (List ℕ → M → Type 0) → (List ℕ → Result M F) → Type 0
ReadsItAgain {M} spells read = (bytes : List ℕ) (m : M) → spells bytes m → read bytes ≡ Ok m

-- and nothing else is
abbrev pub FindsWhatIsSpelled : {M F : Type 0} → (List ℕ → M → Type 0) → (List ℕ → Result M F) → Type 0
FindsWhatIsSpelled {M} spells read = (bytes : List ℕ) (m : M) → IsBytes bytes → read bytes ≡ Ok m → spells bytes m

-- a station that does not know such messages passes over what spells one, as bytes of a bad mark: none spells a packet
abbrev pub IsNoPacket : {M : Type 0} → (List ℕ → M → Type 0) → Type 0
IsNoPacket {M} spells = (v : Version) (bytes : List ℕ) (m : M) → spells bytes m → packet_in v bytes ≡ Err BadMark

-- a recall's spelling has 13 bytes, and four for each number
abbrev pub LengthsAreGiven : Type 0
LengthsAreGiven = (bytes : List ℕ) (r : Recall) → Spells bytes r → length bytes ≡ 13 + 4 * length r.numbers
