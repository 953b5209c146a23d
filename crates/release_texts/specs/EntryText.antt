-- The text of an entry.
use Rattle.std.specs.Prelude.{ℕ, List, codes}
use Rattle.hex.specs.Hex.{encode_lower}
use Rattle.protocol.specs.Entries.{Entry, Void, Taped}

-- a tape is its frames in hex, a withdrawal the word `void`
abbrev pub entry_text : Entry → List ℕ
entry_text Void = codes "void"
entry_text (Taped tape) = encode_lower tape
