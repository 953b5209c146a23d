-- What the file `.released` holds after a change.
use Rattle.std.specs.Prelude.{ℕ, List, ◌++◌, take}
use Rattle.folders.specs.declared.change.Change.{Change}
use Rattle.folders.specs.declared.change.Change.TheVariants.{Stays, Adds, Anew}

-- it stays, or is cut to a length and gets records behind that, or is written anew
abbrev pub after : Change → List ℕ → List ℕ
after Stays bytes = bytes
after (Adds records) bytes = take records.place bytes ++ records.bytes.items
after (Anew whole) bytes = whole.items
