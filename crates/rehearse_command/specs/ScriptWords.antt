-- The words of a line, and what each writes.
use Rattle.std.specs.Prelude.{ℕ, List, codes}
use Rattle.std.specs.Str.Parse.{digits_value, without_leading_plus}
use Rattle.tape_frames.specs.declared.version.Version.{Version}
use Rattle.tape_frames.specs.declared.version.Version.TheVariants as versions

-- the number that a word of decimal digits writes
abbrev pub written : List ℕ → ℕ
written word = digits_value 10 (without_leading_plus word)

-- the number of a version
abbrev pub version_word : Version → List ℕ
version_word versions.One = codes "1"
version_word versions.Two = codes "2"
