-- What is printed of the version.
use Rattle.std.specs.Prelude.{◌≡◌, ℕ, List, ◌++◌, Option, codes}
use Rattle.std.specs.Io.KnownBytes.{Appends}
use Rattle.streams.specs.Fronts.{AppendsFront}
use Rattle.arguments.specs.declared.grammar.TheConstants.{VERSION}
use Rattle.command_ends.specs.Ends.{IsOfInput}
use Rattle.command_ends.specs.declared.end.End.{End}
use Rattle.command_ends.specs.declared.end.End.TheVariants.{Done}

-- the program's name and a version, on a line
abbrev pub named_text : List ℕ → List ℕ
named_text version = codes "circuitd " ++ (version ++ codes "\n")

-- the program's name and its own version, on a line
abbrev pub version_text : List ℕ
version_text = named_text VERSION.now

-- they are written whole where it ends well, a prefix of them however it ends, and only the output or want of memory ends it before
pub record PrintsVersion (old new : Option (List ℕ)) (end : End) : Type 0 where
  pub done : end ≡ Done → Appends old new version_text
  pub front : AppendsFront old new version_text
  pub ends : IsOfInput end
