-- What went out, as a start finds it.
use Rattle.std.specs.Prelude.{ℕ, Bool, List}
use Rattle.gone_out.specs.declared.origin.Origin.{Origin}
use Rattle.folders.specs.GoneOut.{AreThoseOf, IsOwnFile, StartsWith}
use Rattle.folders.specs.declared.folders.WentOut.{WentOut}

-- what is found to have gone out, where these numbers have a row and the file holds these bytes: it is what has a record there, where the file
-- is the station's; and the first start that keeps it begins with what has a row
pub record IsFound (o : Origin) (known : List Bool) (bytes : List ℕ) (w : WentOut) : Type 0 where
  pub starts : StartsWith known w.numbers w.missing
  pub kept : IsOwnFile bytes o → AreThoseOf w.numbers o bytes
