-- What is written of a text that may not be written whole.
use Rattle.std.specs.Prelude.{ℕ, List, Option, Result, OnOk, OnErr}
use Rattle.std.specs.Io.KnownBytes.{Appends}
use Rattle.streams.specs.Fronts.{AppendsFront}

-- the text was written, whole where that ended well
pub record Writes {E : Type 0} (result : Result (Unit {0}) E) (old new : Option (List ℕ)) (text : List ℕ) : Type 0 where
  -- where it ended well, all of the text
  pub ok : OnOk result (Appends old new text)
  -- else a front of it
  pub err : OnErr result (AppendsFront old new text)
