-- Version 2 has a row for each entry.
use Rattle.std.proofs.Common.{refl, Option, Some, None}
use Rattle.protocol.specs.Rows.{Vote}
use Rattle.protocol.specs.Versions.{Two}
use Rattle.protocol.specs.Fitting.{VoteFits}
use Rattle.rows_saved.specs.Saved.{Saved, AllFit}

two_fits : (vote : Option Vote) → VoteFits Two vote
two_fits None = tt
two_fits (Some u) = refl

-- whatever is saved, version 2 has it
pub two_fits_all : (saved : Saved) → AllFit Two saved
two_fits_all saved n = two_fits (saved n).vote
