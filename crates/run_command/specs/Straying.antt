-- What is told of a file whose name asks for nothing.
use Rattle.std.specs.Prelude.{◌≡◌, ℕ, List, Option, Some, None, Result, Ok, Err, codes, string_bytes, true}
use Rattle.folders.specs.LogNames.{shown_name}
use Rattle.folders.specs.declared.fault.FolderFault.{FolderFault}
use Rattle.log_terms.specs.declared.loudness.Loudness.{Loudness}
use Rattle.looks.specs.Sightings.{is_to_be_told}
use Rattle.looks.specs.declared.sighting.Stray.{Stray}
use Rattle.plant_log.specs.Stories.{IsTellingRefused}
use Rattle.plant_log.specs.Telling.{TellsIf}
use Rattle.plant_log.specs.Words.{file_text, refused_text}

-- that it was refused, where that is told; or why it can't be moved, where that is told anew
abbrev pub TellsMoved : Loudness → Stray → Result (Unit {0}) FolderFault → ℕ → Option (List ℕ) → Option (List ℕ) → Type 0
TellsMoved loudness s (Ok done) now old new =
    TellsIf (IsTellingRefused loudness) (refused_text (shown_name (string_bytes s.name)) (codes "no number")) old new
TellsMoved loudness s (Err fault) now old new =
    TellsIf (is_to_be_told s.sighting fault now ≡ true) (file_text (codes "cannot move") (shown_name (string_bytes s.name)) fault) old new

-- the same of such a file, if there is one
abbrev pub TellsStray : Loudness → Option Stray → Result (Unit {0}) FolderFault → ℕ → Option (List ℕ) → Option (List ℕ) → Type 0
TellsStray loudness None moved now old new = new ≡ old
TellsStray loudness (Some s) moved now old new = TellsMoved loudness s moved now old new
