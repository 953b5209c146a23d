-- What `import` makes of a reel.
use Rattle.std.specs.Prelude.{◌≡◌, ◌⊎◌, ℕ, List, length, map, Option}
use Rattle.reel.specs.declared.piece.RollPiece.{RollPiece}
use Rattle.reel.specs.Levels.{frame_of}
use Rattle.reel.specs.Tapes.{AreTapes}
use Rattle.reel_commands.specs.declared.importing.Reel.{Reel}
use Rattle.reel_commands.specs.declared.importing.Imported.{Imported}
use Rattle.reel_commands.specs.Files.{TapeFile, Makes, FrontMade, files_from}

-- the frames that the levels of an order read of the bytes of its reel
abbrev pub frames_by : Reel → List ℕ → List ℕ
frames_by reel bytes = map (frame_of reel.levels) bytes

-- these are the tapes of a reel
abbrev pub AreTapesOf : Reel → List ℕ → List RollPiece → Type 0
AreTapesOf reel bytes tapes = AreTapes reel.cutting.least reel.cutting.trims (frames_by reel bytes) tapes

-- the reel became these tapes, and a file was made of each
pub record WasImported (reel : Reel) (bytes : List ℕ) (done : Imported) (old new : Option (List TapeFile)) : Type 0 where
  pub tapes : AreTapesOf reel bytes done.tapes.items
  pub frames : done.frames ≡ length bytes
  pub made : Makes old new (files_from 1 (frames_by reel bytes) done.tapes.items)

-- of the tapes of a reel the first so many were made, and no other file was
pub record WasFrontMade (reel : Reel) (bytes : List ℕ) (old new : Option (List TapeFile)) : Type 0 where
  pub tapes : List RollPiece
  pub are : AreTapesOf reel bytes tapes
  pub front : FrontMade (frames_by reel bytes) tapes old new

-- nothing was made, or a front of the tapes was
abbrev pub BreaksOffImport : Reel → List ℕ → Option (List TapeFile) → Option (List TapeFile) → Type 0
BreaksOffImport reel bytes old new = (new ≡ old) ⊎ WasFrontMade reel bytes old new
