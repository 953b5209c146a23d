-- The files that are made of a reel.
use Rattle.std.specs.Prelude.{◌≡◌, ◌++◌, ◌+◌, ℕ, List, [], ◌∷◌, take, Option, None, Some}
use Rattle.reel.specs.declared.piece.RollPiece.{RollPiece}
use Rattle.reel.specs.Names.{tape_name}
use Rattle.reel.specs.Tapes.{frames_in}

-- a file: its name, and what it holds
pub record TapeFile : Type 0 where
  pub name : List ℕ
  pub bytes : List ℕ

-- these files were made since, in this order, and no others; of a folder that does not tell, nothing is said
abbrev pub Makes : Option (List TapeFile) → Option (List TapeFile) → List TapeFile → Type 0
Makes None new files = Unit {0}
Makes (Some old) None files = ⊥
Makes (Some old) (Some new) files = new ≡ old ++ files

-- the file of a tape, by its number: its frames, one a byte
abbrev pub tape_file : ℕ → List ℕ → RollPiece → TapeFile
tape_file number frames piece = record { name = tape_name number; bytes = frames_in frames piece }

-- the files of tapes, numbered from this number on
abbrev pub files_from : ℕ → List ℕ → List RollPiece → List TapeFile
files_from number frames [] = []
files_from number frames (piece ∷ pieces) = tape_file number frames piece ∷ files_from (number + 1) frames pieces

-- of these tapes the first so many were made, each a file, and no other file was
pub record FrontMade (frames : List ℕ) (tapes : List RollPiece) (old new : Option (List TapeFile)) : Type 0 where
  pub many : ℕ
  pub made : Makes old new (files_from 1 frames (take many tapes))
