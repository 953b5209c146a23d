-- When two files of a station are one.
use Rattle.std.specs.Prelude.{◌≡◌, ◌⊎◌, ℕ, List, Some, take, slice_get}
use Rattle.std.specs.List.{AllByRecursion}
use Rattle.folders.specs.declared.stamp.FileId.{FileId}
use Rattle.station_files.specs.declared.file.StationFile.{StationFile}
use Rattle.station_files.specs.declared.traces.Mark.{Mark}
use Rattle.station_files.specs.declared.traces.Mark.TheVariants.{At, Is}
use Rattle.station_files.specs.declared.traces.Trace.{Trace}
use Rattle.station_files.specs.Files.{IsWritten, rank}

-- it is one file of the host
pub record IsOneFile (one other : FileId) : Type 0 where
  pub device : one.device ≡ other.device
  pub inode : one.inode ≡ other.inode

-- it is one name in one folder, or one file
abbrev pub IsSameMark : Mark → Mark → Type 0
IsSameMark (At folder name) (At other_folder other_name) = IsOneFile folder other_folder × (name.now ≡ other_name.now)
IsSameMark (Is id) (Is other_id) = IsOneFile id other_id
IsSameMark (At folder name) (Is id) = ⊥
IsSameMark (Is id) (At folder name) = ⊥

-- two files of the station, one of which is written, have a mark in common
pub record Clashes (one other : Trace) : Type 0 where
  pub two : ¬ (rank one.file ≡ rank other.file)
  pub written : IsWritten one.file ⊎ IsWritten other.file
  pub same : IsSameMark one.mark other.mark

-- it clashes with one of these, which is of this file
pub record ClashesAmong (one : Trace) (others : List Trace) (file : StationFile) : Type 0 where
  pub place : ℕ
  pub other : Trace
  pub stands : slice_get others place ≡ Some other
  pub clash : Clashes one other
  pub named : file ≡ other.file

-- none of these clashes with one before it
abbrev pub AreApart : List Trace → Type 0
AreApart traces = (place : ℕ) (one : Trace) → slice_get traces place ≡ Some one → AllByRecursion (λ other. ¬ Clashes one other) (take place traces)
