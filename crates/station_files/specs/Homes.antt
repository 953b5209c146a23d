-- Whether a file of a station lies within its folders.
use Rattle.std.specs.Prelude.{◌≡◌, ℕ, List, Some, slice_get, codes}
use Rattle.folders.specs.declared.stamp.FileId.{FileId}
use Rattle.station_files.specs.declared.file.StationFile.{StationFile}
use Rattle.station_files.specs.declared.homes.Holder.{Holder}
use Rattle.station_files.specs.declared.homes.Holder.TheVariants as holders
use Rattle.station_files.specs.declared.homes.Home.{Home}
use Rattle.station_files.specs.Files.{IsTied}
use Rattle.station_files.specs.Traces.{IsOneFile}

-- it lies in this folder or below it, and has no place there
pub record LiesAmiss (folder : FileId) (home : Home) : Type 0 where
  pub untied : ¬ IsTied home.file
  pub there : IsOneFile home.folder folder

-- one of these that lies there is of this file
pub record IsAmong (folder : FileId) (homes : List Home) (file : StationFile) : Type 0 where
  pub place : ℕ
  pub home : Home
  pub stands : slice_get homes place ≡ Some home
  pub amiss : LiesAmiss folder home
  pub named : file ≡ home.file

-- the name of a folder's key
abbrev pub holder_word : Holder → List ℕ
holder_word holders.Offers = codes "offers"
holder_word holders.Releases = codes "releases"
