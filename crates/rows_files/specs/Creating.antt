-- Rows whose file may be made, rows whose file was made and that were taken up from it, and rows that were not made.
use Rattle.std.specs.Prelude.{◌≡◌, ◌⊎◌, ℕ, List, Option, Some}
use Rattle.protocol.specs.Versions as protocol
use Rattle.tape_frames.specs.Entries.{version_of}
use Rattle.tape_frames.specs.declared.version.Version.{Version}
use Rattle.rows_saved.specs.declared.fault.RowsFault.TheVariants.{WrongSchema}
use Rattle.rows_saved.specs.Identity.{IsIdentity}
use Rattle.rows_saved.specs.declared.identity.Identity.{Identity}
use Rattle.rows_files.specs.Causes.{refused_by}
use Rattle.rows_files.specs.declared.causes.RefusedRows.{RefusedRows}

-- a row file may be made for this station: it is one of a circuit, and whoever asks for the file is allowed to have one made
pub record MayBeMade (Allowed : Type 0) (i : Identity) : Type 0 where
  pub identity : IsIdentity i
  pub allowed : Allowed

-- a file was made whole for a station in a version and given the name at a path, and these rows were taken up from the file there as that station's, in that version
pub record AreMade
    {F R : Type 0} (leaves : F → List ℕ → Identity → Version → Type 0) (opens : F → List ℕ → Option Identity → R → Type 0) (version_in : R → protocol.Version)
    (files : F) (path : List ℕ) (i : Identity) (wanted : Version) (rows : R) : Type 0 where
  pub left : leaves files path i wanted
  pub taken : opens files path (Some i) rows
  pub version : version_in rows ≡ version_of wanted

-- rows whose file was to be made are refused: as the files refuse them, or since the file that stands there by now is in another layout
abbrev pub AreNotMade : {F : Type 0} → (F → RefusedRows → Type 0) → F → RefusedRows → Type 0
AreNotMade refuses files refused = refuses files refused ⊎ (refused ≡ refused_by WrongSchema)
