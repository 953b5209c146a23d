-- What `create` makes and writes.
use Rattle.std.specs.Prelude.{◌≡◌, ℕ, List, ◌++◌, Option, Result, OnOk, IfErr, codes, decimal}
use Rattle.std.specs.Io.KnownBytes.{Appends}
use Rattle.tape_frames.specs.declared.version.Version.{Version}
use Rattle.tape_frames.specs.declared.version.Version.TheVariants.{One, Two}
use Rattle.rows_saved.specs.declared.identity.Identity.{Identity}
use Rattle.command_ends.specs.Ends.{end_of, IsOfRows}
use Rattle.command_ends.specs.declared.end.End.{End}
use Rattle.command_ends.specs.declared.end.End.TheVariants.{Done}
use Rattle.command_ends.specs.declared.fault.Fault.{Fault}

-- the layout that rows of this version are made in
abbrev pub layout_number : Version → ℕ
layout_number One = 1
layout_number Two = 2

-- the line that says which file was made, for which station, in which layout
abbrev pub made_line : List ℕ → Identity → Version → List ℕ
made_line path i version =
    codes "made " ++ (path ++ (codes ": station " ++ (decimal i.member ++ (codes " of " ++ (decimal i.members
    ++ (codes " circuit " ++ (decimal i.circuit ++ (codes " layout " ++ (decimal (layout_number version) ++ codes "\n")))))))))

-- a row file was made at a path for a station in this version, and that was written
pub record IsCreated {F : Type 0} (leaves : F → List ℕ → Identity → Version → Type 0) (files : F) (version : Version) (old new : Option (List ℕ)) : Type 0 where
  pub path : List ℕ
  pub station : Identity
  pub made : leaves files path station version
  pub wrote : Appends old new (made_line path station version)

-- up to this result such a file was made and that was written; a fault is one of the rows, the output or memory
pub record Creates {F : Type 0} (leaves : F → List ℕ → Identity → Version → Type 0) (files : F) (version : Version) (old new : Option (List ℕ))
    (result : Result (Unit {0}) Fault) : Type 0 where
  pub ok : OnOk result (IsCreated leaves files version old new)
  pub err : IfErr result (λ fault. IsOfRows (end_of fault))

-- `create` ends by a fault of the rows, the output or memory; or well, and then a row file was made and that was written
pub record CreateEnds {F : Type 0} (leaves : F → List ℕ → Identity → Version → Type 0) (files : F) (version : Version) (old new : Option (List ℕ)) (end : End) : Type 0 where
  pub ends : IsOfRows end
  pub done : end ≡ Done → IsCreated leaves files version old new
