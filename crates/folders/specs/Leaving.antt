-- Where a file of the offers goes, and under what name.
use Rattle.std.specs.Prelude.{ℕ, Bool, List, ◌++◌, ◌==◌, ◌&&◌, nat_le, if◌then◌else◌, Option, Some, None, codes, decimal}
use Rattle.folders.specs.declared.leaving.Place.{Place}
use Rattle.folders.specs.declared.leaving.Place.TheVariants as places
use Rattle.folders.specs.declared.leaving.Return.{Return}
use Rattle.folders.specs.declared.leaving.Return.TheVariants as returns
use Rattle.folders.specs.declared.stamp.FileId.{FileId}

-- the folder of a place, within the offers
abbrev pub folder_name : Place → List ℕ
folder_name places.Sent = codes "sent"
folder_name places.Lost = codes "lost"
folder_name places.Refused = codes "refused"
folder_name places.Done = codes "done"

-- the first file of a name has it, the second has `.2` behind it, and so on
abbrev pub copy_name : List ℕ → ℕ → List ℕ
copy_name name number = if nat_le number 1 then name else name ++ (codes "." ++ decimal number)

-- the text beside a file has `.txt` behind the file's name
abbrev pub text_name : List ℕ → List ℕ
text_name name = name ++ codes ".txt"

-- two files are one
abbrev pub is_one : FileId → FileId → Bool
is_one a b = (a.device == b.device) && (a.inode == b.inode)

-- a file that was taken from its name gets it again where nothing stands there; where it stands there itself nothing is to be done; else it is refused
abbrev pub return_of : FileId → Option FileId → Return
return_of own None = returns.Back
return_of own (Some standing) = if is_one standing own then returns.Stands else returns.Refused
