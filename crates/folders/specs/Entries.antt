-- Folders that others can replace.
use Rattle.std.specs.Prelude.{◌≡◌}
use Rattle.folders.specs.declared.stamp.FileId.{FileId}
use Rattle.folders.specs.declared.entries.Entry.{Entry}
use Rattle.folders.specs.declared.entries.Entry.TheVariants.{Folder, Other}

-- just this folder was seen
abbrev pub IsSeenFolder : Entry → FileId → Type 0
IsSeenFolder (Folder id) opened = (id.device ≡ opened.device) × (id.inode ≡ opened.inode)
IsSeenFolder Other opened = ⊥
