-- When a file is the one that was found before, by its stamp.
use Rattle.std.specs.Prelude.{◌≡◌}
use Rattle.folders.specs.declared.stamp.Stamp.{Stamp}

-- the same file, of the same length, and with the same moment of change of what it holds
pub record IsAsRead (before now : Stamp) : Type 0 where
  pub device : before.file.device ≡ now.file.device
  pub inode : before.file.inode ≡ now.file.inode
  pub length : before.length ≡ now.length
  pub changed : before.changed.0 ≡ now.changed.0
  pub changed_within : before.changed.1 ≡ now.changed.1

-- and with the same moment of change of what is told about it
pub record IsUnchanged (before now : Stamp) : Type 0 where
  pub as_read : IsAsRead before now
  pub touched : before.touched.0 ≡ now.touched.0
  pub touched_within : before.touched.1 ≡ now.touched.1
