-- The words of the log for why a folder did not serve.
use Rattle.std.specs.Prelude.{ℕ, List, codes}
use Rattle.folders.specs.declared.fault.FolderFault.{FolderFault}
use Rattle.folders.specs.declared.fault.FolderFault.TheVariants as faults

-- a fault in a few words
abbrev pub fault_word : FolderFault → List ℕ
fault_word faults.Missing = codes "it is not there"
fault_word faults.NotAllowed = codes "it is not allowed"
fault_word faults.Full = codes "the disk is full"
fault_word faults.NameTooLong = codes "the name is too long"
fault_word faults.NoFile = codes "it is no plain file"
fault_word faults.NoFolder = codes "it is no folder"
fault_word faults.TooLong = codes "it is too long"
fault_word faults.Changed = codes "it was changed"
fault_word faults.InUse = codes "another process works with it"
fault_word faults.Failed = codes "the host failed"
fault_word faults.OutOfMemory = codes "out of memory"
