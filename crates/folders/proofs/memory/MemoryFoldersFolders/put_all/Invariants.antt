-- So many were written so far.
use Rattle.std.proofs.Common.{◌≡◌, ◌++◌, map, take}
use Rattle.folders.specs.Acting.{acts_of}
use Rattle.folders.specs.Doings.{wrote_file}
use Rattle.folders.proofs.memory.MemoryFoldersFolders.put_all.Given as goal

abbrev pub invariant-loop-written : goal.invariant-loop-written
invariant-loop-written l = acts_of l.self.acts.items ≡ acts_of l.initial.self.acts.items ++ map wrote_file (take l.written l.files)
