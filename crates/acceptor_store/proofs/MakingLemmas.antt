-- Tables that are not made, by which fault.
use Rattle.std.proofs.Common.{◌≡◌, false}
use Rattle.sqlite_trees.specs.declared.store.Store.{Ghosts}
use Rattle.sqlite.specs.Held.{Held, state}
use Rattle.protocol.specs.Versions.{Version}
use Rattle.rows_saved.specs.declared.identity.Identity.{Identity}
use Rattle.acceptor_store.specs.FoundTables.{has_tables}
use Rattle.acceptor_store.specs.Faults.{rows_fault, IsOfMaking}
use Rattle.acceptor_store.specs.Taking.{RefusesToMake, TellsWhyUnmade}
use Rattle.acceptor_store.specs.declared.faults.FileFault.{FileFault}
use Rattle.acceptor_store.specs.declared.faults.FileFault.TheVariants as faults

-- where they are not all there, it is told as it is refused
pub unmade_by : {S : Type 0} (g : Ghosts S) (i : Identity) (made_at : Version) (fault : FileFault) (was now : Held S)
    → has_tables (state g was).now.schema ≡ false → IsOfMaking fault → RefusesToMake g i made_at (rows_fault fault) was now → TellsWhyUnmade g i made_at fault was now
unmade_by g i made_at faults.DiskFull was now none making refused = (none, refused)
unmade_by g i made_at (faults.Rows fault) was now none making refused = (none, refused)
unmade_by g i made_at faults.InUse was now none making refused = making
unmade_by g i made_at faults.Unmade was now none making refused = making
unmade_by g i made_at faults.Made was now none making refused = absurd making
unmade_by g i made_at faults.Damaged was now none making refused = making
unmade_by g i made_at faults.Unopened was now none making refused = making
unmade_by g i made_at faults.DiskFailed was now none making refused = making
