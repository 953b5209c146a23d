-- What is left of a connection that was given up.
use Rattle.std.proofs.Common.{◌≡◌, IsTrue, subst, ◌∙◌}
use Rattle.std.proofs.Math.Logic.{∥∥₁_map}
use Rattle.sqlite_disk.specs.declared.Disk.{Ghosts}
use Rattle.sqlite_disk.specs.declared.Files.{Files}
use Rattle.sqlite.specs.WalReads.{AreClean}
use Rattle.sqlite_trees.specs.View.{IsClean, IsQuiet}
use Rattle.sqlite_trees.proofs.Doubt.{no_doubt}
use Rattle.sqlite.specs.declared.FileStore.{FileStore}
use Rattle.sqlite.specs.FileStore.{view, faults, recovers, is_shielded, files}
use Rattle.sqlite.specs.Held.{Held, AreDatabases}
use Rattle.sqlite.proofs.OpenLemmas.{pool_files}
use Rattle.sqlite.proofs.Theorems.{opens_again}
use Rattle.sqlite_pool.proofs.StateLemmas.{may_leave_is}
use Rattle.acceptor_store.specs.Restarts.{GivesUp}

pub gives_up : {D : Type 0} (g : Ghosts D) (conn : Held (FileStore D g)) (it : FileStore D g) (out : Files D) → (out.log, out.db) ≡ files it
    → (IsClean (view it) → IsTrue (view it).is_numbered) → (IsClean (view it) → AreDatabases (recovers it)) → IsQuiet view faults recovers is_shielded conn.store it → GivesUp g conn out
gives_up {D = D} g conn it out are numbered sound quiet clean left may =
    let honest : AreClean g (files it).0 (files it).1 = subst (λ (p : D × D). AreClean g p.0 p.1) are clean in
    let is_clean : IsClean (view it) = no_doubt _ ((pool_files it.pool).1 ∙ honest) in
    let image = may_leave_is it.pool left honest (subst (λ (p : D × D). g.may_leave p.0 left.log × g.may_leave p.1 left.db) are may) in
    ∥∥₁_map (opens_again it (numbered is_clean) (sound is_clean) left image) (λ db. (db.0, quiet.outcomes db.0 db.1, db.2))
