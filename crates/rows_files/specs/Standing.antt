-- Whether the files that were opened stand at their paths still.
use Rattle.std.specs.Prelude.{◌≡◌, ◌⊎◌}
use Rattle.folders.specs.declared.stamp.FileId.{FileId}
use Rattle.rows_files.specs.declared.standing.PairIds.{PairIds}
use Rattle.rows_files.specs.declared.standing.FoundPair.{FoundPair}
use Rattle.rows_files.specs.declared.standing.FoundId.{FoundId}
use Rattle.rows_files.specs.declared.standing.FoundId.TheVariants.{Nothing, Is, Unseen}

-- just this file was found
abbrev pub IsFoundAs : FileId → FoundId → Type 0
IsFoundAs own (Is id) = (id.device ≡ own.device) × (id.inode ≡ own.inode)
IsFoundAs own Nothing = ⊥
IsFoundAs own Unseen = ⊥

-- a row file and its log stand at their paths
abbrev pub AreTheir : PairIds → FoundPair → Type 0
AreTheir own found = IsFoundAs own.file found.file × IsFoundAs own.log found.log

-- these two stood at the paths before and behind an open, but that the log may have been made by it
pub record IsOpenedPair (before behind : FoundPair) (pair : PairIds) : Type 0 where
  pub behind_it : AreTheir pair behind
  pub file : IsFoundAs pair.file before.file
  pub log : (before.log ≡ Nothing) ⊎ IsFoundAs pair.log before.log
