use Rattle.std.proofs.Common.{◌⊎◌, inl, inr, refl, sym, subst, ◌∙◌, rules}
use Rattle.std.proofs.lemmas.Bool.{and_parts}
use Rattle.sqlite_disk.specs.declared.Files.{Files}
use Rattle.sqlite_wal.specs.Files.{seen_image}
use Rattle.sqlite_wal.specs.Reads.{AreClean, IsClean}
use Rattle.rows_files.specs.Found.{HoldsNoFrame}
use Rattle.rows_life.specs.Keeping.{AreUnwritten, KeepNoSums}
use Rattle.rows_life.proofs.FilesLemmas.{both_clean, either_keeps, lose_then, mark_loses, unwritten_keeps, unwritten_loses, unwritten_then}
use Rattle.rows_life.proofs.SumLemmas.{markable_keeps_none}
use Rattle.rows_life.proofs.beginning.end_life.Goals as goal

pub returns-in_err-file : goal.returns-in_err-file
returns-in_err-file g c =
    let h = g.D.Disk in
    let old = c.args.files.now in
    let new = c.pair_on.new.files in
    record {
      ends = record {
        ended = search rules;
        clean = search rules;
        kept = unwritten_loses h old new c.pair_on.ensures.unwritten;
        stands = unwritten_keeps h old new c.pair_on.ensures.unwritten;
      };
    }

pub returns-else-can_be_marked : goal.returns-else-can_be_marked
returns-else-can_be_marked g c =
    let h = g.D.Disk in
    let old = c.args.files.now in
    let new = c.pair_on.new.files in
    record {
      ends = record {
        ended = search rules;
        clean = search rules;
        kept = unwritten_loses h old new c.pair_on.ensures.unwritten;
        stands = unwritten_keeps h old new c.pair_on.ensures.unwritten;
      };
    }

pub returns-then-can_be_marked : goal.returns-then-can_be_marked
returns-then-can_be_marked g c =
    let h = g.D.Disk in
    let old = c.args.files.now in
    let mid = c.pair_on.new.files in
    let end : Files _ = record { log = c.pair_on.new.files.log; db = c.rest.new.db } in
    let was = both_clean h mid end (λ x. x) c.rest.ensures.rests.clean in
    let loses = lose_then h old mid end was (unwritten_loses h old mid c.pair_on.ensures.unwritten) (mark_loses h mid end refl c.rest.ensures.mark) in
    let either : (AreClean h end.log end.db → KeepNoSums (seen_image h old.log old.db)) ⊎ AreUnwritten h old end = elim c.rest.ensures.held [
      | inl held ↦ inl (λ clean.
          let both = and_parts _ _ clean in
          let calm : IsClean h mid.db = c.rest.ensures.rests.clean both.1 in
          markable_keeps_none (h.seen old.log) (h.seen old.db) c.in-Database.mark (sym (c.in_ok-file.ensures.file calm) ∙ c.in-Database.is) (c.if-can_be_marked.ensures.yes refl)
          (subst HoldsNoFrame (c.in_ok-file.ensures.beside both.0) held) (c.in_ok-file.ensures.bytes calm))
      | inr unwritten ↦ inr (record { log = c.pair_on.ensures.unwritten.log; db = unwritten_then _ _ _ c.pair_on.ensures.unwritten.db unwritten })
    ] in
    record {
      ends = record {
        ended = search rules;
        clean = search rules;
        kept = loses;
        stands = either_keeps h old end loses either;
      };
    }

pub returns-in-Nothing : goal.returns-in-Nothing
returns-in-Nothing g c =
    let h = g.D.Disk in
    let old = c.args.files.now in
    let new = c.pair_on.new.files in
    record {
      ends = record {
        ended = search rules;
        clean = search rules;
        kept = unwritten_loses h old new c.pair_on.ensures.unwritten;
        stands = unwritten_keeps h old new c.pair_on.ensures.unwritten;
      };
    }
