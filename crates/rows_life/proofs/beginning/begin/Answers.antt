use Rattle.std.proofs.Common.{refl, sym, subst}
use Rattle.std.proofs.lemmas.Bool.{and_parts}
use Rattle.sqlite_disk.specs.declared.Files.{Files}
use Rattle.rows_files.specs.Found.{HoldsNoFrame}
use Rattle.rows_life.specs.Keeping.{IsNewLog}
use Rattle.rows_life.proofs.RenewLemmas.{unframed_when_blank}
use Rattle.rows_life.proofs.FilesLemmas.{both_clean, lose_then, mark_loses, renew_loses, size_still_named}
use Rattle.rows_life.proofs.beginning.begin.Goals as goal

pub returns-in_err-mark_at_rest-clause-kept : goal.returns-in_err-mark_at_rest-clause-kept
returns-in_err-mark_at_rest-clause-kept g c =
    let h = g.D.Disk in
    let old = c.args.files.now in
    let one : Files _ = record { log = old.log; db = c.mark_at_rest.new.db } in
    mark_loses h old one refl c.mark_at_rest.ensures.mark

pub returns-in_err-renew-clause-kept : goal.returns-in_err-renew-clause-kept
returns-in_err-renew-clause-kept g c =
    let h = g.D.Disk in
    let old = c.args.files.now in
    let one : Files _ = record { log = old.log; db = c.mark_at_rest.new.db } in
    let two : Files _ = record { log = c.renew.new.log; db = c.mark_at_rest.new.db } in
    lose_then h old one two (both_clean h one two c.renew.ensures.stands.clean (λ x. x))
    (mark_loses h old one refl c.mark_at_rest.ensures.mark)
    (renew_loses h c.args.log.now one two refl c.in_ok-mark_at_rest.ensures.rests.synced (g.met.D.Disk.seen_may_stay old.log)
    (λ clean. (and_parts _ _ clean).0)
    (λ clean. unframed_when_blank _ (subst HoldsNoFrame (c.requires.told (c.renew.ensures.stands.clean (and_parts _ _ clean).0)) c.requires.copied))
    (λ clean long. subst (λ n. IsNewLog n c.args.log.now) (sym (size_still_named _ _ c.mark_at_rest.ensures.mark.seen long)) (c.requires.made (c.mark_at_rest.ensures.rests.clean (and_parts _ _ clean).1)))
    c.renew.ensures.kept)

pub returns-clause-kept : goal.returns-clause-kept
returns-clause-kept g c =
    let h = g.D.Disk in
    let old = c.args.files.now in
    let one : Files _ = record { log = old.log; db = c.mark_at_rest.new.db } in
    let two : Files _ = record { log = c.renew.new.log; db = c.mark_at_rest.new.db } in
    let end : Files _ = record { log = c.renew.new.log; db = c.mark_in_use.new.db } in
    lose_then h old one end (both_clean h one end c.renew.ensures.stands.clean c.mark_in_use.ensures.uses.clean)
    (mark_loses h old one refl c.mark_at_rest.ensures.mark)
    (lose_then h one two end (both_clean h two end (λ x. x) c.mark_in_use.ensures.uses.clean)
    (renew_loses h c.args.log.now one two refl c.in_ok-mark_at_rest.ensures.rests.synced (g.met.D.Disk.seen_may_stay old.log)
    (λ clean. (and_parts _ _ clean).0)
    (λ clean. unframed_when_blank _ (subst HoldsNoFrame (c.requires.told (c.renew.ensures.stands.clean (and_parts _ _ clean).0)) c.requires.copied))
    (λ clean long. subst (λ n. IsNewLog n c.args.log.now) (sym (size_still_named _ _ c.mark_at_rest.ensures.mark.seen long)) (c.requires.made (c.mark_at_rest.ensures.rests.clean (and_parts _ _ clean).1)))
    c.renew.ensures.kept)
    (mark_loses h two end refl c.mark_in_use.ensures.mark))
