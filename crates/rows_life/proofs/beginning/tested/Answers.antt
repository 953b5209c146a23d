use Rattle.std.proofs.Common.{rules, subst}
use Rattle.rows_life.specs.Keeping.{KeepNoSums}
use Rattle.rows_life.proofs.FilesLemmas.{both_unwritten}
use Rattle.rows_life.proofs.beginning.tested.Goals as goal

pub returns-in_err-without_sums-clause-begins : goal.returns-in_err-without_sums-clause-begins
returns-in_err-without_sums-clause-begins g c =
    let h = g.D.Disk in
    let old = c.args.files.now in
    let mid = c.has_to_be_copied.new.files in
    let new = c.without_sums.new.files in
    record {
      pair = search rules;
      clean = (λ x. c.has_to_be_copied.ensures.clean.0 (c.without_sums.ensures.clean.0 x), λ x. c.has_to_be_copied.ensures.clean.1 (c.without_sums.ensures.clean.1 x));
      unwritten = both_unwritten h old mid new c.has_to_be_copied.ensures.unwritten c.without_sums.ensures.unwritten;
    }

pub returns-clause-begins : goal.returns-clause-begins
returns-clause-begins g c =
    let h = g.D.Disk in
    let old = c.args.files.now in
    let mid = c.has_to_be_copied.new.files in
    let new = c.without_sums.new.files in
    record {
      pair = λ log db. c.in_ok-copies.ensures.pair (c.without_sums.ensures.clean.0 log) (c.without_sums.ensures.clean.1 db);
      clean = (λ x. c.has_to_be_copied.ensures.clean.0 (c.without_sums.ensures.clean.0 x), λ x. c.has_to_be_copied.ensures.clean.1 (c.without_sums.ensures.clean.1 x));
      unwritten = both_unwritten h old mid new c.has_to_be_copied.ensures.unwritten c.without_sums.ensures.unwritten;
    }

pub returns-clause-plain : goal.returns-clause-plain
returns-clause-plain g c =
    let h = g.D.Disk in
    let s = c.has_to_be_copied.ensures.unwritten in
    λ clean.
    subst KeepNoSums (λ i. record { log = s.log.seen i; db = s.db.seen i }) (c.in_ok-without_sums.ensures.plain clean)
