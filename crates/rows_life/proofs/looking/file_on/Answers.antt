use Rattle.std.proofs.Common.{◌≡◌, slice_index, sym, ◌∙◌, ap, rules, arith}
use Rattle.std.specs.Prelude.{take}
use Rattle.std.proofs.lemmas.List.{get_or-take}
use Rattle.rows_files.specs.Found.{file_of}
use Rattle.rows_life.proofs.LifeLemmas.{read_whole}
use Rattle.rows_life.proofs.looking.file_on.Goals as goal

pub returns-clause-file : goal.returns-clause-file
returns-clause-file g c =
    record {
      found = λ clean. c.file_of.ensures ∙ ap file_of (read_whole _ _ 108 (search rules) (c.in_ok-read_at.ensures.read clean (search rules)));
      clean = c.read_at.ensures.clean;
      usable = c.read_at.ensures.usable;
      unwritten = record { seen = c.read_at.ensures.seen; crash = c.read_at.ensures.crash };
    }

pub returns-clause-bytes : goal.returns-clause-bytes
returns-clause-bytes g c =
    λ clean i low.
    let is : c.read_at.new.buf ≡ take 108 (g.D.Disk.seen c.args.db.now) = read_whole _ _ 108 (search rules) (c.in_ok-read_at.ensures.read clean (search rules)) in
    let same : slice_index (g.D.Disk.seen c.args.db.now) i ≡ slice_index c.read_at.new.buf i = sym (get_or-take 108 (g.D.Disk.seen c.args.db.now) i 0 low) ∙ ap (λ b. slice_index b i) (sym is) in
    omega (arith, same, c.are_bytes.ensures i (search (rules, low)))
