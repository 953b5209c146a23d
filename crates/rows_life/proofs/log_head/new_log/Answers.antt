use Rattle.std.proofs.Common.{◌≡◌, length, rules}
use Rattle.rows_life.specs.Logs.{log_of, IsHeaded}
use Rattle.rows_files.specs.declared.found.FoundLog.TheVariants.{Blank}
use Rattle.std.specs.Prelude.{Some}
use Rattle.rows_life.proofs.HeadLemmas.{new_log_is}
use Rattle.rows_life.proofs.log_head.new_log.Goals as goal

pub returns-then-is_headed-clause-made : goal.returns-then-is_headed-clause-made
returns-then-is_headed-clause-made c =
    let len : length c.put-6.new.bytes ≡ 56 = search rules in
    let blank : log_of c.put-6.new.bytes ≡ Blank (Some c.args.number) = search rules in
    let headed : IsHeaded c.args.page_size c.put-6.new.bytes = search rules in
    new_log_is c.args.page_size c.args.number c.put-6.new.bytes len blank headed
