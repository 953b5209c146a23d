-- The file was found, or not.
use Rattle.run_command.proofs.Looking.{looks_found, looks_failed, failed_on}
use Rattle.run_command.proofs.reading.find.Goals as goal

pub returns-in_err-read : goal.returns-in_err-read
returns-in_err-read g c = looks_failed _ _ c.args.file.now.name.now _ c.in_err-read.ensures.err (λ doings. failed_on _ c.from_residual.result c.from_residual.ensures.0)

pub returns : goal.returns
returns g c = looks_found c.in_ok-read.field-0 _ _ c.args.file.now.name.now c.in_ok-read.ensures.whole c.in_ok-read.ensures.longer
