use Rattle.std.proofs.Common.{◌≡◌}
use Rattle.commands.proofs.Faults.{no_rows}
use Rattle.commands.proofs.Texts.{read_known}
use Rattle.commands.proofs.files.tape_at.Goals as goal

pub returns : goal.returns
returns g c = record {
  ok = read_known c.read_tape.result (λ tape frames. tape ≡ frames) _ _ c.open-input.ensures c.read_tape.ensures.ok;
  fault = no_rows c.read_tape.result c.read_tape.ensures.err;
}
