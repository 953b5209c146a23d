use Rattle.std.proofs.Common.{◌≡◌, Ok}
use Rattle.toml.specs.Parse.{parse_document}
use Rattle.widths.specs.Reading.{read_widths}
use Rattle.commands.proofs.Faults.{no_rows}
use Rattle.commands.proofs.Texts.{read_known}
use Rattle.commands.proofs.files.widths_at.Goals as goal

pub returns : goal.returns
returns g c = record {
  ok = read_known c.read_widths.result (λ widths text. read_widths (parse_document text) ≡ Ok widths) _ _ c.open-input.ensures c.read_widths.ensures.ok;
  fault = no_rows c.read_widths.result c.read_widths.ensures.err;
}
