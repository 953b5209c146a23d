use Rattle.std.proofs.Common.{◌≡◌, Ok}
use Rattle.toml.specs.Parse.{parse_document}
use Rattle.code_table.specs.Reading.{read_table}
use Rattle.commands.proofs.Faults.{no_rows}
use Rattle.commands.proofs.Texts.{read_known}
use Rattle.commands.proofs.files.table_at.Goals as goal

pub returns : goal.returns
returns g c = record {
  ok = read_known c.read_table.result (λ table text. read_table (parse_document text) ≡ Ok table) _ _ c.open-input.ensures c.read_table.ensures.ok;
  fault = no_rows c.read_table.result c.read_table.ensures.err;
}
