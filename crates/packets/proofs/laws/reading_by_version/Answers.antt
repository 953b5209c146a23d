use Rattle.packets.proofs.Saying.{read_as_said, read_what_fits, two_reads_both}
use Rattle.packets.proofs.laws.reading_by_version.Goals as goal

pub returns : goal.returns
returns c = record { said = read_as_said; fits = read_what_fits; both = two_reads_both }
