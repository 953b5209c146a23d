use Rattle.gone_out.proofs.Adding.{reads_it_again}
use Rattle.gone_out.proofs.laws.reads_again.Goals as goal

pub returns : goal.returns
returns c = reads_it_again
