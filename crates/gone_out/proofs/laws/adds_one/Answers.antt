use Rattle.gone_out.proofs.Adding.{adds_one}
use Rattle.gone_out.proofs.laws.adds_one.Goals as goal

pub returns : goal.returns
returns c = adds_one
