use Rattle.sha2.proofs.Facts256.{length-sha256}
use Rattle.hmac.specs.Hmac.{hmac_of_block}
use Rattle.hmac.proofs.laws.lengths.Goals as goal

pub returns : goal.returns
unfolding hmac_of_block
returns c = λ block message. length-sha256 _
