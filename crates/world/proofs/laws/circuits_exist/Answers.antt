-- From the setting that each tape has, and from the version that is read in bytes.
use Rattle.world.proofs.Existing.{circuits_exist}
use Rattle.world.proofs.laws.circuits_exist.Goals as goal

pub returns : goal.returns
returns c = circuits_exist c.has_setting.ensures c.reading_by_version.ensures.said
