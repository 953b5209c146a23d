-- From the one spelling of each packet.
use Rattle.packets.proofs.Speaking.{members_can_speak}
use Rattle.packets.proofs.laws.members_can_speak.Goals as goal

pub returns : goal.returns
returns g c = members_can_speak c.one_spelling.ensures.fits c.reading.ensures.again c.reading_by_version.ensures.fits
