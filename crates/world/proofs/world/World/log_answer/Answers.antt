-- There is room for what the answer holds.
use Rattle.std.proofs.Common.{◌≤◌, length, arith}
use Rattle.world.specs.Logging.{out_of}
use Rattle.world.proofs.world.World.log_answer.Goals as goal

pub log_all-requires : goal.log_all-requires
log_all-requires g c =
    let few : length (out_of c.args.step) ≤ 28 = c.requires.few in
    let some : length c.in-Ok.answer.out.items ≤ 28 = rw c.in-Ok.is at few in
    omega (arith, some, c.requires.sent)

pub log_release-requires : goal.log_release-requires
log_release-requires g c = c.requires.releases
