-- A line that orders no step leaves what is shown.
use Rattle.std.proofs.Common.{refl}
use Rattle.rehearse_command.proofs.Shown.{front_shown}
use Rattle.rehearse_command.proofs.rehearsal.Rehearsal.play.Goals as goal

pub returns-in-Some : goal.returns-in-Some
returns-in-Some g c = record { goes_on = c.show.ensures.goes_on; stops = c.show.ensures.stops; no_more = c.show.ensures.is_new }

pub returns-in-None : goal.returns-in-None
returns-in-None g c = record {
  goes_on = λ by start s. tt;
  stops = λ by start s. front_shown by start (g.W.Write.contents c.args.out.now) c.args.self.now.world s;
  no_more = refl;
}
