-- The version of the rows, taken over.
use Rattle.std.proofs.Common.{refl, ap, ◌∙◌}
use Rattle.protocol.specs.Versions.{Version}
use Rattle.station.specs.Speaking.{is_lower}
use Rattle.station.specs.Stations.{sight}
use Rattle.station.proofs.Asking.{followed}
use Rattle.station.proofs.station.Station.follow_rows.Goals as goal

pub returns : goal.returns
returns g c =
    let old = c.args.self.now in
    let lower = ap (λ (v : Version). is_lower v old.speaker.wire) c.version.ensures in
    record {
      same = refl;
      wire = c.follow.ensures.wire ∙ c.version.ensures;
      seat = c.follow.ensures.seat;
      follows = followed (sight g.R.Rows) old (record old { speaker = c.follow.new.self }) refl (c.follow.ensures.wire ∙ c.version.ensures) c.follow.ensures.seat
          (λ h. c.follow.ensures.keeps (lower ∙ h)) (λ h. c.follow.ensures.forgets (lower ∙ h));
    }
