use Rattle.looks.proofs.Taking.{placed_after}
use Rattle.looks.proofs.gathering.LookFindings.put_request.Goals as goal

pub invariant_of-self : goal.invariant_of-self
invariant_of-self c =
    placed_after c.insert.result c.self.inside.requests.entries c.insert.new.self.entries c.place_of-place.result c.args.found c.self.inside.strays.entries
    c.insert.ensures.entries c.insert.ensures.err c.place_of-place.ensures.place c.self.invariant
