-- The member whose turn it is has a number that waits.
use Rattle.std.proofs.Common.{◌≡◌, ◌<◌, length, ap, sym, refl, ◌∙◌, arith}
use Rattle.std.proofs.lemmas.List.{get_or_default}
use Rattle.catch_up.specs.Asked.{AskerValue, AskedValue, asker_at, nobody}
use Rattle.catch_up.proofs.Turns.{turn_ready, ready_waits}
use Rattle.catch_up.proofs.asked.RecallQueue.take.Goals as goal

pub unreachable-requires-in_default-take : goal.unreachable-requires-in_default-take
unreachable-requires-in_default-take c =
    let place = c.in_ok-place.place in
    let low = c.in_ok-place.ensures.within in
    let many = c.self.invariant.0 in
    let within : place < length c.self.inside.askers.items = omega (arith, low, many) in
    let here : asker_at place c.args.self.now ≡ c.index_mut.result.now =
    sym (ap (λ (a : AskedValue). asker_at place a) c.self.view_is)
    ∙ get_or_default c.self.inside.askers.items place nobody c.index_mut.result.now within
    ∙ sym c.index_mut.ensures.value in
    ready_waits c.args.now (asker_at place c.args.self.now) (turn_ready c.args.now c.args.self.now place (sym c.in_ok-place.ensures.turn))
    (ap (λ (s : AskerValue). s.waiting) here ∙ c.in_default-take.ensures.none refl)
