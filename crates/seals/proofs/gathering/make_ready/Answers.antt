use Rattle.std.proofs.Common.{◌++◌, ◌∷◌, [], List, ℕ, length, inr, ap, subst, ◌∙◌}
use Rattle.std.specs.List.{All}
use Rattle.seals.specs.Parts.{Parts, IsFor}
use Rattle.seals.specs.Places.{Roomed}
use Rattle.seals.proofs.Counting.{roomed_counts, ready_counts}
use Rattle.seals.proofs.gathering.make_ready.Goals as goal

pub returns-in_err-push-clause-bounded : goal.returns-in_err-push-clause-bounded
returns-in_err-push-clause-bounded c = λ few m. rw c.in_err-push.ensures.items (roomed_counts c.from.result c.args.slots.now.items c.make_room.new.slots.items c.make_room.ensures few m)

pub returns-clause-ready : goal.returns-clause-ready
returns-clause-ready c =
    let place = c.args.piece.now.place in
    let label = c.args.piece.now.label in
    let old = c.args.slots.now.items in
    let roomed = c.make_room.new.slots.items in
    let none = subst (λ (l : List Parts). All (λ p. ¬ IsFor place label p) l) c.deref.ensures.value c.in_default.ensures in
    let room = subst (λ (m : ℕ). Roomed m old roomed) c.from.ensures c.make_room.ensures in
    let items = c.in_ok-push.ensures.items ∙ ap (λ (p : Parts). roomed ++ p ∷ []) c.in_ok-slot.ensures in
    inr (none, (roomed, room, items, ap length c.as_slice-at.ensures.value))

pub returns-clause-bounded : goal.returns-clause-bounded
returns-clause-bounded c = ready_counts c.args.piece.now.place c.args.piece.now.label c.args.slots.now.items c.push.new.self.items (length c.as_slice-at.result.now) (returns-clause-ready c)
