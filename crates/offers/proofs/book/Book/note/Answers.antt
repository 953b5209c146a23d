use Rattle.offers.specs.Order.{rank}
use Rattle.offers.specs.Stages.{after}
use Rattle.offers.proofs.Airborne.{told_fewer, held_still, alone_still}
use Rattle.offers.proofs.Flying.{left}
use Rattle.offers.proofs.Marking.{has_room, many_changed, told_marked}
use Rattle.offers.proofs.book.Book.note.Goals as goal

pub invariant_of-self : goal.invariant_of-self
invariant_of-self c =
    let fewer = told_fewer (rank c.args.request) c.args.news c.args.now c.self.inside.offers.items c.requires in
    let moves = rw (c.as_slice.ensures.value, c.tell.ensures.news) at c.remark.ensures.moves in
    let others = rw (c.as_slice.ensures.value, c.tell.ensures.news) at c.remark.ensures.others in
    let sought = rw (c.as_slice.ensures.value, c.tell.ensures.news) at c.remark.ensures.sought in
    let entries = rw (c.as_slice.ensures.value, c.tell.ensures.news) at c.remark.ensures.entries in
    let searches = rw (c.as_slice.ensures.value, c.tell.ensures.news) at c.remark.ensures.searches in
    record {
      rises = c.tell.ensures.rises;
      apart = c.self.invariant.apart;
      few = c.self.invariant.few;
      held = rw c.tell.ensures.news (held_still c.self.inside.known.window _ c.self.inside.offers.items fewer c.self.invariant.held);
      alone = rw c.tell.ensures.news (alone_still _ c.self.inside.offers.items fewer c.self.invariant.alone);
      marked = rw c.tell.ensures.news (let told = told_marked _ c.args.request (after c.args.news c.args.now) c.self.inside.marks c.remark.new.marks c.self.invariant.marked moves others sought entries searches in record { moves = told.moves; others = told.others; sought = told.sought; entries = told.entries; searches = told.searches });
      idle = λ e. absurd (left e);
    }

pub remark-requires-clause-room : goal.remark-requires-clause-room
remark-requires-clause-room c = rw (c.as_slice.ensures.value, c.tell.ensures.news) (has_room _ _ c.self.inside.marks c.self.invariant.marked (many_changed (rank c.args.request) (after c.args.news c.args.now) c.self.inside.offers.items))
