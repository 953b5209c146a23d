use Rattle.std.proofs.Common.{arith}
use Rattle.offers.specs.Stages.{after}
use Rattle.offers.specs.declared.stage.Landing.TheVariants.{Released}
use Rattle.offers.specs.declared.stage.FileNews.TheVariants as news
use Rattle.offers.proofs.Airborne.{held_landed, alone_still, landed_fewer}
use Rattle.offers.proofs.Flying.{apart_fewer, length_fewer, left}
use Rattle.offers.proofs.Marking.{has_room, many_all, landed_marked}
use Rattle.offers.proofs.book.Book.released.Goals as goal

pub invariant_of-self : goal.invariant_of-self
invariant_of-self c =
    rw c.in-Err.ensures.err
    (record {
      rises = c.self.invariant.rises;
      apart = c.self.invariant.apart;
      few = c.self.invariant.few;
      held = c.self.invariant.held;
      alone = c.self.invariant.alone;
      marked = record { moves = c.self.invariant.marked.moves; others = c.self.invariant.marked.others; sought = c.self.invariant.marked.sought; entries = c.self.invariant.marked.entries; searches = c.self.invariant.marked.searches };
      idle = λ e. absurd (left e);
    })

pub invariant_of-self-in-Ok : goal.invariant_of-self-in-Ok
invariant_of-self-in-Ok c =
    let fewer = length_fewer c.args.number c.self.inside.known.window in
    let g = after (news.Landed Released) 0 in
    let moves = rw (c.as_slice.ensures.value, c.tell_all.ensures.news) at c.remark.ensures.moves in
    let others = rw (c.as_slice.ensures.value, c.tell_all.ensures.news, c.leave.ensures) at c.remark.ensures.others in
    let sought = rw (c.as_slice.ensures.value, c.tell_all.ensures.news, c.leave.ensures) at c.remark.ensures.sought in
    let entries = rw (c.as_slice.ensures.value, c.tell_all.ensures.news, c.leave.ensures) at c.remark.ensures.entries in
    let searches = rw (c.as_slice.ensures.value, c.tell_all.ensures.news, c.leave.ensures) at c.remark.ensures.searches in
    record {
      rises = c.tell_all.ensures.rises;
      apart = rw c.leave.ensures (apart_fewer c.args.number c.self.inside.known.window c.self.invariant.apart);
      few = rw c.leave.ensures (omega (arith, c.self.invariant.few));
      held = rw (c.leave.ensures, c.tell_all.ensures.news) (held_landed c.self.inside.known.window c.args.number Released 0 c.self.inside.offers.items c.self.invariant.held);
      alone = rw c.tell_all.ensures.news (alone_still _ c.self.inside.offers.items (landed_fewer c.args.number Released 0 c.self.inside.offers.items) c.self.invariant.alone);
      marked = rw (c.leave.ensures, c.tell_all.ensures.news) (let told = landed_marked _ c.args.number g c.keep.new.released.entries c.self.inside.marks c.remark.new.marks c.self.invariant.marked c.in-Ok.ensures.ok.rest moves others sought entries searches in record { moves = told.moves; others = told.others; sought = told.sought; entries = told.entries; searches = told.searches });
      idle = λ e. absurd (left e);
    }

pub remark-requires-clause-room : goal.remark-requires-clause-room
remark-requires-clause-room c = rw (c.as_slice.ensures.value, c.tell_all.ensures.news) (has_room _ _ c.self.inside.marks c.self.invariant.marked (many_all c.args.number (after (news.Landed Released) 0) c.self.inside.offers.items))
