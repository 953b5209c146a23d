use Rattle.std.proofs.Common.{◌≡◌, rules}
use Rattle.offers.proofs.Airborne.{looked_fewer, held_still, alone_still}
use Rattle.offers.proofs.Flying.{left}
use Rattle.offers.proofs.Looking.{found_rises}
use Rattle.offers.proofs.Marking.{few_looked, room_for}
use Rattle.offers.proofs.book.Book.see.Goals as goal

pub invariant_of-self : goal.invariant_of-self
invariant_of-self c =
    let same : c.from.result.items ≡ c.self.inside.offers.items = search rules in
    let fewer = looked_fewer c.self.inside.offers.items c.args.now c.args.found.now in
    record {
      rises = rw c.merge.ensures (found_rises c.from.result.items c.args.now 0 c.args.found.now);
      apart = c.self.invariant.apart;
      few = c.self.invariant.few;
      held = rw (c.merge.ensures, same) (held_still c.self.inside.known.window _ c.self.inside.offers.items fewer c.self.invariant.held);
      alone = rw (c.merge.ensures, same) (alone_still _ c.self.inside.offers.items fewer c.self.invariant.alone);
      marked = record {
        moves = rw c.as_slice.ensures.value at c.mark_all.ensures.moves;
        others = rw c.as_slice.ensures.value at c.mark_all.ensures.others;
        sought = rw c.as_slice.ensures.value at c.mark_all.ensures.sought;
        entries = rw c.as_slice.ensures.value at c.mark_all.ensures.entries;
        searches = rw c.as_slice.ensures.value at c.mark_all.ensures.searches;
      };
      idle = λ e. absurd (left e);
    }

pub mark_all-requires : goal.mark_all-requires
mark_all-requires c = record {
  room = rw (c.as_slice.ensures.value, c.merge.ensures)
      (room_for _ c.in_ok-marks.marks _ (few_looked c.from.result.items c.args.now c.args.found.now) c.in_ok-marks.ensures.moves.0 c.in_ok-marks.ensures.others.0 c.in_ok-marks.ensures.sought.0 c.in_ok-marks.ensures.entries.0 c.in_ok-marks.ensures.searches.0);
  none = record {
    moves = c.in_ok-marks.ensures.moves.1;
    others = c.in_ok-marks.ensures.others.1;
    sought = c.in_ok-marks.ensures.sought.1;
    entries = c.in_ok-marks.ensures.entries.1;
    searches = c.in_ok-marks.ensures.searches.1;
  };
}
