-- Those so far are marked.
use Rattle.std.proofs.Common.{true, false}
use Rattle.offers.specs.Marks.{move_mark, other_mark, ask_mark}
use Rattle.offers.proofs.Marking.{AreMarksUpTo}
use Rattle.offers.proofs.marks.mark_all.Given as goal

abbrev pub invariant-loop-index : goal.invariant-loop-index
invariant-loop-index l = record {
  moves : AreMarksUpTo (move_mark l.known.released.entries l.known.still l.known.looked) l.offers l.index l.marks.moves;
  others : AreMarksUpTo (other_mark false l.known.window l.known.still l.known.looked) l.offers l.index l.marks.others;
  sought : AreMarksUpTo (other_mark true l.known.window l.known.still l.known.looked) l.offers l.index l.marks.sought;
  entries : AreMarksUpTo (ask_mark false l.known.released.entries l.known.window l.known.still l.known.looked) l.offers l.index l.marks.entries;
  searches : AreMarksUpTo (ask_mark true l.known.released.entries l.known.window l.known.still l.known.looked) l.offers l.index l.marks.searches;
}
