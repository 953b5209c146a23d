use Rattle.std.proofs.Common.{rules, ◌≡◌, true, false, refl, sym, ◌∙◌}
use Rattle.offers.specs.Rules.{is_under_way}
use Rattle.offers.proofs.Asking.{asked_apart, asked_few, held_if, alone_if_asked, may_if, alone_if}
use Rattle.offers.proofs.Marking.{asked_marked, has_room, many_asked}
use Rattle.offers.proofs.Flying.{left}
use Rattle.offers.proofs.book.Book.ask_at.Goals as goal

pub invariant_of-self : goal.invariant_of-self
invariant_of-self c =
    let window = c.self.inside.known.window in
    let number = c.args.request.number in
    let found = c.take_off-found.result in
    let alone : is_under_way number window ≡ false = rw (sym c.self.view_is) at (alone_if c.args.self.now c.args.index c.args.request c.requires.first c.requires.request) in
    let asks : c.self.inside.asks ≡ true = rw (sym c.self.view_is) at c.requires.left in
    let moves = rw (c.as_slice.ensures.value, c.take_off-found.ensures.files) at c.remark.ensures.moves in
    let others = rw (c.as_slice.ensures.value, c.take_off-found.ensures.files, c.take_off-found.ensures.window) at c.remark.ensures.others in
    let sought = rw (c.as_slice.ensures.value, c.take_off-found.ensures.files, c.take_off-found.ensures.window) at c.remark.ensures.sought in
    let entries = rw (c.as_slice.ensures.value, c.take_off-found.ensures.files, c.take_off-found.ensures.window) at c.remark.ensures.entries in
    let searches = rw (c.as_slice.ensures.value, c.take_off-found.ensures.files, c.take_off-found.ensures.window) at c.remark.ensures.searches in
    record {
      rises = c.take_off-found.ensures.rises;
      apart = rw c.take_off-found.ensures.window (asked_apart window number found c.self.invariant.apart alone);
      few = rw c.take_off-found.ensures.window (asked_few window number found c.self.invariant.few c.take_off-found.ensures.room.0);
      held = rw (c.take_off-found.ensures.window, c.take_off-found.ensures.files) (held_if window c.args.request found c.self.inside.offers.items c.self.invariant.held);
      alone = rw c.take_off-found.ensures.files (alone_if_asked window c.args.request found c.self.inside.offers.items c.self.invariant.held c.self.invariant.alone alone);
      marked = rw (c.take_off-found.ensures.window, c.take_off-found.ensures.files) (let told = asked_marked _ c.args.request found c.self.inside.marks c.remark.new.marks c.self.invariant.marked moves others sought entries searches in record { moves = told.moves; others = told.others; sought = told.sought; entries = told.entries; searches = told.searches });
      idle = λ none. absurd (left (sym asks ∙ none));
    }

pub returns : goal.returns
returns c =
    let window : c.args.self.now.window ≡ c.self.inside.known.window = rw (sym c.self.view_is) refl in
    record {
      rules = rw c.ask_if.ensures
          (may_if c.args.self.now c.args.index c.args.request c.take_off-found.result c.requires.first c.requires.request (λ found. rw window (c.take_off-found.ensures.room.0 found)));
      kind = search rules;
      none = search rules;
      same = search rules;
      asks = search rules;
    }

pub remark-requires-clause-room : goal.remark-requires-clause-room
remark-requires-clause-room c = rw (c.as_slice.ensures.value, c.take_off-found.ensures.files) (has_room _ _ c.self.inside.marks c.self.invariant.marked (many_asked c.args.request c.take_off-found.result c.self.inside.offers.items))
