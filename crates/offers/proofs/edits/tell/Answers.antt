use Rattle.std.proofs.Common.{◌≡◌, sym, None}
use Rattle.offers.specs.Order.{rank, file_at, IsPlaceOf}
use Rattle.offers.specs.Stages.{after}
use Rattle.offers.proofs.Editing.{untouched, changed_rises}
use Rattle.offers.proofs.edits.tell.Goals as goal

pub returns-in-Some : goal.returns-in-Some
returns-in-Some c =
    let there : IsPlaceOf c.args.offers.now.items c.rank.result c.in-Some.index = rw (sym c.as_slice.ensures.value) c.in-Some.ensures in
    let news = c.tell_at.ensures (rank c.args.request) (rw (sym c.rank.ensures.rank) there) in
    record {
      news = news;
      rises = rw news (changed_rises 0 (rank c.args.request) (after c.args.news c.args.now) c.args.offers.now.items c.requires);
    }

pub returns-in_default : goal.returns-in_default
returns-in_default c =
    let none : file_at c.args.offers.now.items (rank c.args.request) ≡ None = rw (sym c.as_slice.ensures.value, sym c.rank.ensures.rank) c.in_default.ensures in
    record {
      news = sym (untouched (rank c.args.request) (after c.args.news c.args.now) c.args.offers.now.items none);
      rises = c.requires;
    }
