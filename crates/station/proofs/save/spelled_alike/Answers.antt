-- The first that says the same was spelled.
use Rattle.std.proofs.Common.{ℕ, List, sym, subst}
use Rattle.packets.specs.Grammar.{SpellsAlike}
use Rattle.station.proofs.Alike.{spelled_before}
use Rattle.station.proofs.save.spelled_alike.Goals as goal

pub returns-in-Some : goal.returns-in-Some
returns-in-Some c = λ v p zip here.
    subst (λ (bytes : List ℕ). SpellsAlike v bytes p) (sym c.bytes.ensures)
    (spelled_before v c.args.packets.now c.args.out.now c.first_alike.result c.args.place c.in-Some.datagram.now p c.first_alike.ensures.same zip c.in-Some.ensures.lookup.3.0 c.in-Some.ensures.lookup.1 here)
