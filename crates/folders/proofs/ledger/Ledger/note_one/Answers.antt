-- A number that is new waits.
use Rattle.std.proofs.Common.{rules, ◌≡◌, ◌++◌, ◌∷◌, [], List, ℕ, sym, subst}
use Rattle.folders.specs.GoneOut.{IsFileBut}
use Rattle.folders.proofs.Ledgers.{one_known, one_waits}
use Rattle.folders.proofs.ledger.Ledger.note_one.Goals as goal

pub returns-in_ok-push : goal.returns-in_ok-push
returns-in_ok-push c =
    let old = c.args.self.now.numbers in
    let new = c.insert.new.self in
    let more : c.push.new.self.items ≡ c.args.self.now.waiting.items ++ c.args.number ∷ [] = search rules in
    record {
      known = one_known old new c.args.number c.insert.ensures.same c.insert.ensures.others;
      kept = λ o bytes but.
          subst (λ (w : List ℕ). IsFileBut o new w bytes) (sym more)
          (one_waits o bytes old new c.args.self.now.waiting.items c.args.number c.insert.ensures.same c.insert.ensures.others but);
    }
