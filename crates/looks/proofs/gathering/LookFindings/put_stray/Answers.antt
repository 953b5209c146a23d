use Rattle.std.proofs.Common.{Some, refl, string_bytes}
use Rattle.std.proofs.lemmas.Map.Text.{btree_map_updates_text}
use Rattle.looks.proofs.Taking.{ok_gives, stray_after}
use Rattle.looks.proofs.gathering.LookFindings.put_stray.Goals as goal
use Rattle.looks.proofs.gathering.LookFindings.put_stray.Goals.{in-Ok, in-Err}

pub invariant_of-self : goal.invariant_of-self
invariant_of-self c =
    stray_after c.insert.result c.self.inside.requests.entries c.self.inside.strays.entries c.insert.new.self.entries c.args.name c.args.stamp
    c.insert.ensures.entries c.insert.ensures.err c.requires c.self.invariant

pub returns-clause-ok : goal.returns-clause-ok
returns-clause-ok c = elim c.match-insert.branch [
  | in-Ok w ↦
      rw (w.result-is, ← c.self.view_is) (record {
        strays = λ name.
            btree_map_updates_text (string_bytes c.args.name) c.self.inside.strays c.insert.new.self (Some c.args.stamp)
            (ok_gives c.insert.result _ w.in-Ok.is c.insert.ensures.updates) name;
        requests = refl;
        others = refl;
        skipped = refl;
      })
  | in-Err w ↦ rw w.result-is tt
]
