-- Where what was saved is not stored nothing was done. Else all was written and noted, or a file was refused.
use Rattle.std.proofs.Common.{rules, ◌≡◌, ◌++◌, [], true, inl, inr, refl}
use Rattle.run_command.specs.Waiting.{settled_by}
use Rattle.run_command.proofs.Looking.{all_wrote, noted_same, same_waits}
use Rattle.run_command.proofs.plant.Plant.write.Goals as goal

pub returns-then-not-self-clause-writes : goal.returns-then-not-self-clause-writes
returns-then-not-self-clause-writes g c = inl (search rules, same_waits _ _ (search rules) (search rules) (search rules), refl)

pub returns-in-Ok-clause-writes : goal.returns-in-Ok-clause-writes
returns-in-Ok-clause-writes g c =
    let doings = g.F.Folders.doings in
    let was = settled_by c.args.settled c.args.self.now.waits in
    let wrote = c.write_waiting.ensures.writes in
    let mid = c.write_waiting.new.folders in
    let left = c.note_written.new.unnoted.items in
    let sure : was.stored ≡ true = search rules in
    let none : c.write_waiting.new.waits.items ≡ [] = c.in-Ok.ensures.all in
    let split : was.files ≡ wrote.files ++ c.write_waiting.new.waits.items = search rules in
    inr (
      sure,
      inl (record {
        mid = mid;
        writes = all_wrote (doings c.args.folders.now) (doings mid) was.files wrote.files c.write_waiting.new.waits.items split none wrote.does;
        left = left;
        notes = noted_same doings g.F.Folders.refuses mid c.note_written.new.folders _ was.numbers left (search rules) c.note_written.ensures.noted;
        rest = same_waits _ _ none refl (search rules);
      }),
    )

pub returns-in-Err-clause-writes : goal.returns-in-Err-clause-writes
returns-in-Err-clause-writes g c =
    let was = settled_by c.args.settled c.args.self.now.waits in
    let wrote = c.write_waiting.ensures.writes in
    let sure : was.stored ≡ true = search rules in
    inr (
      sure,
      inr (record {
        files = wrote.files;
        writes = wrote.does;
        left = c.write_waiting.new.waits.items;
        split = search rules;
        refused = c.in-Err.ensures.refused;
        rest = same_waits _ _ refl (search rules) (search rules);
      }),
    )
