-- One name more leaves those that were passed over, if there is one.
use Rattle.std.proofs.Common.{◌≡◌, ◌∙◌, ◌∷◌, [], append_assoc, length, map, rules, sym, String}
use Rattle.std.specs.Global.{Global}
use Rattle.folders.specs.declared.fault.FolderFault.{FolderFault}
use Rattle.run_command.specs.Looking.{passed_over}
use Rattle.run_command.proofs.Looking.{no_more, none_of, rest_of}
use Rattle.run_command.proofs.unseen.first_of.Goals as goal
use Rattle.run_command.proofs.unseen.first_of.Goals.{in-Some+in_ok-push, in_default}

pub loop-preserved : goal.loop-preserved
loop-preserved c =
    let all = c.args.others.now.entries in
    let later = c.pop_first.new.self.entries in
    elim c.match-pop_first.branch [
      | in-Some+in_ok-push w ↦
          let p : String Global × FolderFault = (w.in-Some.name, w.in-Some.fault) in
          let split : c.loop.others.entries ≡ p ∷ later = w.in-Some.ensures.removal in
          record {
            all = rw (w.first-is, w.in_ok-push.ensures.items, append_assoc c.loop.first.items (passed_over p ∷ []) (map passed_over later)) (rw split at c.loop.invariant.all);
            left = rest_of c.loop.counter all p later (sym c.loop.invariant.left ∙ split);
          }
      | in_default w ↦
          let same : later ≡ c.loop.others.entries = search rules in
          let bare : length c.loop.others.entries ≡ 0 = search rules in
          let none : c.loop.others.entries ≡ [] = no_more c.loop.others.entries bare in
          record {
            all = rw (w.first-is, same) c.loop.invariant.all;
            left = same ∙ none ∙ sym (none_of c.loop.counter all (sym c.loop.invariant.left ∙ none));
          }
    ]
