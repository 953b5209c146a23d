-- The members so far have this table and these widths.
use Rattle.std.proofs.Common.{◌≡◌}
use Rattle.std.specs.List.{All}
use Rattle.rehearse_command.proofs.rehearsal.members_of.Given as goal

abbrev pub invariant-loop : goal.invariant-loop
invariant-loop l = All (λ member. member ≡ (l.setting.table.now, l.setting.widths.now)) l.members.items
