-- What went out before that was kept may have been noted; and if nothing waits, the file of a range left the offers, or not.
use Rattle.std.proofs.Common.{ℕ, List, inl, refl, subst}
use Rattle.plant_care.specs.Caring.{NotesBefore}
use Rattle.run_command.proofs.journal.Journal.look.Goals as goal

pub returns-then-is_filed : goal.returns-then-is_filed
returns-then-is_filed g c = record {
  mid = c.look.new.folders;
  notes = subst (λ (l : List ℕ). NotesBefore l (g.F.Folders.doings c.args.folders.now) (g.F.Folders.doings c.look.new.folders)) c.unnoted.ensures c.look.ensures.does;
  ends = c.end_range.ensures;
  none = λ full. absurd (full (c.is_filed.ensures.0 c.if-is_filed.true));
}

pub returns-else-is_filed : goal.returns-else-is_filed
returns-else-is_filed g c = record {
  mid = c.look.new.folders;
  notes = subst (λ (l : List ℕ). NotesBefore l (g.F.Folders.doings c.args.folders.now) (g.F.Folders.doings c.look.new.folders)) c.unnoted.ensures c.look.ensures.does;
  ends = inl refl;
  none = λ full. refl;
}
