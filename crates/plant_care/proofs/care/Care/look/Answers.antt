-- Where what went out was read again, nothing was done with the folders. Then what went out before that was kept was noted, if nothing else is
-- to be noted.
use Rattle.std.proofs.Common.{◌≡◌, List, [], Option, inl, inr, length, subst, sym}
use Rattle.std.proofs.lemmas.Bool.{eqb-true}
use Rattle.std.proofs.lemmas.List.{nil_from_length}
use Rattle.folders.specs.Doings.{Doing}
use Rattle.plant_care.specs.Caring.{NotesBefore}
use Rattle.plant_care.proofs.care.Care.look.Goals as goal

pub returns-then-is_empty-clause-does : goal.returns-then-is_empty-clause-does
returns-then-is_empty-clause-does g c =
    let released = c.args.released.now in
    let last = g.F.Folders.doings c.note_before.new.folders in
    let none : released ≡ [] = nil_from_length released (eqb-true (length released) 0 (sym c.if-is_empty.ensures)) in
    subst (λ (from : Option (List Doing)). NotesBefore released from last) c.begin_again.ensures.does (inr (none, (_, c.note_before.ensures.does)))

pub returns-else-is_empty-clause-does : goal.returns-else-is_empty-clause-does
returns-else-is_empty-clause-does g c = inl c.begin_again.ensures.does
