-- One member more.
use Rattle.std.proofs.Common.{◌≡◌, List, [], ◌∷◌, ◌++◌, sym, subst, ap}
use Rattle.std.specs.Prelude.{map}
use Rattle.rows_saved.specs.declared.memory.MemoryRows.{MemoryRows}
use Rattle.rows_saved.specs.contracts.memory.MemoryRowsRows.TheImpl.{ghosts}
use Rattle.tape_frames.specs.Entries.{version_of}
use Rattle.world.specs.Founding.{Part, AreAt, AreNewlyMade, given_of}
use Rattle.world.proofs.Founding.{newly_more, newly_none, at_more, at_none, given_more}
use Rattle.world.proofs.plays.with_memory.Goals as goal

pub loop-table-init : goal.loop-table-init
loop-table-init c =
    let P : List (Part MemoryRows) → Type 0 = AreNewlyMade ghosts in
    let A : List (Part MemoryRows) → Type 0 = AreAt ghosts.version (λ m. version_of c.args.version) in
    record {
      new = subst P (sym c.in_ok-parts.ensures.items) (newly_none ghosts);
      at = subst A (sym c.in_ok-parts.ensures.items) (at_none ghosts.version (version_of c.args.version));
      given = ap (λ (l : List (Part MemoryRows)). map given_of l) c.in_ok-parts.ensures.items;
    }

pub loop-table-preserved : goal.loop-table-preserved
loop-table-preserved c =
    let parts : List (Part MemoryRows) = c.loop-table.parts.items in
    let part : Part MemoryRows = (c.in-Some.table, c.in-Some.widths, c.rows_at.result) in
    let P : List (Part MemoryRows) → Type 0 = AreNewlyMade ghosts in
    let A : List (Part MemoryRows) → Type 0 = AreAt ghosts.version (λ m. version_of c.args.version) in
    let Q : List (Part MemoryRows) → Type 0 = λ l. map given_of l ≡ c.loop-table.yielded ++ given_of part ∷ [] in
    record {
      new = subst P (sym c.in_ok-push.ensures.items) (newly_more ghosts parts part c.loop-table.invariant.new c.rows_at.ensures.new);
      at = subst A (sym c.in_ok-push.ensures.items) (at_more ghosts.version (version_of c.args.version) parts part c.loop-table.invariant.at c.rows_at.ensures.at);
      given = subst Q (sym c.in_ok-push.ensures.items) (given_more parts part c.loop-table.yielded c.loop-table.invariant.given);
    }
