-- One member more.
use Rattle.std.proofs.Common.{◌≡◌, List, [], ◌∷◌, ◌++◌, sym, subst, ap, arith, refl, length-append}
use Rattle.std.specs.Prelude.{map}
use Rattle.sqlite_trees.specs.declared.memory.MemStore.{MemStore}
use Rattle.acceptor_store.specs.Sqlite.{SqliteOf}
use Rattle.tape_frames.specs.Entries.{version_of}
use Rattle.world.specs.Founding.{Part, AreAt, AreNewlyMade, given_of}
use Rattle.database_days.proofs.Databases.{in_memory, newly_more, newly_none, at_more, at_none, given_more}
use Rattle.database_days.proofs.plays.with_databases.Goals as goal

pub loop-table-init : goal.loop-table-init
loop-table-init c = record {
  me = refl;
  new = let P : List (Part (SqliteOf MemStore)) → Type 0 = AreNewlyMade in_memory in subst P (sym c.in_ok-parts.ensures.items) (newly_none in_memory);
  at = let A : List (Part (SqliteOf MemStore)) → Type 0 = AreAt in_memory.version (λ m. version_of c.args.version) in subst A (sym c.in_ok-parts.ensures.items) (at_none in_memory.version (version_of c.args.version));
  given = ap (λ (l : List (Part (SqliteOf MemStore))). map given_of l) c.in_ok-parts.ensures.items;
}

pub loop-table-preserved : goal.loop-table-preserved
loop-table-preserved c =
    let parts : List (Part (SqliteOf MemStore)) = c.loop-table.parts.items in
    let part : Part (SqliteOf MemStore) = (c.in-Some.table, c.in-Some.widths, c.in-Ok.rows) in
    let P : List (Part (SqliteOf MemStore)) → Type 0 = AreNewlyMade in_memory in
    let i = c.loop-table.invariant.me in
    record {
      me = (let l = length-append c.loop-table.yielded ((c.in-Some.table, c.in-Some.widths) ∷ []) in omega (arith, l, i));
      new = subst P (sym c.in_ok-push-in-Ok.ensures.items)
          (newly_more in_memory parts part c.loop-table.invariant.new (c.in-Ok.ensures.made.ours c.in_ok-conn.ensures.empty.2, λ kept here. c.in-Ok.ensures.made.blank kept));
      at = (let A : List (Part (SqliteOf MemStore)) → Type 0 = AreAt in_memory.version (λ m. version_of c.args.version) in
          subst A (sym c.in_ok-push-in-Ok.ensures.items) (at_more in_memory.version (version_of c.args.version) parts part c.loop-table.invariant.at c.in-Ok.ensures.made.version));
      given = (let Q : List (Part (SqliteOf MemStore)) → Type 0 = λ l. map given_of l ≡ c.loop-table.yielded ++ given_of part ∷ [] in subst Q (sym c.in_ok-push-in-Ok.ensures.items) (given_more parts part c.loop-table.yielded c.loop-table.invariant.given));
    }
