use Rattle.std.proofs.Common.{[], inr, refl, rules, arith}
use Rattle.sqlite.specs.State.{HasCleanDisk}
use Rattle.sqlite.specs.Held.{state}
use Rattle.sqlite.proofs.Callers.{unchanged_then}
use Rattle.rows_table.proofs.StateLemmas.{query_leaves}
use Rattle.rows_table.proofs.CursorLemmas.{begun_reading, shown_since, given_first}
use Rattle.rows_table.proofs.cursor.each_row.Goals as goal

pub returns-in_err-rows-clause-err : goal.returns-in_err-rows-clause-err
returns-in_err-rows-clause-err g c clean reads =
    let refused = rw c.in_err-rows.was at c.query.follows.holds-at-none in
    let left = query_leaves c.args.sql.now [] (state g.S.Store c.args.conn.now) (state g.S.Store c.query.follows.lender-at-none) c.in_err-rows.field-0.0 (refused.err clean) in
    search rules

pub rows-init : goal.rows-init
rows-init g c =
    let made = c.in_ok-rows.ensures in
    (refl, made.survives, made.mode, λ clean reads. let begun = begun_reading g.S.Store c.args.sql.now [] c.args.conn.now _ reads (made.begun clean) in (begun.1, [], begun.0, g.met.T.TableVisitor.saw_none c.args.visitor.now), ([], g.met.T.TableVisitor.saw_none c.args.visitor.now))

pub returns-in_default-clause-all : goal.returns-in_default-clause-all
returns-in_default-clause-all g c clean reads _ =
    let moved = c.next.follows.holds-at-none in
    let now = c.next.follows.lender-at-none.conn.now in
    let late : HasCleanDisk (state g.S.Store now) = search rules in
    let was = c.rows.invariant.3 (omega (arith, moved.survives.clean)) reads in
    let shown = (rw (c.in_ok-row.was, c.in_default.is) at (moved.ok late)) c.args.sql.now [] was.1 was.2 in
    let since = shown_since c.args.sql.now [] (state g.S.Store c.args.conn.now) (state g.S.Store c.rows.rows.conn.now) (state g.S.Store now) was.1 reads was.0 shown in
    search rules

-- the rows before the one that did not come were seen
pub returns-in_err-row-clause-front : goal.returns-in_err-row-clause-front
returns-in_err-row-clause-front g c clean reads =
    let moved = c.next.follows.holds-at-none in
    let late : HasCleanDisk (state g.S.Store c.next.follows.lender-at-none.conn.now) = search rules in
    let was = c.rows.invariant.3 (omega (arith, moved.survives.clean)) reads in
    inr (was.1, given_first g.S.Store c.args.sql.now (state g.S.Store c.args.conn.now) c.rows.rows.conn.now was.1 was.0 was.2, was.3)

pub returns-in_default-clause-front : goal.returns-in_default-clause-front
returns-in_default-clause-front g c clean reads =
    let moved = c.next.follows.holds-at-none in
    let late : HasCleanDisk (state g.S.Store c.next.follows.lender-at-none.conn.now) = search rules in
    let was = c.rows.invariant.3 (omega (arith, moved.survives.clean)) reads in
    inr (was.1, given_first g.S.Store c.args.sql.now (state g.S.Store c.args.conn.now) c.rows.rows.conn.now was.1 was.0 was.2, was.3)

-- so was the last that the visitor wanted
pub returns-then-not-see-clause-front : goal.returns-then-not-see-clause-front
returns-then-not-see-clause-front g c clean reads =
    let moved = c.next.follows.holds-at-none in
    let now = c.next.follows.lender-at-none.conn.now in
    let late : HasCleanDisk (state g.S.Store now) = search rules in
    let was = c.rows.invariant.3 (omega (arith, moved.survives.clean)) reads in
    let given = (rw (c.in_ok-row.was, c.in-Some.is) at (moved.ok late)) c.args.sql.now [] was.1 was.2 in
    let same = unchanged_then (state g.S.Store c.args.conn.now) (state g.S.Store c.rows.rows.conn.now) (state g.S.Store now) was.0 ((rw c.in_ok-row.was at (moved.same late))) in
    inr (_, given_first g.S.Store c.args.sql.now (state g.S.Store c.args.conn.now) now _ same given, c.see.ensures.saw _ was.1 was.3)

-- and those that 64 bits count
pub returns-clause-front : goal.returns-clause-front
returns-clause-front g c clean reads =
    let now : HasCleanDisk (state g.S.Store c.rows.rows.conn.now) = search rules in
    let was = c.rows.invariant.3 now reads in
    inr (was.1, given_first g.S.Store c.args.sql.now (state g.S.Store c.args.conn.now) c.rows.rows.conn.now was.1 was.0 was.2, was.3)

-- whatever rows came, the visitor has seen them and nothing else
pub returns-in_err-rows-clause-only : goal.returns-in_err-rows-clause-only
returns-in_err-rows-clause-only g c = ([], g.met.T.TableVisitor.saw_none c.args.visitor.now)

pub returns-then-not-see-clause-only : goal.returns-then-not-see-clause-only
returns-then-not-see-clause-only g c = (_, c.see.ensures.saw _ c.rows.invariant.4.0 c.rows.invariant.4.1)
