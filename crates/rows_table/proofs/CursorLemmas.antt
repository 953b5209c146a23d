-- What rows that are read one by one leave, step after step.
use Rattle.std.proofs.Common.{◌≡◌, inl, inr, ℕ, List, [], Ok, IsTrue, sym, subst}
use Rattle.sqlite_value.specs.Order.{Row}
use Rattle.sqlite_trees.specs.declared.store.Store.{Ghosts}
use Rattle.sqlite.specs.Effect.{Database}
use Rattle.sqlite.specs.Held.{Held, state}
use Rattle.sqlite.specs.Given.{HasGiven, HasBegun}
use Rattle.sqlite.specs.Listing.{understood, reads_listing, IsSourceOf}
use Rattle.sqlite.specs.State.{State, IsUnchanged, Shown, ShowsRows, Begins}
use Rattle.sqlite.specs.Clock.{timed}
use Rattle.sqlite.proofs.Callers.{IsPlain, begun_plain, unchanged_then, given_begin}
use Rattle.rows_table.specs.Cursor.{OnlyReads, HasGivenFirst}
use Rattle.rows_table.proofs.StateLemmas.{shown_open}

-- a query that began found the connection open
begun_open : {S : Type 0} (g : Ghosts S) (sql : List ℕ) (params : Row) (old new : Held S) → HasBegun g sql params old new → IsTrue (state g old).is_open
begun_open g sql params old new (inl h) = h.1.0.was_open
begun_open g sql params old new (inr h) = shown_open sql params (state g old) (state g new) _ h.1

-- a query that only reads has given no row at its beginning, and changed nothing
pub begun_reading : {S : Type 0} (g : Ghosts S) (sql : List ℕ) (params : Row) (old new : Held S) → OnlyReads (state g old) sql → HasBegun g sql params old new
    → HasGiven g sql params new [] × IsUnchanged (state g old) (state g new)
begun_reading g sql params old new reads h = begun_plain g sql params old new (reads (begun_open g sql params old new h)) h

-- what was shown when all was as at first is shown of what was there at first
pub shown_since : (sql : List ℕ) (params : Row) (first old new : State) (rows : List Row) → OnlyReads first sql → IsUnchanged first old → Shown sql params old new rows → Shown sql params first new rows
unfolding Shown
shown_since sql params first old new rows reads same h =
    let e = same.0.now_is in
    let plain = reads same.0.was_open in
    let none = (subst IsPlain h.1.is (subst (λ (d : Database). IsPlain (understood d.schema sql)) (sym e) plain)).0 in
    let full = timed params h.0.formats h.1.now in
    let it = subst (ShowsRows old new sql h.0 full rows) none h.2 in (
      h.0,
      record { is = subst (λ (d : Database). understood d.schema sql ≡ Ok h.0) e h.1.is; whole = h.1.whole; given = h.1.given; now = h.1.now },
      subst (ShowsRows first new sql h.0 full rows) (sym none) (
        it.0,
        subst (λ (d : Database). IsSourceOf (reads_listing d.schema sql) d it.0) e it.1,
        it.2,
        unchanged_then first old new same it.3,
      ),
    )

-- an answer that begins with rows when all is as at first begins with them at first
begins_since : (sql : List ℕ) (params : Row) (first old : State) (rows : List Row) → IsUnchanged first old → Begins sql params old rows → Begins sql params first rows
unfolding Begins
begins_since sql params first old rows same h =
    let e = same.0.now_is in (
      h.0,
      record { is = subst (λ (d : Database). understood d.schema sql ≡ Ok h.0) e h.1.is; whole = h.1.whole; given = h.1.given; now = h.1.now },
      h.2,
      h.3,
      subst (λ (d : Database). IsSourceOf (reads_listing d.schema sql) d h.3) e h.4,
      h.5,
    )

-- the rows that were given so far are the first of the answer
pub given_first : {S : Type 0} (g : Ghosts S) (sql : List ℕ) (first : State) (h : Held S) (rows : List Row) → IsUnchanged first (state g h) → HasGiven g sql [] h rows → HasGivenFirst sql first rows
given_first g sql first h rows same it = (same.0.was_open, begins_since sql [] first (state g h) rows same (given_begin g sql [] h rows it))
