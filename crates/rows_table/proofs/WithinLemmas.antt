-- Acts in a transaction: a statement, and one act behind another.
use Rattle.std.proofs.Common.{◌≡◌, ◌∙◌, ℕ, List, Ok, Result, OnOk, IsTrue, arith}
use Rattle.sqlite_value.specs.Order.{Row}
use Rattle.sqlite_trees.specs.declared.store.Store.{Ghosts}
use Rattle.sqlite.specs.declared.transaction.Transaction.{Transaction}
use Rattle.sqlite.specs.Held.{state}
use Rattle.sqlite.specs.State.{State, HasCleanDisk, Survives, ExecutesInside}
use Rattle.rows_table.specs.Within.{ActsWithin}
use Rattle.rows_table.proofs.AddingLemmas.{kept_then, survives_both}

-- an act of which nothing more is said
abbrev pub Anything : State → State → Type 0
Anything old new = Unit {0}

module _ {S : Type 0} (g : Ghosts S) where
  -- a statement that ran did this
  pub ran : {A E : Type 0} (Does : State → State → Type 0) (x : A) (sql : List ℕ) (params : Row) (count : ℕ) (old new : Transaction S) → new.conn.ghost_name ≡ old.conn.ghost_name
      → Survives (state g old.conn.now) (state g new.conn.now) (λ _. ⊥)
      → (HasCleanDisk (state g new.conn.now) → IsTrue (state g old.conn.now).in_transaction → ExecutesInside 0 sql params (state g old.conn.now) (state g new.conn.now) (Ok count))
      → (HasCleanDisk (state g new.conn.now) → Does (state g old.conn.now) (state g new.conn.now)) → ActsWithin {E = E} g Does (Ok x) old new
  ran Does x sql params count old new same survives runs does = record {
    same_reference = same;
    done = does;
    inside = λ clean begun. (runs clean begun).1.mode;
    kept = λ clean begun. record { was_open = λ o. (runs clean begun).1.was_open; committed = λ o. (runs clean begun).1.committed_is };
    survives = survives;
  }

  module _ {A B E F : Type 0} (P Q : State → State → Type 0) (x : A) (r : Result B F) (old mid new : Transaction S) (first : ActsWithin {E = E} g P (Ok x) old mid) (second : ActsWithin g Q r mid new) where
    early : HasCleanDisk (state g new.conn.now) → HasCleanDisk (state g mid.conn.now)
    early clean = omega (arith, second.survives.clean, clean)

    -- one act behind another: what they do together is what is asked
    pub both : (R : State → State → Type 0)
        → (HasCleanDisk (state g mid.conn.now) → HasCleanDisk (state g new.conn.now) → OnOk r (R (state g old.conn.now) (state g new.conn.now))) → ActsWithin g R r old new
    both R done = record {
      same_reference = second.same_reference ∙ first.same_reference;
      done = λ clean. done (early clean) clean;
      inside = λ clean begun. second.inside clean (first.inside (early clean) begun);
      kept = λ clean begun. kept_then _ _ _ (first.kept (early clean) begun) (second.kept clean (first.inside (early clean) begun));
      survives = survives_both _ _ _ first.survives second.survives;
    }
