-- What was acknowledged is found.
use Rattle.std.proofs.Common.{◌≡◌, ◌≢◌, ◌==◌, if◌then◌else◌, ℕ, Bool, false, [], inl, inr, refl, sym, ap, subst, ◌∙◌}
use Rattle.std.proofs.Math.Logic.{∥∥₁_elim}
use Rattle.std.proofs.lemmas.Bool.{cases_Bool}
use Rattle.std.proofs.lemmas.Bool.Decides.{Decides-eqb}
use Rattle.std.specs.Coded.{Coded-set}
use Rattle.sqlite_disk.specs.declared.Disk as disk
use Rattle.sqlite.specs.Held.{state}
use Rattle.sqlite.specs.Files.{over_files}
use Rattle.sqlite_trees.specs.declared.store.Store.{Ghosts}
use Rattle.sqlite_trees.specs.Tree.{Trees}
use Rattle.rows_table.specs.declared.layout.Layout.{Layout}
use Rattle.ballots.specs.contracts.row.Row as row_code
use Rattle.rows_saved.specs.contracts.identity.Identity as identity
use Rattle.rows_saved.specs.declared.identity.Identity.{Identity}
use Rattle.protocol.specs.Rows.{Row}
use Rattle.protocol.specs.Circuit.{State, with_at, restarts}
use Rattle.rows_saved.specs.Saved.{Saved, with_row}
use Rattle.acceptor_store.specs.Columns.{version_in, saved_in}
use Rattle.acceptor_store.specs.Sqlite.{SqliteOf, IsOpen, IsOfStation, saved_of, LeavesStation}
use Rattle.acceptor_store.specs.Acknowledged.{WasAcknowledged, SavesNothingUnder, reads, puts, upgrades, GoesOn, no_call, one_more, LeavesRowsAtRest, AcknowledgedSaveIsFound, CrashAtRestLosesNothing, CrashAtRestIsRestart}
use Rattle.acceptor_store.proofs.RestartLemmas.{found_left, found_ours, ours_prop, taken_rows, taken_station, opens}
use Rattle.acceptor_store.proofs.StepLemmas.{at_itself, same_state}

-- the row that was put under a number
put_there : (saved : Saved) (number : ℕ) (row : Row) → with_row saved number row number ≡ row
put_there saved number row = ap (λ (b : Bool). if b then row else saved number) ((Decides-eqb number number).1 refl)

-- under another number it is as it was
put_elsewhere : (saved : Saved) (other number : ℕ) (row : Row) → other ≢ number → with_row saved other row number ≡ saved number
put_elsewhere saved other number row far = elim (cases_Bool (number == other)) [
  | inl same ↦ absurd (far (sym ((Decides-eqb number other).0 same)))
  | inr apart ↦ ap (λ (b : Bool). if b then row else saved number) apart
]

-- a database of this station that has this row under the number
pub record HasRow (i : Identity) (number : ℕ) (row : Row) (db : Trees) : Type 0 where
  pub layout : Layout
  pub station : IsOfStation layout i db
  pub row_is : saved_in layout db number ≡ row

module _ {S : Type 0} (g : Ghosts S) (i : Identity) (number : ℕ) (row : Row) where
  -- the row is there, and whatever a crash leaves has it
  pub record Keeps (s : SqliteOf S) : Type 0 where
    pub same : s.identity ≡ i
    pub has : IsOpen g s → saved_of g s number ≡ row
    pub leaves : (db : Trees) → (state g s.conn).may_leave db → HasRow i number row db

  acknowledged : (old new : SqliteOf S) → old.identity ≡ i → WasAcknowledged g number row old new → Keeps new
  acknowledged old new is a = record {
    same = a.identity ∙ is;
    has = λ here. a.rows number ∙ put_there (saved_of g old) number row;
    leaves = λ db may. record {
      layout = new.layout;
      station = subst (λ (j : Identity). IsOfStation new.layout j db) is (a.crash_station a.was_open a.ran db may);
      row_is = a.crash_ok (saved_in new.layout db) (db, may, refl) number ∙ put_there (saved_of g old) number row;
    };
  }

  one_call : (old new : SqliteOf S) → IsOpen g old → Keeps old → SavesNothingUnder g number old new → Keeps new
  one_call old new was_open k (reads identity same crash) = record {
    same = identity ∙ k.same;
    has = λ here. same here number ∙ k.has was_open;
    leaves = λ db may. k.leaves db (crash was_open db may);
  }
  one_call old new was_open k (puts other now far ran identity either crash station) = record {
    same = identity ∙ k.same;
    has = λ here. elim (either here) [
      | inl same ↦ same number ∙ k.has was_open
      | inr new ↦ new number ∙ put_elsewhere (saved_of g old) other number now far ∙ k.has was_open
    ];
    leaves = λ db may. record {
      layout = new.layout;
      station = subst (λ (j : Identity). IsOfStation new.layout j db) k.same (station was_open ran db may);
      row_is = elim (crash was_open ran (saved_in new.layout db) (db, may, refl)) [
        | inl same ↦ same number ∙ k.has was_open
        | inr new ↦ new number ∙ put_elsewhere (saved_of g old) other number now far ∙ k.has was_open
      ];
    };
  }
  one_call old new was_open k (upgrades identity same crash) = record {
    same = identity ∙ k.same;
    has = λ here. same here number ∙ k.has was_open;
    leaves = λ db may.
        let all = crash db may in
        record {
          layout = all.layout;
          station = subst (λ (j : Identity). IsOfStation all.layout j db) k.same all.station;
          row_is = all.same number ∙ k.has was_open;
        };
  }

  kept_on : (first last : SqliteOf S) → Keeps first → GoesOn g number first last → Keeps last
  kept_on first last k (no_call same) = subst Keeps (sym same) k
  kept_on first last k (one_more {mid = mid} before was_open call) = one_call mid last was_open (kept_on first mid k before) call

pub acknowledged_is_found : {D : Type 0} {g : disk.Ghosts D} {E : Type 0} {h : disk.Ghosts E} → AcknowledgedSaveIsFound D g E h
acknowledged_is_found {h = h} old new last number row files left again ack calls gives clean may opened =
    let i = old.identity in
    let keeps : Keeps over_files i number row last = kept_on over_files i number row new last (acknowledged over_files i number row old new refl ack) calls in
    let made = opened.made in
    let first = found_left last.conn files left gives clean may made.was (made.opened opened.honest) (made.found opened.honest) in
    let ours = ∥∥₁_elim first (ours_prop again.alone again.was again.found) (λ db. let all = keeps.leaves _ db in found_ours left again opened all.layout i all.station) in
    let taken = opened.rows ours in
    let found = found_left last.conn files left gives clean may taken.was taken.opened taken.found in (
      ours,
      ∥∥₁_elim found (Coded-set identity.the_row.coded _ _) (λ db. let all = keeps.leaves _ db in taken_station left again taken all.layout all.station.tables i all.station.holds.station),
      ∥∥₁_elim found (Coded-set row_code.the_row.coded _ _) (λ db. let all = keeps.leaves _ db in taken_rows left again taken all.layout all.station.tables number ∙ all.row_is),
    )

pub at_rest_is_found : {D : Type 0} {g : disk.Ghosts D} {E : Type 0} {h : disk.Ghosts E} → CrashAtRestLosesNothing D g E h
at_rest_is_found {h = h} s files left again rests gives clean may opened =
    let all = opens s s.identity files left again rests.station gives clean may opened in
    (all.0, all.2, ap version_in all.1, λ n. ∥∥₁_elim all.3 (Coded-set row_code.the_row.coded _ _) (λ rows. rests.rows (saved_of over_files again) rows n))

pub restart_of : {D : Type 0} {g : disk.Ghosts D} {E : Type 0} {h : disk.Ghosts E} {B G F : Type 0} → CrashAtRestIsRestart D g E h B G F
restart_of {G = G} {F = F} s files left again rests gives clean may opened z w m member version rows =
    let found = at_rest_is_found s files left again rests gives clean may opened in
    let after : State G F = record w { marks = with_at w.marks m []; is_stopped = with_at w.is_stopped m false } in
    record {
      after = after;
      restarts = restarts m member refl refl (same_state after);
      has_version = version ∙ sym found.2;
      has_rows = λ n. sym (found.3 n ∙ rows n);
      has_no_marks = at_itself w.marks m [];
      goes_on = at_itself w.is_stopped m false;
    }

pub calls_rest : {S : Type 0} (g : Ghosts S) → LeavesRowsAtRest g
calls_rest g = record {
  put = λ number row old new a was_open. record {
    is_open = was_open;
    station = subst (λ (i : Identity). LeavesStation g new i) (sym a.identity) (a.crash_station a.was_open a.ran);
    rows = λ left may n. a.crash_ok left may n ∙ sym (a.rows n);
  };
  put_all = λ items old new was_open ran identity rows crash station opened. record {
    is_open = opened;
    station = subst (λ (i : Identity). LeavesStation g new i) (sym identity) (station was_open ran);
    rows = λ left may n. crash left may n ∙ sym (rows n);
  };
  get = λ old new rest was_open identity layout same crash. record {
    is_open = was_open;
    station = λ db may. subst (λ (i : Identity). IsOfStation new.layout i db) (sym identity)
        (subst (λ (l : Layout). IsOfStation l old.identity db) (sym layout) (rest.station db (crash rest.is_open db may)));
    rows = λ left may n.
        let was = rest.rows (saved_in old.layout may.0) (may.0, crash rest.is_open may.0 may.1, refl) n in
        ap (λ (m : Saved). m n) may.2 ∙ ap (λ (l : Layout). saved_in l may.0 n) layout ∙ was ∙ sym (same n);
  };
  upgrade = λ old new was_open identity same crash station. record {
    is_open = was_open;
    station = subst (λ (i : Identity). LeavesStation g new i) (sym identity) station;
    rows = λ left may n. crash left may n ∙ sym (same n);
  };
}
