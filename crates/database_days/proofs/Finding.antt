-- What the next start finds is what a day has it find.
use Rattle.std.proofs.Common.{◌≡◌, ◌==◌, if◌then◌else◌, ℕ, Bool, false, inl, inr, sym, ap, subst, ◌∙◌}
use Rattle.std.proofs.Math.Logic.{∥∥₁_elim, ∥∥₁_map}
use Rattle.std.proofs.lemmas.Bool.{cases_Bool}
use Rattle.std.proofs.lemmas.Bool.Decides.{Decides-eqb}
use Rattle.std.specs.Coded.{Coded-set}
use Rattle.sqlite_disk.specs.declared.Disk as disk
use Rattle.sqlite_disk.specs.declared.Files.{Files}
use Rattle.sqlite.specs.declared.FileStore.{FileStore}
use Rattle.sqlite.specs.WalReads.{AreClean}
use Rattle.sqlite.specs.WalFiles.{outcomes}
use Rattle.sqlite.specs.Recovery.{Image}
use Rattle.sqlite.specs.Files.{over_files}
use Rattle.ballots.specs.contracts.row.Row as row_code
use Rattle.protocol.specs.Rows.{Row}
use Rattle.protocol.specs.Refusals.{Call}
use Rattle.rows_saved.specs.Saved.{Saved, SameRows, WithRow, IsEither, with_row}
use Rattle.acceptor_store.specs.Columns.{version_in}
use Rattle.station.specs.declared.station.Station.{Station}
use Rattle.station.specs.Stations.{Sight}
use Rattle.acceptor_store.specs.Sqlite.{SqliteOf, IsOurs, LeavesStation, rows_version, saved_of}
use Rattle.acceptor_store.specs.Restarts.{AreOpenedFrom, GivesUp}
use Rattle.acceptor_store.specs.Begun.{OpensWhatIsBegun, BegunAtRestLosesNothing, UpgradeOutlivesBegun}
use Rattle.rows_life.specs.Keeping.{StandFor}
use Rattle.days.specs.Happening.{At_rest, In_call, Upgrading}
use Rattle.days.specs.Handing.{FindsRows, HasSaved}
use Rattle.database_days.specs.Starting.{Saves, StartsHandOver, WereRead, WereSaved}
use Rattle.database_days.proofs.Deciding.{rows}
use Rattle.database_days.proofs.Holding.{holds_all}

pub is_set : (a b : Row) (x y : a ≡ b) → x ≡ y
is_set = Coded-set row_code.the_row.coded

pub put_elsewhere : (saved : Saved) (number n : ℕ) (row : Row) → (n == number) ≡ false → with_row saved number row n ≡ saved n
put_elsewhere saved number n row apart = ap (λ (b : Bool). if b then row else saved n) apart

-- which of the two it was can be told
told_either : (before : Saved) (number : ℕ) (row : Row) (now : Saved) → ∥ IsEither before number row now ∥₁ → IsEither before number row now
told_either before number row now it = elim (rows (now number) (before number)) [
  | inl same ↦ inl (λ n. elim (cases_Bool (n == number)) [
    | inl here ↦ (let at : n ≡ number = (Decides-eqb n number).0 here in ap now at ∙ same ∙ ap before (sym at))
    | inr apart ↦ ∥∥₁_elim it (is_set (now n) (before n)) (λ either. elim either [ inl all ↦ all n | inr new ↦ new n ∙ put_elsewhere before number n row apart ])
  ])
  | inr other ↦ inr (λ n. ∥∥₁_elim it (is_set (now n) (with_row before number row n)) (λ either. elim either [ inl all ↦ absurd (other (all number)) | inr new ↦ new n ]))
]

module _ {D : Type 0} {g : disk.Ghosts D} (x : Sight (SqliteOf (FileStore D g))) (saved : (s : SqliteOf (FileStore D g)) → x.saved s ≡ saved_of over_files s)
    (version : (s : SqliteOf (FileStore D g)) → x.version s ≡ rows_version s) where
  same_seen : (s : SqliteOf (FileStore D g)) (now : Saved) → SameRows (saved_of over_files s) now → SameRows (x.saved s) now
  same_seen s now same n = same n ∙ sym (ap (λ (m : Saved). m n) (saved s))

  -- what a turn saved is what the rows have
  has_saved :
      (last : Station (SqliteOf (FileStore D g))) (call : Call) (number : ℕ) (row : Row) (now : Saved) (marks : _) → Saves x last marks call number row
      → WithRow (saved_of over_files last.rows) number row now → HasSaved x last marks call now
  has_saved last call number row now marks s new = record {
    event = s.event;
    asks = s.asks;
    taken = s.taken;
    is_turn = s.is_turn;
    changes = s.changes;
    rows = λ n. new n ∙ (λ i. with_row (sym (saved last.rows) i) (sym s.about i) (sym s.row_is i) n);
  }

  -- files of rows that were at most read since hold what a crash could leave of the rows before
  given_up_before : (last : Station (SqliteOf (FileStore D g))) (now : SqliteOf (FileStore D g)) (files : Files D) → WereRead last now → GivesUp g now.conn files → GivesUp g last.rows.conn files
  given_up_before last now files read gives clean left may = ∥∥₁_map (gives clean left may) (λ db. (db.0, read.leaves read.rest.is_open db.0 db.1, db.2))

  -- either of the rows that were read is either of those of the last call
  either_before : (before read : Saved) (number : ℕ) (row : Row) (now : Saved) → SameRows before read → IsEither read number row now → IsEither before number row now
  either_before before read number row now same (inl all) = inl (λ n. all n ∙ same n)
  either_before before read number row now same (inr new) = inr (λ n. new n ∙ elim (cases_Bool (n == number)) [
    | inl here ↦ (let put = ap (λ (b : Bool). if b then row else read n) here in put ∙ sym (ap (λ (b : Bool). if b then row else before n) here))
    | inr apart ↦ put_elsewhere read number n row apart ∙ same n ∙ sym (put_elsewhere before number n row apart)
  ])

  module _ {E : Type 0} {h : disk.Ghosts E} (opens : OpensWhatIsBegun D g E h) (rests : BegunAtRestLosesNothing D g E h) (upgrades : UpgradeOutlivesBegun D g E h)
      (last : Station (SqliteOf (FileStore D g))) (now : SqliteOf (FileStore D g)) (files : Files D) (left begun : Image) (again : SqliteOf (FileStore E h))
      (gives : GivesUp g now.conn files) (clean : AreClean g files.log files.db) (may : outcomes g files.log files.db left) (stands : StandFor left begun) (opened : AreOpenedFrom begun again) where
    -- after rows that were at most read
    found_read : WereRead last now
        → IsOurs again.alone again.was again.found × (again.identity ≡ last.rows.identity)
        × SameRows (x.saved last.rows) (saved_of over_files again) × (rows_version again ≡ x.version last.rows)
    found_read read =
        let all = rests last.rows files left begun again read.rest (given_up_before last now files read gives) clean may (holds_all left begun stands) opened in
        (all.0, all.1, same_seen last.rows (saved_of over_files again) all.3, all.2 ∙ sym (version last.rows))

    -- after rows that were saved
    found_saved : (call : Call) (put : WereSaved x last call now)
        → IsOurs again.alone again.was again.found × (again.identity ≡ last.rows.identity) × FindsRows x (In_call call) last (saved_of over_files again) (rows_version again)
    found_saved call put =
        let station : LeavesStation over_files now last.rows.identity = subst (LeavesStation over_files now) put.identity (put.station put.is_open put.ran) in
        let all = opens now last.rows.identity files left begun again station gives clean may (holds_all left begun stands) opened in
        let either = told_either (saved_of over_files last.rows) put.number put.row (saved_of over_files again) (∥∥₁_map all.3 (λ found.
        either_before (saved_of over_files last.rows) (saved_of over_files put.read) put.number put.row (saved_of over_files again) put.same
        (put.either put.is_open put.ran (saved_of over_files again) found))) in (
          all.0,
          all.2,
          (
            elim either [
              | inl same ↦ inl (same_seen last.rows (saved_of over_files again) same)
              | inr new ↦ inr (λ marks stood. has_saved last call put.number put.row (saved_of over_files again) marks (put.saves marks stood) new)
            ],
            ap version_in all.1 ∙ put.version ∙ sym (version last.rows),
          ),
        )

  pub found : {E : Type 0} {h : disk.Ghosts E} → OpensWhatIsBegun D g E h → BegunAtRestLosesNothing D g E h → UpgradeOutlivesBegun D g E h → StartsHandOver D g E h x
  found opens rests upgrades At_rest last now files left begun again read gives clean may stands opened =
      let all = found_read opens rests upgrades last now files left begun again gives clean may stands opened read in
      (all.0, all.1, (all.2, all.3))
  found opens rests upgrades (In_call call) last now files left begun again (inl read) gives clean may stands opened =
      let all = found_read opens rests upgrades last now files left begun again gives clean may stands opened read in
      (all.0, all.1, (inl all.2, all.3))
  found opens rests upgrades (In_call call) last now files left begun again (inr put) gives clean may stands opened =
      found_saved opens rests upgrades last now files left begun again gives clean may stands opened call put
  found opens rests upgrades Upgrading last now files left begun again all_left gives clean may stands opened =
      let all = upgrades last.rows now files left begun again all_left gives clean may (holds_all left begun stands) opened in (
        all.0,
        all.1,
        (
          same_seen last.rows (saved_of over_files again) all.2.same,
          elim all.2.torn.1 [ inl was ↦ inl (was ∙ sym (version last.rows)) | inr two ↦ inr two ],
        ),
      )
