-- A crash of a station as it saves, or goes over, in the words of a circuit.
use Rattle.std.specs.Prelude.{◌≡◌, ◌⊎◌, ℕ, Some, None, false, List, []}
use Rattle.protocol.specs.Ballots.{IsMember}
use Rattle.protocol.specs.Turn.{Event, number_of, Turn, turn}
use Rattle.protocol.specs.Refusals.{Call, refusal, event_of}
use Rattle.protocol.specs.Versions.{Version}
use Rattle.protocol.specs.Circuit.{Circuit, State, Step, Restarts, Upgrades, Restarted, Torn_by_store, seat_at, task_of, setup_of, StepsTo}
use Rattle.protocol.specs.Rows.{Row}
use Rattle.rows_saved.specs.Saved.{Saved}
use Rattle.rows_saved.specs.Groups.{WithAll, IsAllOrNone}
use Rattle.acceptor_store.specs.Acknowledged.{RestartsWith}
use Rattle.acceptor_store.specs.Restarts.{AreTorn, AreUpgradeTorn}

-- two steps of a circuit: the step that the member's store tore, and the member's restart; it has these rows then, at this version
pub record TearsAndRestarts {D G F : Type 0} (z : Circuit D G F) (w : State G F) (s : Step) (m : ℕ) (version : Version) (rows : Saved) : Type 0 where
  pub torn : State G F
  pub after : State G F
  pub tears : StepsTo z w s Torn_by_store torn
  pub restarts : StepsTo z torn (Restarts m) Restarted after
  pub has_version : after.version m ≡ version
  pub has_rows : (n : ℕ) → after.rows m n ≡ rows n
  pub has_no_marks : after.marks m ≡ []
  pub goes_on : after.is_stopped m ≡ false

-- So is a crash of a station as it saves the row of a turn, where the rows that the next open takes up are those of a torn step
abbrev pub CrashIsTwoSteps : (D G F : Type 0) → Type 0
CrashIsTwoSteps D G F =
    (z : Circuit D G F) (w : State G F) (s : Step) (m : ℕ) (call : Call) (e : Event) (t : Turn) (rows : Saved)
    → task_of w.sent s ≡ Some (record { member = m; call = call }) → IsMember z.count m
    → refusal (setup_of z (w.version m) m) (w.is_stopped m) (w.marks m) call ≡ None
    → event_of (setup_of z (w.version m) m) (w.marks m) call ≡ Some e
    → turn (seat_at z m) (w.marks m) (w.rows m (number_of e)) e ≡ Some t → ¬ (t.row ≡ w.rows m (number_of e)) → w.armed m ≡ None
    → AreTorn (w.rows m) (number_of e) t.row rows
    → TearsAndRestarts z w s m (w.version m) rows

-- So is a crash of a station as it goes over, where the next open takes up its rows, in the one layout or in the other
abbrev pub UpgradeCrashIsTwoSteps : (D G F : Type 0) → Type 0
UpgradeCrashIsTwoSteps D G F =
    (z : Circuit D G F) (w : State G F) (m : ℕ) (version : Version) (rows : Saved)
    → IsMember z.count m → w.armed m ≡ None → AreUpgradeTorn (w.version m) (w.rows m) version rows
    → TearsAndRestarts z w (Upgrades m) m version rows

-- A crash of a station that took steps whose rows were to be saved together, which led a circuit from `before` to `done` at one version, where the
-- next open takes up none of those rows or all: the member starts again before those steps, or after them, and then all that they handed out is lost
abbrev pub GroupCrashIsARestart : (D G F : Type 0) → Type 0
GroupCrashIsARestart D G F =
    (z : Circuit D G F) (before done : State G F) (m : ℕ) (items : List (ℕ × Row)) (version : Version) (rows : Saved)
    → IsMember z.count m → before.version m ≡ version → done.version m ≡ version
    → WithAll (before.rows m) items (done.rows m) → IsAllOrNone (before.rows m) items rows
    → RestartsWith z before m version rows ⊎ RestartsWith z done m version rows
