-- What tears a step, and what it leaves: of every step of a circuit.
use Rattle.std.specs.Prelude.{◌≡◌, ℕ, ◌⊎◌, [], Some, None, Bool, true, false, if◌then◌else◌}
use Rattle.protocol.specs.Versions.{Two}
use Rattle.protocol.specs.Turn.{Event, number_of, Note, Turn, turn}
use Rattle.protocol.specs.Refusals.{Call, refusal, event_of}
use Rattle.protocol.specs.Circuit.{Circuit, State, Step, Outcome, Done, Refused, Torn_by_store, Torn_as_armed, Torn_by_memory, Restarted, Upgraded, Armed, Task, IsTask, seat_at, setup_of, StepsTo, Upgrades}

-- the step ended so by the member's store, of its own accord or as it was armed
abbrev pub by_store : {D F : Type 0} → Outcome D F → Bool
by_store (Done note) = false
by_store (Refused refusal) = false
by_store Torn_by_store = true
by_store Torn_as_armed = true
by_store Torn_by_memory = false
by_store Restarted = false
by_store Upgraded = false
by_store (Armed saved) = false

-- what a member was asked where its store tore the step, nothing refuses: the number is free, the packet is for it, the entry that is offered sets.
-- A spent round alone comes after the row is read
abbrev pub StoreTearsTheUnrefused : (D G F : Type 0) → Type 0
StoreTearsTheUnrefused D G F =
    (z : Circuit D G F) (w after : State G F) (s : Step) (o : Outcome D F) (m : ℕ) (call : Call)
    → StepsTo z w s o after → by_store o ≡ true → IsTask w.sent s m call
    → refusal (setup_of z (w.version m) m) (w.is_stopped m) (w.marks m) call ≡ None

-- a step that was torn as armed came to a save of an armed store, which is not armed any more:
-- as saved it has the row of the turn, as unsaved the row before
pub record WasArmed {D G F : Type 0} (z : Circuit D G F) (w after : State G F) (e : Event) (t : Task) : Type 0 where
  pub taken : Turn
  pub is_turn : turn (seat_at z t.member) (w.marks t.member) (w.rows t.member (number_of e)) e ≡ Some taken
  pub saved : Bool
  pub armed : w.armed t.member ≡ Some saved
  pub row : after.rows t.member (number_of e) ≡ (if saved then taken.row else w.rows t.member (number_of e))
  pub unarmed : after.armed t.member ≡ None

-- so is each step that was torn as armed
abbrev pub TornAsItWasArmed : (D G F : Type 0) → Type 0
TornAsItWasArmed D G F =
    (z : Circuit D G F) (w after : State G F) (s : Step) (m : ℕ) (call : Call) (e : Event)
    → StepsTo z w s Torn_as_armed after → IsTask w.sent s m call
    → event_of (setup_of z (w.version m) m) (w.marks m) call ≡ Some e
    → WasArmed z w after e (record { member = m; call = call })

-- how an upgrade of m ended: done, of a store that was not armed, and the member goes on at version 2; or torn by its store, and it has stopped:
-- as it was armed it is at version 2 where as saved, and where it was before where as unsaved; by the own store, which one that is armed
-- as unsaved does not ask, it is at either
abbrev pub EndsUpgrade : {D G F : Type 0} → State G F → State G F → ℕ → Outcome D F → Type 0
EndsUpgrade w after m (Done note) = ⊥
EndsUpgrade w after m (Refused refusal) = ⊥
EndsUpgrade w after m Torn_by_store =
    ¬ (w.armed m ≡ Some false) × ((after.version m ≡ w.version m) ⊎ (after.version m ≡ Two)) × (after.is_stopped m ≡ true)
EndsUpgrade w after m Torn_as_armed =
    (saved : Bool) × (w.armed m ≡ Some saved) × (after.version m ≡ (if saved then Two else w.version m)) × (after.is_stopped m ≡ true)
EndsUpgrade w after m Torn_by_memory = ⊥
EndsUpgrade w after m Restarted = ⊥
EndsUpgrade w after m Upgraded = (w.armed m ≡ None) × (after.version m ≡ Two) × (after.is_stopped m ≡ false)
EndsUpgrade w after m (Armed saved) = ⊥

-- an upgrade of m: however it ends, each row of the circuit stays, m has forgotten what it took in, and its store is armed no more
pub record TookUpgrade {D G F : Type 0} (w after : State G F) (m : ℕ) (o : Outcome D F) : Type 0 where
  pub rows : (k n : ℕ) → after.rows k n ≡ w.rows k n
  pub marks : after.marks m ≡ []
  pub unarmed : after.armed m ≡ None
  pub ends : EndsUpgrade w after m o

-- so does each upgrade
abbrev pub UpgradesKeepRows : (D G F : Type 0) → Type 0
UpgradesKeepRows D G F =
    (z : Circuit D G F) (w after : State G F) (o : Outcome D F) (m : ℕ) → StepsTo z w (Upgrades m) o after → TookUpgrade w after m o

-- an armed store saves nothing: where a step is done and changed a row, the member's store was not armed
abbrev pub ArmedStoresSaveNothing : (D G F : Type 0) → Type 0
ArmedStoresSaveNothing D G F =
    (z : Circuit D G F) (w after : State G F) (s : Step) (note : Note) (m n : ℕ)
    → StepsTo z w s (Done note) after → ¬ (after.rows m n ≡ w.rows m n) → w.armed m ≡ None
