-- Why the store tore a step, over rows that blame nothing but want of memory.
use Rattle.std.proofs.Common.{◌≡◌, ◌⊎◌, inl, inr}
use Rattle.rows_saved.specs.declared.fault.RowsFault.{RowsFault}
use Rattle.rows_saved.specs.declared.fault.RowsFault.TheVariants as row_faults
use Rattle.rows_saved.specs.declared.rows.Rows.{Ghosts}
use Rattle.refusals.specs.declared.refusal.StepRefusal.{StepRefusal}
use Rattle.refusals.specs.declared.refusal.StepRefusal.TheVariants.{Stopped, BadDatagram, WrongCircuit, NotForMe, Stranger, BadNumber, NoSuchMember, AlreadyReleased, AlreadyOpen, WireTooOld, TapeFaulty, RoundsSpent, Store, OutOfMemory}
use Rattle.world.specs.declared.step.Outcome.{Outcome}
use Rattle.world.specs.declared.step.Outcome.TheVariants as outcomes
use Rattle.world.specs.Taking.{IfTorn, WasTorn, WasArmed, TearsForMemory}

-- of a torn step less is told
refused_less : (q : StepRefusal) (P Q : RowsFault → Type 0) → ((fault : RowsFault) → P fault → Q fault) → IfTorn (outcomes.Refused q) P → IfTorn (outcomes.Refused q) Q
refused_less Stopped P Q f e = tt
refused_less (BadDatagram fault) P Q f e = tt
refused_less WrongCircuit P Q f e = tt
refused_less NotForMe P Q f e = tt
refused_less Stranger P Q f e = tt
refused_less BadNumber P Q f e = tt
refused_less NoSuchMember P Q f e = tt
refused_less AlreadyReleased P Q f e = tt
refused_less AlreadyOpen P Q f e = tt
refused_less WireTooOld P Q f e = tt
refused_less (TapeFaulty fault) P Q f e = tt
refused_less RoundsSpent P Q f e = tt
refused_less (Store fault) P Q f e = f fault e
refused_less OutOfMemory P Q f e = tt

torn_less : (o : Outcome) (P Q : RowsFault → Type 0) → ((fault : RowsFault) → P fault → Q fault) → IfTorn o P → IfTorn o Q
torn_less (outcomes.Done note) P Q f e = tt
torn_less (outcomes.Refused q) P Q f e = refused_less q P Q f e
torn_less outcomes.Restarted P Q f e = tt
torn_less outcomes.Upgraded P Q f e = tt
torn_less (outcomes.Armed saved) P Q f e = tt

pub tears_for_memory : {R : Type 0} (g : Ghosts R) → ((old new : R) (fault : RowsFault) → g.blames old new fault → fault ≡ row_faults.OutOfMemory) → TearsForMemory g
tears_for_memory {R = R} g wants old new seen why =
    torn_less seen.outcome (WasTorn g old new seen.member) (λ fault. (fault ≡ row_faults.OutOfMemory) ⊎ (WasArmed old seen.member × (fault ≡ row_faults.Store))) by why
  where
    by : (fault : RowsFault) → WasTorn g old new seen.member fault → (fault ≡ row_faults.OutOfMemory) ⊎ (WasArmed old seen.member × (fault ≡ row_faults.Store))
    by fault t = elim t.cause [
      | inl armed ↦ inr (record { station = t.before; at_member = t.at_old; armed = armed.0 }, armed.2)
      | inr own ↦ elim own.2 [
        | inl now ↦ inl (wants t.before.rows.rows t.after.rows.rows fault now)
        | inr then ↦ inl (wants then.0 t.after.rows.rows fault then.2)
      ]
    ]
