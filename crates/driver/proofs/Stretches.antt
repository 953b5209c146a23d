-- Stretches of what happened to a station on a wire, one after the other, and why one came to an end.
use Rattle.std.proofs.Common.{◌≡◌, List, [], ◌∷◌, ◌++◌, Bool, ◌||◌, true, Result, Ok, Err, inl, inr, refl, sym, ap, ◌∙◌, subst, append_assoc}
use Rattle.protocol.specs.Refusals.{Call}
use Rattle.rows_saved.specs.declared.fault.RowsFault.TheVariants as row_faults
use Rattle.rows_saved.specs.declared.rows.Rows.{Ghosts}
use Rattle.refusals.specs.declared.refusal.StepRefusal.{StepRefusal}
use Rattle.refusals.specs.declared.refusal.StepRefusal.TheVariants as steps
use Rattle.station.specs.declared.station.Station.{Station}
use Rattle.station.specs.Settling.{Settling}
use Rattle.station.specs.Steps.{stopped_after}
use Rattle.wire.specs.Passing.{Passed, told}
use Rattle.command_ends.specs.Ends.{end_of, end_of_step}
use Rattle.command_ends.specs.declared.end.End.{End}
use Rattle.command_ends.specs.declared.end.End.TheVariants as ends
use Rattle.command_ends.specs.declared.fault.Fault.{Fault}
use Rattle.command_ends.specs.declared.fault.Fault.TheVariants as faults
use Rattle.driver.specs.Events.{Event, asked, took, stored, aside, coming, going, coming_by, going_by, passing_behind, waiting_behind, Takes, IsByStore, IsForMemory, IsRefused, Stops, HasCause}

pub takes_then : {R : Type 0} (g : Ghosts R) (i : R → Type 0) (a b c : Station R) (xs ys : List Event) → Takes g i a b xs → Takes g i b c ys → Takes g i a c (xs ++ ys)
takes_then {R = R} g i a b c [] ys p q = subst (λ (s : Station R). Takes g i s c ys) p q
takes_then g i a b c (asked m ∷ xs) ys p q = takes_then g i a b c xs ys p q
takes_then g i a b c (aside what ∷ xs) ys p q = takes_then g i a b c xs ys p q
takes_then g i a b c (took call answer ∷ xs) ys p q = (p.0, p.1, takes_then g i p.0 b c xs ys p.2 q)
takes_then g i a b c (stored answer ∷ xs) ys p q = (p.0, p.1, takes_then g i p.0 b c xs ys p.2 q)

-- rows that are kept once what was saved is stored, or could not be, were kept before
pub settling_kept : {R : Type 0} (g : Ghosts R) (i : R → Type 0) (old new : Station R) (r : Result (Unit {0}) StepRefusal) → Settling g i old new r → g.kept new.rows → g.kept old.rows
settling_kept g i old new (Ok done) it = it.reads.was_kept
settling_kept g i old new (Err (steps.Store fault)) it = it.was_kept
settling_kept {R = R} g i old new (Err steps.Stopped) it = λ kept. subst (λ (s : Station R). g.kept s.rows) it.1 kept
settling_kept g i old new (Err (steps.BadDatagram fault)) it = absurd it
settling_kept g i old new (Err steps.WrongCircuit) it = absurd it
settling_kept g i old new (Err steps.NotForMe) it = absurd it
settling_kept g i old new (Err steps.Stranger) it = absurd it
settling_kept g i old new (Err steps.BadNumber) it = absurd it
settling_kept g i old new (Err steps.NoSuchMember) it = absurd it
settling_kept g i old new (Err steps.AlreadyReleased) it = absurd it
settling_kept g i old new (Err steps.AlreadyOpen) it = absurd it
settling_kept g i old new (Err steps.WireTooOld) it = absurd it
settling_kept g i old new (Err (steps.TapeFaulty fault)) it = absurd it
settling_kept g i old new (Err steps.RoundsSpent) it = absurd it
settling_kept g i old new (Err steps.OutOfMemory) it = absurd it

-- rows that are kept behind what happened were kept before it
pub takes_kept : {R : Type 0} (g : Ghosts R) (i : R → Type 0) (old new : Station R) (log : List Event) → Takes g i old new log → g.kept new.rows → g.kept old.rows
takes_kept {R = R} g i old new [] it kept = subst (λ (s : Station R). g.kept s.rows) it kept
takes_kept g i old new (asked moment ∷ rest) it kept = takes_kept g i old new rest it kept
takes_kept g i old new (aside what ∷ rest) it kept = takes_kept g i old new rest it kept
takes_kept g i old new (took call answer ∷ rest) it kept = it.1.was_kept (takes_kept g i it.0 new rest it.2 kept)
takes_kept g i old new (stored answer ∷ rest) it kept = settling_kept g i old it.0 answer it.1 (takes_kept g i it.0 new rest it.2 kept)

-- what passes while the one happens, and then the other
pub passing_then : (waits : List Passed) (xs ys : List Event) → passing_behind waits (xs ++ ys) ≡ passing_behind waits xs ++ passing_behind (waiting_behind waits xs) ys
passing_then waits [] ys = refl
passing_then waits (asked m ∷ xs) ys = ap (λ (l : List Passed). told m ∷ l) (passing_then waits xs ys)
passing_then waits (took call answer ∷ xs) ys =
    ap (λ (l : List Passed). coming call ++ l) (passing_then (waits ++ going answer) xs ys)
    ∙ sym (append_assoc (coming call) (passing_behind (waits ++ going answer) xs) (passing_behind (waiting_behind (waits ++ going answer) xs) ys))
passing_then waits (stored (Ok done) ∷ xs) ys =
    ap (λ (l : List Passed). waits ++ l) (passing_then [] xs ys) ∙ sym (append_assoc waits (passing_behind [] xs) (passing_behind (waiting_behind [] xs) ys))
passing_then waits (stored (Err refusal) ∷ xs) ys = passing_then waits xs ys
passing_then waits (aside what ∷ xs) ys =
    ap (λ (l : List Passed). coming_by what ++ l) (passing_then (waits ++ going_by what) xs ys)
    ∙ sym (append_assoc (coming_by what) (passing_behind (waits ++ going_by what) xs) (passing_behind (waiting_behind (waits ++ going_by what) xs) ys))

pub waiting_then : (waits : List Passed) (xs ys : List Event) → waiting_behind waits (xs ++ ys) ≡ waiting_behind (waiting_behind waits xs) ys
waiting_then waits [] ys = refl
waiting_then waits (asked m ∷ xs) ys = waiting_then waits xs ys
waiting_then waits (took call answer ∷ xs) ys = waiting_then (waits ++ going answer) xs ys
waiting_then waits (stored (Ok done) ∷ xs) ys = waiting_then [] xs ys
waiting_then waits (stored (Err refusal) ∷ xs) ys = waiting_then waits xs ys
waiting_then waits (aside what ∷ xs) ys = waiting_then (waits ++ going_by what) xs ys

stops_then : (xs ys : List Event) (new : Bool) (Kind : StepRefusal → Type 0) → Stops ys new Kind → Stops (xs ++ ys) new Kind
stops_then xs ys new Kind s = record {
  before = xs ++ s.before;
  last = s.last;
  refusal = s.refusal;
  refused = s.refused;
  kind = s.kind;
  is_last = ap (λ (l : List Event). xs ++ l) s.is_last ∙ sym (append_assoc xs s.before (s.last ∷ []));
  stopped = s.stopped;
}

pub cause_then : (xs ys : List Event) (a b c : Bool) (end : End) → b ≡ a → HasCause ys b c end → HasCause (xs ++ ys) a c end
cause_then xs ys a b c ends.Done p q = q ∙ p
cause_then xs ys a b c ends.Input p q = q ∙ p
cause_then xs ys a b c ends.Usage p q = q
cause_then xs ys a b c ends.Store p q = stops_then xs ys c IsByStore q
cause_then xs ys a b c ends.Socket p q = q ∙ p
cause_then xs ys a b c ends.Memory p (inl same) = inl (same ∙ p)
cause_then xs ys a b c ends.Memory p (inr stops) = inr (stops_then xs ys c IsForMemory stops)
cause_then xs ys a b c ends.Busy p q = q

-- no fault ends a command as done
pub ends_badly : (f : Fault) → end_of f ≡ ends.Done → ⊥
ends_badly (faults.CannotRead path) e = cc
ends_badly faults.CannotWrite e = cc
ends_badly faults.InputTooLong e = cc
ends_badly faults.OutOfMemory e = cc
ends_badly (faults.Table fault) e = cc
ends_badly (faults.Widths fault) e = cc
ends_badly (faults.Tape fault) e = cc
ends_badly (faults.Unset fault) e = cc
ends_badly (faults.Script line what) e = cc
ends_badly (faults.Rows fault) e = cc
ends_badly (faults.RowsFile fault cause) e = cc
ends_badly (faults.Config what) e = cc
ends_badly (faults.ConfigKey what key) e = cc
ends_badly (faults.ConfigStation entry) e = cc
ends_badly (faults.ConfigHost entry) e = cc
ends_badly (faults.Key what) e = cc
ends_badly (faults.KeyUnread path) e = cc
ends_badly faults.NoFolders e = cc
ends_badly (faults.Offers what why) e = cc
ends_badly (faults.Misplaced what how which) e = cc
ends_badly (faults.InUse folder) e = cc
ends_badly (faults.NotEnded seconds) e = cc
ends_badly (faults.StillHeld seconds process) e = cc
ends_badly (faults.Socket what) e = cc
ends_badly (faults.SendFailed member) e = cc
ends_badly (faults.Refused refusal) e = cc
ends_badly (faults.Usage what) e = cc
ends_badly faults.Unpaired e = cc
ends_badly faults.LayoutAlone e = cc

stops_now : (e : Event) (r : StepRefusal) (new : Bool) (Kind : StepRefusal → Type 0) → IsRefused e r → Kind r → new ≡ true → Stops (e ∷ []) new Kind
stops_now e r new Kind refused kind stopped =
    record { before = []; last = e; refusal = r; refused = refused; kind = kind; is_last = refl; stopped = stopped }

-- a station is stopped by the refusals that end a command by the store or for memory, and by no other
pub refused_by : (e : Event) (r : StepRefusal) (old new : Bool) → IsRefused e r → new ≡ stopped_after old (Err r) → HasCause (e ∷ []) old new (end_of_step r)
refused_by e steps.Stopped old new is p = p
refused_by e (steps.BadDatagram fault) old new is p = p
refused_by e steps.WrongCircuit old new is p = p
refused_by e steps.NotForMe old new is p = p
refused_by e steps.Stranger old new is p = p
refused_by e steps.BadNumber old new is p = p
refused_by e steps.NoSuchMember old new is p = p
refused_by e steps.AlreadyReleased old new is p = p
refused_by e steps.AlreadyOpen old new is p = p
refused_by e steps.WireTooOld old new is p = p
refused_by e (steps.TapeFaulty fault) old new is p = p
refused_by e steps.RoundsSpent old new is p = p
refused_by e (steps.Store row_faults.Store) old new is p = stops_now e (steps.Store row_faults.Store) new IsByStore is (λ e. cc) p
refused_by e (steps.Store row_faults.WrongStation) old new is p = stops_now e (steps.Store row_faults.WrongStation) new IsByStore is (λ e. cc) p
refused_by e (steps.Store row_faults.WrongSchema) old new is p = stops_now e (steps.Store row_faults.WrongSchema) new IsByStore is (λ e. cc) p
refused_by e (steps.Store (row_faults.Damaged number)) old new is p = stops_now e (steps.Store (row_faults.Damaged number)) new IsByStore is (λ e. cc) p
refused_by e (steps.Store row_faults.OutOfMemory) old new is p = inr (stops_now e (steps.Store row_faults.OutOfMemory) new IsForMemory is refl p)
refused_by e steps.OutOfMemory old new is p = inr (stops_now e steps.OutOfMemory new IsForMemory is tt p)

pub refused_cause : (call : Call) (r : StepRefusal) (old new : Bool) → new ≡ stopped_after old (Err r) → HasCause (took call (Err r) ∷ []) old new (end_of_step r)
refused_cause call r old new p = refused_by (took call (Err r)) r old new refl p

-- one that can't store what it saved has stopped for that
pub unstored_cause :
    {R : Type 0} (g : Ghosts R) (i : R → Type 0) (old new : Station R) (r : StepRefusal) → Settling g i old new (Err r) → HasCause (stored (Err r) ∷ []) old.stopped new.stopped (end_of_step r)
unstored_cause {R = R} g i old new (steps.Store fault) it = refused_by (stored (Err (steps.Store fault))) (steps.Store fault) old.stopped new.stopped refl (ap (λ (s : Station R). s.stopped) it.only_rows)
unstored_cause {R = R} g i old new steps.Stopped it = ap (λ (s : Station R). s.stopped) it.1
unstored_cause g i old new (steps.BadDatagram fault) it = absurd it
unstored_cause g i old new steps.WrongCircuit it = absurd it
unstored_cause g i old new steps.NotForMe it = absurd it
unstored_cause g i old new steps.Stranger it = absurd it
unstored_cause g i old new steps.BadNumber it = absurd it
unstored_cause g i old new steps.NoSuchMember it = absurd it
unstored_cause g i old new steps.AlreadyReleased it = absurd it
unstored_cause g i old new steps.AlreadyOpen it = absurd it
unstored_cause g i old new steps.WireTooOld it = absurd it
unstored_cause g i old new (steps.TapeFaulty fault) it = absurd it
unstored_cause g i old new steps.RoundsSpent it = absurd it
unstored_cause g i old new steps.OutOfMemory it = absurd it
