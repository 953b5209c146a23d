-- A crash of a station as it saves is the torn step and the restart.
use Rattle.std.proofs.Common.{◌≡◌, ◌==◌, if◌then◌else◌, ℕ, true, false, [], None, inl, inr, refl, sym, ap, subst, ◌∙◌}
use Rattle.std.proofs.lemmas.Bool.{cases_Bool}
use Rattle.std.proofs.lemmas.Bool.Decides.{Decides-eqb}
use Rattle.protocol.specs.Rows.{Row}
use Rattle.protocol.specs.Turn.{number_of}
use Rattle.protocol.specs.Versions.{Version, Two}
use Rattle.protocol.specs.Ballots.{IsMember}
use Rattle.protocol.specs.Circuit.{Circuit, State, IsSameState, with_at, saved, offers_with, MayLeave, Torn_by_store, is_torn, at_save, restarts, upgrade_is_torn}
use Rattle.rows_saved.specs.Saved.{Saved}
use Rattle.acceptor_store.specs.Restarts.{AreTorn}
use Rattle.acceptor_store.specs.Acknowledged.{RestartsWith}
use Rattle.acceptor_store.specs.Steps.{CrashIsTwoSteps, GroupCrashIsARestart, UpgradeCrashIsTwoSteps}

pub at_itself : {A : Type 0} (f : ℕ → A) (m : ℕ) (x : A) → with_at f m x m ≡ x
at_itself f m x = ap (λ b. if b then x else f m) ((Decides-eqb m m).1 refl)

pub same_state : {G F : Type 0} (w : State G F) → IsSameState w w
same_state w = record { version = λ m. refl; rows = λ m n. refl; marks = λ m. refl; is_stopped = λ m. refl; armed = λ m. refl; sent = refl; offers = refl; releases = refl }

-- the rows with the one that a torn step left are those that were found
left_rows : (before : Saved) (number : ℕ) (row : Row) (rows : Saved) → AreTorn before number row rows → (n : ℕ) → with_at before number (rows number) n ≡ rows n
left_rows before number row rows torn n = elim (cases_Bool (n == number)) [
  | inl same ↦ ap (λ b. if b then rows number else before n) same ∙ ap rows (sym ((Decides-eqb n number).0 same))
  | inr other ↦ ap (λ b. if b then rows number else before n) other ∙ sym (torn.others n (λ e. let yes = (Decides-eqb n number).1 e in cc))
]

pub two_steps : {D G F : Type 0} → CrashIsTwoSteps D G F
two_steps {D = D} {G = G} {F = F} z w s m call e t rows task member free event turned changes unarmed left =
    let n = number_of e in
    let torn : State G F = record w {
      rows = saved w.rows m n (rows n);
      marks = with_at w.marks m [];
      is_stopped = with_at w.is_stopped m true;
      armed = with_at w.armed m None;
      offers = offers_with w.offers m e;
    } in
    let after : State G F = record torn { marks = with_at torn.marks m []; is_stopped = with_at torn.is_stopped m false } in
    record {
      torn = torn;
      after = after;
      tears = is_torn m call e (rows n) None task member event
          (at_save t free turned changes (subst (λ a. MayLeave {A = Row} {D = D} {F = F} a Torn_by_store (w.rows m n) t.row (rows n)) (sym unarmed) (refl, left.torn.1)) refl) (same_state torn);
      restarts = restarts m member refl refl (same_state after);
      has_version = refl;
      has_rows = λ k. ap (λ (r : ℕ → Row). r k) (at_itself w.rows m (with_at (w.rows m) n (rows n))) ∙ left_rows (w.rows m) n t.row rows left k;
      has_no_marks = at_itself torn.marks m [];
      goes_on = at_itself torn.is_stopped m false;
    }

pub two_upgrade_steps : {D G F : Type 0} → UpgradeCrashIsTwoSteps D G F
two_upgrade_steps {D = D} {G = G} {F = F} z w m version rows member unarmed left =
    let torn : State G F = record w {
      version = with_at w.version m version;
      marks = with_at w.marks m [];
      is_stopped = with_at w.is_stopped m true;
      armed = with_at w.armed m None;
    } in
    let after : State G F = record torn { marks = with_at torn.marks m []; is_stopped = with_at torn.is_stopped m false } in
    record {
      torn = torn;
      after = after;
      tears = upgrade_is_torn m version member refl (subst (λ a. MayLeave {A = Version} {D = D} {F = F} a Torn_by_store (w.version m) Two version) (sym unarmed) (refl, left.torn.1)) (same_state torn);
      restarts = restarts m member refl refl (same_state after);
      has_version = at_itself w.version m version;
      has_rows = λ n. sym (left.same n);
      has_no_marks = at_itself torn.marks m [];
      goes_on = at_itself torn.is_stopped m false;
    }

restart_with : {D G F : Type 0} (z : Circuit D G F) (w : State G F) (m : ℕ) (version : Version) (rows : Saved) → IsMember z.count m → w.version m ≡ version
    → ((n : ℕ) → w.rows m n ≡ rows n) → RestartsWith z w m version rows
restart_with {G = G} {F = F} z w m version rows member at same =
    let after : State G F = record w { marks = with_at w.marks m []; is_stopped = with_at w.is_stopped m false } in
    record {
      after = after;
      restarts = restarts m member refl refl (same_state after);
      has_version = at;
      has_rows = same;
      has_no_marks = at_itself w.marks m [];
      goes_on = at_itself w.is_stopped m false;
    }

pub group_restart : {D G F : Type 0} → GroupCrashIsARestart D G F
group_restart z before done m items version rows member was is led (inl none) = inl (restart_with z before m version rows member was (λ n. sym (none n)))
group_restart z before done m items version rows member was is led (inr all) = inr (restart_with z done m version rows member is (λ n. led n ∙ sym (all n)))
