-- Each step that is torn, by its cases; and histories with such steps.
use Rattle.std.proofs.Common.{◌≡◌, inl, inr, refl, sym, ap, subst, ◌∙◌, arith, [], Option, Some, None, Bool, true, false}
use Rattle.std.specs.Prelude.{if◌then◌else◌}
use Rattle.protocol.specs.Ballots.{IsMember}
use Rattle.protocol.specs.Rows.{Row, blank, voted}
use Rattle.protocol.specs.Turn.{Event, Offered, Sought, number_of, Note, Note_nothing, Note_proposed}
use Rattle.protocol.specs.Refusals.{Call, Offering, Seeking, Tape_faulty, refusal, event_of}
use Rattle.protocol.specs.Circuit.{Upgrades, Circuit, State, Step, Offers, Seeks, Restarts, Balks, Outcome, Done, Refused, Torn_by_store, Torn_as_armed, Torn_by_memory, Restarted, Upgraded, Armed, saved, Task, task_of, setup_of, MayLeave, Leaves, store_before_save, memory_before_save, at_save, is_refused, is_idle, is_spent, is_done, is_torn, restarts, upgrades, upgrade_is_torn, is_armed, History, goes_on}
use Rattle.protocol.specs.Runs.{ballot}
use Rattle.protocol.specs.Tearing.{by_store, StoreTearsTheUnrefused, WasArmed, TornAsItWasArmed, EndsUpgrade, TookUpgrade, UpgradesKeepRows, ArmedStoresSaveNothing}
use Rattle.protocol.specs.Versions.{Version, Two}
use Rattle.std.specs.Prelude.{ℕ}
use Rattle.protocol.specs.Rehearsals.{MemoryEndsSetting, SettingWantsMemory, StaysArmed, ReadingLeavesArmed, SaveIsRefusedTwice, StoreRefusesToo}
use Rattle.protocol_laws.proofs.Places.{with_at-same, saved-same, saved_cases, saved-self}
use Rattle.protocol_laws.proofs.Rehearsing.{same, begins, of_count, at_count, changes}

false_true : false ≡ true → ⊥
false_true e = cc

none_some : {A : Type 0} {a : A} → None ≡ Some a → ⊥
none_some e = cc

some_is : {A : Type 0} {a b : A} → Some a ≡ Some b → a ≡ b
some_is e = cc

-- an outcome that is none of the store's
not_by_store : {D F : Type 0} (o q : Outcome D F) → by_store o ≡ true → o ≡ q → by_store q ≡ false → ⊥
not_by_store o q by how is = false_true (sym is ∙ (ap by_store (sym how) ∙ by))

not_asked : {G F : Type 0} (w : State G F) (s q : Step) (t : Task) → task_of w.sent s ≡ Some t → s ≡ q → task_of w.sent q ≡ None → ⊥
not_asked w s q t asked is none = none_some (sym none ∙ (ap (task_of w.sent) (sym is) ∙ asked))

pub store_tears_the_unrefused : {D G F : Type 0} → StoreTearsTheUnrefused D G F
store_tears_the_unrefused z w after s o m call (is_refused k other r task member refused how is) by asked = absurd (not_by_store o (Refused r) by how refl)
store_tears_the_unrefused z w after s o m call (is_idle k other task member un event how is) by asked = absurd (not_by_store o _ by how refl)
store_tears_the_unrefused z w after s o m call (is_spent k other e task member un event turn how is) by asked = absurd (not_by_store o _ by how refl)
store_tears_the_unrefused z w after s o m call (is_done k other e t out task member un event turn carried unarmed how is) by asked = absurd (not_by_store o _ by how refl)
store_tears_the_unrefused {D = D} {G = G} {F = F} z w after s o m call (is_torn k other e row armed task member event leaves is) by asked =
    subst (λ (t : Task). refusal (setup_of z (w.version t.member) t.member) (w.is_stopped t.member) (w.marks t.member) t.call ≡ None) (some_is (sym task ∙ asked)) (unrefused leaves)
  where
    unrefused : Leaves z w k other e o row armed → refusal (setup_of z (w.version k) k) (w.is_stopped k) (w.marks k) other ≡ None
    unrefused (store_before_save how un same_row stays) = un
    unrefused (memory_before_save how un same_row stays) = absurd (not_by_store o Torn_by_memory by how refl)
    unrefused (at_save t un turn changed may disarmed) = un
store_tears_the_unrefused z w after s o m call (restarts k member is_restart how is) by asked = absurd (not_by_store o Restarted by how refl)
store_tears_the_unrefused z w after s o m call (upgrades k member is_upgrade how unarmed is) by asked = absurd (not_by_store o Upgraded by how refl)
store_tears_the_unrefused z w after s o m call (upgrade_is_torn k v member is_upgrade may is) by asked = absurd (not_asked w s _ _ asked is_upgrade refl)
store_tears_the_unrefused z w after s o m call (is_armed k b member is_balk how is) by asked = absurd (not_by_store o (Armed b) by how refl)

-- what is torn as armed
abbrev as_armed : {D F : Type 0} → Outcome D F → Bool
as_armed (Done note) = false
as_armed (Refused refusal) = false
as_armed Torn_by_store = false
as_armed Torn_as_armed = true
as_armed Torn_by_memory = false
as_armed Restarted = false
as_armed Upgraded = false
as_armed (Armed saved) = false

not_as_armed : {D F : Type 0} (q : Outcome D F) → Torn_as_armed ≡ q → as_armed q ≡ false → ⊥
not_as_armed q how is = false_true (sym is ∙ ap as_armed (sym how))

-- the flag that a store refused a save by
flag_left :
    (D F : Type 0) (flag : Option Bool) (before after row : Row) → MayLeave {D = D} {F = F} flag Torn_as_armed before after row
    → (b : Bool) × (flag ≡ Some b) × (row ≡ (if b then after else before))
flag_left D F (Some false) before after row h = (false, refl, h.1)
flag_left D F (Some true) before after row h = elim h [ inl x ↦ (true, refl, x.1) | inr x ↦ absurd (not_as_armed Torn_by_store x.0 refl) ]
flag_left D F None before after row h = absurd (not_as_armed Torn_by_store h.0 refl)

pub torn_as_it_was_armed : {D G F : Type 0} → TornAsItWasArmed D G F
torn_as_it_was_armed z w after s m call e (is_refused k other r task member refused how is) asked event = absurd (not_as_armed (Refused r) how refl)
torn_as_it_was_armed z w after s m call e (is_idle k other task member un no_event how is) asked event = absurd (not_as_armed _ how refl)
torn_as_it_was_armed z w after s m call e (is_spent k other e1 task member un event1 turn how is) asked event = absurd (not_as_armed _ how refl)
torn_as_it_was_armed z w after s m call e (is_done k other e1 t out task member un event1 turn carried unarmed how is) asked event = absurd (not_as_armed _ how refl)
torn_as_it_was_armed {D = D} {G = G} {F = F} z w after s m call e (is_torn k other e1 row armed task member event1 leaves is) asked event =
    let asks = some_is (sym task ∙ asked) in
    let there : event_of (setup_of z (w.version m) m) (w.marks m) call ≡ Some e1 =
    subst (λ (t : Task). event_of (setup_of z (w.version t.member) t.member) (w.marks t.member) t.call ≡ Some e1) asks event1 in
    subst (λ (x : Event). WasArmed z w after x (record { member = m; call = call })) (some_is (sym there ∙ event))
    (subst (λ (t : Task). WasArmed z w after e1 t) asks (left leaves))
  where
    left : Leaves z w k other e1 Torn_as_armed row armed → WasArmed z w after e1 (record { member = k; call = other })
    left (store_before_save how un same_row stays) = absurd (not_as_armed Torn_by_store how refl)
    left (memory_before_save how un same_row stays) = absurd (not_as_armed Torn_by_memory how refl)
    left (at_save t un turn changed may disarmed) = let f = flag_left D F (w.armed k) (w.rows k (number_of e1)) t.row row may in record {
      taken = t;
      is_turn = turn;
      saved = f.0;
      armed = f.1;
      row = is.rows k (number_of e1) ∙ (saved-same w.rows k (number_of e1) row ∙ f.2);
      unarmed = is.armed k ∙ (with_at-same w.armed k armed ∙ disarmed);
    }
torn_as_it_was_armed z w after s m call e (restarts k member is_restart how is) asked event = absurd (not_as_armed Restarted how refl)
torn_as_it_was_armed z w after s m call e (upgrades k member is_upgrade how unarmed is) asked event = absurd (not_as_armed Upgraded how refl)
torn_as_it_was_armed z w after s m call e (upgrade_is_torn k v member is_upgrade may is) asked event = absurd (not_asked w s _ _ asked is_upgrade refl)
torn_as_it_was_armed z w after s m call e (is_armed k b member is_balk how is) asked event = absurd (not_as_armed (Armed b) how refl)

memory_ends_setting : {D G F : Type 0} → of_count {D = D} {G = G} {F = F} 1 MemoryEndsSetting
memory_ends_setting {D = D} {G = G} {F = F} k reads version_of sets says v entry fault fit s =
    let z : Circuit D G F = record { number = k; count = 1; reads = reads; version_of = version_of; sets = sets; says = says } in
    let me : IsMember 1 1 = (omega arith, omega arith) in
    let h1 : History z _ = goes_on (begins z v) (Offers 1 12 entry 0) (Refused (Tape_faulty fault)) (is_refused 1 (Offering 12 entry 0) (Tape_faulty fault) refl me (rw (fit, s) refl) refl (same _)) in
    let h2 : History z _ = goes_on h1 (Offers 1 12 entry 0) Torn_by_memory
    (is_torn 1 (Offering 12 entry 0) (Offered 12 entry 0) blank None refl me refl (memory_before_save refl (rw fit refl) refl refl) (same _)) in
    (_, h2, refl, refl, refl, refl)

pub setting_wants_memory : {D G F : Type 0} → SettingWantsMemory D G F
setting_wants_memory z one = at_count 1 MemoryEndsSetting memory_ends_setting z one

stays_armed : {D G F : Type 0} → of_count {D = D} {G = G} {F = F} 1 StaysArmed
stays_armed {D = D} {G = G} {F = F} k reads version_of sets says v entry slugs fit s =
    let z : Circuit D G F = record { number = k; count = 1; reads = reads; version_of = version_of; sets = sets; says = says } in
    let me : IsMember 1 1 = (omega arith, omega arith) in
    let h1 : History z _ = goes_on (begins z v) (Balks 1 true) (Armed true) (is_armed 1 true me refl refl (same _)) in
    let h2 : History z _ = goes_on h1 (Offers 1 12 entry 0) Torn_by_store
    (is_torn 1 (Offering 12 entry 0) (Offered 12 entry 0) blank (Some true) refl me refl (store_before_save refl (rw (fit, s) refl) refl refl) (same _)) in
    let h3 : History z _ = goes_on h2 (Restarts 1) Restarted (restarts 1 me refl refl (same _)) in
    let h4 : History z _ = goes_on h3 (Offers 1 12 entry 0) Torn_as_armed
    (is_torn 1 (Offering 12 entry 0) (Offered 12 entry 0) (voted (ballot 1 1) entry) None refl me refl (at_save _ (rw (fit, s) refl) refl (changes entry) (inl (refl, refl)) refl) (same _)) in
    let h5 : History z _ = goes_on h4 (Restarts 1) Restarted (restarts 1 me refl refl (same _)) in
    let h6 : History z _ = goes_on h5 (Seeks 1 12 0) (Done (Note_proposed (ballot 2 1))) (is_done 1 (Seeking 12 0) (Sought 12 0) _ [] refl me refl refl refl tt (inl refl) refl (same _)) in
    (_, h6, refl, refl, refl, refl)

pub reading_leaves_armed : {D G F : Type 0} → ReadingLeavesArmed D G F
reading_leaves_armed z one = at_count 1 StaysArmed stays_armed z one

save_is_refused_twice : {D G F : Type 0} → of_count {D = D} {G = G} {F = F} 1 SaveIsRefusedTwice
save_is_refused_twice {D = D} {G = G} {F = F} k reads version_of sets says v entry slugs fit s =
    let z : Circuit D G F = record { number = k; count = 1; reads = reads; version_of = version_of; sets = sets; says = says } in
    let me : IsMember 1 1 = (omega arith, omega arith) in
    let h1 : History z _ = goes_on (begins z v) (Balks 1 true) (Armed true) (is_armed 1 true me refl refl (same _)) in
    let h2 : History z _ = goes_on h1 (Offers 1 12 entry 0) Torn_by_store
    (is_torn 1 (Offering 12 entry 0) (Offered 12 entry 0) blank None refl me refl (at_save _ (rw (fit, s) refl) refl (changes entry) (inr (refl, inl refl)) refl) (same _)) in
    let h3 : History z _ = goes_on h2 (Restarts 1) Restarted (restarts 1 me refl refl (same _)) in
    let h4 : History z _ = goes_on h3 (Seeks 1 12 0) (Done (Note_nothing (ballot 1 1))) (is_done 1 (Seeking 12 0) (Sought 12 0) _ [] refl me refl refl refl tt (inl refl) refl (same _)) in
    let h5 : History z _ = goes_on h4 (Offers 1 12 entry 0) (Done (Note_proposed (ballot 2 1)))
    (is_done 1 (Offering 12 entry 0) (Offered 12 entry 0) _ [] refl me (rw (fit, s) refl) refl refl tt (inl refl) refl (same _)) in
    (_, h5, refl, refl, refl, refl)

pub store_refuses_too : {D G F : Type 0} → StoreRefusesToo D G F
store_refuses_too z one = at_count 1 SaveIsRefusedTwice save_is_refused_twice z one

-- which member an upgrade is of
abbrev upgraded_of : Step → Option ℕ
upgraded_of (Upgrades m) = Some m
upgraded_of _ = None

its_upgrade : (m k : ℕ) → Upgrades m ≡ Upgrades k → k ≡ m
its_upgrade m k is = some_is (ap upgraded_of (sym is))

no_upgrade : (m : ℕ) (s : Step) → Upgrades m ≡ s → upgraded_of s ≡ None → ⊥
no_upgrade m s is none = none_some (sym none ∙ ap upgraded_of (sym is))

-- how a torn upgrade of m ended
tear_ends :
    (D G F : Type 0) (w after : State G F) (m : ℕ) (o : Outcome D F) (v : Version) (flag : Option Bool) → w.armed m ≡ flag
    → MayLeave {D = D} {F = F} flag o (w.version m) Two v → after.version m ≡ v → after.is_stopped m ≡ true → EndsUpgrade w after m o
tear_ends D G F w after m o v (Some false) flag may at stops =
    subst (λ (x : Outcome D F). EndsUpgrade w after m x) (sym may.0) (false, flag, at ∙ may.1, stops)
tear_ends D G F w after m o v (Some true) flag may at stops = elim may [
  | inl x ↦ subst (λ (x : Outcome D F). EndsUpgrade w after m x) (sym x.0) (true, flag, at ∙ x.1, stops)
  | inr x ↦ subst (λ (x : Outcome D F). EndsUpgrade w after m x) (sym x.0)
      ((λ is. false_true (sym (some_is (sym flag ∙ is)))), elim x.1 [ inl y ↦ inl (at ∙ y) | inr y ↦ inr (at ∙ y) ], stops)
]
tear_ends D G F w after m o v None flag may at stops =
    subst (λ (x : Outcome D F). EndsUpgrade w after m x) (sym may.0)
    ((λ is. none_some (sym flag ∙ is)), elim may.1 [ inl y ↦ inl (at ∙ y) | inr y ↦ inr (at ∙ y) ], stops)

pub upgrades_keep_rows : {D G F : Type 0} → UpgradesKeepRows D G F
upgrades_keep_rows z w after o m (is_refused k call r task member refused how is) = absurd (none_some task)
upgrades_keep_rows z w after o m (is_idle k call task member un event how is) = absurd (none_some task)
upgrades_keep_rows z w after o m (is_spent k call e task member un event turn how is) = absurd (none_some task)
upgrades_keep_rows z w after o m (is_done k call e t out task member un event turn carried unarmed how is) = absurd (none_some task)
upgrades_keep_rows z w after o m (is_torn k call e row armed task member event leaves is) = absurd (none_some task)
upgrades_keep_rows z w after o m (restarts k member is_restart how is) = absurd (no_upgrade m _ is_restart refl)
upgrades_keep_rows {D = D} {G = G} {F = F} z w after o m (upgrades k member is_upgrade how unarmed is) =
    subst (λ (j : ℕ). TookUpgrade w after j o) (its_upgrade m k is_upgrade) (record {
      rows = is.rows;
      marks = is.marks k ∙ with_at-same w.marks k [];
      unarmed = is.armed k ∙ unarmed;
      ends = subst (λ (x : Outcome D F). EndsUpgrade w after k x) (sym how)
          (unarmed, is.version k ∙ with_at-same w.version k Two, is.is_stopped k ∙ with_at-same w.is_stopped k false);
    })
upgrades_keep_rows {D = D} {G = G} {F = F} z w after o m (upgrade_is_torn k v member is_upgrade may is) =
    subst (λ (j : ℕ). TookUpgrade w after j o) (its_upgrade m k is_upgrade) (record {
      rows = is.rows;
      marks = is.marks k ∙ with_at-same w.marks k [];
      unarmed = is.armed k ∙ with_at-same w.armed k None;
      ends = tear_ends D G F w after k o v (w.armed k) refl may (is.version k ∙ with_at-same w.version k v) (is.is_stopped k ∙ with_at-same w.is_stopped k true);
    })
upgrades_keep_rows z w after o m (is_armed k b member is_balk how is) = absurd (no_upgrade m _ is_balk refl)

-- the outcome is a turn that was taken
abbrev is_taken : {D F : Type 0} → Outcome D F → Bool
is_taken (Done note) = true
is_taken _ = false

not_taken : {D F : Type 0} (note : Note) (o : Outcome D F) → Done note ≡ o → is_taken o ≡ false → ⊥
not_taken note o is other = false_true (sym other ∙ sym (ap is_taken is))

-- what a refused save leaves is not of a turn that was taken
may_not_be_done : (D F : Type 0) {A : Type 0} (flag : Option Bool) (note : Note) (before after now : A) → MayLeave {A = A} {D = D} {F = F} flag (Done note) before after now → ⊥
may_not_be_done D F (Some false) note before after now may = not_taken note Torn_as_armed may.0 refl
may_not_be_done D F (Some true) note before after now may =
    elim may [ inl x ↦ not_taken note Torn_as_armed x.0 refl | inr x ↦ not_taken note Torn_by_store x.0 refl ]
may_not_be_done D F None note before after now may = not_taken note Torn_by_store may.0 refl

-- nor is a torn step
torn_is_not_done :
    {D G F : Type 0} (z : Circuit D G F) (w : State G F) (k : ℕ) (call : Call) (e : Event) (note : Note) (row : Row) (armed : Option Bool)
    → Leaves {D = D} z w k call e (Done note) row armed → ⊥
torn_is_not_done z w k call e note row armed (store_before_save how unrefused left left_armed) = not_taken note Torn_by_store how refl
torn_is_not_done z w k call e note row armed (memory_before_save how early left left_armed) = not_taken note Torn_by_memory how refl
torn_is_not_done {D = D} {F = F} z w k call e note row armed (at_save t unrefused turn changed may left_armed) =
    may_not_be_done D F (w.armed k) note (w.rows k (number_of e)) t.row row may

pub armed_stores_save_nothing : {D G F : Type 0} → ArmedStoresSaveNothing D G F
armed_stores_save_nothing z w after s note m n (is_refused k call r task member refused how is) changed = absurd (changed (is.rows m n))
armed_stores_save_nothing z w after s note m n (is_idle k call task member un event how is) changed = absurd (changed (is.rows m n))
armed_stores_save_nothing z w after s note m n (is_spent k call e task member un event turn how is) changed = absurd (changed (is.rows m n))
armed_stores_save_nothing z w after s note m n (is_done k call e t out task member un event turn carried unarmed how is) changed =
    elim (saved_cases w.rows k (number_of e) (w.rows k (number_of e)) t.row m n) [
      | inl x ↦ absurd (changed (is.rows m n ∙ x ∙ saved-self w.rows k (number_of e) m n))
      | inr x ↦ elim unarmed [
        | inl free ↦ subst (λ (j : ℕ). w.armed j ≡ None) (sym x.0) free
        | inr same ↦ absurd (changed (is.rows m n ∙ x.3 ∙ same ∙ sym x.2 ∙ saved-self w.rows k (number_of e) m n))
      ]
    ]
armed_stores_save_nothing z w after s note m n (is_torn k call e row armed task member event leaves is) changed =
    absurd (torn_is_not_done z w k call e note row armed leaves)
armed_stores_save_nothing z w after s note m n (restarts k member is_restart how is) changed = absurd (changed (is.rows m n))
armed_stores_save_nothing z w after s note m n (upgrades k member is_upgrade how unarmed is) changed = absurd (changed (is.rows m n))
armed_stores_save_nothing z w after s note m n (upgrade_is_torn k v member is_upgrade may is) changed = absurd (changed (is.rows m n))
armed_stores_save_nothing z w after s note m n (is_armed k b member is_balk how is) changed = absurd (changed (is.rows m n))
