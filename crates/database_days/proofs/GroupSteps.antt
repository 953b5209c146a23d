-- What steps over grouped rows, their save and an upgrade leave of the rows inside.
use Rattle.std.proofs.Common.{◌≡◌, ◌⊎◌, ◌∙◌, ℕ, List, [], Bool, true, false, Result, Ok, Err, inl, inr, refl, sym, ap, subst}
use Rattle.sqlite_disk.specs.declared.Disk as disk
use Rattle.sqlite.specs.declared.FileStore.{FileStore}
use Rattle.sqlite.specs.Files.{over_files}
use Rattle.protocol.specs.Marks.{Mark}
use Rattle.protocol.specs.Refusals.{Call}
use Rattle.protocol.specs.Rows.{Row}
use Rattle.protocol.specs.Turn.{number_of}
use Rattle.rows_saved.specs.declared.rows.Rows.{Ghosts}
use Rattle.rows_saved.specs.Saved.{Saved, SameRows}
use Rattle.rows_saved.specs.Groups.{with_all}
use Rattle.rows_saved.specs.Grouped.{GroupedOf}
use Rattle.node_core.specs.Standing.{StandsFor}
use Rattle.refusals.specs.declared.refusal.StepRefusal.{StepRefusal}
use Rattle.refusals.specs.declared.refusal.StepRefusal.TheVariants as steps
use Rattle.station.specs.declared.answer.Answer.{Answer}
use Rattle.station.specs.declared.station.Station.{Station}
use Rattle.station.specs.Speaking.{is_lower}
use Rattle.station.specs.Stations.{Follows, sight, wire_at}
use Rattle.station.specs.Steps.{IsStep, Steps}
use Rattle.station.specs.Upgrading.{UpgradeEnds}
use Rattle.rows_saved.specs.declared.identity.Identity.{Identity}
use Rattle.acceptor_store.specs.Columns.{saved_in, version_in}
use Rattle.acceptor_store.specs.Grouping.{LeavesTogether, ShowsAllSaved}
use Rattle.acceptor_store.specs.Sqlite.{SqliteOf, AreLeftAsRead, IsAtRest, IsKept, IsOfStation, IsOpen, LeavesAll, LeavesInUpgrade, LeavesNoOther, LeavesStation, rows_version, saved_of}
use Rattle.database_days.specs.Grouping.{WereSettling}
use Rattle.database_days.specs.GroupSteps.{GroupsAreTaken, TookSteps, no_step, one_more}

never : {b : Bool} → b ≡ true → b ≡ false → ⊥
never stops goes = cc

module _ {D : Type 0} {g : disk.Ghosts D} where
  -- rows inside that were read at most since: those of the same station, in the same layout, open, and a crash leaves no other
  record ReadOn (old new : SqliteOf (FileStore D g)) : Type 0 where
    identity : new.identity ≡ old.identity
    stopped : new.stopped ≡ old.stopped
    layout : new.layout ≡ old.layout
    same : SameRows (saved_of over_files old) (saved_of over_files new)
    is_open : IsOpen over_files new
    crash : LeavesNoOther over_files old new

  read_none : (s : SqliteOf (FileStore D g)) → IsOpen over_files s → ReadOn s s
  read_none s opened = record { identity = refl; stopped = refl; layout = refl; same = λ n. refl; is_open = opened; crash = λ was db may. may }

  read_then : (a b c : SqliteOf (FileStore D g)) → ReadOn a b → ReadOn b c → ReadOn a c
  read_then a b c p q = record {
    identity = q.identity ∙ p.identity;
    stopped = q.stopped ∙ p.stopped;
    layout = q.layout ∙ p.layout;
    same = λ n. q.same n ∙ p.same n;
    is_open = q.is_open;
    crash = λ was db may. p.crash was db (q.crash p.is_open db may);
  }

  read_inside : (a b : SqliteOf (FileStore D g)) → (b ≡ a) ⊎ AreLeftAsRead over_files a b → IsKept over_files b → IsOpen over_files a → IsOpen over_files b → ReadOn a b
  read_inside a b (inl same) kept was opened = subst (λ (s : SqliteOf (FileStore D g)). ReadOn a s) (sym same) (read_none a was)
  read_inside a b (inr it) kept was opened =
      record { identity = it.0; stopped = it.1; layout = it.2; same = it.3 kept opened; is_open = opened; crash = it.4 kept }

  -- rows at rest that were read at most are at rest
  rests_still : (a b : SqliteOf (FileStore D g)) → ReadOn a b → IsAtRest over_files a → IsAtRest over_files b
  rests_still a b r rest = record {
    is_open = r.is_open;
    station = λ db may.
        subst (λ l. IsOfStation l b.identity db) (sym r.layout)
        (subst (λ (i : Identity). IsOfStation a.layout i db) (sym r.identity) (rest.station db (r.crash rest.is_open db may)));
    rows = λ left may n.
        rest.rows left (may.0, r.crash rest.is_open may.0 may.1, may.2 ∙ ap (λ l. saved_in l may.0) r.layout) n ∙ sym (r.same n);
  }

-- the words of grouped rows over a database, as their traits have them there: what they say of the rows inside
pub record AreGrouped {D : Type 0} {g : disk.Ghosts D} {R : Type 0} (inside : R → SqliteOf (FileStore D g)) (x : Ghosts (GroupedOf R)) : Type 0 where
  pub kept : (s : GroupedOf R) → x.kept s → IsKept over_files (inside s.rows)
  pub opened : (s : GroupedOf R) → x.is_open s → IsOpen over_files (inside s.rows)
  pub saved : (s : GroupedOf R) → x.saved s ≡ with_all (saved_of over_files (inside s.rows)) s.waits
  pub version : (s : GroupedOf R) → x.version s ≡ rows_version (inside s.rows)
  pub alike : (a b : GroupedOf R) → x.alike a b → (b.waits ≡ a.waits) × ((inside b.rows ≡ inside a.rows) ⊎ AreLeftAsRead over_files (inside a.rows) (inside b.rows))
  pub passes : (a b : GroupedOf R) → x.passes a b → inside b.rows ≡ inside a.rows
  pub tells : (a b : GroupedOf R) (n : ℕ) (row : Row) → x.tells a b n row → (inside b.rows ≡ inside a.rows) × (b.waits ≡ a.waits)
  pub upgrades : (a b : GroupedOf R) → x.upgrades a b → (a.waits ≡ []) × (b.waits ≡ []) × LeavesInUpgrade over_files (inside a.rows) (inside b.rows)
  pub balks : (a b : GroupedOf R) → x.balks a b → (b.waits ≡ a.waits) × ((inside b.rows ≡ inside a.rows) ⊎ LeavesInUpgrade over_files (inside a.rows) (inside b.rows))
  pub shows : (a b : GroupedOf R) → x.shows a b
      → ((a.waits ≡ []) × (b ≡ a))
      ⊎ ((b.waits ≡ []) × ShowsAllSaved over_files (inside a.rows) (inside b.rows) a.waits × LeavesTogether over_files (inside a.rows) (inside b.rows) a.waits)
  pub torn : (a b : GroupedOf R) → x.torn a b
      → (b.waits ≡ []) × ((inside b.rows ≡ inside a.rows) ⊎ LeavesTogether over_files (inside a.rows) (inside b.rows) a.waits)

module _ {D : Type 0} {g : disk.Ghosts D} {R : Type 0} (inside : R → SqliteOf (FileStore D g)) (x : Ghosts (GroupedOf R)) (says : AreGrouped inside x) where
  open says use {kept, opened, saved, alike, passes, tells, upgrades, balks, shows, torn}

  abbrev Post : Type 0
  Post = Station (GroupedOf R)

  abbrev HasMarks : Post → Type 0
  HasMarks s = (marks : List Mark) × StandsFor s.speaker.core marks

  -- the station took the version of its rows over, and its core stands for marks still
  followed : (old found : Post) (b : Bool) → is_lower (wire_at (sight x) old) old.speaker.wire ≡ b → Follows (sight x) old found → HasMarks old → HasMarks found
  followed old found false is f m = (m.0, subst (λ core. StandsFor core m.0) (sym (f.keeps is)) m.1)
  followed old found true is f m = ([], f.forgets is)

  abbrev Moved : Post → Post → Type 0
  Moved old new = ReadOn (inside old.rows.rows) (inside new.rows.rows) × HasMarks new

  stayed : (old new : Post) → new ≡ old → IsOpen over_files (inside old.rows.rows) → HasMarks old → Moved old new
  stayed old new same was marks = subst (λ (s : Post). Moved old s) (sym same) (read_none (inside old.rows.rows) was, marks)

  -- the rows were read, and then a row was kept waiting
  told_saved : (old mid new : GroupedOf R) → x.alike old mid → x.passes mid new → x.kept new → IsOpen over_files (inside old.rows) → IsOpen over_files (inside new.rows)
      → ReadOn (inside old.rows) (inside new.rows)
  told_saved old mid new like pass keeps was now =
      let same = passes mid new pass in
      subst (λ (s : SqliteOf (FileStore D g)). ReadOn (inside old.rows) s) (sym same)
      (read_inside (inside old.rows) (inside mid.rows) (alike old mid like).1 (subst (λ (s : SqliteOf (FileStore D g)). IsKept over_files s) same (kept new keeps)) was
      (subst (λ (s : SqliteOf (FileStore D g)). IsOpen over_files s) same now))

  -- a step that was taken
  done_so : (old new : Post) (call : Call) (marks : List Mark) (a : Answer) → Steps (sight x) call old new marks (Ok a) → x.kept new.rows → IsOpen over_files (inside old.rows.rows)
      → StandsFor old.speaker.core marks → Moved old new
  done_so old new call marks a (inl idles) keeps was sf = stayed old new idles.same was (marks, sf)
  done_so old new call marks a (inr it) keeps was sf =
      let done = it.2 in
      let now = opened new.rows done.is_open in (
        elim done.told [
          | inl like ↦ read_inside (inside old.rows.rows) (inside new.rows.rows) (alike old.rows new.rows like.0).1 (kept new.rows keeps) was now
          | inr put ↦ told_saved old.rows put.mid new.rows put.read.alike put.passes keeps was now
        ],
        (done.taken.marks, done.stands_for),
      )

  -- a step, however it was answered, that stopped nothing
  answered_so : (old new : Post) (call : Call) (marks : List Mark) (answer : Result Answer StepRefusal) → Steps (sight x) call old new marks answer → new.stopped ≡ false → x.kept new.rows
      → IsOpen over_files (inside old.rows.rows) → StandsFor old.speaker.core marks → Moved old new
  answered_so old new call marks (Ok a) s goes keeps was sf = done_so old new call marks a s keeps was sf
  answered_so old new call marks (Err (steps.Store fault)) s goes keeps was sf = absurd (never s.2.stops goes)
  answered_so old new call marks (Err steps.OutOfMemory) s goes keeps was sf = absurd (never s.2.stops goes)
  answered_so old new call marks (Err steps.RoundsSpent) s goes keeps was sf =
      let spent = s.2 in (
        read_inside (inside old.rows.rows) (inside new.rows.rows) (alike old.rows new.rows spent.read.alike).1 (kept new.rows keeps) was (opened new.rows spent.is_open),
        (marks, subst (λ core. StandsFor core marks) (sym (ap (λ (s : Post). s.speaker.core) spent.same)) sf),
      )
  answered_so old new call marks (Err steps.Stopped) s goes keeps was sf = stayed old new s.1 was (marks, sf)
  answered_so old new call marks (Err (steps.BadDatagram fault)) s goes keeps was sf = stayed old new s.1 was (marks, sf)
  answered_so old new call marks (Err steps.WrongCircuit) s goes keeps was sf = stayed old new s.1 was (marks, sf)
  answered_so old new call marks (Err steps.NotForMe) s goes keeps was sf = stayed old new s.1 was (marks, sf)
  answered_so old new call marks (Err steps.Stranger) s goes keeps was sf = stayed old new s.1 was (marks, sf)
  answered_so old new call marks (Err steps.BadNumber) s goes keeps was sf = stayed old new s.1 was (marks, sf)
  answered_so old new call marks (Err steps.NoSuchMember) s goes keeps was sf = stayed old new s.1 was (marks, sf)
  answered_so old new call marks (Err steps.AlreadyReleased) s goes keeps was sf = stayed old new s.1 was (marks, sf)
  answered_so old new call marks (Err steps.AlreadyOpen) s goes keeps was sf = stayed old new s.1 was (marks, sf)
  answered_so old new call marks (Err steps.WireTooOld) s goes keeps was sf = stayed old new s.1 was (marks, sf)
  answered_so old new call marks (Err (steps.TapeFaulty fault)) s goes keeps was sf = stayed old new s.1 was (marks, sf)

  -- a crash leaves no other of rows inside that were read at most
  no_other : (old new : GroupedOf R) → x.alike old new → IsKept over_files (inside new.rows) → LeavesNoOther over_files (inside old.rows) (inside new.rows)
  no_other old new like keeps = elim (alike old new like).1 [
    | inl same ↦ subst (λ (s : SqliteOf (FileStore D g)). LeavesNoOther over_files (inside old.rows) s) (sym same) (λ was db may. may)
    | inr it ↦ it.4 keeps
  ]

  -- nor if a row was kept waiting then, or its save was refused
  no_other_then : (old mid new : GroupedOf R) → x.alike old mid → inside new.rows ≡ inside mid.rows → x.kept new → LeavesNoOther over_files (inside old.rows) (inside new.rows)
  no_other_then old mid new like same keeps =
      subst (λ (s : SqliteOf (FileStore D g)). LeavesNoOther over_files (inside old.rows) s) (sym same)
      (no_other old mid like (subst (λ (s : SqliteOf (FileStore D g)). IsKept over_files s) same (kept new keeps)))

  no_other_same : (old new : GroupedOf R) → new ≡ old → LeavesNoOther over_files (inside old.rows) (inside new.rows)
  no_other_same old new same = subst (λ (s : GroupedOf R). LeavesNoOther over_files (inside old.rows) (inside s.rows)) (sym same) (λ was db may. may)

  abbrev rows_in : Post → GroupedOf R
  rows_in s = s.rows

  -- whatever a step answers
  left_so : (old new : Post) (call : Call) (marks : List Mark) (answer : Result Answer StepRefusal) → Steps (sight x) call old new marks answer → x.kept new.rows
      → LeavesNoOther over_files (inside old.rows.rows) (inside new.rows.rows)
  left_so old new call marks (Ok a) (inl idles) keeps = no_other_same old.rows new.rows (ap rows_in idles.same)
  left_so old new call marks (Ok a) (inr it) keeps = elim it.2.told [
    | inl like ↦ no_other old.rows new.rows like.0 (kept new.rows keeps)
    | inr put ↦ no_other_then old.rows put.mid new.rows put.read.alike (passes put.mid new.rows put.passes) keeps
  ]
  left_so old new call marks (Err (steps.Store fault)) s keeps = elim s.2.at [
    | inl read ↦ no_other old.rows new.rows read.0.alike (kept new.rows keeps)
    | inr put ↦
        no_other_then old.rows put.balked.mid new.rows put.balked.read.alike
        (tells put.balked.mid new.rows (number_of s.0) put.taken.row put.balked.tells).0 keeps
  ]
  left_so old new call marks (Err steps.OutOfMemory) s keeps = elim s.2.rows [
    | inl same ↦ no_other_same old.rows new.rows same
    | inr read ↦ no_other old.rows new.rows read.alike (kept new.rows keeps)
  ]
  left_so old new call marks (Err steps.RoundsSpent) s keeps = no_other old.rows new.rows s.2.read.alike (kept new.rows keeps)
  left_so old new call marks (Err steps.Stopped) s keeps = no_other_same old.rows new.rows (ap rows_in s.1)
  left_so old new call marks (Err (steps.BadDatagram fault)) s keeps = no_other_same old.rows new.rows (ap rows_in s.1)
  left_so old new call marks (Err steps.WrongCircuit) s keeps = no_other_same old.rows new.rows (ap rows_in s.1)
  left_so old new call marks (Err steps.NotForMe) s keeps = no_other_same old.rows new.rows (ap rows_in s.1)
  left_so old new call marks (Err steps.Stranger) s keeps = no_other_same old.rows new.rows (ap rows_in s.1)
  left_so old new call marks (Err steps.BadNumber) s keeps = no_other_same old.rows new.rows (ap rows_in s.1)
  left_so old new call marks (Err steps.NoSuchMember) s keeps = no_other_same old.rows new.rows (ap rows_in s.1)
  left_so old new call marks (Err steps.AlreadyReleased) s keeps = no_other_same old.rows new.rows (ap rows_in s.1)
  left_so old new call marks (Err steps.AlreadyOpen) s keeps = no_other_same old.rows new.rows (ap rows_in s.1)
  left_so old new call marks (Err steps.WireTooOld) s keeps = no_other_same old.rows new.rows (ap rows_in s.1)
  left_so old new call marks (Err (steps.TapeFaulty fault)) s keeps = no_other_same old.rows new.rows (ap rows_in s.1)

  step_leaves : (old new : Post) (call : Call) (answer : Result Answer StepRefusal) → IsStep x call old new answer → x.kept new.rows → HasMarks old
      → LeavesNoOther over_files (inside old.rows.rows) (inside new.rows.rows)
  step_leaves old new call answer step keeps m =
      let it = step.steps keeps in
      let same : it.found.rows ≡ old.rows = ap rows_in it.follows.same in
      let marks = followed old it.found (is_lower (wire_at (sight x) old) old.speaker.wire) refl it.follows m in
      subst (λ (s : GroupedOf R). LeavesNoOther over_files (inside s.rows) (inside new.rows.rows)) same
      (left_so it.found new call marks.0 answer (it.steps marks.0 marks.1) keeps)

  stepped_so : (old new : Post) (call : Call) (answer : Result Answer StepRefusal) → IsStep x call old new answer → new.stopped ≡ false → x.kept new.rows
      → IsOpen over_files (inside old.rows.rows) → HasMarks old → Moved old new
  stepped_so old new call answer step goes keeps was m =
      let it = step.steps keeps in
      let same : it.found.rows ≡ old.rows = ap (λ (s : Post). s.rows) it.follows.same in
      let marks = followed old it.found (is_lower (wire_at (sight x) old) old.speaker.wire) refl it.follows m in
      let here = subst (λ (s : GroupedOf R). IsOpen over_files (inside s.rows)) (sym same) was in
      let moved = answered_so it.found new call marks.0 answer (it.steps marks.0 marks.1) goes keeps here marks.1 in
      (subst (λ (s : GroupedOf R). ReadOn (inside s.rows) (inside new.rows.rows)) same moved.0, moved.1)

  -- steps, one after the other
  took_so : (old new : Post) → TookSteps x old new → x.kept new.rows → IsOpen over_files (inside old.rows.rows) → HasMarks old → Moved old new
  took_so old new (no_step same) keeps was m = stayed old new same was m
  took_so old new (one_more mid call answer before step goes) keeps was m =
      let first = took_so old mid before (step.was_kept keeps) was m in
      let last = stepped_so mid new call answer step goes keeps first.0.is_open first.1 in
      (read_then (inside old.rows.rows) (inside mid.rows.rows) (inside new.rows.rows) first.0 last.0, last.1)

  -- rows in which all that waited was saved are at rest
  put_at_rest :
      (old new : GroupedOf R) → ShowsAllSaved over_files (inside old.rows) (inside new.rows) old.waits
      → LeavesTogether over_files (inside old.rows) (inside new.rows) old.waits → new.waits ≡ []
      → IsAtRest over_files (inside old.rows) → (inside old.rows).stopped ≡ false → IsKept over_files (inside new.rows) → SameRows (x.saved old) (x.saved new)
      → IsAtRest over_files (inside new.rows)
  put_at_rest old new all leaves none rest ran keeps same = record {
    is_open = all.1 keeps rest.is_open;
    station = subst (λ (i : Identity). LeavesStation over_files (inside new.rows) i) (sym leaves.0) ((leaves.2 keeps).1 rest.is_open ran);
    rows = λ left may n.
        all.2 keeps left may n
        ∙ sym (ap (λ (m : Saved). m n) (saved old)) ∙ sym (same n) ∙ ap (λ (m : Saved). m n) (saved new)
        ∙ ap (λ w. with_all (saved_of over_files (inside new.rows)) w n) none;
  }

  -- rows at rest leave all that they have, in their layout
  leaves_own : (s : SqliteOf (FileStore D g)) → IsAtRest over_files s → LeavesAll over_files s s
  leaves_own s rest db may = record {
    layout = s.layout;
    either = inl refl;
    station = rest.station db may;
    same = λ n. rest.rows (saved_in s.layout db) (db, may, refl) n;
  }

  -- a save that did not reach rows at rest left them as one of which a crash leaves nothing does
  leaves_none : (after : Post) (now : SqliteOf (FileStore D g)) → now ≡ inside after.rows.rows → IsAtRest over_files (inside after.rows.rows) → WereSettling inside after now
  leaves_none after now same rest =
      let still : WereSettling inside after (inside after.rows.rows) = record {
        version = refl;
        either = λ opened ran left may. inl (rest.rows left may);
        station = λ opened ran. rest.station;
      } in
      subst (λ (s : SqliteOf (FileStore D g)). WereSettling inside after s) (sym same) still

  ends_so : (old new : GroupedOf R) (answer : Result (Unit {0}) StepRefusal) → UpgradeEnds (sight x) old new answer → IsAtRest over_files (inside old.rows)
      → (inside old.rows).stopped ≡ false → IsKept over_files (inside new.rows) → LeavesAll over_files (inside old.rows) (inside new.rows)
  ends_so old new (Ok done) ends rest ran keeps = (upgrades old new ends.upgrades).2 keeps rest.is_open ran
  ends_so old new (Err (steps.Store fault)) ends rest ran keeps = elim (balks old new ends.balks).1 [
    | inl same ↦ subst (λ (s : SqliteOf (FileStore D g)). LeavesAll over_files (inside old.rows) s) (sym same) (leaves_own (inside old.rows) rest)
    | inr leaves ↦ leaves keeps rest.is_open ran
  ]
  ends_so old new (Err steps.Stopped) ends rest ran keeps = absurd ends
  ends_so old new (Err (steps.BadDatagram fault)) ends rest ran keeps = absurd ends
  ends_so old new (Err steps.WrongCircuit) ends rest ran keeps = absurd ends
  ends_so old new (Err steps.NotForMe) ends rest ran keeps = absurd ends
  ends_so old new (Err steps.Stranger) ends rest ran keeps = absurd ends
  ends_so old new (Err steps.BadNumber) ends rest ran keeps = absurd ends
  ends_so old new (Err steps.NoSuchMember) ends rest ran keeps = absurd ends
  ends_so old new (Err steps.AlreadyReleased) ends rest ran keeps = absurd ends
  ends_so old new (Err steps.AlreadyOpen) ends rest ran keeps = absurd ends
  ends_so old new (Err steps.WireTooOld) ends rest ran keeps = absurd ends
  ends_so old new (Err (steps.TapeFaulty fault)) ends rest ran keeps = absurd ends
  ends_so old new (Err steps.RoundsSpent) ends rest ran keeps = absurd ends
  ends_so old new (Err steps.OutOfMemory) ends rest ran keeps = absurd ends

  pub groups_are_taken : GroupsAreTaken D g inside x
  groups_are_taken = record {
    taken = λ before after b took keeps.
        let r = (took_so before after took keeps b.settled.rest.is_open b.marks).0 in (
          record {
            begins = b.settled;
            identity = r.identity;
            same = r.same;
            is_open = r.is_open;
            ran = r.stopped ∙ b.ran;
            version = ap (λ l. version_in l) r.layout;
          },
          r.crash,
        );
    stepped = λ before after new call answer b took step keeps.
        let moved = took_so before after took (step.was_kept keeps) b.settled.rest.is_open b.marks in
        let more = step_leaves after new call answer step keeps moved.1 in
        λ was db may. moved.0.crash was db (more moved.0.is_open db may);
    saved = λ before after new b took h keeps.
        let was = h.reads.was_kept keeps in
        let moved = took_so before after took was b.settled.rest.is_open b.marks in
        let rests = rests_still (inside before.rows.rows) (inside after.rows.rows) moved.0 b.settled.rest in
        let marks : HasMarks new = (moved.1.0, subst (λ (s : Post). StandsFor s.speaker.core moved.1.0) (sym h.reads.only_rows) moved.1.1) in
        elim (shows after.rows new.rows h.shows) [
          | inl none ↦ (
            record {
              settled = record { settled = h.stored; rest = subst (λ (s : GroupedOf R). IsAtRest over_files (inside s.rows)) (sym none.1) rests };
              ran = subst (λ (s : GroupedOf R). (inside s.rows).stopped ≡ false) (sym none.1) (moved.0.stopped ∙ b.ran);
              marks = marks;
            },
            subst (λ (s : GroupedOf R). (inside s.rows).identity ≡ (inside before.rows.rows).identity) (sym none.1) moved.0.identity,
          )
          | inr put ↦ (
            record {
              settled = record { settled = h.stored; rest = put_at_rest after.rows new.rows put.1 put.2 put.0 rests (moved.0.stopped ∙ b.ran) (kept new.rows keeps) (h.reads.same keeps) };
              ran = put.1.0 ∙ moved.0.stopped ∙ b.ran;
              marks = marks;
            },
            put.2.0 ∙ moved.0.identity,
          )
        ];
    torn = λ before after new b took w keeps.
        let moved = took_so before after took (w.was_kept keeps) b.settled.rest.is_open b.marks in
        elim (torn after.rows new.rows w.torn).1 [
          | inl same ↦ leaves_none after (inside new.rows.rows) same (rests_still (inside before.rows.rows) (inside after.rows.rows) moved.0 b.settled.rest)
          | inr it ↦ (
              let left = it.2 (kept new.rows keeps) in
              record { version = ap (λ l. version_in l) it.1; either = left.0; station = left.1 }
              )
        ];
    upgraded = λ before new answer b it keeps. ends_so before.rows new.rows answer it.takes.ends b.settled.rest b.ran (kept new.rows keeps);
  }
