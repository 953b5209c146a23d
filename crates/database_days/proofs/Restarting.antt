-- The next process goes on in the day: what is known of the last group of a process, and what the next start finds of it.
use Rattle.std.proofs.Common.{◌≡◌, ◌⊎◌, ◌∙◌, ◌++◌, ℕ, List, [], ◌∷◌, Bool, true, false, Result, Ok, Err, OnErr, inl, inr, refl, sym, ap, subst}
use Rattle.std.proofs.lemmas.Bool.{cases_Bool}
use Rattle.sqlite_disk.specs.declared.Disk as disk
use Rattle.sqlite.specs.declared.FileStore.{FileStore}
use Rattle.sqlite.specs.Files.{over_files}
use Rattle.protocol.specs.Ballots.{IsMember}
use Rattle.protocol.specs.Circuit.{with_at}
use Rattle.protocol_laws.proofs.Places.{with_at-same}
use Rattle.rows_saved.specs.declared.rows.Rows.{Ghosts}
use Rattle.rows_saved.specs.Saved.{Saved}
use Rattle.rows_saved.specs.Groups.{with_all}
use Rattle.rows_saved.specs.Grouped.{GroupedOf}
use Rattle.refusals.specs.declared.refusal.StepRefusal.{StepRefusal}
use Rattle.station.specs.declared.station.Station.{Station}
use Rattle.station.specs.Stations.{sight}
use Rattle.acceptor_store.specs.Columns.{version_in}
use Rattle.acceptor_store.specs.Restarts.{AreOpenedFrom}
use Rattle.acceptor_store.specs.Sqlite.{SqliteOf, IsOurs, LeavesNoOther, rows_version, saved_of}
use Rattle.driver.specs.Events.{Event, asked, took, stored, aside, Takes}
use Rattle.driver.proofs.Stretches.{takes_kept}
use Rattle.days.specs.Happening.{Happened, At_rest, Upgrading}
use Rattle.days.specs.Handing.{Plants, Member, runs, over, FindsRows, HandsOver}
use Rattle.days.specs.Days.{Day, ends, begins}
use Rattle.process_days.specs.Cutting.{EndsStored, StoresNone, NextProcessesBegin}
use Rattle.process_days.proofs.GoingOn.{with_at-other}
use Rattle.process_days.proofs.Storing.{Stored, has_settled, was_torn, had_stopped, what_stored}
use Rattle.database_days.specs.Grouping.{GroupsHandOver, TookAGroup, WereSettling}
use Rattle.database_days.specs.GroupSteps.{GroupsAreTaken, IsBetweenGroups, NoneWaits, TookSteps, no_step, one_more}
use Rattle.database_days.specs.Restarting.{Leaves, between_calls, in_a_step, at_a_refusal, in_the_save, StartsOver, Continues, GroupsGoOn, UpgradesGoOn}

never : {b : Bool} → b ≡ true → b ≡ false → ⊥
never stops goes = cc

-- ---- the last group of a process

module _ {D : Type 0} {g : disk.Ghosts D} {R : Type 0} (inside : R → SqliteOf (FileStore D g)) (x : Ghosts (GroupedOf R)) (groups : GroupsAreTaken D g inside x)
    (saved : (s : GroupedOf R) → x.saved s ≡ with_all (saved_of over_files (inside s.rows)) s.waits)
    (version : (s : GroupedOf R) → x.version s ≡ rows_version (inside s.rows)) where
  abbrev Post : Type 0
  Post = Station (GroupedOf R)

  abbrev stops_in : Post → Bool
  stops_in s = s.stopped

  settles_stopped : (old new : Post) (answer : Result (Unit {0}) StepRefusal) → Stored x NoneWaits old new answer → old.stopped ≡ true → new.stopped ≡ true
  settles_stopped old new answer (has_settled done it) stops = absurd (never stops it.goes)
  settles_stopped old new answer (was_torn fault it) stops = absurd (never stops it.went)
  settles_stopped old new answer (had_stopped was same) stops = ap stops_in same ∙ stops

  -- a station that has stopped stays so
  stays_stopped : (s last : Post) (log : List Event) → Takes x NoneWaits s last log → s.stopped ≡ true → last.stopped ≡ true
  stays_stopped s last [] it stops = ap stops_in it ∙ stops
  stays_stopped s last (asked moment ∷ log) it stops = stays_stopped s last log it stops
  stays_stopped s last (aside what ∷ log) it stops = stays_stopped s last log it stops
  stays_stopped s last (took call answer ∷ log) it stops = stays_stopped it.0 last log it.2 (ap stops_in (it.1.stopped stops).1 ∙ stops)
  stays_stopped s last (stored answer ∷ log) it stops = stays_stopped it.0 last log it.2 (settles_stopped s it.0 answer (what_stored answer it.1) stops)

  -- so one that goes on had not stopped before
  went_on : (s last : Post) (log : List Event) → Takes x NoneWaits s last log → last.stopped ≡ false → s.stopped ≡ false
  went_on s last log it goes = elim (cases_Bool s.stopped) [
    | inl stops ↦ absurd (never (stays_stopped s last log it stops) goes)
    | inr going ↦ going
  ]

  -- a save that is refused stops the station
  refusal_stops : (old new : Post) (answer : Result (Unit {0}) StepRefusal) → Stored x NoneWaits old new answer → OnErr answer (new.stopped ≡ true)
  refusal_stops old new answer (has_settled done it) = tt
  refusal_stops old new answer (was_torn fault it) = ap stops_in it.only_rows
  refusal_stops old new answer (had_stopped was same) = ap stops_in same ∙ was

  -- the steps of a log in which nothing is stored
  steps_of : (b s last : Post) (log : List Event) → TookSteps x b s → Takes x NoneWaits s last log → StoresNone log → last.stopped ≡ false → TookSteps x b last
  steps_of b s last [] so it none goes = subst (λ (t : Post). TookSteps x b t) (sym it) so
  steps_of b s last (asked moment ∷ log) so it none goes = steps_of b s last log so it none goes
  steps_of b s last (aside what ∷ log) so it none goes = steps_of b s last log so it none goes
  steps_of b s last (took call answer ∷ log) so it none goes =
      steps_of b it.0 last log (one_more s call answer so it.1 (went_on it.0 last log it.2 goes)) it.2 none goes
  steps_of b s last (stored (Ok done) ∷ log) so it none goes = absurd none
  steps_of b s last (stored (Err refusal) ∷ log) so it none goes =
      absurd (never (stays_stopped it.0 last log it.2 (refusal_stops s it.0 (Err refusal) (what_stored (Err refusal) it.1))) goes)

  -- a station between two groups, whose rows are those of this one's member
  abbrev Arrives : Post → Post → Type 0
  Arrives first s = IsBetweenGroups inside s × ((inside s.rows.rows).identity ≡ (inside first.rows.rows).identity)

  -- behind a save a station is between two groups
  behind_a_save :
      (first b s last : Post) (log : List Event) → Arrives first b → TookSteps x b s → Takes x NoneWaits s last (log ++ stored (Ok tt) ∷ [])
      → x.kept last.rows → last.stopped ≡ false → Arrives first last
  behind_a_save first b s last [] there so it keeps goes =
      let same : last ≡ it.0 = it.2 in
      let done = groups.saved b s it.0 there.0 so it.1 (subst (λ (t : Post). x.kept t.rows) same keeps) in
      subst (λ (t : Post). Arrives first t) (sym same) (done.0, done.1 ∙ there.1)
  behind_a_save first b s last (asked moment ∷ log) there so it keeps goes = behind_a_save first b s last log there so it keeps goes
  behind_a_save first b s last (aside what ∷ log) there so it keeps goes = behind_a_save first b s last log there so it keeps goes
  behind_a_save first b s last (took call answer ∷ log) there so it keeps goes =
      behind_a_save first b it.0 last log there
      (one_more s call answer so it.1 (went_on it.0 last (log ++ stored (Ok tt) ∷ []) it.2 goes)) it.2 keeps goes
  behind_a_save first b s last (stored (Ok done) ∷ log) there so it keeps goes =
      let kept = takes_kept x NoneWaits it.0 last (log ++ stored (Ok tt) ∷ []) it.2 keeps in
      let here = groups.saved b s it.0 there.0 so it.1 kept in
      behind_a_save first it.0 it.0 last log (here.0, here.1 ∙ there.1) (no_step refl) it.2 keeps goes
  behind_a_save first b s last (stored (Err refusal) ∷ log) there so it keeps goes =
      let stops = refusal_stops s it.0 (Err refusal) (what_stored (Err refusal) it.1) in
      absurd (never (stays_stopped it.0 last (log ++ stored (Ok tt) ∷ []) it.2 stops) goes)

  -- so it is behind the kept events of a log
  behind_the_kept :
      (first mid : Post) (kept : List Event) → IsBetweenGroups inside first → Takes x NoneWaits first mid kept → EndsStored kept
      → x.kept mid.rows → mid.stopped ≡ false → Arrives first mid
  behind_the_kept first mid kept begun it (inl none) keeps goes =
      let same : mid ≡ first = subst (λ (l : List Event). Takes x NoneWaits first mid l) none it in
      subst (λ (t : Post). Arrives first t) (sym same) (begun, refl)
  behind_the_kept first mid kept begun it (inr save) keeps goes =
      behind_a_save first first first mid save.0 (begun, refl) (no_step refl) (subst (λ (l : List Event). Takes x NoneWaits first mid l) save.1 it) keeps goes

  -- ---- what the next start finds

  module _ (p : Plants) (m : ℕ) (now : SqliteOf (FileStore D g)) (next : Post) (starts : StartsOver inside x p m now next) where
    opens : AreOpenedFrom starts.begun (inside next.rows.rows)
    opens = record { honest = starts.honest; made = starts.taken.made; rows = λ ours. starts.taken.rows starts.honest ours }

    -- its station is between two groups
    begins_between : IsOurs (inside next.rows.rows).alone (inside next.rows.rows).was (inside next.rows.rows).found → IsBetweenGroups inside next
    begins_between ours = record {
      settled = record { settled = starts.none; rest = starts.taken.rests starts.honest ours };
      ran = starts.taken.unstopped;
      marks = ([], starts.begins.stands_for);
    }

    -- its rows are those that were taken up
    reads : (n : ℕ) → x.saved next.rows n ≡ saved_of over_files (inside next.rows.rows) n
    reads n = ap (λ (s : Saved). s n) (saved next.rows) ∙ ap (λ w. with_all (saved_of over_files (inside next.rows.rows)) w n) starts.none

    -- they are found as those of this station
    abbrev Finds : Post → Type 0
    Finds last = FindsRows (sight x) At_rest last (saved_of over_files (inside next.rows.rows)) (rows_version (inside next.rows.rows))

    -- the store's own tables, the same station, and the rows of before the last group or of behind it
    abbrev Found : Post → Post → Type 0
    Found mid last =
        IsOurs (inside next.rows.rows).alone (inside next.rows.rows).was (inside next.rows.rows).found × ((inside next.rows.rows).identity ≡ (inside mid.rows.rows).identity) × (Finds mid ⊎ Finds last)

    hands_over : (last : Post) → Finds last → HandsOver (sight x) At_rest last next
    hands_over last found = (λ n. reads n ∙ found.0 n, version next.rows ∙ found.1)

    module _ (hands : GroupsHandOver D g D g inside (sight x)) (mid last : Post) where
      found_before : IsBetweenGroups inside mid → LeavesNoOther over_files (inside mid.rows.rows) now → Found mid last
      found_before between leaves =
          let all = hands.before_the_save mid now starts.files starts.left starts.begun (inside next.rows.rows) between.settled leaves
          starts.gives starts.clean starts.may starts.stands opens in
          (all.0, all.1, inl all.2)

      found_in : TookAGroup inside mid last → WereSettling inside last now → Found mid last
      found_in group saving =
          hands.in_the_save mid last now starts.files starts.left starts.begun (inside next.rows.rows) group saving starts.gives starts.clean starts.may starts.stands opens

      -- wherever the process stood as it ended
      found_so : IsBetweenGroups inside mid → TookSteps x mid last → x.kept last.rows → Leaves inside x last now → Found mid last
      found_so between so keeps (between_calls same) =
          let left = (groups.taken mid last between so keeps).1 in
          found_before between (subst (λ (s : SqliteOf (FileStore D g)). LeavesNoOther over_files (inside mid.rows.rows) s) (sym same) left)
      found_so between so keeps (in_a_step call new answer step kept same) =
          let left = groups.stepped mid last new call answer between so step kept in
          found_before between (subst (λ (s : SqliteOf (FileStore D g)). LeavesNoOther over_files (inside mid.rows.rows) s) (sym same) left)
      found_so between so keeps (at_a_refusal new torn kept same) =
          let saving = groups.torn mid last new between so torn kept in
          found_in (groups.taken mid last between so keeps).0 (subst (λ (s : SqliteOf (FileStore D g)). WereSettling inside last s) (sym same) saving)
      found_so between so keeps (in_the_save kept leaves) =
          let left = leaves.2 kept in
          found_in (groups.taken mid last between so keeps).0
          (record { version = ap (λ l. version_in l) leaves.1; either = left.0; station = left.1 })

    -- ---- the day goes on

    continues :
        (day : List Happened) (at : ℕ → Member (GroupedOf R)) (first last : Post) (log : List Event) → NextProcessesBegin x NoneWaits
        → Day x p day at → IsMember p.count m → at m ≡ runs first → last.stopped ≡ false → Finds last → Continues x NoneWaits p day at m log last next
    continues day at first last log next_begins d member here goes found = record {
      rows = hands_over last found;
      goes_on = λ order stations logs turn told is.
          next_begins p day at order stations m first next d logs turn member here (subst (λ (t : Post). t.stopped ≡ false) (sym is) goes)
          (subst (λ (t : Post). HandsOver (sight x) At_rest t next) (sym is) (hands_over last found)) starts.begins;
    }

  pub groups_go_on : GroupsHandOver D g D g inside (sight x) → NextProcessesBegin x NoneWaits → GroupsGoOn D g inside x
  groups_go_on hands next_begins p day at m first mid last next kept lost now d member here ran starts =
      let before = ran.to_the_save.1 ran.to_the_save.0 in
      let since = ran.from_there.1 ran.from_there.0 in
      let goes = went_on mid last lost since ran.goes in
      let there = behind_the_kept first mid kept ran.begins before ran.saves ran.to_the_save.0 goes in
      let so = steps_of mid mid last lost (no_step refl) since ran.none ran.goes in
      let found = found_so p m now next starts hands mid last there.0 so ran.from_there.0 ran.leaves in (
        found.1 ∙ there.1,
        begins_between p m now next starts found.0,
        elim found.2 [
          | inl old ↦ inl (continues p m now next starts day at first mid kept next_begins d member here goes old)
          | inr new ↦ inr (continues p m now next starts day at first last (kept ++ lost) next_begins d member here ran.goes new)
        ],
      )

  pub upgrades_go_on : GroupsHandOver D g D g inside (sight x) → UpgradesGoOn D g inside x
  upgrades_go_on hands p day at m last next now d member here between leaves starts =
      let all = hands.in_an_upgrade last now starts.files starts.left starts.begun (inside next.rows.rows) between.settled leaves
      starts.gives starts.clean starts.may starts.stands (opens p m now next starts) in
      let handed : HandsOver (sight x) Upgrading last next = (
        λ n. reads p m now next starts n ∙ all.2.0 n,
        elim all.2.1 [ inl was ↦ inl (version next.rows ∙ was) | inr two ↦ inr (version next.rows ∙ two) ],
      ) in
      let over_then = with_at at m (over Upgrading last) in
      let rests = ends d m Upgrading last member here tt in (
        all.1,
        begins_between p m now next starts all.0,
        handed,
        (
          with_at over_then m (runs next),
          begins rests m Upgrading last next member (with_at-same at m (over Upgrading last)) handed starts.begins,
          with_at-same over_then m (runs next),
          λ k far. with_at-other over_then m (runs next) k far ∙ with_at-other at m (over Upgrading last) k far,
        ),
      )
