-- What is kept of a log that is cut behind its last save.
use Rattle.std.proofs.Common.{◌≡◌, ◌≢◌, ◌++◌, ◌∙◌, ◌⊎◌, ℕ, inl, inr, List, [], ◌∷◌, Some, None, Ok, Err, Bool, true, false, refl, sym, ap, subst, append-nil, arith}
use Rattle.std.specs.Prelude.{◌&&◌, flat_map, nat_le}
use Rattle.std.proofs.lemmas.Bool.Decides.{nat_tests}
use Rattle.std.proofs.lemmas.Grind.{flat_map-append}
use Rattle.std.proofs.lemmas.List.{append_cancel_left}
use Rattle.protocol.specs.Lists.{IsAmong}
use Rattle.protocol.specs.Ballots.{IsMember}
use Rattle.protocol.specs.Circuit.{with_at}
use Rattle.protocol.specs.Refusals.{Offering, Seeking, Falling_due, Receiving, Recalling}
use Rattle.protocol_laws.proofs.Places.{with_at-same}
use Rattle.rows_saved.specs.declared.rows.Rows.{Ghosts}
use Rattle.station.specs.declared.station.Station.{Station}
use Rattle.station.specs.Stations.{sight}
use Rattle.wire.specs.Passing.{Passed, Trace}
use Rattle.folders.specs.Doings.{Doing, saw_file, read_file, wrote_file, noted_gone, noted_before, moved_file, removed_file, writing}
use Rattle.folders.specs.Written.{File}
use Rattle.run_command.specs.Lives.{among_either, counted_happened, counted_more, files_part, onto_then}
use Rattle.run_command.specs.Minding.{onto}
use Rattle.run_command.specs.ReleaseFiles.{filing}
use Rattle.run_command.specs.Standing.{Texts}
use Rattle.run_command.specs.Story.{stepped, events_of, doings_of, files_of_story, stored_of, IsInOrder, MayBeDone}
use Rattle.run_command.specs.Story.{Happened as Run}
use Rattle.run_command.specs.Story.{did as done}
use Rattle.driver.specs.Events.{Event, asked, took, stored, aside, heard, hailed, rolled, going, going_by, passing_behind, waiting_behind, Takes}
use Rattle.driver.specs.Driving.{Fate}
use Rattle.driver.proofs.Stretches.{passing_then, takes_kept}
use Rattle.serve_command.specs.Serving.{printed_behind, written}
use Rattle.days.specs.Happening.{Happened, At_rest, ended, began}
use Rattle.days.specs.Handing.{Plants, Member, runs, over, Begins, HandsOver}
use Rattle.days.specs.Days.{Day, ends, begins, DaysAgree}
use Rattle.process_days.specs.Telling.{Order, log_of, day_after, HasLog, IsLeftWith}
use Rattle.process_days.specs.Cutting.{StoresNone, IsCut, EndsStored, HaveLongerLogs, PrefixesAreLogs, PrefixesAgree, LogsAreCut, LogsCanBeCut, LogsHavePrefixes, SavesAreStored, sent_in, sent_of, CutsKeepTheSent, CutsKeepThePrinted, CutsKeepTheFiled, StoriesHavePrefixes, StretchesFileTheStored, WrittenIsStored, NextProcessesBegin}
use Rattle.process_days.proofs.Filed.{filed, written_in}
use Rattle.process_days.proofs.GoingOn.{agree, make_days, with_at-other}

-- a log is cut behind its last save

-- where nothing was stored, nothing of it is kept
cut_none : (e : Event) (log lost : List Event) → StoresNone lost → log ≡ lost → StoresNone (e ∷ lost) → (kept : List Event) × (more : List Event) × IsCut (e ∷ log) kept more × EndsStored kept
cut_none e log lost none same all = ([], e ∷ lost, record { joined = ap (λ (l : List Event). e ∷ l) same; none = all }, inl refl)

cut_here : (log lost : List Event) → StoresNone lost → log ≡ lost → (kept : List Event) × (more : List Event) × IsCut (stored (Ok tt) ∷ log) kept more × EndsStored kept
cut_here log lost none same = (stored (Ok tt) ∷ [], lost, record { joined = ap (λ (l : List Event). stored (Ok tt) ∷ l) same; none = none }, inr ([], refl))

pub none_both : (xs ys : List Event) → StoresNone xs → StoresNone ys → StoresNone (xs ++ ys)
none_both [] ys p q = q
none_both (asked moment ∷ xs) ys p q = none_both xs ys p q
none_both (aside what ∷ xs) ys p q = none_both xs ys p q
none_both (took call answer ∷ xs) ys p q = none_both xs ys p q
none_both (stored (Ok unit) ∷ xs) ys p q = absurd p
none_both (stored (Err refusal) ∷ xs) ys p q = none_both xs ys p q

-- the same with one event more before it
cut_behind : (e : Event) (log : List Event) → ((lost : List Event) → StoresNone lost → log ≡ lost → (kept : List Event) × (more : List Event) × IsCut (e ∷ log) kept more × EndsStored kept)
    → (kept : List Event) (lost : List Event) → IsCut log kept lost → EndsStored kept → (kept : List Event) × (more : List Event) × IsCut (e ∷ log) kept more × EndsStored kept
cut_behind e log first kept lost c (inl none) = first lost c.none (c.joined ∙ ap (λ (k : List Event). k ++ lost) none)
cut_behind e log first kept lost c (inr it) =
    (e ∷ kept, lost, record { joined = ap (λ (l : List Event). e ∷ l) c.joined; none = c.none }, inr (e ∷ it.0, ap (λ (l : List Event). e ∷ l) it.1))

pub logs_are_cut : LogsAreCut
logs_are_cut [] = ([], [], record { joined = refl; none = tt }, inl refl)
logs_are_cut (asked moment ∷ log) =
    let it = logs_are_cut log in cut_behind (asked moment) log (λ lost none same. cut_none (asked moment) log lost none same none) it.0 it.1 it.2 it.3
logs_are_cut (aside what ∷ log) =
    let it = logs_are_cut log in cut_behind (aside what) log (λ lost none same. cut_none (aside what) log lost none same none) it.0 it.1 it.2 it.3
logs_are_cut (took call answer ∷ log) =
    let it = logs_are_cut log in cut_behind (took call answer) log (λ lost none same. cut_none (took call answer) log lost none same none) it.0 it.1 it.2 it.3
logs_are_cut (stored (Ok unit) ∷ log) =
    let it = logs_are_cut log in cut_behind (stored (Ok unit)) log (λ lost none same. cut_here log lost none same) it.0 it.1 it.2 it.3
logs_are_cut (stored (Err refusal) ∷ log) =
    let it = logs_are_cut log in cut_behind (stored (Err refusal)) log (λ lost none same. cut_none (stored (Err refusal)) log lost none same none) it.0 it.1 it.2 it.3

-- the first events of a log are a log

module _ {R : Type 0} (g : Ghosts R) (is_settled : R → Type 0) where
  takes_apart : (a c : Station R) (xs ys : List Event) → Takes g is_settled a c (xs ++ ys) → (b : Station R) × Takes g is_settled a b xs × Takes g is_settled b c ys
  takes_apart a c [] ys p = (a, refl, p)
  takes_apart a c (asked moment ∷ xs) ys p = takes_apart a c xs ys p
  takes_apart a c (aside what ∷ xs) ys p = takes_apart a c xs ys p
  takes_apart a c (took call answer ∷ xs) ys p = let it = takes_apart p.0 c xs ys p.2 in (it.0, (p.0, p.1, it.1), it.2)
  takes_apart a c (stored answer ∷ xs) ys p = let it = takes_apart p.0 c xs ys p.2 in (it.0, (p.0, p.1, it.1), it.2)

  pub logs_have_prefixes : LogsHavePrefixes g is_settled
  logs_have_prefixes s last kept lost it =
      let both = takes_apart s last kept lost (it.1 it.0) in
      (both.0, (takes_kept g is_settled both.0 last lost both.2 it.0, λ here. both.1), (it.0, λ here. both.2))

  pub saves_are_stored : SavesAreStored g is_settled
  saves_are_stored s mid before it =
      let both = takes_apart s mid before (stored (Ok tt) ∷ []) (it.1 it.0) in
      let settled = both.2.1 in
      let same : mid ≡ both.2.0 = both.2.2 in (
        subst (λ (t : Station R). is_settled t.rows) (sym same) settled.stored,
        subst (λ (t : Station R). t.stopped ≡ false) (sym same) (ap (λ (t : Station R). t.stopped) settled.reads.only_rows ∙ settled.goes),
      )

-- the first events that an order tells of logs are logs

nothing_left : (xs ys : List Event) → xs ++ ys ≡ [] → xs ≡ []
nothing_left [] ys e = refl
nothing_left (x ∷ xs) ys e = absurd cc

is_member : (count m : ℕ) → (nat_le 1 m && nat_le m count) ≡ true → IsMember count m
is_member count m e = grind (arith, nat_tests)

is_none : (count m : ℕ) → (nat_le 1 m && nat_le m count) ≡ false → IsMember count m → ⊥
is_none count m e member = grind (arith, nat_tests)

module _ {R : Type 0} (g : Ghosts R) (is_settled : R → Type 0) where
  beginning : (u : Member R) (last : Station R) (log rest : List Event) → HasLog g is_settled u last (log ++ rest) → (mid : Station R) × HasLog g is_settled u mid log
  beginning (runs s) last log rest it = let found = logs_have_prefixes g is_settled s last log rest it in (found.0, found.1)
  beginning (over ending s) last log rest it = (last, nothing_left log rest it)

  module _ (count : ℕ) (at : ℕ → Member R) (last : ℕ → Station R) (order : Order) (all : HaveLongerLogs g is_settled count at last order) where
    begun : (m : ℕ) → IsMember count m → (mid : Station R) × HasLog g is_settled (at m) mid (log_of m order)
    begun m member = let it = all m member in beginning (at m) (last m) (log_of m order) it.0 it.1

    -- the station of a member; any station if the number is no member
    left_by : (m : ℕ) (b : Bool) → (nat_le 1 m && nat_le m count) ≡ b → Station R
    left_by m true e = (begun m (is_member count m e)).0
    left_by m false e = last m

    left_with : (m : ℕ) (b : Bool) (e : (nat_le 1 m && nat_le m count) ≡ b) → IsMember count m → HasLog g is_settled (at m) (left_by m b e) (log_of m order)
    unfolding left_by
    left_with m true e member = (begun m (is_member count m e)).1
    left_with m false e member = absurd (is_none count m e member)

  pub prefixes_are_logs : PrefixesAreLogs g is_settled
  prefixes_are_logs count at last order all =
      (λ m. left_by count at last order all m (nat_le 1 m && nat_le m count) refl, λ m member. left_with count at last order all m (nat_le 1 m && nat_le m count) refl member)

-- nothing is sent where nothing is stored
pub sent_none : (waits : List Passed) (lost : List Event) → StoresNone lost → sent_of (passing_behind waits lost) ≡ []
sent_none waits [] none = refl
sent_none waits (asked moment ∷ lost) none = sent_none waits lost none
sent_none waits (aside (heard rest) ∷ lost) none = sent_none (waits ++ []) lost none
sent_none waits (aside (hailed recall) ∷ lost) none = sent_none (waits ++ going_by (hailed recall)) lost none
sent_none waits (aside (rolled roll) ∷ lost) none = sent_none (waits ++ going_by (rolled roll)) lost none
sent_none waits (took (Offering n entry now) answer ∷ lost) none = sent_none (waits ++ going answer) lost none
sent_none waits (took (Seeking n now) answer ∷ lost) none = sent_none (waits ++ going answer) lost none
sent_none waits (took (Falling_due now) answer ∷ lost) none = sent_none (waits ++ going answer) lost none
sent_none waits (took (Receiving bytes now) answer ∷ lost) none = sent_none (waits ++ going answer) lost none
sent_none waits (took (Recalling n to) answer ∷ lost) none = sent_none (waits ++ going answer) lost none
sent_none waits (stored (Ok unit) ∷ lost) none = absurd none
sent_none waits (stored (Err refusal) ∷ lost) none = sent_none waits lost none

pub cuts_keep_the_sent : CutsKeepTheSent
cuts_keep_the_sent waits log kept lost c =
    let first = passing_behind waits kept in
    let last = passing_behind (waiting_behind waits kept) lost in
    ap (λ (l : List Event). sent_of (passing_behind waits l)) c.joined ∙ ap sent_of (passing_then waits kept lost) ∙ flat_map-append sent_in first last
    ∙ ap (λ (l : List Passed). sent_of first ++ l) (sent_none (waiting_behind waits kept) lost c.none) ∙ append-nil (sent_of first)

-- nothing is printed where nothing is stored
printed_none : (waits : List ℕ) (lost : List Event) → StoresNone lost → printed_behind waits lost ≡ []
printed_none waits [] none = refl
printed_none waits (asked moment ∷ lost) none = printed_none waits lost none
printed_none waits (aside what ∷ lost) none = printed_none waits lost none
printed_none waits (took call answer ∷ lost) none = printed_none (waits ++ written answer) lost none
printed_none waits (stored (Ok unit) ∷ lost) none = absurd none
printed_none waits (stored (Err refusal) ∷ lost) none = printed_none waits lost none

-- so what is lost prints nothing more
printed_kept : (waits : List ℕ) (kept lost : List Event) → StoresNone lost → printed_behind waits (kept ++ lost) ≡ printed_behind waits kept
printed_kept waits [] lost none = printed_none waits lost none
printed_kept waits (asked moment ∷ kept) lost none = printed_kept waits kept lost none
printed_kept waits (aside what ∷ kept) lost none = printed_kept waits kept lost none
printed_kept waits (took call answer ∷ kept) lost none = printed_kept (waits ++ written answer) kept lost none
printed_kept waits (stored (Ok unit) ∷ kept) lost none = ap (λ (l : List ℕ). waits ++ l) (printed_kept [] kept lost none)
printed_kept waits (stored (Err refusal) ∷ kept) lost none = printed_kept waits kept lost none

pub cuts_keep_the_printed : CutsKeepThePrinted
cuts_keep_the_printed waits log kept lost c = ap (λ (l : List Event). printed_behind waits l) c.joined ∙ printed_kept waits kept lost c.none

-- what is stored stays stored in a story

stored_on : (story past : List Run) (x : Event) → IsAmong (stored_of (events_of past)) x → IsAmong (stored_of (events_of (onto story past))) x
stored_on [] past x i = i
stored_on (stepped e ∷ story) past x i = stored_on story (stepped e ∷ past) x (counted_more true e (events_of past) x i)
stored_on (done d ∷ story) past x i = stored_on story (done d ∷ past) x i

-- the save of a file's release is stored when the file is written
wrote_stored : (past : List Run) (d : Doing) (f : File) → MayBeDone past d → IsAmong (writing d) f → IsAmong (flat_map filing (stored_of (events_of past))) f
wrote_stored past (saw_file name) f may i = absurd i
wrote_stored past (read_file file) f may i = absurd i
wrote_stored past (wrote_file file) f may (inl e) = subst (λ (h : File). IsAmong (flat_map filing (stored_of (events_of past))) h) (sym e) may
wrote_stored past (wrote_file file) f may (inr none) = absurd none
wrote_stored past (noted_gone numbers) f may i = absurd i
wrote_stored past (noted_before numbers) f may i = absurd i
wrote_stored past (moved_file name to) f may i = absurd i
wrote_stored past (removed_file name) f may i = absurd i

filed_stored : (t : Texts) (story past : List Run) (f : File) → IsInOrder t past story → IsAmong (files_of_story story) f
    → IsAmong (flat_map filing (stored_of (events_of (onto story past)))) f
filed_stored t [] past f order i = absurd i
filed_stored t (stepped e ∷ story) past f order i = filed_stored t story (stepped e ∷ past) f order.1 i
filed_stored t (done d ∷ story) past f order i = elim (among_either (writing d) (files_of_story story) f i) [
  | inl here ↦
      files_part (stored_of (events_of past)) (stored_of (events_of (onto story (done d ∷ past)))) (λ x k. stored_on story (done d ∷ past) x k) f
      (wrote_stored past d f order.0 here)
  | inr behind ↦ filed_stored t story (done d ∷ past) f order.1 behind
]

-- the events of a story, the latest first
pub events_onto : (story past : List Run) → events_of (onto story past) ≡ onto (events_of story) (events_of past)
events_onto [] past = refl
events_onto (stepped e ∷ story) past = events_onto story (stepped e ∷ past)
events_onto (done d ∷ story) past = events_onto story (done d ∷ past)

-- what is stored stays the same where nothing is stored
pub stored_same : (lost past : List Event) → StoresNone lost → stored_of (onto lost past) ≡ stored_of past
stored_same [] past none = refl
stored_same (asked moment ∷ lost) past none = stored_same lost (asked moment ∷ past) none
stored_same (aside what ∷ lost) past none = stored_same lost (aside what ∷ past) none
stored_same (took call answer ∷ lost) past none = stored_same lost (took call answer ∷ past) none
stored_same (stored (Ok unit) ∷ lost) past none = absurd none
stored_same (stored (Err refusal) ∷ lost) past none = stored_same lost (stored (Err refusal) ∷ past) none

from_onto : {A : Type 0} (xs past : List A) (x : A) → IsAmong (onto xs past) x → IsAmong xs x ⊎ IsAmong past x
from_onto [] past x i = inr i
from_onto (y ∷ xs) past x i = elim (from_onto xs (y ∷ past) x i) [
  | inl k ↦ inl (inr k)
  | inr k ↦ elim k [ inl e ↦ inl (inl e) | inr j ↦ inr j ]
]

-- what is stored in a story is of the kept events of its log
pub stored_left : (story : List Run) (kept lost : List Event) → IsCut (events_of story) kept lost → (x : Event) → IsAmong (stored_of (events_of (onto story []))) x → IsAmong kept x
stored_left story kept lost c x i =
    let turned : events_of (onto story []) ≡ onto lost (onto kept []) =
    events_onto story [] ∙ ap (λ (l : List Event). onto l []) c.joined ∙ onto_then kept lost [] in
    let stays : stored_of (events_of (onto story [])) ≡ stored_of (onto kept []) = ap stored_of turned ∙ stored_same lost (onto kept []) c.none in
    let happened = counted_happened true (onto kept []) x (subst (λ (l : List Event). IsAmong l x) stays i) in
    elim (from_onto kept [] x happened) [ inl k ↦ k | inr none ↦ absurd none ]

pub cuts_keep_the_filed : CutsKeepTheFiled
cuts_keep_the_filed t story kept lost f order c i =
    files_part (stored_of (events_of (onto story []))) kept (stored_left story kept lost c) f (filed_stored t story [] f order i)

-- where nothing is stored, only what was stored before is written
pub stretches_file_the_stored : StretchesFileTheStored
stretches_file_the_stored t past story f order none i =
    let stays : stored_of (events_of (onto story past)) ≡ stored_of (events_of past) =
    ap stored_of (events_onto story past) ∙ stored_same (events_of story) (events_of past) none in
    subst (λ (l : List Event). IsAmong (flat_map filing l) f) stays (filed_stored t story past f order i)

-- the first part of a story is in order

order_first : (t : Texts) (past first rest : List Run) → IsInOrder t past (first ++ rest) → IsInOrder t past first
order_first t past [] rest p = tt
order_first t past (x ∷ first) rest p = (p.0, order_first t (x ∷ past) first rest p.1)

pub stories_have_prefixes : StoriesHavePrefixes
stories_have_prefixes t first rest p = order_first t [] first rest p

-- what was written is filed

pub written_is_stored : WrittenIsStored
written_is_stored day order m t story lost None after f in_order c does written = absurd written
written_is_stored day order m t story lost (Some old) None f in_order c does written = absurd written
written_is_stored day order m t story lost (Some old) (Some new) f in_order c does written =
    let same : written.0 ≡ doings_of story = append_cancel_left old written.0 (doings_of story) (sym written.1 ∙ does) in
    let i : IsAmong (files_of_story story) f = written_in story f (subst (λ (l : List Doing). IsAmong l (wrote_file f)) same written.2) in
    filed order day m f (cuts_keep_the_filed t story (log_of m order) lost f in_order c i)

-- the next process begins

not_both : {b : Bool} → b ≡ true → b ≡ false → ⊥
not_both stops goes = cc

module _ {R : Type 0} (g : Ghosts R) (is_settled : R → Type 0) where
  next_of : (p : Plants) (day : List Happened) (now : ℕ → Member R) (m : ℕ) (s last next : Station R) (u : Member R) → Day g p day now → IsMember p.count m → now m ≡ u
      → IsLeftWith (runs s) u last → last.stopped ≡ false → HandsOver (sight g) At_rest last next → Begins g p m next
      → (then : ℕ → Member R) × Day g p (began m ∷ ended m At_rest ∷ day) then × (then m ≡ runs next) × ((k : ℕ) → k ≢ m → then k ≡ now k)
  next_of p day now m s last next (over ending t) d member is left goes hands begun = absurd (not_both left goes)
  next_of p day now m s last next (runs t) d member is left goes hands begun =
      let rests = ends d m At_rest t member is tt in
      let at_rest = with_at now m (over At_rest t) in
      let from : HandsOver (sight g) At_rest t next = subst (λ (x : Station R). HandsOver (sight g) At_rest x next) left hands in (
        with_at at_rest m (runs next),
        begins rests m At_rest t next member (with_at-same now m (over At_rest t)) from begun,
        with_at-same at_rest m (runs next),
        λ k far. with_at-other at_rest m (runs next) k far ∙ with_at-other now m (over At_rest t) k far,
      )

  pub next_processes_begin : NextProcessesBegin g is_settled
  next_processes_begin p day at order last m s next d all turn member is goes hands begun =
      let made = make_days g is_settled p day at order last d all turn in
      let left : IsLeftWith (runs s) (made.0 m) (last m) = subst (λ (u : Member R). IsLeftWith u (made.0 m) (last m)) is (made.2 m member) in
      let it = next_of p (day_after day order) made.0 m s (last m) next (made.0 m) made.1 member refl left goes hands begun in
      (it.0, it.1, it.2, λ k is_one far. subst (λ (u : Member R). IsLeftWith (at k) u (last k)) (sym (it.3 k far)) (made.2 k is_one))

-- whatever drove a station

pub logs_can_be_cut : {R N S : Type 0} (g : Ghosts R) (is_settled : R → Type 0) (passed : N → Trace) (fate : Fate S) → LogsCanBeCut g is_settled passed fate
logs_can_be_cut g is_settled passed fate old new end log kept lost c driven rows =
    let whole : HasLog g is_settled (runs old.station) new.station (kept ++ lost) =
    (rows, λ here. subst (λ (l : List Event). Takes g is_settled old.station new.station l) c.joined (driven.steps here)) in
    let both = logs_have_prefixes g is_settled old.station new.station kept lost whole in (
      record {
        mid = both.0;
        first = both.1;
        rest = both.2;
        rests = λ save.
            (saves_are_stored g is_settled old.station both.0 save.0 (subst (λ (l : List Event). HasLog g is_settled (runs old.station) both.0 l) save.1 both.1)).0;
      },
      cuts_keep_the_sent old.waits log kept lost c,
    )

-- what is told of processes that ended in any way agrees

pub prefixes_agree : {R : Type 0} (g : Ghosts R) (is_settled : R → Type 0) → DaysAgree g → PrefixesAgree g is_settled
prefixes_agree g is_settled days p day at order last d all turn =
    let logs = prefixes_are_logs g is_settled p.count at last order all in
    agree g is_settled days p day at order logs.0 d logs.1 turn
