-- The lives of a plant, one behind the other, are those of a sink.
use Rattle.std.specs.Prelude.{◌≡◌, ◌⊎◌, ◌++◌, ℕ, List, [], ◌∷◌, flat_map, Bool, true, false, Option, Some, Result, Ok, Err, refl}
use Rattle.std.proofs.Common.{◌∙◌, inl, inr, sym, ap, subst, append_assoc, append-nil}
use Rattle.std.proofs.lemmas.Grind.{flat_map-append}
use Rattle.protocol.specs.Entries.{Entry, Void, Taped}
use Rattle.protocol.specs.Lists.{IsAmong}
use Rattle.protocol.specs.Refusals.{Call, Offering, Seeking, Falling_due, Receiving, Recalling}
use Rattle.tape_frames.specs.Entries.{owned_entry}
use Rattle.line_check.specs.declared.fault.SetFault.{SetFault}
use Rattle.line_check.specs.declared.slug.Slug.{Slug}
use Rattle.station.specs.Readiness.{slugs_of}
use Rattle.station.specs.declared.answer.Answer.{Answer}
use Rattle.station.specs.declared.answer.Release.{Release}
use Rattle.refusals.specs.declared.refusal.StepRefusal.{StepRefusal}
use Rattle.folders.specs.Doings.{Doing, writing, Does}
use Rattle.folders.specs.Written.{File}
use Rattle.folders.proofs.Doings.{does_nothing, does_then}
use Rattle.driver.specs.Events.{Event, asked, took, stored, aside}
use Rattle.run_command.specs.Standing.{Texts}
use Rattle.driver.specs.Fates.{Fates, NeedsNothing}
use Rattle.offers.specs.Rules.{Standing}
use Rattle.run_command.specs.ReleaseFiles.{entry_files, files_of, filing}
use Rattle.run_command.specs.Minding.{HasRelease, HaveReleases, Holds, counted, onto}
use Rattle.run_command.specs.Living.{Kept, Lived, LivedFront, MayAsk}
use Rattle.run_command.specs.Story.{Happened, stepped, did, event_in, events_of, doing_in, doings_of, file_in, files_of_story, stored_of, IsInOrder, IsOut, IsReleasedIn}
use Rattle.run_command.specs.Waiting.{Waiting, all_stored}
use Rattle.run_command.specs.Working.{Writes}

pub among_front : {A : Type 0} (xs ys : List A) (x : A) → IsAmong xs x → IsAmong (xs ++ ys) x
among_front [] ys x i = absurd i
among_front (y ∷ xs) ys x (inl e) = inl e
among_front (y ∷ xs) ys x (inr i) = inr (among_front xs ys x i)

pub among_behind : {A : Type 0} (xs ys : List A) (x : A) → IsAmong ys x → IsAmong (xs ++ ys) x
among_behind [] ys x i = i
among_behind (y ∷ xs) ys x i = inr (among_behind xs ys x i)

pub among_either : {A : Type 0} (xs ys : List A) (x : A) → IsAmong (xs ++ ys) x → IsAmong xs x ⊎ IsAmong ys x
among_either [] ys x i = inr i
among_either (y ∷ xs) ys x (inl e) = inl (inl e)
among_either (y ∷ xs) ys x (inr i) = elim (among_either xs ys x i) [ inl k ↦ inl (inr k) | inr k ↦ inr k ]

pub onto_then : {A : Type 0} (xs ys past : List A) → onto (xs ++ ys) past ≡ onto ys (onto xs past)
onto_then [] ys past = refl
onto_then (x ∷ xs) ys past = onto_then xs ys (x ∷ past)

pub in_order_then : (t : Texts) (xs ys past : List Happened) → IsInOrder t past xs → IsInOrder t (onto xs past) ys → IsInOrder t past (xs ++ ys)
in_order_then t [] ys past p q = q
in_order_then t (x ∷ xs) ys past p q = (p.0, in_order_then t xs ys (x ∷ past) p.1 q)

-- all of these are among those
abbrev pub ArePart : List Event → List Event → Type 0
ArePart xs ys = (x : Event) → IsAmong xs x → IsAmong ys x

-- events whose saves are stored happened
stored_happened : (log : List Event) → ArePart (stored_of log) log
stored_happened [] x i = i
stored_happened (asked moment ∷ log) x i = inr (stored_happened log x i)
stored_happened (took call answer ∷ log) x i = inr (stored_happened log x i)
stored_happened (stored (Ok done) ∷ log) x i = inr i
stored_happened (stored (Err refusal) ∷ log) x i = inr (stored_happened log x i)
stored_happened (aside what ∷ log) x i = inr (stored_happened log x i)

-- what is stored stays stored, whatever happens
stored_more : (e : Event) (log : List Event) → ArePart (stored_of log) (stored_of (e ∷ log))
stored_more (asked moment) log x i = i
stored_more (took call answer) log x i = i
stored_more (stored (Ok done)) log x i = stored_happened log x i
stored_more (stored (Err refusal)) log x i = i
stored_more (aside what) log x i = i

pub counted_more : (b : Bool) (e : Event) (log : List Event) → ArePart (counted b log) (counted b (e ∷ log))
counted_more true e log x i = stored_more e log x i
counted_more false e log x i = inr i

pub counted_happened : (b : Bool) (log : List Event) → ArePart (counted b log) log
counted_happened true log x i = stored_happened log x i
counted_happened false log x i = i

-- a file of these events is one of an event
pub file_from : (log : List Event) (f : File) → IsAmong (flat_map filing log) f → (e : Event) × IsAmong log e × IsAmong (filing e) f
file_from [] f i = absurd i
file_from (x ∷ log) f i = elim (among_either (filing x) (flat_map filing log) f i) [
  | inl here ↦ (x, inl refl, here)
  | inr behind ↦ let it = file_from log f behind in (it.0, inr it.1, it.2)
]

pub file_to : (log : List Event) (e : Event) (f : File) → IsAmong log e → IsAmong (filing e) f → IsAmong (flat_map filing log) f
file_to [] e f i j = absurd i
file_to (x ∷ log) e f (inl same) j = among_front (filing x) (flat_map filing log) f (subst (λ (y : Event). IsAmong (filing y) f) same j)
file_to (x ∷ log) e f (inr i) j = among_behind (filing x) (flat_map filing log) f (file_to log e f i j)

pub files_part : (xs ys : List Event) → ArePart xs ys → (f : File) → IsAmong (flat_map filing xs) f → IsAmong (flat_map filing ys) f
files_part xs ys part f i = let it = file_from xs f i in file_to ys it.0 f (part it.0 it.1) it.2

pub released_part : (xs ys : List Event) (r : Release) → ArePart xs ys → IsReleasedIn xs r → IsReleasedIn ys r
released_part xs ys r part it = record { call = it.call; answer = it.answer; among = part _ it.among; releases = it.releases }

pub release_part : (xs ys : List Event) (n : ℕ) → ArePart xs ys → HasRelease xs n → HasRelease ys n
release_part xs ys n part it = record { release = it.release; released = released_part xs ys it.release part it.released; number = it.number }

pub releases_part : (xs ys : List Event) (b : Standing) → ArePart xs ys → HaveReleases xs b → HaveReleases ys b
releases_part xs ys b part all = λ n entry is. release_part xs ys n part (all n entry is)

-- a number that is out stays out, whatever happens
pub out_more : (x : Happened) (past : List Happened) (n : ℕ) → IsOut past n → IsOut (x ∷ past) n
out_more (stepped e) past n o = record {
  release = o.release;
  number = o.number;
  released = released_part (stored_of (events_of past)) (stored_of (e ∷ events_of past)) o.release (stored_more e (events_of past)) o.released;
  written = o.written;
}
out_more (did doing) past n o = record {
  release = o.release;
  number = o.number;
  released = o.released;
  written = λ f i. among_behind (writing doing) (files_of_story past) f (o.written f i);
}

-- so one that is out or waits to be noted still does
pub still_out : (x : Happened) (past : List Happened) (waits : List ℕ) (n : ℕ) → IsOut past n ⊎ IsAmong waits n → IsOut (x ∷ past) n ⊎ IsAmong waits n
still_out x past waits n (inl gone) = inl (out_more x past n gone)
still_out x past waits n (inr wait) = inr wait

-- each entry has files
some_files : (n : ℕ) (entry : Entry) (set : Result (List Slug) SetFault) → entry_files n entry set ≡ [] → ⊥
some_files n Void set none = cc
some_files n (Taped tape) set none = cc

-- so an event without files releases nothing
not_released : (e : Event) (call : Call) (a : Answer) (r : Release) → filing e ≡ [] → took call (Ok a) ≡ e → a.release ≡ Some r → ⊥
not_released e call a r none same is =
    some_files r.number (owned_entry r.entry) (slugs_of r.set) (ap files_of (sym is) ∙ ap filing same ∙ none)

-- an event that releases nothing changes nothing that is kept in mind
pub holds_silent : (t : Texts) (past : List Happened) (waits : Waiting) (m : Standing) (e : Event) → filing e ≡ [] → Holds t past waits m → Holds t (stepped e ∷ past) waits m
holds_silent t past waits m e none h =
    let log = events_of past in
    let part = counted_more waits.stored e log in
    record {
      taken = h.taken;
      known = releases_part (counted waits.stored log) (counted waits.stored (e ∷ log)) m part h.known;
      filed = λ f i. elim (among_either (filing e) (flat_map filing log) f i) [
        | inl here ↦ absurd (subst (λ (l : List File). IsAmong l f) none here)
        | inr there ↦ h.filed f there
      ];
      waiting = λ f i. files_part (counted waits.stored log) (counted waits.stored (e ∷ log)) part f (h.waiting f i);
      unnoted = λ n i. release_part (counted waits.stored log) (counted waits.stored (e ∷ log)) n part (h.unnoted n i);
      saved = λ sure r it. elim it.among [
        | inl here ↦ absurd (not_released e it.call it.answer r none here it.releases)
        | inr there ↦
            released_part (stored_of log) (stored_of (e ∷ log)) r (stored_more e log)
            (h.saved sure r (record { call = it.call; answer = it.answer; among = there; releases = it.releases }))
      ];
      out = λ r it. elim it.among [
        | inl here ↦ absurd (not_released e it.call it.answer r none here it.releases)
        | inr there ↦ still_out (stepped e) past waits.numbers r.number (h.out r (record { call = it.call; answer = it.answer; among = there; releases = it.releases }))
      ];
    }

-- to store what was saved releases nothing
no_save : (call : Call) (a : Answer) (answer : Result (Unit {0}) StepRefusal) → took call (Ok a) ≡ stored answer → ⊥
no_save call a answer same = cc

-- all that was saved is stored now
pub holds_stored : (t : Texts) (past : List Happened) (waits : Waiting) (m : Standing) → Holds t past waits m → Holds t (stepped (stored (Ok tt)) ∷ past) (all_stored waits) m
holds_stored t past waits m h =
    let log = events_of past in
    let part = counted_happened waits.stored log in
    record {
      taken = h.taken;
      known = releases_part (counted waits.stored log) log m part h.known;
      filed = h.filed;
      waiting = λ f i. files_part (counted waits.stored log) log part f (h.waiting f i);
      unnoted = λ n i. release_part (counted waits.stored log) log n part (h.unnoted n i);
      saved = λ sure r it. elim it.among [
        | inl here ↦ absurd (no_save it.call it.answer (Ok tt) here)
        | inr there ↦ record { call = it.call; answer = it.answer; among = there; releases = it.releases }
      ];
      out = λ r it. elim it.among [
        | inl here ↦ absurd (no_save it.call it.answer (Ok tt) here)
        | inr there ↦
            still_out (stepped (stored (Ok tt))) past waits.numbers r.number (h.out r (record { call = it.call; answer = it.answer; among = there; releases = it.releases }))
      ];
    }

-- the first were written, and then the first of the others
writes_join :
    (had mid rest fa fb ga gb : List File) → had ++ fa ≡ ga ++ mid → mid ++ fb ≡ gb ++ rest → had ++ (fa ++ fb) ≡ (ga ++ gb) ++ rest
writes_join had mid rest fa fb ga gb p q =
    sym (append_assoc had fa fb) ∙ ap (λ (l : List File). l ++ fb) p ∙ append_assoc ga mid fb ∙ ap (λ (l : List File). ga ++ l) q ∙ sym (append_assoc ga gb rest)

writes_then : (had mid rest : List File) (xs ys : List Happened) (ea eb : List Event)
    → Writes (had ++ flat_map filing ea) xs mid → Writes (mid ++ flat_map filing eb) ys rest → Writes (had ++ flat_map filing (ea ++ eb)) (xs ++ ys) rest
writes_then had mid rest xs ys ea eb p q =
    ap (λ (l : List File). had ++ l) (flat_map-append filing ea eb)
    ∙ writes_join had mid rest (flat_map filing ea) (flat_map filing eb) (files_of_story xs) (files_of_story ys) p q
    ∙ ap (λ (l : List File). l ++ rest) (sym (flat_map-append file_in xs ys))

module _ {F : Type 0} (t : Texts) (doings : F → Option (List Doing)) where
  -- one event in which nothing is released, and nothing was done with the folders
  pub silent : (s : Kept F) (e : Event) → filing e ≡ [] → ((past : List Happened) → Holds t past s.waits s.book → IsInOrder t past (stepped e ∷ [])) → Lived t doings s s (e ∷ [])
  silent s e none may = record {
    story = stepped e ∷ [];
    events = refl;
    does = does_nothing (doings s.folders) (doings s.folders) refl;
    whole = ap (λ (l : List File). s.waits.files ++ (l ++ [])) none ∙ append-nil s.waits.files;
    ordered = may;
    stands = λ past st. holds_silent t past s.waits s.book e none st;
  }

  -- all that was saved is stored, and nothing was done with the folders
  pub was_stored : (s : Kept F) → Lived t doings s (record s { waits = all_stored s.waits }) (stored (Ok tt) ∷ [])
  was_stored s = record {
    story = stepped (stored (Ok tt)) ∷ [];
    events = refl;
    does = does_nothing (doings s.folders) (doings s.folders) refl;
    whole = append-nil s.waits.files;
    ordered = λ past st. (tt, tt);
    stands = λ past st. holds_stored t past s.waits s.book st;
  }

  pub joined : (a b c : Kept F) (ea eb : List Event) → Lived t doings a b ea → Lived t doings b c eb → Lived t doings a c (ea ++ eb)
  joined a b c ea eb p q = record {
    story = p.story ++ q.story;
    events = flat_map-append event_in p.story q.story ∙ ap (λ (l : List Event). l ++ events_of q.story) p.events ∙ ap (λ (l : List Event). ea ++ l) q.events;
    does =
        subst (λ (l : List Doing). Does (doings a.folders) (doings c.folders) l) (sym (flat_map-append doing_in p.story q.story))
        (does_then (doings a.folders) (doings b.folders) (doings c.folders) (doings_of p.story) (doings_of q.story) p.does q.does);
    whole = writes_then a.waits.files b.waits.files c.waits.files p.story q.story ea eb p.whole q.whole;
    ordered = λ past st. in_order_then t p.story q.story past (p.ordered past st) (q.ordered (onto p.story past) (p.stands past st));
    stands = λ past st.
        subst (λ (x : List Happened). Holds t x c.waits c.book) (sym (onto_then p.story q.story past)) (q.stands (onto p.story past) (p.stands past st));
  }

  pub joined_front : (a b c : Kept F) (ea eb : List Event) → Lived t doings a b ea → LivedFront t doings b c eb → LivedFront t doings a c (ea ++ eb)
  joined_front a b c ea eb p q = record {
    story = p.story ++ q.story;
    events = flat_map-append event_in p.story q.story ∙ ap (λ (l : List Event). l ++ events_of q.story) p.events ∙ ap (λ (l : List Event). ea ++ l) q.events;
    does =
        subst (λ (l : List Doing). Does (doings a.folders) (doings c.folders) l) (sym (flat_map-append doing_in p.story q.story))
        (does_then (doings a.folders) (doings b.folders) (doings c.folders) (doings_of p.story) (doings_of q.story) p.does q.does);
    front = (q.front.0, writes_then a.waits.files b.waits.files q.front.0 p.story q.story ea eb p.whole q.front.1);
    ordered = λ past st. in_order_then t p.story q.story past (p.ordered past st) (q.ordered (onto p.story past) (p.stands past st));
  }

  -- nothing happened, and nothing was done
  pub stayed : (s : Kept F) → Lived t doings s s []
  stayed s = record {
    story = [];
    events = refl;
    does = does_nothing (doings s.folders) (doings s.folders) refl;
    whole = append-nil s.waits.files;
    ordered = λ past st. tt;
    stands = λ past st. st;
  }

  pub begun : (a b : Kept F) (log : List Event) → Lived t doings a b log → LivedFront t doings a b log
  begun a b log p = record { story = p.story; events = p.events; does = p.does; front = (b.waits.files, p.whole); ordered = p.ordered }

  -- a step that could not be stored: nothing was done, and what it released waits
  pub unwritten : (s : Kept F) (call : Call) (answer : Answer) (refusal : StepRefusal) → MayAsk t s call → LivedFront t doings s s (took call (Ok answer) ∷ stored (Err refusal) ∷ [])
  unwritten s call answer refusal may = record {
    story = stepped (took call (Ok answer)) ∷ stepped (stored (Err refusal)) ∷ [];
    events = refl;
    does = does_nothing (doings s.folders) (doings s.folders) refl;
    front = (s.waits.files ++ flat_map filing (took call (Ok answer) ∷ stored (Err refusal) ∷ []), refl);
    ordered = λ past st. (may past st, (tt, tt));
  }

  free : (s : Kept F) (call : Call) → NeedsNothing call → MayAsk t s call
  free s (Offering n entry now) needs = absurd needs
  free s (Seeking n now) needs = λ past st. tt
  free s (Falling_due now) needs = λ past st. tt
  free s (Receiving bytes now) needs = λ past st. tt
  free s (Recalling n to) needs = λ past st. tt

-- and so the lives of a plant are those of a sink, which has one table
module _ {F S : Type 0} (doings : F → Option (List Doing)) (same : S → S → Type 0) (stay : (s : S) → same s s)
    (go_on : (a b c : S) → same a b → same b c → same a c) (texts : S → Texts) (still : (a b : S) → same a b → texts b ≡ texts a) (at : S → Kept F) where
  abbrev Came : S → S → List Event → Type 0
  Came a b log = same a b × Lived (texts a) doings (at a) (at b) log

  abbrev CameSome : S → S → List Event → Type 0
  CameSome a b log = same a b × LivedFront (texts a) doings (at a) (at b) log

  came_then : (a b c : S) (xs ys : List Event) → Came a b xs → Came b c ys → Came a c (xs ++ ys)
  came_then a b c xs ys p q = (
    go_on a b c p.0 q.0,
    joined (texts a) doings (at a) (at b) (at c) xs ys p.1 (subst (λ (t : Texts). Lived t doings (at b) (at c) ys) (still a b p.0) q.1),
  )

  came_some : (a b c : S) (xs ys : List Event) → Came a b xs → CameSome b c ys → CameSome a c (xs ++ ys)
  came_some a b c xs ys p q = (
    go_on a b c p.0 q.0,
    joined_front (texts a) doings (at a) (at b) (at c) xs ys p.1 (subst (λ (t : Texts). LivedFront t doings (at b) (at c) ys) (still a b p.0) q.1),
  )

  pub plant_fates : Fates Came CameSome (λ (s : S) (call : Call). MayAsk (texts s) (at s) call)
  plant_fates = record {
    rests = λ s. (stay s, stayed (texts s) doings (at s));
    clock = λ s moment. (stay s, silent (texts s) doings (at s) (asked moment) refl (λ past st. (tt, tt)));
    unstored = λ s refusal. (stay s, silent (texts s) doings (at s) (stored (Err refusal)) refl (λ past st. (tt, tt)));
    withheld = λ s call answer refusal may. (stay s, unwritten (texts s) doings (at s) call answer refusal may);
    besides = λ s what. (stay s, silent (texts s) doings (at s) (aside what) refl (λ past st. (tt, tt)));
    refuses = λ s call refusal may. (stay s, silent (texts s) doings (at s) (took call (Err refusal)) refl (λ past st. (may past st, tt)));
    joins = came_then;
    begins = λ a b xs p. (p.0, begun (texts a) doings (at a) (at b) xs p.1);
    joins_front = came_some;
    free = λ s call needs. free (texts s) doings (at s) call needs;
  }
