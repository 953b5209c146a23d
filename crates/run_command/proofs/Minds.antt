-- What is kept in mind holds of what happened, and what was done with the folders is in order.
use Rattle.std.proofs.Common.{◌≡◌, ◌++◌, ◌∙◌, ℕ, ◌⊎◌, List, [], ◌∷◌, Bool, true, false, Option, Some, None, Ok, Err, inl, inr, refl, sym, ap, subst, map}
use Rattle.std.specs.Prelude.{flat_map}
use Rattle.std.proofs.lemmas.List.Elements.{All-nil}
use Rattle.protocol.specs.Lists.{IsAmong}
use Rattle.protocol.specs.Refusals.{Call}
use Rattle.station.specs.declared.answer.Answer.{Answer}
use Rattle.folders.specs.Doings.{Doing, wrote_file, noted_before}
use Rattle.folders.specs.Written.{File}
use Rattle.offers.specs.Book.{IsFresh}
use Rattle.offers.specs.Rules.{Standing, entry_in}
use Rattle.offers.specs.declared.offer.Offer.{Offer}
use Rattle.station.specs.declared.answer.Release.{Release}
use Rattle.run_command.specs.ReleaseFiles.{files_of, filing, release_files}
use Rattle.run_command.specs.Standing.{Texts}
use Rattle.driver.specs.Events.{Event, asked, took, stored, aside}
use Rattle.run_command.specs.Lives.{among_behind, among_either, among_front, counted_happened, files_part, holds_silent, out_more, release_part, releases_part}
use Rattle.run_command.specs.Minding.{IsReadOffer, WereRead, HasRelease, HaveReleases, AreAllStored, Holds, counted, onto}
use Rattle.run_command.specs.Story.{Happened, stepped, did, events_of, doings_of, stored_of, IsInOrder, IsOut, IsReleasedIn, MayBeDone}
use Rattle.run_command.specs.Waiting.{Waiting, none_waits, with_files, with_numbers, with_release}
use Rattle.run_command.specs.Working.{Keeps, Releases}
use Rattle.run_command.proofs.Looking.{Deals, not_none, not_stored}
use Rattle.run_command.proofs.Story.{AllWritten, events_did, doings_did, files_did, files_wrote, taken_more, out_of, releases_here, in_order_looks, in_order_settled}

-- what an event released, if it did
abbrev release_in : Event → Option Release
release_in (asked moment) = None
release_in (took call (Ok answer)) = answer.release
release_in (took call (Err refusal)) = None
release_in (stored answer) = None
release_in (aside what) = None

abbrev number_in : Option Release → ℕ
number_in None = 0
number_in (Some r) = r.number

-- a step releases one number
one_number : (call called : Call) (a b : Answer) (r q : Release) → a.release ≡ Some r → b.release ≡ Some q → took called (Ok b) ≡ took call (Ok a) → q.number ≡ r.number
one_number call called a b r q here there same =
    sym (ap number_in there) ∙ ap (λ (e : Event). number_in (release_in e)) same ∙ ap number_in here

-- a number that is out stays out, whatever is done, and so does one that is out or waits to be noted

pub out_did : (ds : List Doing) (past : List Happened) (n : ℕ) → IsOut past n → IsOut (onto (map did ds) past) n
out_did [] past n gone = gone
out_did (d ∷ ds) past n gone = out_did ds (did d ∷ past) n (out_more (did d) past n gone)

out_still : (ds : List Doing) (past : List Happened) (waits : List ℕ) (n : ℕ) → IsOut past n ⊎ IsAmong waits n → IsOut (onto (map did ds) past) n ⊎ IsAmong waits n
out_still ds past waits n (inl gone) = inl (out_did ds past n gone)
out_still ds past waits n (inr wait) = inr wait

module _ (t : Texts) where
  -- a step was noted in which nothing was released
  noted_none :
      (past : List Happened) (call : Call) (a : Answer) (waits : Waiting) (was is : Standing) → a.release ≡ None → Keeps (Releases a.release) was is
      → Holds t past waits was → Holds t (stepped (took call (Ok a)) ∷ past) waits is
  noted_none past call a waits was is none keeps h =
      let e = took call (Ok a) in
      let log = events_of past in
      let behind : Holds t (stepped e ∷ past) waits was = holds_silent t past waits was e (ap files_of none) h in
      record {
        taken = keeps.taken t (doings_of past) behind.taken;
        known = keeps.released (counted waits.stored (e ∷ log)) (subst (λ (o : Option Release). Releases o (counted waits.stored (e ∷ log))) (sym none) tt) behind.known;
        filed = behind.filed;
        waiting = behind.waiting;
        unnoted = behind.unnoted;
        saved = behind.saved;
        out = behind.out;
      }

  -- one in which this was: its files and its number wait behind the others, and it is not stored yet
  noted_some :
      (past : List Happened) (call : Call) (a : Answer) (r : Release) (waits : Waiting) (was is : Standing) → a.release ≡ Some r → Keeps (Releases a.release) was is
      → Holds t past waits was → Holds t (stepped (took call (Ok a)) ∷ past) (with_release (Some r) waits) is
  noted_some past call a r waits was is some keeps h =
      let e = took call (Ok a) in
      let log = events_of past in
      let here : filing e ≡ release_files r = ap files_of some in
      record {
        taken = keeps.taken t (doings_of past) h.taken;
        known =
            keeps.released (e ∷ log) (releases_here call a log a.release refl)
            (releases_part (counted waits.stored log) (e ∷ log) was (λ x i. inr (counted_happened waits.stored log x i)) h.known);
        filed = λ f i. elim (among_either (filing e) (flat_map filing log) f i) [
          | inl now ↦ inr (among_behind waits.files (release_files r) f (subst (λ (l : List File). IsAmong l f) here now))
          | inr there ↦ elim (h.filed f there) [ inl w ↦ inl w | inr w ↦ inr (among_front waits.files (release_files r) f w) ]
        ];
        waiting = λ f i. elim (among_either waits.files (release_files r) f i) [
          | inl there ↦ among_behind (filing e) (flat_map filing log) f (files_part (counted waits.stored log) log (counted_happened waits.stored log) f (h.waiting f there))
          | inr now ↦ among_front (filing e) (flat_map filing log) f (subst (λ (l : List File). IsAmong l f) (sym here) now)
        ];
        unnoted = λ n i. elim (among_either waits.numbers (r.number ∷ []) n i) [
          | inl there ↦ release_part (counted waits.stored log) (e ∷ log) n (λ x j. inr (counted_happened waits.stored log x j)) (h.unnoted n there)
          | inr now ↦ elim now [
            | inl same ↦ record { release = r; released = record { call = call; answer = a; among = inl refl; releases = some }; number = sym same }
            | inr none ↦ absurd none
          ]
        ];
        saved = λ sure. absurd (not_stored {b = false} refl sure);
        out = λ q it. elim it.among [
          | inl same ↦ inr (among_behind waits.numbers (r.number ∷ []) q.number (inl (one_number call it.call a it.answer r q some it.releases same)))
          | inr there ↦ elim (h.out q (record { call = it.call; answer = it.answer; among = there; releases = it.releases })) [
            | inl gone ↦ inl (out_more (stepped e) past q.number gone)
            | inr wait ↦ inr (among_front waits.numbers (r.number ∷ []) q.number wait)
          ]
        ];
      }

  noted_by :
      (past : List Happened) (call : Call) (a : Answer) (o : Option Release) (waits : Waiting) (was is : Standing) → a.release ≡ o → Keeps (Releases a.release) was is
      → Holds t past waits was → Holds t (stepped (took call (Ok a)) ∷ past) (with_release o waits) is
  noted_by past call a None waits was is e keeps h = noted_none past call a waits was is e keeps h
  noted_by past call a (Some r) waits was is e keeps h = noted_some past call a r waits was is e keeps h

  -- a step was noted: the files of its release wait behind the others, and what it released is kept in mind
  pub holds_noted :
      (past : List Happened) (call : Call) (a : Answer) (waited waits : Waiting) (was is : Standing) → waits ≡ with_release a.release waited → Keeps (Releases a.release) was is
      → Holds t past waited was → Holds t (stepped (took call (Ok a)) ∷ past) waits is
  holds_noted past call a waited waits was is wait keeps h =
      subst (λ (w : Waiting). Holds t (stepped (took call (Ok a)) ∷ past) w is) (sym wait) (noted_by past call a a.release waited was is refl keeps h)

  -- what was done with the folders
  holds_did :
      (ds : List Doing) (past : List Happened) (waits : Waiting) (was is : Standing)
      → WereRead t (onto ds (doings_of past)) is.files → HaveReleases (counted waits.stored (events_of past)) is → Holds t past waits was
      → Holds t (onto (map did ds) past) waits is
  holds_did ds past waits was is taken known h = record {
    taken = subst (λ (l : List Doing). WereRead t l is.files) (sym (doings_did ds past)) taken;
    known = subst (λ (l : List Event). HaveReleases (counted waits.stored l) is) (sym (events_did ds past)) known;
    filed = λ f i. elim (h.filed f (subst (λ (l : List Event). IsAmong (flat_map filing l) f) (events_did ds past) i)) [
      | inl w ↦ inl (files_did ds past f w)
      | inr w ↦ inr w
    ];
    waiting = λ f i. subst (λ (l : List Event). IsAmong (flat_map filing (counted waits.stored l)) f) (sym (events_did ds past)) (h.waiting f i);
    unnoted = λ n i. subst (λ (l : List Event). HasRelease (counted waits.stored l) n) (sym (events_did ds past)) (h.unnoted n i);
    saved = λ sure. subst (λ (l : List Event). AreAllStored l) (sym (events_did ds past)) (h.saved sure);
    out = λ r it. out_still ds past waits.numbers r.number (h.out r (subst (λ (l : List Event). IsReleasedIn l r) (events_did ds past) it));
  }

  -- the first files that wait were written
  pub holds_wrote :
      (fs : List File) (past : List Happened) (waits : Waiting) (left : List File) (m : Standing) → waits.files ≡ fs ++ left → Holds t past waits m
      → Holds t (onto (map did (map wrote_file fs)) past) (with_files left waits) m
  holds_wrote fs past waits left m split h =
      let ds = map wrote_file fs in
      let all = holds_did ds past waits m m (taken_more t ds (doings_of past) m.files h.taken) h.known h in
      record {
        taken = all.taken;
        known = all.known;
        filed = λ f i.
            elim (h.filed f (subst (λ (l : List Event). IsAmong (flat_map filing l) f) (events_did ds past) i)) [
              | inl w ↦ inl (files_did ds past f w)
              | inr w ↦ elim (among_either fs left f (subst (λ (l : List File). IsAmong l f) split w)) [ inl here ↦ inl (files_wrote fs past f here) | inr there ↦ inr there ]
            ];
        waiting = λ f i. all.waiting f (subst (λ (l : List File). IsAmong l f) (sym split) (among_behind fs left f i));
        unnoted = all.unnoted;
        saved = all.saved;
        out = all.out;
      }

  -- fewer numbers wait to be noted, since all that waited are out
  pub holds_fewer :
      (past : List Happened) (waits : Waiting) (left : List ℕ) (m : Standing) → ((n : ℕ) → IsAmong left n → IsAmong waits.numbers n)
      → ((n : ℕ) → IsAmong waits.numbers n → IsOut past n) → Holds t past waits m → Holds t past (with_numbers left waits) m
  holds_fewer past waits left m part gone h = record {
    taken = h.taken;
    known = h.known;
    filed = h.filed;
    waiting = h.waiting;
    unnoted = λ n i. h.unnoted n (part n i);
    saved = h.saved;
    out = λ r it. elim (h.out r it) [ inl before ↦ inl before | inr wait ↦ inl (gone r.number wait) ];
  }

  -- something was done that reads, writes and releases nothing
  pub holds_done : (ds : List Doing) (past : List Happened) (waits : Waiting) (m : Standing) → Holds t past waits m → Holds t (onto (map did ds) past) waits m
  holds_done ds past waits m h = holds_did ds past waits m m (taken_more t ds (doings_of past) m.files h.taken) h.known h

  -- nothing happened yet

  none_some : {A : Type 0} (x : A) → None ≡ Some x → ⊥
  none_some x e = cc

  pub holds_first : (b : Standing) → IsFresh b → Holds t [] none_waits b
  holds_first b fresh = record {
    taken = subst (λ (l : List Offer). WereRead t [] l) (sym fresh.files) (All-nil (IsReadOffer t []));
    known = λ n e is. absurd (none_some e (sym (fresh.released n) ∙ is));
    filed = λ f i. absurd i;
    waiting = λ f i. absurd i;
    unnoted = λ n i. absurd i;
    saved = λ sure r it. absurd it.among;
    out = λ r it. absurd it.among;
  }

  -- a file that waits is of a release whose save is stored, once that is said
  pub wait_stored :
      (past : List Happened) (waits : Waiting) (m : Standing) (fs left : List File) → waits.stored ≡ true → waits.files ≡ fs ++ left → Holds t past waits m
      → (f : File) → IsAmong fs f → IsAmong (flat_map filing (stored_of (events_of past))) f
  wait_stored past waits m fs left sure split h f i =
      subst (λ (x : Bool). IsAmong (flat_map filing (counted x (events_of past))) f) sure
      (h.waiting f (subst (λ (l : List File). IsAmong l f) (sym split) (among_front fs left f i)))

  -- where no file waits all are written
  none_wait : (past : List Happened) (waits : Waiting) (m : Standing) → waits.files ≡ [] → Holds t past waits m → AllWritten past
  none_wait past waits m none h =
      λ f i. elim (h.filed f i) [ inl w ↦ w | inr w ↦ absurd (subst (λ (l : List File). IsAmong l f) none w) ]

  -- so the numbers that wait to be noted are out, once their saves are stored
  pub wait_out :
      (past : List Happened) (waits : Waiting) (m : Standing) → waits.stored ≡ true → waits.files ≡ [] → Holds t past waits m
      → (n : ℕ) → IsAmong waits.numbers n → IsOut past n
  wait_out past waits m sure none h n i =
      out_of past n (none_wait past waits m none h) (subst (λ (x : Bool). HasRelease (counted x (events_of past)) n) sure (h.unnoted n i))

  -- where none waits each number that was released is out, so numbers from before may be noted
  pub none_unnoted :
      (past : List Happened) (waits : Waiting) (m : Standing) (numbers : List ℕ) → waits.numbers ≡ [] → Holds t past waits m → MayBeDone past (noted_before numbers)
  none_unnoted past waits m numbers none h =
      λ r it i. elim (h.out r it) [ inl gone ↦ gone | inr wait ↦ absurd (subst (λ (l : List ℕ). IsAmong l r.number) none wait) ]

  -- something was done with files among the offers

  deals_by :
      (past : List Happened) (waits : Waiting) (a b : Option (List Doing)) (was is : Standing) (d : Deals t a b waits was is)
      (w : List File) (settled : Bool) → waits.files ≡ w → waits.stored ≡ settled → Holds t past waits was → IsInOrder t past (map did d.doings)
  deals_by past waits a b was is d (x ∷ xs) settled e s h = in_order_looks t d.doings past (d.none (λ filed. not_none waits.files x xs e filed.none))
  deals_by past waits a b was is d [] false e s h = in_order_looks t d.doings past (d.none (λ filed. not_stored s filed.stored))
  deals_by past waits a b was is d [] true e s h =
      in_order_settled t d.doings past (none_wait past waits was e h) (h.saved s)
      (d.settles (stored_of (events_of past)) (subst (λ (x : Bool). HaveReleases (counted x (events_of past)) was) s h.known))

  pub deals_in_order :
      (past : List Happened) (waits : Waiting) (a b : Option (List Doing)) (was is : Standing) (d : Deals t a b waits was is)
      → Holds t past waits was → IsInOrder t past (map did d.doings)
  deals_in_order past waits a b was is d h = deals_by past waits a b was is d waits.files waits.stored refl refl h

  pub holds_deals :
      (past : List Happened) (waits : Waiting) (a b : Option (List Doing)) (was is : Standing) (d : Deals t a b waits was is)
      → Holds t past waits was → Holds t (onto (map did d.doings) past) waits is
  holds_deals past waits a b was is d h =
      holds_did d.doings past waits was is (d.taken (doings_of past) h.taken) (λ n e found. h.known n e (ap (λ l. entry_in l n) (sym d.released) ∙ found)) h
