-- What a process sent, filed or noted, it had stored before.
use Rattle.std.proofs.Common.{◌≡◌, ◌++◌, ◌∙◌, ◌⊎◌, ℕ, inl, inr, List, [], ◌∷◌, Ok, Err, refl, sym, ap, subst, append_assoc}
use Rattle.std.specs.Prelude.{flat_map}
use Rattle.std.proofs.lemmas.Grind.{flat_map-append}
use Rattle.protocol.specs.Lists.{IsAmong}
use Rattle.rows_saved.specs.declared.rows.Rows.{Ghosts}
use Rattle.station.specs.declared.answer.Release.{Release}
use Rattle.station.specs.declared.station.Station.{Station}
use Rattle.folders.specs.Doings.{Doing, wrote_file, noted_gone, noted_before, moved_file}
use Rattle.folders.specs.Offers.{IsNameOf}
use Rattle.folders.specs.Written.{File}
use Rattle.folders.specs.declared.names.OfferKind.{OfferKind}
use Rattle.folders.specs.declared.leaving.Place.TheVariants.{Sent, Lost, Refused, Done}
use Rattle.run_command.specs.Lives.{among_behind, among_either, among_front, file_from, files_part, released_part}
use Rattle.run_command.specs.Minding.{onto}
use Rattle.run_command.specs.ReleaseFiles.{filing}
use Rattle.run_command.specs.Standing.{Texts}
use Rattle.run_command.specs.Story.{did, event_in, events_of, file_in, files_of_story, stored_of, AreAllOut, AreOutIfReleased, IsBehindRelease, IsInOrder, IsOut, IsReleasedIn, MayHappen}
use Rattle.run_command.specs.Story.{Happened as Run}
use Rattle.driver.specs.Events.{Event, asked, took, stored, aside, waiting_behind}
use Rattle.days.specs.Handing.{runs}
use Rattle.process_days.specs.Telling.{HasLog}
use Rattle.process_days.specs.Cutting.{EndsStored, IsCut, StoresNone}
use Rattle.process_days.specs.Saved.{AnswersAreSaved, FilesAreSaved, HasDone, MovesAreSaved, NotesAreSaved, OldNotesAreSaved, SendsAreSaved, WasFiled, WasSaved}
use Rattle.process_days.proofs.Cutting.{events_onto, logs_are_cut, logs_have_prefixes, none_both, saves_are_stored, sent_none, stored_left, stored_same}

-- what happens in a story that is in order may happen there
in_order_at : (t : Texts) (past first : List Run) (x : Run) (rest : List Run) → IsInOrder t past (first ++ x ∷ rest) → MayHappen t (onto first past) x
in_order_at t past [] x rest p = p.0
in_order_at t past (y ∷ first) x rest p = in_order_at t (y ∷ past) first x rest p.1

-- a file that was written in what is told was written in it, or before
from_files : (story past : List Run) (f : File) → IsAmong (files_of_story (onto story past)) f → IsAmong (files_of_story story) f ⊎ IsAmong (files_of_story past) f
from_files [] past f i = inr i
from_files (x ∷ story) past f i = elim (from_files story (x ∷ past) f i) [
  | inl k ↦ inl (among_behind (file_in x) (files_of_story story) f k)
  | inr k ↦ elim (among_either (file_in x) (files_of_story past) f k) [
    | inl here ↦ inl (among_front (file_in x) (files_of_story story) f here)
    | inr there ↦ inr there
  ]
]

-- what happened is told, the latest first
to_onto : {A : Type 0} (xs past : List A) (x : A) → IsAmong xs x ⊎ IsAmong past x → IsAmong (onto xs past) x
to_onto [] past x (inl none) = absurd none
to_onto [] past x (inr i) = i
to_onto (y ∷ xs) past x (inl (inl e)) = to_onto xs (y ∷ past) x (inr (inl e))
to_onto (y ∷ xs) past x (inl (inr i)) = to_onto xs (y ∷ past) x (inl i)
to_onto (y ∷ xs) past x (inr i) = to_onto xs (y ∷ past) x (inr (inr i))

released_onto : (first : List Run) (r : Release) → IsReleasedIn (events_of first) r → IsReleasedIn (events_of (onto first [])) r
released_onto first r it =
    released_part (events_of first) (events_of (onto first [])) r
    (λ x i. subst (λ (l : List Event). IsAmong l x) (sym (events_onto first [])) (to_onto (events_of first) [] x (inl i))) it

module _ {R : Type 0} (g : Ghosts R) (is_settled : R → Type 0) where
  -- what is sent in an event is sent at a save
  pub sends_are_saved : SendsAreSaved g is_settled
  sends_are_saved s last before rest (asked moment) it some = absurd (some (sent_none (waiting_behind [] before) (asked moment ∷ []) tt))
  sends_are_saved s last before rest (aside what) it some = absurd (some (sent_none (waiting_behind [] before) (aside what ∷ []) tt))
  sends_are_saved s last before rest (took call answer) it some = absurd (some (sent_none (waiting_behind [] before) (took call answer ∷ []) tt))
  sends_are_saved s last before rest (stored (Err refusal)) it some = absurd (some (sent_none (waiting_behind [] before) (stored (Err refusal) ∷ []) tt))
  sends_are_saved s last before rest (stored (Ok unit)) it some =
      let save : List Event = stored (Ok tt) ∷ [] in
      let whole : HasLog g is_settled (runs s) last ((before ++ save) ++ rest) =
      subst (λ (l : List Event). HasLog g is_settled (runs s) last l) (sym (append_assoc before save rest)) it in
      let both = logs_have_prefixes g is_settled s last (before ++ save) rest whole in
      (refl, both.0, both.1, (saves_are_stored g is_settled s both.0 before both.1).0)

  -- the events of a story by a moment at which some save is stored begin with such as end at a save
  module _ (s last : Station R) (first : List Run) (more : List Event) where
    abbrev Found : List Event → Type 0
    Found kept = WasSaved g is_settled s (events_of first) kept × ((y : Event) → IsAmong (stored_of (events_of (onto first []))) y → IsAmong kept y)

    saved_in :
        (kept lost : List Event) → IsCut (events_of first) kept lost → EndsStored kept → HasLog g is_settled (runs s) last (events_of first ++ more)
        → (x : Event) → IsAmong (stored_of (events_of (onto first []))) x → (kept : List Event) × Found kept
    saved_in kept lost c (inl none) it x i =
        let all : StoresNone (events_of first) = subst StoresNone (sym c.joined) (none_both kept lost (subst StoresNone (sym none) tt) c.none) in
        let empty : stored_of (events_of (onto first [])) ≡ [] = ap stored_of (events_onto first []) ∙ stored_same (events_of first) [] all in
        absurd (subst (λ (l : List Event). IsAmong l x) empty i)
    saved_in kept lost c (inr save) it x i =
        let whole : HasLog g is_settled (runs s) last (kept ++ (lost ++ more)) =
        subst (λ (l : List Event). HasLog g is_settled (runs s) last l) (ap (λ (l : List Event). l ++ more) c.joined ∙ append_assoc kept lost more) it in
        let both = logs_have_prefixes g is_settled s last kept (lost ++ more) whole in
        let ended : HasLog g is_settled (runs s) both.0 (save.0 ++ stored (Ok tt) ∷ []) =
        subst (λ (l : List Event). HasLog g is_settled (runs s) both.0 l) save.1 both.1 in (
          kept,
          (
            record { more = lost; joined = c.joined; save = save; mid = both.0; took = both.1; rests = (saves_are_stored g is_settled s both.0 save.0 ended).0 },
            stored_left first kept lost c,
          ),
        )

    saved_at : HasLog g is_settled (runs s) last (events_of first ++ more) → (x : Event) → IsAmong (stored_of (events_of (onto first []))) x → (kept : List Event) × Found kept
    saved_at it x i = let cut = logs_are_cut (events_of first) in saved_in cut.0 cut.1 cut.2 cut.3 it x i

  -- the log of a story that goes on
  log_at : (s : Station R) (first : List Run) (d : Doing) (it : HasDone g is_settled s first d)
      → HasLog g is_settled (runs s) it.last (events_of first ++ events_of (did d ∷ it.rest))
  log_at s first d it = subst (λ (l : List Event). HasLog g is_settled (runs s) it.last l) (flat_map-append event_in first (did d ∷ it.rest)) it.log

  -- a number that is out at that moment was saved and filed by then
  filed_by : (s : Station R) (first : List Run) (d : Doing) (n : ℕ) → HasDone g is_settled s first d → IsOut (onto first []) n → WasFiled g is_settled s first n
  filed_by s first d n it out =
      let past = stored_of (events_of (onto first [])) in
      let at = saved_at s it.last first (events_of (did d ∷ it.rest)) (log_at s first d it) (took out.released.call (Ok out.released.answer)) out.released.among in
      record {
        release = out.release;
        number = out.number;
        kept = at.0;
        saved = at.1.0;
        released = released_part past at.0 out.release at.1.1 out.released;
        written = λ f k. elim (from_files first [] f (out.written f k)) [ inl here ↦ here | inr none ↦ absurd none ];
      }

  -- so was the number of a file that may be moved for it
  filed_behind : (s : Station R) (first : List Run) (d : Doing) (name : List ℕ) → HasDone g is_settled s first d → IsBehindRelease (onto first []) name
      → (n : ℕ) × (kind : OfferKind) × IsNameOf name n kind × WasFiled g is_settled s first n
  filed_behind s first d name it may = (
    may.release.number,
    may.kind,
    may.named,
    filed_by s first d may.release.number it (record { release = may.release; number = refl; released = may.released; written = may.written }),
  )

  pub files_are_saved : FilesAreSaved g is_settled
  files_are_saved s first f it =
      let past = stored_of (events_of (onto first [])) in
      let may : IsAmong (flat_map filing past) f = in_order_at it.texts [] first (did (wrote_file f)) it.rest it.ordered in
      let from = file_from past f may in
      let at = saved_at s it.last first (events_of (did (wrote_file f) ∷ it.rest)) (log_at s first (wrote_file f) it) from.0 from.1 in
      (at.0, at.1.0, files_part past at.0 at.1.1 f may)

  pub notes_are_saved : NotesAreSaved g is_settled
  notes_are_saved s first numbers n it i =
      let may : (k : ℕ) → IsAmong numbers k → IsOut (onto first []) k = in_order_at it.texts [] first (did (noted_gone numbers)) it.rest it.ordered in
      filed_by s first (noted_gone numbers) n it (may n i)

  pub old_notes_are_saved : OldNotesAreSaved g is_settled
  old_notes_are_saved s first numbers r it released i =
      let may : AreOutIfReleased (onto first []) numbers = in_order_at it.texts [] first (did (noted_before numbers)) it.rest it.ordered in
      filed_by s first (noted_before numbers) r.number it (may r (released_onto first r released) i)

  pub moves_are_saved : MovesAreSaved g is_settled
  moves_are_saved s first name Sent it for_release =
      let may : IsBehindRelease (onto first []) name = in_order_at it.texts [] first (did (moved_file name Sent)) it.rest it.ordered in
      filed_behind s first (moved_file name Sent) name it may
  moves_are_saved s first name Lost it for_release =
      let may : IsBehindRelease (onto first []) name = in_order_at it.texts [] first (did (moved_file name Lost)) it.rest it.ordered in
      filed_behind s first (moved_file name Lost) name it may
  moves_are_saved s first name Refused it for_release = absurd for_release
  moves_are_saved s first name Done it for_release = absurd for_release

  pub answers_are_saved : AnswersAreSaved g is_settled
  answers_are_saved s first name r it released =
      let may : AreAllOut (onto first []) = in_order_at it.texts [] first (did (moved_file name Done)) it.rest it.ordered in
      filed_by s first (moved_file name Done) r.number it (may r (released_onto first r released))
