-- The files of what is released.
use Rattle.std.proofs.Common.{◌≡◌, ◌++◌, ◌∙◌, ◌⊎◌, ℕ, inl, inr, List, [], ◌∷◌, Option, Some, None, Result, Ok, Err, refl, sym, ap, subst, arith, get_or}
use Rattle.std.specs.Prelude.{codes, flat_map, ◌==◌, Bool, true, false, if◌then◌else◌}
use Rattle.std.proofs.lemmas.Bool.{eqb-true}
use Rattle.std.proofs.lemmas.List.{append_cancel_left}
use Rattle.protocol.specs.Lists.{IsAmong}
use Rattle.protocol.specs.Entries.{Entry, Void, Taped}
use Rattle.protocol.specs.Refusals.{Call}
use Rattle.rows_saved.specs.declared.rows.Rows.{Ghosts}
use Rattle.tape_frames.specs.Entries.{owned_entry}
use Rattle.line_check.specs.declared.slug.Slug.{Slug}
use Rattle.line_check.specs.declared.fault.SetFault.{SetFault}
use Rattle.refusals.specs.declared.refusal.StepRefusal.{StepRefusal}
use Rattle.station.specs.declared.answer.Answer.{Answer}
use Rattle.station.specs.declared.answer.Release.{Release}
use Rattle.station.specs.Readiness.{slugs_of, IsNumber}
use Rattle.folders.specs.Doings.{Doing, saw_file, read_file, wrote_file, noted_gone, noted_before, moved_file, removed_file}
use Rattle.folders.specs.Written.{File}
use Rattle.run_command.specs.ReleaseFiles.{entry_files, files_of, filing, release_files}
use Rattle.driver.specs.Events.{Event, asked, took, stored, aside}
use Rattle.run_command.specs.Story.{stepped, events_of, doings_of, files_of_story}
use Rattle.run_command.specs.Story.{Happened as Run}
use Rattle.run_command.specs.Story.{did as done}
use Rattle.days.specs.Happening.{Happened, did, Releases, WasReleased}
use Rattle.days.specs.Days.{DaysAgree}
use Rattle.process_days.specs.Telling.{Order, log_of, day_stored, day_with, day_after}
use Rattle.process_days.specs.Seeing.{IsFiled, IsCalled, DaysFilesAgree, WrittenIsFiled}
use Rattle.process_days.proofs.Names.{one_name}
use Rattle.process_days.proofs.Storing.{stored_stays}

-- the kinds of files differ in their first letters
void_tape : codes "void" ≡ codes "tape" → ⊥
void_tape e = let first : 118 ≡ 116 = ap (λ (l : List ℕ). get_or l 0 0) e in omega (arith, first)

galley_tape : codes "galley" ≡ codes "tape" → ⊥
galley_tape e = let first : 103 ≡ 116 = ap (λ (l : List ℕ). get_or l 0 0) e in omega (arith, first)

tape_void : codes "tape" ≡ codes "void" → ⊥
tape_void e = let first : 116 ≡ 118 = ap (λ (l : List ℕ). get_or l 0 0) e in omega (arith, first)

galley_void : codes "galley" ≡ codes "void" → ⊥
galley_void e = let first : 103 ≡ 118 = ap (λ (l : List ℕ). get_or l 0 0) e in omega (arith, first)

-- a file of an entry that is called `12.tape` holds a tape that was released under 12
record IsOfTape (m n : ℕ) (entry : Entry) (f : File) : Type 0 where
  same : m ≡ n
  is : entry ≡ Taped f.bytes

is_of_tape :
    (m n : ℕ) (entry : Entry) (set : Result (List Slug) SetFault) (f : File) → IsNumber m → IsNumber n
    → IsAmong (entry_files m entry set) f → IsCalled n (codes ".tape") f → IsOfTape m n entry f
is_of_tape m n Void set f p q (inl e) named =
    let both = one_name m n (codes "void") (codes "tape") p q (sym (ap (λ (h : File). h.name) e) ∙ named) in absurd (void_tape both.1)
is_of_tape m n Void set f p q (inr none) named = absurd none
is_of_tape m n (Taped tape) set f p q (inl e) named =
    let both = one_name m n (codes "tape") (codes "tape") p q (sym (ap (λ (h : File). h.name) e) ∙ named) in
    record { same = both.0; is = ap Taped (sym (ap (λ (h : File). h.bytes) e)) }
is_of_tape m n (Taped tape) set f p q (inr (inl e)) named =
    let both = one_name m n (codes "galley") (codes "tape") p q (sym (ap (λ (h : File). h.name) e) ∙ named) in absurd (galley_tape both.1)
is_of_tape m n (Taped tape) set f p q (inr (inr none)) named = absurd none

-- one that is called `12.void` is of a withdrawal of 12
record IsOfVoid (m n : ℕ) (entry : Entry) : Type 0 where
  same : m ≡ n
  is : entry ≡ Void

is_of_void :
    (m n : ℕ) (entry : Entry) (set : Result (List Slug) SetFault) (f : File) → IsNumber m → IsNumber n
    → IsAmong (entry_files m entry set) f → IsCalled n (codes ".void") f → IsOfVoid m n entry
is_of_void m n Void set f p q (inl e) named =
    let both = one_name m n (codes "void") (codes "void") p q (sym (ap (λ (h : File). h.name) e) ∙ named) in record { same = both.0; is = refl }
is_of_void m n Void set f p q (inr none) named = absurd none
is_of_void m n (Taped tape) set f p q (inl e) named =
    let both = one_name m n (codes "tape") (codes "void") p q (sym (ap (λ (h : File). h.name) e) ∙ named) in absurd (tape_void both.1)
is_of_void m n (Taped tape) set f p q (inr (inl e)) named =
    let both = one_name m n (codes "galley") (codes "void") p q (sym (ap (λ (h : File). h.name) e) ∙ named) in absurd (galley_void both.1)
is_of_void m n (Taped tape) set f p q (inr (inr none)) named = absurd none

bytes_of : (a b : List ℕ) → Taped a ≡ Taped b → a ≡ b
bytes_of a b e = cc

not_both : (a : List ℕ) → Taped a ≡ Void → ⊥
not_both a e = cc

pub files_agree : {R : Type 0} (g : Ghosts R) → DaysAgree g → DaysFilesAgree g
files_agree g days p day at d =
    let a = (days p day at d).0 in
    record {
      tapes = λ j k n f h is x y called other.
          let r = x.0 in
          let q = y.0 in
          let one = is_of_tape r.number n (owned_entry r.entry) (slugs_of r.set) f (a.numbered j r x.1) is x.2 called in
          let two = is_of_tape q.number n (owned_entry q.entry) (slugs_of q.set) h (a.numbered k q y.1) is y.2 other in
          let same = a.one j k r q x.1 y.1 (one.same ∙ sym two.same) in
          bytes_of f.bytes h.bytes (sym one.is ∙ same ∙ two.is);
      voids = λ j k n f h is x y called other.
          let r = x.0 in
          let q = y.0 in
          let one = is_of_tape r.number n (owned_entry r.entry) (slugs_of r.set) f (a.numbered j r x.1) is x.2 called in
          let two = is_of_void q.number n (owned_entry q.entry) (slugs_of q.set) h (a.numbered k q y.1) is y.2 other in
          let same = a.one j k r q x.1 y.1 (one.same ∙ sym two.same) in
          not_both f.bytes (sym one.is ∙ same ∙ two.is);
    }

-- what was written in a story
pub written_in : (story : List Run) (f : File) → IsAmong (doings_of story) (wrote_file f) → IsAmong (files_of_story story) f
written_in [] f i = absurd i
written_in (stepped e ∷ story) f i = written_in story f i
written_in (done (saw_file name) ∷ story) f (inl e) = absurd cc
written_in (done (saw_file name) ∷ story) f (inr i) = written_in story f i
written_in (done (read_file g) ∷ story) f (inl e) = absurd cc
written_in (done (read_file g) ∷ story) f (inr i) = written_in story f i
written_in (done (wrote_file g) ∷ story) f (inl e) = inl cc
written_in (done (wrote_file g) ∷ story) f (inr i) = inr (written_in story f i)
written_in (done (noted_gone numbers) ∷ story) f (inl e) = absurd cc
written_in (done (noted_gone numbers) ∷ story) f (inr i) = written_in story f i
written_in (done (noted_before numbers) ∷ story) f (inl e) = absurd cc
written_in (done (noted_before numbers) ∷ story) f (inr i) = written_in story f i
written_in (done (moved_file name to) ∷ story) f (inl e) = absurd cc
written_in (done (moved_file name to) ∷ story) f (inr i) = written_in story f i
written_in (done (removed_file name) ∷ story) f (inl e) = absurd cc
written_in (done (removed_file name) ∷ story) f (inr i) = written_in story f i

among_front : {A : Type 0} (xs ys : List A) (x : A) → IsAmong xs x → IsAmong (xs ++ ys) x
among_front [] ys x i = absurd i
among_front (y ∷ xs) ys x (inl e) = inl e
among_front (y ∷ xs) ys x (inr i) = inr (among_front xs ys x i)

among_either : {A : Type 0} (xs ys : List A) (x : A) → IsAmong (xs ++ ys) x → IsAmong xs x ⊎ IsAmong ys x
among_either [] ys x i = inr i
among_either (y ∷ xs) ys x (inl e) = inl (inl e)
among_either (y ∷ xs) ys x (inr i) = elim (among_either xs ys x i) [ inl k ↦ inl (inr k) | inr k ↦ inr k ]

-- what was filed stays so
stays : (order : Order) (day : List Happened) (m : ℕ) (r : Release) → WasReleased day m r → WasReleased (day_after day order) m r
stays [] day m r it = it
stays ((k, asked moment) ∷ rest) day m r it = stays rest day m r it
stays ((k, aside what) ∷ rest) day m r it = stays rest day m r it
stays ((k, took call answer) ∷ rest) day m r it = stays rest (did k call answer ∷ day) m r (it.0, inr it.1, it.2)
stays ((k, stored answer) ∷ rest) day m r it = stays rest (day_stored k answer day) m r (stored_stays (Releases m r) k answer day it)

-- a file of an answer is one of what it releases
filed_by : (o : Option Release) (f : File) → IsAmong (files_of o) f → (r : Release) × (o ≡ Some r) × IsAmong (release_files r) f
filed_by None f i = absurd i
filed_by (Some r) f i = (r, refl, i)

answered :
    (m : ℕ) (call : Call) (answer : Result Answer StepRefusal) (day : List Happened) (f : File)
    → IsAmong (filing (took call answer)) f → IsFiled (did m call answer ∷ day) m f
answered m call (Ok a) day f i = let it = filed_by a.release f i in (it.0, (did m call (Ok a), inl refl, (refl, it.1)), it.2)
answered m call (Err refusal) day f i = absurd i

module _ (k : ℕ) (e : Event) (rest : Order) (day : List Happened) (m : ℕ) (f : File) where
  now_filed : (event : Event) → IsAmong (filing event) f → IsFiled (day_with k event day) k f
  now_filed (asked moment) i = absurd i
  now_filed (aside what) i = absurd i
  now_filed (took call answer) i = answered k call answer day f i
  now_filed (stored answer) i = absurd i

  -- of an event, or of one behind it
  filed_either :
      (b : Bool) → (k == m) ≡ b → (IsAmong (flat_map filing (log_of m rest)) f → IsFiled (day_after (day_with k e day) rest) m f)
      → IsAmong (flat_map filing (if b then e ∷ log_of m rest else log_of m rest)) f → IsFiled (day_after (day_with k e day) rest) m f
  filed_either true same later i = elim (among_either (filing e) (flat_map filing (log_of m rest)) f i) [
    | inl here ↦
        (let was = now_filed e here in (was.0, stays rest (day_with k e day) m was.0 (subst (λ (j : ℕ). WasReleased (day_with k e day) j was.0) (eqb-true k m same) was.1), was.2))
    | inr behind ↦ later behind
  ]
  filed_either false far later i = later i

pub filed : (order : Order) (day : List Happened) (m : ℕ) (f : File) → IsAmong (flat_map filing (log_of m order)) f → IsFiled (day_after day order) m f
filed [] day m f i = absurd i
filed ((k, e) ∷ rest) day m f i = filed_either k e rest day m f (k == m) refl (λ j. filed rest (day_with k e day) m f j) i

pub written_is_filed : WrittenIsFiled
written_is_filed day order m story None after f is does front written = absurd written
written_is_filed day order m story (Some old) None f is does front written = absurd written
written_is_filed day order m story (Some old) (Some new) f is does front written =
    let same : written.0 ≡ doings_of story = append_cancel_left old written.0 (doings_of story) (sym written.1 ∙ does) in
    let i : IsAmong (files_of_story story) f = written_in story f (subst (λ (l : List Doing). IsAmong l (wrote_file f)) same written.2) in
    let j : IsAmong (flat_map filing (events_of story)) f =
    subst (λ (l : List File). IsAmong l f) (sym front.1) (among_front (files_of_story story) front.0 f i) in
    filed order day m f (subst (λ (l : List Event). IsAmong (flat_map filing l) f) is j)
