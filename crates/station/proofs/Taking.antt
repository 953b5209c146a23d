-- A station that took a turn, and saved its row or was refused to.
use Rattle.std.proofs.Common.{◌≡◌, ℕ, ◌⊎◌, inl, inr, refl, sym, ap, subst, ◌∙◌, List, [], Option, Some, None, Bool, true, false}
use Rattle.std.specs.Prelude.{Result, Ok, Err, ◌==◌}
use Rattle.std.specs.List.{AllZip}
use Rattle.std.proofs.lemmas.Bool.{eqb-true}
use Rattle.protocol.specs.Entries.{Entry}
use Rattle.protocol.specs.Rows.{Row}
use Rattle.protocol.specs.Packets.{Packet}
use Rattle.protocol.specs.Versions.{Version}
use Rattle.protocol.specs.Marks.{Mark}
use Rattle.protocol.specs.Turn as said
use Rattle.rows_saved.specs.Saved.{Saved, SameRows, WithRow, with_row}
use Rattle.rows_saved.specs.declared.fault.RowsFault.{RowsFault}
use Rattle.node_core.specs.Standing.{StandsFor, IsSameSeat, seat_of}
use Rattle.node_core.specs.Turns.{event_value, note_value, is_quiet, Stirs, HandsNothing, IsTurn, IsRowAfter}
use Rattle.node_core.specs.declared.event.Event.{Event}
use Rattle.node_core.specs.declared.turn.Turn.{Turn}
use Rattle.node_core.specs.Calls.{MayTakeMemory}
use Rattle.station.specs.declared.answer.Answer.{Answer}
use Rattle.station.specs.declared.station.Station.{Station}
use Rattle.refusals.specs.declared.refusal.StepRefusal.{StepRefusal}
use Rattle.refusals.specs.declared.refusal.StepRefusal.TheVariants.{Stopped, BadDatagram, WrongCircuit, NotForMe, Stranger, BadNumber, NoSuchMember, AlreadyReleased, AlreadyOpen, WireTooOld, TapeFaulty, RoundsSpent, Store, OutOfMemory}
use Rattle.station.specs.Speaking.{Speaking}
use Rattle.station.specs.Stations.{Sight, IsFixed}
use Rattle.station.specs.Readiness.{Carries, IsReleased, RowSaved, RowBalked, Saves}
use Rattle.station.specs.Steps.{WasRead, WasSaved, turn_of, Done, AtSave, Ends}

-- the row that it has, saved once more
with_row-self : (rows : Saved) (n k : ℕ) → with_row rows n (rows n) k ≡ rows k
with_row-self rows n k = go (k == n) refl
  where
    go : (b : Bool) → (k == n) ≡ b → with_row rows n (rows n) k ≡ rows k
    go true e = rw e (ap rows (sym (eqb-true k n e)))
    go false e = rw e refl

-- a save beside equal rows
with_row-same : (rows others : Saved) (n : ℕ) (row : Row) → SameRows rows others → (k : ℕ) → with_row others n row k ≡ with_row rows n row k
with_row-same rows others n row same k = λ i. with_row (λ j. same j i) n row k

some_is : {t u : said.Turn} → Some t ≡ Some u → t ≡ u
some_is e = cc

-- the turn that memory was refused to, at the row that was read
pub refused_stirs :
    {R : Type 0} (x : Sight R) (event : Event) (s : Station R) (marks : List Mark) (row : Row) (n : ℕ) → said.number_of (event_value event) ≡ n → row ≡ x.saved s.rows n
    → MayTakeMemory s.speaker.core event marks row → (t : said.Turn) → turn_of x s marks (event_value event) ≡ Some t → Stirs t
refused_stirs x event s marks row n number is h t e =
    let here = subst (λ (r : Row). said.turn (seat_of s.speaker.core) marks r (event_value event) ≡ Some h.turn) (is ∙ ap (x.saved s.rows) (sym number)) h.is_the_turn in
    subst Stirs (some_is (sym here ∙ e)) h.holds

-- a station whose core wanted memory
pub wanted :
    {R : Type 0} (x : Sight R) (event : Event) (old after : Station R) (marks : List Mark) (mid : R) (speaker : Speaking) (row : Row) (n : ℕ) (q : StepRefusal)
    → q ≡ OutOfMemory → IsSameSeat old.speaker.core speaker.core → IsFixed (record old { rows = mid; speaker = speaker }) after → after ≡ record old { rows = mid; speaker = after.speaker; stopped = true } → StandsFor after.speaker.core []
    → WasRead x old.rows mid → said.number_of (event_value event) ≡ n → row ≡ x.saved old.rows n → MayTakeMemory old.speaker.core event marks row → Ends x (event_value event) old after marks (Err q)
wanted {R = R} x event old after marks mid speaker row n q same seat f is none read number its_row h =
    subst (λ (t : StepRefusal). Ends x (event_value event) old after marks (Err t)) (sym same) (record {
      fixed = record { circuit = f.circuit ∙ seat.circuit; members = f.members ∙ seat.members; me = f.me ∙ seat.me; table = f.table; widths = f.widths };
      stops = ap (λ (t : Station R). t.stopped) is;
      stands_for = none;
      rows = inr (subst (λ (r : R). WasRead x old.rows r) (sym (ap (λ (t : Station R). t.rows) is)) read);
      stirs = refused_stirs x event old marks row n number its_row h;
    })

-- what is known of a station whose core took a turn of the row that was read
pub record Taking {R : Type 0} (x : Sight R) (e : said.Event) (old : Station R) (marks : List Mark) (mid : R) (speaker : Speaking) (move : Turn) (row : Row) (n : ℕ) : Type 0 where
  pub number : said.number_of e ≡ n
  pub goes : old.stopped ≡ false
  pub read : WasRead x old.rows mid
  pub is_open : x.is_open mid
  pub is_row : row ≡ x.saved old.rows n
  pub taken : said.Turn
  pub is_turn : said.turn (seat_of old.speaker.core) marks row e ≡ Some taken
  pub gives : IsTurn row taken move
  pub quiet : is_quiet (note_value move.note) ≡ true → HandsNothing move
  pub stands : StandsFor speaker.core taken.marks
  pub seat : IsSameSeat old.speaker.core speaker.core
  pub version : x.version mid ≡ old.speaker.wire

module _ {R : Type 0} (x : Sight R) (e : said.Event) (old : Station R) (marks : List Mark) (mid new : R) (speaker : Speaking) (move : Turn) (row : Row) (n : ℕ) (k : Taking x e old marks mid speaker move row n) where
  is_its_row : row ≡ x.saved old.rows (said.number_of e)
  is_its_row = k.is_row ∙ ap (x.saved old.rows) (sym k.number)

  its_save : (r : Result Answer StepRefusal) → Saves x old.table old.widths n row move mid new r → Saves x old.table old.widths (said.number_of e) row move mid new r
  its_save r s = subst (λ (i : ℕ). Saves x old.table old.widths i row move mid new r) (sym k.number) s

  is_saved_turn : turn_of x old marks e ≡ Some k.taken
  is_saved_turn = subst (λ (r : Row). said.turn (seat_of old.speaker.core) marks r e ≡ Some k.taken) is_its_row k.is_turn

  saves_row :
      (o : Option Row) → IsRowAfter row k.taken.row o → RowSaved x (said.number_of e) o mid new
      → WithRow (x.saved old.rows) (said.number_of e) k.taken.row (x.saved new)
      × x.is_open new
      × ((x.alike old.rows new × (k.taken.row ≡ x.saved old.rows (said.number_of e))) ⊎ WasSaved x old.rows new)
  saves_row None l s =
      let same : k.taken.row ≡ x.saved old.rows (said.number_of e) = l ∙ is_its_row in (
        λ i. ap (λ (r : R). x.saved r i) s ∙ (k.read.same k.is_open i ∙ (sym (with_row-self (x.saved old.rows) (said.number_of e) i) ∙ ap (λ (r : Row). with_row (x.saved old.rows) (said.number_of e) r i) (sym same))),
        subst (λ (r : R). x.is_open r) (sym s) k.is_open,
        inl (subst (λ (r : R). x.alike old.rows r) (sym s) k.read.alike, same),
      )
  saves_row (Some r) l s = (
    λ i. s.3 i ∙ (with_row-same (x.saved old.rows) (x.saved mid) (said.number_of e) r (k.read.same k.is_open) i ∙ ap (λ (r : Row). with_row (x.saved old.rows) (said.number_of e) r i) (sym l.0)),
    s.1,
    inr (record { mid = mid; read = k.read; passes = s.0 }),
  )

  pub done : (a : Answer) → Saves x old.table old.widths n row move mid new (Ok a) → Done x e old (record old { rows = new; speaker = speaker }) marks a
  done a given =
      let s : Saves x old.table old.widths (said.number_of e) row move mid new (Ok a) = its_save (Ok a) given in
      let rows = saves_row move.row k.gives.row_after s.0 in
      record {
        taken = k.taken;
        is_turn = is_saved_turn;
        fixed = record { circuit = k.seat.circuit; members = k.seat.members; me = k.seat.me; table = refl; widths = refl };
        goes_on = k.goes;
        stands_for = k.stands;
        was_open = k.read.was_open k.is_open;
        is_open = rows.1;
        rows = rows.0;
        told = rows.2;
        out = subst (λ (v : Version). AllZip (Carries v) k.taken.out a.out.items) k.version (subst (λ (l : List Packet). AllZip (Carries (x.version mid)) l a.out.items) k.gives.out s.1);
        release = subst (λ (o : Option Entry). IsReleased old.table old.widths (said.number_of e) o a.release) k.gives.release s.2;
        note = ap note_value s.3 ∙ k.gives.note;
        number = s.4;
      }

  balked : (o : Option Row) (fault : RowsFault) → IsRowAfter row k.taken.row o → RowBalked x (said.number_of e) o fault mid new → AtSave x e old marks new fault
  balked None fault l s = absurd s
  balked (Some r) fault l s = record {
    taken = k.taken;
    is_turn = is_saved_turn;
    changes = λ same. l.1 (sym l.0 ∙ (same ∙ sym is_its_row));
    was_open = k.read.was_open k.is_open;
    balked = record {
      mid = mid;
      mid_open = k.is_open;
      read = k.read;
      was_open = s.1;
      tells = rw l.0 s.0;
      either = rw l.0 s.2;
      blames = s.3;
    };
  }

  -- where something is handed out, the turn is not quiet
  it_stirs : (HandsNothing move → ⊥) → (t : said.Turn) → turn_of x old marks e ≡ Some t → Stirs t
  it_stirs hands t is = let same : k.taken ≡ t = some_is (sym is_saved_turn ∙ is) in subst Stirs same (subst (λ (note : said.Note). is_quiet note ≡ false) k.gives.note (go (is_quiet (note_value move.note)) refl))
    where
      go : (q : Bool) → is_quiet (note_value move.note) ≡ q → is_quiet (note_value move.note) ≡ false
      go true h = absurd (hands (k.quiet h))
      go false h = h

  -- the station that stopped with this refusal
  torn :
      (after : Station R) (r : StepRefusal) → IsFixed old after → after.stopped ≡ true → StandsFor after.speaker.core [] → after.rows ≡ new
      → Saves x old.table old.widths (said.number_of e) row move mid new (Err r) → Ends x e old after marks (Err r)
  torn after (Store fault) fixed stops none rows s =
      record { fixed = fixed; stops = stops; stands_for = none; at = inr (subst (λ (q : R). AtSave x e old marks q fault) (sym rows) (balked move.row fault k.gives.row_after s)) }
  torn after OutOfMemory fixed stops none rows s =
      record { fixed = fixed; stops = stops; stands_for = none; rows = inr (subst (λ (q : R). WasRead x old.rows q) (sym (rows ∙ s.0)) k.read); stirs = it_stirs s.1 }
  torn after Stopped fixed stops none rows s = absurd s
  torn after (BadDatagram fault) fixed stops none rows s = absurd s
  torn after WrongCircuit fixed stops none rows s = absurd s
  torn after NotForMe fixed stops none rows s = absurd s
  torn after Stranger fixed stops none rows s = absurd s
  torn after BadNumber fixed stops none rows s = absurd s
  torn after NoSuchMember fixed stops none rows s = absurd s
  torn after AlreadyReleased fixed stops none rows s = absurd s
  torn after AlreadyOpen fixed stops none rows s = absurd s
  torn after WireTooOld fixed stops none rows s = absurd s
  torn after (TapeFaulty fault) fixed stops none rows s = absurd s
  torn after RoundsSpent fixed stops none rows s = absurd s

  -- the same, of a station that the code stopped
  pub ended :
      (before after : Station R) (r q : StepRefusal) → before ≡ record old { rows = new; speaker = speaker } → IsFixed before after
      → after ≡ record before { speaker = after.speaker; stopped = true } → q ≡ r → StandsFor after.speaker.core []
      → Saves x old.table old.widths n row move mid new (Err r) → Ends x e old after marks (Err q)
  ended before after r q was fixed is same none s =
      let f : IsFixed (record old { rows = new; speaker = speaker }) after = subst (λ (t : Station R). IsFixed t after) was fixed in
      subst (λ (t : StepRefusal). Ends x e old after marks (Err t)) (sym same)
      (torn after r
      (record { circuit = f.circuit ∙ k.seat.circuit; members = f.members ∙ k.seat.members; me = f.me ∙ k.seat.me; table = f.table; widths = f.widths })
      (ap (λ (t : Station R). t.stopped) is) none (ap (λ (t : Station R). t.rows) is ∙ ap (λ (t : Station R). t.rows) was) (its_save (Err r) s))

  -- what the save answered, handed out
  pub handed_on :
      (after : Station R) (r : Result Answer StepRefusal) (a : Answer) → r ≡ Ok a → after ≡ record old { rows = new; speaker = speaker }
      → Saves x old.table old.widths n row move mid new r → Ends x e old after marks (Ok a)
  handed_on after r a is same s =
      subst (λ (t : Station R). Done x e old t marks a) (sym same) (done a (subst (λ (q : Result Answer StepRefusal). Saves x old.table old.widths n row move mid new q) is s))

  -- the refusal of a save, of a station that the code stopped
  pub stopped_at :
      (before after : Station R) (r : Result Answer StepRefusal) (f q : StepRefusal) → r ≡ Err f → before ≡ record old { rows = new; speaker = speaker } → IsFixed before after
      → after ≡ record before { speaker = after.speaker; stopped = true } → q ≡ f → StandsFor after.speaker.core [] → Saves x old.table old.widths n row move mid new r → Ends x e old after marks (Err q)
  stopped_at before after r f q is was fixed stopped same none s =
      ended before after f q was fixed stopped same none (subst (λ (t : Result Answer StepRefusal). Saves x old.table old.widths n row move mid new t) is s)
