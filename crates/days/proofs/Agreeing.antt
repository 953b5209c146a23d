-- The days of a circuit's processes are agreed: each leads to a history of the circuit.
use Rattle.std.proofs.Common.{◌≡◌, ℕ, inl, inr, refl, sym, ap, subst, ◌∙◌, List, [], Option, Result, Ok, Err, IfOk}
use Rattle.protocol.specs.Ballots.{IsMember}
use Rattle.protocol.specs.Versions.{Version}
use Rattle.protocol.specs.Refusals.{Call}
use Rattle.protocol.specs.Circuit.{fresh, starts}
use Rattle.rows_saved.specs.declared.rows.Rows.{Ghosts}
use Rattle.refusals.specs.declared.refusal.StepRefusal.{StepRefusal}
use Rattle.refusals.specs.declared.refusal.StepRefusal.TheVariants.{Stopped}
use Rattle.station.specs.declared.answer.Answer.{Answer}
use Rattle.station.specs.declared.answer.Release.{Release}
use Rattle.station.specs.declared.station.Station.{Station}
use Rattle.station.specs.Readiness.{IsNumber, IsNumbered}
use Rattle.world.specs.Laws.{CircuitsExist, StationsAgree}
use Rattle.world.specs.Setups.{StationCircuit, StationState}
use Rattle.days.specs.Happening.{Happened, did, ended, began, Releases, WasReleased}
use Rattle.days.specs.Handing.{Plants, Begins, HasNoRow, Member, runs, over}
use Rattle.days.specs.Days.{Day, dawns, answers, settles, refuses, ends, begins, IsDayAgreed, OfferedFirst, DaysAgree}
use Rattle.days.proofs.Showing.{IsOf, Shows, same_state}
use Rattle.days.proofs.Standing.{ShowsMember, Stands, was_either}
use Rattle.days.proofs.Answering.{stands_answered, stands_refused}
use Rattle.days.proofs.Settling.{stands_settled}
use Rattle.days.proofs.Beginning.{stands_ended, stands_begun}

abbrev version_of : {R : Type 0} → Ghosts R → Member R → Version
version_of g (runs s) = g.version s.rows
version_of g (over ending s) = g.version s.rows

dawned :
    {R : Type 0} (g : Ghosts R) (p : Plants) (z : StationCircuit) (at : ℕ → Member R)
    → ((m : ℕ) → IsMember p.count m → (s : Station R) × (at m ≡ runs s) × Begins g p m s × HasNoRow g s) → Stands g p z [] at
dawned {R = R} g p z at first = record {
  w = first_state;
  history = starts versions (same_state first_state);
  each = λ m member. let f = first m member in subst (λ (u : Member R). ShowsMember g p [] first_state m u) (sym f.1) (shows m f.0 f.1 f.2 f.3);
  sent = λ m bytes it. absurd it.1;
  offers = λ x i. absurd i;
  releases = λ m r it. absurd it.1;
  set = λ m r it. absurd it.1;
}
  where
    versions : ℕ → Version
    versions m = version_of g (at m)

    first_state : StationState
    first_state = fresh versions

    shows : (m : ℕ) (s : Station R) → at m ≡ runs s → Begins g p m s → HasNoRow g s → Shows g p first_state m s
    shows m s is new none =
        let version : g.version s.rows ≡ version_of g (at m) = sym (ap (λ (u : Member R). version_of g u) is) in
        record {
          circuit = new.circuit;
          members = new.members;
          me = new.me;
          table = new.table;
          widths = new.widths;
          wire = new.wire ∙ version;
          version = version;
          rows = none;
          marks = new.stands_for;
          goes = new.goes;
          goes_on = refl;
          unarmed = refl;
        }

stands : {R : Type 0} (g : Ghosts R) (p : Plants) (z : StationCircuit) (is : IsOf p z) (day : List Happened) (at : ℕ → Member R) → Day g p day at → Stands g p z day at
stands g p z is day at (dawns first_at first) = dawned g p z first_at first
stands g p z is day at (answers {day = before} {at = was} d m call old new answer member here came kept step) =
    stands_answered g p z is before was (stands g p z is before was d) m call old new answer member here came kept step
stands g p z is day at (settles {at = was} d m old new member here kept reads) =
    stands_settled g p z day was (stands g p z is day was d) m old new member here kept reads
stands g p z is day at (refuses {day = before} {at = was} d m call ending last member here) = stands_refused g p z is before was (stands g p z is before was d) m call
stands g p z is day at (ends {day = before} {at = was} d m ending last member here came) =
    stands_ended g p z is before was (stands g p z is before was d) m ending last member here came
stands g p z is day at (begins {day = before} {at = was} d m ending last next member here hands new) =
    stands_begun g p z is before was (stands g p z is before was d) m ending last next member here hands new

-- what an answer releases has a number
by_answer : (call : Call) (answer : Result Answer StepRefusal) (m k : ℕ) (r : Release) → IfOk answer (λ a. IsNumbered a.release) → Releases m r (did k call answer) → IsNumber r.number
by_answer call (Ok a) m k r numbered it = subst (λ (o : Option Release). IsNumbered o) it.1 numbered
by_answer call (Err refusal) m k r numbered it = absurd it

numbered : {R : Type 0} (g : Ghosts R) (p : Plants) (day : List Happened) (at : ℕ → Member R) → Day g p day at → (m : ℕ) (r : Release) → WasReleased day m r → IsNumber r.number
numbered g p day at (dawns first_at first) m r it = absurd it.1
numbered g p day at (answers {day = before} {at = was} d k call old new answer member here came kept step) m r it =
    elim (was_either (did k call answer) before (Releases m r) it) [ inl last ↦ by_answer call answer m k r step.numbered last | inr was_so ↦ numbered g p before was d m r was_so ]
numbered g p day at (settles {at = was} d k old new member here kept reads) m r it = numbered g p day was d m r it
numbered g p day at (refuses {day = before} {at = was} d k call ending last member here) m r it =
    elim (was_either (did k call (Err Stopped)) before (Releases m r) it) [ inl now ↦ absurd now | inr was_so ↦ numbered g p before was d m r was_so ]
numbered g p day at (ends {day = before} {at = was} d k ending last member here came) m r it =
    elim (was_either (ended k ending) before (Releases m r) it) [ inl now ↦ absurd now | inr was_so ↦ numbered g p before was d m r was_so ]
numbered g p day at (begins {day = before} {at = was} d k ending last next member here hands new) m r it =
    elim (was_either (began k) before (Releases m r) it) [ inl now ↦ absurd now | inr was_so ↦ numbered g p before was d m r was_so ]

module _ (agree : StationsAgree) (exist : CircuitsExist) {R : Type 0} (g : Ghosts R) (p : Plants) where
  day_agrees : (day : List Happened) (at : ℕ → Member R) → Day g p day at → IsDayAgreed p day
  day_agrees day at d =
      let made = exist p.number p.count p.tables p.files in
      let z : StationCircuit = made.0 in
      let st : Stands g p z day at = stands g p z (record { number = made.1; count = made.2; set_up = made.3 }) day at d in
      let a = agree p.tables p.files z made.3 st.w st.history in
      record {
        one = λ j k r q x y same. let f = st.releases j r x in let s = st.releases k q y in a.one _ _ f.1 s.1 same;
        offered = λ m r x. let f = st.releases m r x in let o = a.offered _ f.1 in st.offers _ o.1;
        numbered = numbered g p day at d;
        set = λ m r x. st.set m r x;
      }

  offered_first : (day : List Happened) (at : ℕ → Member R) → Day g p day at → OfferedFirst day
  offered_first day at (dawns first_at first) = tt
  offered_first day at (answers {day = before} {at = was} d m call old new answer member here came kept step) =
      (λ k r it. (day_agrees _ _ (answers d m call old new answer member here came kept step)).offered k r (_, inl refl, it), offered_first before was d)
  offered_first day at (settles {at = was} d m old new member here kept reads) = offered_first day was d
  offered_first day at (refuses {day = before} {at = was} d m call ending last member here) =
      (λ k r it. absurd it, offered_first before was d)
  offered_first day at (ends {day = before} {at = was} d m ending last member here came) =
      (λ k r it. absurd it, offered_first before was d)
  offered_first day at (begins {day = before} {at = was} d m ending last next member here hands new) =
      (λ k r it. absurd it, offered_first before was d)

pub days_agree : StationsAgree → CircuitsExist → {R : Type 0} (g : Ghosts R) → DaysAgree g
days_agree agree exist g p day at d = (day_agrees agree exist g p day at d, offered_first agree exist g p day at d)
