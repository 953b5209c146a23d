-- One step of a member on the way to a release, and what it leaves in each place.
use Rattle.std.proofs.Common.{◌≡◌, ℕ, ◌⊎◌, ◌≤◌, zero, suc, inl, inr, refl, sym, ap, subst, ◌∙◌, arith, List, [], ◌∷◌, ◌++◌, Option, Some, None, append_assoc, append-nil, Bool, true, false}
use Rattle.std.specs.Prelude.{◌==◌, ◌-◌, slice_get, Ok}
use Rattle.std.specs.List.{AllZip}
use Rattle.std.proofs.lemmas.Bool.{ne_eqb, eqb-true, eqb-false}
use Rattle.protocol.specs.Lists.{IsAmong}
use Rattle.protocol.specs.Ballots.{IsMember}
use Rattle.protocol.specs.Entries.{Entry}
use Rattle.protocol.specs.Rows.{Vote, Row, vote_for}
use Rattle.protocol.specs.Versions.{Version}
use Rattle.protocol.specs.Packets.{Packet}
use Rattle.protocol.specs.Marks.{Mark}
use Rattle.protocol.specs.Turn.{Event, Offered, Sought, Came_due, Arrived, Recalled, number_of, Turn, packet_turn, turn}
use Rattle.protocol.specs.Refusals.{Call, Receiving, packet_refusal, early_refusal, refusal, event_of}
use Rattle.protocol.specs.Circuit.{Circuit, hears, Datagram, Offer, Release, State, IsSameState, Step, Delivers, Restarts, Done, Torn_by_store, Restarted, Carries, Task, IsTask, datagram_at, delivery, seat_at, setup_of, with_at, saved, offers_with, releases_with, MayLeave, at_save, StepsTo, is_done, is_torn, restarts, History, goes_on}
use Rattle.protocol.specs.Agreement.{WasOffered}
use Rattle.protocol.specs.Fitting.{BodyFits, SpellsWhatFits}
use Rattle.protocol.specs.Progress.{is_there, takes_turn, starts_again, Leads, release_of, round_of, CanRelease, MaySay, SpellsWhatMayBeSaid}
use Rattle.protocol_laws.proofs.Places.{with_at-same, saved-same, among-append, among_left, among_right}
use Rattle.protocol_laws.proofs.Steps.{heard_here}
use Rattle.protocol_laws.proofs.Agreements.{votes_are_offered}
use Rattle.protocol_laws.proofs.Holding.{first_none, taken_fits, history_fits}
use Rattle.protocol_laws.proofs.Voters.{was_held}

pub same : {G F : Type 0} (w : State G F) → IsSameState w w
same w =
    record { version = λ m. refl; rows = λ m n. refl; marks = λ m. refl; is_stopped = λ m. refl; armed = λ m. refl; sent = refl; offers = refl; releases = refl }

-- what stands among datagrams has a place from 1
pub place_of : (ds : List Datagram) (d : Datagram) → IsAmong ds d → (k : ℕ) × (slice_get ds k ≡ Some d)
place_of [] d i = absurd i
place_of (y ∷ ds) d (inl e) = (zero, ap Some (sym e))
place_of (y ∷ ds) d (inr i) = let (k, e) = place_of ds d i in (suc k, e)

pub datagram_place : (ds : List Datagram) (d : Datagram) → IsAmong ds d → (k : ℕ) × (datagram_at ds k ≡ Some d)
datagram_place ds d i =
    let (k, e) = place_of ds d i in
    let f : (suc k == 0) ≡ false = ne_eqb (suc k) 0 (λ q. omega arith) in
    let g : suc k - 1 ≡ k = omega arith in
    (suc k, rw (f, g) e)

-- of each packet there is a datagram that carries it
pub carried : {A B : Type 0} (R : A → B → Type 0) (xs : List A) (ys : List B) (x : A) → AllZip R xs ys → IsAmong xs x → (y : B) × IsAmong ys y × R x y
carried R [] ys x h i = absurd i
carried R (a ∷ xs) [] x h i = absurd h
carried R (a ∷ xs) (b ∷ ys) x h (inl e) = (b, inl refl, subst (λ (c : _). R c b) (sym e) h.0)
carried R (a ∷ xs) (b ∷ ys) x h (inr i) = let (y, j, r) = carried R xs ys x h.1 i in (y, inr j, r)

pub with_at-other : {A : Type 0} (f : ℕ → A) (m : ℕ) (x : A) (k : ℕ) → (k == m) ≡ false → with_at f m x k ≡ f k
with_at-other f m x k e = rw e refl

pub saved-other : (rows : ℕ → ℕ → Row) (m n : ℕ) (r : Row) (k j : ℕ) → (k == m) ≡ false → saved rows m n r k j ≡ rows k j
saved-other rows m n r k j e = rw e refl

-- a history leads here, and the entries that were offered for n are among these
pub record Told {D G F : Type 0} (z : Circuit D G F) (n : ℕ) (entries : Entry → Type 0) (w : State G F) : Type 0 where
  pub history : History z w
  pub offered : (t : Entry) → WasOffered w n t → entries t

-- the entry that an event brings is among them
abbrev pub Brings : (Entry → Type 0) → Event → Type 0
Brings entries (Offered k t now) = entries t
Brings entries (Sought k now) = Unit {0}
Brings entries (Came_due k now) = Unit {0}
Brings entries (Arrived p now) = Unit {0}
Brings entries (Recalled k to) = Unit {0}

-- what a turn of member k about n leaves
pub record Stepped {D G F : Type 0} (z : Circuit D G F) (v : Version) (n : ℕ) (entries : Entry → Type 0) (k : ℕ) (row : Row) (marks : List Mark) (out : List Packet) (offers : List Offer) (w after : State G F) : Type 0 where
  pub told : Told z n entries after
  pub row_is : after.rows k n ≡ row
  pub row_other : (j : ℕ) → (j == k) ≡ false → after.rows j n ≡ w.rows j n
  pub marks_are : after.marks k ≡ marks
  pub marks_other : (j : ℕ) → (j == k) ≡ false → after.marks j ≡ w.marks j
  pub version : (j : ℕ) → after.version j ≡ w.version j
  pub armed : (j : ℕ) → after.armed j ≡ w.armed j
  pub is_stopped : (j : ℕ) → after.is_stopped j ≡ w.is_stopped j
  pub offers_are : after.offers ≡ offers
  pub sent : (d : Datagram) → IsAmong w.sent d → IsAmong after.sent d
  pub went : (p : Packet) → IsAmong out p → (d : Datagram) × IsAmong after.sent d × Carries z v p d

-- what a restart of member k leaves
pub record Renewed {D G F : Type 0} (z : Circuit D G F) (n : ℕ) (entries : Entry → Type 0) (k : ℕ) (w after : State G F) : Type 0 where
  pub told : Told z n entries after
  pub rows : (j i : ℕ) → after.rows j i ≡ w.rows j i
  pub marks_are : after.marks k ≡ []
  pub marks_other : (j : ℕ) → (j == k) ≡ false → after.marks j ≡ w.marks j
  pub version : (j : ℕ) → after.version j ≡ w.version j
  pub armed : (j : ℕ) → after.armed j ≡ w.armed j
  pub goes : after.is_stopped k ≡ false
  pub goes_other : (j : ℕ) → w.is_stopped j ≡ false → after.is_stopped j ≡ false
  pub offers : after.offers ≡ w.offers

-- the members of the set are at one version, unarmed and not stopped, and no promise of theirs for n is of a round above the limit
pub record Serves {D G F : Type 0} (z : Circuit D G F) (among : ℕ → Bool) (v : Version) (n limit : ℕ) (w : State G F) : Type 0 where
  pub version : (k : ℕ) → IsMember z.count k → among k ≡ true → w.version k ≡ v
  pub unarmed : (k : ℕ) → IsMember z.count k → among k ≡ true → w.armed k ≡ None
  pub going : (k : ℕ) → IsMember z.count k → among k ≡ true → w.is_stopped k ≡ false
  pub rounds : (k : ℕ) → IsMember z.count k → among k ≡ true → round_of (w.rows k n).promised ≤ limit

-- so they stay at a turn that promises no higher round
pub still :
    {D G F : Type 0} {z : Circuit D G F} {among : ℕ → Bool} {v : Version} {limit : ℕ} {w after : State G F} {n : ℕ}
    {entries : Entry → Type 0} {k : ℕ} {row : Row} {marks : List Mark} {out : List Packet} {offers : List Offer}
    → Stepped z v n entries k row marks out offers w after → Serves z among v n limit w → round_of row.promised ≤ limit
    → Serves z among v n limit after
still {z = z} {among = among} {limit = limit} {after = after} {n = n} {k = k} st s low = record {
  version = λ j i e. st.version j ∙ s.version j i e;
  unarmed = λ j i e. st.armed j ∙ s.unarmed j i e;
  going = λ j i e. st.is_stopped j ∙ s.going j i e;
  rounds = λ j i e. rounds j i e (j == k) refl;
}
  where
    rounds : (j : ℕ) → IsMember z.count j → among j ≡ true → (t : Bool) → (j == k) ≡ t → round_of (after.rows j n).promised ≤ limit
    rounds j i e true f =
        subst (λ (x : ℕ). round_of (after.rows x n).promised ≤ limit) (sym (eqb-true j k f))
        (subst (λ (q : Row). round_of q.promised ≤ limit) (sym st.row_is) low)
    rounds j i e false f = subst (λ (q : Row). round_of q.promised ≤ limit) (sym (st.row_other j f)) (s.rounds j i e)

-- m can come to release n, and after that the members of the set still serve
pub record Reaches {D G F : Type 0} (z : Circuit D G F) (among again : ℕ → Bool) (v : Version) (m n : ℕ) (offers : List Offer) (limit : ℕ) (w : State G F) : Type 0 where
  pub can : CanRelease z among again m n offers w
  pub serves : Serves z among v n limit can.after

module _
    {D G F : Type 0} (z : Circuit D G F) (fit : SpellsWhatFits z) (among again : ℕ → Bool) (v : Version) (m n : ℕ) (final : List Offer)
    (entries : Entry → Type 0) (speaks : SpellsWhatMayBeSaid z v entries) (limit : ℕ) where
  abbrev Goal : State G F → Type 0
  Goal w = Reaches z among again v m n final limit w

  -- datagrams for packets that may be said
  pub spelled :
      (ps : List Packet) → ((p : Packet) → IsAmong ps p → MaySay z entries p) → ((p : Packet) → IsAmong ps p → BodyFits v p.body)
      → (out : List Datagram) × AllZip (Carries z v) ps out
  spelled [] says fits = ([], tt)
  spelled (p ∷ ps) says fits =
      let (bytes, reads) = speaks p (says p (inl refl)) (fits p (inl refl)) in
      let (ds, rest) = spelled ps (λ q i. says q (inr i)) (λ q i. fits q (inr i)) in
      (record { to = p.to; bytes = bytes } ∷ ds, ((refl, reads), rest))

  more_offered :
      (offers : List Offer) (m : ℕ) (e : Event) → Brings entries e → ((t : Entry) → (k : ℕ) × IsAmong offers (record { member = k; number = n; entry = t }) → entries t)
      → (t : Entry) → (k : ℕ) × IsAmong (offers_with offers m e) (record { member = k; number = n; entry = t }) → entries t
  more_offered offers m (Offered i u now) brings known t (k, j) = elim (among-append offers (record { member = m; number = i; entry = u } ∷ []) (record { member = k; number = n; entry = t }) j) [
    | inl h ↦ known t (k, h)
    | inr h ↦ elim h [ inl e ↦ subst entries (sym (ap (λ (x : Offer). x.entry) e)) brings | inr none ↦ absurd none ]
  ]
  more_offered offers m (Sought i now) brings known t j = known t j
  more_offered offers m (Came_due i now) brings known t j = known t j
  more_offered offers m (Arrived p now) brings known t j = known t j
  more_offered offers m (Recalled i to) brings known t j = known t j

  -- a member takes a turn: it releases the number, or goes on from what the turn leaves. What the turn votes for was offered
  pub take :
      (w : State G F) → Told z n entries w → Serves z among v n limit w
      → (s : Step) (k : ℕ) (call : Call) (e : Event) (t : Turn) → IsTask w.sent s k call → IsMember z.count k → among k ≡ true
      → refusal (setup_of z (w.version k) k) (w.is_stopped k) (w.marks k) call ≡ None
      → event_of (setup_of z (w.version k) k) (w.marks k) call ≡ Some e → number_of e ≡ n
      → turn (seat_at z k) (w.marks k) (w.rows k n) e ≡ Some t → round_of t.row.promised ≤ limit → Brings entries e
      → ((u : Entry) → t.release ≡ Some u → offers_with w.offers k e ≡ final)
      → (((u : Vote) → t.row.vote ≡ Some u → ¬ (t.row ≡ w.rows k n) → entries u.entry) → (p : Packet) → IsAmong t.out p → MaySay z entries p)
      → ((after : State G F) → Stepped z v n entries k t.row t.marks t.out (offers_with w.offers k e) w after → (k ≡ m → t.release ≡ None) → Goal after)
      → Goal w
  take w told serves s k call e t task member in_it free event number taken low brings settled says rest = go t.release refl
    where
      version : w.version k ≡ v
      version = serves.version k member in_it

      unarmed : w.armed k ≡ None
      unarmed = serves.unarmed k member in_it

      taken_so : turn (seat_at z k) (w.marks k) (w.rows k (number_of e)) e ≡ Some t
      taken_so = subst (λ (x : ℕ). turn (seat_at z k) (w.marks k) (w.rows k x) e ≡ Some t) (sym number) taken

      -- were the step torn as the row is saved, the vote would be taken
      torn : State G F
      torn = record w {
        rows = saved w.rows k (number_of e) t.row;
        marks = with_at w.marks k [];
        is_stopped = with_at w.is_stopped k true;
        armed = with_at w.armed k None;
        offers = offers_with w.offers k e;
      }

      left : MayLeave {A = Row} {D = D} {F = F} (w.armed k) Torn_by_store (w.rows k (number_of e)) t.row t.row
      left = subst (λ (a : Option Bool). MayLeave {A = Row} {D = D} {F = F} a Torn_by_store (w.rows k (number_of e)) t.row t.row) (sym unarmed) (refl, inr refl)

      offered : (u : Vote) → t.row.vote ≡ Some u → ¬ (t.row ≡ w.rows k n) → entries u.entry
      offered u is changes =
          let h : History z torn =
          goes_on told.history s Torn_by_store
          (is_torn k call e t.row None task member event (at_save t free taken_so (λ same. changes (same ∙ ap (λ (x : ℕ). w.rows k x) number)) left refl) (same torn)) in
          let held : (torn.rows k n).vote ≡ Some (vote_for u.ballot u.entry) =
          ap (λ (x : ℕ). (torn.rows k x).vote) (sym number) ∙ ap (λ (r : Row). r.vote) (saved-same w.rows k (number_of e) t.row) ∙ is in
          more_offered w.offers k e brings told.offered u.entry (votes_are_offered z torn h k n u.ballot u.entry (was_held h k n u.ballot u.entry held))

      fits : (p : Packet) → IsAmong t.out p → BodyFits v p.body
      fits p i =
          subst (λ (x : Version). BodyFits x p.body) version
          ((taken_fits z fit w (history_fits z fit told.history) k call e t member (first_none (early_refusal (setup_of z (w.version k) k) (w.is_stopped k) (w.marks k) call) _ free) event taken_so).out p i)

      out : (out : List Datagram) × AllZip (Carries z v) t.out out
      out = spelled t.out (says offered) fits

      after : State G F
      after = record w {
        rows = saved w.rows k (number_of e) t.row;
        marks = with_at w.marks k t.marks;
        sent = w.sent ++ out.0;
        offers = offers_with w.offers k e;
        releases = releases_with z w.releases k (number_of e) t.release;
      }

      step : StepsTo z w s (Done t.note) after
      step =
          is_done k call e t out.0 task member free event taken_so (subst (λ (x : Version). AllZip (Carries z x) t.out out.0) (sym version) out.1)
          (inl unarmed) refl (same after)

      went : (p : Packet) → IsAmong t.out p → (d : Datagram) × IsAmong after.sent d × Carries z v p d
      went p i = let (d, j, c) = carried (Carries z v) t.out out.0 p out.1 i in (d, among_right w.sent out.0 d j, c)

      stepped : Stepped z v n entries k t.row t.marks t.out (offers_with w.offers k e) w after
      stepped = record {
        told = record { history = goes_on told.history s (Done t.note) step; offered = more_offered w.offers k e brings told.offered };
        row_is = ap (λ (x : ℕ). saved w.rows k (number_of e) t.row k x) (sym number) ∙ saved-same w.rows k (number_of e) t.row;
        row_other = λ j f. saved-other w.rows k (number_of e) t.row j n f;
        marks_are = with_at-same w.marks k t.marks;
        marks_other = λ j f. with_at-other w.marks k t.marks j f;
        version = λ j. refl;
        armed = λ j. refl;
        is_stopped = λ j. refl;
        offers_are = refl;
        sent = λ d i. among_left w.sent out.0 d i;
        went = went;
      }

      begins : Leads z among again after w
      begins = takes_turn s k call t.note task in_it step (is_there refl)

      go : (r : Option Entry) → t.release ≡ r → Goal w
      go None f =
          let reached = rest after stepped (λ is_m. f) in
          let to = reached.can in
          record {
            serves = reached.serves;
            can = record {
              after = to.after;
              leads = takes_turn s k call t.note task in_it step to.leads;
              entry = to.entry;
              on_the_way = to.on_the_way;
              are_theirs = to.are_theirs;
              offers_are = to.offers_are;
              released =
                  to.released ∙ ap (λ (r : Option Entry). releases_with z w.releases k (number_of e) r ++ to.on_the_way ++ release_of z m n to.entry ∷ []) f;
            };
          }
      go (Some u) f = mine (k == m) refl
        where
          now : releases_with z w.releases k (number_of e) t.release ≡ w.releases ++ release_of z k n u ∷ []
          now = ap (λ (r : Option Entry). releases_with z w.releases k (number_of e) r) f ∙ ap (λ (x : ℕ). w.releases ++ release_of z k x u ∷ []) number

          theirs :
              (more : List (Release G F)) → ((x : Release G F) → IsAmong more x → (among x.member ≡ true) × (x.number ≡ n)) → (x : Release G F)
              → IsAmong (release_of z k n u ∷ more) x → (among x.member ≡ true) × (x.number ≡ n)
          theirs more h x (inl it) = (subst (λ (y : Release G F). among y.member ≡ true) (sym it) in_it, ap (λ (y : Release G F). y.number) it)
          theirs more h x (inr i) = h x i

          mine : (b : Bool) → (k == m) ≡ b → Goal w
          mine true is_m = record {
            serves = still stepped serves low;
            can = record {
              after = after;
              leads = begins;
              entry = u;
              on_the_way = [];
              are_theirs = λ x i. absurd i;
              offers_are = settled u f;
              released =
                  now ∙ ap (λ (x : ℕ). w.releases ++ release_of z x n u ∷ []) (eqb-true k m is_m)
                  ∙ ap (λ (l : List (Release G F)). l ++ release_of z m n u ∷ []) (sym (append-nil w.releases));
            };
          }
          mine false other =
              let reached = rest after stepped (λ is_m. absurd (eqb-false k m other is_m)) in
              let to = reached.can in
              record {
                serves = reached.serves;
                can = record {
                  after = to.after;
                  leads = takes_turn s k call t.note task in_it step to.leads;
                  entry = to.entry;
                  on_the_way = release_of z k n u ∷ to.on_the_way;
                  are_theirs = theirs to.on_the_way to.are_theirs;
                  offers_are = to.offers_are;
                  released =
                      to.released ∙ ap (λ (l : List (Release G F)). l ++ to.on_the_way ++ release_of z m n to.entry ∷ []) now
                      ∙ ap (λ (l : List (Release G F)). l ++ release_of z m n to.entry ∷ []) (append_assoc w.releases (release_of z k n u ∷ []) to.on_the_way);
                };
              }

  -- a member gets a datagram that was sent
  pub receive :
      (w : State G F) → Told z n entries w → Serves z among v n limit w
      → (k : ℕ) (p : Packet) (d : Datagram) (t : Turn) → IsMember z.count k → among k ≡ true
      → IsAmong w.sent d → Carries z v p d → p.to ≡ k → p.number ≡ n
      → packet_refusal {D = D} {F = F} (seat_at z k) p ≡ None
      → packet_turn (seat_at z k) 0 (w.marks k) (w.rows k n) p p.body ≡ t → round_of t.row.promised ≤ limit → w.offers ≡ final
      → (((u : Vote) → t.row.vote ≡ Some u → ¬ (t.row ≡ w.rows k n) → entries u.entry) → (q : Packet) → IsAmong t.out q → MaySay z entries q)
      → ((after : State G F) → Stepped z v n entries k t.row t.marks t.out w.offers w after → (k ≡ m → t.release ≡ None) → Goal after)
      → Goal w
  receive w told serves k p d t member in_it sent carries to number unrefused taken low settled says rest =
      let version : w.version k ≡ v = serves.version k member in_it in
      let going : w.is_stopped k ≡ false = serves.going k member in_it in
      let (i, place) = datagram_place w.sent d sent in
      let heard : hears z (w.version k) d.bytes ≡ Ok p = subst (λ (x : Version). hears z x d.bytes ≡ Ok p) (sym version) (heard_here z v d.bytes p carries.1) in
      let task : IsTask w.sent (Delivers i 0) k (Receiving d.bytes 0) =
      ap (λ (o : Option Datagram). delivery o 0) place ∙ ap (λ (x : ℕ). Some (task_for x d)) (carries.0 ∙ to) in
      take w told serves (Delivers i 0) k (Receiving d.bytes 0) (Arrived p 0) t task member in_it (rw (going, heard, unrefused) refl)
      (rw heard refl) number (ap Some taken) low tt (λ u f. settled) says rest
    where
      task_for : ℕ → Datagram → Task
      task_for x d = record { member = x; call = Receiving d.bytes 0 }

  -- a member starts again
  pub restart :
      (w : State G F) → Told z n entries w → (k : ℕ) → IsMember z.count k → among k ≡ true → (w.is_stopped k ≡ true) ⊎ (again k ≡ true)
      → ((after : State G F) → Renewed z n entries k w after → Goal after)
      → Goal w
  restart w told k member in_it why rest =
      let reached = rest after renewed in
      let to = reached.can in
      record {
        serves = reached.serves;
        can = record {
          after = to.after;
          leads = starts_again k in_it why step to.leads;
          entry = to.entry;
          on_the_way = to.on_the_way;
          are_theirs = to.are_theirs;
          offers_are = to.offers_are;
          released = to.released;
        };
      }
    where
      after : State G F
      after = record w { marks = with_at w.marks k []; is_stopped = with_at w.is_stopped k false }

      step : StepsTo z w (Restarts k) Restarted after
      step = restarts k member refl refl (same after)

      going : (j : ℕ) → w.is_stopped j ≡ false → with_at w.is_stopped k false j ≡ false
      going j f = go (j == k) refl
        where
          go : (b : Bool) → (j == k) ≡ b → with_at w.is_stopped k false j ≡ false
          go true e = rw e refl
          go false e = rw e f

      renewed : Renewed z n entries k w after
      renewed = record {
        told = record { history = goes_on told.history (Restarts k) Restarted step; offered = told.offered };
        rows = λ j i. refl;
        marks_are = with_at-same w.marks k [];
        marks_other = λ j f. with_at-other w.marks k [] j f;
        version = λ j. refl;
        armed = λ j. refl;
        goes = with_at-same w.is_stopped k false;
        goes_other = going;
        offers = refl;
      }
