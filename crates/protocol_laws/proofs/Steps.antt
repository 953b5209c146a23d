-- Each step keeps a sound state sound, and so each history leads to one.
use Rattle.std.proofs.Common.{◌≡◌, ℕ, ◌⊎◌, inl, inr, refl, sym, ap, subst, ◌∙◌, List, [], ◌∷◌, ◌++◌, Option, Some, None, Bool, true, false}
use Rattle.std.specs.Prelude.{◌==◌, ◌-◌, Result, Ok, Err}
use Rattle.std.specs.List.{AllZip}
use Rattle.protocol.specs.Ballots.{Ballot, Majority, IsMember}
use Rattle.protocol.specs.Entries.{Entry}
use Rattle.protocol.specs.Rows.{Vote, vote_for, Row}
use Rattle.protocol.specs.Packets.{Packet}
use Rattle.protocol.specs.Versions.{Version, One, Two}
use Rattle.protocol.specs.Marks.{Mark, Began}
use Rattle.protocol.specs.Lists.{IsAmong}
use Rattle.protocol.specs.Proposals.{next_due}
use Rattle.protocol.specs.Turn.{Turn, Event, Offered, Sought, Came_due, Arrived, Recalled, number_of}
use Rattle.protocol.specs.Table.{VotedAt, IsTurn}
use Rattle.protocol.specs.Refusals.{Call, Offering, Seeking, Falling_due, Receiving, Recalling, due_event, arrival, event_of}
use Rattle.protocol.specs.Circuit.{Circuit, hears, setup_of, Datagram, Offer, Release, seat_at, State, IsSameState, fresh, Step, Offers, Seeks, Falls_due, Delivers, Restarts, Upgrades, Balks, Recalls, Outcome, with_at, saved, Carries, datagram_at, Task, delivery, task_of, offers_with, releases_with, MayLeave, Leaves, store_before_save, memory_before_save, at_save, StepsTo, is_refused, is_idle, is_spent, is_done, is_torn, restarts, upgrades, upgrade_is_torn, is_armed, History, starts, goes_on}
use Rattle.protocol.specs.Agreement.{HoldsVote, WasVoted}
use Rattle.protocol_laws.proofs.Meeting.{is_turn}
use Rattle.protocol_laws.proofs.Sound.{Votes, Releases, Rows, PacketHolds, Sound}
use Rattle.protocol_laws.proofs.Moves.{some_inj, mark, send, offer, release, rename, not_empty}
use Rattle.protocol_laws.proofs.Places.{with_at_cases, with_at-self, among-append, among_left, among_right, among_got}
use Rattle.protocol_laws.proofs.Station.{Setting, At, rows_with, at_start}
use Rattle.protocol_laws.proofs.Proposing.{TurnSound}
use Rattle.protocol_laws.proofs.Turns.{EventHolds, turn_sound}

-- states that have the same in each place are one
pub same_state : {G F : Type 0} {v w : State G F} → IsSameState v w → v ≡ w
same_state s = λ i. record {
  version = λ m. s.version m i;
  rows = λ m n. s.rows m n i;
  marks = λ m. s.marks m i;
  is_stopped = λ m. s.is_stopped m i;
  armed = λ m. s.armed m i;
  sent = s.sent i;
  offers = s.offers i;
  releases = s.releases i;
}

-- what spells a packet in a version, a station of version 2 takes for that packet
pub spelled_heard : {D G F : Type 0} (z : Circuit D G F) (v : Version) (bytes : List ℕ) (p : Packet) → z.reads v bytes ≡ Ok p → hears z Two bytes ≡ Ok p
spelled_heard z v bytes p e = ap (λ (x : Version). z.reads x bytes) (z.says v bytes p e) ∙ e

-- and so does a station of that version
pub heard_here : {D G F : Type 0} (z : Circuit D G F) (v : Version) (bytes : List ℕ) (p : Packet) → z.reads v bytes ≡ Ok p → hears z v bytes ≡ Ok p
heard_here z One bytes p e = e
heard_here z Two bytes p e = spelled_heard z Two bytes p e

-- what a station of any version takes bytes for, one of version 2 does too
heard_alike : {D G F : Type 0} (z : Circuit D G F) (v : Version) (bytes : List ℕ) (p : Packet) → hears z v bytes ≡ Ok p → hears z Two bytes ≡ Ok p
heard_alike z One bytes p e = spelled_heard z One bytes p e
heard_alike z Two bytes p e = e

-- a station of version 2 takes the datagram for the packet, and it goes to its addressee
abbrev pub Goes : {D G F : Type 0} → Circuit D G F → Packet → Datagram → Type 0
Goes z p d = (d.to ≡ p.to) × (hears z Two d.bytes ≡ Ok p)

-- what is carried in a version goes
pub all_go : {D G F : Type 0} (z : Circuit D G F) (v : Version) (ps : List Packet) (ds : List Datagram) → AllZip (Carries z v) ps ds → AllZip (Goes z) ps ds
all_go z v [] [] h = h
all_go z v [] (d ∷ ds) h = absurd h
all_go z v (p ∷ ps) [] h = absurd h
all_go z v (p ∷ ps) (d ∷ ds) h = ((h.0.0, spelled_heard z v d.bytes p h.0.1), all_go z v ps ds h.1)

-- t stands among the releases for n
abbrev pub released_in : {G F : Type 0} → List (Release G F) → Releases
released_in {G = G} {F = F} releases n t = (x : Release G F) × IsAmong releases x × (x.number ≡ n) × (x.entry ≡ t)

-- a state whose datagrams spell packets, which with the rest are sound, and whose releases are set as their member sets them
pub record SoundState {D G F : Type 0} (z : Circuit D G F) (V : Votes) (w : State G F) : Type 0 where
  pub packets : List Packet
  pub spelled : AllZip (Goes z) packets w.sent
  pub sound : Sound z.count V w.rows w.marks packets w.offers (released_in w.releases)
  pub set : (x : Release G F) → IsAmong w.releases x → x.set ≡ z.sets x.member x.entry

-- the votes before, and those that the state after holds
pub record Follows {G F : Type 0} (V W : Votes) (after : State G F) : Type 0 where
  pub stay : (m n : ℕ) (b : Ballot) (t : Entry) → V m n b t → W m n b t
  pub taken : (m n : ℕ) (b : Ballot) (t : Entry) → HoldsVote after m n b t → W m n b t
  pub only : (m n : ℕ) (b : Ballot) (t : Entry) → W m n b t → V m n b t ⊎ HoldsVote after m n b t

-- what is sound of the votes of the state after makes it a sound state
settle :
    {D G F : Type 0} {z : Circuit D G F} {V X : Votes} (W : Votes) (after : State G F) (packets : List Packet) → Follows V W after
    → AllZip (Goes z) packets after.sent
    → Sound z.count X after.rows after.marks packets after.offers (released_in after.releases)
    → ((m n : ℕ) (b : Ballot) (t : Entry) → V m n b t → X m n b t)
    → ((m n : ℕ) (b : Ballot) (t : Entry) → X m n b t → V m n b t ⊎ VotedAt (after.rows m n) b t)
    → ((x : Release G F) → IsAmong after.releases x → x.set ≡ z.sets x.member x.entry)
    → SoundState z W after
settle W after packets f spelled s grows held set = record {
  packets = packets;
  spelled = spelled;
  sound = rename W s
      (λ m n b t x. elim (held m n b t x) [ inl v ↦ f.stay m n b t v | inr v ↦ f.taken m n b t v ])
      (λ m n b t x. elim (f.only m n b t x) [ inl v ↦ grows m n b t v | inr v ↦ s.kept m n (vote_for b t) v ]);
  set = set;
}

cleared : (marks : ℕ → List Mark) (m : ℕ) (k : ℕ) → (with_at marks m [] k ≡ marks k) ⊎ (with_at marks m [] k ≡ [])
cleared marks m k = elim (with_at_cases marks m (marks m) [] k) [ inl e ↦ inl (e ∙ with_at-self marks m k) | inr e ↦ inr e.2 ]

clear :
    {c : ℕ} {V : Votes} {rows : Rows} {marks : ℕ → List Mark} {sent : List Packet} {offers : List Offer} {releases : Releases} (m : ℕ)
    → Sound c V rows marks sent offers releases → Sound c V rows (with_at marks m []) sent offers releases
clear {marks = marks} m s = mark s (with_at marks m []) (λ k. elim (cleared marks m k) [ inl e ↦ inl e | inr e ↦ inr (inl e) ])

more_offers : (offers : List Offer) (m : ℕ) (e : Event) (x : Offer) → IsAmong offers x → IsAmong (offers_with offers m e) x
more_offers offers m (Offered n entry now) x i = among_left offers (record { member = m; number = n; entry = entry } ∷ []) x i
more_offers offers m (Sought n now) x i = i
more_offers offers m (Came_due n now) x i = i
more_offers offers m (Arrived p now) x i = i
more_offers offers m (Recalled n to) x i = i

more_releases :
    {D G F : Type 0} (z : Circuit D G F) (releases : List (Release G F)) (m n : ℕ) (r : Option Entry) (x : Release G F) → IsAmong (releases_with z releases m n r) x
    → IsAmong releases x ⊎ (r ≡ Some x.entry) × (x.number ≡ n) × (x.set ≡ z.sets x.member x.entry)
more_releases z releases m n None x i = inl i
more_releases {G = G} {F = F} z releases m n (Some t) x i = elim (among-append releases (record { member = m; number = n; entry = t; set = z.sets m t } ∷ []) x i) [
  | inl h ↦ inl h
  | inr h ↦ elim h [ inl e ↦ inr (ap (λ (y : Release G F). Some y.entry) (sym e), ap (λ (y : Release G F). y.number) e, set_so e) | inr none ↦ absurd none ]
]
  where
    set_so : {y : Release G F} → y ≡ record { member = m; number = n; entry = t; set = z.sets m t } → y.set ≡ z.sets y.member y.entry
    set_so e = rw e refl

-- the packet that a datagram among them spells is one of the packets
pub read_among : {D G F : Type 0} (z : Circuit D G F) (ps : List Packet) (ds : List Datagram) (d : Datagram) (p : Packet) → AllZip (Goes z) ps ds → IsAmong ds d → hears z Two d.bytes ≡ Ok p → IsAmong ps p
read_among z [] [] d p e i spelled = absurd i
read_among z [] (y ∷ ds) d p e i spelled = absurd e
read_among z (q ∷ ps) [] d p e i spelled = absurd e
read_among {D = D} z (q ∷ ps) (y ∷ ds) d p e (inl same) spelled = inl (one (hears z Two d.bytes) spelled (subst (λ (x : Datagram). hears z Two x.bytes ≡ Ok q) (sym same) e.0.1))
  where
    one : (r : Result Packet D) → r ≡ Ok p → r ≡ Ok q → p ≡ q
    one r f g = cc
read_among z (q ∷ ps) (y ∷ ds) d p e (inr i) spelled = inr (read_among z ps ds d p e.1 i spelled)

pub AllZip-append : {A B : Type 0} (R : A → B → Type 0) (xs us : List A) (ys vs : List B) → AllZip R xs ys → AllZip R us vs → AllZip R (xs ++ us) (ys ++ vs)
AllZip-append R [] us [] vs h k = k
AllZip-append R [] us (y ∷ ys) vs h k = absurd h
AllZip-append R (x ∷ xs) us [] vs h k = absurd h
AllZip-append R (x ∷ xs) us (y ∷ ys) vs h k = (h.0, AllZip-append R xs us ys vs h.1 k)

-- a datagram that is got at a place from 1 is among them
datagram_among : (sent : List Datagram) (k : ℕ) (d : Datagram) → datagram_at sent k ≡ Some d → IsAmong sent d
datagram_among sent k d e = go (k == 0) refl
  where
    go : (b : Bool) → (k == 0) ≡ b → IsAmong sent d
    go true f = let no : None ≡ Some d = rw f at e in cc
    go false f = among_got sent (k - 1) d (rw f at e)

-- a datagram that a step delivers was sent
delivered : (sent : List Datagram) (o : Option Datagram) (i j : ℕ) (m : ℕ) (bytes : List ℕ) → ((d : Datagram) → o ≡ Some d → IsAmong sent d)
    → delivery o i ≡ Some (record { member = m; call = Receiving bytes j }) → (d : Datagram) × IsAmong sent d × (d.bytes ≡ bytes)
delivered sent None i j m bytes among e = cc
delivered sent (Some d) i j m bytes among e =
    let same : record { member = d.to; call = Receiving d.bytes i } ≡ record { member = m; call = Receiving bytes j } = some_inj e in
    (d, among d refl, bytes_same (ap (λ (x : Task). x.call) same))
  where
    bytes_same : Receiving d.bytes i ≡ Receiving bytes j → d.bytes ≡ bytes
    bytes_same e = cc

received_sent : (sent : List Datagram) (s : Step) (m : ℕ) (bytes : List ℕ) (j : ℕ) → task_of sent s ≡ Some (record { member = m; call = Receiving bytes j }) → (d : Datagram) × IsAmong sent d × (d.bytes ≡ bytes)
received_sent sent (Offers k n entry i) m bytes j e = let other : Offering n entry i ≡ Receiving bytes j = ap (λ (x : Task). x.call) (some_inj e) in cc
received_sent sent (Seeks k n i) m bytes j e = let other : Seeking n i ≡ Receiving bytes j = ap (λ (x : Task). x.call) (some_inj e) in cc
received_sent sent (Falls_due k i) m bytes j e = let other : Falling_due i ≡ Receiving bytes j = ap (λ (x : Task). x.call) (some_inj e) in cc
received_sent sent (Delivers k i) m bytes j e = delivered sent (datagram_at sent k) i j m bytes (λ d f. datagram_among sent k d f) e
received_sent sent (Restarts k) m bytes j e = cc
received_sent sent (Upgrades k) m bytes j e = cc
received_sent sent (Balks k b) m bytes j e = cc
received_sent sent (Recalls k n to) m bytes j e = let other : Recalling n to ≡ Receiving bytes j = ap (λ (x : Task). x.call) (some_inj e) in cc

-- a packet that arrives is one that the received bytes spell
pub arrived_read : {D : Type 0} (r : Result Packet D) (i : ℕ) (p : Packet) (now : ℕ) → arrival r i ≡ Some (Arrived p now) → r ≡ Ok p
arrived_read (Err fault) i p now e = cc
arrived_read (Ok q) i p now e = let same : q ≡ p = cc in ap Ok same

pub due_arrives : (o : Option ℕ) (i : ℕ) (p : Packet) (now : ℕ) → due_event o i ≡ Some (Arrived p now) → ⊥
due_arrives None i p now e = cc
due_arrives (Some n) i p now e = cc

-- a packet that arrives was sent
pub arrived_sent :
    {D G F : Type 0} (z : Circuit D G F) (w : State G F) (s : Step) (m : ℕ) (call : Call) (p : Packet) (now : ℕ) (packets : List Packet) → AllZip (Goes z) packets w.sent
    → task_of w.sent s ≡ Some (record { member = m; call = call }) → event_of (setup_of z (w.version m) m) (w.marks m) call ≡ Some (Arrived p now) → IsAmong packets p
arrived_sent z w s m (Offering n entry i) p now ps e task event = cc
arrived_sent z w s m (Seeking n i) p now ps e task event = cc
arrived_sent z w s m (Falling_due i) p now ps e task event = absurd (due_arrives (next_due m i (w.marks m)) i p now event)
arrived_sent z w s m (Recalling n to) p now ps e task event = cc
arrived_sent z w s m (Receiving bytes i) p now ps e task event =
    let (d, among, same) = received_sent w.sent s m bytes i task in
    read_among z ps w.sent d p e among (ap (hears z Two) same ∙ heard_alike z (w.version m) bytes p (arrived_read (hears z (w.version m) bytes) i p now event))

-- the state with the station's row and marks
setting : {D G F : Type 0} → Circuit D G F → State G F → List Packet → ℕ → Event → Setting
setting z w packets m e = record { seat = seat_at z m; rows = w.rows; marks = w.marks; number = number_of e; sent = packets; offers = offers_with w.offers m e; releases = released_in w.releases }

event_holds :
    {D G F : Type 0} (z : Circuit D G F) (V : Votes) (w : State G F) (s : Step) (m : ℕ) (call : Call) (e : Event) (rows : Rows) (packets : List Packet) → AllZip (Goes z) packets w.sent
    → task_of w.sent s ≡ Some (record { member = m; call = call }) → event_of (setup_of z (w.version m) m) (w.marks m) call ≡ Some e
    → ((p : Packet) → IsAmong packets p → PacketHolds V rows p)
    → EventHolds V rows (offers_with w.offers m e) e
event_holds z V w s m call (Offered n entry now) rows ps same task event sent = (m, among_right w.offers (record { member = m; number = n; entry = entry } ∷ []) (record { member = m; number = n; entry = entry }) (inl refl))
event_holds z V w s m call (Sought n now) rows ps same task event sent = tt
event_holds z V w s m call (Came_due n now) rows ps same task event sent = tt
event_holds z V w s m call (Recalled n to) rows ps same task event sent = tt
event_holds z V w s m call (Arrived p now) rows ps same task event sent = sent p (arrived_sent z w s m call p now ps same task event)

start_at : {D G F : Type 0} {z : Circuit D G F} {V : Votes} (w : State G F) (m : ℕ) (e : Event) (h : SoundState z V w) → At (setting z w h.packets m e) V (w.rows m (number_of e)) (w.marks m)
unfolding setting
start_at {z = z} {V = V} w m e h = at_start (setting z w h.packets m e) V (offer h.sound (offers_with w.offers m e) (more_offers w.offers m e))

turns :
    {D G F : Type 0} {z : Circuit D G F} {V : Votes} (w : State G F) (s : Step) (m : ℕ) (call : Call) (e : Event) (t : Turn) → (h : SoundState z V w) → IsMember z.count m
    → task_of w.sent s ≡ Some (record { member = m; call = call }) → event_of (setup_of z (w.version m) m) (w.marks m) call ≡ Some e
    → IsTurn (seat_at z m) (w.marks m) (w.rows m (number_of e)) e t → TurnSound (setting z w h.packets m e) V t
unfolding setting
turns {z = z} {V = V} w s m call e t h member task event turn =
    turn_sound (setting z w h.packets m e) e t (start_at w m e h) member (event_holds z V w s m call e (rows_with (setting z w h.packets m e) (w.rows m (number_of e))) h.packets h.spelled task event (start_at w m e h).sound.packets) turn

done_sound :
    {D G F : Type 0} {z : Circuit D G F} {V : Votes} (W : Votes) (w : State G F) (m : ℕ) (e : Event) (t : Turn) (out : List Datagram) (after : State G F) (h : SoundState z V w)
    → TurnSound (setting z w h.packets m e) V t → AllZip (Goes z) t.out out
    → after ≡ record w {
      rows = saved w.rows m (number_of e) t.row;
      marks = with_at w.marks m t.marks;
      sent = w.sent ++ out;
      offers = offers_with w.offers m e;
      releases = releases_with z w.releases m (number_of e) t.release;
    }
    → Follows V W after → SoundState z W after
unfolding setting
done_sound {G = G} {F = F} {z = z} {V = V} W w m e t out after h ts carried is f =
    subst (λ (x : State G F). SoundState z W x) (sym is) (settle W end (h.packets ++ t.out) (subst (λ (x : State G F). Follows V W x) is f) spelled released ts.grows ts.held set)
  where
    end : State G F
    end = record w {
      rows = saved w.rows m (number_of e) t.row;
      marks = with_at w.marks m t.marks;
      sent = w.sent ++ out;
      offers = offers_with w.offers m e;
      releases = releases_with z w.releases m (number_of e) t.release;
    }

    spelled : AllZip (Goes z) (h.packets ++ t.out) end.sent
    spelled = AllZip-append (Goes z) h.packets t.out w.sent out h.spelled carried

    went_out : Sound z.count ts.votes end.rows end.marks (h.packets ++ t.out) end.offers (released_in w.releases)
    went_out = send ts.stands.sound (h.packets ++ t.out) (λ p i. elim (among-append h.packets t.out p i) [ inl x ↦ inl x | inr x ↦ inr (ts.out p x) ])

    adds : (n : ℕ) (u : Entry) → released_in end.releases n u → released_in w.releases n u ⊎ ((b : Ballot) × Majority z.count (λ k. ts.votes k n b u))
    adds n u (x, i, en, eu) = elim (more_releases z w.releases m (number_of e) t.release x i) [
      | inl y ↦ inl (x, y, en, eu)
      | inr y ↦ (let r = ts.release u (y.0 ∙ ap Some eu) in inr (r.0, subst (λ (n : ℕ). Majority z.count (λ k. ts.votes k n r.0 u)) (sym y.1 ∙ en) r.1))
    ]

    released : Sound z.count ts.votes end.rows end.marks (h.packets ++ t.out) end.offers (released_in end.releases)
    released = release went_out (released_in end.releases) adds

    set : (x : Release G F) → IsAmong end.releases x → x.set ≡ z.sets x.member x.entry
    set x i = elim (more_releases z w.releases m (number_of e) t.release x i) [ inl y ↦ h.set x y | inr y ↦ y.2 ]

-- the same rows and votes
calm_sound :
    {D G F : Type 0} {z : Circuit D G F} {V : Votes} (W : Votes) (w : State G F) (after : State G F) (h : SoundState z V w) → Follows V W after
    → after.sent ≡ w.sent → after.releases ≡ w.releases
    → Sound z.count V after.rows after.marks h.packets after.offers (released_in after.releases) → SoundState z W after
calm_sound {G = G} {F = F} {z = z} W w after h f sent releases s =
    settle W after h.packets f (subst (λ (l : List Datagram). AllZip (Goes z) h.packets l) (sym sent) h.spelled) s (λ m n b t v. v) (λ m n b t v. inl v) (λ x i. h.set x (subst (λ (l : List (Release G F)). IsAmong l x) releases i))

-- a station's row and marks after a torn step
torn_sound :
    {D G F : Type 0} {z : Circuit D G F} {V : Votes} (W : Votes) (w : State G F) (s : Step) (m : ℕ) (call : Call) (e : Event) (o : Outcome D F) (row : Row) (armed : Option Bool) (after : State G F)
    → SoundState z V w → IsMember z.count m
    → task_of w.sent s ≡ Some (record { member = m; call = call }) → event_of (setup_of z (w.version m) m) (w.marks m) call ≡ Some e → Leaves z w m call e o row armed
    → after ≡ record w {
      rows = saved w.rows m (number_of e) row;
      marks = with_at w.marks m [];
      is_stopped = with_at w.is_stopped m true;
      armed = with_at w.armed m armed;
      offers = offers_with w.offers m e;
    }
    → Follows V W after → SoundState z W after
unfolding setting
torn_sound {D = D} {G = G} {F = F} {z = z} {V = V} W w s m call e o row armed after h member task event leaves is f =
    subst (λ (x : State G F). SoundState z W x) (sym is) (by leaves)
  where
    end : State G F
    end = record w {
      rows = saved w.rows m (number_of e) row;
      marks = with_at w.marks m [];
      is_stopped = with_at w.is_stopped m true;
      armed = with_at w.armed m armed;
      offers = offers_with w.offers m e;
    }

    follows : Follows V W end
    follows = subst (λ (x : State G F). Follows V W x) is f

    -- the row before
    old_row : row ≡ w.rows m (number_of e) → SoundState z W end
    old_row same =
        calm_sound W w end h follows refl refl (subst (λ (r : Row). Sound z.count V (saved w.rows m (number_of e) r) end.marks h.packets end.offers (released_in end.releases)) (sym same)
        (mark (start_at w m e h).sound (with_at w.marks m []) (λ k. elim (with_at_cases w.marks m (w.marks m) [] k) [ inl x ↦ inl x | inr x ↦ inr (inl x.2) ])))

    -- the row after
    new_row : (t : Turn) → IsTurn (seat_at z m) (w.marks m) (w.rows m (number_of e)) e t → row ≡ t.row → SoundState z W end
    new_row t turn same =
        let ts : TurnSound (setting z w h.packets m e) V t = turns w s m call e t h member task event turn in
        let saved_it : Sound z.count ts.votes (saved w.rows m (number_of e) t.row) (with_at w.marks m []) h.packets (offers_with w.offers m e) (released_in w.releases) =
        mark ts.stands.sound (with_at w.marks m []) (λ k. elim (with_at_cases w.marks m t.marks [] k) [ inl x ↦ inl x | inr x ↦ inr (inl x.2) ]) in
        settle W end h.packets follows h.spelled
        (subst (λ (r : Row). Sound z.count ts.votes (saved w.rows m (number_of e) r) end.marks h.packets end.offers (released_in end.releases)) (sym same) saved_it)
        ts.grows
        (subst (λ (r : Row). (k j : ℕ) (b : Ballot) (u : Entry) → ts.votes k j b u → V k j b u ⊎ VotedAt (saved w.rows m (number_of e) r k j) b u) (sym same) ts.held)
        h.set

    may : (armed' : Option Bool) (t : Turn) → IsTurn (seat_at z m) (w.marks m) (w.rows m (number_of e)) e t → MayLeave armed' o (w.rows m (number_of e)) t.row row → SoundState z W end
    may (Some false) t turn x = old_row x.1
    may (Some true) t turn x = elim x [ inl y ↦ new_row t turn y.1 | inr y ↦ elim y.1 [ inl q ↦ old_row q | inr q ↦ new_row t turn q ] ]
    may None t turn x = elim x.1 [ inl y ↦ old_row y | inr y ↦ new_row t turn y ]

    by : Leaves z w m call e o row armed → SoundState z W end
    by (store_before_save how unrefused same stays) = old_row same
    by (memory_before_save how unrefused same stays) = old_row same
    by (at_save t unrefused turn changes x disarmed) = may (w.armed m) t (is_turn (seat_at z m) (w.marks m) (w.rows m (number_of e)) e t member turn) x

-- nothing changed
stays_sound : {D G F : Type 0} {z : Circuit D G F} {V : Votes} (W : Votes) (w after : State G F) → SoundState z V w → IsSameState after w → Follows V W after → SoundState z W after
stays_sound {G = G} {F = F} {z = z} {V = V} W w after h is f =
    subst (λ (x : State G F). SoundState z W x) (sym (same_state is)) (calm_sound W w w h (subst (λ (x : State G F). Follows V W x) (same_state is) f) refl refl h.sound)

pub step_sound :
    {D G F : Type 0} {z : Circuit D G F} {V : Votes} (W : Votes) (w : State G F) (s : Step) (o : Outcome D F) (after : State G F)
    → SoundState z V w → StepsTo z w s o after → Follows V W after → SoundState z W after
step_sound W w s o after h (is_refused m call r task member refused how is) f = stays_sound W w after h is f
step_sound W w s o after h (is_idle m call task member unrefused event how is) f = stays_sound W w after h is f
step_sound W w s o after h (is_spent m call e task member unrefused event turn how is) f = stays_sound W w after h is f
step_sound {z = z} W w s o after h (is_done m call e t out task member unrefused event turn carried armed how is) f =
    done_sound W w m e t out after h (turns w s m call e t h member task event (is_turn (seat_at z m) (w.marks m) (w.rows m (number_of e)) e t member turn)) (all_go z (w.version m) t.out out carried) (same_state is) f
step_sound W w s o after h (is_torn m call e row armed task member event leaves is) f =
    torn_sound W w s m call e o row armed after h member task event leaves (same_state is) f
step_sound {G = G} {F = F} {z = z} {V = V} W w s o after h (restarts m member is_restart how is) f =
    subst (λ (x : State G F). SoundState z W x) (sym (same_state is)) (calm_sound W w _ h (subst (λ (x : State G F). Follows V W x) (same_state is) f) refl refl (clear m h.sound))
step_sound {G = G} {F = F} {z = z} {V = V} W w s o after h (upgrades m member is_upgrade how unarmed is) f =
    subst (λ (x : State G F). SoundState z W x) (sym (same_state is)) (calm_sound W w _ h (subst (λ (x : State G F). Follows V W x) (same_state is) f) refl refl (clear m h.sound))
step_sound {G = G} {F = F} {z = z} {V = V} W w s o after h (upgrade_is_torn m v member is_upgrade turns is) f =
    subst (λ (x : State G F). SoundState z W x) (sym (same_state is)) (calm_sound W w _ h (subst (λ (x : State G F). Follows V W x) (same_state is) f) refl refl (clear m h.sound))
step_sound {G = G} {F = F} {z = z} {V = V} W w s o after h (is_armed m b member is_balk how is) f =
    subst (λ (x : State G F). SoundState z W x) (sym (same_state is)) (calm_sound W w _ h (subst (λ (x : State G F). Follows V W x) (same_state is) f) refl refl h.sound)

fresh_sound : {D G F : Type 0} {z : Circuit D G F} (version : ℕ → Version) (w : State G F) → IsSameState w (fresh version) → SoundState z (HoldsVote w) w
fresh_sound {G = G} {F = F} {z = z} version w f = record {
  packets = [];
  spelled = subst (λ (l : List Datagram). AllZip (Goes z) [] l) (sym f.sent) tt;
  sound = record {
    kept = λ m n v e. e;
    valid = λ m n v e. absurd (unvoted m n v e);
    last = λ m n b t e. absurd (unvoted m n _ e);
    one = λ m n b t u e i. absurd (unvoted m n _ e);
    owned = λ m n b t e. absurd (unvoted m n _ e);
    safe = λ m n b t e. absurd (unvoted m n _ e);
    offered = λ m n b t e. absurd (unvoted m n _ e);
    packets = λ p i. absurd i;
    marked = λ m x i. absurd (subst (λ (l : List Mark). IsAmong l x) (f.marks m) i);
    gathering = λ m. record { unvoted = λ n b own report now since before e np. absurd (not_empty since (Began n b own report now) before (sym (f.marks m) ∙ e)) };
    chosen = λ n t (x, i, en, et). absurd (subst (λ (l : List (Release G F)). IsAmong l x) f.releases i);
  };
  set = λ x i. absurd (subst (λ (l : List (Release G F)). IsAmong l x) f.releases i);
}
  where
    unvoted : (m n : ℕ) (v : Vote) → (w.rows m n).vote ≡ Some v → ⊥
    unvoted m n v e = let none : None ≡ Some v = sym (ap (λ (x : Row). x.vote) (f.rows m n)) ∙ e in cc

pub history_sound : {D G F : Type 0} {z : Circuit D G F} {w : State G F} → (h : History z w) → SoundState z (WasVoted h) w
history_sound {w = w} (starts version f) = fresh_sound version w f
history_sound (goes_on {w = w} {after = after} h s o st) =
    step_sound (WasVoted (goes_on h s o st)) w s o after (history_sound h) st
    (record { stay = λ m n b t v. inr v; taken = λ m n b t v. inl v; only = λ m n b t v. elim v [ inl x ↦ inr x | inr x ↦ inl x ] })
