-- From the checks of a call to its step.
use Rattle.std.proofs.Common.{◌≡◌, ◌≤◌, ℕ, inl, inr, refl, sym, ap, subst, ◌∙◌, List, [], ◌∷◌, Option, Some, None, Bool, true, false}
use Rattle.std.specs.Prelude.{◌==◌, Result, Ok, Err, IsErr, IsErrAnd, not, is_some, if◌then◌else◌}
use Rattle.std.proofs.lemmas.Bool.{le-leb}
use Rattle.protocol.specs.Seats.{Seat}
use Rattle.protocol.specs.Lists.{or_else}
use Rattle.protocol.specs.Packets.{Packet}
use Rattle.protocol.specs.Entries.{Entry, Taped}
use Rattle.protocol.specs.Versions.{Version, One, Two, fits}
use Rattle.protocol.specs.Marks.{Mark, Began}
use Rattle.protocol.specs.Rows.{Row, raised}
use Rattle.protocol.specs.Ballots.{Ballot, next}
use Rattle.protocol.specs.Proposals.{Opening, pick, was_released, open_proposal, opening_ballot, open_ballot, next_due}
use Rattle.protocol.specs.Turn.{Event, Offered, Sought, Came_due, Arrived, Recalled, propose, begin, start_turn}
use Rattle.protocol.specs.Turn as said
use Rattle.protocol.specs.Refusals as refusals
use Rattle.protocol.specs.Limits.{is_number}
use Rattle.code_table.specs.Tables.{mean}
use Rattle.packets.specs.Reading.{packet_at}
use Rattle.packets.specs.declared.fault.PacketFault.{PacketFault}
use Rattle.line_check.specs.Sets.{first_fault}
use Rattle.line_check.specs.declared.fault.SetFault.{SetFault}
use Rattle.node_core.specs.Standing.{Core, StandsFor, IsSameSeat, seat_of}
use Rattle.station.specs.declared.answer.Answer.{Answer}
use Rattle.station.specs.declared.station.Station.{Station}
use Rattle.refusals.specs.declared.refusal.StepRefusal.{StepRefusal}
use Rattle.refusals.specs.declared.refusal.StepRefusal.TheVariants.{Stopped, BadDatagram, WrongCircuit, NotForMe, Stranger, BadNumber, NoSuchMember, AlreadyReleased, AlreadyOpen, WireTooOld, TapeFaulty, RoundsSpent, Store, OutOfMemory}
use Rattle.station.specs.Refusing.{Refusal, IsRefusal, Checks}
use Rattle.station.specs.Speaking.{is_lower}
use Rattle.station.specs.Stations.{Sight, setup_of, sets_entry, unless_faulty, IsFixed, wire_at, Follows}
use Rattle.station.specs.Steps.{turn_of, Ends, Asks, AsksEarly, TornByMemory, Steps, TakesStep}
use Rattle.node_core.specs.Turns.{Stirs, note_value}
use Rattle.node_core.specs.declared.turn.Note.TheVariants.{Idle}

none_first : {A : Type 0} (o p : Option A) → or_else o p ≡ None → o ≡ None
none_first None p h = refl
none_first (Some v) p h = cc

pub early : {R : Type 0} (s : Station R) (marks : List Mark) (call : refusals.Call) (e : Event) → Asks s marks call e → AsksEarly s marks call e
early s marks call e h = record {
  unrefused = none_first (refusals.early_refusal (setup_of s) s.stopped marks call) (refusals.tape_refusal (setup_of s) call) h.unrefused;
  event = h.event;
}

-- an event that nothing refused, as the step of its call
pub stepped :
    {R : Type 0} (x : Sight R) (call : refusals.Call) (e : Event) (old new : Station R) (marks : List Mark) (r : Result Answer StepRefusal)
    → Asks old marks call e → Ends x e old new marks r → Steps x call old new marks r
stepped x call e old new marks (Ok a) h s = inr (e, h, s)
stepped x call e old new marks (Err (Store fault)) h s = (e, h, s)
stepped x call e old new marks (Err OutOfMemory) h s = (e, early old marks call e h, s)
stepped x call e old new marks (Err RoundsSpent) h s = (e, h, s)
stepped x call e old new marks (Err Stopped) h s = absurd s
stepped x call e old new marks (Err (BadDatagram fault)) h s = absurd s
stepped x call e old new marks (Err WrongCircuit) h s = absurd s
stepped x call e old new marks (Err NotForMe) h s = absurd s
stepped x call e old new marks (Err Stranger) h s = absurd s
stepped x call e old new marks (Err BadNumber) h s = absurd s
stepped x call e old new marks (Err NoSuchMember) h s = absurd s
stepped x call e old new marks (Err AlreadyReleased) h s = absurd s
stepped x call e old new marks (Err AlreadyOpen) h s = absurd s
stepped x call e old new marks (Err WireTooOld) h s = absurd s
stepped x call e old new marks (Err (TapeFaulty fault)) h s = absurd s

-- where nothing is refused before a tape is set, what setting it refuses is
pub last_refusal :
    (s : refusals.Setup PacketFault (Unit {0}) SetFault) (stopped : Bool) (marks : List Mark) (call : refusals.Call)
    → stopped ≡ false → refusals.call_refusal s marks call ≡ None → refusals.refusal s stopped marks call ≡ refusals.tape_refusal s call
last_refusal s stopped marks call goes h =
    subst (λ (b : Bool). refusals.refusal s b marks call ≡ refusals.tape_refusal s call) (sym goes) (ap (λ (o : Option Refusal). or_else o (refusals.tape_refusal s call)) h)

-- nothing is refused to a station that goes on, before a tape is set
pub early_none :
    (s : refusals.Setup PacketFault (Unit {0}) SetFault) (stopped : Bool) (marks : List Mark) (call : refusals.Call)
    → stopped ≡ false → refusals.call_refusal s marks call ≡ None → refusals.early_refusal s stopped marks call ≡ None
early_none s stopped marks call goes h = subst (λ (b : Bool). refusals.early_refusal s b marks call ≡ None) (sym goes) h

number_test : Bool → Bool → Option Opening → Option Refusal
number_test a b o =
    if not a then Some refusals.Bad_number
    else if b then Some refusals.Already_released
    else if is_some o then Some refusals.Already_open
    else None

number_free : (a b : Bool) (o : Option Opening) → number_test a b o ≡ None → (b ≡ false) × (o ≡ None)
unfolding number_test
number_free false b o h = cc
number_free true true o h = cc
number_free true false (Some p) h = cc
number_free true false None h = (refl, refl)

-- a number that is not refused is neither released nor open
pub free : (n : ℕ) (marks : List Mark) → refusals.number_refusal {D = PacketFault} {F = SetFault} n marks ≡ None → (was_released n marks ≡ false) × (open_proposal n marks ≡ None)
unfolding number_test
free n marks h = number_free (is_number n) (was_released n marks) (open_proposal n marks) h

is_known : (n : ℕ) → 1 ≤ n → n ≤ 999999 → is_number n ≡ true
is_known n low high = rw (le-leb 1 n low) (le-leb n 999999 high)

is_opened : (o : Option Opening) → is_some (opening_ballot o) ≡ is_some o
is_opened None = refl
is_opened (Some p) = refl

known_released : (a b : Bool) (o : Option Opening) → a ≡ true → b ≡ true → number_test a b o ≡ Some refusals.Already_released
unfolding number_test
known_released a b o x y = rw x (rw y refl)

known_open : (a b : Bool) (o : Option Opening) → a ≡ true → b ≡ false → is_some o ≡ true → number_test a b o ≡ Some refusals.Already_open
unfolding number_test
known_open a b o x y z = rw x (rw y (rw z refl))

known_free : (a b : Bool) (o : Option Opening) → a ≡ true → b ≡ false → is_some o ≡ false → number_test a b o ≡ None
unfolding number_test
known_free a b o x y z = rw x (rw y (rw z refl))

-- what the tests of a number tell
module _ (n : ℕ) (marks : List Mark) (low : 1 ≤ n) (high : n ≤ 999999) (m : ℕ) (same : m ≡ n) where
  pub refused_released : (b : Bool) → b ≡ was_released m marks → b ≡ true → refusals.number_refusal {D = PacketFault} {F = SetFault} n marks ≡ Some refusals.Already_released
  unfolding number_test
  refused_released b is h =
      known_released (is_number n) (was_released n marks) (open_proposal n marks) (is_known n low high) (sym (is ∙ ap (λ (k : ℕ). was_released k marks) same) ∙ h)

  module _ (b : Bool) (is : b ≡ was_released m marks) (kept : b ≡ false) (o : Option Ballot) (opened : o ≡ open_ballot m marks) where
    unreleased : was_released n marks ≡ false
    unreleased = sym (is ∙ ap (λ (k : ℕ). was_released k marks) same) ∙ kept

    has_ballot : (s : Bool) → is_some o ≡ s → is_some (open_proposal n marks) ≡ s
    has_ballot s h =
        sym (ap (λ (p : Option Ballot). is_some p) opened ∙ (is_opened (open_proposal m marks) ∙ ap (λ (k : ℕ). is_some (open_proposal k marks)) same)) ∙ h

    pub refused_open : is_some o ≡ true → refusals.number_refusal {D = PacketFault} {F = SetFault} n marks ≡ Some refusals.Already_open
    unfolding number_test
    refused_open h = known_open (is_number n) (was_released n marks) (open_proposal n marks) (is_known n low high) unreleased (has_ballot true h)

    pub unrefused : is_some o ≡ false → refusals.number_refusal {D = PacketFault} {F = SetFault} n marks ≡ None
    unfolding number_test
    unrefused h = known_free (is_number n) (was_released n marks) (open_proposal n marks) (is_known n low high) unreleased (has_ballot false h)

-- the same of an equal number
pub free_at :
    (n m : ℕ) (marks : List Mark) → m ≡ n → refusals.number_refusal {D = PacketFault} {F = SetFault} n marks ≡ None
    → (was_released m marks ≡ false) × (open_proposal m marks ≡ None)
free_at n m marks same h = subst (λ (k : ℕ). (was_released k marks ≡ false) × (open_proposal k marks ≡ None)) (sym same) (free n marks h)

-- where an offer is not refused for its number, that of an entry that fits is not refused, and that of another is
wired : (o : Option Refusal) (fit b : Bool) → fit ≡ b → o ≡ None → or_else o (refusals.wire_refusal {D = PacketFault} {F = SetFault} fit) ≡ refusals.wire_refusal b
wired o fit b is h = ap (λ (p : Option Refusal). or_else p (refusals.wire_refusal {D = PacketFault} {F = SetFault} fit)) h ∙ ap (λ (c : Bool). refusals.wire_refusal {D = PacketFault} {F = SetFault} c) is

module _ (v : Version) (n : ℕ) (marks : List Mark) (entry : Entry) (b : Bool) (test : b ≡ fits v entry) (h : refusals.number_refusal {D = PacketFault} {F = SetFault} n marks ≡ None) where
  pub offer_fits : b ≡ true → or_else (refusals.number_refusal {D = PacketFault} {F = SetFault} n marks) (refusals.wire_refusal (fits v entry)) ≡ None
  offer_fits is = wired (refusals.number_refusal n marks) (fits v entry) true (sym test ∙ is) h

  pub offer_too_old : b ≡ false → or_else (refusals.number_refusal {D = PacketFault} {F = SetFault} n marks) (refusals.wire_refusal (fits v entry)) ≡ Some refusals.Wire_too_old
  offer_too_old is = wired (refusals.number_refusal n marks) (fits v entry) false (sym test ∙ is) h

-- the number of an offer that is not refused before its entry is set is free
pub offer_free_at :
    (v : Version) (n m : ℕ) (marks : List Mark) (entry : Entry) → m ≡ n → or_else (refusals.number_refusal {D = PacketFault} {F = SetFault} n marks) (refusals.wire_refusal (fits v entry)) ≡ None
    → (was_released m marks ≡ false) × (open_proposal m marks ≡ None)
offer_free_at v n m marks entry same h = free_at n m marks same (none_first (refusals.number_refusal n marks) (refusals.wire_refusal (fits v entry)) h)

-- an offer that nothing refuses
pub offered :
    {R : Type 0} (s : Station R) (marks : List Mark) (n m : ℕ) (entry t : Entry) (now : ℕ)
    → s.stopped ≡ false → refusals.call_refusal (setup_of s) marks (refusals.Offering n entry now) ≡ None → sets_entry s.table s.widths entry ≡ Ok tt → m ≡ n → t ≡ entry
    → Asks s marks (refusals.Offering n entry now) (Offered m t now)
offered s marks n m entry t now goes h sets same equal = record {
  unrefused = last_refusal (setup_of s) s.stopped marks (refusals.Offering n entry now) goes h ∙ ap (λ (r : Result (Unit {0}) SetFault). refusals.setting_refusal {D = PacketFault} r) sets;
  event = λ i. Some (Offered (sym same i) (sym equal i) now);
}

-- the same before its entry is set
pub offered_early :
    {R : Type 0} (s : Station R) (marks : List Mark) (n : ℕ) (entry : Entry) (now : ℕ)
    → s.stopped ≡ false → refusals.call_refusal (setup_of s) marks (refusals.Offering n entry now) ≡ None → AsksEarly s marks (refusals.Offering n entry now) (Offered n entry now)
offered_early s marks n entry now goes h = record {
  unrefused = early_none (setup_of s) s.stopped marks (refusals.Offering n entry now) goes h;
  event = refl;
}

-- a search that nothing refuses
pub sought :
    {R : Type 0} (s : Station R) (marks : List Mark) (n m now : ℕ)
    → s.stopped ≡ false → refusals.number_refusal {D = PacketFault} {F = SetFault} n marks ≡ None → m ≡ n → Asks s marks (refusals.Seeking n now) (Sought m now)
sought s marks n m now goes h same = record {
  unrefused = last_refusal (setup_of s) s.stopped marks (refusals.Seeking n now) goes h;
  event = λ i. Some (Sought (sym same i) now);
}

-- a vote that is told again, where nothing refuses that
pub recalled :
    {R : Type 0} (s : Station R) (marks : List Mark) (n m to k : ℕ)
    → s.stopped ≡ false → refusals.recall_refusal {D = PacketFault} {F = SetFault} s.speaker.core.members n to ≡ None → m ≡ n → k ≡ to
    → Asks s marks (refusals.Recalling n to) (Recalled m k)
recalled s marks n m to k goes h same him = record {
  unrefused = last_refusal (setup_of s) s.stopped marks (refusals.Recalling n to) goes h;
  event = λ i. Some (Recalled (sym same i) (sym him i));
}

-- a number that is due
pub came_due :
    {R : Type 0} (s : Station R) (marks : List Mark) (n now : ℕ) → s.stopped ≡ false → next_due s.speaker.core.me now marks ≡ Some n → Asks s marks (refusals.Falling_due now) (Came_due n now)
came_due s marks n now goes h = record {
  unrefused = last_refusal (setup_of s) s.stopped marks (refusals.Falling_due now) goes refl;
  event = ap (λ (o : Option ℕ). refusals.due_event o now) h;
}

-- bytes of a packet that nothing refuses
pub received :
    {R : Type 0} (s : Station R) (marks : List Mark) (bytes : List ℕ) (now : ℕ) (p : Packet)
    → s.stopped ≡ false → packet_at s.speaker.wire bytes ≡ Ok p → refusals.packet_refusal {D = PacketFault} {F = SetFault} (seat_of s.speaker.core) p ≡ None
    → Asks s marks (refusals.Receiving bytes now) (Arrived p now)
received s marks bytes now p goes read h = record {
  unrefused = last_refusal (setup_of s) s.stopped marks (refusals.Receiving bytes now) goes
      (ap (λ (r : Result Packet PacketFault). refusals.reading_refusal {D = PacketFault} {F = SetFault} (seat_of s.speaker.core) r) read ∙ h);
  event = ap (λ (r : Result Packet PacketFault). refusals.arrival r now) read;
}

-- what is due of the station's core
pub due_at :
    {R : Type 0} (s : Station R) (marks : List Mark) (now : ℕ) (core : Core) (o : Option ℕ) → core ≡ s.speaker.core
    → (StandsFor core marks → o ≡ next_due core.me now marks) → StandsFor s.speaker.core marks → next_due s.speaker.core.me now marks ≡ o
due_at s marks now core o same value stands =
    ap (λ (k : Core). next_due k.me now marks) (sym same) ∙ sym (value (subst (λ (k : Core). StandsFor k marks) (sym same) stands))

-- the entry of an offer, lent as this tape
pub offer_of :
    {R : Type 0} (s : Station R) (marks : List Mark) (n now : ℕ) (t tape : List ℕ) → t ≡ tape
    → or_else (refusals.number_refusal {D = PacketFault} {F = SetFault} n marks) (refusals.wire_refusal (fits s.speaker.wire (Taped t))) ≡ None
    → refusals.call_refusal (setup_of s) marks (refusals.Offering n (Taped tape) now) ≡ None
offer_of s marks n now t tape same h = subst (λ (u : List ℕ). refusals.call_refusal (setup_of s) marks (refusals.Offering n (Taped u) now) ≡ None) same h

pub refusal_of :
    {R : Type 0} (s : Station R) (marks : List Mark) (n now : ℕ) (t tape : List ℕ) (r : StepRefusal) → t ≡ tape
    → IsRefusal (or_else (refusals.number_refusal n marks) (refusals.wire_refusal (fits s.speaker.wire (Taped t)))) r
    → IsRefusal (refusals.call_refusal (setup_of s) marks (refusals.Offering n (Taped tape) now)) r
refusal_of s marks n now t tape r same h = subst (λ (u : List ℕ). IsRefusal (refusals.call_refusal (setup_of s) marks (refusals.Offering n (Taped u) now)) r) same h

-- what is offered or sought begins a ballot: its turn is not quiet
propose_stirs : (z : Seat) (n : ℕ) (b : Ballot) (now : ℕ) (marks : List Mark) (row : Row) (o : Option Entry) → Stirs (propose z n b now marks row o)
propose_stirs z n b now marks row None = refl
propose_stirs z n b now marks row (Some t) = refl

begin_stirs : (z : Seat) (n : ℕ) (b : Ballot) (own : Option Entry) (now : ℕ) (marks : List Mark) (row : Row) → Stirs (begin z n b own now marks row)
begin_stirs z n b own now marks row = go (z.members == 1) refl
  where
    go : (x : Bool) → (z.members == 1) ≡ x → Stirs (begin z n b own now marks row)
    go true e = rw e (propose_stirs z n b now (Began n b own row.vote now ∷ marks) (raised row b) (pick own (record { member = z.me; report = row.vote } ∷ [])))
    go false e = rw e refl

start_stirs : (z : Seat) (n : ℕ) (own : Option Entry) (now : ℕ) (marks : List Mark) (row : Row) (o : Option Ballot) (t : said.Turn) → start_turn z n own now marks row o ≡ Some t → Stirs t
start_stirs z n own now marks row None t e = absurd cc
start_stirs z n own now marks row (Some b) t e = let is : begin z n b own now marks row ≡ t = cc in subst Stirs is (begin_stirs z n b own now marks row)

pub offer_stirs : {R : Type 0} (x : Sight R) (s : Station R) (marks : List Mark) (n : ℕ) (entry : Entry) (now : ℕ) (t : said.Turn) → turn_of x s marks (Offered n entry now) ≡ Some t → Stirs t
offer_stirs x s marks n entry now t e =
    start_stirs (seat_of s.speaker.core) n (Some entry) now marks (x.saved s.rows n) (next (x.saved s.rows n).promised s.speaker.core.me) t e

-- memory was refused before the store was asked
pub torn_early :
    {R : Type 0} (x : Sight R) (call : refusals.Call) (e : Event) (old new : Station R) (marks : List Mark) (q : StepRefusal)
    → q ≡ OutOfMemory → AsksEarly old marks call e → ((t : said.Turn) → turn_of x old marks e ≡ Some t → Stirs t) → IsFixed old new
    → new ≡ record old { speaker = new.speaker; stopped = true } → StandsFor new.speaker.core []
    → Steps x call old new marks (Err q)
torn_early {R = R} x call e old new marks q same asks stirs fixed is none =
    let torn : TornByMemory x e old new marks =
    record { stirs = stirs; fixed = fixed; stops = ap (λ (t : Station R). t.stopped) is; stands_for = none; rows = inl (ap (λ (t : Station R). t.rows) is) } in
    subst (λ (r : StepRefusal). Steps x call old new marks (Err r)) (sym same) (e, asks, torn)

-- a call that is refused for its first reason
pub refused :
    {R : Type 0} (x : Sight R) (call : refusals.Call) (s : Station R) (marks : List Mark) (r : StepRefusal)
    → IsRefusal (refusals.refusal (setup_of s) s.stopped marks call) r → Steps x call s s marks (Err r)
refused x call s marks Stopped h = (h, refl)
refused x call s marks (BadDatagram fault) h = (h, refl)
refused x call s marks WrongCircuit h = (h, refl)
refused x call s marks NotForMe h = (h, refl)
refused x call s marks Stranger h = (h, refl)
refused x call s marks BadNumber h = (h, refl)
refused x call s marks NoSuchMember h = (h, refl)
refused x call s marks AlreadyReleased h = (h, refl)
refused x call s marks AlreadyOpen h = (h, refl)
refused x call s marks WireTooOld h = (h, refl)
refused x call s marks (TapeFaulty fault) h = (h, refl)
refused x call s marks RoundsSpent h = absurd h
refused x call s marks (Store fault) h = absurd h
refused x call s marks OutOfMemory h = absurd h

-- where something is refused, it does not matter what would be refused after it
known_refusal : (o p : Option Refusal) (r : StepRefusal) → IsRefusal o r → or_else o p ≡ o
known_refusal (Some v) p r h = refl
known_refusal None p Stopped h = cc
known_refusal None p (BadDatagram fault) h = cc
known_refusal None p WrongCircuit h = cc
known_refusal None p NotForMe h = cc
known_refusal None p Stranger h = cc
known_refusal None p BadNumber h = cc
known_refusal None p NoSuchMember h = cc
known_refusal None p AlreadyReleased h = cc
known_refusal None p AlreadyOpen h = cc
known_refusal None p WireTooOld h = cc
known_refusal None p (TapeFaulty fault) h = cc
known_refusal None p RoundsSpent h = absurd h
known_refusal None p (Store fault) h = absurd h
known_refusal None p OutOfMemory h = absurd h

-- a call of a station that goes on, refused before a tape is set
pub refused_early :
    {R : Type 0} (x : Sight R) (call : refusals.Call) (s : Station R) (marks : List Mark) (r : StepRefusal)
    → s.stopped ≡ false → IsRefusal (refusals.call_refusal (setup_of s) marks call) r → Steps x call s s marks (Err r)
refused_early x call s marks r goes h =
    let first : refusals.early_refusal (setup_of s) s.stopped marks call ≡ refusals.call_refusal (setup_of s) marks call =
    ap (λ (b : Bool). refusals.early_refusal (setup_of s) b marks call) goes in
    let whole : refusals.refusal (setup_of s) s.stopped marks call ≡ refusals.call_refusal (setup_of s) marks call =
    ap (λ (o : Option Refusal). or_else o (refusals.tape_refusal (setup_of s) call)) first
    ∙ known_refusal (refusals.call_refusal (setup_of s) marks call) (refusals.tape_refusal (setup_of s) call) r h in
    refused x call s marks r (subst (λ (o : Option Refusal). IsRefusal o r) (sym whole) h)

-- an offer that is refused for its number
pub refused_number :
    (v : Version) (n : ℕ) (entry : Entry) (marks : List Mark) (r : StepRefusal)
    → IsRefusal (refusals.number_refusal n marks) r → IsRefusal (or_else (refusals.number_refusal n marks) (refusals.wire_refusal (fits v entry))) r
refused_number v n entry marks r h = subst (λ (o : Option Refusal). IsRefusal o r) (sym (known_refusal (refusals.number_refusal n marks) (refusals.wire_refusal (fits v entry)) r h)) h

-- nothing is due
pub idled :
    {R : Type 0} (x : Sight R) (s : Station R) (marks : List Mark) (now : ℕ) (a : Answer)
    → s.stopped ≡ false → next_due s.speaker.core.me now marks ≡ None → a.out.items ≡ [] → a.release ≡ None → a.note ≡ Idle → a.number ≡ None → Steps x (refusals.Falling_due now) s s marks (Ok a)
idled x s marks now a goes none out release note number = inl (record {
  unrefused = last_refusal (setup_of s) s.stopped marks (refusals.Falling_due now) goes refl;
  no_event = ap (λ (o : Option ℕ). refusals.due_event o now) none;
  same = refl;
  out = out;
  release = release;
  note = ap note_value note;
  number = number;
})

-- an offer whose tape has a fault here
pub refused_faulty :
    {R : Type 0} (x : Sight R) (s : Station R) (marks : List Mark) (n : ℕ) (tape : List ℕ) (now : ℕ) (fault : SetFault)
    → s.stopped ≡ false → refusals.call_refusal (setup_of s) marks (refusals.Offering n (Taped tape) now) ≡ None → first_fault (mean s.table) s.widths tape ≡ Some fault
    → Steps x (refusals.Offering n (Taped tape) now) s s marks (Err (TapeFaulty fault))
refused_faulty x s marks n tape now fault goes h faulty =
    refused x (refusals.Offering n (Taped tape) now) s marks (TapeFaulty fault)
    (last_refusal (setup_of s) s.stopped marks (refusals.Offering n (Taped tape) now) goes h ∙ ap (λ (o : Option SetFault). refusals.setting_refusal {D = PacketFault} (unless_faulty o)) faulty)

-- a check that a `?` hands on
pub check_handed_on :
    {A : Type 0} (o : Option Refusal) (r : Result A StepRefusal) (q : StepRefusal) → IsErr r × IsErrAnd r (λ e. e ≡ q) → IsRefusal o q → Checks o r
check_handed_on o (Ok a) q h is = absurd h.1
check_handed_on o (Err e) q h is = subst (λ (t : StepRefusal). IsRefusal o t) (sym h.1) is

-- a version is not below itself
not_lower : (v : Version) → is_lower v v ≡ false
not_lower One = refl
not_lower Two = refl

-- a station that goes on followed its rows
pub followed :
    {R : Type 0} (x : Sight R) (old mid : Station R) → mid ≡ record old { speaker = mid.speaker } → mid.speaker.wire ≡ x.version old.rows
    → IsSameSeat old.speaker.core mid.speaker.core
    → (is_lower (x.version old.rows) old.speaker.wire ≡ false → mid.speaker.core ≡ old.speaker.core)
    → (is_lower (x.version old.rows) old.speaker.wire ≡ true → StandsFor mid.speaker.core []) → old.stopped ≡ false → Follows x old mid
followed {R = R} x old mid same wire seat keeps forgets goes =
    let at : wire_at x old ≡ x.version old.rows = ap (λ (b : Bool). if b then old.speaker.wire else x.version old.rows) goes in
    let lower : is_lower (x.version old.rows) old.speaker.wire ≡ is_lower (wire_at x old) old.speaker.wire = sym (ap (λ (v : Version). is_lower v old.speaker.wire) at) in
    record {
      same = same;
      fixed = record { circuit = seat.circuit; members = seat.members; me = seat.me; table = ap (λ (t : Station R). t.table) same; widths = ap (λ (t : Station R). t.widths) same };
      wire = wire ∙ sym at;
      keeps = λ h. keeps (lower ∙ h);
      forgets = λ h. forgets (lower ∙ h);
    }

-- one that is stopped stays as it is
pub stays_stopped : {R : Type 0} (x : Sight R) (call : refusals.Call) (s : Station R) → s.stopped ≡ true → TakesStep x call s s (Err Stopped)
stays_stopped x call s stopped =
    let at : wire_at x s ≡ s.speaker.wire = ap (λ (b : Bool). if b then s.speaker.wire else x.version s.rows) stopped in
    record {
      found = s;
      follows = record {
        same = refl;
        fixed = record { circuit = refl; members = refl; me = refl; table = refl; widths = refl };
        wire = sym at;
        keeps = λ h. refl;
        forgets = λ h. let no : true ≡ false = sym h ∙ (ap (λ (v : Version). is_lower v s.speaker.wire) at ∙ not_lower s.speaker.wire) in absurd cc;
      };
      steps = λ marks stands. (ap (λ (b : Bool). refusals.refusal (setup_of s) b marks call) stopped, refl);
    }
