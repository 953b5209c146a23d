-- What waits stays such as was let in.
use Rattle.std.proofs.Common.{◌≡◌, ℕ, ◌+◌, ◌-◌, inl, inr, Bool, true, false, List, [], length, drop, get_or, set, replicate, sym, ap, subst, arith}
use Rattle.std.specs.Prelude.{Option, Some, None, MatchOption}
use Rattle.std.specs.List.{All}
use Rattle.std.specs.declared.net.socket_addr.SocketAddr.{SocketAddr}
use Rattle.std.proofs.lemmas.Bool.{cases_lt, cases_eq}
use Rattle.std.proofs.lemmas.List.{length-set, get_or-set_same, get_or-set_other, get_or-replicate, get_or_past, length-replicate}
use Rattle.std.proofs.lemmas.List.Elements.{All-drop, All-push}
use Rattle.pace.specs.declared.share.Incoming.{Incoming}
use Rattle.pace.specs.Room.{WaitingValue, ShareValue, share_at, nothing_of, with_share, puts, puts_behind, taken_at, turn_of, nothing_waits, empty_share}
use Rattle.wire.specs.declared.address.Address.{Address}
use Rattle.wire.specs.declared.door.Brought.{Brought}
use Rattle.wire.specs.declared.door.Brought.TheVariants as brought
use Rattle.wire.specs.declared.wire.Arrival.{Arrival}
use Rattle.wire.specs.declared.wire.Arrival.TheVariants as arrivals
use Rattle.wire.specs.Arrival.{came_by}
use Rattle.wire.specs.Doors.{AllWait, Alike, AreOf, BringsAlike, BringsOnly, ComesAs, LetIn, NoneWaits, Stays}
use Rattle.wire.specs.Passing.{Passed, AllCame, Guards}
use Rattle.wire.specs.Plain.{AdmitsPlain, IsFrom, IsPacketOf}

-- nothing changes
pub alike_self : (Is : Incoming → Type 0) → Alike Is Is
alike_self Is = λ d. (λ x. x, λ x. x)

pub stays_self : (Is : Incoming → Type 0) (w : WaitingValue) → Stays Is Is w w
stays_self Is w = record { alike = alike_self Is; wait = λ all. all }

-- one step, and another
pub stays_then : (A B C : Incoming → Type 0) (u v w : WaitingValue) → Stays A B u v → Stays B C v w → Stays A C u w
stays_then A B C u v w first second = record {
  alike = λ d. (λ x. (first.alike d).0 ((second.alike d).0 x), λ x. (second.alike d).1 ((first.alike d).1 x));
  wait = λ all. second.wait (first.wait all);
}

-- the door changes, and what waits does not
pub stays_alike : (A B : Incoming → Type 0) (w : WaitingValue) → Alike A B → Stays A B w w
stays_alike A B w alike = record {
  alike = alike;
  wait = λ all place k d low. (alike (get_or (share_at place w).datagrams k d)).1 (all place k d low);
}

-- none waits of any
pub none_waits : (members : ℕ) → NoneWaits (nothing_waits members)
none_waits members = λ place. elim (cases_lt place members) as (λ _. (share_at place (nothing_waits members)).datagrams ≡ []) [
  | inl low ↦ ap (λ (s : ShareValue). s.datagrams) (get_or-replicate members place (empty_share members) (nothing_of 0 0) low)
  | inr past ↦ ap (λ (s : ShareValue). s.datagrams) (get_or_past (replicate members (empty_share members)) place (nothing_of 0 0) (let e = length-replicate members (empty_share members) in omega arith))
]

-- one share is another
with_one : (Is : Incoming → Type 0) (w : WaitingValue) (place : ℕ) (s : ShareValue) → AllWait Is w → All Is s.datagrams → AllWait Is (with_share place s w)
with_one Is w place s all new = λ k. elim (cases_eq k place) as (λ _. All Is (share_at k (with_share place s w)).datagrams) [
  | inl same ↦ elim (cases_lt place (length w.shares)) as (λ _. All Is (share_at k (with_share place s w)).datagrams) [
    | inl low ↦ subst (λ (n : ℕ). All Is (share_at n (with_share place s w)).datagrams) (sym same) (subst (λ (x : ShareValue). All Is x.datagrams) (sym (get_or-set_same w.shares place s (nothing_of 0 0) low)) new)
    | inr past ↦ subst (λ (x : ShareValue). All Is x.datagrams) (sym (get_or_past (set w.shares place s) k (nothing_of 0 0) (let e = length-set w.shares place s in omega arith))) (λ j d lt. absurd (omega arith))
  ]
  | inr other ↦ subst (λ (x : ShareValue). All Is x.datagrams) (sym (get_or-set_other w.shares place k s (nothing_of 0 0) other)) (all k)
]

-- one more waits, or is lost
pub put_waits : (Is : Incoming → Type 0) (found : Bool) (d : Incoming) (w : WaitingValue) → Is d → AllWait Is w → AllWait Is (puts found d w)
put_waits Is true d w is all =
    let s = share_at (d.sender - 1) w in
    with_one Is w (d.sender - 1) (puts_behind true d s) all (All-push Is s.datagrams d (all (d.sender - 1)) is)
put_waits Is false d w is all = all

-- one is taken
pub take_waits : (Is : Incoming → Type 0) (place : ℕ) (taken : Option Incoming) (old new : WaitingValue) → taken_at place taken old new → AllWait Is old → AllWait Is new
take_waits Is place taken old new at all =
    let s = share_at place old in
    subst (AllWait Is) (sym at.1) (with_one Is (record old { next = place + 1 }) place (record s { datagrams = drop 1 s.datagrams }) all (All-drop Is 1 s.datagrams (all place)))

pub taken_is : (Is : Incoming → Type 0) (place : ℕ) (d : Incoming) (old new : WaitingValue) → taken_at place (Some d) old new → AllWait Is old → Is d
taken_is Is place d old new at all =
    subst Is (ap (λ (l : List Incoming). get_or l 0 d) at.0) (all place 0 d (let e = ap length at.0 in omega arith))

-- what may have been taken
taken_stays : (Is : Incoming → Type 0) (turn : Option ℕ) (taken : Option Incoming) (old new : WaitingValue)
    → MatchOption turn ((taken ≡ None) × (new ≡ old)) (λ place. taken_at place taken old new) → Stays Is Is old new
taken_stays Is None taken old new at = record { alike = alike_self Is; wait = λ all. subst (AllWait Is) (sym at.1) all }
taken_stays Is (Some place) taken old new at = record { alike = alike_self Is; wait = take_waits Is place taken old new at }

pub take_stays : (Is : Incoming → Type 0) (taken : Option Incoming) (old new : WaitingValue)
    → MatchOption (turn_of old) ((taken ≡ None) × (new ≡ old)) (λ place. taken_at place taken old new) → Stays Is Is old new
take_stays Is taken old new at = taken_stays Is (turn_of old) taken old new at

taken_at_turn : (Is : Incoming → Type 0) (turn : Option ℕ) (d : Incoming) (old new : WaitingValue)
    → MatchOption turn ((Some d ≡ None) × (new ≡ old)) (λ place. taken_at place (Some d) old new) → AllWait Is old → Is d
taken_at_turn Is None d old new at all = let none = at.0 in absurd cc
taken_at_turn Is (Some place) d old new at all = taken_is Is place d old new at all

pub take_is : (Is : Incoming → Type 0) (taken : Option Incoming) (d : Incoming) (old new : WaitingValue)
    → MatchOption (turn_of old) ((taken ≡ None) × (new ≡ old)) (λ place. taken_at place taken old new) → taken ≡ Some d → AllWait Is old → Is d
take_is Is taken d old new at is all =
    taken_at_turn Is (turn_of old) d old new (subst (λ (o : Option Incoming). MatchOption (turn_of old) ((o ≡ None) × (new ≡ old)) (λ place. taken_at place o old new)) is at) all

-- these are the bytes of such a packet, as long as what is such stays the same
pub are_alike : (A B : Incoming → Type 0) (bytes : List ℕ) → Alike A B → AreOf B bytes → AreOf A bytes
are_alike A B bytes alike is = (is.0, (alike is.0).0 is.1, is.2)

-- what comes after a step
pub comes_then : (A B : Incoming → Type 0) (w v : WaitingValue) (a : Arrival) → Stays A B w v → (AllWait B v → ComesAs B a) → AllWait A w → ComesAs A a
comes_then A B w v arrivals.Nothing stays comes all = tt
comes_then A B w v (arrivals.Datagram bytes) stays comes all = are_alike A B bytes.items stays.alike (comes (stays.wait all))
comes_then A B w v arrivals.Failed stays comes all = tt

-- of what comes, each datagram is such
pub came_so : (Is : Incoming → Type 0) (a : Arrival) → ComesAs Is a → AllCame (AreOf Is) (came_by a)
came_so Is arrivals.Nothing comes = tt
came_so Is (arrivals.Datagram bytes) comes = (comes, tt)
came_so Is arrivals.Failed comes = tt

-- what is told of a step
pub stays_passes : (A B : Incoming → Type 0) (w v : WaitingValue) (more : List Passed) → Stays A B w v → (AllWait A w → AllCame (AreOf A) more)
    → Guards (AreOf A) (AreOf B) (AllWait A w) (AllWait B v) more
stays_passes A B w v more stays came = record {
  alike = λ bytes. (are_alike A B bytes stays.alike, are_alike B A bytes (λ d. ((stays.alike d).1, (stays.alike d).0)));
  stays = stays.wait;
  came = came;
}

-- what a door brings of a datagram that came was let in
pub brought_in : (came : SocketAddr → List ℕ → Type 0) (brings : SocketAddr → List ℕ → Incoming → Type 0) (sender : SocketAddr) (bytes : List ℕ) (b : Brought)
    → came sender bytes → BringsOnly (brings sender bytes) b → BringsOnly (LetIn came brings) b
brought_in came brings sender bytes (brought.Packet d) it is = (sender, bytes, it, is)
brought_in came brings sender bytes brought.Part it is = tt
brought_in came brings sender bytes brought.Lost it is = tt
brought_in came brings sender bytes (brought.Refused reason) it is = tt

-- where a door brings the same, the same is let in
pub let_in_alike : (came : SocketAddr → List ℕ → Type 0) (brings brings' : SocketAddr → List ℕ → Incoming → Type 0) → BringsAlike brings brings' → Alike (LetIn came brings) (LetIn came brings')
let_in_alike came brings brings' same = λ d.
    (λ it. (it.0, it.1, it.2, (same it.0 it.1 d).0 it.3), λ it. (it.0, it.1, it.2, (same it.0 it.1 d).1 it.3))

-- what a plain door lets in
pub admits_packet : (own : ℕ) (stations : List Address) (sender : SocketAddr) (member : ℕ) (bytes : List ℕ) (b : Brought) → IsFrom own stations sender member bytes
    → IsPacketOf member bytes b → AdmitsPlain own stations sender bytes b
admits_packet own stations sender member bytes (brought.Packet d) from is = (subst (λ (m : ℕ). IsFrom own stations sender m bytes) (sym is.0) from, is.1)
admits_packet own stations sender member bytes brought.Part from is = absurd is
admits_packet own stations sender member bytes brought.Lost from is = (member, from)
admits_packet own stations sender member bytes (brought.Refused reason) from is = absurd is
