-- A circuit: all its stations and the network between them; the steps that it takes, and its histories.
use Rattle.std.specs.Prelude.{◌≡◌, ℕ, ◌⊎◌, ◌-◌, List, [], ◌∷◌, ◌++◌, Option, Some, None, Result, Ok, Bool, true, false, ◌==◌, ◌&&◌, nat_le, slice_get, if◌then◌else◌}
use Rattle.std.specs.List.{AllZip}
use Rattle.protocol.specs.Seats.{Seat, sits}
use Rattle.protocol.specs.Ballots.{IsMember}
use Rattle.protocol.specs.Entries.{Entry}
use Rattle.protocol.specs.Rows.{Row, blank}
use Rattle.protocol.specs.Packets.{Packet}
use Rattle.protocol.specs.Versions.{Version, One, Two, fits}
use Rattle.protocol.specs.Marks.{Mark}
use Rattle.protocol.specs.Turn.{Event, Offered, Sought, Came_due, Arrived, Recalled, number_of, Note, Note_idle, Turn, turn}
use Rattle.protocol.specs.Refusals.{Setup, Call, Offering, Seeking, Falling_due, Receiving, Recalling, Refusal, Rounds_spent, refusal, early_refusal, event_of}

-- what a circuit is given: its number, how many members it has, which packet bytes spell in a version or why they spell none in it,
-- of which version bytes say that they are, and what each member's table and widths make of an entry.
-- Bytes that spell a packet in a version say that they are of that version.
pub record Circuit (D G F : Type 0) : Type 0 where
  pub number : ℕ
  pub count : ℕ
  pub reads : Version → List ℕ → Result Packet D
  pub version_of : List ℕ → Version
  pub sets : ℕ → Entry → Result G F
  pub says : (v : Version) (bytes : List ℕ) (p : Packet) → reads v bytes ≡ Ok p → version_of bytes ≡ v

-- what a station of this version takes bytes for: at version 1 what they spell in version 1,
-- at version 2 what they spell in the version that they say they are of
abbrev pub hears : {D G F : Type 0} → Circuit D G F → Version → List ℕ → Result Packet D
hears z One bytes = z.reads One bytes
hears z Two bytes = z.reads (z.version_of bytes) bytes

-- where member m sits
abbrev pub seat_at : {D G F : Type 0} → Circuit D G F → ℕ → Seat
seat_at z m = sits z.number m z.count

-- how member m's station is set up at this version
abbrev pub setup_of : {D G F : Type 0} → Circuit D G F → Version → ℕ → Setup D G F
setup_of z v m = record { seat = seat_at z m; reads = hears z v; fits = fits v; sets = z.sets m }

-- bytes on their way to a member
pub record Datagram : Type 0 where
  pub to : ℕ
  pub bytes : List ℕ

-- an entry that a member offered for a number
pub record Offer : Type 0 where
  pub member : ℕ
  pub number : ℕ
  pub entry : Entry

-- an entry that a member released for a number, and what its table and widths made of it
pub record Release (G F : Type 0) : Type 0 where
  pub member : ℕ
  pub number : ℕ
  pub entry : Entry
  pub set : Result G F

-- where a circuit stands: of each member the version, the rows by number, the marks, whether it is stopped,
-- and whether its store is armed to refuse the next save (as saved, or as unsaved);
-- and every datagram that was ever sent, every offer and every release
pub record State (G F : Type 0) : Type 0 where
  pub version : ℕ → Version
  pub rows : ℕ → ℕ → Row
  pub marks : ℕ → List Mark
  pub is_stopped : ℕ → Bool
  pub armed : ℕ → Option Bool
  pub sent : List Datagram
  pub offers : List Offer
  pub releases : List (Release G F)

-- two states have the same in each place
pub record IsSameState {G F : Type 0} (v w : State G F) : Type 0 where
  pub version : (m : ℕ) → v.version m ≡ w.version m
  pub rows : (m n : ℕ) → v.rows m n ≡ w.rows m n
  pub marks : (m : ℕ) → v.marks m ≡ w.marks m
  pub is_stopped : (m : ℕ) → v.is_stopped m ≡ w.is_stopped m
  pub armed : (m : ℕ) → v.armed m ≡ w.armed m
  pub sent : v.sent ≡ w.sent
  pub offers : v.offers ≡ w.offers
  pub releases : v.releases ≡ w.releases

-- a circuit starts with each member at its version, no row, no mark and nothing sent
abbrev pub fresh : {G F : Type 0} → (ℕ → Version) → State G F
fresh version = record {
  version = version;
  rows = λ m n. blank;
  marks = λ m. [];
  is_stopped = λ m. false;
  armed = λ m. None;
  sent = [];
  offers = [];
  releases = [];
}

-- a step: a member is asked something, the k-th datagram ever sent (from 1) is delivered to its addressee,
-- a member starts again, goes over to version 2, its store is armed to refuse the next save,
-- or a member is to tell its vote for a number again to one of them
pub data Step : Type 0 where
  Offers : (member : ℕ) → (number : ℕ) → (entry : Entry) → (now : ℕ) → Step
  Seeks : (member : ℕ) → (number : ℕ) → (now : ℕ) → Step
  Falls_due : (member : ℕ) → (now : ℕ) → Step
  Delivers : (which : ℕ) → (now : ℕ) → Step
  Restarts : (member : ℕ) → Step
  Upgrades : (member : ℕ) → Step
  Balks : (member : ℕ) → (saved : Bool) → Step
  Recalls : (member : ℕ) → (number : ℕ) → (to : ℕ) → Step

-- how a step ended: done with a note, refused, torn by the member's own store, as its store was armed to refuse, or by want of memory,
-- restarted, gone over to version 2, armed
pub data Outcome (D F : Type 0) : Type 0 where
  Done : (note : Note) → Outcome D F
  Refused : (refusal : Refusal D F) → Outcome D F
  Torn_by_store Torn_as_armed Torn_by_memory : Outcome D F
  Restarted : Outcome D F
  Upgraded : Outcome D F
  Armed : (saved : Bool) → Outcome D F

-- x in the place of m
abbrev pub with_at : {A : Type 0} → (ℕ → A) → ℕ → A → ℕ → A
with_at f m x k = if k == m then x else f k

-- the rows with this one saved
abbrev pub saved : (ℕ → ℕ → Row) → ℕ → ℕ → Row → ℕ → ℕ → Row
saved rows m n row = with_at rows m (with_at (rows m) n row)

-- the datagram spells the packet in this version, that of its sender, and goes to its addressee
abbrev pub Carries : {D G F : Type 0} → Circuit D G F → Version → Packet → Datagram → Type 0
Carries z v p d = (d.to ≡ p.to) × (z.reads v d.bytes ≡ Ok p)

-- the k-th datagram ever sent, from 1
abbrev pub datagram_at : List Datagram → ℕ → Option Datagram
datagram_at sent k = if k == 0 then None else slice_get sent (k - 1)

-- which member a step asks what
pub record Task : Type 0 where
  pub member : ℕ
  pub call : Call

-- a datagram is received by its addressee
abbrev pub delivery : Option Datagram → ℕ → Option Task
delivery None now = None
delivery (Some d) now = Some (record { member = d.to; call = Receiving d.bytes now })

-- what a step asks of a station, if it does
abbrev pub task_of : List Datagram → Step → Option Task
task_of sent (Offers m n entry now) = Some (record { member = m; call = Offering n entry now })
task_of sent (Seeks m n now) = Some (record { member = m; call = Seeking n now })
task_of sent (Falls_due m now) = Some (record { member = m; call = Falling_due now })
task_of sent (Delivers k now) = delivery (datagram_at sent k) now
task_of sent (Restarts m) = None
task_of sent (Upgrades m) = None
task_of sent (Balks m saved) = None
task_of sent (Recalls m n to) = Some (record { member = m; call = Recalling n to })

-- what the step asks is this call of member m
abbrev pub IsTask : List Datagram → Step → ℕ → Call → Type 0
IsTask sent s m call = task_of sent s ≡ Some (record { member = m; call = call })

-- the offers with that of an event, if it is one
abbrev pub offers_with : List Offer → ℕ → Event → List Offer
offers_with offers m (Offered n entry now) = offers ++ record { member = m; number = n; entry = entry } ∷ []
offers_with offers m (Sought n now) = offers
offers_with offers m (Came_due n now) = offers
offers_with offers m (Arrived p now) = offers
offers_with offers m (Recalled n to) = offers

-- the releases with that of a turn, if it has one
abbrev pub releases_with : {D G F : Type 0} → Circuit D G F → List (Release G F) → ℕ → ℕ → Option Entry → List (Release G F)
releases_with z releases m n None = releases
releases_with z releases m n (Some t) = releases ++ record { member = m; number = n; entry = t; set = z.sets m t } ∷ []

-- what a refused save leaves of a row, or a refused upgrade of a version, and how that step ends.
-- An armed store refuses by itself: as unsaved it leaves what was before, as saved what comes after.
-- The member's own store leaves either of them; one that is armed as unsaved does not ask it
abbrev pub MayLeave : {A D F : Type 0} → Option Bool → Outcome D F → A → A → A → Type 0
MayLeave (Some false) o before after now = (o ≡ Torn_as_armed) × (now ≡ before)
MayLeave (Some true) o before after now = ((o ≡ Torn_as_armed) × (now ≡ after)) ⊎ ((o ≡ Torn_by_store) × ((now ≡ before) ⊎ (now ≡ after)))
MayLeave None o before after now = (o ≡ Torn_by_store) × ((now ≡ before) ⊎ (now ≡ after))

-- what a step that is torn leaves of the row of the event's number and of the armed flag.
-- Before any save both are as they were: where nothing refuses the call the member's own store may fail as it is read,
-- and memory may be wanted before that, while an offered entry is set. At the save a row that it may leave, unarmed
pub data Leaves {D G F : Type 0} (z : Circuit D G F) (w : State G F) (m : ℕ) (call : Call) (e : Event)
    (o : Outcome D F) (row : Row) (armed : Option Bool) : Type 0 where
  store_before_save :
      o ≡ Torn_by_store → refusal (setup_of z (w.version m) m) (w.is_stopped m) (w.marks m) call ≡ None
      → row ≡ w.rows m (number_of e) → armed ≡ w.armed m → Leaves z w m call e o row armed
  memory_before_save :
      o ≡ Torn_by_memory → early_refusal (setup_of z (w.version m) m) (w.is_stopped m) (w.marks m) call ≡ None
      → row ≡ w.rows m (number_of e) → armed ≡ w.armed m → Leaves z w m call e o row armed
  at_save :
      (t : Turn) → refusal (setup_of z (w.version m) m) (w.is_stopped m) (w.marks m) call ≡ None
      → turn (seat_at z m) (w.marks m) (w.rows m (number_of e)) e ≡ Some t → ¬ (t.row ≡ w.rows m (number_of e))
      → MayLeave (w.armed m) o (w.rows m (number_of e)) t.row row → armed ≡ None → Leaves z w m call e o row armed

-- a step of a circuit, how it ends and where it leads
pub data StepsTo {D G F : Type 0} (z : Circuit D G F) (w : State G F) (s : Step) (o : Outcome D F) (after : State G F) : Type 0 where
  -- the station refuses before it asks its store
  is_refused :
      (m : ℕ) (call : Call) (r : Refusal D F) → IsTask w.sent s m call → IsMember z.count m
      → refusal (setup_of z (w.version m) m) (w.is_stopped m) (w.marks m) call ≡ Some r
      → o ≡ Refused r → IsSameState after w → StepsTo z w s o after
  -- nothing is due
  is_idle :
      (m : ℕ) (call : Call) → IsTask w.sent s m call → IsMember z.count m
      → refusal (setup_of z (w.version m) m) (w.is_stopped m) (w.marks m) call ≡ None
      → event_of (setup_of z (w.version m) m) (w.marks m) call ≡ None
      → o ≡ Done Note_idle → IsSameState after w → StepsTo z w s o after
  -- no ballot is left
  is_spent :
      (m : ℕ) (call : Call) (e : Event) → IsTask w.sent s m call → IsMember z.count m
      → refusal (setup_of z (w.version m) m) (w.is_stopped m) (w.marks m) call ≡ None
      → event_of (setup_of z (w.version m) m) (w.marks m) call ≡ Some e
      → turn (seat_at z m) (w.marks m) (w.rows m (number_of e)) e ≡ None
      → o ≡ Refused Rounds_spent → IsSameState after w → StepsTo z w s o after
  -- the turn is taken: the row is saved, the marks grow, and what goes out, an offer and a release are added
  is_done :
      (m : ℕ) (call : Call) (e : Event) (t : Turn) (out : List Datagram) → IsTask w.sent s m call → IsMember z.count m
      → refusal (setup_of z (w.version m) m) (w.is_stopped m) (w.marks m) call ≡ None
      → event_of (setup_of z (w.version m) m) (w.marks m) call ≡ Some e
      → turn (seat_at z m) (w.marks m) (w.rows m (number_of e)) e ≡ Some t
      → AllZip (Carries z (w.version m)) t.out out
      → (w.armed m ≡ None) ⊎ (t.row ≡ w.rows m (number_of e))
      → o ≡ Done t.note
      → IsSameState after (record w {
        rows = saved w.rows m (number_of e) t.row;
        marks = with_at w.marks m t.marks;
        sent = w.sent ++ out;
        offers = offers_with w.offers m e;
        releases = releases_with z w.releases m (number_of e) t.release;
      })
      → StepsTo z w s o after
  -- the store or want of memory ends it: the station stops and forgets its marks, and nothing is sent or released
  is_torn :
      (k : ℕ) (call : Call) (e : Event) (row : Row) (armed : Option Bool) → IsTask w.sent s k call → IsMember z.count k
      → event_of (setup_of z (w.version k) k) (w.marks k) call ≡ Some e
      → Leaves z w k call e o row armed
      → IsSameState after (record w {
        rows = saved w.rows k (number_of e) row;
        marks = with_at w.marks k [];
        is_stopped = with_at w.is_stopped k true;
        armed = with_at w.armed k armed;
        offers = offers_with w.offers k e;
      })
      → StepsTo z w s o after
  -- a member starts again: it forgets its marks and keeps its rows (to Lamport a process that fails and restarts)
  restarts :
      (m : ℕ) → IsMember z.count m → s ≡ Restarts m → o ≡ Restarted
      → IsSameState after (record w { marks = with_at w.marks m []; is_stopped = with_at w.is_stopped m false })
      → StepsTo z w s o after
  -- an upgrade: a member starts again at version 2 with all its rows
  upgrades :
      (m : ℕ) → IsMember z.count m → s ≡ Upgrades m → o ≡ Upgraded → w.armed m ≡ None
      → IsSameState after (record w { version = with_at w.version m Two; marks = with_at w.marks m []; is_stopped = with_at w.is_stopped m false })
      → StepsTo z w s o after
  -- a torn upgrade: the store refuses to go over; all rows stand, and all are of the old version or all of version 2;
  -- the station stops and forgets its marks
  upgrade_is_torn :
      (m : ℕ) (v : Version) → IsMember z.count m → s ≡ Upgrades m → MayLeave (w.armed m) o (w.version m) Two v
      → IsSameState after (record w {
        version = with_at w.version m v;
        marks = with_at w.marks m [];
        is_stopped = with_at w.is_stopped m true;
        armed = with_at w.armed m None;
      })
      → StepsTo z w s o after
  -- a member's store is armed
  is_armed :
      (m : ℕ) (b : Bool) → IsMember z.count m → s ≡ Balks m b → o ≡ Armed b
      → IsSameState after (record w { armed = with_at w.armed m (Some b) })
      → StepsTo z w s o after

-- a history of a circuit: a fresh state, or a history and one step more
pub data History {D G F : Type 0} (z : Circuit D G F) : State G F → Type 0 where
  starts : {w : State G F} (version : ℕ → Version) → IsSameState w (fresh version) → History z w
  goes_on : {w after : State G F} → History z w → (s : Step) → (o : Outcome D F) → StepsTo z w s o after → History z after

-- why there is no such step
pub data Missing : Type 0 where
  No_such_member No_such_datagram : Missing

-- the member is none of the circuit's
abbrev pub member_missing : ℕ → ℕ → Option Missing
member_missing c m = if nat_le 1 m && nat_le m c then None else Some No_such_member

-- the datagram was never sent, or its addressee is none of the circuit's
abbrev pub datagram_missing : ℕ → Option Datagram → Option Missing
datagram_missing c None = Some No_such_datagram
datagram_missing c (Some d) = member_missing c d.to

-- why a circuit of c members has no such step after these datagrams
abbrev pub missing : ℕ → List Datagram → Step → Option Missing
missing c sent (Offers m n entry now) = member_missing c m
missing c sent (Seeks m n now) = member_missing c m
missing c sent (Falls_due m now) = member_missing c m
missing c sent (Delivers k now) = datagram_missing c (datagram_at sent k)
missing c sent (Restarts m) = member_missing c m
missing c sent (Upgrades m) = member_missing c m
missing c sent (Balks m saved) = member_missing c m
missing c sent (Recalls m n to) = member_missing c m
