-- The logs of a circuit's processes, taken together in one order: that they make a day.
use Rattle.std.specs.Prelude.{◌≡◌, ◌==◌, if◌then◌else◌, true, ℕ, List, [], ◌∷◌, Result, Ok, Err}
use Rattle.protocol.specs.Ballots.{IsMember}
use Rattle.protocol.specs.Refusals.{Call, Offering, Seeking, Falling_due, Receiving, Recalling}
use Rattle.rows_saved.specs.declared.rows.Rows.{Ghosts}
use Rattle.refusals.specs.declared.refusal.StepRefusal.{StepRefusal}
use Rattle.refusals.specs.declared.refusal.StepRefusal.TheVariants.{Stopped}
use Rattle.station.specs.declared.station.Station.{Station}
use Rattle.wire.specs.Passing.{Trace, untold, listed, guarded}
use Rattle.command_ends.specs.declared.end.End.{End}
use Rattle.driver.specs.Events.{Event, asked, took, stored, aside}
use Rattle.driver.specs.Driving.{Post, Fate, Driven, Stepped, known}
use Rattle.days.specs.Happening.{Happened, did, ended, At_rest, Came}
use Rattle.days.specs.Handing.{Plants, Member, runs, over}
use Rattle.days.specs.Days.{Day, IsDayAgreed, OfferedFirst}

-- the events of all processes in one order, the earliest first, each with the member whose process it is of
abbrev pub Order : Type 0
Order = List (ℕ × Event)

-- the log of one member's process: its events, in that order
abbrev pub log_of : ℕ → Order → List Event
log_of m [] = []
log_of m (x ∷ rest) = if x.0 == m then x.1 ∷ log_of m rest else log_of m rest

-- the day after a member's process was to store what it saved: where that is refused the process ends, unless it was over before
abbrev pub day_stored : ℕ → Result (Unit {0}) StepRefusal → List Happened → List Happened
day_stored m (Ok done) day = day
day_stored m (Err Stopped) day = day
day_stored m (Err refusal) day = ended m At_rest ∷ day

-- the day after an event of a member's process: where the clock was asked, or something passed beside the packets, nothing happened
abbrev pub day_with : ℕ → Event → List Happened → List Happened
day_with m (asked moment) day = day
day_with m (aside what) day = day
day_with m (took call answer) day = did m call answer ∷ day
day_with m (stored answer) day = day_stored m answer day

-- the day after all these events
abbrev pub day_after : List Happened → Order → List Happened
day_after day [] = day
day_after day (x ∷ rest) = day_after (day_with x.0 x.1 day) rest

-- the datagram that an event takes in was handed out to this member before, in the day
abbrev pub CameWith : List Happened → ℕ → Event → Type 0
CameWith day m (asked moment) = Unit {0}
CameWith day m (aside what) = Unit {0}
CameWith day m (took call answer) = Came day m call
CameWith day m (stored answer) = Unit {0}

-- each event is of a member, and what it takes in was handed out before it
abbrev pub IsInTurn : ℕ → List Happened → Order → Type 0
IsInTurn count day [] = Unit {0}
IsInTurn count day (x ∷ rest) = IsMember count x.0 × CameWith day x.0 x.1 × IsInTurn count (day_with x.0 x.1 day) rest

-- a process has this log and leaves its station so, over rows that are kept: it took the steps of the log and no others, as whatever is
-- driven does; where a member's process is over, its log is empty
abbrev pub HasLog : {R : Type 0} → Ghosts R → (R → Type 0) → Member R → Station R → List Event → Type 0
HasLog g is_settled (runs s) last log = g.kept last.rows × Stepped g is_settled s last log
HasLog g is_settled (over ending s) last log = log ≡ []

-- a station that is driven by these events, on whichever wire and with whatever becomes of its releases, has this log, as a process that
-- runs; so have those of `serve_run` and `run_station`
abbrev pub DrivenHaveLogs : {R N S : Type 0} → Ghosts R → (R → Type 0) → (N → Trace) → Fate S → Type 0
DrivenHaveLogs {R = R} {N = N} {S = S} g is_settled passed fate =
    (old new : Post R N S) (end : End) (log : List Event) → Driven (known g is_settled passed fate) old new end log → g.kept new.station.rows
    → HasLog g is_settled (runs old.station) new.station log

-- what a call takes in is such
abbrev pub CallTakes : (List ℕ → Type 0) → Call → Type 0
CallTakes Is (Receiving bytes now) = Is bytes
CallTakes Is (Offering n entry now) = Unit {0}
CallTakes Is (Seeking n now) = Unit {0}
CallTakes Is (Falling_due now) = Unit {0}
CallTakes Is (Recalling n to) = Unit {0}

-- what an event takes in is such
abbrev pub ReceivesSuch : (List ℕ → Type 0) → Event → Type 0
ReceivesSuch Is (asked moment) = Unit {0}
ReceivesSuch Is (aside what) = Unit {0}
ReceivesSuch Is (took call answer) = CallTakes Is call
ReceivesSuch Is (stored answer) = Unit {0}

-- all that these events take in is such
abbrev pub AllTaken : (List ℕ → Type 0) → List Event → Type 0
AllTaken Is [] = Unit {0}
AllTaken Is (event ∷ rest) = ReceivesSuch Is event × AllTaken Is rest

-- behind a wire that tells which packets it lets in, where all that waits in it was let in, no other is taken in
abbrev pub ReceivesLetIn : Trace → List Event → Type 0
ReceivesLetIn untold log = Unit {0}
ReceivesLetIn (listed passed) log = Unit {0}
ReceivesLetIn (guarded Is clean) log = clean → AllTaken Is log

-- a station that is driven by these events takes in such packets alone as its wire lets in
abbrev pub DrivenTakeLetIn : {R N S : Type 0} → Ghosts R → (R → Type 0) → (N → Trace) → Fate S → Type 0
DrivenTakeLetIn {R = R} {N = N} {S = S} g is_settled passed fate =
    (old new : Post R N S) (end : End) (log : List Event) → Driven (known g is_settled passed fate) old new end log
    → ReceivesLetIn (passed old.wire) log

-- each member's process has its log of this order, and leaves its station so
abbrev pub HaveLogs : {R : Type 0} → Ghosts R → (R → Type 0) → ℕ → (ℕ → Member R) → (ℕ → Station R) → Order → Type 0
HaveLogs g is_settled count at last order = (m : ℕ) → IsMember count m → HasLog g is_settled (at m) (last m) (log_of m order)

-- a member's process is over
abbrev pub IsOver : {R : Type 0} → Member R → Type 0
IsOver (runs s) = ⊥
IsOver (over ending s) = Unit {0}

-- a process that ran is over once it has stopped its station
abbrev pub WasLeft : {R : Type 0} → Member R → Station R → Type 0
WasLeft (runs s) last = last.stopped ≡ true
WasLeft (over ending s) last = Unit {0}

-- A member whose process still runs has the station that its process left. If its process ran at the start and is over, the station has
-- stopped.
abbrev pub IsLeftWith : {R : Type 0} → Member R → Member R → Station R → Type 0
IsLeftWith first (runs s) last = last ≡ s
IsLeftWith first (over ending s) last = WasLeft first last

-- the processes of a day go on, each as its log says, in any one order in which what they take in was handed out before: that is a day again
abbrev pub LogsMakeDays : {R : Type 0} → Ghosts R → (R → Type 0) → Type 0
LogsMakeDays {R = R} g is_settled =
    (p : Plants) (day : List Happened) (at : ℕ → Member R) (order : Order) (last : ℕ → Station R)
    → Day g p day at → HaveLogs g is_settled p.count at last order → IsInTurn p.count day order
    → (now : ℕ → Member R) × Day g p (day_after day order) now × ((m : ℕ) → IsMember p.count m → IsLeftWith (at m) (now m) (last m))

-- so what they release agrees, with all that was released before in the day
abbrev pub LogsAgree : {R : Type 0} → Ghosts R → (R → Type 0) → Type 0
LogsAgree {R = R} g is_settled =
    (p : Plants) (day : List Happened) (at : ℕ → Member R) (order : Order) (last : ℕ → Station R)
    → Day g p day at → HaveLogs g is_settled p.count at last order → IsInTurn p.count day order
    → IsDayAgreed p (day_after day order) × OfferedFirst (day_after day order)
