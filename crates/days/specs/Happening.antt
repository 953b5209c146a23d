-- What happens to the processes of a circuit: they call their stations, they end, and others begin.
use Rattle.std.specs.Prelude.{◌≡◌, ℕ, List, Some, Result, Ok, Err, true}
use Rattle.protocol.specs.Lists.{IsAmong}
use Rattle.protocol.specs.Entries.{Entry}
use Rattle.protocol.specs.Refusals.{Call, Offering, Seeking, Falling_due, Receiving, Recalling}
use Rattle.station.specs.declared.answer.Answer.{Answer}
use Rattle.station.specs.declared.answer.Release.{Release}
use Rattle.refusals.specs.declared.refusal.StepRefusal.{StepRefusal}
use Rattle.station.specs.Steps.{tears}

-- where a process stood as it ended: between two calls of its station, in this call, or in an upgrade of its rows
pub data Ending : Type 0 where
  At_rest : Ending
  In_call : (call : Call) → Ending
  Upgrading : Ending

-- a process of this member called its station and was answered; it ended, of its own accord, killed, or with its machine;
-- or the member's next process began
pub data Happened : Type 0 where
  did : (member : ℕ) (call : Call) (answer : Result Answer StepRefusal) → Happened
  ended : (member : ℕ) (ending : Ending) → Happened
  began : (member : ℕ) → Happened

-- something of this kind happened in a day, which is a list with the latest first
abbrev pub Was : List Happened → (Happened → Type 0) → Type 0
Was day Kind = (x : Happened) × IsAmong day x × Kind x

-- this answer hands these bytes out to this member
abbrev pub HandsOut : ℕ → List ℕ → Happened → Type 0
HandsOut m bytes (did k call (Ok answer)) = IsAmong answer.out.items (record { to = m; bytes = bytes })
HandsOut m bytes (did k call (Err refusal)) = ⊥
HandsOut m bytes (ended k ending) = ⊥
HandsOut m bytes (began k) = ⊥

-- in this answer the member releases so
abbrev pub Releases : ℕ → Release → Happened → Type 0
Releases m r (did k call (Ok answer)) = (m ≡ k) × (answer.release ≡ Some r)
Releases m r (did k call (Err refusal)) = ⊥
Releases m r (ended k ending) = ⊥
Releases m r (began k) = ⊥

-- the call offers this entry for this number
abbrev pub IsOffering : ℕ → Entry → Call → Type 0
IsOffering n entry (Offering k u now) = (n ≡ k) × (entry ≡ u)
IsOffering n entry (Seeking k now) = ⊥
IsOffering n entry (Falling_due now) = ⊥
IsOffering n entry (Receiving bytes now) = ⊥
IsOffering n entry (Recalling k to) = ⊥

-- a process that ended so was in the call that offers this entry for this number
abbrev pub OffersIn : ℕ → Entry → Ending → Type 0
OffersIn n entry At_rest = ⊥
OffersIn n entry (In_call call) = IsOffering n entry call
OffersIn n entry Upgrading = ⊥

-- an offer of this entry for this number was taken up: it was done, it stopped the station, or it was cut off; one that was refused is none
abbrev pub Offers : ℕ → Entry → Happened → Type 0
Offers n entry (did k call (Ok answer)) = IsOffering n entry call
Offers n entry (did k call (Err refusal)) = (tears refusal ≡ true) × IsOffering n entry call
Offers n entry (ended k ending) = OffersIn n entry ending
Offers n entry (began k) = ⊥

-- some answer of the day handed these bytes out to this member
abbrev pub WasHandedOut : List Happened → ℕ → List ℕ → Type 0
WasHandedOut day m bytes = Was day (HandsOut m bytes)

-- in some answer of the day this member released so
abbrev pub WasReleased : List Happened → ℕ → Release → Type 0
WasReleased day m r = Was day (Releases m r)

-- somebody offered this entry for this number in the day
abbrev pub WasOffered : List Happened → ℕ → Entry → Type 0
WasOffered day n entry = Was day (Offers n entry)

-- the datagram that a call of this member brings was handed out to it in the day, with these bytes; it may come late, twice or never
abbrev pub Came : List Happened → ℕ → Call → Type 0
Came day m (Offering n entry now) = Unit {0}
Came day m (Seeking n now) = Unit {0}
Came day m (Falling_due now) = Unit {0}
Came day m (Receiving bytes now) = WasHandedOut day m bytes
Came day m (Recalling n to) = Unit {0}

-- so was that of the call that a process was in as it ended
abbrev pub CameIn : List Happened → ℕ → Ending → Type 0
CameIn day m At_rest = Unit {0}
CameIn day m (In_call call) = Came day m call
CameIn day m Upgrading = Unit {0}
