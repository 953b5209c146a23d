-- What was voted, what is chosen, what is agreed; and what holds in every history of a circuit.
use Rattle.std.specs.Prelude.{◌≡◌, ℕ, ◌⊎◌, Option, Some, Ok}
use Rattle.protocol.specs.Lists.{IsAmong}
use Rattle.protocol.specs.Ballots.{Ballot, IsBelow, IsAtMost, Majority}
use Rattle.protocol.specs.Entries.{Entry}
use Rattle.protocol.specs.Rows.{Vote, vote_for}
use Rattle.protocol.specs.Packets.{Packet, Promise, Accept, Accepted}
use Rattle.protocol.specs.Marks.{Heard}
use Rattle.protocol.specs.Readings.{Ripe}
use Rattle.protocol.specs.Versions.{Two}
use Rattle.protocol.specs.Circuit.{Circuit, hears, Datagram, Release, State, Step, Outcome, StepsTo, History, starts, goes_on}

-- a row of member m for n holds this vote
abbrev pub HoldsVote : {G F : Type 0} → State G F → ℕ → ℕ → Ballot → Entry → Type 0
HoldsVote w m n b t = (w.rows m n).vote ≡ Some (vote_for b t)

-- member m voted for t at b in the ballot of n: a row of its ever took this vote
abbrev pub WasVoted : {D G F : Type 0} {z : Circuit D G F} {w : State G F} → History z w → ℕ → ℕ → Ballot → Entry → Type 0
WasVoted {w = w} (starts version f) m n b t = HoldsVote w m n b t
WasVoted (goes_on {after = after} h s o st) m n b t = HoldsVote after m n b t ⊎ WasVoted h m n b t

-- t is chosen for n: at some ballot a majority voted for it (Lamport's definition)
abbrev pub IsChosen : {D G F : Type 0} {z : Circuit D G F} {w : State G F} → History z w → ℕ → Entry → Type 0
IsChosen {z = z} h n t = (b : Ballot) × Majority z.count (λ m. WasVoted h m n b t)

-- some member offered t for n
abbrev pub WasOffered : {G F : Type 0} → State G F → ℕ → Entry → Type 0
WasOffered w n t = (k : ℕ) × IsAmong w.offers (record { member = k; number = n; entry = t })

-- any two releases of one number have equal entries; each released entry was offered for its number,
-- and its setting is the one that its member's table and widths give it
pub record IsAgreed {D G F : Type 0} (z : Circuit D G F) (w : State G F) : Type 0 where
  pub one : (x y : Release G F) → IsAmong w.releases x → IsAmong w.releases y → x.number ≡ y.number → x.entry ≡ y.entry
  pub offered : (x : Release G F) → IsAmong w.releases x → WasOffered w x.number x.entry
  pub set : (x : Release G F) → IsAmong w.releases x → x.set ≡ z.sets x.member x.entry

-- the headline: in every history what is released is agreed
abbrev pub HistoriesAgree : (D G F : Type 0) → Type 0
HistoriesAgree D G F = (z : Circuit D G F) (w : State G F) → History z w → IsAgreed z w

-- a vote of this number and ballot carries t, or an Accept that was sent does, as a station of version 2 reads it
pub data IsCarried {D G F : Type 0} {z : Circuit D G F} {w : State G F} (h : History z w) (n : ℕ) (b : Ballot) (t : Entry) : Type 0 where
  by_vote : (m : ℕ) → WasVoted h m n b t → IsCarried h n b t
  by_accept :
      (d : Datagram) (p : Packet) → IsAmong w.sent d → hears z Two d.bytes ≡ Ok p
      → p.number ≡ n → p.ballot ≡ b → p.body ≡ Accept t → IsCarried h n b t

-- all votes and Accepts of one number and ballot carry one entry
abbrev pub BallotsHaveOneEntry : (D G F : Type 0) → Type 0
BallotsHaveOneEntry D G F =
    (z : Circuit D G F) (w : State G F) (h : History z w) (n : ℕ) (b : Ballot) (t u : Entry)
    → IsCarried h n b t → IsCarried h n b u → t ≡ u

-- every voted entry was offered
abbrev pub VotesAreOffered : (D G F : Type 0) → Type 0
VotesAreOffered D G F =
    (z : Circuit D G F) (w : State G F) (h : History z w) (m n : ℕ) (b : Ballot) (t : Entry)
    → WasVoted h m n b t → WasOffered w n t

-- a Promise of m for n at b, with this report, was sent, as a station of version 2 reads it
pub record WasPromised {D G F : Type 0} (z : Circuit D G F) (w : State G F) (m n : ℕ) (b : Ballot) (report : Option Vote) : Type 0 where
  pub datagram : Datagram
  pub packet : Packet
  pub sent : IsAmong w.sent datagram
  pub spelled : hears z Two datagram.bytes ≡ Ok packet
  pub from : packet.from ≡ m
  pub number : packet.number ≡ n
  pub ballot : packet.ballot ≡ b
  pub body : packet.body ≡ Promise report

-- no step after a Promise of m at b takes a vote of m below b
abbrev pub PromisesBind : (D G F : Type 0) → Type 0
PromisesBind D G F =
    (z : Circuit D G F) (w after : State G F) (h : History z w) (s : Step) (o : Outcome D F) (st : StepsTo z w s o after)
    → (m n : ℕ) (b : Ballot) (report : Option Vote)
    → WasPromised z w m n b report → (a : Ballot) (t : Entry) → IsBelow a b → WasVoted (goes_on h s o st) m n a t → WasVoted h m n a t

-- this is the vote of m for n of greatest ballot below b, or none where m has none there
pub record IsGreatestBelow {D G F : Type 0} {z : Circuit D G F} {w : State G F} (h : History z w) (m n : ℕ) (b : Ballot) (report : Option Vote) : Type 0 where
  pub is_vote : (v : Vote) → report ≡ Some v → WasVoted h m n v.ballot v.entry × IsBelow v.ballot b
  pub is_greatest : (a : Ballot) (t : Entry) → WasVoted h m n a t → IsBelow a b → (v : Vote) × (report ≡ Some v) × IsAtMost a v.ballot

-- the report of a Promise was its member's greatest vote below its ballot
abbrev pub ReportsAreGreatest : (D G F : Type 0) → Type 0
ReportsAreGreatest D G F =
    (z : Circuit D G F) (w : State G F) (h : History z w) (m n : ℕ) (b : Ballot) (report : Option Vote)
    → WasPromised z w m n b report → IsGreatestBelow h m n b report

-- m is promised above a
abbrev pub IsBoundAbove : {G F : Type 0} → State G F → ℕ → ℕ → Ballot → Type 0
IsBoundAbove w m n a = (p : Ballot) × ((w.rows m n).promised ≡ Some p) × IsBelow a p

-- below a vote each ballot has a majority of which each member voted there for its entry, or didn't vote there and is promised above it
abbrev pub VotesAreBacked : (D G F : Type 0) → Type 0
VotesAreBacked D G F =
    (z : Circuit D G F) (w : State G F) (h : History z w) (m n : ℕ) (b a : Ballot) (t : Entry) → WasVoted h m n b t → IsBelow a b
    → Majority z.count (λ k. WasVoted h k n a t ⊎ ((u : Entry) → ¬ WasVoted h k n a u) × IsBoundAbove w k n a)

-- each vote that was heard was taken
abbrev pub HeardIsVoted : (D G F : Type 0) → Type 0
HeardIsVoted D G F =
    (z : Circuit D G F) (w : State G F) (h : History z w) (m n k : ℕ) (b : Ballot) (t : Entry)
    → IsAmong (w.marks m) (Heard n k b t) → WasVoted h k n b t

-- each vote that was told, for the first time or again, was taken before
abbrev pub ToldIsVoted : (D G F : Type 0) → Type 0
ToldIsVoted D G F =
    (z : Circuit D G F) (w : State G F) (h : History z w) (d : Datagram) (p : Packet) (t : Entry)
    → IsAmong w.sent d → hears z Two d.bytes ≡ Ok p → p.body ≡ Accepted t → WasVoted h p.from p.number p.ballot t

-- what is ripe at some member is chosen
abbrev pub RipeIsChosen : (D G F : Type 0) → Type 0
RipeIsChosen D G F =
    (z : Circuit D G F) (w : State G F) (h : History z w) (m n : ℕ) (b : Ballot) (t : Entry)
    → Ripe z.count (w.marks m) n b t → IsChosen h n t

-- two entries that are chosen for one number are equal
abbrev pub ChosenIsOne : (D G F : Type 0) → Type 0
ChosenIsOne D G F =
    (z : Circuit D G F) (w : State G F) (h : History z w) (n : ℕ) (t u : Entry)
    → IsChosen h n t → IsChosen h n u → t ≡ u

-- every released entry is chosen for its number (Lamport: a process never learns that a value has been chosen unless it has been)
abbrev pub ReleasesAreChosen : (D G F : Type 0) → Type 0
ReleasesAreChosen D G F =
    (z : Circuit D G F) (w : State G F) (h : History z w) (x : Release G F)
    → IsAmong w.releases x → IsChosen h x.number x.entry
