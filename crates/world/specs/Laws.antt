-- What holds in every history of a circuit of stations.
use Rattle.std.specs.Prelude.{◌≡◌, ℕ, suc, ◌<◌, ◌≤◌, ◌==◌, List, Some, None, Ok, Bool, true, false}
use Rattle.protocol.specs.Lists.{IsAmong}
use Rattle.protocol.specs.Limits.{most_members, is_number}
use Rattle.protocol.specs.Ballots.{IsMember}
use Rattle.protocol.specs.Entries.{Entry}
use Rattle.protocol.specs.Versions.{Version, fits}
use Rattle.protocol.specs.Circuit.{Release, History}
use Rattle.protocol.specs.Proposals.{Opening, was_released, open_proposal}
use Rattle.protocol.specs.Progress.{with_offer, IsTheChosen, round_of, CanServe, AreAt, HasRoundsToGiveUp, CanRelease, LeadsByUpgrades, AllCanRelease, HaveRoundsLeft}
use Rattle.tape_frames.specs.Entries.{IsEntry}
use Rattle.protocol.specs.Agreement.{BallotsHaveOneEntry, ChosenIsOne, HeardIsVoted, PromisesBind, ReleasesAreChosen, ReportsAreGreatest, RipeIsChosen, ToldIsVoted, VotesAreBacked, VotesAreOffered, WasOffered, IsChosen}
use Rattle.packets.specs.declared.fault.PacketFault.{PacketFault}
use Rattle.code_table.specs.Tables.{Places, mean}
use Rattle.widths.specs.Widths.{WidthFile}
use Rattle.line_check.specs.declared.slug.Slug.{Slug}
use Rattle.line_check.specs.declared.fault.SetFault.{SetFault}
use Rattle.station.specs.Readiness.{SetsEntry}
use Rattle.world.specs.Setups.{StationCircuit, StationState, IsSetUp}

-- all votes and Accepts of one number and ballot carry one entry
abbrev pub OneEntry : Type 0
OneEntry = BallotsHaveOneEntry PacketFault (List Slug) SetFault

-- every voted entry was offered
abbrev pub VotesOffered : Type 0
VotesOffered = VotesAreOffered PacketFault (List Slug) SetFault

-- no step after a Promise at a ballot takes a vote of its member below it
abbrev pub PromisesKept : Type 0
PromisesKept = PromisesBind PacketFault (List Slug) SetFault

-- the report of a Promise was its member's greatest vote below its ballot
abbrev pub ReportsGreatest : Type 0
ReportsGreatest = ReportsAreGreatest PacketFault (List Slug) SetFault

-- below a vote each ballot is backed by a majority
abbrev pub VotesBacked : Type 0
VotesBacked = VotesAreBacked PacketFault (List Slug) SetFault

-- each vote that was heard was taken
abbrev pub HeardVoted : Type 0
HeardVoted = HeardIsVoted PacketFault (List Slug) SetFault

-- each vote that was told, for the first time or again, was taken
abbrev pub ToldVoted : Type 0
ToldVoted = ToldIsVoted PacketFault (List Slug) SetFault

-- what is ripe at some member is chosen
abbrev pub RipeChosen : Type 0
RipeChosen = RipeIsChosen PacketFault (List Slug) SetFault

-- two entries that are chosen for one number are equal
abbrev pub OneChosen : Type 0
OneChosen = ChosenIsOne PacketFault (List Slug) SetFault

-- every released entry is chosen for its number
abbrev pub ReleasesChosen : Type 0
ReleasesChosen = ReleasesAreChosen PacketFault (List Slug) SetFault

-- any two releases of one number have equal entries; each released entry was offered for its number, and was chosen for it:
-- at one ballot a majority voted for it; and what was made of it is what its member's table and widths make of it: a tape's slugs, or its fault
pub record AreAgreed (tables : ℕ → Places) (files : ℕ → WidthFile) {z : StationCircuit} {w : StationState} (h : History z w) : Type 0 where
  pub one : (x y : Release (List Slug) SetFault) → IsAmong w.releases x → IsAmong w.releases y → x.number ≡ y.number → x.entry ≡ y.entry
  pub offered : (x : Release (List Slug) SetFault) → IsAmong w.releases x → WasOffered w x.number x.entry
  pub chosen : (x : Release (List Slug) SetFault) → IsAmong w.releases x → IsChosen h x.number x.entry
  pub set : (x : Release (List Slug) SetFault) → IsAmong w.releases x → SetsEntry (mean (tables x.member)) (files x.member) x.entry x.set

-- there is a circuit of stations of any number and member count, whatever their tables and width files
abbrev pub CircuitsExist : Type 0
CircuitsExist =
    (number count : ℕ) (tables : ℕ → Places) (files : ℕ → WidthFile)
    → (z : StationCircuit) × (z.number ≡ number) × (z.count ≡ count) × IsSetUp tables files z

-- the headline: in every history of a circuit of stations what is released is agreed
abbrev pub StationsAgree : Type 0
StationsAgree =
    (tables : ℕ → Places) (files : ℕ → WidthFile) (z : StationCircuit) → IsSetUp tables files z
    → (w : StationState) (h : History z w) → AreAgreed tables files h

-- a circuit as stations may be set up: its number has two bytes, and it has no more members than there may be;
-- and what was offered to them for n are entries
pub record IsInService (tables : ℕ → Places) (files : ℕ → WidthFile) (z : StationCircuit) (w : StationState) (n : ℕ) : Type 0 where
  pub set_up : IsSetUp tables files z
  pub number : z.number < 65536
  pub count : z.count ≤ most_members
  pub offered : (t : Entry) → WasOffered w n t → IsEntry t

-- a circuit of stations is never stuck: from each state that a history reaches, whatever went before, where a majority can serve, any member of it
-- that is offered an entry for a number, one that it can spell and set, can come to release the number, by steps of the majority alone.
-- What it releases is the entry that was chosen for the number, where one was
abbrev pub StationsAreNeverStuck : Type 0
StationsAreNeverStuck =
    (tables : ℕ → Places) (files : ℕ → WidthFile) (z : StationCircuit) (w : StationState) (h : History z w)
    → (among : ℕ → Bool) (v : Version) (n : ℕ) → IsInService tables files z w n → CanServe z w among n → AreAt z w among v → is_number n ≡ true
    → (m : ℕ) (entry : Entry) (slugs : List Slug)
    → IsMember z.count m → among m ≡ true → IsEntry entry → fits v entry ≡ true → z.sets m entry ≡ Ok slugs
    → (to : CanRelease z among (λ k. k == m) m n (with_offer w.offers m n entry) w) × IsTheChosen h n to.entry

-- no station that runs has to start again for it, where the member that is asked has the highest promise of the majority for the number,
-- which is neither open nor released with it
abbrev pub RunningStationsNeedNotRestart : Type 0
RunningStationsNeedNotRestart =
    (tables : ℕ → Places) (files : ℕ → WidthFile) (z : StationCircuit) (w : StationState) (h : History z w)
    → (among : ℕ → Bool) (v : Version) (n : ℕ) → IsInService tables files z w n → CanServe z w among n → AreAt z w among v → is_number n ≡ true
    → (m : ℕ) (entry : Entry) (slugs : List Slug)
    → IsMember z.count m → among m ≡ true → IsEntry entry → fits v entry ≡ true → z.sets m entry ≡ Ok slugs
    → w.is_stopped m ≡ false → open_proposal n (w.marks m) ≡ None → was_released n (w.marks m) ≡ false
    → ((k : ℕ) → IsMember z.count k → among k ≡ true → round_of (w.rows k n).promised ≤ round_of (w.rows m n).promised)
    → (to : CanRelease z among (λ k. false) m n (with_offer w.offers m n entry) w) × IsTheChosen h n to.entry

-- nor where others of the majority have higher promises, and no number is open with the member that is asked
abbrev pub DeniedStationsNeedNotRestart : Type 0
DeniedStationsNeedNotRestart =
    (tables : ℕ → Places) (files : ℕ → WidthFile) (z : StationCircuit) (w : StationState) (h : History z w)
    → (among : ℕ → Bool) (v : Version) (n : ℕ) → IsInService tables files z w n → CanServe z w among n → AreAt z w among v → is_number n ≡ true
    → (m : ℕ) (entry : Entry) (slugs : List Slug)
    → IsMember z.count m → among m ≡ true → IsEntry entry → fits v entry ≡ true → z.sets m entry ≡ Ok slugs
    → w.is_stopped m ≡ false → ((j : ℕ) → open_proposal j (w.marks m) ≡ None) → was_released n (w.marks m) ≡ false
    → (to : CanRelease z among (λ k. false) m n (with_offer w.offers m n entry) w) × IsTheChosen h n to.entry

-- nor whatever numbers are open with the member that is asked; where n itself is, it may have to be given up first
abbrev pub BusyStationsNeedNotRestart : Type 0
BusyStationsNeedNotRestart =
    (tables : ℕ → Places) (files : ℕ → WidthFile) (z : StationCircuit) (w : StationState) (h : History z w)
    → (among : ℕ → Bool) (v : Version) (n : ℕ) → IsInService tables files z w n → CanServe z w among n → AreAt z w among v → is_number n ≡ true
    → (m : ℕ) (entry : Entry) (slugs : List Slug)
    → IsMember z.count m → among m ≡ true → IsEntry entry → fits v entry ≡ true → z.sets m entry ≡ Ok slugs
    → w.is_stopped m ≡ false → was_released n (w.marks m) ≡ false
    → ((o : Opening) → open_proposal n (w.marks m) ≡ Some o → HasRoundsToGiveUp w m n)
    → (to : CanRelease z among (λ k. false) m n (with_offer w.offers m n entry) w) × IsTheChosen h n to.entry

-- what is chosen any member of it can come to release with nothing offered
abbrev pub ChosenIsFoundByStations : Type 0
ChosenIsFoundByStations =
    (tables : ℕ → Places) (files : ℕ → WidthFile) (z : StationCircuit) (w : StationState) (h : History z w)
    → (among : ℕ → Bool) (v : Version) (n : ℕ) → IsInService tables files z w n → CanServe z w among n → AreAt z w among v → is_number n ≡ true
    → (m : ℕ) → IsMember z.count m → among m ≡ true → (t : Entry) → IsChosen h n t
    → (to : CanRelease z among (λ k. k == m) m n w.offers w) × (to.entry ≡ t)

-- half an upgrade is no dead end: at whatever versions the members of the majority are, those at version 1 can be upgraded,
-- and then any member of it can come to release the number as before
abbrev pub HalfAnUpgradeIsNoDeadEndOfStations : Type 0
HalfAnUpgradeIsNoDeadEndOfStations =
    (tables : ℕ → Places) (files : ℕ → WidthFile) (z : StationCircuit) (w : StationState) (h : History z w)
    → (among : ℕ → Bool) (n : ℕ) → IsInService tables files z w n → CanServe z w among n → is_number n ≡ true
    → (m : ℕ) (entry : Entry) (slugs : List Slug)
    → IsMember z.count m → among m ≡ true → IsEntry entry → z.sets m entry ≡ Ok slugs
    → (over : StationState) × LeadsByUpgrades z among over w × (over.releases ≡ w.releases)
    × (to : CanRelease z among (λ k. k == m) m n (with_offer w.offers m n entry) over) × IsTheChosen h n to.entry

-- for every plant, not for one: where each member of the majority has a round left for every member of the circuit and one more,
-- an entry that is offered at one of them can come to be released at each of them, by steps of the majority alone
abbrev pub EveryStationReleases : Type 0
EveryStationReleases =
    (tables : ℕ → Places) (files : ℕ → WidthFile) (z : StationCircuit) (w : StationState) (h : History z w)
    → (among : ℕ → Bool) (v : Version) (n : ℕ) → IsInService tables files z w n
    → CanServe z w among n → HaveRoundsLeft z w among n (suc z.count) → AreAt z w among v → is_number n ≡ true
    → (m : ℕ) (entry : Entry) (slugs : List Slug)
    → IsMember z.count m → among m ≡ true → IsEntry entry → fits v entry ≡ true → z.sets m entry ≡ Ok slugs
    → (to : AllCanRelease z among n (with_offer w.offers m n entry) w) × IsTheChosen h n to.entry
