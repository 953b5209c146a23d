-- A circuit is never stuck: from each state that a history reaches, the members of a majority can go on, by steps of their own alone,
-- to a release. That they do is not said (Lamport 2001, section 2.4, Progress).
use Rattle.std.specs.Prelude.{◌≡◌, ℕ, suc, ◌+◌, ◌*◌, ◌<◌, ◌≤◌, ◌⊎◌, List, [], ◌∷◌, ◌++◌, Option, Some, None, Ok, Bool, true, false, ◌==◌, count_by}
use Rattle.protocol.specs.Limits.{is_number}
use Rattle.protocol.specs.Lists.{IsAmong}
use Rattle.protocol.specs.Ballots.{Ballot, IsBelow, last_round, members, IsMember}
use Rattle.protocol.specs.Entries.{Entry}
use Rattle.protocol.specs.Versions.{Version, Two, fits}
use Rattle.protocol.specs.Packets.{Packet, Body, Prepare, Promise, Accept, Accepted, Nack}
use Rattle.protocol.specs.Proposals.{Opening, was_released, open_proposal, denied}
use Rattle.protocol.specs.Turn.{Note, most_ballots}
use Rattle.protocol.specs.Refusals.{Call}
use Rattle.protocol.specs.Circuit.{Circuit, State, Step, Restarts, Upgrades, Done, Restarted, Upgraded, IsTask, StepsTo, History, Release, Offer}
use Rattle.protocol.specs.Agreement.{IsChosen, WasOffered}
use Rattle.protocol.specs.Fitting.{BodyFits, SpellsWhatFits}

-- steps lead to the state after: at each a member of the set takes a turn, which is done, or starts again;
-- one that is not stopped starts again only where it may
pub data Leads {D G F : Type 0} (z : Circuit D G F) (among again : ℕ → Bool) (after : State G F) : State G F → Type 0 where
  is_there : {w : State G F} → w ≡ after → Leads z among again after w
  takes_turn :
      {w between : State G F} (s : Step) (k : ℕ) (call : Call) (note : Note) → IsTask w.sent s k call → among k ≡ true
      → StepsTo z w s (Done note) between → Leads z among again after between → Leads z among again after w
  starts_again :
      {w between : State G F} (k : ℕ) → among k ≡ true → (w.is_stopped k ≡ true) ⊎ (again k ≡ true)
      → StepsTo z w (Restarts k) Restarted between → Leads z among again after between → Leads z among again after w

-- a member's release of an entry for a number, set as it sets it
abbrev pub release_of : {D G F : Type 0} → Circuit D G F → (m n : ℕ) → Entry → Release G F
release_of z m n entry = record { member = m; number = n; entry = entry; set = z.sets m entry }

-- the offers with one more
abbrev pub with_offer : List Offer → (m n : ℕ) → Entry → List Offer
with_offer offers m n entry = offers ++ record { member = m; number = n; entry = entry } ∷ []

-- the entry is this one, or one that was offered for n
abbrev pub IsOfOffers : {G F : Type 0} → State G F → ℕ → Entry → Entry → Type 0
IsOfOffers w n entry t = (t ≡ entry) ⊎ WasOffered w n t

-- the entry is the one that was chosen for n, where one was
abbrev pub IsTheChosen : {D G F : Type 0} {z : Circuit D G F} {w : State G F} → History z w → ℕ → Entry → Type 0
IsTheChosen h n entry = (t : Entry) → IsChosen h n t → entry ≡ t

-- such steps lead to a state in which m has released an entry for n; what else is released on the way is of n, and by members of the set;
-- the offers that were ever made are then these
pub record CanRelease {D G F : Type 0} (z : Circuit D G F) (among again : ℕ → Bool) (m n : ℕ) (offers : List Offer) (w : State G F) : Type 0 where
  pub after : State G F
  pub leads : Leads z among again after w
  pub entry : Entry
  pub on_the_way : List (Release G F)
  pub are_theirs : (x : Release G F) → IsAmong on_the_way x → (among x.member ≡ true) × (x.number ≡ n)
  pub released : after.releases ≡ w.releases ++ on_the_way ++ release_of z m n entry ∷ []
  pub offers_are : after.offers ≡ offers

-- the round of a promise, 0 where there is none
abbrev pub round_of : Option Ballot → ℕ
round_of None = 0
round_of (Some p) = p.round

-- there is a round above that of the promise, if there is one
abbrev pub HasRoundLeft : Option Ballot → Type 0
HasRoundLeft None = Unit {0}
HasRoundLeft (Some p) = p.round < last_round

-- the members of the set are a majority, none of their stores is armed to refuse the next save, and each has a round left for n.
-- It does not matter whether they are stopped, what they have taken in, or what is on its way
pub record CanServe {D G F : Type 0} (z : Circuit D G F) (w : State G F) (among : ℕ → Bool) (n : ℕ) : Type 0 where
  pub many : z.count < 2 * count_by among (members z.count)
  pub unarmed : (k : ℕ) → IsMember z.count k → among k ≡ true → w.armed k ≡ None
  pub rounds : (k : ℕ) → IsMember z.count k → among k ≡ true → HasRoundLeft (w.rows k n).promised

-- they are all at this version
abbrev pub AreAt : {D G F : Type 0} → Circuit D G F → State G F → (ℕ → Bool) → Version → Type 0
AreAt z w among v = (k : ℕ) → IsMember z.count k → among k ≡ true → w.version k ≡ v

-- a ballot of a member of c, of a round from 1 on
pub record IsBallotOf (c : ℕ) (b : Ballot) : Type 0 where
  pub round_low : 1 ≤ b.round
  pub round_high : b.round ≤ last_round
  pub owner : IsMember c b.owner

-- what may be said at ballot b by one member to another, with these entries: a request by the ballot's owner, an answer to it,
-- a reported vote below the ballot, a promise above it
abbrev pub BodyMaySay : (c : ℕ) → (Entry → Type 0) → (b : Ballot) → (from to : ℕ) → Body → Type 0
BodyMaySay c entries b from to Prepare = b.owner ≡ from
BodyMaySay c entries b from to (Promise None) = b.owner ≡ to
BodyMaySay c entries b from to (Promise (Some vote)) = (b.owner ≡ to) × IsBallotOf c vote.ballot × IsBelow vote.ballot b × entries vote.entry
BodyMaySay c entries b from to (Accept entry) = (b.owner ≡ from) × entries entry
BodyMaySay c entries b from to (Accepted entry) = entries entry
BodyMaySay c entries b from to (Nack promised) = (b.owner ≡ to) × IsBallotOf c promised × IsBelow b promised

-- a packet that one member of the circuit may send to another
pub record MaySay {D G F : Type 0} (z : Circuit D G F) (entries : Entry → Type 0) (p : Packet) : Type 0 where
  pub circuit : p.circuit ≡ z.number
  pub from : IsMember z.count p.from
  pub to : IsMember z.count p.to
  pub differ : (p.from == p.to) ≡ false
  pub number : is_number p.number ≡ true
  pub ballot : IsBallotOf z.count p.ballot
  pub body : BodyMaySay z.count entries p.ballot p.from p.to p.body

-- the version has a spelling for each such packet whose entry fits it
abbrev pub SpellsWhatMayBeSaid : {D G F : Type 0} → Circuit D G F → Version → (Entry → Type 0) → Type 0
SpellsWhatMayBeSaid z v entries = (p : Packet) → MaySay z entries p → BodyFits v p.body → (bytes : List ℕ) × (z.reads v bytes ≡ Ok p)

-- whatever went before, crashes, losses, refused saves: where a majority can serve, any member of it that is offered an entry for a number,
-- one that it can spell and set, can come to release the number, by steps of the majority alone. What it releases is the entry that was chosen
-- for the number, where one was
abbrev pub CircuitIsNeverStuck : (D G F : Type 0) → Type 0
CircuitIsNeverStuck D G F =
    (z : Circuit D G F) → SpellsWhatFits z
    → (w : State G F) (h : History z w) (among : ℕ → Bool) (v : Version) (n : ℕ)
    → CanServe z w among n → AreAt z w among v → is_number n ≡ true
    → (m : ℕ) (entry : Entry) (slugs : G)
    → IsMember z.count m → among m ≡ true → fits v entry ≡ true → z.sets m entry ≡ Ok slugs
    → SpellsWhatMayBeSaid z v (IsOfOffers w n entry)
    → (to : CanRelease z among (λ k. k == m) m n (with_offer w.offers m n entry) w) × IsTheChosen h n to.entry

-- nobody who runs has to start again for it, where the member that is asked has the highest promise of the majority for the number,
-- which is neither open nor released with it
abbrev pub RunningNeedNotRestart : (D G F : Type 0) → Type 0
RunningNeedNotRestart D G F =
    (z : Circuit D G F) → SpellsWhatFits z
    → (w : State G F) (h : History z w) (among : ℕ → Bool) (v : Version) (n : ℕ)
    → CanServe z w among n → AreAt z w among v → is_number n ≡ true
    → (m : ℕ) (entry : Entry) (slugs : G)
    → IsMember z.count m → among m ≡ true → fits v entry ≡ true → z.sets m entry ≡ Ok slugs
    → SpellsWhatMayBeSaid z v (IsOfOffers w n entry)
    → w.is_stopped m ≡ false → open_proposal n (w.marks m) ≡ None → was_released n (w.marks m) ≡ false
    → ((k : ℕ) → IsMember z.count k → among k ≡ true → round_of (w.rows k n).promised ≤ round_of (w.rows m n).promised)
    → (to : CanRelease z among (λ k. false) m n (with_offer w.offers m n entry) w) × IsTheChosen h n to.entry

-- nor where others of the majority have higher promises, and no number is open with the member that is asked: it is denied by the highest of them,
-- and begins anew above that as it falls due
abbrev pub DeniedNeedNotRestart : (D G F : Type 0) → Type 0
DeniedNeedNotRestart D G F =
    (z : Circuit D G F) → SpellsWhatFits z
    → (w : State G F) (h : History z w) (among : ℕ → Bool) (v : Version) (n : ℕ)
    → CanServe z w among n → AreAt z w among v → is_number n ≡ true
    → (m : ℕ) (entry : Entry) (slugs : G)
    → IsMember z.count m → among m ≡ true → fits v entry ≡ true → z.sets m entry ≡ Ok slugs
    → SpellsWhatMayBeSaid z v (IsOfOffers w n entry)
    → w.is_stopped m ≡ false → ((j : ℕ) → open_proposal j (w.marks m) ≡ None) → was_released n (w.marks m) ≡ false
    → (to : CanRelease z among (λ k. false) m n (with_offer w.offers m n entry) w) × IsTheChosen h n to.entry

-- above the member's promise for n, and above the greatest one that denied n there, a round is left for each ballot that a proposal may begin,
-- and one more: enough to give n up, and then to be offered it
pub record HasRoundsToGiveUp {G F : Type 0} (w : State G F) (m n : ℕ) : Type 0 where
  pub above_promise : round_of (w.rows m n).promised + suc most_ballots ≤ last_round
  pub above_denial : round_of (denied n (w.marks m)) + suc most_ballots ≤ last_round

-- nor whatever numbers are open with the member that is asked: the lower ones fall due first, each until it is given up,
-- and so does n, where it is open
abbrev pub BusyNeedNotRestart : (D G F : Type 0) → Type 0
BusyNeedNotRestart D G F =
    (z : Circuit D G F) → SpellsWhatFits z
    → (w : State G F) (h : History z w) (among : ℕ → Bool) (v : Version) (n : ℕ)
    → CanServe z w among n → AreAt z w among v → is_number n ≡ true
    → (m : ℕ) (entry : Entry) (slugs : G)
    → IsMember z.count m → among m ≡ true → fits v entry ≡ true → z.sets m entry ≡ Ok slugs
    → SpellsWhatMayBeSaid z v (IsOfOffers w n entry)
    → w.is_stopped m ≡ false → was_released n (w.marks m) ≡ false
    → ((o : Opening) → open_proposal n (w.marks m) ≡ Some o → HasRoundsToGiveUp w m n)
    → (to : CanRelease z among (λ k. false) m n (with_offer w.offers m n entry) w) × IsTheChosen h n to.entry

-- and what is chosen is never lost: there any member of it can come to release the entry that is chosen, with nothing offered
abbrev pub ChosenIsFound : (D G F : Type 0) → Type 0
ChosenIsFound D G F =
    (z : Circuit D G F) → SpellsWhatFits z
    → (w : State G F) (h : History z w) (among : ℕ → Bool) (v : Version) (n : ℕ)
    → CanServe z w among n → AreAt z w among v → is_number n ≡ true
    → (m : ℕ) → IsMember z.count m → among m ≡ true → (t : Entry) → IsChosen h n t
    → SpellsWhatMayBeSaid z v (λ u. WasOffered w n u)
    → (to : CanRelease z among (λ k. k == m) m n w.offers w) × (to.entry ≡ t)

-- upgrades of members of the set, one after the other, lead to the state after
pub data LeadsByUpgrades {D G F : Type 0} (z : Circuit D G F) (among : ℕ → Bool) (after : State G F) : State G F → Type 0 where
  are_upgraded : {w : State G F} → w ≡ after → LeadsByUpgrades z among after w
  upgrades_one :
      {w between : State G F} (m : ℕ) → among m ≡ true
      → StepsTo z w (Upgrades m) Upgraded between → LeadsByUpgrades z among after between → LeadsByUpgrades z among after w

-- half an upgrade is no dead end: at whatever versions the members of the majority are, those at version 1 can be upgraded,
-- and then any member of it can come to release the number as before, the chosen entry, where one was chosen
abbrev pub HalfAnUpgradeIsNoDeadEnd : (D G F : Type 0) → Type 0
HalfAnUpgradeIsNoDeadEnd D G F =
    (z : Circuit D G F) → SpellsWhatFits z
    → (w : State G F) (h : History z w) (among : ℕ → Bool) (n : ℕ) → CanServe z w among n → is_number n ≡ true
    → (m : ℕ) (entry : Entry) (slugs : G) → IsMember z.count m → among m ≡ true → z.sets m entry ≡ Ok slugs
    → SpellsWhatMayBeSaid z Two (IsOfOffers w n entry)
    → (over : State G F) × LeadsByUpgrades z among over w × (over.releases ≡ w.releases)
    × (to : CanRelease z among (λ k. k == m) m n (with_offer w.offers m n entry) over) × IsTheChosen h n to.entry

-- such steps lead to a state in which every member of the set has released one entry for n; what else is released on the way is that entry,
-- for n, by members of the set; the offers that were ever made are then these
pub record AllCanRelease {D G F : Type 0} (z : Circuit D G F) (among : ℕ → Bool) (n : ℕ) (offers : List Offer) (w : State G F) : Type 0 where
  pub after : State G F
  pub leads : Leads z among (λ k. true) after w
  pub entry : Entry
  pub on_the_way : List (Release G F)
  pub are_theirs : (x : Release G F) → IsAmong on_the_way x → (among x.member ≡ true) × (x.number ≡ n) × (x.entry ≡ entry)
  pub each : (k : ℕ) → IsMember z.count k → among k ≡ true → IsAmong on_the_way (release_of z k n entry)
  pub released : after.releases ≡ w.releases ++ on_the_way
  pub offers_are : after.offers ≡ offers

-- above the promise of each member of the set for n so many rounds are left
abbrev pub HaveRoundsLeft : {D G F : Type 0} → Circuit D G F → State G F → (ℕ → Bool) → (n rounds : ℕ) → Type 0
HaveRoundsLeft z w among n rounds = (k : ℕ) → IsMember z.count k → among k ≡ true → round_of (w.rows k n).promised + rounds ≤ last_round

-- for every plant, not for one: where a majority can serve, and each of it has a round left for every member of the circuit and one more,
-- an entry that is offered at one of it can come to be released at each of it, by steps of the majority alone; any of it may start again for that
abbrev pub EveryMemberReleases : (D G F : Type 0) → Type 0
EveryMemberReleases D G F =
    (z : Circuit D G F) → SpellsWhatFits z
    → (w : State G F) (h : History z w) (among : ℕ → Bool) (v : Version) (n : ℕ)
    → CanServe z w among n → HaveRoundsLeft z w among n (suc z.count) → AreAt z w among v → is_number n ≡ true
    → (m : ℕ) (entry : Entry) (slugs : G)
    → IsMember z.count m → among m ≡ true → fits v entry ≡ true → z.sets m entry ≡ Ok slugs
    → SpellsWhatMayBeSaid z v (IsOfOffers w n entry)
    → (to : AllCanRelease z among n (with_offer w.offers m n entry) w) × IsTheChosen h n to.entry
