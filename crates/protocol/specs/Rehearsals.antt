-- Worked examples of refusals and of histories, of number 12: the definitions are not empty.
use Rattle.std.specs.Prelude.{◌≡◌, ℕ, List, [], ◌∷◌, ◌++◌, Some, None, Ok, Err, Bool, true, false, map}
use Rattle.std.specs.List.{AllZip}
use Rattle.protocol.specs.Seats.{sits}
use Rattle.protocol.specs.Entries.{Entry, Void, Taped}
use Rattle.protocol.specs.Rows.{vote_for}
use Rattle.protocol.specs.Packets.{Packet, Prepare, Promise, Accept, Accepted, Nack}
use Rattle.protocol.specs.Turn.{Offered, Note_began, Note_nothing, Note_promised, Note_silent, Note_nacked, Note_denied, Note_idle, Note_proposed, Note_heard, Note_voted, Note_recalled, Note_blank, packet_to}
use Rattle.protocol.specs.Runs.{ballot, run_of}
use Rattle.protocol.specs.Refusals.{Setup, Offering, Receiving, Recalling, Stopped, Wrong_circuit, Not_for_me, Stranger, Bad_number, No_such_member, Already_released, Already_open, Wire_too_old, Tape_faulty, Bad_datagram, packet_refusal, number_refusal, recall_refusal, early_refusal, refusal}
use Rattle.protocol.specs.Versions.{Version, One, Two, fits}
use Rattle.protocol.specs.Circuit.{Circuit, setup_of, Carries, Datagram, Offer, Release, State, with_at, Step, Offers, Seeks, Falls_due, Delivers, Restarts, Upgrades, Balks, Recalls, Outcome, Done, Refused, Torn_by_store, Torn_as_armed, Torn_by_memory, Restarted, Upgraded, Armed, History, starts, goes_on}

-- a member of 3 refuses packets of another circuit, for another, and of strangers: the sender, the owner of the ballot, of a reported vote, of a Nack's promise
pub record PacketsAreRefused (D F : Type 0) : Type 0 where
  pub circuit : packet_refusal {D = D} {F = F} (sits 7 2 3) (packet_to (sits 8 1 3) 12 (ballot 1 1) Prepare 2) ≡ Some Wrong_circuit
  pub addressee : packet_refusal {D = D} {F = F} (sits 7 2 3) (packet_to (sits 7 1 3) 12 (ballot 1 1) Prepare 3) ≡ Some Not_for_me
  pub sender : packet_refusal {D = D} {F = F} (sits 7 2 3) (packet_to (sits 7 4 3) 12 (ballot 1 2) (Promise None) 2) ≡ Some Stranger
  pub owner : packet_refusal {D = D} {F = F} (sits 7 2 3) (packet_to (sits 7 1 3) 12 (ballot 1 4) (Accepted (Taped (1 ∷ []))) 2) ≡ Some Stranger
  pub reported :
      packet_refusal {D = D} {F = F} (sits 7 2 3) (packet_to (sits 7 1 3) 12 (ballot 2 2) (Promise (Some (vote_for (ballot 1 4) (Taped (1 ∷ []))))) 2)
      ≡ Some Stranger
  pub denied : packet_refusal {D = D} {F = F} (sits 7 2 3) (packet_to (sits 7 1 3) 12 (ballot 1 2) (Nack (ballot 1 4)) 2) ≡ Some Stranger
  pub first : packet_refusal {D = D} {F = F} (sits 7 2 3) (packet_to (sits 8 4 3) 12 (ballot 1 4) Prepare 3) ≡ Some Wrong_circuit
  pub none : packet_refusal {D = D} {F = F} (sits 7 2 3) (packet_to (sits 7 3 3) 12 (ballot 1 3) Prepare 2) ≡ None

-- numbers out of range, a number that was released and one that is open are refused to an offer or a search
pub record NumbersAreRefused (D F : Type 0) : Type 0 where
  pub low : number_refusal {D = D} {F = F} 0 [] ≡ Some Bad_number
  pub least : number_refusal {D = D} {F = F} 1 [] ≡ None
  pub most : number_refusal {D = D} {F = F} 999999 [] ≡ None
  pub high : number_refusal {D = D} {F = F} 1000000 [] ≡ Some Bad_number
  pub released : (entry : Entry) → number_refusal {D = D} {F = F} 12 (run_of (sits 7 1 1) (Offered 12 entry 0 ∷ [])).marks ≡ Some Already_released
  pub open_one : (entry : Entry) → number_refusal {D = D} {F = F} 12 (run_of (sits 7 1 3) (Offered 12 entry 0 ∷ [])).marks ≡ Some Already_open
  pub other : (entry : Entry) → number_refusal {D = D} {F = F} 13 (run_of (sits 7 1 3) (Offered 12 entry 0 ∷ [])).marks ≡ None

-- a vote is told again for numbers there are alone, and to members of the circuit; a number out of range is told first
pub record RecallsAreRefused (D F : Type 0) : Type 0 where
  pub low : recall_refusal {D = D} {F = F} 3 0 2 ≡ Some Bad_number
  pub least : recall_refusal {D = D} {F = F} 3 1 2 ≡ None
  pub most : recall_refusal {D = D} {F = F} 3 999999 2 ≡ None
  pub high : recall_refusal {D = D} {F = F} 3 1000000 2 ≡ Some Bad_number
  pub nobody : recall_refusal {D = D} {F = F} 3 12 0 ≡ Some No_such_member
  pub first : recall_refusal {D = D} {F = F} 3 12 1 ≡ None
  pub last : recall_refusal {D = D} {F = F} 3 12 3 ≡ None
  pub beyond : recall_refusal {D = D} {F = F} 3 12 4 ≡ Some No_such_member
  pub both : recall_refusal {D = D} {F = F} 3 0 4 ≡ Some Bad_number

-- 2 of 3 to which no bytes spell a packet and at which no entry sets; its version has a spelling for each entry, or for none
abbrev pub faulty_setup : {D G F : Type 0} → D → F → Bool → Setup D G F
faulty_setup d f fits = record { seat = sits 7 2 3; reads = λ bytes. Err d; fits = λ entry. fits; sets = λ entry. Err f }

-- a station that is stopped says so, whatever else is wrong: bytes that it can't read, an entry that doesn't set
abbrev pub StoppedIsToldFirst : (D G F : Type 0) → Type 0
StoppedIsToldFirst D G F =
    (d : D) (f : F) (entry : Entry)
    → (refusal {G = G} (faulty_setup d f true) true [] (Receiving [] 0) ≡ Some Stopped)
    × (refusal {G = G} (faulty_setup d f true) true [] (Offering 12 entry 0) ≡ Some Stopped)
    × (refusal {G = G} (faulty_setup d f true) true [] (Recalling 0 4) ≡ Some Stopped)
    × (refusal {G = G} (faulty_setup d f true) false [] (Receiving [] 0) ≡ Some (Bad_datagram d))
    × (refusal {G = G} (faulty_setup d f true) false [] (Offering 12 entry 0) ≡ Some (Tape_faulty f))

-- a stranger's packet for another member is one for another member
abbrev pub AddresseeIsToldFirst : (D F : Type 0) → Type 0
AddresseeIsToldFirst D F = packet_refusal {D = D} {F = F} (sits 7 2 3) (packet_to (sits 7 4 3) 12 (ballot 1 4) Prepare 3) ≡ Some Not_for_me

-- a number out of range, and one that is open, is told before what is wrong with the entry
abbrev pub NumberIsToldFirst : (D G F : Type 0) → Type 0
NumberIsToldFirst D G F =
    (d : D) (f : F) (entry : Entry)
    → (refusal {G = G} (faulty_setup d f true) false [] (Offering 0 entry 0) ≡ Some Bad_number)
    × (refusal {G = G} (faulty_setup d f false) false (run_of (sits 7 2 3) (Offered 12 entry 0 ∷ [])).marks (Offering 12 entry 0) ≡ Some Already_open)

-- that a version has no spelling for an entry is told before the entry's own fault
abbrev pub VersionIsToldFirst : (D G F : Type 0) → Type 0
VersionIsToldFirst D G F = (d : D) (f : F) (entry : Entry) → refusal {G = G} (faulty_setup d f false) false [] (Offering 12 entry 0) ≡ Some Wire_too_old

-- a station at version 1 refuses to withdraw a number; at version 2 nothing refuses before the withdrawal is set
abbrev pub WithdrawalWantsVersionTwo : (D G F : Type 0) → Type 0
WithdrawalWantsVersionTwo D G F =
    (z : Circuit D G F) (m : ℕ)
    → (refusal (setup_of z One m) false [] (Offering 12 Void 0) ≡ Some Wire_too_old)
    × (early_refusal (setup_of z Two m) false [] (Offering 12 Void 0) ≡ None)

-- a step that was taken, and how it ended
pub record Taken (D F : Type 0) : Type 0 where
  pub step : Step
  pub outcome : Outcome D F

-- the steps of a history, the first first
abbrev pub steps_of : {D G F : Type 0} {z : Circuit D G F} {w : State G F} → History z w → List (Taken D F)
steps_of (starts version f) = []
steps_of (goes_on h s o st) = steps_of h ++ record { step = s; outcome = o } ∷ []

-- a member's release of an entry, set as it sets it
abbrev pub release_by : {D G F : Type 0} → Circuit D G F → ℕ → Entry → Release G F
release_by z m entry = record { member = m; number = 12; entry = entry; set = z.sets m entry }

-- the versions at which a history started
abbrev pub started_at : {D G F : Type 0} {z : Circuit D G F} {w : State G F} → History z w → ℕ → Version
started_at (starts version f) = version
started_at (goes_on h s o st) = started_at h

-- 1 of 1 that is offered an entry that fits its version and sets releases it
abbrev pub OneMemberReleases : (D G F : Type 0) → Type 0
OneMemberReleases D G F =
    (z : Circuit D G F) (v : Version) (entry : Entry) (slugs : G) → z.count ≡ 1 → fits v entry ≡ true → z.sets 1 entry ≡ Ok slugs
    → (w : State G F) × (h : History z w) × (started_at h 1 ≡ v) × (w.releases ≡ release_by z 1 entry ∷ [])
    × (steps_of h ≡ record { step = Offers 1 12 entry 0; outcome = Done (Note_proposed (ballot 1 1)) } ∷ [])

-- a vote that was saved as the store failed is released after the restart:
-- the station is stopped in between, and finds it as its own report by a search
abbrev pub SavedVoteIsReleased : (D G F : Type 0) → Type 0
SavedVoteIsReleased D G F =
    (z : Circuit D G F) (v : Version) (entry : Entry) (slugs : G) → z.count ≡ 1 → fits v entry ≡ true → z.sets 1 entry ≡ Ok slugs
    → (w : State G F) × (h : History z w) × (started_at h 1 ≡ v) × (w.releases ≡ release_by z 1 entry ∷ [])
    × (steps_of h
    ≡ record { step = Balks 1 true; outcome = Armed true }
    ∷ record { step = Offers 1 12 entry 0; outcome = Torn_as_armed }
    ∷ record { step = Seeks 1 12 0; outcome = Refused Stopped }
    ∷ record { step = Restarts 1; outcome = Restarted }
    ∷ record { step = Seeks 1 12 0; outcome = Done (Note_proposed (ballot 2 1)) } ∷ [])

-- what goes out as 1 of 3 is offered an entry and 2 promises and votes
abbrev pub packets_of_three : ℕ → Entry → List Packet
packets_of_three k entry =
    packet_to (sits k 1 3) 12 (ballot 1 1) Prepare 2 ∷ packet_to (sits k 1 3) 12 (ballot 1 1) Prepare 3
    ∷ packet_to (sits k 2 3) 12 (ballot 1 1) (Promise None) 1
    ∷ packet_to (sits k 1 3) 12 (ballot 1 1) (Accept entry) 2 ∷ packet_to (sits k 1 3) 12 (ballot 1 1) (Accept entry) 3
    ∷ packet_to (sits k 1 3) 12 (ballot 1 1) (Accepted entry) 2 ∷ packet_to (sits k 1 3) 12 (ballot 1 1) (Accepted entry) 3
    ∷ packet_to (sits k 2 3) 12 (ballot 1 1) (Accepted entry) 1 ∷ packet_to (sits k 2 3) 12 (ballot 1 1) (Accepted entry) 3 ∷ []

-- the packet, spelled and on its way
abbrev pub datagram_of : (Packet → List ℕ) → Packet → Datagram
datagram_of spell p = record { to = p.to; bytes = spell p }

-- the steps in which 1 of three is offered an entry, 2 promises and votes for it, and each hears the two votes
abbrev pub steps_of_three : {D F : Type 0} → Entry → List (Taken D F)
steps_of_three entry =
    record { step = Offers 1 12 entry 0; outcome = Done (Note_began (ballot 1 1)) }
    ∷ record { step = Delivers 1 0; outcome = Done (Note_promised (ballot 1 1)) }
    ∷ record { step = Delivers 3 0; outcome = Done (Note_proposed (ballot 1 1)) }
    ∷ record { step = Delivers 6 0; outcome = Done (Note_heard (ballot 1 1)) }
    ∷ record { step = Delivers 4 0; outcome = Done (Note_voted (ballot 1 1)) }
    ∷ record { step = Delivers 8 0; outcome = Done (Note_heard (ballot 1 1)) }
    ∷ record { step = Delivers 9 0; outcome = Done (Note_heard (ballot 1 1)) }
    ∷ record { step = Delivers 7 0; outcome = Done (Note_heard (ballot 1 1)) } ∷ []

-- what three release so: 2 the entry first, then 1, and 3 last
abbrev pub releases_of_three : {D G F : Type 0} → Circuit D G F → Entry → List (Release G F)
releases_of_three z entry = release_by z 2 entry ∷ release_by z 1 entry ∷ release_by z 3 entry ∷ []

-- of three members at one version, of which the first is offered an entry, all release it, though the third never voted:
-- 2 as it votes, 1 as it hears the vote of 2, and 3 as it has heard both
abbrev pub ThreeMembersRelease : (D G F : Type 0) → Type 0
ThreeMembersRelease D G F =
    (z : Circuit D G F) (v : Version) (spell : Packet → List ℕ) (entry : Entry) (slugs : G)
    → z.count ≡ 3 → fits v entry ≡ true → z.sets 1 entry ≡ Ok slugs
    → AllZip (Carries z v) (packets_of_three z.number entry) (map (datagram_of spell) (packets_of_three z.number entry))
    → (w : State G F) × (h : History z w) × ((m : ℕ) → started_at h m ≡ v) × (w.releases ≡ releases_of_three z entry)
    × (w.sent ≡ map (datagram_of spell) (packets_of_three z.number entry))
    × (steps_of h ≡ steps_of_three entry)

-- three members at version 2, the first of which is to withdraw the number, agree on that and release it
abbrev pub NumberIsWithdrawn : (D G F : Type 0) → Type 0
NumberIsWithdrawn D G F =
    (z : Circuit D G F) (spell : Packet → List ℕ) (nothing : G) → z.count ≡ 3 → z.sets 1 Void ≡ Ok nothing
    → AllZip (Carries z Two) (packets_of_three z.number Void) (map (datagram_of spell) (packets_of_three z.number Void))
    → (w : State G F) × (h : History z w) × ((m : ℕ) → started_at h m ≡ Two) × (w.releases ≡ releases_of_three z Void)
    × (w.sent ≡ map (datagram_of spell) (packets_of_three z.number Void))
    × (steps_of h ≡ steps_of_three Void)

-- 1 and 2 of three are at version 2, and 3 is at version 1. 1 is offered an entry, and 2 votes for it and releases it;
-- 3 can read neither what 1 asks nor what 1 tells of its vote
abbrev pub MixedMembersRelease : (D G F : Type 0) → Type 0
MixedMembersRelease D G F =
    (z : Circuit D G F) (spell : Packet → List ℕ) (entry : Entry) (slugs : G) (asked told : D) → z.count ≡ 3 → z.sets 1 entry ≡ Ok slugs
    → AllZip (Carries z Two) (packets_of_three z.number entry) (map (datagram_of spell) (packets_of_three z.number entry))
    → z.reads One (spell (packet_to (sits z.number 1 3) 12 (ballot 1 1) Prepare 3)) ≡ Err asked
    → z.reads One (spell (packet_to (sits z.number 1 3) 12 (ballot 1 1) (Accepted entry) 3)) ≡ Err told
    → (w : State G F) × (h : History z w) × ((m : ℕ) → started_at h m ≡ with_at (λ k. Two) 3 One m) × (w.releases ≡ release_by z 2 entry ∷ [])
    × (steps_of h
    ≡ record { step = Offers 1 12 entry 0; outcome = Done (Note_began (ballot 1 1)) }
    ∷ record { step = Delivers 2 0; outcome = Refused (Bad_datagram asked) }
    ∷ record { step = Delivers 1 0; outcome = Done (Note_promised (ballot 1 1)) }
    ∷ record { step = Delivers 3 0; outcome = Done (Note_proposed (ballot 1 1)) }
    ∷ record { step = Delivers 6 0; outcome = Done (Note_heard (ballot 1 1)) }
    ∷ record { step = Delivers 4 0; outcome = Done (Note_voted (ballot 1 1)) }
    ∷ record { step = Delivers 7 0; outcome = Refused (Bad_datagram told) } ∷ [])

-- 1 of 1, at version 1, is offered an entry that version 1 has no spelling for, after an upgrade that its store refused.
-- Where the store stayed at version 1 the entry is refused; where it went over all the same, the entry is released
abbrev pub TornUpgrades : (D G F : Type 0) → Type 0
TornUpgrades D G F =
    (z : Circuit D G F) (entry : Entry) (slugs : G) → z.count ≡ 1 → fits One entry ≡ false → z.sets 1 entry ≡ Ok slugs
    → ((w : State G F) × (h : History z w) × (started_at h 1 ≡ One) × (w.version 1 ≡ One)
    × (steps_of h
    ≡ record { step = Balks 1 false; outcome = Armed false }
    ∷ record { step = Upgrades 1; outcome = Torn_as_armed }
    ∷ record { step = Restarts 1; outcome = Restarted }
    ∷ record { step = Offers 1 12 entry 0; outcome = Refused Wire_too_old } ∷ []))
    × ((w : State G F) × (h : History z w) × (started_at h 1 ≡ One) × (w.releases ≡ release_by z 1 entry ∷ [])
    × (steps_of h
    ≡ record { step = Balks 1 true; outcome = Armed true }
    ∷ record { step = Upgrades 1; outcome = Torn_as_armed }
    ∷ record { step = Restarts 1; outcome = Restarted }
    ∷ record { step = Offers 1 12 entry 0; outcome = Done (Note_proposed (ballot 1 1)) } ∷ []))

-- what goes out at version 2 after 2 and 3 of three went over: 3 asks for a ballot, 2 reports its vote of before,
-- and 3 proposes the entry of that vote
abbrev pub packets_after : ℕ → Entry → List Packet
packets_after k entry =
    packet_to (sits k 3 3) 12 (ballot 1 3) Prepare 1 ∷ packet_to (sits k 3 3) 12 (ballot 1 3) Prepare 2
    ∷ packet_to (sits k 2 3) 12 (ballot 1 3) (Promise (Some (vote_for (ballot 1 1) entry))) 3
    ∷ packet_to (sits k 3 3) 12 (ballot 1 3) (Accept entry) 1 ∷ packet_to (sits k 3 3) 12 (ballot 1 3) (Accept entry) 2
    ∷ packet_to (sits k 3 3) 12 (ballot 1 3) (Accepted entry) 1 ∷ packet_to (sits k 3 3) 12 (ballot 1 3) (Accepted entry) 2
    ∷ packet_to (sits k 2 3) 12 (ballot 1 3) (Accepted entry) 1 ∷ packet_to (sits k 2 3) 12 (ballot 1 3) (Accepted entry) 3 ∷ []

-- 2 and 3 of three go over after 1 and 2 voted for an entry at version 1. 3 hears a vote that was sent at version 1,
-- is offered an entry of its own, finds the vote of 2, and releases the entry of that vote;
-- 1, which has not gone over, can't read what 3 asks
abbrev pub VoteOutlivesUpgrades : (D G F : Type 0) → Type 0
VoteOutlivesUpgrades D G F =
    (z : Circuit D G F) (spell : Version → Packet → List ℕ) (entry own : Entry) (slugs : G) (fault : D)
    → z.count ≡ 3 → fits One entry ≡ true → z.sets 1 entry ≡ Ok slugs → z.sets 3 own ≡ Ok slugs
    → AllZip (Carries z One) (packets_of_three z.number entry) (map (datagram_of (spell One)) (packets_of_three z.number entry))
    → AllZip (Carries z Two) (packets_after z.number entry) (map (datagram_of (spell Two)) (packets_after z.number entry))
    → z.reads One (spell Two (packet_to (sits z.number 3 3) 12 (ballot 1 3) Prepare 1)) ≡ Err fault
    → (w : State G F) × (h : History z w) × ((m : ℕ) → started_at h m ≡ One) × (w.releases ≡ release_by z 3 entry ∷ [])
    × (steps_of h
    ≡ record { step = Offers 1 12 entry 0; outcome = Done (Note_began (ballot 1 1)) }
    ∷ record { step = Delivers 1 0; outcome = Done (Note_promised (ballot 1 1)) }
    ∷ record { step = Delivers 3 0; outcome = Done (Note_proposed (ballot 1 1)) }
    ∷ record { step = Delivers 4 0; outcome = Done (Note_voted (ballot 1 1)) }
    ∷ record { step = Upgrades 2; outcome = Upgraded }
    ∷ record { step = Upgrades 3; outcome = Upgraded }
    ∷ record { step = Delivers 9 0; outcome = Done (Note_heard (ballot 1 1)) }
    ∷ record { step = Offers 3 12 own 0; outcome = Done (Note_began (ballot 1 3)) }
    ∷ record { step = Delivers 10 0; outcome = Refused (Bad_datagram fault) }
    ∷ record { step = Delivers 11 0; outcome = Done (Note_promised (ballot 1 3)) }
    ∷ record { step = Delivers 12 0; outcome = Done (Note_proposed (ballot 1 3)) }
    ∷ record { step = Delivers 14 0; outcome = Done (Note_voted (ballot 1 3)) }
    ∷ record { step = Delivers 18 0; outcome = Done (Note_heard (ballot 1 3)) } ∷ [])

-- a member's offer of an entry
abbrev pub offer_by : ℕ → Entry → Offer
offer_by m entry = record { member = m; number = 12; entry = entry }

-- 1 of 1 whose store refuses the save of its first offer, as unsaved, has no vote after the restart: a search finds nothing, at 1.1.
-- Its next offer ends in want of memory, which leaves the row and stops the station. After a restart an offer releases the entry at 2.1,
-- and after one more a search releases it again
abbrev pub LosesWhatIsUnsaved : {D G F : Type 0} → Circuit D G F → Type 0
LosesWhatIsUnsaved {D = D} {G = G} {F = F} z =
    (v : Version) (entry : Entry) (slugs : G) → fits v entry ≡ true → z.sets 1 entry ≡ Ok slugs
    → (w : State G F) × (h : History z w) × (started_at h 1 ≡ v)
    × (w.releases ≡ release_by z 1 entry ∷ release_by z 1 entry ∷ []) × (w.offers ≡ offer_by 1 entry ∷ offer_by 1 entry ∷ offer_by 1 entry ∷ [])
    × (steps_of h
    ≡ record { step = Balks 1 false; outcome = Armed false }
    ∷ record { step = Offers 1 12 entry 0; outcome = Torn_as_armed }
    ∷ record { step = Restarts 1; outcome = Restarted }
    ∷ record { step = Seeks 1 12 0; outcome = Done (Note_nothing (ballot 1 1)) }
    ∷ record { step = Offers 1 12 entry 0; outcome = Torn_by_memory }
    ∷ record { step = Seeks 1 12 0; outcome = Refused Stopped }
    ∷ record { step = Restarts 1; outcome = Restarted }
    ∷ record { step = Offers 1 12 entry 0; outcome = Done (Note_proposed (ballot 2 1)) }
    ∷ record { step = Restarts 1; outcome = Restarted }
    ∷ record { step = Seeks 1 12 0; outcome = Done (Note_proposed (ballot 3 1)) } ∷ [])

-- each circuit of one is such
abbrev pub UnsavedVoteIsLost : (D G F : Type 0) → Type 0
UnsavedVoteIsLost D G F = (z : Circuit D G F) → z.count ≡ 1 → LosesWhatIsUnsaved z

-- 1 of 1 is offered an entry that doesn't set. It is refused; but memory may be refused first, while the entry is set,
-- and then the station stops, and the offer counts as one that was made
abbrev pub MemoryEndsSetting : {D G F : Type 0} → Circuit D G F → Type 0
MemoryEndsSetting {D = D} {G = G} {F = F} z =
    (v : Version) (entry : Entry) (fault : F) → fits v entry ≡ true → z.sets 1 entry ≡ Err fault
    → (w : State G F) × (h : History z w) × (started_at h 1 ≡ v) × (w.is_stopped 1 ≡ true) × (w.offers ≡ offer_by 1 entry ∷ [])
    × (steps_of h
    ≡ record { step = Offers 1 12 entry 0; outcome = Refused (Tape_faulty fault) }
    ∷ record { step = Offers 1 12 entry 0; outcome = Torn_by_memory } ∷ [])

-- each circuit of one is such
abbrev pub SettingWantsMemory : (D G F : Type 0) → Type 0
SettingWantsMemory D G F = (z : Circuit D G F) → z.count ≡ 1 → MemoryEndsSetting z

-- 1 of 1 is armed as saved. Its own store fails as the row is read, which leaves it armed: after a restart its next offer is torn as armed,
-- and the vote was saved, which a search finds after one more restart
abbrev pub StaysArmed : {D G F : Type 0} → Circuit D G F → Type 0
StaysArmed {D = D} {G = G} {F = F} z =
    (v : Version) (entry : Entry) (slugs : G) → fits v entry ≡ true → z.sets 1 entry ≡ Ok slugs
    → (w : State G F) × (h : History z w) × (started_at h 1 ≡ v)
    × (w.releases ≡ release_by z 1 entry ∷ []) × (w.offers ≡ offer_by 1 entry ∷ offer_by 1 entry ∷ [])
    × (steps_of h
    ≡ record { step = Balks 1 true; outcome = Armed true }
    ∷ record { step = Offers 1 12 entry 0; outcome = Torn_by_store }
    ∷ record { step = Restarts 1; outcome = Restarted }
    ∷ record { step = Offers 1 12 entry 0; outcome = Torn_as_armed }
    ∷ record { step = Restarts 1; outcome = Restarted }
    ∷ record { step = Seeks 1 12 0; outcome = Done (Note_proposed (ballot 2 1)) } ∷ [])

-- each circuit of one is such
abbrev pub ReadingLeavesArmed : (D G F : Type 0) → Type 0
ReadingLeavesArmed D G F = (z : Circuit D G F) → z.count ≡ 1 → StaysArmed z

-- 1 of 1 is armed as saved, and its own store refuses the save too and leaves the row before: after the restart a search finds nothing,
-- and the next offer is not torn
abbrev pub SaveIsRefusedTwice : {D G F : Type 0} → Circuit D G F → Type 0
SaveIsRefusedTwice {D = D} {G = G} {F = F} z =
    (v : Version) (entry : Entry) (slugs : G) → fits v entry ≡ true → z.sets 1 entry ≡ Ok slugs
    → (w : State G F) × (h : History z w) × (started_at h 1 ≡ v)
    × (w.releases ≡ release_by z 1 entry ∷ []) × (w.offers ≡ offer_by 1 entry ∷ offer_by 1 entry ∷ [])
    × (steps_of h
    ≡ record { step = Balks 1 true; outcome = Armed true }
    ∷ record { step = Offers 1 12 entry 0; outcome = Torn_by_store }
    ∷ record { step = Restarts 1; outcome = Restarted }
    ∷ record { step = Seeks 1 12 0; outcome = Done (Note_nothing (ballot 1 1)) }
    ∷ record { step = Offers 1 12 entry 0; outcome = Done (Note_proposed (ballot 2 1)) } ∷ [])

-- each circuit of one is such
abbrev pub StoreRefusesToo : (D G F : Type 0) → Type 0
StoreRefusesToo D G F = (z : Circuit D G F) → z.count ≡ 1 → SaveIsRefusedTwice z

-- what goes out as 3 of 3 asks for 1.3 and 2 promises it, as 1 asks for 1.1 and 2 denies it, and as 1 asks anew
abbrev pub packets_denied : ℕ → List Packet
packets_denied k =
    packet_to (sits k 3 3) 12 (ballot 1 3) Prepare 1 ∷ packet_to (sits k 3 3) 12 (ballot 1 3) Prepare 2
    ∷ packet_to (sits k 2 3) 12 (ballot 1 3) (Promise None) 3
    ∷ packet_to (sits k 1 3) 12 (ballot 1 1) Prepare 2 ∷ packet_to (sits k 1 3) 12 (ballot 1 1) Prepare 3
    ∷ packet_to (sits k 2 3) 12 (ballot 1 1) (Nack (ballot 1 3)) 1
    ∷ packet_to (sits k 1 3) 12 (ballot 2 1) Prepare 2 ∷ packet_to (sits k 1 3) 12 (ballot 2 1) Prepare 3 ∷ []

-- 2 of three promises 3 the ballot 1.3 and denies 1 the ballot 1.1; the Prepare of 3 that comes once more it leaves unanswered.
-- 1 is not due at 289, and at 290 it begins 2.1, above the Nack. Nobody votes, so nothing is released
abbrev pub DeniesTheLower : {D G F : Type 0} → Circuit D G F → Type 0
DeniesTheLower {D = D} {G = G} {F = F} z =
    (v : Version) (spell : Packet → List ℕ) (x y : Entry) (one three : G)
    → fits v x ≡ true → fits v y ≡ true → z.sets 3 x ≡ Ok three → z.sets 1 y ≡ Ok one
    → AllZip (Carries z v) (packets_denied z.number) (map (datagram_of spell) (packets_denied z.number))
    → (w : State G F) × (h : History z w) × ((m : ℕ) → started_at h m ≡ v)
    × (w.releases ≡ []) × (w.sent ≡ map (datagram_of spell) (packets_denied z.number))
    × (steps_of h
    ≡ record { step = Offers 3 12 x 0; outcome = Done (Note_began (ballot 1 3)) }
    ∷ record { step = Delivers 2 0; outcome = Done (Note_promised (ballot 1 3)) }
    ∷ record { step = Offers 1 12 y 0; outcome = Done (Note_began (ballot 1 1)) }
    ∷ record { step = Delivers 4 0; outcome = Done (Note_nacked (ballot 1 3)) }
    ∷ record { step = Delivers 6 0; outcome = Done (Note_denied (ballot 1 3)) }
    ∷ record { step = Delivers 2 0; outcome = Done Note_silent }
    ∷ record { step = Falls_due 1 289; outcome = Done Note_idle }
    ∷ record { step = Falls_due 1 290; outcome = Done (Note_began (ballot 2 1)) } ∷ [])

-- each circuit of three is such
abbrev pub LowerIsDenied : (D G F : Type 0) → Type 0
LowerIsDenied D G F = (z : Circuit D G F) → z.count ≡ 3 → DeniesTheLower z

-- what goes out in a fight of two proposers: 1 of 3 proposes its entry, for which 2 votes, and 3 proposes it anew
abbrev pub packets_of_fight : ℕ → Entry → List Packet
packets_of_fight k entry = packets_of_three k entry ++ packets_after k entry

-- a fight of two proposers. 2 of three has voted for the entry of 1 at 1.1, and no one knows that it is chosen, when 3 is offered an entry of its own.
-- 2 reports its vote as it promises 1.3, so 3 proposes the entry of 1 and not its own, and releases it once 2 has voted at 1.3
abbrev pub FightsForOne : {D G F : Type 0} → Circuit D G F → Type 0
FightsForOne {D = D} {G = G} {F = F} z =
    (v : Version) (spell : Packet → List ℕ) (x y : Entry) (one three : G)
    → fits v x ≡ true → fits v y ≡ true → z.sets 1 x ≡ Ok one → z.sets 3 y ≡ Ok three
    → AllZip (Carries z v) (packets_of_fight z.number x) (map (datagram_of spell) (packets_of_fight z.number x))
    → (w : State G F) × (h : History z w) × ((m : ℕ) → started_at h m ≡ v)
    × (w.releases ≡ release_by z 3 x ∷ []) × (w.offers ≡ offer_by 1 x ∷ offer_by 3 y ∷ [])
    × (w.sent ≡ map (datagram_of spell) (packets_of_fight z.number x))
    × (steps_of h
    ≡ record { step = Offers 1 12 x 0; outcome = Done (Note_began (ballot 1 1)) }
    ∷ record { step = Delivers 1 0; outcome = Done (Note_promised (ballot 1 1)) }
    ∷ record { step = Delivers 3 0; outcome = Done (Note_proposed (ballot 1 1)) }
    ∷ record { step = Delivers 4 0; outcome = Done (Note_voted (ballot 1 1)) }
    ∷ record { step = Offers 3 12 y 0; outcome = Done (Note_began (ballot 1 3)) }
    ∷ record { step = Delivers 11 0; outcome = Done (Note_promised (ballot 1 3)) }
    ∷ record { step = Delivers 12 0; outcome = Done (Note_proposed (ballot 1 3)) }
    ∷ record { step = Delivers 14 0; outcome = Done (Note_voted (ballot 1 3)) }
    ∷ record { step = Delivers 18 0; outcome = Done (Note_heard (ballot 1 3)) } ∷ [])

-- each circuit of three is such
abbrev pub TwoProposersFight : (D G F : Type 0) → Type 0
TwoProposersFight D G F = (z : Circuit D G F) → z.count ≡ 3 → FightsForOne z

-- what goes out as 1 of 3 is offered an entry, 2 promises and votes, and both tell 3 of their votes again
abbrev pub packets_told_again : ℕ → Entry → List Packet
packets_told_again k entry =
    packets_of_three k entry ++ packet_to (sits k 1 3) 12 (ballot 1 1) (Accepted entry) 3 ∷ packet_to (sits k 2 3) 12 (ballot 1 1) (Accepted entry) 3 ∷ []

-- 1 and 2 of three vote for the entry of 1, and nothing of that gets to 3, which then has nothing to tell. 1 starts again.
-- Each of them tells 3 its vote again, and 3 releases the entry. 1 hears the vote of 2, and as it hears its own again it releases the entry too
abbrev pub LostVotesAreTold : {D G F : Type 0} → Circuit D G F → Type 0
LostVotesAreTold {D = D} {G = G} {F = F} z =
    (v : Version) (spell : Packet → List ℕ) (entry : Entry) (slugs : G)
    → fits v entry ≡ true → z.sets 1 entry ≡ Ok slugs
    → AllZip (Carries z v) (packets_told_again z.number entry) (map (datagram_of spell) (packets_told_again z.number entry))
    → (w : State G F) × (h : History z w) × ((m : ℕ) → started_at h m ≡ v)
    × (w.releases ≡ release_by z 3 entry ∷ release_by z 1 entry ∷ [])
    × (w.sent ≡ map (datagram_of spell) (packets_told_again z.number entry))
    × (steps_of h
    ≡ record { step = Offers 1 12 entry 0; outcome = Done (Note_began (ballot 1 1)) }
    ∷ record { step = Delivers 1 0; outcome = Done (Note_promised (ballot 1 1)) }
    ∷ record { step = Delivers 3 0; outcome = Done (Note_proposed (ballot 1 1)) }
    ∷ record { step = Delivers 4 0; outcome = Done (Note_voted (ballot 1 1)) }
    ∷ record { step = Recalls 3 12 3; outcome = Done Note_blank }
    ∷ record { step = Restarts 1; outcome = Restarted }
    ∷ record { step = Recalls 1 12 3; outcome = Done (Note_recalled (ballot 1 1)) }
    ∷ record { step = Recalls 2 12 3; outcome = Done (Note_recalled (ballot 1 1)) }
    ∷ record { step = Delivers 10 0; outcome = Done (Note_heard (ballot 1 1)) }
    ∷ record { step = Delivers 11 0; outcome = Done (Note_heard (ballot 1 1)) }
    ∷ record { step = Delivers 8 0; outcome = Done (Note_heard (ballot 1 1)) }
    ∷ record { step = Recalls 1 12 1; outcome = Done (Note_recalled (ballot 1 1)) } ∷ [])

-- each circuit of three is such
abbrev pub VotesAreToldAgain : (D G F : Type 0) → Type 0
VotesAreToldAgain D G F = (z : Circuit D G F) → z.count ≡ 3 → LostVotesAreTold z
