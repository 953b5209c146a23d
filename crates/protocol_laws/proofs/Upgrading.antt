-- Histories in which members go over.
use Rattle.std.proofs.Common.{◌≡◌, ℕ, inl, refl, arith, List, [], ◌∷◌, Some, None, true, false}
use Rattle.std.specs.Prelude.{◌==◌, map, Ok, Err}
use Rattle.std.specs.List.{AllZip}
use Rattle.std.proofs.lemmas.Bool.{eq-eqb}
use Rattle.protocol.specs.Seats.{sits}
use Rattle.protocol.specs.Ballots.{IsMember}
use Rattle.protocol.specs.Entries.{Entry}
use Rattle.protocol.specs.Rows.{vote_for}
use Rattle.protocol.specs.Versions.{Version, One, Two, fits}
use Rattle.protocol.specs.Packets.{Packet, Prepare, Promise, Accept, Accepted}
use Rattle.protocol.specs.Turn.{Note_began, Note_promised, Note_proposed, Note_heard, Note_voted, Offered, Arrived, packet_to}
use Rattle.protocol.specs.Refusals.{Offering, Receiving, Wire_too_old, Bad_datagram}
use Rattle.protocol.specs.Circuit.{Circuit, State, Offers, Delivers, Restarts, Upgrades, Balks, Done, Refused, Torn_as_armed, Restarted, Upgraded, Armed, Carries, is_refused, is_done, restarts, upgrades, upgrade_is_torn, is_armed, History, goes_on}
use Rattle.protocol.specs.Runs.{ballot}
use Rattle.protocol.specs.Rehearsals.{steps_of, started_at, TornUpgrades, VoteOutlivesUpgrades, packets_of_three, packets_after, datagram_of, release_by}
use Rattle.protocol_laws.proofs.Steps.{spelled_heard}
use Rattle.protocol_laws.proofs.Rehearsing.{same, begins, of_count, at_count}

abbrev AreTorn : {D G F : Type 0} → Circuit D G F → Type 0
AreTorn {D = D} {G = G} {F = F} z =
    (entry : Entry) (slugs : G) → fits One entry ≡ false → z.sets 1 entry ≡ Ok slugs
    → ((w : State G F) × (h : History z w) × (started_at h 1 ≡ One) × (w.version 1 ≡ One)
    × (steps_of h
    ≡ record { step = Balks 1 false; outcome = Armed false }
    ∷ record { step = Upgrades 1; outcome = Torn_as_armed }
    ∷ record { step = Restarts 1; outcome = Restarted }
    ∷ record { step = Offers 1 12 entry 0; outcome = Refused Wire_too_old } ∷ []))
    × ((w : State G F) × (h : History z w) × (started_at h 1 ≡ One) × (w.releases ≡ release_by z 1 entry ∷ [])
    × (steps_of h
    ≡ record { step = Balks 1 true; outcome = Armed true }
    ∷ record { step = Upgrades 1; outcome = Torn_as_armed }
    ∷ record { step = Restarts 1; outcome = Restarted }
    ∷ record { step = Offers 1 12 entry 0; outcome = Done (Note_proposed (ballot 1 1)) } ∷ []))

are_torn : {D G F : Type 0} → of_count {D = D} {G = G} {F = F} 1 AreTorn
are_torn {D = D} {G = G} {F = F} k reads version_of sets says entry slugs unfit s =
    let z : Circuit D G F = record { number = k; count = 1; reads = reads; version_of = version_of; sets = sets; says = says } in
    let me : IsMember 1 1 = (omega arith, omega arith) in
    let a1 : History z _ = goes_on (begins z One) (Balks 1 false) (Armed false) (is_armed 1 false me refl refl (same _)) in
    let a2 : History z _ = goes_on a1 (Upgrades 1) Torn_as_armed (upgrade_is_torn 1 One me refl (refl, refl) (same _)) in
    let a3 : History z _ = goes_on a2 (Restarts 1) Restarted (restarts 1 me refl refl (same _)) in
    let a4 : History z _ = goes_on a3 (Offers 1 12 entry 0) (Refused Wire_too_old) (is_refused 1 (Offering 12 entry 0) Wire_too_old refl me (rw unfit refl) refl (same _)) in
    let b1 : History z _ = goes_on (begins z One) (Balks 1 true) (Armed true) (is_armed 1 true me refl refl (same _)) in
    let b2 : History z _ = goes_on b1 (Upgrades 1) Torn_as_armed (upgrade_is_torn 1 Two me refl (inl (refl, refl)) (same _)) in
    let b3 : History z _ = goes_on b2 (Restarts 1) Restarted (restarts 1 me refl refl (same _)) in
    let b4 : History z _ = goes_on b3 (Offers 1 12 entry 0) (Done (Note_proposed (ballot 1 1))) (is_done 1 (Offering 12 entry 0) (Offered 12 entry 0) _ [] refl me (rw s refl) refl refl tt (inl refl) refl (same _)) in
    ((_, a4, refl, refl, refl), (_, b4, refl, refl, refl))

pub torn_upgrades : {D G F : Type 0} → TornUpgrades D G F
torn_upgrades z entry slugs one unfit sets = at_count 1 AreTorn are_torn z one entry slugs unfit sets

abbrev IsFound : {D G F : Type 0} → Circuit D G F → Type 0
IsFound {D = D} {G = G} {F = F} z =
    (spell : Version → Packet → List ℕ) (entry own : Entry) (slugs : G) (fault : D) → fits One entry ≡ true → z.sets 1 entry ≡ Ok slugs → z.sets 3 own ≡ Ok slugs
    → AllZip (Carries z One) (packets_of_three z.number entry) (map (datagram_of (spell One)) (packets_of_three z.number entry))
    → AllZip (Carries z Two) (packets_after z.number entry) (map (datagram_of (spell Two)) (packets_after z.number entry))
    → z.reads One (spell Two (packet_to (sits z.number 3 3) 12 (ballot 1 3) Prepare 1)) ≡ Err fault
    → (w : State G F) × (h : History z w) × ((m : ℕ) → started_at h m ≡ One) × (w.releases ≡ release_by z 3 entry ∷ [])
    × (steps_of h
    ≡ record { step = Offers 1 12 entry 0; outcome = Done (Note_began (ballot 1 1)) }
    ∷ record { step = Delivers 1 0; outcome = Done (Note_promised (ballot 1 1)) }
    ∷ record { step = Delivers 3 0; outcome = Done (Note_proposed (ballot 1 1)) }
    ∷ record { step = Delivers 4 0; outcome = Done (Note_voted (ballot 1 1)) }
    ∷ record { step = Upgrades 2; outcome = Upgraded }
    ∷ record { step = Upgrades 3; outcome = Upgraded }
    ∷ record { step = Delivers 9 0; outcome = Done (Note_heard (ballot 1 1)) }
    ∷ record { step = Offers 3 12 own 0; outcome = Done (Note_began (ballot 1 3)) }
    ∷ record { step = Delivers 10 0; outcome = Refused (Bad_datagram fault) }
    ∷ record { step = Delivers 11 0; outcome = Done (Note_promised (ballot 1 3)) }
    ∷ record { step = Delivers 12 0; outcome = Done (Note_proposed (ballot 1 3)) }
    ∷ record { step = Delivers 14 0; outcome = Done (Note_voted (ballot 1 3)) }
    ∷ record { step = Delivers 18 0; outcome = Done (Note_heard (ballot 1 3)) } ∷ [])

is_found : {D G F : Type 0} → of_count {D = D} {G = G} {F = F} 3 IsFound
is_found {D = D} {G = G} {F = F} k reads version_of sets says spell entry own slugs fault fit s so before after bad =
    let z : Circuit D G F = record { number = k; count = 3; reads = reads; version_of = version_of; sets = sets; says = says } in
    let e : (k == k) ≡ true = eq-eqb k k refl in
    let ((_, r1), ((_, r2), ((_, r3), ((_, r4), ((_, r5), ((_, r6), ((_, r7), ((_, r8), ((_, r9), _))))))))) = before in
    let ((_, r10), ((_, r11), ((_, r12), ((_, r13), ((_, r14), ((_, r15), ((_, r16), ((_, r17), ((_, r18), _))))))))) = after in
    let g9 = spelled_heard z One _ _ r9 in
    let g11 = spelled_heard z Two _ _ r11 in
    let g12 = spelled_heard z Two _ _ r12 in
    let g14 = spelled_heard z Two _ _ r14 in
    let g18 = spelled_heard z Two _ _ r18 in
    let d : (v : Version) → Packet → _ = λ v p. datagram_of (spell v) p in
    let one : IsMember 3 1 = (omega arith, omega arith) in
    let two : IsMember 3 2 = (omega arith, omega arith) in
    let three : IsMember 3 3 = (omega arith, omega arith) in
    let h0 : History z _ = goes_on (begins z One) (Offers 1 12 entry 0) (Done (Note_began (ballot 1 1)))
    (is_done 1 (Offering 12 entry 0) (Offered 12 entry 0) _ (d One (packet_to (sits k 1 3) 12 (ballot 1 1) Prepare 2) ∷ d One (packet_to (sits k 1 3) 12 (ballot 1 1) Prepare 3) ∷ []) refl one (rw (fit, s) refl) refl refl ((refl, r1), ((refl, r2), tt)) (inl refl) refl (same _)) in
    let h1 : History z _ = goes_on h0 (Delivers 1 0) (Done (Note_promised (ballot 1 1)))
    (is_done 2 (Receiving _ 0) (Arrived (packet_to (sits k 1 3) 12 (ballot 1 1) Prepare 2) 0) _ (d One (packet_to (sits k 2 3) 12 (ballot 1 1) (Promise None) 1) ∷ []) refl two (rw (r1, e) refl) (rw r1 refl) refl ((refl, r3), tt) (inl refl) refl (same _)) in
    let h2 : History z _ = goes_on h1 (Delivers 3 0) (Done (Note_proposed (ballot 1 1)))
    (is_done 1 (Receiving _ 0) (Arrived (packet_to (sits k 2 3) 12 (ballot 1 1) (Promise None) 1) 0) _ (d One (packet_to (sits k 1 3) 12 (ballot 1 1) (Accept entry) 2) ∷ d One (packet_to (sits k 1 3) 12 (ballot 1 1) (Accept entry) 3) ∷ d One (packet_to (sits k 1 3) 12 (ballot 1 1) (Accepted entry) 2) ∷ d One (packet_to (sits k 1 3) 12 (ballot 1 1) (Accepted entry) 3) ∷ []) refl one (rw (r3, e) refl) (rw r3 refl) refl ((refl, r4), ((refl, r5), ((refl, r6), ((refl, r7), tt)))) (inl refl) refl (same _)) in
    let h3 : History z _ = goes_on h2 (Delivers 4 0) (Done (Note_voted (ballot 1 1)))
    (is_done 2 (Receiving _ 0) (Arrived (packet_to (sits k 1 3) 12 (ballot 1 1) (Accept entry) 2) 0) _ (d One (packet_to (sits k 2 3) 12 (ballot 1 1) (Accepted entry) 1) ∷ d One (packet_to (sits k 2 3) 12 (ballot 1 1) (Accepted entry) 3) ∷ []) refl two (rw (r4, e) refl) (rw r4 refl) refl ((refl, r8), ((refl, r9), tt)) (inl refl) refl (same _)) in
    let h4 : History z _ = goes_on h3 (Upgrades 2) Upgraded (upgrades 2 two refl refl refl (same _)) in
    let h5 : History z _ = goes_on h4 (Upgrades 3) Upgraded (upgrades 3 three refl refl refl (same _)) in
    let heard : History z _ = goes_on h5 (Delivers 9 0) (Done (Note_heard (ballot 1 1)))
    (is_done 3 (Receiving _ 0) (Arrived (packet_to (sits k 2 3) 12 (ballot 1 1) (Accepted entry) 3) 0) _ [] refl three (rw (g9, e) refl) (rw g9 refl) refl tt (inl refl) refl (same _)) in
    let h6 : History z _ = goes_on heard (Offers 3 12 own 0) (Done (Note_began (ballot 1 3)))
    (is_done 3 (Offering 12 own 0) (Offered 12 own 0) _ (d Two (packet_to (sits k 3 3) 12 (ballot 1 3) Prepare 1) ∷ d Two (packet_to (sits k 3 3) 12 (ballot 1 3) Prepare 2) ∷ []) refl three (rw so refl) refl refl ((refl, r10), ((refl, r11), tt)) (inl refl) refl (same _)) in
    let h7 : History z _ = goes_on h6 (Delivers 10 0) (Refused (Bad_datagram fault)) (is_refused 1 (Receiving _ 0) (Bad_datagram fault) refl one (rw bad refl) refl (same _)) in
    let h8 : History z _ = goes_on h7 (Delivers 11 0) (Done (Note_promised (ballot 1 3)))
    (is_done 2 (Receiving _ 0) (Arrived (packet_to (sits k 3 3) 12 (ballot 1 3) Prepare 2) 0) _ (d Two (packet_to (sits k 2 3) 12 (ballot 1 3) (Promise (Some (vote_for (ballot 1 1) entry))) 3) ∷ []) refl two (rw (g11, e) refl) (rw g11 refl) refl ((refl, r12), tt) (inl refl) refl (same _)) in
    let h9 : History z _ = goes_on h8 (Delivers 12 0) (Done (Note_proposed (ballot 1 3)))
    (is_done 3 (Receiving _ 0) (Arrived (packet_to (sits k 2 3) 12 (ballot 1 3) (Promise (Some (vote_for (ballot 1 1) entry))) 3) 0) _ (d Two (packet_to (sits k 3 3) 12 (ballot 1 3) (Accept entry) 1) ∷ d Two (packet_to (sits k 3 3) 12 (ballot 1 3) (Accept entry) 2) ∷ d Two (packet_to (sits k 3 3) 12 (ballot 1 3) (Accepted entry) 1) ∷ d Two (packet_to (sits k 3 3) 12 (ballot 1 3) (Accepted entry) 2) ∷ []) refl three (rw (g12, e) refl) (rw g12 refl) refl ((refl, r13), ((refl, r14), ((refl, r15), ((refl, r16), tt)))) (inl refl) refl (same _)) in
    let h10 : History z _ = goes_on h9 (Delivers 14 0) (Done (Note_voted (ballot 1 3)))
    (is_done 2 (Receiving _ 0) (Arrived (packet_to (sits k 3 3) 12 (ballot 1 3) (Accept entry) 2) 0) _ (d Two (packet_to (sits k 2 3) 12 (ballot 1 3) (Accepted entry) 1) ∷ d Two (packet_to (sits k 2 3) 12 (ballot 1 3) (Accepted entry) 3) ∷ []) refl two (rw (g14, e) refl) (rw g14 refl) refl ((refl, r17), ((refl, r18), tt)) (inl refl) refl (same _)) in
    let h11 : History z _ = goes_on h10 (Delivers 18 0) (Done (Note_heard (ballot 1 3)))
    (is_done 3 (Receiving _ 0) (Arrived (packet_to (sits k 2 3) 12 (ballot 1 3) (Accepted entry) 3) 0) _ [] refl three (rw (g18, e) refl) (rw g18 refl) refl tt (inl refl) refl (same _)) in
    (_, h11, λ m. refl, refl, refl)

pub vote_outlives_upgrades : {D G F : Type 0} → VoteOutlivesUpgrades D G F
vote_outlives_upgrades z spell entry own slugs fault three fit sets so before after bad = at_count 3 IsFound is_found z three spell entry own slugs fault fit sets so before after bad
