-- A withdrawn number, and members of which one can't read the others.
use Rattle.std.proofs.Common.{◌≡◌, ℕ, inl, refl, arith, List, [], ◌∷◌, None, true}
use Rattle.std.specs.Prelude.{◌==◌, map, Ok, Err}
use Rattle.std.specs.List.{AllZip}
use Rattle.std.proofs.lemmas.Bool.{eq-eqb}
use Rattle.protocol.specs.Seats.{sits}
use Rattle.protocol.specs.Ballots.{IsMember}
use Rattle.protocol.specs.Entries.{Entry, Void}
use Rattle.protocol.specs.Versions.{Version, One, Two}
use Rattle.protocol.specs.Packets.{Packet, Prepare, Promise, Accept, Accepted}
use Rattle.protocol.specs.Turn.{Note_began, Note_promised, Note_proposed, Note_heard, Note_voted, Offered, Arrived, packet_to}
use Rattle.protocol.specs.Refusals.{Offering, Receiving, Bad_datagram}
use Rattle.protocol.specs.Circuit.{Circuit, Datagram, State, fresh, with_at, Offers, Delivers, Done, Refused, Carries, is_refused, is_done, History, starts, goes_on}
use Rattle.protocol.specs.Runs.{ballot}
use Rattle.protocol.specs.Rehearsals.{steps_of, started_at, WithdrawalWantsVersionTwo, NumberIsWithdrawn, MixedMembersRelease, packets_of_three, datagram_of, release_by}
use Rattle.protocol_laws.proofs.Steps.{spelled_heard}
use Rattle.protocol_laws.proofs.Rehearsing.{same, of_count, at_count, three_members_release}

pub withdrawal_wants_version_two : {D G F : Type 0} → WithdrawalWantsVersionTwo D G F
withdrawal_wants_version_two z m = (refl, refl)

pub number_is_withdrawn : {D G F : Type 0} → NumberIsWithdrawn D G F
number_is_withdrawn z spell nothing three sets reads = three_members_release z Two spell Void nothing three refl sets reads

abbrev IsReleasedByTwo : {D G F : Type 0} → Circuit D G F → Type 0
IsReleasedByTwo {D = D} {G = G} {F = F} z =
    (spell : Packet → List ℕ) (entry : Entry) (slugs : G) (asked told : D) → z.sets 1 entry ≡ Ok slugs
    → AllZip (Carries z Two) (packets_of_three z.number entry) (map (datagram_of spell) (packets_of_three z.number entry))
    → z.reads One (spell (packet_to (sits z.number 1 3) 12 (ballot 1 1) Prepare 3)) ≡ Err asked
    → z.reads One (spell (packet_to (sits z.number 1 3) 12 (ballot 1 1) (Accepted entry) 3)) ≡ Err told
    → (w : State G F) × (h : History z w) × ((m : ℕ) → started_at h m ≡ with_at (λ k. Two) 3 One m) × (w.releases ≡ release_by z 2 entry ∷ [])
    × (steps_of h
    ≡ record { step = Offers 1 12 entry 0; outcome = Done (Note_began (ballot 1 1)) }
    ∷ record { step = Delivers 2 0; outcome = Refused (Bad_datagram asked) }
    ∷ record { step = Delivers 1 0; outcome = Done (Note_promised (ballot 1 1)) }
    ∷ record { step = Delivers 3 0; outcome = Done (Note_proposed (ballot 1 1)) }
    ∷ record { step = Delivers 6 0; outcome = Done (Note_heard (ballot 1 1)) }
    ∷ record { step = Delivers 4 0; outcome = Done (Note_voted (ballot 1 1)) }
    ∷ record { step = Delivers 7 0; outcome = Refused (Bad_datagram told) } ∷ [])

is_released_by_two : {D G F : Type 0} → of_count {D = D} {G = G} {F = F} 3 IsReleasedByTwo
is_released_by_two {D = D} {G = G} {F = F} k reads version_of sets says spell entry slugs asked told s spelled bad_question bad_vote =
    let z : Circuit D G F = record { number = k; count = 3; reads = reads; version_of = version_of; sets = sets; says = says } in
    let e : (k == k) ≡ true = eq-eqb k k refl in
    let d : Packet → Datagram = λ p. datagram_of spell p in
    let ((_, r1), ((_, r2), ((_, r3), ((_, r4), ((_, r5), ((_, r6), ((_, r7), ((_, r8), ((_, r9), _))))))))) = spelled in
    let g1 = spelled_heard z Two _ _ r1 in
    let g3 = spelled_heard z Two _ _ r3 in
    let g4 = spelled_heard z Two _ _ r4 in
    let g6 = spelled_heard z Two _ _ r6 in
    let one : IsMember 3 1 = (omega arith, omega arith) in
    let two : IsMember 3 2 = (omega arith, omega arith) in
    let three : IsMember 3 3 = (omega arith, omega arith) in
    let mixed : ℕ → Version = with_at (λ k. Two) 3 One in
    let h0 : History z _ = starts mixed (same (fresh mixed)) in
    let h1 : History z _ = goes_on h0 (Offers 1 12 entry 0) (Done (Note_began (ballot 1 1)))
    (is_done 1 (Offering 12 entry 0) (Offered 12 entry 0) _ (d (packet_to (sits k 1 3) 12 (ballot 1 1) Prepare 2) ∷ d (packet_to (sits k 1 3) 12 (ballot 1 1) Prepare 3) ∷ []) refl one (rw s refl) refl refl ((refl, r1), ((refl, r2), tt)) (inl refl) refl (same _)) in
    let h2 : History z _ = goes_on h1 (Delivers 2 0) (Refused (Bad_datagram asked)) (is_refused 3 (Receiving _ 0) (Bad_datagram asked) refl three (rw bad_question refl) refl (same _)) in
    let h3 : History z _ = goes_on h2 (Delivers 1 0) (Done (Note_promised (ballot 1 1)))
    (is_done 2 (Receiving _ 0) (Arrived (packet_to (sits k 1 3) 12 (ballot 1 1) Prepare 2) 0) _ (d (packet_to (sits k 2 3) 12 (ballot 1 1) (Promise None) 1) ∷ []) refl two (rw (g1, e) refl) (rw g1 refl) refl ((refl, r3), tt) (inl refl) refl (same _)) in
    let h4 : History z _ = goes_on h3 (Delivers 3 0) (Done (Note_proposed (ballot 1 1)))
    (is_done 1 (Receiving _ 0) (Arrived (packet_to (sits k 2 3) 12 (ballot 1 1) (Promise None) 1) 0) _ (d (packet_to (sits k 1 3) 12 (ballot 1 1) (Accept entry) 2) ∷ d (packet_to (sits k 1 3) 12 (ballot 1 1) (Accept entry) 3) ∷ d (packet_to (sits k 1 3) 12 (ballot 1 1) (Accepted entry) 2) ∷ d (packet_to (sits k 1 3) 12 (ballot 1 1) (Accepted entry) 3) ∷ []) refl one (rw (g3, e) refl) (rw g3 refl) refl ((refl, r4), ((refl, r5), ((refl, r6), ((refl, r7), tt)))) (inl refl) refl (same _)) in
    let h5 : History z _ = goes_on h4 (Delivers 6 0) (Done (Note_heard (ballot 1 1)))
    (is_done 2 (Receiving _ 0) (Arrived (packet_to (sits k 1 3) 12 (ballot 1 1) (Accepted entry) 2) 0) _ [] refl two (rw (g6, e) refl) (rw g6 refl) refl tt (inl refl) refl (same _)) in
    let h6 : History z _ = goes_on h5 (Delivers 4 0) (Done (Note_voted (ballot 1 1)))
    (is_done 2 (Receiving _ 0) (Arrived (packet_to (sits k 1 3) 12 (ballot 1 1) (Accept entry) 2) 0) _ (d (packet_to (sits k 2 3) 12 (ballot 1 1) (Accepted entry) 1) ∷ d (packet_to (sits k 2 3) 12 (ballot 1 1) (Accepted entry) 3) ∷ []) refl two (rw (g4, e) refl) (rw g4 refl) refl ((refl, r8), ((refl, r9), tt)) (inl refl) refl (same _)) in
    let h7 : History z _ = goes_on h6 (Delivers 7 0) (Refused (Bad_datagram told)) (is_refused 3 (Receiving _ 0) (Bad_datagram told) refl three (rw bad_vote refl) refl (same _)) in
    (_, h7, λ m. refl, refl, refl)

pub mixed_members_release : {D G F : Type 0} → MixedMembersRelease D G F
mixed_members_release z spell entry slugs asked told three sets spelled bad_question bad_vote = at_count 3 IsReleasedByTwo is_released_by_two z three spell entry slugs asked told sets spelled bad_question bad_vote
