-- A history in which lost votes are told again.
use Rattle.std.proofs.Common.{◌≡◌, inl, refl, arith, [], ◌∷◌, None, true}
use Rattle.std.specs.Prelude.{◌==◌}
use Rattle.std.proofs.lemmas.Bool.{eq-eqb}
use Rattle.protocol.specs.Seats.{sits}
use Rattle.protocol.specs.Ballots.{IsMember}
use Rattle.protocol.specs.Packets.{Packet, Prepare, Promise, Accept, Accepted}
use Rattle.protocol.specs.Turn.{Note_began, Note_promised, Note_proposed, Note_heard, Note_voted, Note_recalled, Note_blank, Offered, Arrived, Recalled, packet_to}
use Rattle.protocol.specs.Refusals.{Offering, Receiving, Recalling}
use Rattle.protocol.specs.Circuit.{Circuit, Datagram, Offers, Delivers, Restarts, Recalls, Done, Restarted, is_done, restarts, History, goes_on}
use Rattle.protocol.specs.Runs.{ballot}
use Rattle.protocol.specs.Rehearsals.{datagram_of, LostVotesAreTold, VotesAreToldAgain}
use Rattle.protocol_laws.proofs.Steps.{heard_here}
use Rattle.protocol_laws.proofs.Rehearsing.{same, begins, of_count, at_count}

are_told_again : {D G F : Type 0} → of_count {D = D} {G = G} {F = F} 3 LostVotesAreTold
are_told_again {D = D} {G = G} {F = F} k reads version_of sets says v spell x slugs fx sx spelled =
    let z : Circuit D G F = record { number = k; count = 3; reads = reads; version_of = version_of; sets = sets; says = says } in
    let e : (k == k) ≡ true = eq-eqb k k refl in
    let d : Packet → Datagram = λ p. datagram_of spell p in
    let ((_, r1), ((_, r2), ((_, r3), ((_, r4), ((_, r5), ((_, r6), ((_, r7), ((_, r8), ((_, r9), ((_, r10), ((_, r11), _))))))))))) = spelled in
    let g1 = heard_here z v _ _ r1 in
    let g3 = heard_here z v _ _ r3 in
    let g4 = heard_here z v _ _ r4 in
    let g8 = heard_here z v _ _ r8 in
    let g10 = heard_here z v _ _ r10 in
    let g11 = heard_here z v _ _ r11 in
    let first : IsMember 3 1 = (omega arith, omega arith) in
    let second : IsMember 3 2 = (omega arith, omega arith) in
    let third : IsMember 3 3 = (omega arith, omega arith) in
    let h1 : History z _ = goes_on (begins z v) (Offers 1 12 x 0) (Done (Note_began (ballot 1 1)))
    (is_done 1 (Offering 12 x 0) (Offered 12 x 0) _ (d (packet_to (sits k 1 3) 12 (ballot 1 1) Prepare 2) ∷ d (packet_to (sits k 1 3) 12 (ballot 1 1) Prepare 3) ∷ []) refl first (rw (fx, sx) refl) refl refl ((refl, r1), ((refl, r2), tt)) (inl refl) refl (same _)) in
    let h2 : History z _ = goes_on h1 (Delivers 1 0) (Done (Note_promised (ballot 1 1)))
    (is_done 2 (Receiving _ 0) (Arrived (packet_to (sits k 1 3) 12 (ballot 1 1) Prepare 2) 0) _ (d (packet_to (sits k 2 3) 12 (ballot 1 1) (Promise None) 1) ∷ []) refl second (rw (g1, e) refl) (rw g1 refl) refl ((refl, r3), tt) (inl refl) refl (same _)) in
    let h3 : History z _ = goes_on h2 (Delivers 3 0) (Done (Note_proposed (ballot 1 1)))
    (is_done 1 (Receiving _ 0) (Arrived (packet_to (sits k 2 3) 12 (ballot 1 1) (Promise None) 1) 0) _ (d (packet_to (sits k 1 3) 12 (ballot 1 1) (Accept x) 2) ∷ d (packet_to (sits k 1 3) 12 (ballot 1 1) (Accept x) 3) ∷ d (packet_to (sits k 1 3) 12 (ballot 1 1) (Accepted x) 2) ∷ d (packet_to (sits k 1 3) 12 (ballot 1 1) (Accepted x) 3) ∷ []) refl first (rw (g3, e) refl) (rw g3 refl) refl ((refl, r4), ((refl, r5), ((refl, r6), ((refl, r7), tt)))) (inl refl) refl (same _)) in
    let h4 : History z _ = goes_on h3 (Delivers 4 0) (Done (Note_voted (ballot 1 1)))
    (is_done 2 (Receiving _ 0) (Arrived (packet_to (sits k 1 3) 12 (ballot 1 1) (Accept x) 2) 0) _ (d (packet_to (sits k 2 3) 12 (ballot 1 1) (Accepted x) 1) ∷ d (packet_to (sits k 2 3) 12 (ballot 1 1) (Accepted x) 3) ∷ []) refl second (rw (g4, e) refl) (rw g4 refl) refl ((refl, r8), ((refl, r9), tt)) (inl refl) refl (same _)) in
    let h5 : History z _ = goes_on h4 (Recalls 3 12 3) (Done Note_blank) (is_done 3 (Recalling 12 3) (Recalled 12 3) _ [] refl third refl refl refl tt (inl refl) refl (same _)) in
    let h6 : History z _ = goes_on h5 (Restarts 1) Restarted (restarts 1 first refl refl (same _)) in
    let h7 : History z _ = goes_on h6 (Recalls 1 12 3) (Done (Note_recalled (ballot 1 1)))
    (is_done 1 (Recalling 12 3) (Recalled 12 3) _ (d (packet_to (sits k 1 3) 12 (ballot 1 1) (Accepted x) 3) ∷ []) refl first refl refl refl ((refl, r10), tt) (inl refl) refl (same _)) in
    let h8 : History z _ = goes_on h7 (Recalls 2 12 3) (Done (Note_recalled (ballot 1 1)))
    (is_done 2 (Recalling 12 3) (Recalled 12 3) _ (d (packet_to (sits k 2 3) 12 (ballot 1 1) (Accepted x) 3) ∷ []) refl second refl refl refl ((refl, r11), tt) (inl refl) refl (same _)) in
    let h9 : History z _ = goes_on h8 (Delivers 10 0) (Done (Note_heard (ballot 1 1)))
    (is_done 3 (Receiving _ 0) (Arrived (packet_to (sits k 1 3) 12 (ballot 1 1) (Accepted x) 3) 0) _ [] refl third (rw (g10, e) refl) (rw g10 refl) refl tt (inl refl) refl (same _)) in
    let h10 : History z _ = goes_on h9 (Delivers 11 0) (Done (Note_heard (ballot 1 1)))
    (is_done 3 (Receiving _ 0) (Arrived (packet_to (sits k 2 3) 12 (ballot 1 1) (Accepted x) 3) 0) _ [] refl third (rw (g11, e) refl) (rw g11 refl) refl tt (inl refl) refl (same _)) in
    let h11 : History z _ = goes_on h10 (Delivers 8 0) (Done (Note_heard (ballot 1 1)))
    (is_done 1 (Receiving _ 0) (Arrived (packet_to (sits k 2 3) 12 (ballot 1 1) (Accepted x) 1) 0) _ [] refl first (rw (g8, e) refl) (rw g8 refl) refl tt (inl refl) refl (same _)) in
    let h12 : History z _ = goes_on h11 (Recalls 1 12 1) (Done (Note_recalled (ballot 1 1)))
    (is_done 1 (Recalling 12 1) (Recalled 12 1) _ [] refl first refl refl refl tt (inl refl) refl (same _)) in
    (_, h12, λ m. refl, refl, refl, refl)

pub votes_are_told_again : {D G F : Type 0} → VotesAreToldAgain D G F
votes_are_told_again z three = at_count 3 LostVotesAreTold are_told_again z three
