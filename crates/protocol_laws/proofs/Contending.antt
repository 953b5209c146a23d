-- Histories with a torn step, and of two proposers.
use Rattle.std.proofs.Common.{◌≡◌, inl, refl, arith, [], ◌∷◌, Some, None, true, false}
use Rattle.std.specs.Prelude.{◌==◌}
use Rattle.std.proofs.lemmas.Bool.{eq-eqb}
use Rattle.protocol.specs.Seats.{sits}
use Rattle.protocol.specs.Ballots.{IsMember}
use Rattle.protocol.specs.Rows.{blank, raised, vote_for}
use Rattle.protocol.specs.Packets.{Packet, Prepare, Promise, Accept, Accepted, Nack}
use Rattle.protocol.specs.Turn.{Note_began, Note_nothing, Note_promised, Note_silent, Note_nacked, Note_denied, Note_idle, Note_proposed, Note_heard, Note_voted, Offered, Sought, Came_due, Arrived, packet_to}
use Rattle.protocol.specs.Refusals.{Offering, Seeking, Falling_due, Receiving, Stopped}
use Rattle.protocol.specs.Circuit.{Circuit, Datagram, Offers, Seeks, Falls_due, Delivers, Restarts, Balks, Done, Refused, Torn_as_armed, Torn_by_memory, Restarted, Armed, memory_before_save, at_save, is_refused, is_idle, is_done, is_torn, restarts, is_armed, History, goes_on}
use Rattle.protocol.specs.Runs.{ballot}
use Rattle.protocol.specs.Rehearsals.{LosesWhatIsUnsaved, UnsavedVoteIsLost, DeniesTheLower, LowerIsDenied, FightsForOne, TwoProposersFight, datagram_of}
use Rattle.protocol_laws.proofs.Steps.{heard_here}
use Rattle.protocol_laws.proofs.Rehearsing.{same, begins, of_count, at_count, changes}

loses_what_is_unsaved : {D G F : Type 0} → of_count {D = D} {G = G} {F = F} 1 LosesWhatIsUnsaved
loses_what_is_unsaved {D = D} {G = G} {F = F} k reads version_of sets says v entry slugs fit s =
    let z : Circuit D G F = record { number = k; count = 1; reads = reads; version_of = version_of; sets = sets; says = says } in
    let me : IsMember 1 1 = (omega arith, omega arith) in
    let h1 : History z _ = goes_on (begins z v) (Balks 1 false) (Armed false) (is_armed 1 false me refl refl (same _)) in
    let h2 : History z _ = goes_on h1 (Offers 1 12 entry 0) Torn_as_armed
    (is_torn 1 (Offering 12 entry 0) (Offered 12 entry 0) blank None refl me refl (at_save _ (rw (fit, s) refl) refl (changes entry) (refl, refl) refl) (same _)) in
    let h3 : History z _ = goes_on h2 (Restarts 1) Restarted (restarts 1 me refl refl (same _)) in
    let h4 : History z _ = goes_on h3 (Seeks 1 12 0) (Done (Note_nothing (ballot 1 1))) (is_done 1 (Seeking 12 0) (Sought 12 0) _ [] refl me refl refl refl tt (inl refl) refl (same _)) in
    let h5 : History z _ = goes_on h4 (Offers 1 12 entry 0) Torn_by_memory
    (is_torn 1 (Offering 12 entry 0) (Offered 12 entry 0) (raised blank (ballot 1 1)) None refl me refl (memory_before_save refl (rw fit refl) refl refl) (same _)) in
    let h6 : History z _ = goes_on h5 (Seeks 1 12 0) (Refused Stopped) (is_refused 1 (Seeking 12 0) Stopped refl me refl refl (same _)) in
    let h7 : History z _ = goes_on h6 (Restarts 1) Restarted (restarts 1 me refl refl (same _)) in
    let h8 : History z _ = goes_on h7 (Offers 1 12 entry 0) (Done (Note_proposed (ballot 2 1)))
    (is_done 1 (Offering 12 entry 0) (Offered 12 entry 0) _ [] refl me (rw (fit, s) refl) refl refl tt (inl refl) refl (same _)) in
    let h9 : History z _ = goes_on h8 (Restarts 1) Restarted (restarts 1 me refl refl (same _)) in
    let h10 : History z _ = goes_on h9 (Seeks 1 12 0) (Done (Note_proposed (ballot 3 1))) (is_done 1 (Seeking 12 0) (Sought 12 0) _ [] refl me refl refl refl tt (inl refl) refl (same _)) in
    (_, h10, refl, refl, refl, refl)

pub unsaved_vote_is_lost : {D G F : Type 0} → UnsavedVoteIsLost D G F
unsaved_vote_is_lost z one = at_count 1 LosesWhatIsUnsaved loses_what_is_unsaved z one

denies_the_lower : {D G F : Type 0} → of_count {D = D} {G = G} {F = F} 3 DeniesTheLower
denies_the_lower {D = D} {G = G} {F = F} k reads version_of sets says v spell x y one three fx fy sx sy spelled =
    let z : Circuit D G F = record { number = k; count = 3; reads = reads; version_of = version_of; sets = sets; says = says } in
    let e : (k == k) ≡ true = eq-eqb k k refl in
    let d : Packet → Datagram = λ p. datagram_of spell p in
    let ((_, r1), ((_, r2), ((_, r3), ((_, r4), ((_, r5), ((_, r6), ((_, r7), ((_, r8), _)))))))) = spelled in
    let g2 = heard_here z v _ _ r2 in
    let g4 = heard_here z v _ _ r4 in
    let g6 = heard_here z v _ _ r6 in
    let first : IsMember 3 1 = (omega arith, omega arith) in
    let second : IsMember 3 2 = (omega arith, omega arith) in
    let third : IsMember 3 3 = (omega arith, omega arith) in
    let h1 : History z _ = goes_on (begins z v) (Offers 3 12 x 0) (Done (Note_began (ballot 1 3)))
    (is_done 3 (Offering 12 x 0) (Offered 12 x 0) _ (d (packet_to (sits k 3 3) 12 (ballot 1 3) Prepare 1) ∷ d (packet_to (sits k 3 3) 12 (ballot 1 3) Prepare 2) ∷ []) refl third (rw (fx, sx) refl) refl refl ((refl, r1), ((refl, r2), tt)) (inl refl) refl (same _)) in
    let h2 : History z _ = goes_on h1 (Delivers 2 0) (Done (Note_promised (ballot 1 3)))
    (is_done 2 (Receiving _ 0) (Arrived (packet_to (sits k 3 3) 12 (ballot 1 3) Prepare 2) 0) _ (d (packet_to (sits k 2 3) 12 (ballot 1 3) (Promise None) 3) ∷ []) refl second (rw (g2, e) refl) (rw g2 refl) refl ((refl, r3), tt) (inl refl) refl (same _)) in
    let h3 : History z _ = goes_on h2 (Offers 1 12 y 0) (Done (Note_began (ballot 1 1)))
    (is_done 1 (Offering 12 y 0) (Offered 12 y 0) _ (d (packet_to (sits k 1 3) 12 (ballot 1 1) Prepare 2) ∷ d (packet_to (sits k 1 3) 12 (ballot 1 1) Prepare 3) ∷ []) refl first (rw (fy, sy) refl) refl refl ((refl, r4), ((refl, r5), tt)) (inl refl) refl (same _)) in
    let h4 : History z _ = goes_on h3 (Delivers 4 0) (Done (Note_nacked (ballot 1 3)))
    (is_done 2 (Receiving _ 0) (Arrived (packet_to (sits k 1 3) 12 (ballot 1 1) Prepare 2) 0) _ (d (packet_to (sits k 2 3) 12 (ballot 1 1) (Nack (ballot 1 3)) 1) ∷ []) refl second (rw (g4, e) refl) (rw g4 refl) refl ((refl, r6), tt) (inl refl) refl (same _)) in
    let h5 : History z _ = goes_on h4 (Delivers 6 0) (Done (Note_denied (ballot 1 3)))
    (is_done 1 (Receiving _ 0) (Arrived (packet_to (sits k 2 3) 12 (ballot 1 1) (Nack (ballot 1 3)) 1) 0) _ ([]) refl first (rw (g6, e) refl) (rw g6 refl) refl tt (inl refl) refl (same _)) in
    let h6 : History z _ = goes_on h5 (Delivers 2 0) (Done Note_silent)
    (is_done 2 (Receiving _ 0) (Arrived (packet_to (sits k 3 3) 12 (ballot 1 3) Prepare 2) 0) _ ([]) refl second (rw (g2, e) refl) (rw g2 refl) refl tt (inl refl) refl (same _)) in
    let h7 : History z _ = goes_on h6 (Falls_due 1 289) (Done Note_idle) (is_idle 1 (Falling_due 289) refl first refl refl refl (same _)) in
    let h8 : History z _ = goes_on h7 (Falls_due 1 290) (Done (Note_began (ballot 2 1)))
    (is_done 1 (Falling_due 290) (Came_due 12 290) _ (d (packet_to (sits k 1 3) 12 (ballot 2 1) Prepare 2) ∷ d (packet_to (sits k 1 3) 12 (ballot 2 1) Prepare 3) ∷ []) refl first refl refl refl ((refl, r7), ((refl, r8), tt)) (inl refl) refl (same _)) in
    (_, h8, λ m. refl, refl, refl, refl)

pub lower_is_denied : {D G F : Type 0} → LowerIsDenied D G F
lower_is_denied z three = at_count 3 DeniesTheLower denies_the_lower z three

fights_for_one : {D G F : Type 0} → of_count {D = D} {G = G} {F = F} 3 FightsForOne
fights_for_one {D = D} {G = G} {F = F} k reads version_of sets says v spell x y one three fx fy sx sy spelled =
    let z : Circuit D G F = record { number = k; count = 3; reads = reads; version_of = version_of; sets = sets; says = says } in
    let e : (k == k) ≡ true = eq-eqb k k refl in
    let d : Packet → Datagram = λ p. datagram_of spell p in
    let ((_, r1), ((_, r2), ((_, r3), ((_, r4), ((_, r5), ((_, r6), ((_, r7), ((_, r8), ((_, r9), ((_, r10), ((_, r11), ((_, r12), ((_, r13), ((_, r14), ((_, r15), ((_, r16), ((_, r17), ((_, r18), _)))))))))))))))))) = spelled in
    let g1 = heard_here z v _ _ r1 in
    let g3 = heard_here z v _ _ r3 in
    let g4 = heard_here z v _ _ r4 in
    let g11 = heard_here z v _ _ r11 in
    let g12 = heard_here z v _ _ r12 in
    let g14 = heard_here z v _ _ r14 in
    let g18 = heard_here z v _ _ r18 in
    let first : IsMember 3 1 = (omega arith, omega arith) in
    let second : IsMember 3 2 = (omega arith, omega arith) in
    let third : IsMember 3 3 = (omega arith, omega arith) in
    let h1 : History z _ = goes_on (begins z v) (Offers 1 12 x 0) (Done (Note_began (ballot 1 1)))
    (is_done 1 (Offering 12 x 0) (Offered 12 x 0) _ (d (packet_to (sits k 1 3) 12 (ballot 1 1) Prepare 2) ∷ d (packet_to (sits k 1 3) 12 (ballot 1 1) Prepare 3) ∷ []) refl first (rw (fx, sx) refl) refl refl ((refl, r1), ((refl, r2), tt)) (inl refl) refl (same _)) in
    let h2 : History z _ = goes_on h1 (Delivers 1 0) (Done (Note_promised (ballot 1 1)))
    (is_done 2 (Receiving _ 0) (Arrived (packet_to (sits k 1 3) 12 (ballot 1 1) Prepare 2) 0) _ (d (packet_to (sits k 2 3) 12 (ballot 1 1) (Promise None) 1) ∷ []) refl second (rw (g1, e) refl) (rw g1 refl) refl ((refl, r3), tt) (inl refl) refl (same _)) in
    let h3 : History z _ = goes_on h2 (Delivers 3 0) (Done (Note_proposed (ballot 1 1)))
    (is_done 1 (Receiving _ 0) (Arrived (packet_to (sits k 2 3) 12 (ballot 1 1) (Promise None) 1) 0) _ (d (packet_to (sits k 1 3) 12 (ballot 1 1) (Accept x) 2) ∷ d (packet_to (sits k 1 3) 12 (ballot 1 1) (Accept x) 3) ∷ d (packet_to (sits k 1 3) 12 (ballot 1 1) (Accepted x) 2) ∷ d (packet_to (sits k 1 3) 12 (ballot 1 1) (Accepted x) 3) ∷ []) refl first (rw (g3, e) refl) (rw g3 refl) refl ((refl, r4), ((refl, r5), ((refl, r6), ((refl, r7), tt)))) (inl refl) refl (same _)) in
    let h4 : History z _ = goes_on h3 (Delivers 4 0) (Done (Note_voted (ballot 1 1)))
    (is_done 2 (Receiving _ 0) (Arrived (packet_to (sits k 1 3) 12 (ballot 1 1) (Accept x) 2) 0) _ (d (packet_to (sits k 2 3) 12 (ballot 1 1) (Accepted x) 1) ∷ d (packet_to (sits k 2 3) 12 (ballot 1 1) (Accepted x) 3) ∷ []) refl second (rw (g4, e) refl) (rw g4 refl) refl ((refl, r8), ((refl, r9), tt)) (inl refl) refl (same _)) in
    let h5 : History z _ = goes_on h4 (Offers 3 12 y 0) (Done (Note_began (ballot 1 3)))
    (is_done 3 (Offering 12 y 0) (Offered 12 y 0) _ (d (packet_to (sits k 3 3) 12 (ballot 1 3) Prepare 1) ∷ d (packet_to (sits k 3 3) 12 (ballot 1 3) Prepare 2) ∷ []) refl third (rw (fy, sy) refl) refl refl ((refl, r10), ((refl, r11), tt)) (inl refl) refl (same _)) in
    let h6 : History z _ = goes_on h5 (Delivers 11 0) (Done (Note_promised (ballot 1 3)))
    (is_done 2 (Receiving _ 0) (Arrived (packet_to (sits k 3 3) 12 (ballot 1 3) Prepare 2) 0) _ (d (packet_to (sits k 2 3) 12 (ballot 1 3) (Promise (Some (vote_for (ballot 1 1) x))) 3) ∷ []) refl second (rw (g11, e) refl) (rw g11 refl) refl ((refl, r12), tt) (inl refl) refl (same _)) in
    let h7 : History z _ = goes_on h6 (Delivers 12 0) (Done (Note_proposed (ballot 1 3)))
    (is_done 3 (Receiving _ 0) (Arrived (packet_to (sits k 2 3) 12 (ballot 1 3) (Promise (Some (vote_for (ballot 1 1) x))) 3) 0) _ (d (packet_to (sits k 3 3) 12 (ballot 1 3) (Accept x) 1) ∷ d (packet_to (sits k 3 3) 12 (ballot 1 3) (Accept x) 2) ∷ d (packet_to (sits k 3 3) 12 (ballot 1 3) (Accepted x) 1) ∷ d (packet_to (sits k 3 3) 12 (ballot 1 3) (Accepted x) 2) ∷ []) refl third (rw (g12, e) refl) (rw g12 refl) refl ((refl, r13), ((refl, r14), ((refl, r15), ((refl, r16), tt)))) (inl refl) refl (same _)) in
    let h8 : History z _ = goes_on h7 (Delivers 14 0) (Done (Note_voted (ballot 1 3)))
    (is_done 2 (Receiving _ 0) (Arrived (packet_to (sits k 3 3) 12 (ballot 1 3) (Accept x) 2) 0) _ (d (packet_to (sits k 2 3) 12 (ballot 1 3) (Accepted x) 1) ∷ d (packet_to (sits k 2 3) 12 (ballot 1 3) (Accepted x) 3) ∷ []) refl second (rw (g14, e) refl) (rw g14 refl) refl ((refl, r17), ((refl, r18), tt)) (inl refl) refl (same _)) in
    let h9 : History z _ = goes_on h8 (Delivers 18 0) (Done (Note_heard (ballot 1 3)))
    (is_done 3 (Receiving _ 0) (Arrived (packet_to (sits k 2 3) 12 (ballot 1 3) (Accepted x) 3) 0) _ ([]) refl third (rw (g18, e) refl) (rw g18 refl) refl tt (inl refl) refl (same _)) in
    (_, h9, λ m. refl, refl, refl, refl, refl)

pub two_proposers_fight : {D G F : Type 0} → TwoProposersFight D G F
two_proposers_fight z three = at_count 3 FightsForOne fights_for_one z three
