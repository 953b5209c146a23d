-- Histories that release.
use Rattle.std.proofs.Common.{◌≡◌, ℕ, inl, refl, ap, sym, subst, arith, List, [], ◌∷◌, Some, None, true}
use Rattle.std.specs.Prelude.{◌==◌, map, Result, Ok}
use Rattle.std.specs.List.{AllZip}
use Rattle.std.proofs.lemmas.Bool.{eq-eqb}
use Rattle.protocol.specs.Seats.{sits}
use Rattle.protocol.specs.Ballots.{IsMember}
use Rattle.protocol.specs.Entries.{Entry}
use Rattle.protocol.specs.Rows.{Row, blank, voted}
use Rattle.protocol.specs.Versions.{Version, fits}
use Rattle.protocol.specs.Packets.{Packet, Prepare, Promise, Accept, Accepted}
use Rattle.protocol.specs.Turn.{Note_began, Note_promised, Note_proposed, Note_heard, Note_voted, Offered, Sought, Arrived, packet_to}
use Rattle.protocol.specs.Refusals.{Offering, Seeking, Receiving, Stopped}
use Rattle.protocol.specs.Circuit.{Circuit, State, IsSameState, fresh, Offers, Seeks, Delivers, Restarts, Balks, Done, Refused, Torn_as_armed, Restarted, Armed, Carries, at_save, is_refused, is_done, is_torn, restarts, is_armed, History, starts, goes_on}
use Rattle.protocol.specs.Runs.{ballot}
use Rattle.protocol_laws.proofs.Steps.{heard_here}
use Rattle.protocol.specs.Rehearsals.{steps_of, started_at, OneMemberReleases, SavedVoteIsReleased, ThreeMembersRelease, packets_of_three, steps_of_three, datagram_of, release_by}

pub same : {G F : Type 0} (w : State G F) → IsSameState w w
same w = record { version = λ m. refl; rows = λ m n. refl; marks = λ m. refl; is_stopped = λ m. refl; armed = λ m. refl; sent = refl; offers = refl; releases = refl }

-- a history that starts with all members at one version
abbrev pub begins : {D G F : Type 0} (z : Circuit D G F) (v : Version) → History z (fresh (λ m. v))
begins z v = starts (λ m. v) (same (fresh (λ m. v)))

-- what holds of each circuit of this count
abbrev pub of_count : {D G F : Type 0} → ℕ → (Circuit D G F → Type 0) → Type 0
of_count {D = D} {G = G} {F = F} c P = (k : ℕ) (reads : Version → List ℕ → Result Packet D) (version_of : List ℕ → Version) (sets : ℕ → Entry → Result G F) (says : (v : Version) (bytes : List ℕ) (p : Packet) → reads v bytes ≡ Ok p → version_of bytes ≡ v) → P (record { number = k; count = c; reads = reads; version_of = version_of; sets = sets; says = says })

pub at_count : {D G F : Type 0} (c : ℕ) (P : Circuit D G F → Type 0) → of_count c P → (z : Circuit D G F) → z.count ≡ c → P z
at_count c P h z e = subst (λ (x : ℕ). P (record z { count = x })) (sym e) (h z.number z.reads z.version_of z.sets z.says)

abbrev IsReleasedByOne : {D G F : Type 0} → Circuit D G F → Type 0
IsReleasedByOne {D = D} {G = G} {F = F} z =
    (v : Version) (entry : Entry) (slugs : G) → fits v entry ≡ true → z.sets 1 entry ≡ Ok slugs
    → (w : State G F) × (h : History z w) × (started_at h 1 ≡ v) × (w.releases ≡ release_by z 1 entry ∷ [])
    × (steps_of h ≡ record { step = Offers 1 12 entry 0; outcome = Done (Note_proposed (ballot 1 1)) } ∷ [])

is_released_by_one : {D G F : Type 0} → of_count {D = D} {G = G} {F = F} 1 IsReleasedByOne
is_released_by_one k reads version_of sets says v entry slugs fit s =
    (_, goes_on (begins _ v) (Offers 1 12 entry 0) (Done (Note_proposed (ballot 1 1))) (is_done 1 (Offering 12 entry 0) (Offered 12 entry 0) _ [] refl (omega arith, omega arith) (rw (fit, s) refl) refl refl tt (inl refl) refl (same _)), refl, refl, refl)

pub one_member_releases : {D G F : Type 0} → OneMemberReleases D G F
one_member_releases z v entry slugs one fit sets = at_count 1 IsReleasedByOne is_released_by_one z one v entry slugs fit sets

abbrev IsSavedAndReleased : {D G F : Type 0} → Circuit D G F → Type 0
IsSavedAndReleased {D = D} {G = G} {F = F} z =
    (v : Version) (entry : Entry) (slugs : G) → fits v entry ≡ true → z.sets 1 entry ≡ Ok slugs
    → (w : State G F) × (h : History z w) × (started_at h 1 ≡ v) × (w.releases ≡ release_by z 1 entry ∷ [])
    × (steps_of h
    ≡ record { step = Balks 1 true; outcome = Armed true }
    ∷ record { step = Offers 1 12 entry 0; outcome = Torn_as_armed }
    ∷ record { step = Seeks 1 12 0; outcome = Refused Stopped }
    ∷ record { step = Restarts 1; outcome = Restarted }
    ∷ record { step = Seeks 1 12 0; outcome = Done (Note_proposed (ballot 2 1)) } ∷ [])

pub changes : (entry : Entry) → ¬ (voted (ballot 1 1) entry ≡ blank)
changes entry e = let no : Some (ballot 1 1) ≡ None = ap (λ (r : Row). r.promised) e in cc

is_saved_and_released : {D G F : Type 0} → of_count {D = D} {G = G} {F = F} 1 IsSavedAndReleased
is_saved_and_released {D = D} {G = G} {F = F} k reads version_of sets says v entry slugs fit s =
    let z : Circuit D G F = record { number = k; count = 1; reads = reads; version_of = version_of; sets = sets; says = says } in
    let me : IsMember 1 1 = (omega arith, omega arith) in
    let h1 : History z _ = goes_on (begins z v) (Balks 1 true) (Armed true) (is_armed 1 true me refl refl (same _)) in
    let h2 : History z _ = goes_on h1 (Offers 1 12 entry 0) Torn_as_armed (is_torn 1 (Offering 12 entry 0) (Offered 12 entry 0) (voted (ballot 1 1) entry) None refl me refl (at_save _ (rw (fit, s) refl) refl (changes entry) (inl (refl, refl)) refl) (same _)) in
    let h3 : History z _ = goes_on h2 (Seeks 1 12 0) (Refused Stopped) (is_refused 1 (Seeking 12 0) Stopped refl me refl refl (same _)) in
    let h4 : History z _ = goes_on h3 (Restarts 1) Restarted (restarts 1 me refl refl (same _)) in
    let h5 : History z _ = goes_on h4 (Seeks 1 12 0) (Done (Note_proposed (ballot 2 1))) (is_done 1 (Seeking 12 0) (Sought 12 0) _ [] refl me refl refl refl tt (inl refl) refl (same _)) in
    (_, h5, refl, refl, refl)

pub saved_vote_is_released : {D G F : Type 0} → SavedVoteIsReleased D G F
saved_vote_is_released z v entry slugs one fit sets = at_count 1 IsSavedAndReleased is_saved_and_released z one v entry slugs fit sets

abbrev AreReleasedByThree : {D G F : Type 0} → Circuit D G F → Type 0
AreReleasedByThree {D = D} {G = G} {F = F} z =
    (v : Version) (spell : Packet → List ℕ) (entry : Entry) (slugs : G) → fits v entry ≡ true → z.sets 1 entry ≡ Ok slugs
    → AllZip (Carries z v) (packets_of_three z.number entry) (map (datagram_of spell) (packets_of_three z.number entry))
    → (w : State G F) × (h : History z w) × ((m : ℕ) → started_at h m ≡ v) × (w.releases ≡ release_by z 2 entry ∷ release_by z 1 entry ∷ release_by z 3 entry ∷ [])
    × (w.sent ≡ map (datagram_of spell) (packets_of_three z.number entry))
    × (steps_of h ≡ steps_of_three entry)

are_released_by_three : {D G F : Type 0} → of_count {D = D} {G = G} {F = F} 3 AreReleasedByThree
are_released_by_three {D = D} {G = G} {F = F} k reads version_of sets says v spell entry slugs fit s spelled =
    let z : Circuit D G F = record { number = k; count = 3; reads = reads; version_of = version_of; sets = sets; says = says } in
    let e : (k == k) ≡ true = eq-eqb k k refl in
    let ((_, r1), ((_, r2), ((_, r3), ((_, r4), ((_, r5), ((_, r6), ((_, r7), ((_, r8), ((_, r9), _))))))))) = spelled in
    let g1 = heard_here z v _ _ r1 in
    let g3 = heard_here z v _ _ r3 in
    let g4 = heard_here z v _ _ r4 in
    let g6 = heard_here z v _ _ r6 in
    let g7 = heard_here z v _ _ r7 in
    let g8 = heard_here z v _ _ r8 in
    let g9 = heard_here z v _ _ r9 in
    let one : IsMember 3 1 = (omega arith, omega arith) in
    let two : IsMember 3 2 = (omega arith, omega arith) in
    let three : IsMember 3 3 = (omega arith, omega arith) in
    let h0 : History z _ = goes_on (begins z v) (Offers 1 12 entry 0) (Done (Note_began (ballot 1 1)))
    (is_done 1 (Offering 12 entry 0) (Offered 12 entry 0) _ (datagram_of spell (packet_to (sits k 1 3) 12 (ballot 1 1) Prepare 2) ∷ datagram_of spell (packet_to (sits k 1 3) 12 (ballot 1 1) Prepare 3) ∷ []) refl one (rw (fit, s) refl) refl refl ((refl, r1), ((refl, r2), tt)) (inl refl) refl (same _)) in
    let h1 : History z _ = goes_on h0 (Delivers 1 0) (Done (Note_promised (ballot 1 1)))
    (is_done 2 (Receiving _ 0) (Arrived (packet_to (sits k 1 3) 12 (ballot 1 1) Prepare 2) 0) _ (datagram_of spell (packet_to (sits k 2 3) 12 (ballot 1 1) (Promise None) 1) ∷ []) refl two (rw (g1, e) refl) (rw g1 refl) refl ((refl, r3), tt) (inl refl) refl (same _)) in
    let h2 : History z _ = goes_on h1 (Delivers 3 0) (Done (Note_proposed (ballot 1 1)))
    (is_done 1 (Receiving _ 0) (Arrived (packet_to (sits k 2 3) 12 (ballot 1 1) (Promise None) 1) 0) _ (datagram_of spell (packet_to (sits k 1 3) 12 (ballot 1 1) (Accept entry) 2) ∷ datagram_of spell (packet_to (sits k 1 3) 12 (ballot 1 1) (Accept entry) 3) ∷ datagram_of spell (packet_to (sits k 1 3) 12 (ballot 1 1) (Accepted entry) 2) ∷ datagram_of spell (packet_to (sits k 1 3) 12 (ballot 1 1) (Accepted entry) 3) ∷ []) refl one (rw (g3, e) refl) (rw g3 refl) refl ((refl, r4), ((refl, r5), ((refl, r6), ((refl, r7), tt)))) (inl refl) refl (same _)) in
    let h3 : History z _ = goes_on h2 (Delivers 6 0) (Done (Note_heard (ballot 1 1)))
    (is_done 2 (Receiving _ 0) (Arrived (packet_to (sits k 1 3) 12 (ballot 1 1) (Accepted entry) 2) 0) _ [] refl two (rw (g6, e) refl) (rw g6 refl) refl tt (inl refl) refl (same _)) in
    let h4 : History z _ = goes_on h3 (Delivers 4 0) (Done (Note_voted (ballot 1 1)))
    (is_done 2 (Receiving _ 0) (Arrived (packet_to (sits k 1 3) 12 (ballot 1 1) (Accept entry) 2) 0) _ (datagram_of spell (packet_to (sits k 2 3) 12 (ballot 1 1) (Accepted entry) 1) ∷ datagram_of spell (packet_to (sits k 2 3) 12 (ballot 1 1) (Accepted entry) 3) ∷ []) refl two (rw (g4, e) refl) (rw g4 refl) refl ((refl, r8), ((refl, r9), tt)) (inl refl) refl (same _)) in
    let h5 : History z _ = goes_on h4 (Delivers 8 0) (Done (Note_heard (ballot 1 1)))
    (is_done 1 (Receiving _ 0) (Arrived (packet_to (sits k 2 3) 12 (ballot 1 1) (Accepted entry) 1) 0) _ [] refl one (rw (g8, e) refl) (rw g8 refl) refl tt (inl refl) refl (same _)) in
    let h6 : History z _ = goes_on h5 (Delivers 9 0) (Done (Note_heard (ballot 1 1)))
    (is_done 3 (Receiving _ 0) (Arrived (packet_to (sits k 2 3) 12 (ballot 1 1) (Accepted entry) 3) 0) _ [] refl three (rw (g9, e) refl) (rw g9 refl) refl tt (inl refl) refl (same _)) in
    let h7 : History z _ = goes_on h6 (Delivers 7 0) (Done (Note_heard (ballot 1 1)))
    (is_done 3 (Receiving _ 0) (Arrived (packet_to (sits k 1 3) 12 (ballot 1 1) (Accepted entry) 3) 0) _ [] refl three (rw (g7, e) refl) (rw g7 refl) refl tt (inl refl) refl (same _)) in
    (_, h7, λ m. refl, refl, refl, refl)

pub three_members_release : {D G F : Type 0} → ThreeMembersRelease D G F
three_members_release z v spell entry slugs three fit sets reads = at_count 3 AreReleasedByThree are_released_by_three z three v spell entry slugs fit sets reads
