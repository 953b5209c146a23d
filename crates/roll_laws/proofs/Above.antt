-- Who reported no vote at a ballot takes none below it; so what is chosen later is chosen there or above.
use Rattle.std.proofs.Common.{◌≡◌, ℕ, inl, inr, sym, subst, ◌∙◌, None}
use Rattle.protocol.specs.Ballots.{Ballot, IsBelow, IsAtMost}
use Rattle.protocol.specs.Entries.{Entry}
use Rattle.protocol.specs.Rows.{vote_for}
use Rattle.protocol.specs.Packets.{Body}
use Rattle.protocol.specs.Marks.{Began}
use Rattle.protocol.specs.Circuit.{Circuit, State, History}
use Rattle.protocol.specs.Agreement.{WasVoted}
use Rattle.protocol_laws.proofs.Below.{at_most_trans, not_both, at_most_otherwise}
use Rattle.protocol_laws.proofs.Majorities.{shared, weaker}
use Rattle.protocol_laws.proofs.Moves.{some_inj}
use Rattle.protocol_laws.proofs.Sound.{IsPromisedTo, PromiseHolds, BodyHolds}
use Rattle.protocol_laws.proofs.Steps.{history_sound, read_among}
use Rattle.protocol_laws.proofs.Voters.{was_held}
use Rattle.roll_laws.specs.Votes.{is_same, and_on, GoesOnTo}
use Rattle.roll_laws.specs.Searches.{ReportedNone, in_promise, as_owner, LaterChoicesAreAbove}
use Rattle.roll_laws.proofs.Promising.{step_rises}
use Rattle.roll_laws.proofs.Finding.{none_below}

-- who reported at b is promised b or above
promised_to : {D G F : Type 0} {z : Circuit D G F} {w : State G F} (k : History z w) (n : ℕ) (b : Ballot) (m : ℕ) → ReportedNone z w n b m → IsPromisedTo (w.rows m n) b
promised_to {z = z} {w = w} k n b m (in_promise p) =
    let s = history_sound k in
    let holds : PromiseHolds (WasVoted k) w.rows p.packet.from p.packet.number p.packet.ballot None =
    subst (λ (x : Body). BodyHolds (WasVoted k) w.rows p.packet.from p.packet.number p.packet.ballot x) p.body
    (s.sound.packets p.packet (read_among z s.packets w.sent p.datagram p.packet s.spelled p.sent p.spelled)) in
    let at_member : IsPromisedTo (w.rows m p.packet.number) p.packet.ballot = subst (λ (x : ℕ). IsPromisedTo (w.rows x p.packet.number) p.packet.ballot) p.from holds.promised in
    let at_number : IsPromisedTo (w.rows m n) p.packet.ballot = subst (λ (x : ℕ). IsPromisedTo (w.rows m x) p.packet.ballot) p.number at_member in
    subst (λ (x : Ballot). IsPromisedTo (w.rows m n) x) p.ballot at_number
promised_to k n b m (as_owner own now owner i) = ((history_sound k).sound.marked m (Began n b own None now) i).1.promised

-- and stays so
stays_promised :
    {D G F : Type 0} {z : Circuit D G F} {w : State G F} {h : History z w} {v : State G F} {k : History z v} → GoesOnTo h k
    → (m n : ℕ) (b : Ballot) → IsPromisedTo (w.rows m n) b → IsPromisedTo (v.rows m n) b
stays_promised is_same m n b p = p
stays_promised {z = z} (and_on {v = v} {after = after} g s o st) m n b p =
    let q = stays_promised g m n b p in
    let r = (step_rises z v s o after st m n).promise q.at q.is in
    record { at = r.at; is = r.is; reaches = at_most_trans b q.at r.at q.reaches r.reaches }

-- so it takes no vote below b
stays_unvoted :
    {D G F : Type 0} {z : Circuit D G F} {w : State G F} {h : History z w} {v : State G F} {k : History z v} → GoesOnTo h k
    → (n : ℕ) (b : Ballot) (m : ℕ) → ReportedNone z w n b m → (a : Ballot) (t : Entry) → WasVoted k m n a t → ¬ IsBelow a b
stays_unvoted {h = h} is_same n b m report a t voted low = none_below h n b m report a t voted low
stays_unvoted (and_on g s o st) n b m report a t (inr voted) low = stays_unvoted g n b m report a t voted low
stays_unvoted {z = z} {h = h} (and_on {v = v} {after = after} {k = k} g s o st) n b m report a t (inl held) low =
    elim ((step_rises z v s o after st m n).vote (vote_for a t) held) [
      | inl old ↦ stays_unvoted g n b m report a t (was_held k m n a t old) low
      | inr at_promise ↦ (let p = stays_promised (and_on g s o st) m n b (promised_to h n b m report) in
          let same : p.at ≡ a = some_inj (sym p.is ∙ at_promise) in
          not_both a b low (subst (λ (x : Ballot). IsAtMost b x) same p.reaches))
    ]

pub later_choices_are_above : {D G F : Type 0} → LaterChoicesAreAbove D G F
later_choices_are_above z found now k l g n b reports t (a, voters) =
    let (m, i, voted, report) = shared voters reports in
    let above : IsAtMost b a = at_most_otherwise a b (stays_unvoted g n b m report a t voted) in
    weaker (λ j member v. let x = (history_sound l).sound.last j n a t v in (x.0, x.1, at_most_trans b a x.0.ballot above x.2)) voters
