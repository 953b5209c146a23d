-- The laws, from the soundness of every history.
use Rattle.std.proofs.Common.{◌≡◌, ℕ, ◌⊎◌, inl, inr, refl, sym, subst, ◌∙◌, Option}
use Rattle.std.specs.Prelude.{Ok}
use Rattle.protocol.specs.Ballots.{Ballot, IsBelow, IsAtMost, Majority}
use Rattle.protocol.specs.Entries.{Entry}
use Rattle.protocol.specs.Rows.{Vote, vote_for}
use Rattle.protocol.specs.Packets.{Packet, Body, Accept, Accepted}
use Rattle.protocol.specs.Marks.{Heard}
use Rattle.protocol.specs.Lists.{IsAmong}
use Rattle.protocol.specs.Readings.{Latest}
use Rattle.protocol.specs.Versions.{Two}
use Rattle.protocol.specs.Circuit.{State, Circuit, hears, Datagram, Release, Step, Outcome, StepsTo, is_refused, is_idle, is_spent, is_done, is_torn, restarts, upgrades, upgrade_is_torn, is_armed, History, goes_on}
use Rattle.protocol.specs.Agreement.{WasVoted, IsChosen, IsCarried, by_vote, by_accept, BallotsHaveOneEntry, VotesAreOffered, WasPromised, PromisesBind, ReportsAreGreatest, IsBoundAbove, VotesAreBacked, HeardIsVoted, ToldIsVoted, RipeIsChosen, ChosenIsOne, ReleasesAreChosen, HistoriesAgree}
use Rattle.protocol_laws.proofs.Below.{compare_ballots, both_at_most}
use Rattle.protocol_laws.proofs.Majorities.{weaker, shared, some_member}
use Rattle.protocol_laws.proofs.Sound.{PromiseHolds, PacketHolds, BodyHolds, Backs}
use Rattle.protocol_laws.proofs.Moves.{some_inj}
use Rattle.protocol_laws.proofs.Places.{among_split, among_left}
use Rattle.protocol_laws.proofs.Steps.{history_sound, same_state, read_among}

-- what was sent of a packet holds
packet_held : {D G F : Type 0} {z : Circuit D G F} {w : State G F} (h : History z w) (d : Datagram) (p : Packet) → IsAmong w.sent d → hears z Two d.bytes ≡ Ok p → PacketHolds (WasVoted h) w.rows p
packet_held {z = z} {w = w} h d p i spelled =
    let s = history_sound h in s.sound.packets p (read_among z s.packets w.sent d p s.spelled i spelled)

-- the owner of a ballot voted for what it carries
owner_voted : {D G F : Type 0} {z : Circuit D G F} {w : State G F} (h : History z w) (n : ℕ) (b : Ballot) (t : Entry) → IsCarried h n b t → WasVoted h b.owner n b t
owner_voted h n b t (by_vote m v) = (history_sound h).sound.owned m n b t v
owner_voted {w = w} h n b t (by_accept d p i spelled en eb body) =
    let holds : BodyHolds (WasVoted h) w.rows p.from p.number p.ballot (Accept t) = subst (λ (x : Body). BodyHolds (WasVoted h) w.rows p.from p.number p.ballot x) body (packet_held h d p i spelled) in
    let at_number : WasVoted h p.ballot.owner n p.ballot t = subst (λ (x : ℕ). WasVoted h p.ballot.owner x p.ballot t) en holds in
    subst (λ (x : Ballot). WasVoted h x.owner n x t) eb at_number

pub one_entry : {D G F : Type 0} → BallotsHaveOneEntry D G F
one_entry z w h n b t u x y = (history_sound h).sound.one b.owner n b t u (owner_voted h n b t x) (owner_voted h n b u y)

pub votes_are_offered : {D G F : Type 0} → VotesAreOffered D G F
votes_are_offered z w h m n b t v = (history_sound h).sound.offered m n b t v

promise_held : {D G F : Type 0} {z : Circuit D G F} {w : State G F} (h : History z w) (m n : ℕ) (b : Ballot) (report : Option Vote) → WasPromised z w m n b report → PromiseHolds (WasVoted h) w.rows m n b report
promise_held {w = w} h m n b report p =
    let holds : PromiseHolds (WasVoted h) w.rows p.packet.from p.packet.number p.packet.ballot report = subst (λ (x : Body). BodyHolds (WasVoted h) w.rows p.packet.from p.packet.number p.packet.ballot x) p.body (packet_held h p.datagram p.packet p.sent p.spelled) in
    let at_member : PromiseHolds (WasVoted h) w.rows m p.packet.number p.packet.ballot report = subst (λ (x : ℕ). PromiseHolds (WasVoted h) w.rows x p.packet.number p.packet.ballot report) p.from holds in
    let at_number : PromiseHolds (WasVoted h) w.rows m n p.packet.ballot report = subst (λ (x : ℕ). PromiseHolds (WasVoted h) w.rows m x p.packet.ballot report) p.number at_member in
    subst (λ (x : Ballot). PromiseHolds (WasVoted h) w.rows m n x report) p.ballot at_number

pub reports_are_greatest : {D G F : Type 0} → ReportsAreGreatest D G F
reports_are_greatest z w h m n b report p = let k = promise_held h m n b report p in record { is_vote = k.reported; is_greatest = k.greatest }

pub votes_are_backed : {D G F : Type 0} → VotesAreBacked D G F
votes_are_backed z w h m n b a t v l = weaker (λ k i x. turned k x) (((history_sound h).sound.safe m n b t v).backed a l)
  where
    turned : (k : ℕ) → Backs (WasVoted h) w.rows n a t k → WasVoted h k n a t ⊎ ((u : Entry) → ¬ WasVoted h k n a u) × IsBoundAbove w k n a
    turned k (inl x) = inl x
    turned k (inr x) = inr (x.0, (x.1.at, x.1.is, x.1.passes))

pub heard_is_voted : {D G F : Type 0} → HeardIsVoted D G F
heard_is_voted z w h m n k b t i = (history_sound h).sound.marked m (Heard n k b t) i

pub told_is_voted : {D G F : Type 0} → ToldIsVoted D G F
told_is_voted {D = D} {G = G} {F = F} z w h d p t i spelled body =
    let holds : BodyHolds (WasVoted h) w.rows p.from p.number p.ballot (Accepted t) =
    subst (λ (x : Body). BodyHolds (WasVoted h) w.rows p.from p.number p.ballot x) body (packet_held h d p i spelled) in
    holds

pub ripe_is_chosen : {D G F : Type 0} → RipeIsChosen D G F
ripe_is_chosen z w h m n b t ripe =
    let least : WasVoted h ripe.least n b t = voted ripe.least t ripe.is_latest in
    (b, weaker (λ k i x. subst (λ (y : Entry). WasVoted h k n b y) (one_entry z w h n b x.0 t (by_vote k (voted k x.0 x.1)) (by_vote ripe.least least)) (voted k x.0 x.1)) ripe.many)
  where
    voted : (k : ℕ) (u : Entry) → Latest (w.marks m) n k b u → WasVoted h k n b u
    voted k u l = heard_is_voted z w h m n k b u (among_split (w.marks m) l.after l.before (Heard n k b u) l.heard)

-- an entry that is chosen at a is that of each vote at a greater ballot:
-- the majority that backs this vote at a shares a member with the one that chose
later_same : {D G F : Type 0} {z : Circuit D G F} {w : State G F} (h : History z w) (n m : ℕ) (a b : Ballot) (t u : Entry) → Majority z.count (λ k. WasVoted h k n a t) → WasVoted h m n b u → IsBelow a b → t ≡ u
later_same {z = z} {w = w} h n m a b t u many v l =
    let both = shared many (votes_are_backed z w h m n b a u v l) in
    elim both.3 [
      | inl x ↦ one_entry z w h n a t u (by_vote both.0 both.2) (by_vote both.0 x)
      | inr x ↦ absurd (x.0 t both.2)
    ]

pub chosen_is_one : {D G F : Type 0} → ChosenIsOne D G F
chosen_is_one z w h n t u x y = elim (compare_ballots x.0 y.0) [
  | inl l ↦ (let k = some_member y.1 in later_same h n k.0 x.0 y.0 t u x.1 k.2 l)
  | inr r ↦ elim r [
    | inl same ↦ (let k = some_member x.1 in let j = some_member y.1 in one_entry z w h n y.0 t u (by_vote k.0 (subst (λ (b : Ballot). WasVoted h k.0 n b t) same k.2)) (by_vote j.0 j.2))
    | inr l ↦ (let k = some_member x.1 in sym (later_same h n k.0 y.0 x.0 u t y.1 k.2 l))
  ]
]

pub releases_are_chosen : {D G F : Type 0} → ReleasesAreChosen D G F
releases_are_chosen z w h x i = (history_sound h).sound.chosen x.number x.entry (x, i, refl, refl)

pub histories_agree : {D G F : Type 0} → HistoriesAgree D G F
histories_agree {G = G} {F = F} z w h = record {
  one = λ x y i j e. chosen_is_one z w h y.number x.entry y.entry (subst (λ (n : ℕ). IsChosen h n x.entry) e (chosen x i)) (chosen y j);
  offered = λ x i. let k = chosen x i in let m = some_member k.1 in votes_are_offered z w h m.0 x.number k.0 x.entry m.2;
  set = (history_sound h).set;
}
  where
    chosen : (x : Release G F) → IsAmong w.releases x → IsChosen h x.number x.entry
    chosen = releases_are_chosen z w h

-- a datagram that was sent stays sent
sent_stays : {D G F : Type 0} {z : Circuit D G F} (w : State G F) (s : Step) (o : Outcome D F) (after : State G F) → StepsTo z w s o after → (d : Datagram) → IsAmong w.sent d → IsAmong after.sent d
sent_stays {G = G} {F = F} w s o after (is_done m call e t out task member unrefused event turn carried armed how is) d i = subst (λ (x : State G F). IsAmong x.sent d) (sym (same_state is)) (among_left w.sent out d i)
sent_stays {G = G} {F = F} w s o after (is_torn m call e row armed task member event leaves is) d i = subst (λ (x : State G F). IsAmong x.sent d) (sym (same_state is)) i
sent_stays {G = G} {F = F} w s o after (is_refused m call r task member refused how is) d i = subst (λ (x : State G F). IsAmong x.sent d) (sym (same_state is)) i
sent_stays {G = G} {F = F} w s o after (is_idle m call task member unrefused event how is) d i = subst (λ (x : State G F). IsAmong x.sent d) (sym (same_state is)) i
sent_stays {G = G} {F = F} w s o after (is_spent m call e task member unrefused event turn how is) d i = subst (λ (x : State G F). IsAmong x.sent d) (sym (same_state is)) i
sent_stays {G = G} {F = F} w s o after (restarts m member is_restart how is) d i = subst (λ (x : State G F). IsAmong x.sent d) (sym (same_state is)) i
sent_stays {G = G} {F = F} w s o after (upgrades m member is_upgrade how unarmed is) d i = subst (λ (x : State G F). IsAmong x.sent d) (sym (same_state is)) i
sent_stays {G = G} {F = F} w s o after (upgrade_is_torn m v member is_upgrade turns is) d i = subst (λ (x : State G F). IsAmong x.sent d) (sym (same_state is)) i
sent_stays {G = G} {F = F} w s o after (is_armed m b member is_balk how is) d i = subst (λ (x : State G F). IsAmong x.sent d) (sym (same_state is)) i

pub promises_bind : {D G F : Type 0} → PromisesBind D G F
promises_bind z w after h s o st m n b report p a t l (inr v) = v
promises_bind z w after h s o st m n b report p a t l (inl v) =
    let later : WasPromised z after m n b report = record { datagram = p.datagram; packet = p.packet; sent = sent_stays w s o after st p.datagram p.sent; spelled = p.spelled; from = p.from; number = p.number; ballot = p.ballot; body = p.body } in
    let sound = (history_sound (goes_on h s o st)).sound in
    let x = (promise_held (goes_on h s o st) m n b report later).greatest a t (inl v) l in
    let old = ((promise_held h m n b report p).reported x.0 x.1).0 in
    let y = sound.last m n x.0.ballot x.0.entry (inr old) in
    let top : y.0 ≡ vote_for a t = some_inj (sym y.1 ∙ v) in
    let low : IsAtMost x.0.ballot a = subst (λ (z : Vote). IsAtMost x.0.ballot z.ballot) top y.2 in
    let same : a ≡ x.0.ballot = both_at_most a x.0.ballot x.2 low in
    let old_at : WasVoted h m n a x.0.entry = subst (λ (z : Ballot). WasVoted h m n z x.0.entry) (sym same) old in
    let entry : x.0.entry ≡ t = sound.one m n a x.0.entry t (inr old_at) (inl v) in
    subst (λ (z : Entry). WasVoted h m n a z) entry old_at
