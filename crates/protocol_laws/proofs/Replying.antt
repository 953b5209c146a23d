-- What a station does on a packet, where nothing stands in the way.
use Rattle.std.proofs.Common.{◌≡◌, ℕ, ◌≤◌, ◌⊎◌, inl, inr, refl, ap, arith, zero, suc, List, [], ◌∷◌, ◌++◌, Option, Some, None, true, false, Bool, sym, subst, ◌∙◌}
use Rattle.std.specs.Prelude.{◌==◌, not, map}
use Rattle.std.proofs.lemmas.Bool.{eqb-true, eq-eqb, le-ltb, not-true}
use Rattle.protocol.specs.Limits.{is_number}
use Rattle.protocol.specs.Seats.{Seat, sits}
use Rattle.protocol.specs.Ballots.{Ballot, is_below, is_same, IsMember, members, is_majority}
use Rattle.protocol.specs.Entries.{Entry}
use Rattle.protocol.specs.Rows.{Vote, Row, raised, voted}
use Rattle.protocol.specs.Packets.{Packet, Body, Prepare, Promise, Accept, Accepted, Nack}
use Rattle.protocol.specs.Acceptor.{is_above, is_at, vote_is_at}
use Rattle.protocol.specs.Marks.{Mark, Denied, Promised, Heard}
use Rattle.protocol.specs.Lists.{IsAmong, greatest}
use Rattle.protocol.specs.Proposals.{open_proposal, was_released, since_began, gathering_at, Opening, Counted, counted, is_counted, reports_above, entry_or, report_of, pick}
use Rattle.protocol.specs.Learner.{ripe}
use Rattle.protocol.specs.Turn.{Note_promised, Note_voted, Note_counted, others, packet_to, to_others, hear, after_hearing, propose, answer, stays, packet_turn, proposal_to_others, Note_nacked, Note_denied}
use Rattle.protocol.specs.Refusals.{names_stranger, packet_refusal}
use Rattle.protocol.specs.Circuit.{Circuit, seat_at}
use Rattle.protocol.specs.Progress.{IsBallotOf, BodyMaySay, MaySay}
use Rattle.protocol_laws.proofs.Majorities.{among_members}
use Rattle.protocol_laws.proofs.Looking.{among_filter, filter_among}
use Rattle.protocol_laws.proofs.Places.{among-append, among_left, among_right, among_map_of}

-- a Prepare above the promise is promised
pub promises : (s : Seat) (marks : List Mark) (row : Row) (p : Packet) → is_above row.promised p.ballot ≡ false → is_at row.promised p.ballot ≡ false
    → packet_turn s 0 marks row p Prepare ≡ answer s marks (raised row p.ballot) p (Promise row.vote) (Note_promised p.ballot)
promises s marks row p e f = rw (e, f) refl

-- a Prepare below the promise is denied
pub nacks : (s : Seat) (marks : List Mark) (row : Row) (p : Packet) (a : Ballot) → row.promised ≡ Some a → is_below p.ballot a ≡ true
    → packet_turn s 0 marks row p Prepare ≡ answer s marks row p (Nack a) (Note_nacked a)
nacks s marks row p a e f = rw (e, f) refl

-- and a Nack is taken in by the proposal at its ballot
pub denies :
    (s : Seat) (marks : List Mark) (row : Row) (p : Packet) (a : Ballot) (o : Opening) → open_proposal p.number marks ≡ Some o
    → is_same o.ballot p.ballot ≡ true
    → packet_turn s 0 marks row p (Nack a) ≡ stays row (Denied p.number a ∷ marks) (Note_denied a)
denies s marks row p a o e f = rw (e, f) refl

-- an Accept that is not below the promise is voted for, where its ballot has no vote
pub votes :
    (s : Seat) (marks : List Mark) (row : Row) (p : Packet) (entry : Entry) → is_above row.promised p.ballot ≡ false
    → vote_is_at row.vote p.ballot ≡ false
    → packet_turn s 0 marks row p (Accept entry)
    ≡ after_hearing (voted p.ballot entry) (to_others s p.number p.ballot (Accepted entry)) (Note_voted p.ballot) (hear s.members p.number s.me p.ballot entry marks)
votes s marks row p entry e f = rw (e, f) refl

-- all that are counted with one promise more
abbrev pub with_promise : Seat → List Mark → Packet → Option Vote → Opening → List Counted
with_promise s marks p report o = counted s.me p.number o (Promised p.number p.from p.ballot report ∷ since_began p.number marks)

-- a Promise is counted
pub counts : (s : Seat) (marks : List Mark) (row : Row) (p : Packet) (report : Option Vote) (o : Opening)
    → gathering_at p.number p.ballot marks ≡ Some o → is_at row.promised p.ballot ≡ true
    → is_counted (counted s.me p.number o (since_began p.number marks)) p.from ≡ false
    → is_majority s.members (is_counted (with_promise s marks p report o)) ≡ false
    → packet_turn s 0 marks row p (Promise report) ≡ stays row (Promised p.number p.from p.ballot report ∷ marks) (Note_counted p.ballot)
counts s marks row p report o e f g h = rw (e, f, g, h) refl

-- and completes a majority
pub completes : (s : Seat) (marks : List Mark) (row : Row) (p : Packet) (report : Option Vote) (o : Opening)
    → gathering_at p.number p.ballot marks ≡ Some o → is_at row.promised p.ballot ≡ true
    → is_counted (counted s.me p.number o (since_began p.number marks)) p.from ≡ false
    → is_majority s.members (is_counted (with_promise s marks p report o)) ≡ true
    → packet_turn s 0 marks row p (Promise report)
    ≡ propose s p.number p.ballot 0 (Promised p.number p.from p.ballot report ∷ marks) row (pick o.own (with_promise s marks p report o))
completes s marks row p report o e f g h = rw (e, f, g, h) refl

-- where there is an own entry, some entry is picked
pub picks : (own : Entry) (all : List Counted) → (entry : Entry) × (pick (Some own) all ≡ Some entry)
picks own all = go (report_of (greatest reports_above all))
  where
    go : (r : Option Vote) → (entry : Entry) × (entry_or (Some own) r ≡ Some entry)
    go None = (own, refl)
    go (Some v) = (v.entry, refl)

-- a vote that is heard and releases nothing was not ripe
pub waits : (c n j : ℕ) (b : Ballot) (entry : Entry) (marks : List Mark) → was_released n marks ≡ false → (hear c n j b entry marks).release ≡ None
    → ((hear c n j b entry marks).marks ≡ Heard n j b entry ∷ marks) × (ripe c n (Heard n j b entry ∷ marks) ≡ None)
waits c n j b entry marks unreleased none = go (ripe c n (Heard n j b entry ∷ marks)) refl
  where
    go :
        (r : Option Vote) → ripe c n (Heard n j b entry ∷ marks) ≡ r
        → ((hear c n j b entry marks).marks ≡ Heard n j b entry ∷ marks) × (ripe c n (Heard n j b entry ∷ marks) ≡ None)
    go None e = (rw (unreleased, e) refl, e)
    go (Some v) e = let no : Some v.entry ≡ None = rw e at (rw unreleased at none) in cc

-- every member is among the members
pub member_among : (c k : ℕ) → IsMember c k → IsAmong (members c) k
member_among zero k i = absurd (omega arith)
member_among (suc c) k i = go (last k i) (λ j. member_among c k j)
  where
    nat_cases : (a b : ℕ) → (a ≤ b) ⊎ (a ≡ suc b) ⊎ (suc (suc b) ≤ a)
    nat_cases a b = grind arith

    last : (k : ℕ) → IsMember (suc c) k → IsMember c k ⊎ (k ≡ suc c)
    last k i = elim (nat_cases k c) [ inl l ↦ inl (omega arith, l) | inr r ↦ elim r [ inl e ↦ inr e | inr l ↦ absurd (omega arith) ] ]

    go : IsMember c k ⊎ (k ≡ suc c) → (IsMember c k → IsAmong (members c) k) → IsAmong (members c ++ suc c ∷ []) k
    go (inl j) lower = among_left (members c) (suc c ∷ []) k (lower j)
    go (inr e) lower = among_right (members c) (suc c ∷ []) k (inl e)

pub map_among : {A B : Type 0} (f : A → B) (xs : List A) (x : A) → IsAmong xs x → IsAmong (map f xs) (f x)
map_among f [] x i = absurd i
map_among f (y ∷ xs) x (inl e) = inl (ap f e)
map_among f (y ∷ xs) x (inr i) = inr (map_among f xs x i)

-- what goes to all others goes to each
pub goes_to :
    (s : Seat) (n : ℕ) (b : Ballot) (body : Body) (k : ℕ) → IsMember s.members k → (k == s.me) ≡ false
    → IsAmong (to_others s n b body) (packet_to s n b body k)
goes_to s n b body k member other =
    map_among (packet_to s n b body) (others s) k (filter_among (λ j. not (j == s.me)) (members s.members) k (member_among s.members k member) (rw other refl))

-- a packet between two members, at a ballot of a member, that names no stranger is not refused
pub unrefused : {D F : Type 0} (circuit c : ℕ) (from k n : ℕ) (b : Ballot) (body : Body) → from ≤ c → b.owner ≤ c → names_stranger c body ≡ false
    → packet_refusal {D = D} {F = F} (sits circuit k c) (packet_to (sits circuit from c) n b body k) ≡ None
unrefused circuit c from k n b body l m e =
    let f : (circuit == circuit) ≡ true = eq-eqb circuit circuit refl in
    let g : (k == k) ≡ true = eq-eqb k k refl in
    rw (f, g, le-ltb c from l, le-ltb c b.owner m, e) refl

pub yes_no : (t : Bool) → t ≡ false → t ≡ true → ⊥
yes_no t e f = let no : false ≡ true = sym e ∙ f in cc

-- two members that differ
pub apart : (k j : ℕ) → (k ≡ j → ⊥) → (k == j) ≡ false
apart k j h = go (k == j) refl
  where
    go : (t : Bool) → (k == j) ≡ t → (k == j) ≡ false
    go true e = absurd (h (eqb-true k j e))
    go false e = e

pub turned : (k j : ℕ) → (k == j) ≡ false → (j == k) ≡ false
turned k j e = apart j k (λ f. yes_no (k == j) e (eq-eqb k j (sym f)))

-- a packet between two members may be said
pub packet_says :
    {D G F : Type 0} (z : Circuit D G F) (entries : Entry → Type 0) (from k n : ℕ) (b : Ballot) (body : Body) → IsMember z.count from → IsMember z.count k → (k == from) ≡ false
    → is_number n ≡ true → IsBallotOf z.count b → BodyMaySay z.count entries b from k body → MaySay z entries (packet_to (seat_at z from) n b body k)
packet_says z entries from k n b body i j other number at says =
    record { circuit = refl; from = i; to = j; differ = turned k from other; number = number; ballot = at; body = says }

-- and so to all others
pub others_say :
    {D G F : Type 0} (z : Circuit D G F) (entries : Entry → Type 0) (from n : ℕ) (b : Ballot) (body : Body) → IsMember z.count from
    → is_number n ≡ true → IsBallotOf z.count b → ((k : ℕ) → BodyMaySay z.count entries b from k body)
    → (p : Packet) → IsAmong (to_others (seat_at z from) n b body) p → MaySay z entries p
others_say z entries from n b body i number at says p j =
    let (k, in_others, e) = among_map_of (packet_to (seat_at z from) n b body) (others (seat_at z from)) p j in
    let (in_members, other) = among_filter (λ x. not (x == from)) (members z.count) k in_others in
    subst (λ (q : Packet). MaySay z entries q) (sym e)
    (packet_says z entries from k n b body i (among_members z.count k in_members) (not-true (k == from) other) number at (says k))

-- and so what goes out as an entry is proposed
pub proposal_says :
    {D G F : Type 0} (z : Circuit D G F) (entries : Entry → Type 0) (m n : ℕ) (b : Ballot) → IsMember z.count m → is_number n ≡ true → IsBallotOf z.count b → b.owner ≡ m
    → (entry : Entry) → entries entry → (p : Packet) → IsAmong (proposal_to_others (seat_at z m) n b entry) p → MaySay z entries p
proposal_says z entries m n b i number at owner entry said p j = elim (among-append (to_others (seat_at z m) n b (Accept entry)) (to_others (seat_at z m) n b (Accepted entry)) p j) [
  | inl x ↦ others_say z entries m n b (Accept entry) i number at (λ k. (owner, said)) p x
  | inr x ↦ others_say z entries m n b (Accepted entry) i number at (λ k. said) p x
]
