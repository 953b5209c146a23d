-- Each turn adds marks of its own number alone.
use Rattle.std.proofs.Common.{◌≡◌, ℕ, refl, ap, subst, List, [], ◌∷◌, Option, Some, None, Bool, true, false}
use Rattle.std.specs.Prelude.{◌==◌}
use Rattle.protocol.specs.Seats.{Seat}
use Rattle.protocol.specs.Ballots.{Ballot, is_majority, next}
use Rattle.protocol.specs.Entries.{Entry}
use Rattle.protocol.specs.Rows.{Vote, Row, raised}
use Rattle.protocol.specs.Packets.{Packet, Body, Prepare, Promise, Accept, Accepted, Nack}
use Rattle.protocol.specs.Acceptor.{Prepares, Accepts, Reply, Promises, Nacks, Says_nothing, Votes, Votes_again, reply_of, next_row, is_at}
use Rattle.protocol.specs.Marks.{Mark, Began, Promised, Proposed, Denied, Heard, Closed, Released}
use Rattle.protocol.specs.Proposals.{Opening, was_released, open_proposal, gathering_at, proposal_at, since_began, counted, is_counted, pick, is_due}
use Rattle.protocol.specs.Learner.{ripe}
use Rattle.protocol.specs.Turn as said
use Rattle.protocol.specs.Turn.{hear, propose, begin, start_turn, renew, next_ballot, due_turn, promise_turn, nack_turn, reply_turn, take_vote, packet_turn, recall_turn}
use Rattle.node_core.specs.Standing.{Grows, marked_number}

pub stays : (n : ℕ) (marks : List Mark) → Grows n marks marks
stays n marks = record { new = []; is = refl; about = tt }

pub adds : (n : ℕ) (before after : List Mark) (x : Mark) → marked_number x ≡ n → Grows n before after → Grows n before (x ∷ after)
adds n before after x e g = record { new = x ∷ g.new; is = ap (λ (marks : List Mark). x ∷ marks) g.is; about = (e, g.about) }

hears : (c n m : ℕ) (b : Ballot) (t : Entry) (before marks : List Mark) → Grows n before marks → Grows n before (hear c n m b t marks).marks
hears c n m b t before marks g = go (was_released n marks) refl (ripe c n (Heard n m b t ∷ marks)) refl
  where
    go : (x : Bool) → was_released n marks ≡ x → (y : Option Vote) → ripe c n (Heard n m b t ∷ marks) ≡ y → Grows n before (hear c n m b t marks).marks
    go true e y f = rw e g
    go false e None f = rw (e, f) (adds n before marks (Heard n m b t) refl g)
    go false e (Some v) f = rw (e, f) (adds n before (Heard n m b t ∷ marks) (Released n v.entry) refl (adds n before marks (Heard n m b t) refl g))

proposes : (s : Seat) (n : ℕ) (b : Ballot) (now : ℕ) (before marks : List Mark) (row : Row) (o : Option Entry) → Grows n before marks → Grows n before (propose s n b now marks row o).marks
proposes s n b now before marks row None g = adds n before marks (Closed n) refl g
proposes s n b now before marks row (Some t) g = hears s.members n s.me b t before (Proposed n b now ∷ marks) (adds n before marks (Proposed n b now) refl g)

begins : (s : Seat) (n : ℕ) (b : Ballot) (own : Option Entry) (now : ℕ) (marks : List Mark) (row : Row) → Grows n marks (begin s n b own now marks row).marks
begins s n b own now marks row = go (s.members == 1) refl
  where
    began : Grows n marks (Began n b own row.vote now ∷ marks)
    began = adds n marks marks (Began n b own row.vote now) refl (stays n marks)

    go : (x : Bool) → (s.members == 1) ≡ x → Grows n marks (begin s n b own now marks row).marks
    go true e = rw e (proposes s n b now marks (Began n b own row.vote now ∷ marks) (raised row b) (pick own (record { member = s.me; report = row.vote } ∷ [])) began)
    go false e = rw e began

renews : (s : Seat) (n now : ℕ) (p : Opening) (marks : List Mark) (row : Row) (b : Option Ballot) → Grows n marks (renew s n now p marks row b).marks
renews s n now p marks row None = adds n marks marks (Closed n) refl (stays n marks)
renews s n now p marks row (Some b) = begins s n b p.own now marks row

falls_due : (s : Seat) (n now : ℕ) (marks : List Mark) (row : Row) (p : Option Opening) → Grows n marks (due_turn s n now marks row p).marks
falls_due s n now marks row None = stays n marks
falls_due s n now marks row (Some p) = go (is_due s.me n now (since_began n marks) (Some p)) refl
  where
    go : (x : Bool) → is_due s.me n now (since_began n marks) (Some p) ≡ x → Grows n marks (due_turn s n now marks row (Some p)).marks
    go true e = rw e (renews s n now p marks row (next_ballot s.me n marks row))
    go false e = rw e (stays n marks)

promises : (s : Seat) (now : ℕ) (marks : List Mark) (row : Row) (p : Packet) (r : Option Vote) (o : Option Opening) → Grows p.number marks (promise_turn s now marks row p r o).marks
promises s now marks row p r None = stays p.number marks
promises s now marks row p r (Some o) = go (is_at row.promised p.ballot) refl (is_counted (counted s.me p.number o (since_began p.number marks)) p.from) refl (is_majority s.members (is_counted (counted s.me p.number o (Promised p.number p.from p.ballot r ∷ since_began p.number marks)))) refl
  where
    counts : Grows p.number marks (Promised p.number p.from p.ballot r ∷ marks)
    counts = adds p.number marks marks (Promised p.number p.from p.ballot r) refl (stays p.number marks)

    go : (x : Bool) → is_at row.promised p.ballot ≡ x → (y : Bool) → is_counted (counted s.me p.number o (since_began p.number marks)) p.from ≡ y → (z : Bool) → is_majority s.members (is_counted (counted s.me p.number o (Promised p.number p.from p.ballot r ∷ since_began p.number marks))) ≡ z → Grows p.number marks (promise_turn s now marks row p r (Some o)).marks
    go false e y f z h = rw e (stays p.number marks)
    go true e true f z h = rw (e, f) (stays p.number marks)
    go true e false f false h = rw (e, f, h) counts
    go true e false f true h = rw (e, f, h) (proposes s p.number p.ballot now marks (Promised p.number p.from p.ballot r ∷ marks) row (pick o.own (counted s.me p.number o (Promised p.number p.from p.ballot r ∷ since_began p.number marks))) counts)

denies : (marks : List Mark) (row : Row) (p : Packet) (a : Ballot) (o : Option Opening) → Grows p.number marks (nack_turn marks row p a o).marks
denies marks row p a None = stays p.number marks
denies marks row p a (Some o) = adds p.number marks marks (Denied p.number a) refl (stays p.number marks)

-- what an acceptor replies
replies : (s : Seat) (marks : List Mark) (row : Row) (p : Packet) (r : Reply) → Grows p.number marks (reply_turn s marks row p r).marks
replies s marks row p r = go r
  where
    takes : (note : said.Note) (v : Option Vote) → Grows p.number marks (take_vote s marks row p note v).marks
    takes note None = stays p.number marks
    takes note (Some v) = hears s.members p.number s.me p.ballot v.entry marks marks (stays p.number marks)

    go : (r : Reply) → Grows p.number marks (reply_turn s marks row p r).marks
    go (Promises report) = stays p.number marks
    go (Nacks a) = stays p.number marks
    go Says_nothing = stays p.number marks
    go Votes = takes (said.Note_voted p.ballot) row.vote
    go Votes_again = takes (said.Note_voted_again p.ballot) row.vote

receives : (s : Seat) (now : ℕ) (marks : List Mark) (row : Row) (p : Packet) (body : Body) → Grows p.number marks (packet_turn s now marks row p body).marks
receives s now marks row p Prepare = replies s marks (next_row row (Prepares p.ballot)) p (reply_of row (Prepares p.ballot))
receives s now marks row p (Promise r) = promises s now marks row p r (gathering_at p.number p.ballot marks)
receives s now marks row p (Accept t) = replies s marks (next_row row (Accepts p.ballot t)) p (reply_of row (Accepts p.ballot t))
receives s now marks row p (Accepted t) = hears s.members p.number p.from p.ballot t marks marks (stays p.number marks)
receives s now marks row p (Nack a) = denies marks row p a (proposal_at p.number p.ballot marks)

-- what is told again
recalls : (s : Seat) (n to : ℕ) (marks : List Mark) (row : Row) (o : Option Vote) → Grows n marks (recall_turn s n to marks row o).marks
recalls s n to marks row None = stays n marks
recalls s n to marks row (Some v) = go (to == s.me) refl
  where
    go : (x : Bool) → (to == s.me) ≡ x → Grows n marks (recall_turn s n to marks row (Some v)).marks
    go true e = rw e (hears s.members n s.me v.ballot v.entry marks marks (stays n marks))
    go false e = rw e (stays n marks)

-- the turn of any event
starts : (s : Seat) (n : ℕ) (own : Option Entry) (now : ℕ) (marks : List Mark) (row : Row) (o : Option Ballot) (t : said.Turn) → start_turn s n own now marks row o ≡ Some t → Grows n marks t.marks
starts s n own now marks row None t e = absurd cc
starts s n own now marks row (Some b) t e = let is : begin s n b own now marks row ≡ t = cc in subst (λ (u : said.Turn). Grows n marks u.marks) is (begins s n b own now marks row)

pub grows : (s : Seat) (marks : List Mark) (row : Row) (event : said.Event) (t : said.Turn) → said.turn s marks row event ≡ Some t → Grows (said.number_of event) marks t.marks
grows s marks row (said.Offered n entry now) t e = starts s n (Some entry) now marks row (next row.promised s.me) t e
grows s marks row (said.Sought n now) t e = starts s n None now marks row (next row.promised s.me) t e
grows s marks row (said.Came_due n now) t e = let is : due_turn s n now marks row (open_proposal n marks) ≡ t = cc in subst (λ (u : said.Turn). Grows n marks u.marks) is (falls_due s n now marks row (open_proposal n marks))
grows s marks row (said.Arrived p now) t e = let is : packet_turn s now marks row p p.body ≡ t = cc in subst (λ (u : said.Turn). Grows p.number marks u.marks) is (receives s now marks row p p.body)
grows s marks row (said.Recalled n to) t e = let is : recall_turn s n to marks row row.vote ≡ t = cc in subst (λ (u : said.Turn). Grows n marks u.marks) is (recalls s n to marks row row.vote)
