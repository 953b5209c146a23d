-- Turns that are not quiet, and what a quiet one leaves.
use Rattle.std.proofs.Common.{◌≡◌, ℕ, refl, sym, subst, ◌∙◌, List, [], ◌∷◌, Option, Some, None, Bool, true, false}
use Rattle.std.specs.Prelude.{◌==◌, if◌then◌else◌}
use Rattle.protocol.specs.Seats.{Seat}
use Rattle.protocol.specs.Ballots.{Ballot, is_below, next}
use Rattle.protocol.specs.Entries.{Entry}
use Rattle.protocol.specs.Rows.{Vote, Row, raised}
use Rattle.protocol.specs.Packets.{Packet, Body, Prepare, Promise, Accept, Accepted, Nack}
use Rattle.protocol.specs.Marks.{Mark, Began, Promised}
use Rattle.protocol.specs.Proposals.{Opening, was_released, open_proposal, gathering_at, since_began, counted, pick, is_due, is_due_number}
use Rattle.protocol.specs.Acceptor.{Prepares, Accepts, Reply, Promises, Nacks, Says_nothing, Votes, Votes_again, reply_of, next_row, is_above, vote_is_at, nack_of}
use Rattle.protocol.specs.Turn as said
use Rattle.protocol.specs.Turn.{propose, begin, start_turn, renew, next_ballot, due_turn, promise_turn, prepare_turn, accept_turn, accepted_turn, packet_turn, reply_turn, take_vote, recall_turn}
use Rattle.proposer.specs.Answers.{IsNew, completes}
use Rattle.node_core.specs.Turns.{Stirs, is_quiet}
use Rattle.node_core.proofs.Phases.{counts_so, completes_so, none_gathers}
use Rattle.node_core.proofs.Accepting.{prepare_adds_none}

-- a turn that proposes, or closes the proposal
propose_stirs : (s : Seat) (n : ℕ) (b : Ballot) (now : ℕ) (marks : List Mark) (row : Row) (o : Option Entry) → Stirs (propose s n b now marks row o)
propose_stirs s n b now marks row None = refl
propose_stirs s n b now marks row (Some t) = refl

pub begin_stirs : (s : Seat) (n : ℕ) (b : Ballot) (own : Option Entry) (now : ℕ) (marks : List Mark) (row : Row) → Stirs (begin s n b own now marks row)
begin_stirs s n b own now marks row = go (s.members == 1) refl
  where
    go : (x : Bool) → (s.members == 1) ≡ x → Stirs (begin s n b own now marks row)
    go true e = rw e (propose_stirs s n b now (Began n b own row.vote now ∷ marks) (raised row b) (pick own (record { member = s.me; report = row.vote } ∷ [])))
    go false e = rw e refl

renew_stirs : (s : Seat) (n now : ℕ) (p : Opening) (marks : List Mark) (row : Row) (b : Option Ballot) → Stirs (renew s n now p marks row b)
renew_stirs s n now p marks row None = refl
renew_stirs s n now p marks row (Some b) = begin_stirs s n b p.own now marks row

-- a proposal that is due begins anew, or is closed
pub due_stirs : (s : Seat) (n now : ℕ) (marks : List Mark) (row : Row) → is_due_number s.me now marks n ≡ true → Stirs (due_turn s n now marks row (open_proposal n marks))
due_stirs s n now marks row d = go (open_proposal n marks) refl
  where
    go : (q : Option Opening) → open_proposal n marks ≡ q → Stirs (due_turn s n now marks row (open_proposal n marks))
    go None h = let bad : false ≡ true = rw h at d in absurd cc
    go (Some p) h =
        let t : is_due s.me n now (since_began n marks) (Some p) ≡ true = rw h at d in
        rw (h, t) (renew_stirs s n now p marks row (next_ballot s.me n marks row))

-- a promise that is new is counted
pub promise_stirs :
    (s : Seat) (now : ℕ) (marks : List Mark) (row : Row) (p : Packet) (r : Option Vote) → row.promised ≡ Some p.ballot → IsNew s.me p.number p.ballot p.from marks
    → Stirs (promise_turn s now marks row p r (gathering_at p.number p.ballot marks))
promise_stirs s now marks row p r promised h = go (completes s.members s.me p.number p.ballot p.from r marks h.opening) refl
  where
    go : (x : Bool) → completes s.members s.me p.number p.ballot p.from r marks h.opening ≡ x → Stirs (promise_turn s now marks row p r (gathering_at p.number p.ballot marks))
    go false few = rw (counts_so s now marks row p r promised h few) refl
    go true many =
        rw (completes_so s now marks row p r promised h many)
        (propose_stirs s p.number p.ballot now (Promised p.number p.from p.ballot r ∷ marks) row (pick h.opening.own (counted s.me p.number h.opening (Promised p.number p.from p.ballot r ∷ since_began p.number marks))))

pub is_new_told : (m n j : ℕ) (b a : Ballot) (from k : ℕ) (marks : List Mark) → n ≡ j → b ≡ a → from ≡ k → IsNew m n b from marks → IsNew m j a k marks
is_new_told m n j b a from k marks e f g h = subst (λ i. IsNew m j a i marks) g (subst (λ (x : Ballot). IsNew m j x from marks) f (subst (λ i. IsNew m i b from marks) e h))

-- an answer is not quiet
module _ (s : Seat) (marks : List Mark) (row : Row) (p : Packet) where
  take_stirs : (note : said.Note) (v : Option Vote) → is_quiet note ≡ false → Stirs (take_vote s marks row p note v)
  take_stirs note None h = h
  take_stirs note (Some v) h = h

  reply_stirs : (r : Reply) → (r ≡ Says_nothing → ⊥) → Stirs (reply_turn s marks row p r)
  reply_stirs (Promises report) speaks = refl
  reply_stirs (Nacks a) speaks = refl
  reply_stirs Says_nothing speaks = absurd (speaks refl)
  reply_stirs Votes speaks = take_stirs (said.Note_voted p.ballot) row.vote refl
  reply_stirs Votes_again speaks = take_stirs (said.Note_voted_again p.ballot) row.vote refl

-- a Prepare is answered, unless it is promised already
pub prepare_stirs : (s : Seat) (marks : List Mark) (row : Row) (p : Packet) → (reply_of row (Prepares p.ballot) ≡ Says_nothing → ⊥) → Stirs (prepare_turn s marks row p)
prepare_stirs s marks row p speaks = reply_stirs s marks (next_row row (Prepares p.ballot)) p (reply_of row (Prepares p.ballot)) speaks

-- an Accept is answered
pub accept_stirs : (s : Seat) (marks : List Mark) (row : Row) (p : Packet) (t : Entry) → Stirs (accept_turn s marks row p t)
accept_stirs s marks row p t = reply_stirs s marks (next_row row (Accepts p.ballot t)) p (reply_of row (Accepts p.ballot t)) (speaks row.promised (vote_is_at row.vote p.ballot))
  where
    speaks : (o : Option Ballot) (y : Bool) → (if is_above o p.ballot then nack_of o else if y then Votes_again else Votes) ≡ Says_nothing → ⊥
    speaks None true e = cc
    speaks None false e = cc
    speaks (Some a) y e = go (is_below p.ballot a) y e
      where
        go : (x y : Bool) → (if x then Nacks a else if y then Votes_again else Votes) ≡ Says_nothing → ⊥
        go true y e = cc
        go false true e = cc
        go false false e = cc

-- a vote is heard where its number was not released
pub accepted_stirs : (s : Seat) (marks : List Mark) (row : Row) (p : Packet) (t : Entry) → was_released p.number marks ≡ false → Stirs (accepted_turn s marks row p t)
accepted_stirs s marks row p t u = rw u refl

-- a vote that is told again is not quiet
pub recall_stirs : (s : Seat) (n to : ℕ) (marks : List Mark) (row : Row) (v : Vote) → Stirs (recall_turn s n to marks row (Some v))
recall_stirs s n to marks row v = go (to == s.me) refl
  where
    go : (x : Bool) → (to == s.me) ≡ x → Stirs (recall_turn s n to marks row (Some v))
    go true e = rw e refl
    go false e = rw e refl

-- where no proposal is open, a quiet turn takes nothing in
module _ (s : Seat) (marks : List Mark) (row : Row) where
  abbrev Keeps : said.Turn → Type 0
  Keeps t = is_quiet t.note ≡ true → t.marks ≡ marks

  stirred : (t : said.Turn) → Stirs t → Keeps t
  stirred t h q = let bad : true ≡ false = sym q ∙ h in absurd cc

  started : (n : ℕ) (own : Option Entry) (now : ℕ) (o : Option Ballot) (t : said.Turn) → start_turn s n own now marks row o ≡ Some t → Keeps t
  started n own now None t e = absurd cc
  started n own now (Some b) t e = let is : begin s n b own now marks row ≡ t = cc in subst Keeps is (stirred (begin s n b own now marks row) (begin_stirs s n b own now marks row))

  received : (p : Packet) (now : ℕ) (body : Body) → open_proposal p.number marks ≡ None → Keeps (packet_turn s now marks row p body)
  received p now Prepare h q = (prepare_adds_none s marks row p).0
  received p now (Promise r) h q = let none : gathering_at p.number p.ballot marks ≡ None = none_gathers p.number p.ballot marks h in rw none refl
  received p now (Accept t) h q = stirred (accept_turn s marks row p t) (accept_stirs s marks row p t) q
  received p now (Accepted t) h q = go (was_released p.number marks) refl q
    where
      go : (x : Bool) → was_released p.number marks ≡ x → Keeps (accepted_turn s marks row p t)
      go true e q = rw e refl
      go false e q = stirred (accepted_turn s marks row p t) (accepted_stirs s marks row p t e) q
  received p now (Nack a) h q = rw h refl

  recalled : (n to : ℕ) (o : Option Vote) → Keeps (recall_turn s n to marks row o)
  recalled n to None q = refl
  recalled n to (Some v) q = stirred (recall_turn s n to marks row (Some v)) (recall_stirs s n to marks row v) q

  pub quiet_keeps : (event : said.Event) (t : said.Turn) → said.turn s marks row event ≡ Some t → open_proposal (said.number_of event) marks ≡ None → is_quiet t.note ≡ true → t.marks ≡ marks
  quiet_keeps (said.Offered n entry now) t e h q = started n (Some entry) now (next row.promised s.me) t e q
  quiet_keeps (said.Sought n now) t e h q = started n None now (next row.promised s.me) t e q
  quiet_keeps (said.Came_due n now) t e h q = let is : due_turn s n now marks row (open_proposal n marks) ≡ t = cc in subst Keeps is (λ _. rw h refl) q
  quiet_keeps (said.Arrived p now) t e h q = let is : packet_turn s now marks row p p.body ≡ t = cc in subst Keeps is (received p now p.body h) q
  quiet_keeps (said.Recalled n to) t e h q = let is : recall_turn s n to marks row row.vote ≡ t = cc in subst Keeps is (recalled n to row.vote) q
