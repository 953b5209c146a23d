-- The computed turn is one that the table allows.
use Rattle.std.proofs.Common.{◌≡◌, ℕ, ◌≤◌, inl, inr, refl, sym, ap, subst, ◌∙◌, arith, List, [], ◌∷◌, Option, Some, None, Bool, true, false}
use Rattle.std.specs.Prelude.{◌==◌, nat_le, if◌then◌else◌, MatchOption}
use Rattle.std.proofs.lemmas.Bool.{eqb-true, eqb-false, leb-true, leb-false}
use Rattle.protocol.specs.Seats.{Seat}
use Rattle.protocol.specs.Ballots.{Ballot, IsMember, IsNoneOrAtMost, next, is_same, is_below, is_majority}
use Rattle.protocol.specs.Entries.{Entry}
use Rattle.protocol.specs.Rows.{Vote, vote_for, Row, raised}
use Rattle.protocol.specs.Packets.{Packet, Body, Prepare, Promise, Accept, Accepted, Nack}
use Rattle.protocol.specs.Acceptor.{is_above, is_at, vote_is_at}
use Rattle.protocol.specs.Marks.{Mark, Began, Promised, Proposed, Heard}
use Rattle.protocol.specs.Readings.{IsReleased, IsOpen, Gathers, IsCounted, Picks, IsDue}
use Rattle.protocol.specs.Proposals.{begun, Opening, was_released, since_began, open_proposal, proposal_at, gathering_at, counted, is_counted, pick, denied, due_moment}
use Rattle.protocol.specs.Turn.{Event, Offered, Sought, Came_due, Arrived, Recalled, Note_silent, Turn, stays, settle, hear, propose, begin, start_turn, greater_ballot, renew, due_turn, prepare_turn, accept_turn, is_promised, promise_turn, nack_turn, accepted_turn, recall_turn, packet_turn, turn}
use Rattle.protocol.specs.Table.{Hears, was_settled, waits, releases, Proposes, nothing, proposes, Begins, asks, alone, StartTurn, starts, IsGreater, DueTurn, is_idle, gives_up, begins_anew, PrepareTurn, promises, is_silent, VotedAt, AcceptTurn, votes_again, votes, PromiseTurn, is_stale, is_overtaken, is_repeated, counts, completes, NackTurn, is_denied, AcceptedTurn, settles, hears, RecallTurn, is_blank, tells_again, hears_again, AnswerTurn, IsTurn, IsSpent, TurnsAreOfTheTable}
use Rattle.protocol.specs.Table as table
use Rattle.protocol.specs.Learner.{ripe}
use Rattle.protocol_laws.proofs.Order.{below_where}
use Rattle.protocol_laws.proofs.Below.{below_weaken}
use Rattle.protocol_laws.proofs.Due.{due_as, not_due, none_due}
use Rattle.protocol_laws.proofs.Reading.{is_same-true, is_same-self, is_below-true, is_below-false, released_is, unreleased_is, open_is, proposal_is, proposal_none, gathering_is, gathering_none, is_counted-one, one-is_counted, majority_of, no_majority_of, pick_is, denied_is, ripe_is, ripe_none}

some_none : {A : Type 0} {x : A} → Some x ≡ None → ⊥
some_none e = cc

-- a vote that is heard

pub hear_is : (c n k : ℕ) (b : Ballot) (t : Entry) (marks : List Mark) → Hears c n k b t marks (hear c n k b t marks).release (hear c n k b t marks).marks
hear_is c n k b t marks = go (was_released n marks) refl
  where
    settled : ¬ IsReleased marks n → (r : Option Vote) → ripe c n (Heard n k b t ∷ marks) ≡ r → Hears c n k b t marks (settle n (Heard n k b t ∷ marks) r).release (settle n (Heard n k b t ∷ marks) r).marks
    settled h None e = waits h (ripe_none c n (Heard n k b t ∷ marks) e) refl refl
    settled h (Some v) e = releases v.ballot v.entry h (ripe_is c n (Heard n k b t ∷ marks) v e) refl refl

    go : (s : Bool) → was_released n marks ≡ s → Hears c n k b t marks (hear c n k b t marks).release (hear c n k b t marks).marks
    go true e = rw e (was_settled (released_is n marks e) refl refl)
    go false e = rw e (settled (unreleased_is n marks e) (ripe c n (Heard n k b t ∷ marks)) refl)

-- propose and begin

pub propose_is :
    (seat : Seat) (n : ℕ) (b : Ballot) (now : ℕ) (own : Option Entry) (report : Option Vote) (since : List Mark) (row : Row) (marks : List Mark) (r : Option Entry)
    → Picks seat.me n b own report since r → Proposes seat n b now own report since row marks (propose seat n b now marks row r)
propose_is seat n b now own report since row marks None h = nothing h refl
propose_is seat n b now own report since row marks (Some entry) h = proposes entry (hear seat.members n seat.me b entry (Proposed n b now ∷ marks)).release (hear seat.members n seat.me b entry (Proposed n b now ∷ marks)).marks h (hear_is seat.members n seat.me b entry (Proposed n b now ∷ marks)) refl

pub begin_is : (seat : Seat) (n : ℕ) (b : Ballot) (own : Option Entry) (now : ℕ) (row : Row) (marks : List Mark) → 1 ≤ seat.members → Begins seat n b own now row marks (begin seat n b own now marks row)
begin_is seat n b own now row marks l = go (seat.members == 1) refl
  where
    go : (s : Bool) → (seat.members == 1) ≡ s → Begins seat n b own now row marks (begin seat n b own now marks row)
    go true e =
        rw e (alone (eqb-true seat.members 1 e) (propose_is seat n b now own row.vote [] (raised row b) (Began n b own row.vote now ∷ marks) (pick own (record { member = seat.me; report = row.vote } ∷ []))
        (pick_is seat.me n b (record { ballot = b; own = own; report = row.vote; now = now }) [] refl)))
    go false e = let h : seat.members ≡ 1 → ⊥ = eqb-false seat.members 1 e in rw e (asks (omega arith) refl)

pub start_is : (seat : Seat) (n : ℕ) (own : Option Entry) (now : ℕ) (marks : List Mark) (row : Row) → 1 ≤ seat.members → (r : Option Ballot) → next row.promised seat.me ≡ r → MatchOption (start_turn seat n own now marks row r) (r ≡ None) (λ t. StartTurn seat n own now marks row t)
start_is seat n own now marks row l None e = refl
start_is seat n own now marks row l (Some b) e = starts b e (begin_is seat n b own now row marks l)

-- due

pub greater_is : (p q : Option Ballot) → IsGreater p q (greater_ballot p q)
greater_is None None = (refl, refl)
greater_is None (Some q) = inr (refl, tt)
greater_is (Some p) None = inl (refl, tt)
greater_is (Some p) (Some q) = go (is_below p q) refl
  where
    go : (s : Bool) → is_below p q ≡ s → IsGreater (Some p) (Some q) (greater_ballot (Some p) (Some q))
    go true e = rw e (inr (refl, below_weaken p q (is_below-true p q e)))
    go false e = rw e (inl (refl, is_below-false p q e))

pub due_is : (seat : Seat) (n now : ℕ) (marks : List Mark) (row : Row) → 1 ≤ seat.members → DueTurn seat n now marks row (due_turn seat n now marks row (open_proposal n marks))
due_is seat n now marks row l = go (open_proposal n marks) refl
  where
    anew : (p : Opening) → IsDue seat.me marks now n p.ballot p.own → (s : Bool) → nat_le 32 (begun n marks) ≡ s → (r : Option Ballot) → next (greater_ballot row.promised (denied n marks)) seat.me ≡ r → DueTurn seat n now marks row (renew seat n now p marks row (if s then None else r))
    anew p d true e r f = gives_up p.ballot p.own (denied n marks) (greater_ballot row.promised (denied n marks)) d (denied_is n marks) (greater_is row.promised (denied n marks)) (inl (leb-true 32 (begun n marks) e)) refl
    anew p d false e None f = gives_up p.ballot p.own (denied n marks) (greater_ballot row.promised (denied n marks)) d (denied_is n marks) (greater_is row.promised (denied n marks)) (inr f) refl
    anew p d false e (Some b) f =
        begins_anew p.ballot p.own (denied n marks) (greater_ballot row.promised (denied n marks)) b d (denied_is n marks) (greater_is row.promised (denied n marks)) (leb-false 32 (begun n marks) e) f (begin_is seat n b p.own now row marks l)

    go : (r : Option Opening) → open_proposal n marks ≡ r → DueTurn seat n now marks row (due_turn seat n now marks row r)
    go None e = is_idle (none_due seat.me n now marks e) refl
    go (Some p) e = come (nat_le (due_moment seat.me n p (since_began n marks)) now) refl
      where
        come : (s : Bool) → nat_le (due_moment seat.me n p (since_began n marks)) now ≡ s → DueTurn seat n now marks row (due_turn seat n now marks row (Some p))
        come true f = rw f (anew p (due_as seat.me n now marks p (open_is n marks p e) f) (nat_le 32 (begun n marks)) refl (next (greater_ballot row.promised (denied n marks)) seat.me) refl)
        come false f = rw f (is_idle (not_due seat.me n now marks p e f) refl)

-- packets

pub prepare_is : (seat : Seat) (marks : List Mark) (row : Row) (p : Packet) → PrepareTurn seat marks row p (prepare_turn seat marks row p)
prepare_is seat marks row p = at row.promised
  where
    held : Option Ballot → Row
    held o = record { promised = o; vote = row.vote }

    at : (o : Option Ballot) → PrepareTurn seat marks (held o) p (prepare_turn seat marks (held o) p)
    at None = promises tt refl
    at (Some a) = go (is_below p.ballot a) refl (is_same a p.ballot) refl
      where
        go : (s : Bool) → is_below p.ballot a ≡ s → (t : Bool) → is_same a p.ballot ≡ t → PrepareTurn seat marks (held (Some a)) p (prepare_turn seat marks (held (Some a)) p)
        go true f t g = rw f (table.PrepareTurn.nacks a refl (is_below-true p.ballot a f) refl)
        go false f true g =
            let same : a ≡ p.ballot = is_same-true a p.ballot g in
            rw (f, g) (is_silent (ap Some same) (ap (λ (b : Ballot). stays (held (Some b)) marks Note_silent) (sym same)))
        go false f false g = rw (f, g) (promises (is_below-true a p.ballot (below_where a p.ballot f g)) refl)

pub accept_is : (seat : Seat) (marks : List Mark) (row : Row) (p : Packet) (entry : Entry) → AcceptTurn seat marks row p entry (accept_turn seat marks row p entry)
accept_is seat marks row p entry = at row.promised
  where
    Is : Option Ballot → Option Vote → Type 0
    Is o v = AcceptTurn seat marks (record { promised = o; vote = v }) p entry (accept_turn seat marks (record { promised = o; vote = v }) p entry)

    -- a vote
    new : (o : Option Ballot) (v : Option Vote) → IsNoneOrAtMost o p.ballot → is_above o p.ballot ≡ false → vote_is_at v p.ballot ≡ false → ((own : Entry) → ¬ (v ≡ Some (vote_for p.ballot own))) → Is o v
    new o v l above f none =
        rw (above, f) (votes (hear seat.members p.number seat.me p.ballot entry marks).release (hear seat.members p.number seat.me p.ballot entry marks).marks l none (hear_is seat.members p.number seat.me p.ballot entry marks) refl)

    voting : (o : Option Ballot) (v : Option Vote) → IsNoneOrAtMost o p.ballot → is_above o p.ballot ≡ false → Is o v
    voting o None l above = new o None l above refl (λ own h. some_none (sym h))
    voting o (Some v) l above = go (is_same v.ballot p.ballot) refl
      where
        other : is_same v.ballot p.ballot ≡ false → (own : Entry) → ¬ (Some v ≡ Some (vote_for p.ballot own))
        other f own h = false_true (sym f ∙ is_same-self v.ballot p.ballot (ap (λ (x : Vote). x.ballot) (some_same h)))
          where
            false_true : false ≡ true → ⊥
            false_true e = cc

            some_same : {A : Type 0} {x y : A} → Some x ≡ Some y → x ≡ y
            some_same e = cc

        go : (s : Bool) → is_same v.ballot p.ballot ≡ s → Is o (Some v)
        go true f =
            let same : v.ballot ≡ p.ballot = is_same-true v.ballot p.ballot f in
            rw (above, f) (votes_again v.entry (hear seat.members p.number seat.me p.ballot v.entry marks).release (hear seat.members p.number seat.me p.ballot v.entry marks).marks l
            (ap (λ (b : Ballot). Some (vote_for b v.entry)) same) (hear_is seat.members p.number seat.me p.ballot v.entry marks) refl)
        go false f = new o (Some v) l above f (other f)

    at : (o : Option Ballot) → Is o row.vote
    at None = voting None row.vote tt refl
    at (Some a) = go (is_below p.ballot a) refl
      where
        go : (s : Bool) → is_below p.ballot a ≡ s → Is (Some a) row.vote
        go true f = rw f (table.AcceptTurn.nacks a refl (is_below-true p.ballot a f) refl)
        go false f = voting (Some a) row.vote (is_below-false p.ballot a f) f

pub accepted_is : (seat : Seat) (marks : List Mark) (row : Row) (p : Packet) (entry : Entry) → AcceptedTurn seat marks row p entry (accepted_turn seat marks row p entry)
accepted_is seat marks row p entry = go (was_released p.number marks) refl
  where
    go : (s : Bool) → was_released p.number marks ≡ s → AcceptedTurn seat marks row p entry (accepted_turn seat marks row p entry)
    go true e = settles (released_is p.number marks e) (rw e refl)
    go false e =
        hears (hear seat.members p.number p.from p.ballot entry marks).release (hear seat.members p.number p.from p.ballot entry marks).marks (unreleased_is p.number marks e) (hear_is seat.members p.number p.from p.ballot entry marks) (rw e refl)

pub nack_is : (marks : List Mark) (row : Row) (p : Packet) (a : Ballot) (r : Option Opening) → proposal_at p.number p.ballot marks ≡ r → NackTurn marks row p a (nack_turn marks row p a r)
nack_is marks row p a None e = table.NackTurn.is_stale (proposal_none p.number p.ballot marks e) refl
nack_is marks row p a (Some o) e =
    let (f, g) = proposal_is p.number p.ballot marks o e in
    is_denied o.own o.report (since_began p.number marks) (subst (λ (b : Ballot). IsOpen marks p.number b o.own o.report (since_began p.number marks)) f g.is_open) refl

that_is : (r : Option Ballot) (b : Ballot) → is_at r b ≡ true → r ≡ Some b
that_is None b e = absurd (false_true e)
  where
    false_true : false ≡ true → ⊥
    false_true e = cc
that_is (Some a) b e = ap Some (is_same-true a b e)

not_that : (r : Option Ballot) (b : Ballot) → is_at r b ≡ false → ¬ (r ≡ Some b)
not_that None b e f = some_none (sym f)
not_that (Some a) b e f = false_true (sym e ∙ is_same-self a b (some_same f))
  where
    false_true : false ≡ true → ⊥
    false_true e = cc

    some_same : {A : Type 0} {x y : A} → Some x ≡ Some y → x ≡ y
    some_same e = cc

pub promise_is : (seat : Seat) (now : ℕ) (marks : List Mark) (row : Row) (p : Packet) (r : Option Vote) (o : Option Opening) → gathering_at p.number p.ballot marks ≡ o → PromiseTurn seat now marks row p r (promise_turn seat now marks row p r o)
promise_is seat now marks row p r None e = table.PromiseTurn.is_stale (gathering_none p.number p.ballot marks e) refl
promise_is seat now marks row p r (Some o) e = here (gathering_is p.number p.ballot marks o e)
  where
    since : List Mark
    since = since_began p.number marks

    more : List Mark
    more = Promised p.number p.from p.ballot r ∷ since_began p.number marks

    false_true : false ≡ true → ⊥
    false_true e = cc

    here : (o.ballot ≡ p.ballot) × Gathers marks p.number p.ballot o.own o.report (since_began p.number marks) → PromiseTurn seat now marks row p r (promise_turn seat now marks row p r (Some o))
    here (f, g) = go (is_promised row p.ballot) refl (is_counted (counted seat.me p.number o (since_began p.number marks)) p.from) refl
        (is_majority seat.members (is_counted (counted seat.me p.number o (Promised p.number p.from p.ballot r ∷ since_began p.number marks)))) refl
      where
        fresh : is_counted (counted seat.me p.number o (since_began p.number marks)) p.from ≡ false → (s : Option Vote) → ¬ IsCounted seat.me p.number p.ballot o.report (since_began p.number marks) p.from s
        fresh h s i = false_true (sym h ∙ one-is_counted seat.me p.number p.ballot o (since_began p.number marks) p.from s f i)

        go :
            (x : Bool) → is_promised row p.ballot ≡ x → (y : Bool) → is_counted (counted seat.me p.number o (since_began p.number marks)) p.from ≡ y
            → (z : Bool) → is_majority seat.members (is_counted (counted seat.me p.number o (Promised p.number p.from p.ballot r ∷ since_began p.number marks))) ≡ z
            → PromiseTurn seat now marks row p r (promise_turn seat now marks row p r (Some o))
        go false h y i z j = rw h (is_overtaken o.own o.report (since_began p.number marks) g (not_that row.promised p.ballot h) refl)
        go true h true i z j =
            let (s, k) = is_counted-one seat.me p.number p.ballot o (since_began p.number marks) p.from f i in
            rw (h, i) (is_repeated o.own o.report (since_began p.number marks) s g (that_is row.promised p.ballot h) k refl)
        go true h false i true j =
            rw (h, i, j) (completes o.own o.report (since_began p.number marks) g (that_is row.promised p.ballot h) (fresh i)
            (majority_of seat.members (is_counted (counted seat.me p.number o (Promised p.number p.from p.ballot r ∷ since_began p.number marks))) (λ k. (s : Option Vote) × IsCounted seat.me p.number p.ballot o.report (Promised p.number p.from p.ballot r ∷ since_began p.number marks) k s)
            (λ k u t. is_counted-one seat.me p.number p.ballot o (Promised p.number p.from p.ballot r ∷ since_began p.number marks) k f t) j)
            (propose_is seat p.number p.ballot now o.own o.report (Promised p.number p.from p.ballot r ∷ since_began p.number marks) row (Promised p.number p.from p.ballot r ∷ marks)
            (pick o.own (counted seat.me p.number o (Promised p.number p.from p.ballot r ∷ since_began p.number marks))) (pick_is seat.me p.number p.ballot o (Promised p.number p.from p.ballot r ∷ since_began p.number marks) f)))
        go true h false i false j =
            rw (h, i, j) (counts o.own o.report (since_began p.number marks) g (that_is row.promised p.ballot h) (fresh i)
            (no_majority_of seat.members (is_counted (counted seat.me p.number o (Promised p.number p.from p.ballot r ∷ since_began p.number marks))) (λ k. (s : Option Vote) × IsCounted seat.me p.number p.ballot o.report (Promised p.number p.from p.ballot r ∷ since_began p.number marks) k s)
            (λ k u (s, t). one-is_counted seat.me p.number p.ballot o (Promised p.number p.from p.ballot r ∷ since_began p.number marks) k s f t) j)
            refl)

-- a vote is told again

pub recall_is : (seat : Seat) (n to : ℕ) (marks : List Mark) (row : Row) → RecallTurn seat n to marks row (recall_turn seat n to marks row row.vote)
recall_is seat n to marks row = at row.vote refl
  where
    at : (o : Option Vote) → row.vote ≡ o → RecallTurn seat n to marks row (recall_turn seat n to marks row o)
    at None e = is_blank e refl
    at (Some v) e = go (to == seat.me) refl
      where
        go : (s : Bool) → (to == seat.me) ≡ s → RecallTurn seat n to marks row (recall_turn seat n to marks row (Some v))
        go true f =
            rw f (hears_again v.ballot v.entry (hear seat.members n seat.me v.ballot v.entry marks).release (hear seat.members n seat.me v.ballot v.entry marks).marks
            (eqb-true to seat.me f) e (hear_is seat.members n seat.me v.ballot v.entry marks) refl)
        go false f = rw f (tells_again v.ballot v.entry (eqb-false to seat.me f) e refl)

pub packet_is : (seat : Seat) (now : ℕ) (marks : List Mark) (row : Row) (p : Packet) (body : Body) → AnswerTurn seat now marks row p body (packet_turn seat now marks row p body)
packet_is seat now marks row p Prepare = prepare_is seat marks row p
packet_is seat now marks row p (Promise r) = promise_is seat now marks row p r (gathering_at p.number p.ballot marks) refl
packet_is seat now marks row p (Accept entry) = accept_is seat marks row p entry
packet_is seat now marks row p (Accepted entry) = accepted_is seat marks row p entry
packet_is seat now marks row p (Nack a) = nack_is marks row p a (proposal_at p.number p.ballot marks) refl

pub turns_are_of_the_table : TurnsAreOfTheTable
turns_are_of_the_table seat marks row (Offered n entry now) i = start_is seat n (Some entry) now marks row (let l : 1 ≤ seat.members = omega (arith, i.0, i.1) in l) (next row.promised seat.me) refl
turns_are_of_the_table seat marks row (Sought n now) i = start_is seat n None now marks row (let l : 1 ≤ seat.members = omega (arith, i.0, i.1) in l) (next row.promised seat.me) refl
turns_are_of_the_table seat marks row (Came_due n now) i = due_is seat n now marks row (let l : 1 ≤ seat.members = omega (arith, i.0, i.1) in l)
turns_are_of_the_table seat marks row (Arrived p now) i = packet_is seat now marks row p p.body
turns_are_of_the_table seat marks row (Recalled n to) i = recall_is seat n to marks row

-- what the function gives is a turn
pub is_turn : (seat : Seat) (marks : List Mark) (row : Row) (e : Event) (t : Turn) → IsMember seat.members seat.me → turn seat marks row e ≡ Some t → IsTurn seat marks row e t
is_turn seat marks row e t i f = subst (λ (o : Option Turn). MatchOption o (IsSpent seat.me row e) (λ u. IsTurn seat marks row e u)) f (turns_are_of_the_table seat marks row e i)
