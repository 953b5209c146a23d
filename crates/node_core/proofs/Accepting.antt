-- The acceptor's lines of the turn, from what it replies.
use Rattle.std.proofs.Common.{◌≡◌, ℕ, refl, sym, ap, subst, ◌∙◌, List, [], ◌∷◌, Option, Some, None, Bool, true, false}
use Rattle.std.specs.Prelude.{unwrap_or, option_map, MatchOption}
use Rattle.protocol.specs.Ballots.{Ballot, is_below}
use Rattle.protocol.specs.Entries.{Entry}
use Rattle.protocol.specs.Rows.{Vote, Row, vote_for, raised, voted}
use Rattle.protocol.specs.Packets.{Packet, Promise}
use Rattle.protocol.specs.Marks.{Mark}
use Rattle.protocol.specs.Acceptor.{Reply, Prepares, Accepts, Promises, Nacks, Says_nothing, Votes, Votes_again, reply_of, next_row, is_above, is_at, vote_is_at, nack_of}
use Rattle.protocol.specs.Turn as said
use Rattle.protocol.specs.Turn.{answer, prepare_turn, accept_turn, reply_turn, take_vote, hear, packet_to}
use Rattle.protocol.specs.Proposals.{was_released}
use Rattle.tape_frames.specs.Entries.{owned_entry}
use Rattle.tape_frames.specs.declared.entry.Entry.{Entry as OwnedEntry}
use Rattle.node_core.specs.declared.instance.Instance.{Instance}
use Rattle.node_core.specs.declared.turn.Turn.{Turn}
use Rattle.packets.specs.declared.letter.Letter.TheVariants as letters
use Rattle.node_core.specs.declared.turn.Note.{Note}
use Rattle.node_core.specs.declared.turn.Note.TheVariants as notes
use Rattle.node_core.specs.Handling.{IsTurnAlone, IsVote, IsVoting}
use Rattle.protocol.specs.Seats.{Seat}
use Rattle.node_core.specs.Standing.{Answers, IsLeft}
use Rattle.node_core.specs.Turns.{IsSending, IsOrderly, IsRowAfter, Stirs, is_quiet, note_value, sent}
use Rattle.packets.specs.Mails.{vote_below}
use Rattle.acceptor.specs.Said.{may_report}
use Rattle.node_core.proofs.Phases.{is_same-self}

-- a promise: the row's own is not above
pub record Promising (s : Seat) (marks : List Mark) (row : Row) (p : Packet) (r : Option Vote) : Type 0 where
  pub line : prepare_turn s marks row p ≡ answer s marks (raised row p.ballot) p (Promise row.vote) (said.Note_promised p.ballot)
  pub above : is_above row.promised p.ballot ≡ false
  pub report : row.vote ≡ r

no_promise : (o : Option Ballot) (r : Option Vote) → nack_of o ≡ Promises r → ⊥
no_promise None r e = cc
no_promise (Some a) r e = cc

pub promising : (s : Seat) (marks : List Mark) (row : Row) (p : Packet) (r : Option Vote) → reply_of row (Prepares p.ballot) ≡ Promises r → Promising s marks row p r
promising s marks row p r e = go (is_above row.promised p.ballot) refl (is_at row.promised p.ballot) refl
  where
    go : (x : Bool) → is_above row.promised p.ballot ≡ x → (y : Bool) → is_at row.promised p.ballot ≡ y → Promising s marks row p r
    go true u y w = absurd (no_promise row.promised r (rw u at e))
    go false u true w = let f : Says_nothing ≡ Promises r = rw (u, w) at e in absurd cc
    go false u false w = let f : Promises row.vote ≡ Promises r = rw (u, w) at e in record { line = rw (u, w) refl; above = u; report = cc }

-- the row after a turn
row_is : (before after : Row) (o : Option Row) → IsRowAfter before after o → unwrap_or o before ≡ after
row_is before after None h = sym h
row_is before after (Some row) h = sym h.0

-- a report that may be sent is sent whole
whole_report : (o : Option Vote) (b : Ballot) → may_report o b ≡ true → vote_below b o ≡ o
whole_report None b h = refl
whole_report (Some v) b h = let t : is_below v.ballot b ≡ true = h in rw t refl

-- what a promise sends
pub promise_sent :
    (s : Seat) (row : Row) (p : Packet) (x : Turn) (to : ℕ) (after : Option Row) → x.row ≡ after → x.mail ≡ Some (record { seat = s; number = p.number; ballot = p.ballot; letter = letters.Promise to })
    → to ≡ p.from → IsRowAfter row (raised row p.ballot) after → may_report row.vote p.ballot ≡ true → sent row x ≡ packet_to s p.number p.ballot (Promise row.vote) p.from ∷ []
promise_sent s row p x to after saves sends is h may =
    let same : unwrap_or after row ≡ raised row p.ballot = row_is row (raised row p.ballot) after h in
    let whole : vote_below p.ballot row.vote ≡ row.vote = whole_report row.vote p.ballot may in
    rw (sends, saves, is, same, whole) refl

-- a vote: it is the row after, which differs from the row before
pub record Voting (row : Row) (b : Ballot) (t : Entry) : Type 0 where
  pub row_after : next_row row (Accepts b t) ≡ voted b t
  pub changes : ¬ (next_row row (Accepts b t) ≡ row)

no_vote : (o : Option Ballot) → nack_of o ≡ Votes → ⊥
no_vote None e = cc
no_vote (Some a) e = cc

no_second : (o : Option Ballot) → nack_of o ≡ Votes_again → ⊥
no_second None e = cc
no_second (Some a) e = cc

-- a row whose vote stands has one
has_vote : (row : Row) (b : Ballot) (t : Entry) → reply_of row (Accepts b t) ≡ Votes_again → row.vote ≡ None → ⊥
has_vote row b t e none = go (is_above row.promised b) refl
  where
    go : (x : Bool) → is_above row.promised b ≡ x → ⊥
    go true u = no_second row.promised (rw u at e)
    go false u = let f : Votes ≡ Votes_again = rw (u, none) at e in cc

pub voting : (row : Row) (b : Ballot) (t : Entry) → reply_of row (Accepts b t) ≡ Votes → Voting row b t
voting row b t e = go (is_above row.promised b) refl (vote_is_at row.vote b) refl
  where
    go : (x : Bool) → is_above row.promised b ≡ x → (y : Bool) → vote_is_at row.vote b ≡ y → Voting row b t
    go true u y w = absurd (no_vote row.promised (rw u at e))
    go false u true w = let f : Votes_again ≡ Votes = rw (u, w) at e in absurd cc
    go false u false w =
        let after : next_row row (Accepts b t) ≡ voted b t = rw (u, w) refl in
        record {
          row_after = after;
          changes = λ same.
              let f : vote_is_at row.vote b ≡ true = ap (λ (r : Row). vote_is_at r.vote b) (sym same ∙ after) ∙ is_same-self b in
              let g : true ≡ false = sym f ∙ w in cc;
        }

-- where no entry is told of there is none
pub none_told : (o : Option OwnedEntry) → option_map owned_entry o ≡ None → o ≡ None
none_told None e = refl
none_told (Some x) e = absurd cc

-- a Prepare adds no mark, and releases nothing
pub prepare_adds_none : (s : Seat) (marks : List Mark) (row : Row) (p : Packet) → ((prepare_turn s marks row p).marks ≡ marks) × ((prepare_turn s marks row p).release ≡ None)
prepare_adds_none s marks row p = go (is_above row.promised p.ballot) refl (is_at row.promised p.ballot) refl
  where
    nack : (w : Row) (o : Option Ballot) → ((reply_turn s marks w p (nack_of o)).marks ≡ marks) × ((reply_turn s marks w p (nack_of o)).release ≡ None)
    nack w None = (refl, refl)
    nack w (Some a) = (refl, refl)

    go : (x : Bool) → is_above row.promised p.ballot ≡ x → (y : Bool) → is_at row.promised p.ballot ≡ y → ((prepare_turn s marks row p).marks ≡ marks) × ((prepare_turn s marks row p).release ≡ None)
    go true e y f = rw e (nack row row.promised)
    go false e true f = rw (e, f) (refl, refl)
    go false e false f = rw (e, f) (refl, refl)

module _ (s : Seat) (row : Row) (p : Packet) (entry : Entry) where
  -- the turn, by what the acceptor replies and leaves
  by_reply : (marks : List Mark) (w : Row) (r : Reply) → reply_of row (Accepts p.ballot entry) ≡ r → w ≡ next_row row (Accepts p.ballot entry) → accept_turn s marks row p entry ≡ reply_turn s marks w p r
  by_reply marks w r e f = λ i. reply_turn s marks (sym f i) p (e i)

  -- a Nack takes nothing in
  pub nacked_alone :
      (marks : List Mark) (x : Turn) (a : Ballot) → reply_of row (Accepts p.ballot entry) ≡ Nacks a → row ≡ next_row row (Accepts p.ballot entry)
      → IsSending x None (notes.Nacked a) (record { seat = s; number = p.number; ballot = p.ballot; letter = letters.Nack p.from a }) → IsTurnAlone row marks (accept_turn s marks row p entry) x
  nacked_alone marks x a reply is r = subst (λ (t : said.Turn). IsTurnAlone row marks t x) (sym (by_reply marks row (Nacks a) reply is)) (record {
    is_turn = record { row_after = rw r.row_after refl; out = rw r.out refl; release = ap (option_map owned_entry) r.release; note = rw r.noted refl };
    takes_nothing = refl;
    releases_nothing = r.release;
  })

  -- the vote of the row after is a vote for its entry
  is_voting : (x : Turn) (own : Vote) → (unwrap_or x.row row).vote ≡ Some own → IsVote s row p entry x own.entry → IsVoting s row p entry x true
  is_voting x own has v = subst (λ (o : Option Vote). MatchOption o ⊥ (λ w. IsVote s row p entry x w.entry)) (sym has) v

  -- a vote that stands
  pub again_votes :
      (x : Turn) (b : Ballot) → b ≡ p.ballot → reply_of row (Accepts p.ballot entry) ≡ Votes_again → row ≡ next_row row (Accepts p.ballot entry)
      → IsSending x None (notes.VotedAgain b) (record { seat = s; number = p.number; ballot = p.ballot; letter = letters.Vote }) → IsVoting s row p entry x true
  again_votes x b its reply is r = go row.vote refl
    where
      go : (o : Option Vote) → row.vote ≡ o → IsVoting s row p entry x true
      go None has = absurd (has_vote row p.ballot entry reply has)
      go (Some v) has = is_voting x v (ap (λ (o : Option Row). (unwrap_or o row).vote) r.row_after ∙ has) (record {
        after = row;
        line = λ marks. by_reply marks row Votes_again reply is ∙ ap (take_vote s marks row p (said.Note_voted_again p.ballot)) has ∙ rw (r.noted, its) refl;
        row_after = rw r.row_after refl;
        out = rw (r.out, r.row_after, has) refl;
        release = r.release;
      })

  -- a new vote
  pub now_votes :
      (x : Turn) (after : Row) (b : Ballot) → b ≡ p.ballot → reply_of row (Accepts p.ballot entry) ≡ Votes → after ≡ next_row row (Accepts p.ballot entry)
      → IsSending x (Some after) (notes.Voted b) (record { seat = s; number = p.number; ballot = p.ballot; letter = letters.Vote }) → IsVoting s row p entry x true
  now_votes x after b its reply is r =
      let v : Voting row p.ballot entry = voting row p.ballot entry reply in
      let votes : after.vote ≡ Some (vote_for p.ballot entry) = ap (λ (w : Row). w.vote) (is ∙ v.row_after) in
      is_voting x (vote_for p.ballot entry) (ap (λ (o : Option Row). (unwrap_or o row).vote) r.row_after ∙ votes) (record {
        after = after;
        line = λ marks. by_reply marks after Votes reply is ∙ ap (λ (w : Row). take_vote s marks after p (said.Note_voted p.ballot) w.vote) (is ∙ v.row_after) ∙ rw (r.noted, its) refl;
        row_after = rw r.row_after (refl, λ same. v.changes (sym is ∙ same));
        out = rw (r.out, r.row_after, votes) refl;
        release = r.release;
      })

  -- the turn, once the vote is heard
  pub vote_heard :
      (marks : List Mark) (x y : Turn) (voted : Entry) (d : Instance) (release : Option OwnedEntry) → IsVote s row p entry x voted
      → y.row ≡ x.row → y.mail ≡ x.mail → y.release ≡ release → y.note ≡ x.note
      → (option_map owned_entry release ≡ (hear s.members p.number s.me p.ballot voted marks).release) × IsLeft d release (hear s.members p.number s.me p.ballot voted marks).marks
      → Answers row (accept_turn s marks row p entry) y d
  vote_heard marks x y voted d release v saves sends releases noted h = rw (v.line marks) (record {
    is_turn = record { row_after = rw saves v.row_after; out = rw (saves, sends) v.out; release = ap (option_map owned_entry) releases ∙ h.0; note = ap note_value noted };
    left = rw releases h.1;
  })

  -- it is as orderly as before
  pub vote_orderly :
      (x y : Turn) (voted : Entry) → IsVote s row p entry x voted → ((marks : List Mark) → Stirs (accept_turn s marks row p entry))
      → y.row ≡ x.row → y.mail ≡ x.mail → y.note ≡ x.note → IsOrderly x → IsOrderly y
  vote_orderly x y voted v stirs saves sends noted o =
      let loud : is_quiet (note_value x.note) ≡ false = ap (λ (t : said.Turn). is_quiet t.note) (sym (v.line [])) ∙ stirs [] in
      record { promised = rw saves o.promised; few = rw sends o.few; quiet = λ q. (let bad : true ≡ false = sym q ∙ ap (λ (n : Note). is_quiet (note_value n)) noted ∙ loud in absurd cc) }

  -- of a number that was released it is not heard
  vote_alone : (marks : List Mark) (x : Turn) (voted : Entry) → IsVote s row p entry x voted → was_released p.number marks ≡ true → IsTurnAlone row marks (accept_turn s marks row p entry) x
  vote_alone marks x voted v r = rw (v.line marks, r) (record {
    is_turn = record { row_after = v.row_after; out = v.out; release = ap (option_map owned_entry) v.release; note = refl };
    takes_nothing = refl;
    releases_nothing = v.release;
  })

  pub voting_alone : (marks : List Mark) (x : Turn) (votes : Bool) → IsVoting s row p entry x votes → was_released p.number marks ≡ true → IsTurnAlone row marks (accept_turn s marks row p entry) x
  voting_alone marks x false h r = h marks
  voting_alone marks x true h r = alone (unwrap_or x.row row).vote h
    where
      alone : (o : Option Vote) → MatchOption o ⊥ (λ own. IsVote s row p entry x own.entry) → IsTurnAlone row marks (accept_turn s marks row p entry) x
      alone None h = absurd h
      alone (Some own) h = vote_alone marks x own.entry h r

  -- which entry is heard
  pub vote_told : (x : Turn) (votes : Bool) (own : Vote) (heard : Entry) → votes ≡ true → (unwrap_or x.row row).vote ≡ Some own → heard ≡ own.entry → IsVoting s row p entry x votes → IsVote s row p entry x heard
  vote_told x votes own heard is has same v =
      let voting : IsVoting s row p entry x true = subst (IsVoting s row p entry x) is v in
      subst (IsVote s row p entry x) (sym same) (subst (λ (o : Option Vote). MatchOption o ⊥ (λ w. IsVote s row p entry x w.entry)) has voting)

  -- the row after a vote has one
  pub vote_there : (x : Turn) (votes : Bool) → votes ≡ true → (unwrap_or x.row row).vote ≡ None → IsVoting s row p entry x votes → ⊥
  vote_there x votes is none v =
      let voting : IsVoting s row p entry x true = subst (IsVoting s row p entry x) is v in
      subst (λ (o : Option Vote). MatchOption o ⊥ (λ w. IsVote s row p entry x w.entry)) none voting
