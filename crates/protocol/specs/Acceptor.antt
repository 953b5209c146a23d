-- An acceptor, read from the whole list of its requests, the first of them first.
-- Lamport, phases 1 and 2: it promises to accept nothing below a ballot that it answered,
-- and accepts unless it has promised above.
use Rattle.std.specs.Prelude.{◌≡◌, List, [], ◌∷◌, ◌++◌, Bool, false, Option, Some, None, if◌then◌else◌}
use Rattle.std.specs.List.{list_any}
use Rattle.protocol.specs.Ballots.{Ballot, is_below, is_same}
use Rattle.protocol.specs.Entries.{Entry}
use Rattle.protocol.specs.Rows.{Vote, vote_for, Row, raised, voted}

-- what an acceptor is asked
pub data Request : Type 0 where
  Prepares : (ballot : Ballot) → Request
  Accepts : (ballot : Ballot) → (entry : Entry) → Request

-- what it answers
pub data Reply : Type 0 where
  Promises : (report : Option Vote) → Reply
  Nacks : (promised : Ballot) → Reply
  Says_nothing Votes Votes_again : Reply

-- the ballot of a request
abbrev pub ballot_of : Request → Ballot
ballot_of (Prepares b) = b
ballot_of (Accepts b t) = b

-- the greater of a ballot, if there is one, and another
abbrev pub higher : Option Ballot → Ballot → Option Ballot
higher None b = Some b
higher (Some a) b = Some (if is_below a b then b else a)

-- the greatest of a ballot and those of the requests
abbrev pub greatest_from : Option Ballot → List Request → Option Ballot
greatest_from most [] = most
greatest_from most (r ∷ rs) = greatest_from (higher most (ballot_of r)) rs

-- the greatest ballot of the requests
abbrev pub greatest_ballot : List Request → Option Ballot
greatest_ballot rs = greatest_from None rs

-- some request has a greater ballot
abbrev pub has_above : Ballot → List Request → Bool
has_above b rs = list_any (λ r. is_below b (ballot_of r)) rs

-- the accepts among the requests, behind those before, that no earlier request was above
abbrev pub votes_after : List Request → List Request → List Vote
votes_after before [] = []
votes_after before (Prepares b ∷ rs) = votes_after (before ++ Prepares b ∷ []) rs
votes_after before (Accepts b t ∷ rs) =
    if has_above b before
    then votes_after (before ++ Accepts b t ∷ []) rs
    else vote_for b t ∷ votes_after (before ++ Accepts b t ∷ []) rs

-- the votes of an acceptor: the accepts before which no request has a greater ballot
abbrev pub votes_of : List Request → List Vote
votes_of rs = votes_after [] rs

-- the vote of greater ballot, the first where equal
abbrev pub later : Option Vote → Vote → Option Vote
later None v = Some v
later (Some w) v = Some (if is_below w.ballot v.ballot then v else w)

-- the vote of greatest ballot of a vote, if there is one, and those of the list
abbrev pub greatest_vote_from : Option Vote → List Vote → Option Vote
greatest_vote_from most [] = most
greatest_vote_from most (v ∷ vs) = greatest_vote_from (later most v) vs

-- the vote of greatest ballot, the first where equal
abbrev pub greatest_vote : List Vote → Option Vote
greatest_vote vs = greatest_vote_from None vs

-- the row after these requests
abbrev pub row_after : List Request → Row
row_after rs = record { promised = greatest_ballot rs; vote = greatest_vote (votes_of rs) }

-- there is a ballot, and it is above b
abbrev pub is_above : Option Ballot → Ballot → Bool
is_above None b = false
is_above (Some p) b = is_below b p

-- there is a ballot, and it is b
abbrev pub is_at : Option Ballot → Ballot → Bool
is_at None b = false
is_at (Some p) b = is_same p b

-- there is a vote, and its ballot is b
abbrev pub vote_is_at : Option Vote → Ballot → Bool
vote_is_at None b = false
vote_is_at (Some v) b = is_same v.ballot b

-- some vote has the ballot b
abbrev pub has_vote_at : Ballot → List Vote → Bool
has_vote_at b vs = list_any (λ v. is_same v.ballot b) vs

-- the Nack that carries a promise
abbrev pub nack_of : Option Ballot → Reply
nack_of None = Says_nothing
nack_of (Some p) = Nacks p

-- the reply to a request behind those before it
abbrev pub reply_after : List Request → Request → Reply
reply_after before (Prepares b) =
    if is_above (greatest_ballot before) b then nack_of (greatest_ballot before) else
    if is_at (greatest_ballot before) b then Says_nothing else Promises (greatest_vote (votes_of before))
reply_after before (Accepts b t) =
    if is_above (greatest_ballot before) b then nack_of (greatest_ballot before) else
    if has_vote_at b (votes_of before) then Votes_again else Votes

-- the replies to requests behind those before them
abbrev pub replies_after : List Request → List Request → List Reply
replies_after before [] = []
replies_after before (r ∷ rs) = reply_after before r ∷ replies_after (before ++ r ∷ []) rs

-- the replies to the requests, each behind those before it
abbrev pub replies_to : List Request → List Reply
replies_to rs = replies_after [] rs

-- the reply to a request, as a function of the row
abbrev pub reply_of : Row → Request → Reply
reply_of row (Prepares b) =
    if is_above row.promised b then nack_of row.promised else
    if is_at row.promised b then Says_nothing else Promises row.vote
reply_of row (Accepts b t) =
    if is_above row.promised b then nack_of row.promised else
    if vote_is_at row.vote b then Votes_again else Votes

-- the row after a request, as a function of the row before
abbrev pub next_row : Row → Request → Row
next_row row (Prepares b) = if is_above row.promised b then row else raised row b
next_row row (Accepts b t) =
    if is_above row.promised b then row else
    if vote_is_at row.vote b then row else voted b t

-- one step of a row is what the whole list says: of the row and of the reply
abbrev pub StepsAreOfTheWhole : Type 0
StepsAreOfTheWhole =
    (before : List Request) (r : Request)
    → (next_row (row_after before) r ≡ row_after (before ++ r ∷ [])) × (reply_of (row_after before) r ≡ reply_after before r)
