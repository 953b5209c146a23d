-- The latest votes of the members of a circuit, as one value, and the marks that they stand for.
use Rattle.std.specs.Prelude.{◌≡◌, ℕ, List, ◌∷◌, Option, Some, Result, IsOk, Bool, false, ◌==◌, map, option_map, filter_map, find}
use Rattle.protocol.specs.Ballots.{Ballot, is_below, is_same, is_majority, members}
use Rattle.protocol.specs.Entries.{Entry}
use Rattle.protocol.specs.Rows.{Vote}
use Rattle.protocol.specs.Marks.{Mark, Heard}
use Rattle.protocol.specs.Learner.{latest, ripe, votes_at}

-- how many members a circuit has, and the latest vote of each, in rising order of members
pub record LatestVotes : Type 0 where
  pub members : ℕ
  pub votes : List (Option Vote)

-- the latest votes for n, in a circuit of c
abbrev pub latest_votes : ℕ → ℕ → List Mark → LatestVotes
latest_votes c n marks = record { members = c; votes = map (latest n marks) (members c) }

-- the votes are the latest for n that these marks hear
abbrev pub StandsFor : LatestVotes → ℕ → List Mark → Type 0
StandsFor heard n marks = heard ≡ latest_votes heard.members n marks

-- where each member's latest vote is given: the least member's vote at whose ballot a majority's stand
abbrev pub ripe_of : ℕ → (ℕ → Option Vote) → Option Vote
ripe_of c latest = find (λ (v : Vote). is_majority c (λ m. votes_at v.ballot (latest m))) (filter_map latest (members c))

-- the vote of the least member whose vote has ballot b
abbrev pub least_at : ℕ → Ballot → (ℕ → Option Vote) → Option Vote
least_at c b latest = find (λ (v : Vote). is_same v.ballot b) (filter_map latest (members c))

-- the mark hears a vote for n
abbrev pub hears : ℕ → Mark → Bool
hears n (Heard k m b t) = k == n
hears n _ = false

-- heard votes go on to stand for the marks, whatever mark comes that hears no vote for n
abbrev pub OtherMarksPass : Type 0
OtherMarksPass =
    (heard : LatestVotes) (n : ℕ) (mark : Mark) (marks : List Mark)
    → hears n mark ≡ false → StandsFor heard n marks → StandsFor heard n (mark ∷ marks)

-- once this vote of a member is heard too, they stand for the marks with it
abbrev pub StandsAfterVote : ℕ → Ballot → Entry → LatestVotes → LatestVotes → Type 0
StandsAfterVote member b t old new =
    (n : ℕ) (marks : List Mark) → StandsFor old n marks → StandsFor new n (Heard n member b t ∷ marks)

-- it is the ballot of the vote that is ripe then, if one is
abbrev pub TellsRipeBallot : Option Ballot → ℕ → Ballot → Entry → LatestVotes → Type 0
TellsRipeBallot chosen member b t heard =
    (n : ℕ) (marks : List Mark) → StandsFor heard n marks
    → chosen ≡ option_map (λ (v : Vote). v.ballot) (ripe heard.members n (Heard n member b t ∷ marks))

-- a vote of a member at b that is not above its latest is heard without fail
abbrev pub IsOkWhereNotAbove : {A E : Type 0} → Result A E → ℕ → Ballot → LatestVotes → Type 0
IsOkWhereNotAbove result member b heard =
    (n : ℕ) (marks : List Mark) (v : Vote) → StandsFor heard n marks → latest n marks member ≡ Some v
    → is_below v.ballot b ≡ false → IsOk result

-- the entry is that of the least member whose latest vote for n is at b, if there is one
abbrev pub IsLeastEntry : Option Entry → Ballot → LatestVotes → Type 0
IsLeastEntry entry b heard =
    (n : ℕ) (marks : List Mark) → StandsFor heard n marks
    → entry ≡ option_map (λ (v : Vote). v.entry) (least_at heard.members b (latest n marks))

-- where a vote for n is ripe at b, the entry is its entry
abbrev pub IsRipeEntry : Option Entry → Ballot → LatestVotes → Type 0
IsRipeEntry entry b heard =
    (n : ℕ) (marks : List Mark) (v : Vote) → StandsFor heard n marks → ripe heard.members n marks ≡ Some v
    → b ≡ v.ballot → entry ≡ Some v.entry
