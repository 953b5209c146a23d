-- What a proposal has in hand, as one value, and the marks that it stands for.
use Rattle.std.specs.Prelude.{◌≡◌, ℕ, List, [], ◌∷◌, Option, Some, Bool, true, false, ◌==◌, ◌&&◌, not, IsTrue, map, find, nat_le, option_map, option_and_then}
use Rattle.std.specs.List.{list_all}
use Rattle.protocol.specs.Lists.{has}
use Rattle.protocol.specs.Ballots.{Ballot, members}
use Rattle.protocol.specs.Entries.{Entry}
use Rattle.protocol.specs.Rows.{Vote}
use Rattle.protocol.specs.Marks.{Mark, Began, Promised, Proposed, Denied, Heard, Closed, Released, proposes}
use Rattle.protocol.specs.Proposals.{Opening, Counted, is_counted, open_proposal, since_began, counted, denied, begun, moved}

-- a proposal in hand: whose it is, of how many members, its ballot and own entry;
-- of each member, in rising order, whether it is counted and what it then reported; whether promises are still gathered;
-- the greatest Nack, how many ballots were begun, and when it last moved, in milliseconds
pub record InHand : Type 0 where
  pub me : ℕ
  pub members : ℕ
  pub ballot : Ballot
  pub own : Option Entry
  pub reports : List (Option (Option Vote))
  pub gathers : Bool
  pub denied : Option Ballot
  pub begun : ℕ
  pub moved : ℕ

-- the report of the member, where it is counted
abbrev pub report_in : List Counted → ℕ → Option (Option Vote)
report_in all m = option_map (λ (x : Counted). x.report) (find (λ (x : Counted). x.member == m) all)

-- the vote that the member reported, where it is counted and reported one
abbrev pub vote_in : List Counted → ℕ → Option Vote
vote_in all m = option_and_then (λ (x : Counted). x.report) (find (λ (x : Counted). x.member == m) all)

-- the report of each of the c members that is counted
abbrev pub reports_of : ℕ → List Counted → List (Option (Option Vote))
reports_of c all = map (report_in all) (members c)

-- each of the counted is a member of a circuit of c
abbrev pub are_members : ℕ → List Counted → Bool
are_members c all = list_all (λ (x : Counted). nat_le 1 x.member && nat_le x.member c) all

-- none is counted twice
abbrev pub none_twice : List Counted → Bool
none_twice [] = true
none_twice (x ∷ xs) = not (is_counted xs x.member) && none_twice xs

-- it is the open proposal of n that is read from the marks, its counted are members, and none is counted twice
pub record StandsFor (q : InHand) (n : ℕ) (marks : List Mark) : Type 0 where
  pub opening : Opening
  pub is_open : open_proposal n marks ≡ Some opening
  pub its_ballot : q.ballot ≡ opening.ballot
  pub its_own : q.own ≡ opening.own
  pub its_reports : q.reports ≡ reports_of q.members (counted q.me n opening (since_began n marks))
  pub its_phase : q.gathers ≡ not (has (proposes n opening.ballot) (since_began n marks))
  pub its_denials : q.denied ≡ denied n marks
  pub its_ballots : q.begun ≡ begun n marks
  pub its_moment : q.moved ≡ moved n opening (since_began n marks)
  pub in_range : IsTrue (are_members q.members (counted q.me n opening (since_began n marks)))
  pub once : IsTrue (none_twice (counted q.me n opening (since_began n marks)))

-- the same member's proposal in the same circuit
pub record IsOfTheSame (old new : InHand) : Type 0 where
  pub me : new.me ≡ old.me
  pub members : new.members ≡ old.members

-- the mark is about n's proposal
abbrev pub concerns : ℕ → Mark → Bool
concerns n (Began k b own report now) = k == n
concerns n (Promised k m b report) = k == n
concerns n (Proposed k b now) = k == n
concerns n (Denied k b) = k == n
concerns n (Heard k m b t) = false
concerns n (Closed k) = k == n
concerns n (Released k t) = k == n

-- a proposal goes on to stand for the marks, whatever mark comes that isn't about it
abbrev pub OtherMarksPass : Type 0
OtherMarksPass =
    (q : InHand) (n : ℕ) (mark : Mark) (marks : List Mark)
    → concerns n mark ≡ false → StandsFor q n marks → StandsFor q n (mark ∷ marks)
