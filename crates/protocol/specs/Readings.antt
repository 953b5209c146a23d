-- What is read from marks, said as facts: a mark stands where the list splits at it, and the marks in front of it came after it.
use Rattle.std.specs.Prelude.{◌≡◌, ℕ, ◌+◌, ◌*◌, ◌-◌, ◌^◌, ◌≤◌, ◌⊎◌, min, List, ◌∷◌, ◌++◌, Option, Some, None, MatchOption}
use Rattle.protocol.specs.Lists.{IsAmong}
use Rattle.protocol.specs.Ballots.{Ballot, IsBelow, IsAtMost, IsMember, Majority}
use Rattle.protocol.specs.Entries.{Entry}
use Rattle.protocol.specs.Rows.{Vote}
use Rattle.protocol.specs.Marks.{Mark, Began, Promised, Proposed, Denied, Heard, Closed, Released}
use Rattle.protocol.specs.Proposals.{since_first, next_due}

-- n was released
abbrev pub IsReleased : List Mark → ℕ → Type 0
IsReleased marks n = (t : Entry) × IsAmong marks (Released n t)

-- n is open: since its last Began, at b, with this own entry and this report, it was not closed, and it was never released
pub record IsOpen (marks : List Mark) (n : ℕ) (b : Ballot) (own : Option Entry) (report : Option Vote) (since : List Mark) : Type 0 where
  pub now : ℕ
  pub before : List Mark
  pub began : marks ≡ since ++ Began n b own report now ∷ before
  pub is_last : (a : Ballot) (o : Option Entry) (r : Option Vote) (i : ℕ) → ¬ IsAmong since (Began n a o r i)
  pub is_unclosed : ¬ IsAmong since (Closed n)
  pub is_unreleased : ¬ IsReleased marks n

-- it is open and has not been proposed
pub record Gathers (marks : List Mark) (n : ℕ) (b : Ballot) (own : Option Entry) (report : Option Vote) (since : List Mark) : Type 0 where
  pub is_open : IsOpen marks n b own report since
  pub unproposed : (i : ℕ) → ¬ IsAmong since (Proposed n b i)

-- member k is counted with report r: the own one with the report that it began with, another by its promise
abbrev pub IsCounted : ℕ → ℕ → Ballot → Option Vote → List Mark → ℕ → Option Vote → Type 0
IsCounted me n b report since k r = ((k ≡ me) × (r ≡ report)) ⊎ IsAmong since (Promised n k b r)

-- the entry to propose: that of the counted report of greatest ballot (least member where equal), else the own entry
pub data Picks (me n : ℕ) (b : Ballot) (own : Option Entry) (report : Option Vote) (since : List Mark) (pick : Option Entry) : Type 0 where
  the_reported :
      (k : ℕ) (v : Vote) → IsCounted me n b report since k (Some v)
      → ((j : ℕ) (u : Vote) → IsCounted me n b report since j (Some u) → IsBelow u.ballot v.ballot ⊎ ((u.ballot ≡ v.ballot) × (k ≤ j)))
      → pick ≡ Some v.entry → Picks me n b own report since pick
  the_own :
      ((j : ℕ) (u : Vote) → ¬ IsCounted me n b report since j (Some u))
      → pick ≡ own → Picks me n b own report since pick

-- of the votes of m for n that were heard, the one of greatest ballot, the first where equal
pub record Latest (marks : List Mark) (n m : ℕ) (b : Ballot) (t : Entry) : Type 0 where
  pub after : List Mark
  pub before : List Mark
  pub heard : marks ≡ after ++ Heard n m b t ∷ before
  pub above_before : (a : Ballot) (u : Entry) → IsAmong before (Heard n m a u) → IsBelow a b
  pub above_after : (a : Ballot) (u : Entry) → IsAmong after (Heard n m a u) → IsAtMost a b

-- the members whose latest vote has ballot b are a majority, and t is the entry of the least of them
pub record Ripe (c : ℕ) (marks : List Mark) (n : ℕ) (b : Ballot) (t : Entry) : Type 0 where
  pub many : Majority c (λ m. (u : Entry) × Latest marks n m b u)
  pub least : ℕ
  pub is_member : IsMember c least
  pub is_latest : Latest marks n least b t
  pub is_least : (m : ℕ) (u : Entry) → IsMember c m → Latest marks n m b u → least ≤ m

-- the greatest promise that denied n, after the first Began since it was last closed or released
pub data GreatestDenied (marks : List Mark) (n : ℕ) (greatest : Option Ballot) : Type 0 where
  undenied : ((p : Ballot) → ¬ IsAmong (since_first n marks) (Denied n p)) → greatest ≡ None → GreatestDenied marks n greatest
  denied_by :
      (p : Ballot) → IsAmong (since_first n marks) (Denied n p)
      → ((q : Ballot) → IsAmong (since_first n marks) (Denied n q) → IsAtMost q p)
      → greatest ≡ Some p → GreatestDenied marks n greatest

-- the moment of the last Began or Proposed of the open proposal
pub data LastMoved (n : ℕ) (b : Ballot) (since : List Mark) (began moment : ℕ) : Type 0 where
  at_begin : ((i : ℕ) → ¬ IsAmong since (Proposed n b i)) → moment ≡ began → LastMoved n b since began moment
  at_propose :
      (after before : List Mark) → since ≡ after ++ Proposed n b moment ∷ before → ((i : ℕ) → ¬ IsAmong after (Proposed n b i))
      → LastMoved n b since began moment

-- n is open at b with this own entry, and due at the moment now
pub record IsDue (me : ℕ) (marks : List Mark) (now : ℕ) (n : ℕ) (b : Ballot) (own : Option Entry) : Type 0 where
  pub report : Option Vote
  pub since : List Mark
  pub is_open : IsOpen marks n b own report since
  pub moment : ℕ
  pub moved : LastMoved n b since is_open.now moment
  pub has_come : min (moment + 250 + 40 * me) (2 ^ 64 - 1) ≤ now

-- no number is due at the moment now
abbrev pub NoneIsDue : ℕ → List Mark → ℕ → Type 0
NoneIsDue me marks now = (n : ℕ) (b : Ballot) (own : Option Entry) → ¬ IsDue me marks now n b own

-- n is the least number that is due at the moment now
pub record IsLeastDue (me : ℕ) (marks : List Mark) (now n : ℕ) : Type 0 where
  pub ballot : Ballot
  pub own : Option Entry
  pub is_due : IsDue me marks now n ballot own
  pub is_least : (j : ℕ) (b : Ballot) (o : Option Entry) → IsDue me marks now j b o → n ≤ j

-- the next number that is due is the least, and there is none only where none is due
abbrev pub NextDueIsLeast : Type 0
NextDueIsLeast = (me now : ℕ) (marks : List Mark) → MatchOption (next_due me now marks) (NoneIsDue me marks now) (λ n. IsLeastDue me marks now n)
