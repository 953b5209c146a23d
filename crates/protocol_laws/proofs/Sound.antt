-- What holds in every reached world, of the votes that were ever taken.
use Rattle.std.proofs.Common.{◌≡◌, ℕ, ◌⊎◌, List, ◌∷◌, ◌++◌, Option, Some}
use Rattle.protocol.specs.Ballots.{Ballot, IsBelow, IsAtMost, Majority}
use Rattle.protocol.specs.Entries.{Entry}
use Rattle.protocol.specs.Rows.{Vote, Row}
use Rattle.protocol.specs.Packets.{Packet, Body, Prepare, Promise, Accept, Accepted, Nack}
use Rattle.protocol.specs.Marks.{Mark, Began, Promised, Proposed, Denied, Heard, Closed, Released}
use Rattle.protocol.specs.Lists.{IsAmong}
use Rattle.protocol.specs.Circuit.{Offer}

-- the votes that were ever taken: member, number, ballot and entry
abbrev pub Votes : Type 1
Votes = ℕ → ℕ → Ballot → Entry → Type 0

-- the entries that were ever released: number and entry
abbrev pub Releases : Type 1
Releases = ℕ → Entry → Type 0

abbrev pub Rows : Type 0
Rows = ℕ → ℕ → Row

abbrev pub NoVote : Votes → ℕ → ℕ → Ballot → Type 0
NoVote V m n b = (t : Entry) → ¬ V m n b t

-- the row is promised at b or above
pub record IsPromisedTo (row : Row) (b : Ballot) : Type 0 where
  pub at : Ballot
  pub is : row.promised ≡ Some at
  pub reaches : IsAtMost b at

pub record IsPromisedAbove (row : Row) (b : Ballot) : Type 0 where
  pub at : Ballot
  pub is : row.promised ≡ Some at
  pub passes : IsBelow b at

-- after a promise at b, with this report: m takes no vote below b, and the report was its greatest vote
pub record PromiseHolds (V : Votes) (rows : Rows) (m n : ℕ) (b : Ballot) (report : Option Vote) : Type 0 where
  pub promised : IsPromisedTo (rows m n) b
  pub reported : (v : Vote) → report ≡ Some v → V m n v.ballot v.entry × IsBelow v.ballot b
  pub greatest : (a : Ballot) (t : Entry) → V m n a t → IsBelow a b → (v : Vote) × (report ≡ Some v) × IsAtMost a v.ballot

-- m voted at a for t, or did not vote there and is promised above it
abbrev pub Backs : Votes → Rows → ℕ → Ballot → Entry → ℕ → Type 0
Backs V rows n a t m = V m n a t ⊎ NoVote V m n a × IsPromisedAbove (rows m n) a

pub record IsSafe (c : ℕ) (V : Votes) (rows : Rows) (n : ℕ) (b : Ballot) (t : Entry) : Type 0 where
  pub backed : (a : Ballot) → IsBelow a b → Majority c (Backs V rows n a t)

abbrev pub IsOffered : List Offer → ℕ → Entry → Type 0
IsOffered offers n t = (k : ℕ) × IsAmong offers (record { member = k; number = n; entry = t })

abbrev pub BodyHolds : Votes → Rows → ℕ → ℕ → Ballot → Body → Type 0
BodyHolds V rows from n b Prepare = Unit {0}
BodyHolds V rows from n b (Promise report) = PromiseHolds V rows from n b report
BodyHolds V rows from n b (Accept t) = V b.owner n b t
BodyHolds V rows from n b (Accepted t) = V from n b t
BodyHolds V rows from n b (Nack p) = Unit {0}

abbrev pub PacketHolds : Votes → Rows → Packet → Type 0
PacketHolds V rows p = BodyHolds V rows p.from p.number p.ballot p.body

abbrev pub MarkHolds : Votes → Rows → List Offer → ℕ → Mark → Type 0
MarkHolds V rows offers m (Began n b own report now) =
    (b.owner ≡ m) × PromiseHolds V rows m n b report × ((t : Entry) → own ≡ Some t → IsOffered offers n t)
MarkHolds V rows offers m (Promised n k b report) = PromiseHolds V rows k n b report
MarkHolds V rows offers m (Heard n k b t) = V k n b t
MarkHolds V rows offers m (Proposed n b now) = Unit {0}
MarkHolds V rows offers m (Denied n p) = Unit {0}
MarkHolds V rows offers m (Closed n) = Unit {0}
MarkHolds V rows offers m (Released n t) = Unit {0}

abbrev pub NotProposed : List Mark → ℕ → Ballot → Type 0
NotProposed since n b = (i : ℕ) → ¬ IsAmong since (Proposed n b i)

-- m has no vote at a ballot that it began and did not yet propose
pub record Unvoted (V : Votes) (m : ℕ) (ms : List Mark) : Type 0 where
  pub unvoted :
      (n : ℕ) (b : Ballot) (own : Option Entry) (report : Option Vote) (now : ℕ) (since before : List Mark)
      → ms ≡ since ++ Began n b own report now ∷ before → NotProposed since n b → NoVote V m n b

pub record Sound (c : ℕ) (V : Votes) (rows : Rows) (marks : ℕ → List Mark) (sent : List Packet) (offers : List Offer) (releases : Releases) : Type 0 where
  -- a row's vote was taken, and its promise is not below it
  pub kept : (m n : ℕ) (v : Vote) → (rows m n).vote ≡ Some v → V m n v.ballot v.entry
  pub valid : (m n : ℕ) (v : Vote) → (rows m n).vote ≡ Some v → IsPromisedTo (rows m n) v.ballot
  -- the row has the last vote, which is the greatest
  pub last : (m n : ℕ) (b : Ballot) (t : Entry) → V m n b t → (v : Vote) × ((rows m n).vote ≡ Some v) × IsAtMost b v.ballot
  -- one entry for a ballot: each member has one, and that is its owner's
  pub one : (m n : ℕ) (b : Ballot) (t u : Entry) → V m n b t → V m n b u → t ≡ u
  pub owned : (m n : ℕ) (b : Ballot) (t : Entry) → V m n b t → V b.owner n b t
  pub safe : (m n : ℕ) (b : Ballot) (t : Entry) → V m n b t → IsSafe c V rows n b t
  pub offered : (m n : ℕ) (b : Ballot) (t : Entry) → V m n b t → IsOffered offers n t
  pub packets : (p : Packet) → IsAmong sent p → PacketHolds V rows p
  pub marked : (m : ℕ) (x : Mark) → IsAmong (marks m) x → MarkHolds V rows offers m x
  pub gathering : (m : ℕ) → Unvoted V m (marks m)
  pub chosen : (n : ℕ) (t : Entry) → releases n t → (b : Ballot) × Majority c (λ m. V m n b t)
