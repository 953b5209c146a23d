-- What a core keeps, as one value, and the marks that it stands for.
use Rattle.std.specs.Prelude.{◌≡◌, ◌⊎◌, ℕ, List, [], ◌∷◌, ◌++◌, Option, Some, None, Bool, false, true, is_some, if◌then◌else◌, ◌≤◌}
use Rattle.std.specs.Ordering.{nat_cmp}
use Rattle.std.specs.BTreeMap.{is_at}
use Rattle.std.specs.Map.{lookup}
use Rattle.std.specs.List.{list_any}
use Rattle.protocol.specs.Marks.{Mark, Began, Promised, Proposed, Denied, Heard, Closed, Released}
use Rattle.protocol.specs.Proposals.{was_released, open_proposal}
use Rattle.learner.specs.Latest.{latest_votes, StandsFor as VotesStandFor}
use Rattle.proposer.specs.InHand.{InHand, StandsFor as ProposalStandsFor}
use Rattle.protocol.specs.Rows.{Row}
use Rattle.protocol.specs.Turn as said
use Rattle.tape_frames.specs.declared.entry.Entry.{Entry}
use Rattle.node_core.specs.declared.instance.Instance.{Instance}
use Rattle.node_core.specs.declared.turn.Turn.{Turn}
use Rattle.protocol.specs.Seats.{Seat}
use Rattle.node_core.specs.Turns.{IsTurn}

-- a core: its circuit's number, which member it is, of how many, whether memory was refused to it,
-- by number what it has in hand, and the numbers that it released, both in order
pub record Core : Type 0 where
  pub circuit : ℕ
  pub me : ℕ
  pub members : ℕ
  pub failed : Bool
  pub instances : List (ℕ × Instance)
  pub released : List ℕ

-- the proposal in hand, if any, is the open one that is read from the marks
abbrev pub ProposalStands : Option InHand → ℕ → List Mark → Type 0
ProposalStands None n marks = open_proposal n marks ≡ None
ProposalStands (Some p) n marks = ProposalStandsFor p n marks

-- what is in hand of a number that was not released is its open proposal and its latest votes
pub record InstanceStands (d : Instance) (marks : List Mark) : Type 0 where
  pub unreleased : was_released d.number marks ≡ false
  pub proposal : ProposalStands d.proposal d.number marks
  pub heard : VotesStandFor d.heard d.number marks

-- an instance where nothing is in hand
abbrev pub fresh : ℕ → ℕ → Instance
fresh c n = record { number = n; proposal = None; heard = latest_votes c n [] }

-- nothing is in hand of the instance's number
abbrev pub IsFresh : Instance → Type 0
IsFresh d = d ≡ fresh d.heard.members d.number

-- what is in hand of n among these, if anything is
abbrev pub instance_in : List (ℕ × Instance) → ℕ → Option Instance
instance_in instances n = lookup (is_at (nat_cmp n)) instances

-- what the core has in hand of n, if anything
abbrev pub instance_at : Core → ℕ → Option Instance
instance_at v n = instance_in v.instances n

-- whether the core has noted n as released
abbrev pub is_noted : Core → ℕ → Bool
is_noted v n = list_any (is_at (nat_cmp n)) v.released

-- what is in hand of n is read from the marks; where nothing is, either n was released or nothing was taken in of it
abbrev pub InHandStands : ℕ → ℕ → Option Instance → List Mark → Type 0
InHandStands c n None marks = was_released n marks ≡ false → InstanceStands (fresh c n) marks
InHandStands c n (Some d) marks = (d.number ≡ n) × InstanceStands d marks

-- no memory was refused to the core, its released numbers are those of the marks,
-- and of each other number it has in hand what is read from the marks
pub record StandsFor (v : Core) (marks : List Mark) : Type 0 where
  pub unfailed : v.failed ≡ false
  pub released : (n : ℕ) → is_noted v n ≡ was_released n marks
  pub in_hand : (n : ℕ) → InHandStands v.members n (instance_at v n) marks

-- it is so of whatever marks the core stands for
abbrev pub OfItsMarks : Core → (List Mark → Type 0) → Type 0
OfItsMarks v is = (marks : List Mark) → StandsFor v marks → is marks

-- where the core sits
abbrev pub seat_of : Core → Seat
seat_of v = record { circuit = v.circuit; me = v.me; members = v.members }

-- the proposal in hand is this seat's
abbrev pub IsProposalOf : Seat → Option InHand → Type 0
IsProposalOf s None = Unit {0}
IsProposalOf s (Some p) = (p.me ≡ s.me) × (p.members ≡ s.members)

-- the instance is this seat's
pub record IsInstanceOf (s : Seat) (d : Instance) : Type 0 where
  pub proposal : IsProposalOf s d.proposal
  pub heard : d.heard.members ≡ s.members

-- all that is in hand is this seat's, each instance under its own number
abbrev pub AreInstancesOf : Seat → List (ℕ × Instance) → Type 0
AreInstancesOf s instances = (n : ℕ) (d : Instance) → instance_in instances n ≡ Some d → IsInstanceOf s d × (d.number ≡ n)

-- what is left in hand where this entry is released, or none is
abbrev pub IsLeft : Instance → Option Entry → List Mark → Type 0
IsLeft d None marks = InstanceStands d marks
IsLeft d (Some t) marks = was_released d.number marks ≡ true

-- the code's turn is the turn t of the definitions, from this row, and what is left in hand stands for the marks after it
pub record Answers (row : Row) (t : said.Turn) (x : Turn) (d : Instance) : Type 0 where
  pub is_turn : IsTurn row t x
  pub left : IsLeft d x.release t.marks

-- the number that the mark is about
abbrev pub marked_number : Mark → ℕ
marked_number (Began k b own report now) = k
marked_number (Promised k m b report) = k
marked_number (Proposed k b now) = k
marked_number (Denied k b) = k
marked_number (Heard k m b t) = k
marked_number (Closed k) = k
marked_number (Released k t) = k

-- all the marks are about n
abbrev pub AreAbout : ℕ → List Mark → Type 0
AreAbout n [] = Unit {0}
AreAbout n (mark ∷ marks) = (marked_number mark ≡ n) × AreAbout n marks

-- the marks after are those before, and in front of them marks about n alone
pub record Grows (n : ℕ) (before after : List Mark) : Type 0 where
  pub new : List Mark
  pub is : after ≡ new ++ before
  pub about : AreAbout n new

-- the two sit on one seat
pub record IsSameSeat (old new : Core) : Type 0 where
  pub circuit : new.circuit ≡ old.circuit
  pub me : new.me ≡ old.me
  pub members : new.members ≡ old.members

-- the core after is the one before, but that it has d in hand of d's number, or nothing where d is empty
pub record Kept (before : Core) (d : Instance) (after : Core) : Type 0 where
  pub failed : after.failed ≡ before.failed
  pub members : after.members ≡ before.members
  pub released : after.released ≡ before.released
  pub here : (instance_at after d.number ≡ Some d) ⊎ ((instance_at after d.number ≡ None) × IsFresh d)
  pub others : (k : ℕ) → (k ≡ d.number → ⊥) → instance_at after k ≡ instance_at before k

-- the core after is the one before, but that it has d in hand of n, and has noted n as released where is_released says so
pub record Moves (before : Core) (n : ℕ) (d : Option Instance) (is_released : Bool) (after : Core) : Type 0 where
  pub failed : after.failed ≡ before.failed
  pub members : after.members ≡ before.members
  pub here : instance_at after n ≡ d
  pub others : (k : ℕ) → (k ≡ n → ⊥) → instance_at after k ≡ instance_at before k
  pub noted : is_released ≡ true → is_noted after n ≡ true
  pub unnoted : (k : ℕ) → (is_released ≡ true → k ≡ n → ⊥) → is_noted after k ≡ is_noted before k

-- the code's turn is the turn t of the definitions, from this row, and the core then stands for the marks after it
pub record Took (row : Row) (t : said.Turn) (x : Turn) (v : Core) : Type 0 where
  pub is_turn : IsTurn row t x
  pub stands : StandsFor v t.marks

-- the code's turn is the turn t of the definitions, and once n is settled the core stands for the marks after it
pub record Settles (n : ℕ) (row : Row) (t : said.Turn) (x : Turn) (v : Core) : Type 0 where
  pub is_turn : IsTurn row t x
  pub settled : (after : Core) → Moves v n (if is_some x.release then None else instance_at v n) (is_some x.release) after → StandsFor after t.marks

-- all that is in hand stands for the marks, under its number
abbrev pub AllStand : List (ℕ × Instance) → List Mark → Type 0
AllStand instances marks = (n : ℕ) (d : Instance) → instance_in instances n ≡ Some d → (d.number ≡ n) × InstanceStands d marks

-- no number in hand that passes is below n
abbrev pub NonePassesBelow : (ℕ → Bool) → List (ℕ × Instance) → ℕ → Type 0
NonePassesBelow passes instances n = (k : ℕ) (d : Instance) → instance_in instances k ≡ Some d → passes k ≡ true → n ≤ k

-- the number passes, and no number in hand that passes is less; with no number, none passes
abbrev pub IsLeastPassing : (ℕ → Bool) → List (ℕ × Instance) → Option ℕ → Type 0
IsLeastPassing passes instances None = (k : ℕ) (d : Instance) → instance_in instances k ≡ Some d → passes k ≡ false
IsLeastPassing passes instances (Some n) = (passes n ≡ true) × NonePassesBelow passes instances n
