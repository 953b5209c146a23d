-- Which of the files the station is asked for first.
use Rattle.std.specs.Prelude.{◌≡◌, ◌⊎◌, ◌<◌, ◌≤◌, ℕ, List, Bool, true, false, nat_le, Option, Some, None, length, slice_index_or, IfSome}
use Rattle.offers.specs.declared.offer.Offer.{Offer}
use Rattle.offers.specs.Left.{NoAsks, NoneAmong}
use Rattle.offers.specs.Order.{rank, is_search}
use Rattle.offers.specs.Rules.{Standing, ask_moment_of}

-- what a file goes by among those for which the station may be asked: its group, the moment since which it may, and its place
pub record Turn : Type 0 where
  pub group : ℕ
  pub moment : ℕ
  pub place : ℕ

-- one comes no later than another: its group is less, or of one group its moment is, or of one moment its place is no greater
abbrev pub IsNoLater : Turn → Turn → Type 0
IsNoLater a b = (a.group < b.group) ⊎ ((a.group ≡ b.group) × ((a.moment < b.moment) ⊎ ((a.moment ≡ b.moment) × (a.place ≤ b.place))))

-- the searches go first: eight other files were asked for since the last of them
abbrev pub is_search_turn : Standing → Bool
is_search_turn b = nat_le 8 b.since_search

-- the group of a search, and of another file, where the searches go first, and where they go last
abbrev pub group_of : Bool → Bool → ℕ
group_of true true = 0
group_of true false = 1
group_of false true = 1
group_of false false = 0

-- what it goes by, if it has a moment
abbrev pub turn_at : ℕ → ℕ → Option ℕ → Option Turn
turn_at group place None = None
turn_at group place (Some moment) = Some (record { group = group; moment = moment; place = place })

-- what a file goes by, if the station may be asked for it: its kind, the moment since which it may, and its number
abbrev pub turn_of : Standing → Offer → Option Turn
turn_of b o = turn_at (group_of (is_search_turn b) (is_search o.request.kind)) (rank o.request) (ask_moment_of b o)

-- of the files for which the station may be asked the one at this index comes first, by this turn
pub record IsFirstBy (b : Standing) (index : ℕ) (turn : Turn) : Type 0 where
  pub within : index < length b.files
  pub is : (d : Offer) → turn_of b (slice_index_or b.files index d) ≡ Some turn
  pub first : (i : ℕ) (d : Offer) → i < length b.files → IfSome (turn_of b (slice_index_or b.files i d)) (λ other. IsNoLater turn other)

-- of the files for which the station may be asked the one at this index comes first
abbrev pub IsFirstAsk : Standing → ℕ → Type 0
IsFirstAsk b index = (turn : Turn) × IsFirstBy b index turn

-- what was found of them, by index
abbrev pub MatchFirstAsk : Standing → Option (ℕ × ℕ) → Type 0
MatchFirstAsk b None = NoAsks b
MatchFirstAsk b (Some first) = IsFirstAsk b first.0

-- of the files that have such a moment this one's comes first, and of those of one moment it stands first
pub record IsSoonest (moment_of : Offer → Option ℕ) (files : List Offer) (index moment : ℕ) : Type 0 where
  pub within : index < length files
  pub is : (d : Offer) → moment_of (slice_index_or files index d) ≡ Some moment
  pub first : (i : ℕ) (d : Offer) → i < length files → IfSome (moment_of (slice_index_or files i d)) (λ own. moment ≤ own)
  pub least : (i : ℕ) (d : Offer) → i < index → IfSome (moment_of (slice_index_or files i d)) (λ own. moment < own)

-- what was found of them, by index
abbrev pub MatchSoonest : (Offer → Option ℕ) → List Offer → Option (ℕ × ℕ) → Type 0
MatchSoonest moment_of files None = NoneAmong moment_of files
MatchSoonest moment_of files (Some first) = IsSoonest moment_of files first.0 first.1
