-- Moments by index, of which some are none: where none is, and which comes first.
use Rattle.std.specs.Prelude.{◌≡◌, ◌<◌, ◌≤◌, ℕ, ◌+◌, ◌*◌, List, Option, Some, None, nat_lt, length, slice_index_or, IfSome, if◌then◌else◌}

-- the moment at an index, if there is one
abbrev pub moment_at : List (Option ℕ) → ℕ → Option ℕ
moment_at moments i = slice_index_or moments i None

-- there is none
abbrev pub AreNone : List (Option ℕ) → Type 0
AreNone moments = (i : ℕ) → moment_at moments i ≡ None

-- there is none from one index to another
abbrev pub NoneIn : List (Option ℕ) → ℕ → ℕ → Type 0
NoneIn moments low high = (i : ℕ) → low ≤ i → i < high → moment_at moments i ≡ None

-- there is none from one index on
abbrev pub NoneFrom : List (Option ℕ) → ℕ → Type 0
NoneFrom moments low = (i : ℕ) → low ≤ i → moment_at moments i ≡ None

-- of those from one index to another this moment stands at this index, none comes before it, and of those that are the same it is the first
pub record IsFirstIn (moments : List (Option ℕ)) (low high index moment : ℕ) : Type 0 where
  pub above : low ≤ index
  pub within : index < high
  pub is : moment_at moments index ≡ Some moment
  pub first : (i : ℕ) → low ≤ i → i < high → IfSome (moment_at moments i) (λ own. moment ≤ own)
  pub least : (i : ℕ) → low ≤ i → i < index → IfSome (moment_at moments i) (λ own. moment < own)

-- what was found of those from one index to another
abbrev pub MatchIn : List (Option ℕ) → ℕ → ℕ → Option (ℕ × ℕ) → Type 0
MatchIn moments low high None = NoneIn moments low high
MatchIn moments low high (Some first) = IsFirstIn moments low high first.0 first.1

-- the first so far, with its moment, or one more, where its moment came before
abbrev pub sooner : Option (ℕ × ℕ) → ℕ → Option ℕ → Option (ℕ × ℕ)
sooner first index None = first
sooner None index (Some own) = Some (index, own)
sooner (Some first) index (Some own) = if nat_lt own first.1 then Some (index, own) else Some first

-- the same of the first of others
abbrev pub earlier : Option (ℕ × ℕ) → Option (ℕ × ℕ) → Option (ℕ × ℕ)
earlier first None = first
earlier first (Some other) = sooner first other.0 (Some other.1)

-- beside the moments stand the first of each 256
pub record AreBlocks (moments : List (Option ℕ)) (blocks : List (Option (ℕ × ℕ))) : Type 0 where
  pub cover : length moments ≤ 256 * length blocks
  pub each : (b : ℕ) → MatchIn moments (256 * b) (256 * b + 256) (slice_index_or blocks b None)
