-- What is left to be done about the numbers that a station recalls.
use Rattle.std.specs.Prelude.{◌≡◌, ◌≤◌, ◌<◌, ◌⊎◌, ℕ, ◌+◌, List, [], ◌∷◌, length, Option, Some, None, Result, IfOk, IfSome, OnErr}
use Rattle.std.specs.declared.alloc.AllocError.{AllocError}
use Rattle.protocol.specs.Limits.{most_members}
use Rattle.gone_out.specs.declared.origin.Origin.{Origin}
use Rattle.recalls.specs.Recalls.{Recall, Rise}
use Rattle.recalls.specs.Spelling.{spelling}
use Rattle.catch_up.specs.declared.errand.Errand.{Errand}
use Rattle.catch_up.specs.declared.errand.Errand.TheVariants.{Send, Tell, Seek}
use Rattle.catch_up.specs.Values.{without}

-- the station; the number of its own that its recalls have; the numbers; below which member all were asked; and the numbers that it is
-- still to tell itself
pub record OwnValue : Type 0 where
  pub origin : Origin
  pub asked : ℕ
  pub numbers : List ℕ
  pub next : ℕ
  pub left : List ℕ

-- the numbers rise, and a member is the next
pub record IsOwn (v : OwnValue) : Type 0 where
  pub numbers : Rise 0 v.numbers
  pub few : length v.numbers ≤ 64
  pub left : Rise 0 v.left
  pub low : 1 ≤ v.next
  pub high : v.next ≤ 16

-- another member of the circuit
pub record IsOther (o : Origin) (m : ℕ) : Type 0 where
  pub low : 1 ≤ m
  pub high : m ≤ most_members
  pub within : m ≤ o.count
  pub apart : ¬ (m ≡ o.member)

-- the first other member from one on
abbrev pub IsFirstOther : Origin → ℕ → Option ℕ → Type 0
IsFirstOther o from (Some m) = (from ≤ m) × IsOther o m × ((k : ℕ) → from ≤ k → k < m → ¬ IsOther o k)
IsFirstOther o from None = (k : ℕ) → from ≤ k → ¬ IsOther o k

-- a batch of numbers is to be recalled: each other member is to be asked, and each number to be told to the station itself
abbrev pub begun : Origin → ℕ → List ℕ → OwnValue
begun origin asked batch = record { origin = origin; asked = asked; numbers = batch; next = 1; left = batch }

-- a batch that is recalled already is asked for once more: each other member is to be asked, and nothing is to be told to the station itself
abbrev pub asked_again : Origin → ℕ → List ℕ → OwnValue
asked_again origin asked batch = record { origin = origin; asked = asked; numbers = batch; next = 1; left = [] }

-- a number went out
abbrev pub left_by : ℕ → OwnValue → OwnValue
left_by number v = record v { numbers = without number v.numbers; left = without number v.left }

-- the recall that goes to a member
abbrev pub recall_to : OwnValue → ℕ → Recall
recall_to v to = record { circuit = v.origin.circuit; from = v.origin.member; to = to; asked = v.asked; numbers = v.numbers }

-- nobody is still to be asked, or for nothing
abbrev pub NoneToAsk : OwnValue → Type 0
NoneToAsk v = IsFirstOther v.origin v.next None ⊎ (v.numbers ≡ [])

-- what comes next: the next member is asked; then the next number is told to the station itself; then nothing is left
abbrev pub GoesOn : OwnValue → OwnValue → Option Errand → Type 0
GoesOn old new None = NoneToAsk old × (old.left ≡ []) × (new ≡ old)
GoesOn old new (Some (Send to bytes)) =
    IsFirstOther old.origin old.next (Some to) × (bytes.items ≡ spelling (recall_to old to)) × (new ≡ record old { next = to + 1 })
GoesOn old new (Some (Tell number to)) =
    NoneToAsk old × (to ≡ old.origin.member) × (old.left ≡ number ∷ new.left) × (new ≡ record old { left = new.left })
GoesOn old new (Some (Seek number)) = ⊥

-- the next member was asked, if one is to be; where memory is refused, nothing changed
pub record IsSending (old new : OwnValue) (result : Result (Option Errand) AllocError) : Type 0 where
  pub some : IfOk result (λ e. IfSome e (λ errand. GoesOn old new (Some errand)))
  pub none : IfOk result (λ e. e ≡ None → NoneToAsk old × (new ≡ old))
  pub err : OnErr result (new ≡ old)

-- what comes next was done; where memory is refused, nothing changed
pub record IsGoingOn (old new : OwnValue) (result : Result (Option Errand) AllocError) : Type 0 where
  pub ok : IfOk result (GoesOn old new)
  pub err : OnErr result (new ≡ old)
