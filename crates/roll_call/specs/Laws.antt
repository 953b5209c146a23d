-- The laws of roll calls.
use Rattle.std.specs.Prelude.{◌≡◌, ◌<◌, ℕ, ◌-◌, Bool, true, false, List, length, slice_index}
use Rattle.rolls.specs.Votes.{how_many}
use Rattle.rolls.specs.Rolls.{Body}
use Rattle.rolls.specs.Rolls as bodies
use Rattle.roll_call.specs.Heard.{HeardValue}
use Rattle.roll_call.specs.Asks.{teller_at}
use Rattle.roll_call.specs.RollCall.{RollCallValue, after, is_wanted}

-- what a member told
abbrev pub heard_of : ℕ → RollCallValue → HeardValue
heard_of member c = (teller_at (member - 1) c.asks.tellers).heard

-- the body tells, and does not ask
abbrev pub tells : Body → Bool
tells bodies.CountsAsked = false
tells (bodies.Counts counts) = true
tells (bodies.PageAsked page) = false
tells (bodies.Page page bytes) = true

-- what is told and was not asked for changes nothing
abbrev pub PassesOver : Type 0
PassesOver = (c : RollCallValue) (member asked : ℕ) (body : Body) → tells body ≡ true → is_wanted member asked body c ≡ false → after member asked body c ≡ c

-- counts that were asked for are kept as the member told them
abbrev pub KeepsCounts : Type 0
KeepsCounts =
    (c : RollCallValue) (member asked : ℕ) (counts : List ℕ) → member - 1 < length c.asks.tellers → is_wanted member asked (bodies.Counts counts) c ≡ true
    → (heard_of member (after member asked (bodies.Counts counts) c)).told ≡ counts

-- of a page that was asked for it is kept how many votes the member told
abbrev pub KeepsPage : Type 0
KeepsPage =
    (c : RollCallValue) (member asked page : ℕ) (bytes : List ℕ) → member - 1 < length c.asks.tellers → page < length (heard_of member c).known
    → is_wanted member asked (bodies.Page page bytes) c ≡ true
    → slice_index (heard_of member (after member asked (bodies.Page page bytes) c)).known page ≡ how_many (record { page = page; bytes = bytes })
