-- What becomes of the numbers of a page that a member told, where it was asked for.
use Rattle.std.specs.Prelude.{◌≡◌, ◌≤◌, ◌⊎◌, ℕ, Bool, true, false, not, ◌&&◌, ◌==◌, Option, Some, None, Result, OnOk, is_some, if◌then◌else◌}
use Rattle.std.specs.declared.alloc.AllocError.{AllocError}
use Rattle.protocol.specs.Limits.{last_number}
use Rattle.healing.specs.declared.case.LackedNumber.{LackedNumber}
use Rattle.healing.specs.declared.news.NumberNews.TheVariants.{Held}
use Rattle.healing.specs.Cases.{known_after}
use Rattle.rolls.specs.Rolls.{Roll, Body, CountsAsked, Counts, PageAsked, Page}
use Rattle.rolls.specs.Votes.{Votes, has_vote}
use Rattle.roll_call.specs.RollCall.{RollCallValue}
use Rattle.catch_up.specs.declared.hearing.TellingMember.{TellingMember}
use Rattle.catch_up.specs.Before.{collects, has_before, settled_before}
use Rattle.catch_up.specs.Lacking.{case_of, gone_in, own_in}
use Rattle.catch_up.specs.Calls.{heard_in, is_told_in, is_wanted_in}
use Rattle.catch_up.specs.CatchUp.{CatchUpValue}

-- one number at the plant: what is known of it, where it did not go out; whether it went out; and whether it was found to have gone out
-- before
pub record NumberState : Type 0 where
  pub case : Option LackedNumber
  pub gone : Bool
  pub before : Bool

abbrev pub state_of : CatchUpValue → ℕ → NumberState
state_of c n = record { case = case_of c.healing n; gone = gone_in c.healing n; before = has_before c.before n }

-- a number that a member has a vote of: nothing new where it went out; where what others have and is not known here went out before, and
-- this is not known here, it went out before; else it is told
abbrev pub held_by : ℕ → Bool → TellingMember → NumberState → NumberState
held_by own is_first t s =
    if s.gone then record s { case = None }
    else if is_first && not (is_some s.case) then record { case = None; gone = true; before = true }
    else record s { case = known_after own (Held t.member) t.moment s.case }

-- where it is not known what went out, nothing is
abbrev pub held : Option ℕ → Bool → TellingMember → NumberState → NumberState
held None is_first t s = s
held (Some own) is_first t s = held_by own is_first t s

-- what is known of other numbers stays, and so does the rest, but for what is recalled and what was asked for of late
pub record KeepsRest (old new : CatchUpValue) : Type 0 where
  pub rest : new ≡ record old { healing = new.healing; before = new.before; recalling = new.recalling; wave = new.wave }
  pub own : own_in new.healing ≡ own_in old.healing
  pub collects : collects new.before ≡ collects old.before

-- what was told is so, where memory sufficed, and the rest stays
pub record IsTaking (old new : CatchUpValue) (is_told : Type 0) (result : Result (Unit {0}) AllocError) : Type 0 where
  pub held : OnOk result is_told
  pub keeps : KeepsRest old new

-- a number that a member has a vote of was told
pub record IsHeldOne (old new : CatchUpValue) (number : ℕ) (t : TellingMember) : Type 0 where
  pub same : state_of new number ≡ held (own_in old.healing) (collects old.before) t (state_of old number)
  pub others : (n : ℕ) → ¬ (n ≡ number) → state_of new n ≡ state_of old n
  pub keeps : KeepsRest old new

-- what becomes of a number by a page: it is told, where it is among those that count
abbrev pub paged : CatchUpValue → Bool → TellingMember → ℕ → NumberState
paged c counts t n = if counts then held (own_in c.healing) (collects c.before) t (state_of c n) else state_of c n

-- a number was told, if it is one that has a vote on a page
pub record IsHeldOf (old new : CatchUpValue) (value : ℕ) (votes : Votes) (t : TellingMember) : Type 0 where
  pub numbers : (n : ℕ) → 1 ≤ n → n ≤ last_number → state_of new n ≡ paged old (n == value && has_vote votes n) t n
  pub keeps : KeepsRest old new

-- each number of the page that has a vote was told, and no other
pub record IsPageHeld (old new : CatchUpValue) (votes : Votes) (t : TellingMember) : Type 0 where
  pub numbers : (n : ℕ) → 1 ≤ n → n ≤ last_number → state_of new n ≡ paged old (has_vote votes n) t n
  pub keeps : KeepsRest old new

-- the page that a roll tells
abbrev pub page_of_body : Body → Option Votes
page_of_body CountsAsked = None
page_of_body (Counts counts) = None
page_of_body (PageAsked page) = None
page_of_body (Page page bytes) = Some (record { page = page; bytes = bytes })

-- where it was asked for
abbrev pub page_in : Roll → Option RollCallValue → Option Votes
page_in r rolls = if is_wanted_in r rolls then page_of_body r.body else None

-- the numbers of the page that a roll tells were told, if it tells one that was asked for
abbrev pub AreTaken : CatchUpValue → CatchUpValue → Option Votes → TellingMember → Type 0
AreTaken old new None t = new ≡ old
AreTaken old new (Some votes) t = IsPageHeld old new votes t

-- a roll was heard: what it asks waits, what it tells is kept, and a majority may have told its votes by it
abbrev pub with_roll : Roll → Option RollCallValue → CatchUpValue → CatchUpValue
with_roll r rolls c =
    record c { rolls = heard_in r rolls; before = settled_before (is_told_in (heard_in r rolls)) c.before; is_stirred = true }

-- a roll came: it was heard, and the numbers of its page were told; or memory was refused for these, and the page counts as not told
abbrev pub IsRollHeard : CatchUpValue → CatchUpValue → Roll → ℕ → Type 0
IsRollHeard old new r now =
    (taken : CatchUpValue) × KeepsRest old taken
    × ((AreTaken old taken (page_in r old.rolls) (record { member = r.from; moment = now }) × (new ≡ with_roll r old.rolls taken))
    ⊎ ((is_some (page_in r old.rolls) ≡ true) × (new ≡ record taken { is_stirred = true })))
