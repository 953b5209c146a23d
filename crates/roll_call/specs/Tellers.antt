-- What a member is asked for, and when.
use Rattle.std.specs.Prelude.{ℕ, ◌+◌, ◌-◌, Bool, true, false, not, ◌&&◌, ◌||◌, ◌==◌, nat_lt, nat_le, min, List, Option, Some, None, if◌then◌else◌}
use Rattle.roll_call.specs.declared.look.RollLook.{RollLook}
use Rattle.roll_call.specs.declared.teller.PendingAsk.{PendingAsk}
use Rattle.roll_call.specs.Topics.{Topic, is_same, the_counts}
use Rattle.roll_call.specs.Heard.{HeardValue, nothing_heard, with_counts, with_page}

-- a member: what it told; what it was asked for last and did not tell; whether its counts are to be asked for; and how many packets had
-- come when they were
pub record TellerValue : Type 0 where
  pub heard : HeardValue
  pub pending : Option PendingAsk
  pub is_due : Bool
  pub seen : ℕ

-- a member at the start: its counts are to be asked for
abbrev pub silent : TellerValue
silent = record { heard = nothing_heard; pending = None; is_due = true; seen = 0 }

-- how often in a row it was asked without an answer
abbrev pub tries_of : Option PendingAsk → ℕ
tries_of None = 0
tries_of (Some p) = p.tries

-- it was asked less than 1,500 ms ago, and did not answer yet
abbrev pub is_waiting : ℕ → Option PendingAsk → Bool
is_waiting now None = false
is_waiting now (Some p) = nat_lt (now - p.since) 1500

-- it is quiet, and something came since its counts were asked for
abbrev pub is_anew : RollLook → TellerValue → Bool
is_anew l t = l.is_quiet && not (t.seen == l.news)

-- its counts are asked for now: anew, or for the first to sixth time in a row
abbrev pub is_counts_due : RollLook → TellerValue → Bool
is_counts_due l t = not (is_waiting l.moment t.pending) && (is_anew l t || (t.is_due && nat_lt (tries_of t.pending) 6))

-- the page that is asked for now where no counts are: the lowest that differs, for the first to sixth time in a row
abbrev pub page_due : ℕ → TellerValue → Option ℕ
page_due now t = if is_waiting now t.pending || (t.is_due || nat_le 6 (tries_of t.pending)) then None else t.heard.lowest

-- how often in a row it was asked without an answer after it is asked now
abbrev pub tries_after : RollLook → TellerValue → ℕ
tries_after l t = if is_anew l t then 1 else min (tries_of t.pending + 1) 255

-- what it is asked for now and does not tell yet
abbrev pub pending_after : RollLook → ℕ → Topic → TellerValue → Option PendingAsk
pending_after l number page t = Some (record { asked = number; page = page; since = l.moment; tries = tries_after l t })

-- it is asked for something
abbrev pub asked_for : RollLook → ℕ → Topic → TellerValue → TellerValue
asked_for l number None t = record t { pending = pending_after l number the_counts t; is_due = true; seen = l.news }
asked_for l number (Some page) t = record t { pending = pending_after l number (Some page) t }

-- as though it was asked for no time in a row
abbrev pub forgiven : Option PendingAsk → Option PendingAsk
forgiven None = None
forgiven (Some p) = Some (record p { tries = 0 })

-- its turn has come: its counts are to be asked for, however often it did not answer
abbrev pub called : TellerValue → TellerValue
called t = record t { pending = forgiven t.pending; is_due = true }

-- this is what it was asked for last, by this number
abbrev pub is_pending : ℕ → Topic → Option PendingAsk → Bool
is_pending asked page None = false
is_pending asked page (Some p) = p.asked == asked && is_same p.page page

-- it told its counts: what was not asked for changes nothing
abbrev pub told_counts : ℕ → List ℕ → TellerValue → TellerValue
told_counts asked counts t = if is_pending asked the_counts t.pending then record t { heard = with_counts counts t.heard; pending = None; is_due = false } else t

-- it told a page, on which so many numbers have a vote: what was not asked for changes nothing
abbrev pub told_page : ℕ → (page count : ℕ) → TellerValue → TellerValue
told_page asked page count t = if is_pending asked (Some page) t.pending then record t { heard = with_page page count t.heard; pending = None } else t
