-- A number's proposal, read from marks by looking back over them: they stand newest first.
-- Lamport, the proposer: it asks a majority in phase 1, and proposes the entry of the highest reported vote in phase 2.
use Rattle.std.specs.Prelude.{ℕ, ◌+◌, ◌*◌, ◌-◌, ◌^◌, min, List, ◌∷◌, Option, Some, None, Bool, true, false, ◌==◌, ◌&&◌, ◌||◌, nat_lt, nat_le, count_by, filter, filter_map, unwrap_or, if◌then◌else◌}
use Rattle.protocol.specs.Lists.{has, until, before_last, first, greatest}
use Rattle.protocol.specs.Ballots.{Ballot, is_same, is_below}
use Rattle.protocol.specs.Entries.{Entry}
use Rattle.protocol.specs.Rows.{Vote}
use Rattle.protocol.specs.Marks.{Mark, Began, Promised, Proposed, Denied, begins, closes, releases, ends, proposes}

-- what a proposal began with
pub record Opening : Type 0 where
  pub ballot : Ballot
  pub own : Option Entry
  pub report : Option Vote
  pub now : ℕ

-- what the mark begins n with, if it does
abbrev pub opening_of : ℕ → Mark → Option Opening
opening_of n (Began k b own report now) = if k == n then Some (record { ballot = b; own = own; report = report; now = now }) else None
opening_of n _ = None

-- n was released
abbrev pub was_released : ℕ → List Mark → Bool
was_released n marks = has (releases n) marks

-- the marks since the last Began of n
abbrev pub since_began : ℕ → List Mark → List Mark
since_began n marks = until (begins n) marks

-- the open proposal of n: its last Began, where n was not released and not closed since
abbrev pub open_proposal : ℕ → List Mark → Option Opening
open_proposal n marks = if was_released n marks || has (closes n) (since_began n marks) then None else first (opening_of n) marks

-- the ballot of a proposal
abbrev pub opening_ballot : Option Opening → Option Ballot
opening_ballot None = None
opening_ballot (Some p) = Some p.ballot

-- the ballot of the open proposal of n
abbrev pub open_ballot : ℕ → List Mark → Option Ballot
open_ballot n marks = opening_ballot (open_proposal n marks)

-- the proposal, where it is at b
abbrev pub where_at : Ballot → Option Opening → Option Opening
where_at b None = None
where_at b (Some p) = if is_same p.ballot b then Some p else None

-- the open proposal of n at b
abbrev pub proposal_at : ℕ → Ballot → List Mark → Option Opening
proposal_at n b marks = where_at b (open_proposal n marks)

-- the open proposal of n at b, where it gathers promises: it has not been proposed
abbrev pub gathering_at : ℕ → Ballot → List Mark → Option Opening
gathering_at n b marks = if has (proposes n b) (since_began n marks) then None else proposal_at n b marks

-- a member that is counted, and the vote that it reported
pub record Counted : Type 0 where
  pub member : ℕ
  pub report : Option Vote

-- the member whose promise for n at b the mark counts, if it does
abbrev pub promise_of : ℕ → Ballot → Mark → Option Counted
promise_of n b (Promised k m a report) = if (k == n) && is_same a b then Some (record { member = m; report = report }) else None
promise_of n b _ = None

-- the counted: the own member, with the report that it began with, and each whose promise came since
abbrev pub counted : ℕ → ℕ → Opening → List Mark → List Counted
counted me n p since = record { member = me; report = p.report } ∷ filter_map (promise_of n p.ballot) since

-- the member is among the counted
abbrev pub is_counted : List Counted → ℕ → Bool
is_counted all m = has (λ (x : Counted). x.member == m) all

-- the first of two reports is greater: by its ballot, or by less of members where equal
abbrev pub vote_above : Option Vote → Option Vote → Bool → Bool
vote_above None u is_less = false
vote_above (Some v) None is_less = true
vote_above (Some v) (Some u) is_less = is_below u.ballot v.ballot || (is_same u.ballot v.ballot && is_less)

-- the first of two counted members has the greater report
abbrev pub reports_above : Counted → Counted → Bool
reports_above x y = vote_above x.report y.report (nat_lt x.member y.member)

-- what a counted member reported
abbrev pub report_of : Option Counted → Option Vote
report_of None = None
report_of (Some x) = x.report

-- the vote's entry, else the own one
abbrev pub entry_or : Option Entry → Option Vote → Option Entry
entry_or own None = own
entry_or own (Some v) = Some v.entry

-- the entry to propose: that of the counted report of greatest ballot (least member where equal), else the own entry
abbrev pub pick : Option Entry → List Counted → Option Entry
pick own all = entry_or own (report_of (greatest reports_above all))

-- the marks since n was last closed or released
abbrev pub since_end : ℕ → List Mark → List Mark
since_end n marks = until (ends n) marks

-- how many ballots of n were begun since then
abbrev pub begun : ℕ → List Mark → ℕ
begun n marks = count_by (begins n) (since_end n marks)

-- the marks after the first of these Began
abbrev pub since_first : ℕ → List Mark → List Mark
since_first n marks = before_last (begins n) (since_end n marks)

-- the promise by which the mark denies n, if it does
abbrev pub denial_of : ℕ → Mark → Option Ballot
denial_of n (Denied k p) = if k == n then Some p else None
denial_of n _ = None

-- the greatest promise that denied n, after the first Began since it was last closed or released
abbrev pub denied : ℕ → List Mark → Option Ballot
denied n marks = greatest (λ p q. is_below q p) (filter_map (denial_of n) (since_first n marks))

-- the moment at which the mark proposes n at b, if it does
abbrev pub moment_of : ℕ → Ballot → Mark → Option ℕ
moment_of n b (Proposed k a now) = if (k == n) && is_same a b then Some now else None
moment_of n b _ = None

-- when a proposal last moved: as it was proposed, else as it began
abbrev pub moved : ℕ → Opening → List Mark → ℕ
moved n p since = unwrap_or (first (moment_of n p.ballot) since) p.now

-- the moment from which on a proposal is due, in milliseconds: 250 and 40 for each of the member's number after it last moved
abbrev pub due_moment : ℕ → ℕ → Opening → List Mark → ℕ
due_moment me n p since = min (moved n p since + 250 + 40 * me) (2 ^ 64 - 1)

-- there is a proposal, and its due moment has come
abbrev pub is_due : ℕ → ℕ → ℕ → List Mark → Option Opening → Bool
is_due me n now since None = false
is_due me n now since (Some p) = nat_le (due_moment me n p since) now

-- n's proposal is open and due
abbrev pub is_due_number : ℕ → ℕ → List Mark → ℕ → Bool
is_due_number me now marks n = is_due me n now (since_began n marks) (open_proposal n marks)

-- the number of which the mark begins a ballot, if it does
abbrev pub begun_number : Mark → Option ℕ
begun_number (Began n b own report now) = Some n
begun_number _ = None

-- the least number that is due
abbrev pub next_due : ℕ → ℕ → List Mark → Option ℕ
next_due me now marks = greatest (λ i j. nat_lt i j) (filter (is_due_number me now marks) (filter_map begun_number marks))
