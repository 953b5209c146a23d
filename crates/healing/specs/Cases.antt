-- A number that is known here and did not go out: what news make of it, and whether it is lacked.
use Rattle.std.specs.Prelude.{ℕ, ◌+◌, ◌-◌, ◌^◌, Bool, true, false, not, ◌&&◌, ◌||◌, Option, Some, None, nat_le, nat_lt, min, max, if◌then◌else◌}
use Rattle.std.specs.Option.{unwrap_or}
use Rattle.healing.specs.declared.news.NumberNews.{NumberNews}
use Rattle.healing.specs.declared.news.NumberNews.TheVariants.{Saved, Came, Voted, Held, Opened, Closed, Nothing}
use Rattle.healing.specs.declared.case.LackStage.{LackStage}
use Rattle.healing.specs.declared.case.LackStage.TheVariants.{Waiting, Recalled, Sought, Open, Left}
use Rattle.healing.specs.declared.case.LackedNumber.{LackedNumber}
use Rattle.healing.specs.declared.voters.Voters.{Voters}
use Rattle.healing.specs.Voters.{none, is_none, with_voter, is_within}

-- a ballot of the number is open here
abbrev pub is_open : LackStage → Bool
is_open Sought = true
is_open Open = true
is_open Waiting = false
is_open (Recalled at) = false
is_open Left = false

-- no ballot of it is open, it is known for long enough, and nothing came for long enough
abbrev pub lacks : LackedNumber → ℕ → Bool
lacks c now = not (is_open c.stage) && nat_le c.known now && nat_le c.quiet now

abbrev pub is_waiting : LackStage → Bool
is_waiting Waiting = true
is_waiting (Recalled at) = false
is_waiting Sought = false
is_waiting Open = false
is_waiting Left = false

abbrev pub is_sought : LackStage → Bool
is_sought Sought = true
is_sought Waiting = false
is_sought (Recalled at) = false
is_sought Open = false
is_sought Left = false

abbrev pub is_recalled : LackStage → Bool
is_recalled (Recalled at) = true
is_recalled Waiting = false
is_recalled Sought = false
is_recalled Open = false
is_recalled Left = false

-- it waits, and is lacked
abbrev pub is_due : LackedNumber → ℕ → Bool
is_due c now = is_waiting c.stage && lacks c now

-- it was recalled 2 s before, or earlier
abbrev pub was_recalled : LackStage → ℕ → Bool
was_recalled (Recalled at) now = nat_le (at + 2000) now
was_recalled Waiting now = false
was_recalled Sought now = false
was_recalled Open now = false
was_recalled Left now = false

abbrev pub is_over : LackedNumber → ℕ → Bool
is_over c now = was_recalled c.stage now

-- it was recalled 300 ms before, or earlier
abbrev pub was_asked : LackStage → ℕ → Bool
was_asked (Recalled at) now = nat_le (at + 300) now
was_asked Waiting now = false
was_asked Sought now = false
was_asked Open now = false
was_asked Left now = false

-- it was recalled 300 ms before or earlier, and 2 s are not over: it is asked for once more
abbrev pub is_awaited : LackedNumber → ℕ → Bool
is_awaited c now = was_asked c.stage now && not (is_over c now)

-- a member has a vote of it
abbrev pub has_vote : LackedNumber → Bool
has_vote c = not (is_none c.voters)

-- it is lacked, was recalled 2 s before, and a member has a vote of it
abbrev pub is_ripe : LackedNumber → ℕ → Bool
is_ripe c now = has_vote c && is_over c now && lacks c now

-- the first moment at which a number that waits is lacked, if nothing more comes of it
abbrev pub due_at : LackedNumber → ℕ
due_at c = max c.known c.quiet

-- so many milliseconds later, or at the last moment that there is
abbrev pub later : ℕ → ℕ → ℕ
later now pause = min (now + pause) (2 ^ 64 - 1)

-- the member that is told to have a vote, if one is: the own one, where a row is saved that has one
abbrev pub voter_of : ℕ → NumberNews → Option ℕ
voter_of own (Saved true) = Some own
voter_of own (Saved false) = None
voter_of own (Voted member) = Some member
voter_of own (Held member) = Some member
voter_of own Came = None
voter_of own Opened = None
voter_of own Closed = None
voter_of own Nothing = None

-- from which moment on a number is known for long enough, if this makes it known: 5 s after its row was saved or its ballot opened, and
-- at once where a page tells of it
abbrev pub known_from : NumberNews → ℕ → Option ℕ
known_from (Saved votes) now = Some (later now 5000)
known_from Opened now = Some (later now 5000)
known_from (Held member) now = Some now
known_from Came now = None
known_from (Voted member) now = None
known_from Closed now = None
known_from Nothing now = None

-- from which moment on nothing came for long enough, if something came: 2 s later
abbrev pub quiet_from : NumberNews → ℕ → Option ℕ
quiet_from (Saved votes) now = Some (later now 2000)
quiet_from Came now = Some (later now 2000)
quiet_from (Voted member) now = Some (later now 2000)
quiet_from Opened now = Some (later now 2000)
quiet_from (Held member) now = None
quiet_from Closed now = None
quiet_from Nothing now = None

-- the sooner of two moments, if there is another one
abbrev pub sooner : Option ℕ → ℕ → ℕ
sooner None known = known
sooner (Some moment) known = min moment known

-- the members that have a vote, with another one, if there is one
abbrev pub voters_after : Option ℕ → Voters → Voters
voters_after None voters = voters
voters_after (Some member) voters = with_voter member voters

-- those that were known to have one when the last ballot was begun: where it is opened, all that are known now
abbrev pub before_after : NumberNews → Voters → Voters → Voters
before_after Opened voters before = voters
before_after (Saved votes) voters before = before
before_after Came voters before = before
before_after (Voted member) voters before = before
before_after (Held member) voters before = before
before_after Closed voters before = before
before_after Nothing voters before = before

-- a ballot that ends
abbrev pub ended : LackStage → LackStage → LackStage
ended next Sought = next
ended next Open = next
ended next stage = stage

-- a ballot begins or ends
abbrev pub moved : NumberNews → LackStage → LackStage
moved Opened stage = Open
moved Closed stage = ended Waiting stage
moved Nothing stage = ended Left stage
moved (Saved votes) stage = stage
moved Came stage = stage
moved (Voted member) stage = stage
moved (Held member) stage = stage

-- a number that is left waits again where a member has a vote that was not known to have one when the last ballot was begun
abbrev pub again : Bool → LackStage → LackStage
again knows_all Left = if knows_all then Left else Waiting
again knows_all stage = stage

-- a number of which no member was known to have a vote before
abbrev pub fresh_at : ℕ → Voters → LackStage → ℕ → LackedNumber
fresh_at known voters stage quiet = record { known = known; quiet = quiet; voters = voters; before = none; stage = stage }

-- a number becomes known by its row, by a ballot of its own, or by a page that tells of it
abbrev pub fresh : ℕ → NumberNews → ℕ → Option LackedNumber
fresh own (Saved votes) now = Some (fresh_at (later now 5000) (voters_after (voter_of own (Saved votes)) none) Waiting (later now 2000))
fresh own Opened now = Some (fresh_at (later now 5000) none Open (later now 2000))
fresh own (Held member) now = Some (fresh_at now (with_voter member none) Waiting now)
fresh own Came now = None
fresh own (Voted member) now = None
fresh own Closed now = None
fresh own Nothing now = None

abbrev pub case_after : ℕ → NumberNews → ℕ → LackedNumber → LackedNumber
case_after own news now c =
    let voters : Voters = voters_after (voter_of own news) c.voters in
    record {
      known = sooner (known_from news now) c.known;
      quiet = unwrap_or (quiet_from news now) c.quiet;
      voters = voters;
      before = before_after news c.voters c.before;
      stage = again (is_within voters c.before) (moved news c.stage);
    }

-- the members that were known to have a vote when the last ballot was begun, as this stage begins: a ballot may begin with it
abbrev pub before_at : LackStage → Voters → Voters → Voters
before_at stage voters before = if is_open stage then voters else before

abbrev pub with_stage : LackStage → LackedNumber → LackedNumber
with_stage stage c = record { known = c.known; quiet = c.quiet; voters = c.voters; before = before_at stage c.voters c.before; stage = stage }

-- a number that was recalled 2 s before is left, where no member has a vote of it
abbrev pub settled : ℕ → LackedNumber → LackedNumber
settled now c = if is_over c now && not (has_vote c) then with_stage Left c else c

-- what becomes of a number, known or not
abbrev pub known_after : ℕ → NumberNews → ℕ → Option LackedNumber → Option LackedNumber
known_after own news now None = fresh own news now
known_after own news now (Some c) = Some (case_after own news now c)

-- a number has a case in which it waits
abbrev pub waits_in : Option LackedNumber → Bool
waits_in None = false
waits_in (Some c) = is_waiting c.stage

-- it waits and did not wait, or it waits and is due earlier than it was
abbrev pub has_new_place : Option LackedNumber → LackedNumber → Bool
has_new_place None c = is_waiting c.stage
has_new_place (Some old) c = is_waiting c.stage && (not (is_waiting old.stage) || nat_lt (due_at c) (due_at old))

-- a number has a case in which it is sought, or recalled
abbrev pub sought_in : Option LackedNumber → Bool
sought_in None = false
sought_in (Some c) = is_sought c.stage

abbrev pub recalled_in : Option LackedNumber → Bool
recalled_in None = false
recalled_in (Some c) = is_recalled c.stage

-- or in which it is to be sought
abbrev pub ripe_in : Option LackedNumber → ℕ → Bool
ripe_in None now = false
ripe_in (Some c) now = is_ripe c now

-- or in which it is asked for once more
abbrev pub awaited_in : Option LackedNumber → ℕ → Bool
awaited_in None now = false
awaited_in (Some c) now = is_awaited c now
