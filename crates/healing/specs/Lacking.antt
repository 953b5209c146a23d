-- Which number is lacked, by all that was heard of it, looking back.
use Rattle.std.specs.Prelude.{ℕ, Bool, true, false, not, ◌&&◌, ◌||◌, ◌==◌, Option, Some, None, is_some, nat_le, min, List, [], ◌∷◌, if◌then◌else◌}
use Rattle.std.specs.Option.{option_map}
use Rattle.healing.specs.declared.news.NumberNews.{NumberNews}
use Rattle.healing.specs.declared.news.NumberNews.TheVariants.{Saved, Came, Voted, Held, Opened, Closed, Nothing}
use Rattle.healing.specs.declared.case.LackStage.TheVariants.{Recalled as RecalledStage, Sought as SoughtStage}
use Rattle.healing.specs.declared.case.LackedNumber.{LackedNumber}
use Rattle.healing.specs.Cases.{known_after, known_from, quiet_from, voter_of, settled, with_stage}

-- what happens to a number: news of it, that it is recalled, that it is settled what comes of a recall, that it is sought, and that it
-- goes out
pub data Event : Type 0 where
  Told : (news : NumberNews) → Event
  Recalled : Event
  Settled : Event
  Sought : Event
  WentOut : Event

-- what happened to a number, the last first, each with its moment
abbrev pub History : Type 0
History = List (Event × ℕ)

-- it went out
abbrev pub went_out : History → Bool
went_out [] = false
went_out ((WentOut, t) ∷ h) = true
went_out ((e, t) ∷ h) = went_out h

-- the least of two moments, where there are any
abbrev pub least : Option ℕ → Option ℕ → Option ℕ
least None other = other
least (Some t) None = Some t
least (Some t) (Some other) = Some (min t other)

-- the first of two moments, where there is one, or the second
abbrev pub first_of : Option ℕ → Option ℕ → Option ℕ
first_of None other = other
first_of (Some t) other = Some t

-- from which moment on this makes the number known for long enough, if it makes it known
abbrev pub makes_known : Event → ℕ → Option ℕ
makes_known (Told news) t = known_from news t
makes_known event t = None

-- from which moment on it is known for long enough: the least of those from which on something made it so
abbrev pub known_by : History → Option ℕ
known_by [] = None
known_by ((e, t) ∷ h) = least (makes_known e t) (known_by h)

-- it is known
abbrev pub is_known : History → Bool
is_known h = is_some (known_by h)

-- from which moment on nothing came for long enough: 2 s after what came last, and at once where a page makes it known, whatever came
-- before that
abbrev pub quiet_by : History → Option ℕ
quiet_by [] = None
quiet_by ((Told news, t) ∷ h) = first_of (quiet_from news t) (if is_known h then quiet_by h else Some t)
quiet_by ((e, t) ∷ h) = quiet_by h

-- a ballot of it is open here: of the events that begin and end one, the last began it. A search begins only of a number that is known,
-- and a recall only where no ballot is open
abbrev pub has_ballot : History → Bool
has_ballot [] = false
has_ballot ((Told Opened, t) ∷ h) = true
has_ballot ((Sought, t) ∷ h) = is_known h
has_ballot ((Recalled, t) ∷ h) = false
has_ballot ((Told Closed, t) ∷ h) = false
has_ballot ((Told Nothing, t) ∷ h) = false
has_ballot ((e, t) ∷ h) = has_ballot h

-- a moment has come, where there is one
abbrev pub has_come : Option ℕ → ℕ → Bool
has_come None now = false
has_come (Some t) now = nat_le t now

-- it is lacked: it did not go out, no ballot of it is open here, it is known for long enough, and nothing came for long enough
abbrev pub is_lacked : History → ℕ → Bool
is_lacked h now = not (went_out h) && (not (has_ballot h) && has_come (known_by h) now && has_come (quiet_by h) now)

-- there is a member, and it is this one
abbrev pub is_one : Option ℕ → ℕ → Bool
is_one None member = false
is_one (Some voter) member = voter == member

-- this tells that the member has a vote of it, at the plant of this own member
abbrev pub tells_vote : ℕ → Event → ℕ → Bool
tells_vote own (Told news) member = is_one (voter_of own news) member
tells_vote own event member = false

-- the member was told to have a vote of it, since it is known
abbrev pub is_told : ℕ → History → ℕ → Bool
is_told own [] member = false
is_told own ((e, t) ∷ h) member = (tells_vote own e member && is_known ((e, t) ∷ h)) || is_told own h member

-- what happened before its last ballot or search was begun; nothing, where none was
abbrev pub before_ballot : History → History
before_ballot [] = []
before_ballot ((Told Opened, t) ∷ h) = h
before_ballot ((Sought, t) ∷ h) = h
before_ballot ((e, t) ∷ h) = before_ballot h

-- what the events make of a number, one after the other
abbrev pub step : ℕ → Event → ℕ → Option LackedNumber → Option LackedNumber
step own (Told news) t c = known_after own news t c
step own WentOut t c = None
step own Recalled t c = option_map (with_stage (RecalledStage t)) c
step own Settled t c = option_map (settled t) c
step own Sought t c = option_map (with_stage SoughtStage) c

-- the case of a number, at the plant of this own member
abbrev pub case_of : ℕ → History → Option LackedNumber
case_of own [] = None
case_of own ((e, t) ∷ h) = if went_out h then None else step own e t (case_of own h)
