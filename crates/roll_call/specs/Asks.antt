-- Whom the station asks for what.
use Rattle.std.specs.Prelude.{◌≡◌, ◌<◌, ◌≤◌, ◌⊎◌, ℕ, ◌+◌, ◌-◌, ◌^◌, ◌%◌, Bool, true, false, not, ◌&&◌, ◌==◌, nat_lt, nat_le, min, List, length, replicate, Option, Some, None, IfSome, slice_index_or, slice_set, if◌then◌else◌, count_by}
use Rattle.gone_out.specs.declared.origin.Origin.{Origin}
use Rattle.roll_call.specs.declared.look.RollLook.{RollLook}
use Rattle.roll_call.specs.declared.asks.Question.{Question}
use Rattle.roll_call.specs.Topics.{Topic}
use Rattle.roll_call.specs.Tellers.{TellerValue, silent, is_counts_due, page_due, asked_for, called, is_pending, told_counts, told_page}

-- all members in rising order; the number of the last ask; the member whose turn was last, and when it was; how many packets came and
-- votes were saved; and when the last did
pub record AsksValue : Type 0 where
  pub tellers : List TellerValue
  pub asked : ℕ
  pub turn : ℕ
  pub round : ℕ
  pub news : ℕ
  pub last : ℕ

-- at the start, at a moment: the first turn is that of the member behind the station
abbrev pub asks_from : Origin → ℕ → AsksValue
asks_from own now = record { tellers = replicate 15 silent; asked = 0; turn = own.member; round = now; news = 0; last = now }

-- the member at a place
abbrev pub teller_at : ℕ → List TellerValue → TellerValue
teller_at place tellers = slice_index_or tellers place silent

-- the member at a place is so, and the rest stays
abbrev pub with_teller : ℕ → TellerValue → AsksValue → AsksValue
with_teller place t a = record a { tellers = slice_set a.tellers place t }

-- the member behind one, except the station itself
abbrev pub behind : Origin → ℕ → ℕ
behind own m = if m + 1 == own.member then m + 2 else m + 1

-- whose turn it is after that of a member: the other one behind it, or else the first
abbrev pub turn_after : Origin → ℕ → ℕ
turn_after own m = if nat_le (behind own m) (min own.count 15) then behind own m else behind own 0

-- a member's turn comes at a moment
abbrev pub with_turn : ℕ → ℕ → AsksValue → AsksValue
with_turn m now a = with_teller (m - 1) (called (teller_at (m - 1) a.tellers)) (record a { turn = m; round = now })

-- every 10,000 ms it is the next member's turn
abbrev pub turned : Origin → ℕ → AsksValue → AsksValue
turned own now a = if nat_le 10_000 (now - a.round) then with_turn (turn_after own a.turn) now a else a

-- a packet came or a vote was saved, at a moment
abbrev pub came_at : ℕ → AsksValue → AsksValue
came_at now a = record a { news = (a.news + 1) % 2 ^ 64; last = now }

-- what a look goes by at a moment: it is quiet where nothing came for 1,000 ms
abbrev pub look_at : ℕ → AsksValue → RollLook
look_at now a = record { moment = now; news = a.news; is_quiet = nat_le 1000 (now - a.last) }

-- the member at a place is another one of the circuit
abbrev pub is_other : Origin → ℕ → Bool
is_other own place = nat_lt place own.count && not (place + 1 == own.member)

-- the member at a place is asked for its counts now
abbrev pub counts_due_at : Origin → RollLook → List TellerValue → ℕ → Bool
counts_due_at own l tellers place = is_other own place && is_counts_due l (teller_at place tellers)

-- the page that the member at a place is asked for now, where nobody is asked for counts
abbrev pub page_due_at : Origin → ℕ → List TellerValue → ℕ → Option ℕ
page_due_at own now tellers place = if is_other own place then page_due now (teller_at place tellers) else None

-- none of the first members is asked for its counts
abbrev pub NoCountsDue : Origin → RollLook → List TellerValue → ℕ → Type 0
NoCountsDue own l tellers many = (place : ℕ) → place < many → counts_due_at own l tellers place ≡ false

-- the first member that is asked for its counts, if one is
abbrev pub IsFirstDue : Origin → RollLook → List TellerValue → Option ℕ → Type 0
IsFirstDue own l tellers None = NoCountsDue own l tellers (length tellers)
IsFirstDue own l tellers (Some place) = (place < length tellers) × (counts_due_at own l tellers place ≡ true) × NoCountsDue own l tellers place

-- the lowest page that one of the first members is asked for, and a member that is, if one is
abbrev pub IsLowestDue : Origin → ℕ → List TellerValue → ℕ → Option (ℕ × ℕ) → Type 0
IsLowestDue own now tellers many None = (place : ℕ) → place < many → page_due_at own now tellers place ≡ None
IsLowestDue own now tellers many (Some (place, page)) =
    (place < many) × (page_due_at own now tellers place ≡ Some page)
    × ((k : ℕ) → k < many → IfSome (page_due_at own now tellers k) (λ other. page ≤ other))

-- a page is below the lowest so far
abbrev pub is_lower : ℕ → Option (ℕ × ℕ) → Bool
is_lower page None = true
is_lower page (Some (place, low)) = nat_lt page low

-- who is asked for what, if anybody is: for its counts first; else, where pages may be asked for, the lowest page
abbrev pub IsChoice : Origin → RollLook → Bool → List TellerValue → Option (ℕ × Topic) → Type 0
IsChoice own l may tellers (Some (place, None)) = IsFirstDue own l tellers (Some place)
IsChoice own l may tellers (Some (place, Some page)) =
    IsFirstDue own l tellers None × (may ≡ true) × IsLowestDue own l.moment tellers (length tellers) (Some (place, page))
IsChoice own l may tellers None = IsFirstDue own l tellers None × ((may ≡ false) ⊎ IsLowestDue own l.moment tellers (length tellers) None)

-- a member is asked for something, by the next number
abbrev pub with_question : RollLook → Question → AsksValue → AsksValue
with_question l q a =
    with_teller (q.to - 1) (asked_for l q.asked q.page (teller_at (q.to - 1) a.tellers)) (record a { asked = q.asked })

-- the member at a place is asked for something, by the next number
pub record IsQuestion (l : RollLook) (place : ℕ) (topic : Topic) (old new : AsksValue) (q : Question) : Type 0 where
  pub to : q.to ≡ place + 1
  pub page : q.page ≡ topic
  pub asked : q.asked ≡ (old.asked + 1) % 2 ^ 32
  pub after : new ≡ with_question l q old

-- what is asked at a moment, if anything is
abbrev pub IsAsked : Origin → ℕ → Bool → AsksValue → AsksValue → Option Question → Type 0
IsAsked own now may old new None =
    let a = turned own now old in
    IsChoice own (look_at now a) may a.tellers None × (new ≡ a)
IsAsked own now may old new (Some q) =
    let a = turned own now old in
    IsChoice own (look_at now a) may a.tellers (Some (q.to - 1, q.page)) × (q.asked ≡ (a.asked + 1) % 2 ^ 32) × (new ≡ with_question (look_at now a) q a)

-- a member was asked for something, by this number, and did not tell yet
abbrev pub is_asked_for : (member asked : ℕ) → Topic → AsksValue → Bool
is_asked_for member asked page a = is_pending asked page (teller_at (member - 1) a.tellers).pending

-- a member told its counts
abbrev pub counts_told : (member asked : ℕ) → List ℕ → AsksValue → AsksValue
counts_told member asked counts a = with_teller (member - 1) (told_counts asked counts (teller_at (member - 1) a.tellers)) a

-- a member told a page, on which so many numbers have a vote
abbrev pub page_told : (member asked page count : ℕ) → AsksValue → AsksValue
page_told member asked page count a = with_teller (member - 1) (told_page asked page count (teller_at (member - 1) a.tellers)) a

-- it told its counts since the start, and each page of them that has votes
abbrev pub is_whole : TellerValue → Bool
is_whole t = t.heard.is_whole

-- how many members did
abbrev pub whole_many : AsksValue → ℕ
whole_many a = count_by is_whole a.tellers

-- so many did, of the 15 of the greatest circuit
pub record AreWhole (a : AsksValue) (n : ℕ) : Type 0 where
  pub many : n ≡ whole_many a
  pub few : n ≤ 15
