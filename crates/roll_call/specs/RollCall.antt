-- What a station knows of the votes of its circuit by roll calls.
use Rattle.std.specs.Prelude.{◌≡◌, ◌≤◌, ◌⊎◌, ℕ, ◌+◌, ◌-◌, ◌*◌, Bool, true, false, nat_lt, Option, Some, None}
use Rattle.gone_out.specs.declared.origin.Origin.{Origin}
use Rattle.gone_out.specs.Files.{IsNumber}
use Rattle.gone_out.specs.Numbers.{has}
use Rattle.rolls.specs.Pages.{page_of}
use Rattle.rolls.specs.Votes.{has_vote, how_many}
use Rattle.rolls.specs.Rolls.{Roll, Body}
use Rattle.rolls.specs.Rolls as bodies
use Rattle.roll_call.specs.declared.ask.Ask.{Ask}
use Rattle.roll_call.specs.declared.asks.Question.{Question}
use Rattle.roll_call.specs.Topics.{Topic, the_counts, question_of}
use Rattle.roll_call.specs.Answers.{AnswersValue, asked_one, turn_of, TakesTurn}
use Rattle.roll_call.specs.Asks.{AsksValue, is_asked_for, counts_told, page_told, is_other, whole_many, IsAsked}
use Rattle.roll_call.specs.Held.{HeldValue}

-- the station; which numbers have a vote there, and how many of each page; what others ask; and what it asks them
pub record RollCallValue : Type 0 where
  pub own : Origin
  pub held : HeldValue
  pub answers : AnswersValue
  pub asks : AsksValue

-- what is told of the votes of the station: how many numbers of each page have one, or which of a page
abbrev pub IsTold : HeldValue → Topic → Body → Type 0
IsTold h None (bodies.Counts counts) = counts ≡ h.counts
IsTold h (Some asked) (bodies.Page page bytes) =
    (page ≡ asked) × ((n : ℕ) → IsNumber n → page_of n ≡ asked → has_vote (record { page = page; bytes = bytes }) n ≡ has h.votes n)
IsTold h asked body = ⊥

-- the roll answers this ask of a member
pub record IsAnswer (own : Origin) (h : HeldValue) (ask : Ask) (member : ℕ) (r : Roll) : Type 0 where
  pub circuit : r.circuit ≡ own.circuit
  pub from : r.from ≡ own.member
  pub to : r.to ≡ member
  pub asked : r.asked ≡ ask.asked
  pub told : IsTold h ask.page r.body

-- the roll that asks a question
abbrev pub asking : Origin → Question → Roll
asking own q = record { circuit = own.circuit; from = own.member; to = q.to; asked = q.asked; body = question_of q.page }

-- a member is answered what it waits for longest, and nobody is asked
abbrev pub IsAnswered : RollCallValue → RollCallValue → ℕ → Roll → Type 0
IsAnswered old new now r =
    (ask : Ask) × TakesTurn now (Some (ask, r.to)) old.answers new.answers × IsAnswer old.own old.held ask r.to r × (new.asks ≡ old.asks)

-- nobody is to be answered, and another member of the circuit is asked
abbrev pub IsAsking : RollCallValue → RollCallValue → ℕ → Bool → Roll → Type 0
IsAsking old new now may r =
    (q : Question) × TakesTurn now None old.answers new.answers × IsAsked old.own now may old.asks new.asks (Some q)
    × (is_other old.own (q.to - 1) ≡ true) × (r ≡ asking old.own q)

-- what is sent next, if anything is: an answer, or else an ask
abbrev pub IsNext : RollCallValue → RollCallValue → ℕ → Bool → Option Roll → Type 0
IsNext old new now may None = TakesTurn now None old.answers new.answers × IsAsked old.own now may old.asks new.asks None
IsNext old new now may (Some r) = IsAnswered old new now r ⊎ IsAsking old new now may r

-- a roll of this circuit to the station, from another member of it
pub record IsHeard (own : Origin) (r : Roll) : Type 0 where
  pub circuit : r.circuit ≡ own.circuit
  pub to : r.to ≡ own.member
  pub from : r.from ≤ own.count
  pub apart : ¬ (r.from ≡ own.member)

-- what is known after a member said this: an ask waits, and what was asked for is kept
abbrev pub after : (member asked : ℕ) → Body → RollCallValue → RollCallValue
after member asked bodies.CountsAsked c = record c { answers = asked_one member (record { asked = asked; page = the_counts }) c.answers }
after member asked (bodies.Counts counts) c = record c { asks = counts_told member asked counts c.asks }
after member asked (bodies.PageAsked page) c = record c { answers = asked_one member (record { asked = asked; page = Some page }) c.answers }
after member asked (bodies.Page page bytes) c =
    record c { asks = page_told member asked page (how_many (record { page = page; bytes = bytes })) c.asks }

-- what a member said tells what it was asked for
abbrev pub is_wanted : (member asked : ℕ) → Body → RollCallValue → Bool
is_wanted member asked bodies.CountsAsked c = false
is_wanted member asked (bodies.Counts counts) c = is_asked_for member asked the_counts c.asks
is_wanted member asked (bodies.PageAsked page) c = false
is_wanted member asked (bodies.Page page bytes) c = is_asked_for member asked (Some page) c.asks

-- a majority, the station itself among it, told its counts since the start, and each page of them that has votes
abbrev pub is_told : RollCallValue → Bool
is_told c = nat_lt c.own.count (2 * (whole_many c.asks + 1))

-- what is asked next, if anything is; the rest stays
abbrev pub AsksNext : RollCallValue → RollCallValue → ℕ → Bool → Option Roll → Type 0
AsksNext old new now may None = (new ≡ record old { asks = new.asks }) × IsAsked old.own now may old.asks new.asks None
AsksNext old new now may (Some r) =
    (new ≡ record old { asks = new.asks })
    × ((q : Question) × IsAsked old.own now may old.asks new.asks (Some q) × (is_other old.own (q.to - 1) ≡ true) × (r ≡ asking old.own q))

-- a member is answered, if one is to be; the rest stays
abbrev pub Replies : RollCallValue → RollCallValue → ℕ → Option Roll → Type 0
Replies old new now None = (turn_of now old.answers ≡ None) × (new ≡ old)
Replies old new now (Some r) =
    (new ≡ record old { answers = new.answers })
    × ((ask : Ask) × TakesTurn now (Some (ask, r.to)) old.answers new.answers × IsAnswer old.own old.held ask r.to r)
