-- What a plant knows of the votes of its circuit, where it knows its own rows.
use Rattle.std.specs.Prelude.{◌≡◌, ℕ, Bool, true, false, Option, Some, None, IfSome}
use Rattle.std.specs.Option.{option_map}
use Rattle.gone_out.specs.declared.origin.Origin.{Origin}
use Rattle.gone_out.specs.Numbers.{has}
use Rattle.node_core.specs.declared.turn.Note.{Note}
use Rattle.node_core.specs.declared.turn.Note.TheVariants as notes
use Rattle.rolls.specs.Rolls.{Roll}
use Rattle.roll_call.specs.Answers.{turn_of}
use Rattle.roll_call.specs.Asks.{came_at, whole_many}
use Rattle.roll_call.specs.Held.{IsVoted as HasVoted}
use Rattle.roll_call.specs.RollCall.{RollCallValue, AsksNext, IsHeard, Replies, after, is_told, is_wanted}

-- it is the plant's own
abbrev pub IsOwnCall : Origin → Option RollCallValue → Type 0
IsOwnCall own rolls = IfSome rolls (λ (c : RollCallValue). c.own ≡ own)

-- it stays so
abbrev pub KeepsOwn : Option RollCallValue → Option RollCallValue → Type 0
KeepsOwn old new = (own : Origin) → IsOwnCall own old → IsOwnCall own new

-- a packet came or a vote was saved
abbrev pub came_in : ℕ → Option RollCallValue → Option RollCallValue
came_in now rolls = option_map (λ (c : RollCallValue). record c { asks = came_at now c.asks }) rolls

-- the own row of a number has a vote now, and the rest of what is known stays
pub record IsVoted (old new : RollCallValue) (number now : ℕ) : Type 0 where
  pub held : HasVoted number old.held new.held
  pub rest : new ≡ record old { held = new.held; asks = came_at now old.asks }

abbrev pub IsVotedIn : Option RollCallValue → Option RollCallValue → ℕ → ℕ → Type 0
IsVotedIn None new number now = new ≡ None
IsVotedIn (Some c) None number now = ⊥
IsVotedIn (Some c) (Some d) number now = IsVoted c d number now

-- the own row of a number has a vote
abbrev pub has_vote_in : ℕ → Option RollCallValue → Bool
has_vote_in number None = false
has_vote_in number (Some c) = has c.held.votes number

-- a step with this note saved a vote
abbrev pub saves_vote : Note → Bool
saves_vote (notes.Proposed b) = true
saves_vote (notes.Voted b) = true
saves_vote note = false

-- a step about a number was done: where it saved a vote, the number is among the own votes
abbrev pub IsNotedIn : Bool → Option RollCallValue → Option RollCallValue → ℕ → ℕ → Type 0
IsNotedIn true old new number now = IsVotedIn old new number now
IsNotedIn false old new number now = new ≡ old

-- a roll tells what was asked for
abbrev pub is_wanted_in : Roll → Option RollCallValue → Bool
is_wanted_in r None = false
is_wanted_in r (Some c) = is_wanted r.from r.asked r.body c

-- a roll of this circuit came, from another member of it
abbrev pub heard_in : Roll → Option RollCallValue → Option RollCallValue
heard_in r rolls = option_map (after r.from r.asked r.body) rolls

-- such a roll
abbrev pub IsForMe : Option RollCallValue → Roll → Type 0
IsForMe rolls r = IfSome rolls (λ (c : RollCallValue). IsHeard c.own r)

-- the next roll that answers, if there is one
abbrev pub IsReplyOf : Option RollCallValue → Option RollCallValue → ℕ → Option Roll → Type 0
IsReplyOf None new now r = (new ≡ None) × (r ≡ None)
IsReplyOf (Some c) None now r = ⊥
IsReplyOf (Some c) (Some d) now r = Replies c d now r

-- nobody is to be answered
abbrev pub NoReply : ℕ → Option RollCallValue → Type 0
NoReply now None = Unit {0}
NoReply now (Some c) = turn_of now c.answers ≡ None

-- the next roll that asks, if there is one
abbrev pub IsAskOf : Option RollCallValue → Option RollCallValue → ℕ → Bool → Option Roll → Type 0
IsAskOf None new now may r = (new ≡ None) × (r ≡ None)
IsAskOf (Some c) None now may r = ⊥
IsAskOf (Some c) (Some d) now may r = AsksNext c d now may r

-- the own votes and what is to be answered stay; whose turn it is to be asked may have changed
abbrev pub SameVotes : Option RollCallValue → Option RollCallValue → Type 0
SameVotes None new = new ≡ None
SameVotes (Some c) None = ⊥
SameVotes (Some c) (Some d) = d ≡ record c { asks = d.asks }

-- a majority told its votes
abbrev pub is_told_in : Option RollCallValue → Bool
is_told_in None = false
is_told_in (Some c) = is_told c

-- how many others told them
abbrev pub told_by_in : Option RollCallValue → ℕ
told_by_in None = 0
told_by_in (Some c) = whole_many c.asks

-- how many asks of others were dropped
abbrev pub dropped_in : Option RollCallValue → ℕ
dropped_in None = 0
dropped_in (Some c) = c.answers.dropped

-- a packet came or a vote was saved, and what is known stays the plant's own
pub record Came (old new : Option RollCallValue) (now : ℕ) : Type 0 where
  pub came : new ≡ came_in now old
  pub own : KeepsOwn old new

-- the own row of a number has a vote, which is saved
pub record Voted (old new : Option RollCallValue) (number now : ℕ) : Type 0 where
  pub voted : IsVotedIn old new number now
  pub own : KeepsOwn old new

-- a step about a number was done with this note
pub record Noted (note : Note) (old new : Option RollCallValue) (number now : ℕ) : Type 0 where
  pub noted : IsNotedIn (saves_vote note) old new number now
  pub own : KeepsOwn old new

-- a roll came that is the plant's to hear
pub record Heard (r : Roll) (old new : Option RollCallValue) : Type 0 where
  pub heard : new ≡ heard_in r old
  pub own : KeepsOwn old new

-- the next roll that answers was taken, if there is one
pub record Answered (old new : Option RollCallValue) (now : ℕ) (r : Option Roll) : Type 0 where
  pub reply : IsReplyOf old new now r
  pub own : KeepsOwn old new

-- the next roll that asks was taken, if there is one
pub record Asked (old new : Option RollCallValue) (now : ℕ) (may : Bool) (r : Option Roll) : Type 0 where
  pub ask : IsAskOf old new now may r
  pub own : KeepsOwn old new
  pub votes : SameVotes old new
