-- What a plant does to catch up.
use Rattle.std.specs.Prelude.{◌≡◌, ◌⊎◌, ℕ, ◌+◌, ◌^◌, ◌%◌, Bool, true, false, List, Option, Some, None, Result, IfOk, IfSome}
use Rattle.std.specs.declared.alloc.AllocError.{AllocError}
use Rattle.gone_out.specs.declared.origin.Origin.{Origin}
use Rattle.healing.specs.Healing.{HealingValue}
use Rattle.rolls.specs.Rolls.{Roll}
use Rattle.rolls.specs.Spelling.{spelling}
use Rattle.roll_call.specs.RollCall.{RollCallValue}
use Rattle.catch_up.specs.declared.before.Before.{Before}
use Rattle.catch_up.specs.declared.wave.AskedNumbers.{AskedNumbers}
use Rattle.catch_up.specs.declared.wave.Wave.{Wave}
use Rattle.catch_up.specs.declared.errand.Errand.{Errand}
use Rattle.catch_up.specs.declared.errand.Errand.TheVariants.{Send, Tell, Seek}
use Rattle.catch_up.specs.Asked.{AskedValue, TakesTurn, turn_of}
use Rattle.catch_up.specs.Own.{OwnValue, GoesOn, asked_again, begun}
use Rattle.catch_up.specs.Waves.{AreAskedIn, IsHandedOut, IsWaveOver, missed_in, out_in}
use Rattle.catch_up.specs.Lacking.{gone_in, may_ask_pages, AllRestIn, AreAwaitedOf, AreLacked, IsToBeSought, SameGone}
use Rattle.catch_up.specs.Recalling.{IsDone, IsRecalling, left_in}
use Rattle.catch_up.specs.Calls.{is_told_in, IsAskOf, IsOwnCall, IsReplyOf, NoReply, SameVotes}

-- the plant; what it lacks, if it is known what went out; what it knows of votes, if it is known what has rows; whether it asks on its
-- own; what went out before; what it asked for of late, if it ever does; how many batches it recalled, as far as there are numbers; the
-- batch that it recalls; what others asked; whether there may be an errand; whether errands for others come first, replies before votes,
-- and asks of rolls before recalls
pub record CatchUpValue : Type 0 where
  pub own : Origin
  pub healing : Option HealingValue
  pub rolls : Option RollCallValue
  pub asks : Bool
  pub before : Before
  pub wave : Option AskedNumbers
  pub batches : ℕ
  pub recalling : Option OwnValue
  pub asked : AskedValue
  pub is_stirred : Bool
  pub others_first : Bool
  pub replies_first : Bool
  pub rolls_first : Bool

-- what is recalled is so at all times, and what is known of votes is the plant's own
pub record IsCatchUp (own : Origin) (h : Option HealingValue) (rolls : Option RollCallValue) (recalling : Option OwnValue) : Type 0 where
  pub recalls : IfSome recalling (IsRecalling own h)
  pub calls : IsOwnCall own rolls

-- the plant has recalled a batch more
abbrev pub next_batch : CatchUpValue → ℕ
next_batch c = (c.batches + 1) % 2 ^ 32

-- the errand sends a roll
abbrev pub IsSent : Roll → Errand → Type 0
IsSent r (Send to bytes) = (bytes.items ≡ spelling r) × (r.to ≡ to)
IsSent r (Tell number to) = ⊥
IsSent r (Seek number) = ⊥

-- what is left of the recall: the next member is asked, or the next number told to the plant itself
abbrev pub IsLeft : CatchUpValue → CatchUpValue → Errand → Type 0
IsLeft old new errand =
    (v : OwnValue) × (w : OwnValue) × (old.recalling ≡ Some v) × IsRecalling old.own old.healing v × GoesOn v w (Some errand)
    × (new ≡ record old { recalling = Some w })

-- a batch of what is lacked is recalled
abbrev pub IsNewRecall : CatchUpValue → Option AskedNumbers → ℕ → OwnValue → Type 0
IsNewRecall c wave now v =
    (batch : List ℕ) × AreLacked c.healing now batch × (v ≡ begun c.own (next_batch c) batch) × AreAskedIn c.wave wave batch

-- or what is waited for is asked for once more
abbrev pub IsRecallAgain : CatchUpValue → Option AskedNumbers → ℕ → OwnValue → Type 0
IsRecallAgain c wave now v =
    (batch : List ℕ) × AreAwaitedOf c.healing now batch × (v ≡ asked_again c.own (next_batch c) batch) × (wave ≡ c.wave)

-- a member is asked, or a number is told to the plant itself, by what is recalled now
abbrev pub IsRecalled : CatchUpValue → Option AskedNumbers → ℕ → Errand → Type 0
IsRecalled c wave now errand =
    (v : OwnValue) × (w : OwnValue) × (IsNewRecall c wave now v ⊎ IsRecallAgain c wave now v) × IsRecalling c.own c.healing v
    × GoesOn v w (Some errand)

-- what is lacked is seen to: by a recall, or a number is sought
abbrev pub IsHealed : CatchUpValue → Option AskedNumbers → ℕ → Errand → Type 0
IsHealed c wave now (Seek number) = IsToBeSought c.healing now number × (gone_in c.healing number ≡ false) × (wave ≡ c.wave)
IsHealed c wave now (Send to bytes) = IsRecalled c wave now (Send to bytes)
IsHealed c wave now (Tell number to) = IsRecalled c wave now (Tell number to)

-- the next ask of a roll, if there is one; recalls come first then
abbrev pub IsAsked : CatchUpValue → CatchUpValue → ℕ → Bool → Option Errand → Type 0
IsAsked old new now may None = IsAskOf old.rolls new.rolls now may None × (new.rolls_first ≡ old.rolls_first)
IsAsked old new now may (Some errand) = (r : Roll) × IsAskOf old.rolls new.rolls now may (Some r) × IsSent r errand × (new.rolls_first ≡ false)

-- nobody is to be asked by a roll now
abbrev pub NoAsk : CatchUpValue → ℕ → Type 0
NoAsk c now = (rolls : Option RollCallValue) × IsAskOf c.rolls rolls now (may_ask_pages c.healing) None

-- the same, where asks of rolls come first
abbrev pub IsFirstAsk : CatchUpValue → CatchUpValue → ℕ → Bool → Option Errand → Type 0
IsFirstAsk old new now may None =
    ((old.rolls_first ≡ false) × (new ≡ old)) ⊎ ((old.rolls_first ≡ true) × IsAskOf old.rolls new.rolls now may None × (new.rolls_first ≡ true))
IsFirstAsk old new now may (Some errand) = IsAsked old new now may (Some errand)

-- the same, where they do not come first
abbrev pub IsLastAsk : CatchUpValue → CatchUpValue → ℕ → Bool → Option Errand → Type 0
IsLastAsk old new now may None = Unit {0}
IsLastAsk old new now may (Some errand) = (old.rolls_first ≡ false) × IsAsked old new now may (Some errand)

-- what the plant begins on its own: what is lacked is seen to, where asks of rolls do not come first or nobody is to be asked, and they
-- come first then; or it asks by a roll, for pages only while few numbers are lacked
abbrev pub IsBegun : CatchUpValue → CatchUpValue → ℕ → Errand → Type 0
IsBegun old new now errand =
    (IsHealed old new.wave now errand × ((old.rolls_first ≡ false) ⊎ NoAsk old now) × (new.rolls_first ≡ true))
    ⊎ IsAsked old new now (may_ask_pages old.healing) (Some errand)

-- an errand of the plant's own: what is left of what it recalls, or else what it begins
abbrev pub IsOwnErrand : CatchUpValue → CatchUpValue → ℕ → Errand → Type 0
IsOwnErrand old new now errand = IsLeft old new errand ⊎ (IsDone old.recalling × IsBegun old new now errand)

-- a member is told a vote: the first number of those that wait for it, where replies to rolls do not come first or there is none; they
-- come first then
abbrev pub IsTelling : CatchUpValue → CatchUpValue → ℕ → ℕ → ℕ → Type 0
IsTelling old new now number to =
    TakesTurn now (Some (number, to)) old.asked new.asked × ((old.replies_first ≡ false) ⊎ NoReply now old.rolls)
    × (new ≡ record old { asked = new.asked; replies_first = true })

-- the next reply to a roll, if there is one; votes come first then
abbrev pub IsReplied : CatchUpValue → CatchUpValue → ℕ → Option Errand → Type 0
IsReplied old new now None = NoReply now old.rolls × (new ≡ old)
IsReplied old new now (Some errand) =
    (r : Roll) × IsReplyOf old.rolls new.rolls now (Some r) × IsSent r errand × (new ≡ record old { rolls = new.rolls; replies_first = false })

-- the same, where replies come first
abbrev pub IsFirstReply : CatchUpValue → CatchUpValue → ℕ → Option Errand → Type 0
IsFirstReply old new now None = ((old.replies_first ≡ false) ⊎ NoReply now old.rolls) × (new ≡ old)
IsFirstReply old new now (Some errand) = (old.replies_first ≡ true) × IsReplied old new now (Some errand)

-- nobody is to be told or answered anything
abbrev pub NoneWaits : CatchUpValue → ℕ → Type 0
NoneWaits c now = (turn_of now c.asked ≡ None) × NoReply now c.rolls

-- an errand for others: a member is told a vote, or answered by a roll
abbrev pub IsErrandFor : CatchUpValue → CatchUpValue → ℕ → Option Errand → Type 0
IsErrandFor old new now None = NoneWaits old now × (new ≡ old)
IsErrandFor old new now (Some (Tell number to)) = IsTelling old new now number to
IsErrandFor old new now (Some (Send to bytes)) =
    IsReplied old new now (Some (Send to bytes)) × ((old.replies_first ≡ true) ⊎ (turn_of now old.asked ≡ None))
IsErrandFor old new now (Some (Seek number)) = ⊥

-- errands for others come first, and one of them is ready
abbrev pub AreFirst : CatchUpValue → ℕ → Type 0
AreFirst c now = (c.others_first ≡ true) × ¬ NoneWaits c now

-- an errand for others, where those come first
abbrev pub IsFirstForOthers : CatchUpValue → CatchUpValue → ℕ → Option Errand → Type 0
IsFirstForOthers old new now None = (¬ AreFirst old now) × (new ≡ old)
IsFirstForOthers old new now (Some errand) = (old.others_first ≡ true) × IsErrandFor old new now (Some errand)

-- what comes of an ask of a roll is so, where memory sufficed; nothing changes but whose turn it is to be asked, and what comes first then
pub record IsAsking (old new : CatchUpValue) (is_asked : Option Errand → Type 0) (result : Result (Option Errand) AllocError) : Type 0 where
  pub asked : IfOk result is_asked
  pub rest : new ≡ record old { rolls = new.rolls; rolls_first = new.rolls_first }
  pub votes : SameVotes old.rolls new.rolls

-- what comes of a reply to a roll is so, where memory sufficed; nothing changes but what is to be answered, and what comes first then
pub record IsReplying (old new : CatchUpValue) (is_replied : Option Errand → Type 0) (result : Result (Option Errand) AllocError) : Type 0 where
  pub replied : IfOk result is_replied
  pub rest : new ≡ record old { rolls = new.rolls; replies_first = new.replies_first }

-- what comes of an errand for others is so, where memory sufficed; nothing changes but what waits for them, and what comes first then
pub record IsServing (old new : CatchUpValue) (is_errand : Option Errand → Type 0) (result : Result (Option Errand) AllocError) : Type 0 where
  pub errand : IfOk result is_errand
  pub rest : new ≡ record old { asked = new.asked; rolls = new.rolls; replies_first = new.replies_first }

-- a number went out, of which this is known then: it is recalled no longer, nor is it asked for
abbrev pub out_at : ℕ → Option HealingValue → CatchUpValue → CatchUpValue
out_at number healing c =
    record c { healing = healing; recalling = left_in number c.recalling; wave = out_in (gone_in c.healing number) number c.wave }

-- what is done on the plant's own leaves this: what waits for others, the own votes, and what went out
pub record KeepsOthers (old new : CatchUpValue) : Type 0 where
  pub rest : new ≡ record old { healing = new.healing; rolls = new.rolls; wave = new.wave; batches = new.batches; recalling = new.recalling; rolls_first = new.rolls_first }
  pub votes : SameVotes old.rolls new.rolls
  pub gone : SameGone old.healing new.healing

-- the plant does not ask on its own, or nothing is left of what it recalls
abbrev pub Rests : CatchUpValue → Type 0
Rests c = (c.asks ≡ false) ⊎ IsDone c.recalling

-- an own errand comes next where the plant asks on its own, and those for others do not come first; they come first then
abbrev pub IsOwnNext : CatchUpValue → CatchUpValue → ℕ → Errand → Type 0
IsOwnNext old new now errand =
    (after : CatchUpValue) × (old.asks ≡ true) × ¬ AreFirst old now × IsOwnErrand old after now errand × KeepsOthers old after
    × (new ≡ record after { others_first = true })

-- what comes next for others, where they come first, or the plant has no own errand
abbrev pub IsForOthers : CatchUpValue → CatchUpValue → ℕ → Option Errand → Type 0
IsForOthers old new now errand =
    (before : CatchUpValue) × (after : CatchUpValue) × (((old.others_first ≡ true) × (before ≡ old)) ⊎ (Rests old × KeepsOthers old before))
    × IsErrandFor before after now errand × (new ≡ record after { others_first = false })

-- what comes next: an own errand, or one for others; or nothing, where no own one is left, and nobody waits
abbrev pub IsNext : CatchUpValue → CatchUpValue → ℕ → Option Errand → Type 0
IsNext old new now None = Rests old × NoneWaits old now × KeepsOthers (record old { others_first = false }) new
IsNext old new now (Some errand) = IsOwnNext old new now errand ⊎ IsForOthers old new now (Some errand)

-- whose plant it is, and what went out, stays
pub record StaysItself (old new : CatchUpValue) : Type 0 where
  pub own : new.own ≡ old.own
  pub gone : SameGone old.healing new.healing

-- the next errand is taken, where memory sufficed
pub record TakesNext (old new : CatchUpValue) (now : ℕ) (result : Result (Option Errand) AllocError) : Type 0 where
  pub next : IfOk result (IsNext old new now)
  pub calm : new.is_stirred ≡ old.is_stirred
  pub stays : StaysItself old new

-- the plant, whether there may be an errand aside
abbrev pub calm : CatchUpValue → CatchUpValue
calm c = record c { is_stirred = false }

-- what is told once nothing is lacked any more, and a majority told its votes
pub record IsOver (old new : CatchUpValue) (w : Wave) : Type 0 where
  pub rests : AllRestIn old.healing
  pub told : is_told_in old.rolls ≡ true
  pub wave : IsWaveOver old.wave new.wave w

-- it is taken, if it is told now; the rest stays
pub record IsWaveTaken (old new : CatchUpValue) (w : Option Wave) : Type 0 where
  pub over : IfSome w (IsOver old new)
  pub none : w ≡ None → new ≡ old
  pub rest : new ≡ record old { wave = new.wave }

-- the numbers that were asked for and not handed out yet are taken; the rest stays
pub record AreMissedTaken (old new : CatchUpValue) (numbers : List ℕ) : Type 0 where
  pub missed : numbers ≡ missed_in old.wave
  pub left : IsHandedOut old.wave new.wave
  pub rest : new ≡ record old { wave = new.wave }
