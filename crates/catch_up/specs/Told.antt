-- What a plant that catches up is told of its station.
use Rattle.std.specs.Prelude.{◌≡◌, ℕ, Bool, Result, OnOk}
use Rattle.std.specs.declared.alloc.AllocError.{AllocError}
use Rattle.node_core.specs.declared.turn.Note.{Note}
use Rattle.healing.specs.declared.news.NumberNews.TheVariants.{Closed}
use Rattle.catch_up.specs.declared.packet.PacketHead.{PacketHead}
use Rattle.catch_up.specs.News.{all_news, packet_news}
use Rattle.catch_up.specs.Lacking.{AreToldOf, IsToldOf, SameGone, taken_in}
use Rattle.catch_up.specs.Calls.{IsNotedIn, came_in, saves_vote}
use Rattle.catch_up.specs.CatchUp.{CatchUpValue}

-- a packet was taken in: it is news of its number, where memory sufficed; what went out stays, and the rest
pub record HasCome (p : PacketHead) (old new : CatchUpValue) (now : ℕ) (result : Result (Unit {0}) AllocError) : Type 0 where
  pub ok : OnOk result (IsToldOf (taken_in old.healing) new.healing p.number (packet_news p) now)
  pub rest : new ≡ record old { healing = new.healing; rolls = came_in now old.rolls }
  pub gone : SameGone old.healing new.healing

-- a step of the station: the number that it is about, its note, and whether it opened a ballot for a file among the offers
pub record Step : Type 0 where
  pub number : ℕ
  pub note : Note
  pub opened : Bool

-- a step was done: a vote that it saved is an own one, and all its news were told, where memory sufficed; what went out stays, and the rest
pub record IsStepTold (s : Step) (old new : CatchUpValue) (now : ℕ) (result : Result (Unit {0}) AllocError) : Type 0 where
  pub ok : OnOk result (AreToldOf old.healing new.healing s.number (all_news s.note s.opened) now)
  pub rolls : IsNotedIn (saves_vote s.note) old.rolls new.rolls s.number now
  pub rest : new ≡ record old { healing = new.healing; rolls = new.rolls }
  pub gone : SameGone old.healing new.healing

-- no search of a number was taken: it waits again, where memory sufficed; what went out stays, and the rest
pub record IsDeclined (number : ℕ) (old new : CatchUpValue) (now : ℕ) (result : Result (Unit {0}) AllocError) : Type 0 where
  pub ok : OnOk result (IsToldOf old.healing new.healing number Closed now)
  pub rest : new ≡ record old { healing = new.healing }
  pub gone : SameGone old.healing new.healing
