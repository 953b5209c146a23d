-- What becomes of a recall or a roll that came.
use Rattle.std.specs.Prelude.{◌≡◌, ℕ, true, Result, Ok, Err, OnOk, OnErr}
use Rattle.recalls.specs.Tickets.{Ticket}
use Rattle.recalls.specs.Recalls.{Recall}
use Rattle.rolls.specs.declared.aside.Aside.{Aside}
use Rattle.rolls.specs.declared.aside.Aside.TheVariants as asides
use Rattle.catch_up.specs.declared.unheard.Unheard.{Unheard}
use Rattle.catch_up.specs.Asked.{asked_all}
use Rattle.catch_up.specs.Lacking.{taken_in}
use Rattle.catch_up.specs.CatchUp.{CatchUpValue}
use Rattle.catch_up.specs.Held.{IsRollHeard}
use Rattle.catch_up.specs.Unheard.{checked}

-- a datagram was taken in
abbrev pub with_taken : CatchUpValue → CatchUpValue
with_taken c = record c { healing = taken_in c.healing }

-- the numbers of a recall wait to be told to the asker
abbrev pub with_recall : Recall → CatchUpValue → CatchUpValue
with_recall r c = record c { asked = asked_all r.from r.numbers c.asked; is_stirred = true }

-- a recall or a roll was heard or passed over
abbrev pub IsHeard : CatchUpValue → CatchUpValue → Aside → ℕ → Result (Unit {0}) Unheard → Type 0
IsHeard old new heard now (Err why) = new ≡ with_taken old
IsHeard old new (asides.Recall (Ok r)) now (Ok done) = new ≡ with_recall r (with_taken old)
IsHeard old new (asides.Roll (Ok r)) now (Ok done) = IsRollHeard (with_taken old) new r now
IsHeard old new (asides.Recall (Err fault)) now (Ok done) = ⊥
IsHeard old new (asides.Roll (Err fault)) now (Ok done) = ⊥

-- by its ticket something is heard, or it is passed over and changes nothing
pub record IsHeardBy (ticket : Ticket) (old new : CatchUpValue) (is_heard : Type 0) (result : Result (Unit {0}) Unheard) : Type 0 where
  pub answer : result ≡ checked old.own ticket
  pub ok : OnOk result is_heard
  pub err : OnErr result (new ≡ old)
