-- What is kept in mind of catching up, and what becomes of it.
use Rattle.std.specs.Prelude.{◌≡◌, ◌⊎◌, ℕ, true, false, List, [], ◌∷◌, length, Option, Some, None, IfSome, is_some}
use Rattle.protocol.specs.Circuit.{Datagram}
use Rattle.node_core.specs.declared.turn.Note.{Note}
use Rattle.node_core.specs.declared.turn.Note.TheVariants as notes
use Rattle.driver.specs.declared.said.Said.{Said}
use Rattle.station.specs.declared.answer.Answer.{Answer}
use Rattle.station.specs.declared.answer.Release.{Release}
use Rattle.driver.specs.declared.sink.HeardDatagram.{HeardDatagram}
use Rattle.driver.specs.declared.sink.HeardDatagram.TheVariants as heards
use Rattle.driver.specs.declared.sink.TakenStep.{TakenStep}
use Rattle.rolls.specs.declared.aside.Aside.{Aside}
use Rattle.catch_up.specs.Asked.{told_to}
use Rattle.catch_up.specs.CatchUp.{CatchUpValue, IsNext, calm}
use Rattle.catch_up.specs.Errands.{IsGoodErrand}
use Rattle.catch_up.specs.Hearing.{IsHeard, with_taken}
use Rattle.catch_up.specs.Lacking.{IsOutOf, SameGone, gone_in}
use Rattle.catch_up.specs.Recalling.{left_in}
use Rattle.catch_up.specs.Waves.{out_in}
use Rattle.catch_up.specs.Unheard.{heard_by}
use Rattle.catch_up.specs.declared.errand.Errand.{Errand}
use Rattle.catch_up.specs.declared.errand.Errand.TheVariants.{Send, Tell, Seek}
use Rattle.folders.specs.Doings.{Doing, noted_before, noted_gone, Does, MayDo}
use Rattle.plant_care.specs.Asking.{is_search_due, IsSearched}
use Rattle.plant_care.specs.declared.ask.RangeAsk.{RangeAsk}
use Rattle.plant_care.specs.declared.care.Care.{Care}

-- news came of a number, at most: what went out, what is recalled and what others asked stays
abbrev pub HasNews : CatchUpValue → CatchUpValue → Type 0
HasNews old new = (new ≡ record old { healing = new.healing; rolls = new.rolls }) × SameGone old.healing new.healing

-- the same, and the rest is kept in mind as it was
abbrev pub KeepsGone : Care → Care → Type 0
KeepsGone old new = (new ≡ record old { catch_up = new.catch_up }) × HasNews old.catch_up new.catch_up

-- a datagram was taken in that says nothing
abbrev pub passed_by : Care → Care
passed_by c = record c { catch_up = with_taken c.catch_up }

-- a packet came: there is news of its number, or it says nothing
abbrev pub IsPacketHeard : Option Said → Care → Care → Type 0
IsPacketHeard None old new = new ≡ passed_by old
IsPacketHeard (Some said) old new = KeepsGone old new

-- a recall or a roll came and was read: it was heard or passed over, and that may have been told
abbrev pub IsAsideHeard : Aside → ℕ → Care → Care → Type 0
IsAsideHeard found now old new =
    (new ≡ record old { catch_up = new.catch_up; recalls = new.recalls; rolls = new.rolls })
    × IsHeard old.catch_up new.catch_up found now (heard_by old.catch_up.own found)

-- a datagram was taken in
abbrev pub IsHeardSo : HeardDatagram → ℕ → Care → Care → Type 0
IsHeardSo (heards.Taken said) now old new = IsPacketHeard said old new
IsHeardSo (heards.Refused refusal) now old new = new ≡ passed_by old
IsHeardSo (heards.Aside found) now old new = IsAsideHeard found now old new

-- where a vote was told again in a datagram, its bytes are counted for the member that it goes to
abbrev pub told_in : Note → List Datagram → ℕ → CatchUpValue → CatchUpValue
told_in (notes.Recalled ballot) (d ∷ out) now c = record c { asked = told_to d.to (length d.bytes) now c.asked }
told_in note out now c = c

abbrev pub told_by : Answer → ℕ → CatchUpValue → CatchUpValue
told_by answer now c = told_in answer.note answer.out.items now c

-- a number went out
abbrev pub IsLeft : ℕ → CatchUpValue → CatchUpValue → Type 0
IsLeft number old new =
    IsOutOf old.healing new.healing number
    × (new ≡ record old { healing = new.healing; recalling = left_in number old.recalling; wave = out_in (gone_in old.healing number) number old.wave })

-- a released number went out
abbrev pub HasLeft : Option Release → Care → Care → Type 0
HasLeft None old new = new ≡ old
HasLeft (Some r) old new = (new ≡ record old { catch_up = new.catch_up }) × IsLeft r.number old.catch_up new.catch_up

-- a step may be an answer to what is asked for by hand, and may have saved a row before it was known what went out
abbrev pub IsAskHeard : Care → Care → Type 0
IsAskHeard old new = new ≡ record old { ask = new.ask; waiting = new.waiting }

-- a step was taken: there is news of its number, if it is about one; it may answer what is asked for by hand; what it told again is counted;
-- and what it released went out
abbrev pub IsDone : TakenStep → Care → Care → Type 0
IsDone step old new =
    (heard : Care) × (asked : Care) × (told : Care) × KeepsGone old heard × IsAskHeard heard asked
    × (told ≡ record asked { catch_up = told_by step.answer step.moment asked.catch_up })
    × HasLeft step.answer.release told new

-- numbers that are asked for are to be told
abbrev pub KeepsMissed : Care → Care → Type 0
KeepsMissed old new = new ≡ record old { catch_up = new.catch_up; missed = new.missed; lacked = new.lacked }

-- a search of what is asked for by hand: of the number whose turn it is; or there is none to begin
abbrev pub IsSpent : Option RangeAsk → Option RangeAsk → Option Errand → Type 0
IsSpent old new None = is_search_due new ≡ false
IsSpent old new (Some (Seek number)) = IsSearched old new number
IsSpent old new (Some (Send to bytes)) = ⊥
IsSpent old new (Some (Tell number to)) = ⊥

-- what comes next: an errand of catching up; or, where that has none or no memory for it, a search that is asked for by hand, or nothing
abbrev pub IsErrand : ℕ → Care → Care → Option Errand → Type 0
IsErrand now old new None = (new.catch_up.is_stirred ≡ false) × IsSpent old.ask new.ask None
IsErrand now old new (Some errand) =
    (IsNext (calm old.catch_up) (calm new.catch_up) now (Some errand) × (new.ask ≡ old.ask))
    ⊎ ((new.catch_up.is_stirred ≡ false) × IsSpent old.ask new.ask (Some errand))

-- that is found, and nothing else changes
pub record FindsErrand (now : ℕ) (old new : Care) (errand : Option Errand) : Type 0 where
  pub good : IfSome errand IsGoodErrand
  pub next : IsErrand now old new errand
  pub rest : new ≡ record old { catch_up = new.catch_up; ask = new.ask }

-- the same, and the numbers that it asks for are to be told
abbrev pub ComesNext : ℕ → Option Errand → Care → Care → Type 0
ComesNext now errand old new = (between : Care) × IsErrand now old between errand × KeepsMissed (record between { had_turn = is_some errand }) new

-- behind an errand no other comes at once
abbrev pub TakesTurns : Option Errand → Care → Care → Type 0
TakesTurns errand old new =
    (new ≡ record old { catch_up = new.catch_up; had_turn = new.had_turn; ask = new.ask; missed = new.missed; lacked = new.lacked })
    × (new.had_turn ≡ is_some errand) × (old.had_turn ≡ true → errand ≡ None)

-- a search was not taken: its number waits again
abbrev pub Declines : Care → Care → Type 0
Declines old new = (new ≡ record old { catch_up = new.catch_up; ask = new.ask }) × HasNews old.catch_up new.catch_up

-- what was told of what is asked for changes, and what is lacked; a station asks on its own as before
abbrev pub KeepsRest : Care → Care → Type 0
KeepsRest old new =
    (new ≡ record old { catch_up = new.catch_up; told_few = new.told_few; lacked = new.lacked })
    × (new.catch_up.asks ≡ old.catch_up.asks)

-- nothing changes except what is told of what can't be noted
abbrev pub TellsNotes : Care → Care → Type 0
TellsNotes old new = new ≡ record old { notes = new.notes }

-- Of numbers that went out, these are left to be noted: there was none to note; they were noted; or that was refused, and all of them are.
abbrev pub AreNotedGone : {F : Type 0} → (F → Option (List Doing)) → (F → F → Type 0) → F → F → List ℕ → List ℕ → Type 0
AreNotedGone doings refuses old new had left =
    ((had ≡ []) × (left ≡ []) × (doings new ≡ doings old))
    ⊎ ((left ≡ []) × Does (doings old) (doings new) (noted_gone had ∷ []))
    ⊎ ((left ≡ had) × MayDo (doings old) (doings new) (noted_gone had) × refuses old new)

-- numbers that went out before that was kept were noted, or may have been, or nothing was done
abbrev pub AreNotedBefore : Option (List Doing) → Option (List Doing) → List ℕ → Type 0
AreNotedBefore old new numbers = (new ≡ old) ⊎ Does old new (noted_before numbers ∷ []) ⊎ MayDo old new (noted_before numbers)

-- the same of whichever numbers
abbrev pub AnyAreNotedBefore : Option (List Doing) → Option (List Doing) → Type 0
AnyAreNotedBefore old new = (numbers : List ℕ) × AreNotedBefore old new numbers

-- Numbers that went out before that was kept were noted, or may have been, and only if no number waits to be noted that was released since. Or
-- nothing was done.
abbrev pub NotesBefore : List ℕ → Option (List Doing) → Option (List Doing) → Type 0
NotesBefore released old new = (new ≡ old) ⊎ ((released ≡ []) × AnyAreNotedBefore old new)

-- the names of the files that were written are seen to, and what is told of that is all that changes; with the offers nothing is done
pub record SettlesNames {F : Type 0} (doings : F → Option (List Doing)) (folders folders' : F) (old new : Care) : Type 0 where
  pub notes : new ≡ record old { notes = new.notes }
  pub does : doings folders' ≡ doings folders
