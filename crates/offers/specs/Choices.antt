-- What each step of the choice finds, and where the work goes on behind it.
use Rattle.std.specs.Prelude.{◌≡◌, ◌<◌, ◌≤◌, ◌-◌, ◌*◌, ℕ, Bool, true, Option, None, length, IfSome}
use Rattle.folders.specs.declared.names.FileRequest.{FileRequest}
use Rattle.offers.specs.declared.deed.Deed.{Deed}
use Rattle.offers.specs.Left.{HasLeft, IsOtherAt, NoOthers}
use Rattle.offers.specs.Rules.{Standing, MayDo}
use Rattle.offers.specs.Turns.{IsAskOf, IsMove, IsOtherDeed, IsAskOrOther, IsEarly, IsStill, AdvancesOther, row_after, done_by}

-- the rules let a file be moved so
abbrev pub MayMoveBy : Standing → Deed → Type 0
MayMoveBy b deed = MayDo b deed × IsMove deed

-- the rules let a file be read or refused so
abbrev pub MayTakeBy : Standing → Deed → Type 0
MayTakeBy b deed = MayDo b deed × IsOtherDeed deed

-- a file is read or refused next, or none is
pub record TakesNext (old new : Standing) (deed : Option Deed) : Type 0 where
  -- the rules let it be done
  pub rules : IfSome deed (MayTakeBy old)
  -- none of those that were passed over is read or refused now
  pub passed : NoOthers old old.others (new.others - 1)
  -- the work goes on behind it
  pub forward : IfSome deed (λ _. old.others < new.others)
  -- and no further than the last place
  pub within : IfSome deed (λ _. new.others ≤ 2 * length old.files)
  -- no more changes than the place and how many were asked for in a row
  pub same : new ≡ record old { others = new.others; row = row_after deed old.row }

-- the first place of those that are left at which a file is read or refused, with the index of the file; or there is none
pub record FindsNextPlace (b : Standing) (found : Option (ℕ × ℕ)) : Type 0 where
  pub some : IfSome found (λ p. IsOtherAt b p.0 p.1)
  pub from : IfSome found (λ p. b.others ≤ p.0)
  pub within : IfSome found (λ p. p.0 < 2 * length b.files)
  pub before : IfSome found (λ p. NoOthers b b.others p.0)
  pub none : found ≡ None → NoOthers b b.others (2 * length b.files)

-- a file is read or refused next where eight were asked for in a row, or none is
pub record TakesOverdue (old new : Standing) (deed : Option Deed) : Type 0 where
  pub takes : TakesNext old new deed
  pub row : IfSome deed (λ _. 8 ≤ old.row)
  pub early : deed ≡ None → IsEarly old new

-- a file of this leaves the offers, or each that is there has left
pub record LeavesOrHasLeft (b : Standing) (request : FileRequest) (deed : Option Deed) : Type 0 where
  pub rules : IfSome deed (MayDo b)
  pub none : deed ≡ None → HasLeft b request

-- something is done with a file beside moves, or nothing is
pub record ChoosesBehindMoves (old new : Standing) (deed : Option Deed) : Type 0 where
  -- the rules let it be done
  pub rules : IfSome deed (MayDo old)
  -- none of the files that were passed over is read or refused now
  pub passed : NoOthers old old.others (new.others - 1)
  -- where a file is read or refused, the work goes on behind it
  pub forward : IfSome deed (AdvancesOther old new)
  -- the book is as the deed leaves it, but for the place and whether it is left to see for which the station may be asked
  pub same : new ≡ record (done_by deed old) { others = new.others; asks = new.asks }

-- the file at an index is asked for, or nothing is done, where 16 numbers are under way
pub record AsksAt (index : ℕ) (old new : Standing) (deed : Option Deed) : Type 0 where
  pub rules : IfSome deed (MayDo old)
  pub kind : IfSome deed (IsAskOf old index)
  pub none : deed ≡ None → 16 ≤ length old.window
  -- the book is as the deed leaves it, and it is left to see for which others the station may be asked
  pub same : new ≡ record (done_by deed old) { asks = new.asks }
  pub asks : new.asks ≡ true

-- a file is asked for, or where there is none to ask for, another is read or refused
pub record AsksOrTakes (asks : Bool) (old new : Standing) (deed : Option Deed) : Type 0 where
  pub chooses : ChoosesBehindMoves old new deed
  pub turn : IsAskOrOther old asks deed
  pub still : deed ≡ None → IsStill old new asks
