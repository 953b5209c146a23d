-- In which order deeds come, and what each makes of the book.
use Rattle.std.specs.Prelude.{◌≡◌, ◌⊎◌, ◌<◌, ◌≤◌, ◌+◌, ◌*◌, ℕ, List, [], ◌∷◌, ◌++◌, Bool, true, false, nat_lt, nat_le, not, ◌&&◌, ◌||◌, min, Option, Some, None, length, slice_index_or, if◌then◌else◌}
use Rattle.pace.specs.declared.turns.Deeds.{Deeds}
use Rattle.pace.specs.declared.turns.Deeds.TheVariants as deeds
use Rattle.pace.specs.Order.{is_allowed}
use Rattle.offers.specs.declared.deed.Allowed.{Allowed}
use Rattle.offers.specs.declared.deed.Deed.{Deed}
use Rattle.offers.specs.declared.deed.Deed.TheVariants.{Move, Ask, Read, Refuse}
use Rattle.offers.specs.declared.offer.Offer.{Offer}
use Rattle.offers.specs.declared.stage.FileNews.TheVariants as news
use Rattle.folders.specs.declared.names.OfferKind.{OfferKind}
use Rattle.offers.specs.Order.{rank, is_search}
use Rattle.offers.specs.Rules.{Standing}
use Rattle.offers.specs.Asks.{IsFirstAsk}
use Rattle.offers.specs.Left.{NoMoves, NoOthers, NoAsks, NoSearches}
use Rattle.offers.specs.Stages.{after, changed}

-- it moves a file for what was released
abbrev pub IsMove : Deed → Type 0
IsMove (Move r found to) = Unit {0}
IsMove (Ask r) = ⊥
IsMove (Read r found replaced) = ⊥
IsMove (Refuse r found why) = ⊥

-- it reads a file, or refuses one
abbrev pub IsOtherDeed : Deed → Type 0
IsOtherDeed (Move r found to) = ⊥
IsOtherDeed (Ask r) = ⊥
IsOtherDeed (Read r found replaced) = Unit {0}
IsOtherDeed (Refuse r found why) = Unit {0}

-- it asks the station for the file at an index
abbrev pub IsAskOf : Standing → ℕ → Deed → Type 0
IsAskOf b index (Move r found to) = ⊥
IsAskOf b index (Ask r) = (d : Offer) → (slice_index_or b.files index d).request ≡ r
IsAskOf b index (Read r found replaced) = ⊥
IsAskOf b index (Refuse r found why) = ⊥

-- the station is asked for the file that comes first
abbrev pub AsksFirst : Standing → Deed → Type 0
AsksFirst b deed = (index : ℕ) × IsFirstAsk b index × IsAskOf b index deed

-- a file might be asked for, and is not: that is not allowed now, or as many as may be are under way
abbrev pub IsHeld : Standing → Bool → Type 0
IsHeld b asks = ((index : ℕ) × IsFirstAsk b index) × ((asks ≡ false) ⊎ (16 ≤ length b.window))

-- no file that is left is read or refused now
abbrev pub NoOthersLeft : Standing → Type 0
NoOthersLeft b = NoOthers b b.others (2 * length b.files)

-- what comes behind the moves: the station is asked, if there is a file to ask for; where there is none, a file is read or refused
abbrev pub IsAskOrOther : Standing → Bool → Option Deed → Type 0
IsAskOrOther b asks None = (NoAsks b × NoOthersLeft b) ⊎ IsHeld b asks
IsAskOrOther b asks (Some (Move r found to)) = ⊥
IsAskOrOther b asks (Some (Ask r)) = (asks ≡ true) × AsksFirst b (Ask r)
IsAskOrOther b asks (Some (Read r found replaced)) = NoAsks b
IsAskOrOther b asks (Some (Refuse r found why)) = NoAsks b

-- it is not yet the turn of one that is read or refused: fewer than eight were asked for in a row, or there is none
abbrev pub OthersWait : Standing → Type 0
OthersWait b = (b.row < 8) ⊎ NoOthersLeft b

-- it is their turn: eight were asked for in a row, or there is none to ask for
abbrev pub OthersCome : Standing → Type 0
OthersCome b = (8 ≤ b.row) ⊎ NoAsks b

-- the order of what comes behind the moves: asks, in their own order; then the others, but one of these after eight asks
abbrev pub IsBehindMoves : Standing → Bool → Option Deed → Type 0
IsBehindMoves b asks None = OthersWait b × IsAskOrOther b asks None
IsBehindMoves b asks (Some (Move r found to)) = ⊥
IsBehindMoves b asks (Some (Ask r)) = OthersWait b × IsAskOrOther b asks (Some (Ask r))
IsBehindMoves b asks (Some (Read r found replaced)) = OthersCome b
IsBehindMoves b asks (Some (Refuse r found why)) = OthersCome b

-- where files may be moved, none of those that are left leaves the offers now
abbrev pub NoMovesLeft : Standing → Bool → Type 0
NoMovesLeft b moves = moves ≡ true → NoMoves b b.moves (length b.files)

-- the order of deeds: moves, where they are allowed, and then the rest
abbrev pub IsInTurn : Standing → Allowed → Option Deed → Type 0
IsInTurn b allowed None = NoMovesLeft b allowed.moves × IsBehindMoves b allowed.asks None
IsInTurn b allowed (Some (Move r found to)) = allowed.moves ≡ true
IsInTurn b allowed (Some (Ask r)) = NoMovesLeft b allowed.moves × IsBehindMoves b allowed.asks (Some (Ask r))
IsInTurn b allowed (Some (Read r found replaced)) = NoMovesLeft b allowed.moves × OthersCome b
IsInTurn b allowed (Some (Refuse r found why)) = NoMovesLeft b allowed.moves × OthersCome b

-- how many were asked for in a row, as far as that matters
abbrev pub row_after : Option Deed → ℕ → ℕ
row_after None row = row
row_after (Some (Move r found to)) row = row
row_after (Some (Ask r)) row = min (row + 1) 8
row_after (Some (Read r found replaced)) row = 0
row_after (Some (Refuse r found why)) row = 0

-- how many that are no searches were asked for since the last that is one, as far as that matters, once one of a kind is asked for
abbrev pub since_ask : OfferKind → ℕ → ℕ
since_ask kind since = if is_search kind then 0 else min (since + 1) 8

-- the same once this is done
abbrev pub since_after : Option Deed → ℕ → ℕ
since_after None since = since
since_after (Some (Move r found to)) since = since
since_after (Some (Ask r)) since = since_ask r.kind since
since_after (Some (Read r found replaced)) since = since
since_after (Some (Refuse r found why)) since = since

-- a file that is no search goes before the searches only where fewer than eight did since the last, or the station may be asked for no search
abbrev pub PassesFew : Standing → Deed → Type 0
PassesFew b (Move r found to) = Unit {0}
PassesFew b (Ask r) = (is_search r.kind ≡ true) ⊎ ((b.since_search < 8) ⊎ NoSearches b)
PassesFew b (Read r found replaced) = Unit {0}
PassesFew b (Refuse r found why) = Unit {0}

-- the number of the file that the station is asked for is under way
abbrev pub window_after : Option Deed → List ℕ → List ℕ
window_after None window = window
window_after (Some (Move r found to)) window = window
window_after (Some (Ask r)) window = window ++ r.number ∷ []
window_after (Some (Read r found replaced)) window = window
window_after (Some (Refuse r found why)) window = window

-- and so is the file
abbrev pub files_after : Option Deed → List Offer → List Offer
files_after None files = files
files_after (Some (Move r found to)) files = files
files_after (Some (Ask r)) files = changed (rank r) (after news.Asked 0) files
files_after (Some (Read r found replaced)) files = files
files_after (Some (Refuse r found why)) files = files

-- the book once this is done, wherever the work goes on behind it
abbrev pub done_by : Option Deed → Standing → Standing
done_by deed b = record b { row = row_after deed b.row; since_search = since_after deed b.since_search; window = window_after deed b.window; files = files_after deed b.files }

-- where a file is read or refused, the work goes on behind it, and no further than the last place
abbrev pub AdvancesOther : Standing → Standing → Deed → Type 0
AdvancesOther old new (Move r found to) = ⊥
AdvancesOther old new (Ask r) = Unit {0}
AdvancesOther old new (Read r found replaced) = (old.others < new.others) × (new.others ≤ 2 * length old.files)
AdvancesOther old new (Refuse r found why) = (old.others < new.others) × (new.others ≤ 2 * length old.files)

-- the same of all work: nothing is handed out twice
abbrev pub Advances : Standing → Standing → Deed → Type 0
Advances old new (Move r found to) = old.moves < new.moves
Advances old new (Ask r) = Unit {0}
Advances old new (Read r found replaced) = old.others < new.others
Advances old new (Refuse r found why) = old.others < new.others

-- where no file is overdue, nothing has changed; or no file is left that is read or refused
abbrev pub IsEarly : Standing → Standing → Type 0
IsEarly old new = ((old.row < 8) × (new.others ≡ old.others)) ⊎ (NoOthersLeft old × (new.others ≡ 2 * length old.files))

-- where nothing comes behind the moves, it was seen of all files, or a file is held
abbrev pub IsStill : Standing → Standing → Bool → Type 0
IsStill old new asks =
    ((new.asks ≡ false) × (2 * length old.files ≤ new.others))
    ⊎ ((new.asks ≡ true) × (new.others ≡ old.others) × ((asks ≡ false) ⊎ (16 ≤ length old.window)))

-- what is left to be done with files, as far as it was seen: others where one may be left whose turn it is, asks where one may be left
abbrev pub deeds_left : Bool → Standing → Deeds
deeds_left moves b =
    if moves && nat_lt b.moves (length b.files) then deeds.Others
    else if nat_lt b.others (2 * length b.files) && (nat_le 8 b.row || not b.asks) then deeds.Others
    else if b.asks then deeds.Asks
    else deeds.Nothing

-- the station may be asked, and there is room for one more number under way
abbrev pub has_room : Standing → Bool → Bool
has_room b asks = asks && nat_lt (length b.window) 16

-- nothing is left that is allowed, beside moves
abbrev pub RestsButMoves : Standing → Bool → Type 0
RestsButMoves b asks = is_allowed (deeds_left false b) (has_room b asks) ≡ false

-- nothing is left that is allowed
abbrev pub Rests : Standing → Allowed → Type 0
Rests b allowed = is_allowed (deeds_left allowed.moves b) (has_room b allowed.asks) ≡ false
