-- The rules: what is done with the files among the offers, and when.
use Rattle.std.specs.Prelude.{◌≡◌, ◌≢◌, ◌<◌, ◌≤◌, ◌+◌, ℕ, List, Bool, true, false, nat_le, ◌==◌, ◌&&◌, Option, Some, None, is_some, length, not, if◌then◌else◌}
use Rattle.std.specs.List.{Any, AllPairs, list_any}
use Rattle.std.specs.Ordering.{nat_cmp}
use Rattle.std.specs.BTreeMap.{is_at, get}
use Rattle.std.specs.Map.{lookup}
use Rattle.folders.specs.declared.leaving.Place.{Place}
use Rattle.folders.specs.declared.leaving.Place.TheVariants as places
use Rattle.folders.specs.declared.stamp.Stamp.{Stamp}
use Rattle.folders.specs.declared.names.FileRequest.{FileRequest}
use Rattle.folders.specs.declared.wishes.Wish.{Wish}
use Rattle.folders.specs.Offers.{IsPlaceOf}
use Rattle.tape_frames.specs.declared.entry.Entry.{Entry}
use Rattle.tape_frames.specs.Entries.{owned_entry}
use Rattle.offers.specs.declared.deed.Deed.{Deed}
use Rattle.offers.specs.declared.deed.Deed.TheVariants.{Move, Ask, Read, Refuse}
use Rattle.offers.specs.declared.known.RuleFacts.{RuleFacts}
use Rattle.offers.specs.declared.offer.Offer.{Offer}
use Rattle.offers.specs.Order.{is_search}
use Rattle.offers.specs.declared.stage.OfferFault.{OfferFault}
use Rattle.offers.specs.declared.stage.Stage.{Stage}
use Rattle.offers.specs.declared.stage.Stage.TheVariants.{Watched, Waiting, UnderWay, Refused, Answered, Gone}

-- what the book knows: the files among the offers, in order; the numbers under way; the entries of the numbers that were released; the
-- moment of the last look, and how long a file has to stay as it was found until it is whole; from which file on it is left to see whether it leaves the offers, and from which place on whether it is read or refused; whether it
-- is left to see for which the station may be asked; how many were asked for in a row; and how many that are no searches since the last that is one, each eight at most
pub record Standing : Type 0 where
  pub files : List Offer
  pub window : List ℕ
  pub released : List (ℕ × Entry)
  pub looked : ℕ
  pub still : ℕ
  pub moves : ℕ
  pub others : ℕ
  pub asks : Bool
  pub row : ℕ
  pub since_search : ℕ

-- the entry of a number among these
abbrev pub entry_in : List (ℕ × Entry) → ℕ → Option Entry
entry_in entries n = lookup (is_at (nat_cmp n)) entries

-- the entry that was released under a number
abbrev pub entry_of : Standing → ℕ → Option Entry
entry_of b n = entry_in b.released n

-- a file of this number was asked for, and what came of it is not known yet
abbrev pub is_under_way : ℕ → List ℕ → Bool
is_under_way n window = list_any (λ m. m == n) window

-- no two numbers under way are one
abbrev pub AreApart : List ℕ → Type 0
AreApart window = AllPairs (λ m n. m ≢ n) window

-- two looks, so long apart, found it as it is: the first that did, and the last look; where no time is asked for, they may be one
abbrev pub IsWhole : ℕ → ℕ → Offer → Type 0
IsWhole still looked o = o.since + still ≤ looked

-- it was not read yet, and its moment has come
abbrev pub IsUnread : ℕ → Bool → Stage → Type 0
IsUnread looked was_replaced (Watched at replaced) = (at ≤ looked) × (replaced ≡ was_replaced)
IsUnread looked was_replaced (Waiting wish at tries) = ⊥
IsUnread looked was_replaced (UnderWay wish tries) = ⊥
IsUnread looked was_replaced (Refused reason at pause) = ⊥
IsUnread looked was_replaced (Answered at pause) = ⊥
IsUnread looked was_replaced Gone = ⊥

-- it was read and waits, and its moment has come
abbrev pub IsReady : ℕ → Stage → Type 0
IsReady looked (Watched at replaced) = ⊥
IsReady looked (Waiting wish at tries) = at ≤ looked
IsReady looked (UnderWay wish tries) = ⊥
IsReady looked (Refused reason at pause) = ⊥
IsReady looked (Answered at pause) = ⊥
IsReady looked Gone = ⊥

-- it is no offer for this reason, and its moment has come
abbrev pub IsRefused : ℕ → OfferFault → Stage → Type 0
IsRefused looked why (Watched at replaced) = ⊥
IsRefused looked why (Waiting wish at tries) = ⊥
IsRefused looked why (UnderWay wish tries) = ⊥
IsRefused looked why (Refused reason at pause) = (reason ≡ why) × (at ≤ looked)
IsRefused looked why (Answered at pause) = ⊥
IsRefused looked why Gone = ⊥

-- what asks for this goes to this place: an entry of its number was released, and the place is that of the wish beside that entry
abbrev pub LeavesFor : Option Entry → Wish → Place → Type 0
LeavesFor None wish to = ⊥
LeavesFor (Some e) wish to = IsPlaceOf wish (owned_entry e) to

-- a file goes to this place, its moment has come: it was read and waits, and that is where what it asks for goes; or it is a search that was
-- answered, and goes to those that are done
abbrev pub Leaves : Option Entry → ℕ → Stage → Place → Type 0
Leaves entry looked (Watched at replaced) to = ⊥
Leaves entry looked (Waiting wish at tries) to = (at ≤ looked) × LeavesFor entry wish to
Leaves entry looked (UnderWay wish tries) to = ⊥
Leaves entry looked (Refused reason at pause) to = ⊥
Leaves entry looked (Answered at pause) to = (at ≤ looked) × (to ≡ places.Done)
Leaves entry looked Gone to = ⊥

-- a file leaves the offers, for what was released under its number, or as a search that was answered
pub record MayMove (b : Standing) (o : Offer) (r : FileRequest) (found : Stamp) (to : Place) : Type 0 where
  pub file : o.request ≡ r
  pub as_found : o.stamp ≡ found
  pub whole : IsWhole b.still b.looked o
  pub leaves : Leaves (entry_of b r.number) b.looked o.stage to

-- the station is asked for a file
pub record MayAsk (b : Standing) (o : Offer) (r : FileRequest) : Type 0 where
  pub file : o.request ≡ r
  pub whole : IsWhole b.still b.looked o
  pub ready : IsReady b.looked o.stage
  pub unreleased : entry_of b r.number ≡ None
  pub one : is_under_way r.number b.window ≡ false
  pub window : length b.window < 16

-- a file is read; none is while its number is under way, so that one that was replaced waits for the ballots of the one before
pub record MayRead (b : Standing) (o : Offer) (r : FileRequest) (found : Stamp) (replaced : Bool) : Type 0 where
  pub file : o.request ≡ r
  pub as_found : o.stamp ≡ found
  pub whole : IsWhole b.still b.looked o
  pub unread : IsUnread b.looked replaced o.stage
  pub one : is_under_way r.number b.window ≡ false

-- a file leaves the offers, since it is none
pub record MayRefuse (b : Standing) (o : Offer) (r : FileRequest) (found : Stamp) (why : OfferFault) : Type 0 where
  pub file : o.request ≡ r
  pub as_found : o.stamp ≡ found
  pub whole : IsWhole b.still b.looked o
  pub refused : IsRefused b.looked why o.stage

-- the rules let this be done with the file
abbrev pub Suits : Standing → Deed → Offer → Type 0
Suits b (Move r found to) o = MayMove b o r found to
Suits b (Ask r) o = MayAsk b o r
Suits b (Read r found replaced) o = MayRead b o r found replaced
Suits b (Refuse r found why) o = MayRefuse b o r found why

-- the rules let this be done with a file of the book
abbrev pub MayDo : Standing → Deed → Type 0
MayDo b deed = Any (Suits b deed) b.files

-- whether two looks, so long apart, found it as it is
abbrev pub is_whole : ℕ → ℕ → Offer → Bool
is_whole still looked o = nat_le (o.since + still) looked

-- the moment from which on it waits, if that has come
abbrev pub moment_of : ℕ → Stage → Option ℕ
moment_of looked (Watched at replaced) = None
moment_of looked (Waiting wish at tries) = if nat_le at looked then Some at else None
moment_of looked (UnderWay wish tries) = None
moment_of looked (Refused reason at pause) = None
moment_of looked (Answered at pause) = None
moment_of looked Gone = None

-- whether a file in this state leaves the offers, where its number was released or was not
abbrev pub leaves_now : Bool → ℕ → Stage → Bool
leaves_now is_released looked (Watched at replaced) = false
leaves_now is_released looked (Waiting wish at tries) = nat_le at looked && is_released
leaves_now is_released looked (UnderWay wish tries) = false
leaves_now is_released looked (Refused reason at pause) = false
leaves_now is_released looked (Answered at pause) = nat_le at looked
leaves_now is_released looked Gone = false

-- the same of a file, where this is what was released under its number
abbrev pub is_leaving : Option Entry → ℕ → ℕ → Offer → Bool
is_leaving entry still looked o = is_whole still looked o && leaves_now (is_some entry) looked o.stage

-- what was released under the number of a file, as far as is known
abbrev pub entry_for : RuleFacts → Offer → Option Entry
entry_for known o = get nat_cmp known.released o.request.number

-- whether the number of a file is under way, as far as is known
abbrev pub flies_by : RuleFacts → Offer → Bool
flies_by known o = is_under_way o.request.number known.window

-- whether the station may be asked for a file, once its moment has come: it is whole, and its number is neither released nor under way
abbrev pub is_free : Option Entry → Bool → ℕ → ℕ → Offer → Bool
is_free entry flies still looked o = is_whole still looked o && not (is_some entry) && not flies

-- the moment since which the station may be asked for a file, if it may
abbrev pub ask_moment : Option Entry → Bool → ℕ → ℕ → Offer → Option ℕ
ask_moment entry flies still looked o = if is_free entry flies still looked o then moment_of looked o.stage else None

-- a moment of one of the searches, or of one of the others, and of no other file
abbrev pub only_of : Bool → Bool → Option ℕ → Option ℕ
only_of true true moment = moment
only_of true false moment = None
only_of false true moment = None
only_of false false moment = moment

-- whether a file was not read and is to be, or is to be refused, where its number is under way or is not
abbrev pub is_other : Bool → ℕ → Stage → Bool
is_other flies looked (Watched at replaced) = nat_le at looked && not flies
is_other flies looked (Waiting wish at tries) = false
is_other flies looked (UnderWay wish tries) = false
is_other flies looked (Refused reason at pause) = nat_le at looked
is_other flies looked (Answered at pause) = false
is_other flies looked Gone = false

abbrev pub has_other : Bool → ℕ → ℕ → Offer → Bool
has_other flies still looked o = is_whole still looked o && is_other flies looked o.stage

-- the same of a file of the book
abbrev pub is_leaving_of : Standing → Offer → Bool
is_leaving_of b o = is_leaving (entry_of b o.request.number) b.still b.looked o

abbrev pub ask_moment_of : Standing → Offer → Option ℕ
ask_moment_of b o = ask_moment (entry_of b o.request.number) (is_under_way o.request.number b.window) b.still b.looked o

abbrev pub ask_moment_among : Bool → Standing → Offer → Option ℕ
ask_moment_among searches b o = only_of searches (is_search o.request.kind) (ask_moment_of b o)

abbrev pub has_other_of : Standing → Offer → Bool
has_other_of b o = has_other (is_under_way o.request.number b.window) b.still b.looked o

-- this is how a file leaves the offers, where this is what was released under its number: for that, or as a search that was answered
abbrev pub IsLeaving : Option Entry → ℕ → ℕ → Offer → Deed → Type 0
IsLeaving entry still looked o (Move r found to) = (o.request ≡ r) × (o.stamp ≡ found) × IsWhole still looked o × Leaves entry looked o.stage to
IsLeaving entry still looked o (Ask r) = ⊥
IsLeaving entry still looked o (Read r found replaced) = ⊥
IsLeaving entry still looked o (Refuse r found why) = ⊥

-- it goes where what it asks for goes
abbrev pub IsMoveFor : Option Entry → Offer → Wish → Deed → Type 0
IsMoveFor entry o wish (Move r found to) = (o.request ≡ r) × (o.stamp ≡ found) × LeavesFor entry wish to
IsMoveFor entry o wish (Ask r) = ⊥
IsMoveFor entry o wish (Read r found replaced) = ⊥
IsMoveFor entry o wish (Refuse r found why) = ⊥

-- this is how a file is read or refused, whose number is under way or is not
abbrev pub IsOther : Bool → ℕ → ℕ → Offer → Deed → Type 0
IsOther flies still looked o (Move r found to) = ⊥
IsOther flies still looked o (Ask r) = ⊥
IsOther flies still looked o (Read r found replaced) = (o.request ≡ r) × (o.stamp ≡ found) × IsWhole still looked o × IsUnread looked replaced o.stage × (flies ≡ false)
IsOther flies still looked o (Refuse r found why) = (o.request ≡ r) × (o.stamp ≡ found) × IsWhole still looked o × IsRefused looked why o.stage
