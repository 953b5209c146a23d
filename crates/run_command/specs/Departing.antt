-- What is to be done with files, and where those go that leave the offers.
use Rattle.std.specs.Prelude.{◌≡◌, ◌++◌, ℕ, Bool, true, List, [], Option, Some, None, IfSome, String, codes, string_bytes}
use Rattle.std.specs.Global.{Global}
use Rattle.release_texts.specs.EntryText.{entry_text}
use Rattle.release_texts.specs.ReleaseText.{plain_line}
use Rattle.folders.specs.declared.names.FileRequest.{FileRequest}
use Rattle.folders.specs.declared.leaving.Place.{Place}
use Rattle.folders.specs.declared.leaving.Place.TheVariants.{Sent, Lost, Refused, Done}
use Rattle.offers.specs.declared.deed.Deed.{Deed}
use Rattle.offers.specs.declared.deed.Deed.TheVariants as deeds
use Rattle.offers.specs.Rules.{Standing, entry_of}
use Rattle.offers.specs.declared.stage.OfferFault.{OfferFault}
use Rattle.plant_log.specs.Words.{event_text, reason_text}
use Rattle.plant_log.specs.Refusing.{TellsNoOffer}
use Rattle.plant_log.specs.Stories.{IsHeard, IsTellingRefused}
use Rattle.plant_log.specs.Telling.{TellsIf}
use Rattle.plant_log.specs.declared.told.Told.{Told}
use Rattle.plant_log.specs.declared.event.LogEvent.{LogEvent}
use Rattle.plant_log.specs.declared.event.LogEvent.TheVariants as events
use Rattle.tape_frames.specs.Entries.{owned_entry}
use Rattle.tape_frames.specs.declared.entry.Entry.{Entry}
use Rattle.run_command.specs.declared.deeds.Task.{Task}
use Rattle.run_command.specs.declared.deeds.Task.TheVariants.{Leave, Read, Ask, SeeToStray, LookOn}
use Rattle.run_command.specs.declared.departures.Departure.{Departure}
use Rattle.run_command.specs.declared.departures.LeavingCause.{LeavingCause}
use Rattle.run_command.specs.declared.departures.LeavingCause.TheVariants.{Released, NoOffer, Answered}

-- where its number was released, to the place that it has by that; else to those that are no offers, or as a search that was answered to
-- those that are done
abbrev pub place_of : LeavingCause → Place
place_of (Released to) = to
place_of (NoOffer reason) = Refused
place_of Answered = Done

-- why a file leaves the offers that is moved to this place: its number was released, or it is a search that was answered
abbrev pub way_to : Place → LeavingCause
way_to Sent = Released Sent
way_to Lost = Released Lost
way_to Refused = Released Refused
way_to Done = Answered

-- how a file leaves the offers by a deed
abbrev pub departure_of : Deed → Option Departure
departure_of (deeds.Move r found to) = Some (record { found = record { request = r; stamp = found }; way = way_to to })
departure_of (deeds.Ask r) = None
departure_of (deeds.Read r found replaced) = None
departure_of (deeds.Refuse r found why) = Some (record { found = record { request = r; stamp = found }; way = NoOffer why })

-- what is to be done by a deed
abbrev pub task_of : Deed → Option Task
task_of (deeds.Move r found to) = Some (Leave (record { found = record { request = r; stamp = found }; way = way_to to }))
task_of (deeds.Ask r) = Some (Ask r)
task_of (deeds.Read r found replaced) = Some (Read (record { request = r; stamp = found }) replaced)
task_of (deeds.Refuse r found why) = Some (Leave (record { found = record { request = r; stamp = found }; way = NoOffer why }))

-- the entry of a number is known
abbrev pub IsKnown : Standing → ℕ → Type 0
IsKnown b n = (e : Entry) × (entry_of b n ≡ Some e)

-- a file of this number leaves the offers for what was released only where the entry is known, and all that was released is written; so one
-- does that was answered
abbrev pub IsFreeWay : Standing → Bool → ℕ → LeavingCause → Type 0
IsFreeWay b written n (Released to) = IsKnown b n × (written ≡ true)
IsFreeWay b written n (NoOffer reason) = Unit {0}
IsFreeWay b written n Answered = written ≡ true

abbrev pub IsFree : Standing → Bool → Departure → Type 0
IsFree b written d = IsFreeWay b written d.found.request.number d.way

-- the same of what is to be done
abbrev pub IsFreeTask : Standing → Bool → Task → Type 0
IsFreeTask b written (Leave d) = IsFree b written d
IsFreeTask b written (Read found replaced) = Unit {0}
IsFreeTask b written (Ask r) = Unit {0}
IsFreeTask b written SeeToStray = Unit {0}
IsFreeTask b written LookOn = Unit {0}

-- what befell the number of a file that has left the offers
abbrev pub event_by : ℕ → LeavingCause → Option LogEvent
event_by n (Released Lost) = Some (events.Lost n)
event_by n (Released to) = Some (events.Sent n)
event_by n (NoOffer reason) = None
event_by n Answered = Some (events.Done n)

abbrev pub left_event : Departure → Option LogEvent
left_event d = event_by d.found.request.number d.way

-- a text, which reads so
abbrev pub IsText : List ℕ → Option (String Global) → Type 0
IsText words None = ⊥
IsText words (Some text) = string_bytes text ≡ words

-- a text that says why a file is no offer; of bytes that are no tape it is left open
abbrev pub IsReason : OfferFault → List ℕ → Type 0
IsReason reason text = IfSome (reason_text reason) (λ words. text ≡ words ++ codes "\n")

abbrev pub IsSomeReason : OfferFault → Option (String Global) → Type 0
IsSomeReason reason None = ⊥
IsSomeReason reason (Some text) = IsReason reason (string_bytes text)

-- a text that says what stands under a number
abbrev pub IsStanding : Option Entry → ℕ → Option (String Global) → Type 0
IsStanding None n text = ⊥
IsStanding (Some e) n text = IsText (plain_line [] n (entry_text (owned_entry e))) text

-- what lies beside a file of this number: of a lost one what stands under it, of one that is no offer why, of a search that was answered
-- that nothing does, and else nothing
abbrev pub IsBesideBy : Option Entry → ℕ → LeavingCause → Option (String Global) → Type 0
IsBesideBy entry n (Released Lost) text = IsStanding entry n text
IsBesideBy entry n (Released to) text = text ≡ None
IsBesideBy entry n (NoOffer reason) text = IsSomeReason reason text
IsBesideBy entry n Answered text = IsText (codes "nothing\n") text

abbrev pub IsBeside : Standing → Departure → Option (String Global) → Type 0
IsBeside b d text = IsBesideBy (entry_of b d.found.request.number) d.found.request.number d.way text

-- what befell a number was told, as far as it is told
abbrev pub TellsEvent : LogEvent → ℕ → Told → Told → Option (List ℕ) → Option (List ℕ) → Type 0
TellsEvent event now before after old new =
    (is_told : Bool) × IsHeard before.loudness event now is_told before.stories.kept after.stories.kept × TellsIf (is_told ≡ true) (event_text event) old new

-- why a file is no offer was told, unless faults alone are
abbrev pub TellsRefused : FileRequest → OfferFault → Told → Option (List ℕ) → Option (List ℕ) → Type 0
TellsRefused r reason told old new = (IsTellingRefused told.loudness → TellsNoOffer r reason old new) × (¬ IsTellingRefused told.loudness → new ≡ old)

-- that a file has left the offers was told
abbrev pub TellsWay : FileRequest → LeavingCause → ℕ → Told → Told → Option (List ℕ) → Option (List ℕ) → Type 0
TellsWay r (Released Lost) now before after old new = TellsEvent (events.Lost r.number) now before after old new
TellsWay r (Released to) now before after old new = TellsEvent (events.Sent r.number) now before after old new
TellsWay r (NoOffer reason) now before after old new = TellsRefused r reason before old new
TellsWay r Answered now before after old new = TellsEvent (events.Done r.number) now before after old new

abbrev pub TellsDeparture : Departure → ℕ → Told → Told → Option (List ℕ) → Option (List ℕ) → Type 0
TellsDeparture d now before after old new = TellsWay d.found.request d.way now before after old new
