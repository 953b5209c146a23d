-- What a step with a note tells of the ballots of its number.
use Rattle.std.specs.Prelude.{ℕ, List, Bool, true, false, ◌&&◌, Option, Some, None}
use Rattle.node_core.specs.declared.turn.Note.{Note}
use Rattle.node_core.specs.declared.turn.Note.TheVariants as notes
use Rattle.offers.specs.Answers.{landed_in}
use Rattle.offers.specs.Rules.{Standing, is_under_way}
use Rattle.offers.specs.declared.stage.Landing.TheVariants as landings
use Rattle.plant_log.specs.declared.event.LogEvent.{LogEvent}
use Rattle.plant_log.specs.declared.event.LogEvent.TheVariants as events

-- what becomes of the book by a step with this note about a number: where it closed a ballot, as that was given up or found nothing, the
-- number is no longer under way, and its files are told
abbrev pub closed_by : Note → ℕ → ℕ → Standing → Standing
closed_by (notes.GaveUp ballot) n now b = landed_in n landings.Ended now b
closed_by (notes.Nothing ballot) n now b = landed_in n landings.Nothing now b
closed_by note n now b = b

-- it opened one: a ballot was begun, or an entry was voted for at once
abbrev pub is_of_opening : Note → Bool
is_of_opening (notes.Began ballot) = true
is_of_opening (notes.Proposed ballot) = true
is_of_opening note = false

-- and that was of a number under way, so for a file among the offers
abbrev pub is_opened : Option ℕ → Note → List ℕ → Bool
is_opened None note window = false
is_opened (Some n) note window = is_of_opening note && is_under_way n window

-- the line that is told of it, if the number was under way: a ballot was begun, given up, or found nothing
abbrev pub event_of : ℕ → Note → Option LogEvent
event_of n (notes.Began ballot) = Some (events.Began n ballot)
event_of n (notes.GaveUp ballot) = Some (events.GaveUp n ballot)
event_of n (notes.Nothing ballot) = Some (events.Nothing n ballot)
event_of n note = None
