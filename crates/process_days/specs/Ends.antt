-- All that waited went out, where a process ended well.
use Rattle.std.specs.Prelude.{◌≡◌, List, [], flat_map}
use Rattle.rows_saved.specs.declared.rows.Rows.{Ghosts}
use Rattle.wire.specs.Passing.{Passed, Trace}
use Rattle.command_ends.specs.declared.end.End.TheVariants.{Done}
use Rattle.driver.specs.Driving.{Post, Fate, Driven, known}
use Rattle.driver.specs.Events.{Event, asked, took, stored, aside, going, going_by, passing_behind}
use Rattle.process_days.specs.Cutting.{sent_of}

-- what is handed out on the wire in an event: what a step hands out, and recalls and rolls
abbrev pub handed_in : Event → List Passed
handed_in (asked moment) = []
handed_in (took call answer) = going answer
handed_in (stored answer) = []
handed_in (aside what) = going_by what

-- Whatever drove a station to a good end, so that nothing waits to be sent before it or behind it: it sent all that was handed out, in order.
abbrev pub GoodEndsSendAll : {R N S : Type 0} → Ghosts R → (R → Type 0) → (N → Trace) → Fate S → Type 0
GoodEndsSendAll {R = R} {N = N} {S = S} g is_settled passed fate =
    (old new : Post R N S) (log : List Event) → old.waits ≡ [] → new.waits ≡ [] → Driven (known g is_settled passed fate) old new Done log
    → sent_of (passing_behind [] log) ≡ flat_map handed_in log
