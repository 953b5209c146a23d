-- What a station is asked for a number.
use Rattle.std.specs.Prelude.{◌≡◌, ℕ, List, [], ◌∷◌, length, Ok}
use Rattle.protocol.specs.Entries.{Taped, Void}
use Rattle.protocol.specs.Refusals.{Call as StationCall, Offering, Seeking}
use Rattle.station.specs.declared.answer.Answer.{Answer}
use Rattle.driver.specs.Events.{Event, took, stored}
use Rattle.driver.specs.declared.calls.Call.{Call}
use Rattle.driver.specs.declared.calls.Call.TheVariants.{Offer, Withdraw, Seek}

-- how the station is called for it at a moment
abbrev pub call_of : Call → ℕ → StationCall
call_of (Offer number tape) now = Offering number (Taped tape.now) now
call_of (Withdraw number) now = Offering number Void now
call_of (Seek number) now = Seeking number now

-- how many bytes the entry has that it offers: as many as its tape has frames
abbrev pub length_of : Call → ℕ
length_of (Offer number tape) = length tape.now
length_of (Withdraw number) = 0
length_of (Seek number) = 0

-- the station was asked, and took the step, and what it saved was stored
abbrev pub IsAsked : Call → ℕ → List Event → Type 0
IsAsked call now log = (answer : Answer) × (log ≡ took (call_of call now) (Ok answer) ∷ stored (Ok tt) ∷ [])
