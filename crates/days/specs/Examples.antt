-- That there is a day, of two members who store their steps in groups, in which an entry is released.
use Rattle.std.specs.Prelude.{◌≡◌, ℕ, List, Ok}
use Rattle.protocol.specs.Lists.{IsAmong}
use Rattle.protocol.specs.Ballots.{IsMember}
use Rattle.protocol.specs.Entries.{Entry}
use Rattle.protocol.specs.Refusals.{Offering, Receiving}
use Rattle.rows_saved.specs.declared.rows.Rows.{Ghosts}
use Rattle.station.specs.declared.answer.Answer.{Answer}
use Rattle.station.specs.declared.answer.Release.{Release}
use Rattle.station.specs.declared.station.Station.{Station}
use Rattle.station.specs.Settling.{HasSettled}
use Rattle.station.specs.Steps.{IsStep}
use Rattle.days.specs.Happening.{Happened, began, WasReleased}
use Rattle.days.specs.Handing.{Plants, Member, runs}
use Rattle.days.specs.Days.{Day}

-- this member's station was offered an entry under two numbers, and then stored by one call what it had saved for both
pub record OfferedBoth {R : Type 0} (g : Ghosts R) (is_settled : R → Type 0) (entry : Entry) (now : ℕ) (old new : Station R) (answer : Answer) : Type 0 where
  pub mid : Station R
  pub late : Station R
  pub other : Answer
  pub first : IsStep g (Offering 12 entry now) old mid (Ok answer)
  pub second : IsStep g (Offering 13 entry now) mid late (Ok other)
  pub settled : HasSettled g is_settled late new

-- this member's station was called with a datagram that an answer hands out to it
pub record Received {R : Type 0} (g : Ghosts R) (m : ℕ) (sent : Answer) (now : ℕ) (old new : Station R) (answer : Answer) : Type 0 where
  pub bytes : List ℕ
  pub out : IsAmong sent.out.items (record { to = m; bytes = bytes })
  pub step : IsStep g (Receiving bytes now) old new (Ok answer)

-- it took the datagram in so, and then stored what it had saved
pub record TookIn {R : Type 0} (g : Ghosts R) (is_settled : R → Type 0) (m : ℕ) (sent : Answer) (now : ℕ) (old new : Station R) (answer : Answer) : Type 0 where
  pub mid : Station R
  pub received : Received g m sent now old mid answer
  pub settled : HasSettled g is_settled mid new

-- a member's process runs, and all that its station saved is stored
pub record HasStored {R : Type 0} (is_settled : R → Type 0) (u : Member R) : Type 0 where
  pub station : Station R
  pub running : u ≡ runs station
  pub stored : is_settled station.rows

-- a day of two plants in which a process of the second ended, its next one began, and the first released so; in the end both have stored all
pub record DayOfTwo {R : Type 0} (g : Ghosts R) (is_settled : R → Type 0) (r : Release) : Type 0 where
  pub plants : Plants
  pub two : plants.count ≡ 2
  pub day : List Happened
  pub at : ℕ → Member R
  pub is_day : Day g plants day at
  pub again : IsAmong day (began 2)
  pub released : WasReleased day 1 r
  pub stored : (m : ℕ) → IsMember 2 m → HasStored is_settled (at m)
