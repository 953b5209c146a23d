-- The rule of the work of a station that stays up, in plain words.
use Rattle.std.specs.Prelude.{◌≡◌, ◌≤◌, ◌<◌, ◌⊎◌, Bool, true, false}
use Rattle.pace.specs.declared.turns.DueSight.TheVariants as seens
use Rattle.pace.specs.declared.turns.Sight.{Sight}
use Rattle.pace.specs.declared.turns.Work.TheVariants as works
use Rattle.pace.specs.Order.{Counts, has_rested, has_deed, next_work}

-- 100 milliseconds after the last look comes a look, whatever waits; but not two one after the other
abbrev pub LooksComeFirst : Type 0
LooksComeFirst =
    (c : Counts) (s : Sight) → has_rested c.looked s.now ≡ true → c.just_looked ≡ false → next_work c s ≡ works.Look

-- a datagram is taken in only where one waits
abbrev pub DatagramsWait : Type 0
DatagramsWait = (c : Counts) (s : Sight) → next_work c s ≡ works.TakeIn → s.waits ≡ true

-- what is due is seen to only where no datagram waits, or 64 were taken in since
abbrev pub DueNumbersGiveWay : Type 0
DueNumbersGiveWay = (c : Counts) (s : Sight) → next_work c s ≡ works.Due → (s.waits ≡ false) ⊎ (64 ≤ c.since_due)

-- a deed is done only where there is one, and no datagram waits or 16 were taken in since
abbrev pub DeedsGiveWay : Type 0
DeedsGiveWay =
    (c : Counts) (s : Sight) (asks : Bool) → next_work c s ≡ works.Deed asks
    → (has_deed s ≡ true) × ((s.waits ≡ false) ⊎ (16 ≤ c.since_deed))

-- a file is asked for only while fewer than 16 are under way and no member is behind
abbrev pub AsksAreFew : Type 0
AsksAreFew = (c : Counts) (s : Sight) → next_work c s ≡ works.Deed true → (s.under_way < 16) × (s.is_behind ≡ false)

-- it is waited only where no datagram waits, there is no deed, and nothing was due when that was seen to last, with nothing done since
abbrev pub WaitsHaveNoWork : Type 0
WaitsHaveNoWork =
    (c : Counts) (s : Sight) → next_work c s ≡ works.Wait
    → (s.waits ≡ false) × (has_deed s ≡ false) × (c.seen ≡ seens.Nothing)
