-- Which work comes next, from what was counted and what is found.
use Rattle.std.specs.Prelude.{ℕ, ◌+◌, Bool, true, false, Option, Some, None, nat_le, nat_lt, not, ◌&&◌, min, if◌then◌else◌}
use Rattle.pace.specs.declared.turns.Deeds.{Deeds}
use Rattle.pace.specs.declared.turns.Deeds.TheVariants as deeds
use Rattle.pace.specs.declared.turns.Done.{Done}
use Rattle.pace.specs.declared.turns.Done.TheVariants as dones
use Rattle.pace.specs.declared.turns.DueSight.{DueSight}
use Rattle.pace.specs.declared.turns.DueSight.TheVariants as seens
use Rattle.pace.specs.declared.turns.Sight.{Sight}
use Rattle.pace.specs.declared.turns.Work.{Work}
use Rattle.pace.specs.declared.turns.Work.TheVariants as works

-- when the last look ended, and whether it was the last work; how many datagrams were taken in since what is due was seen to, and since
-- a deed; what the last sight of what is due showed, where nothing else was done since but looks
pub record Counts : Type 0 where
  pub looked : Option ℕ
  pub just_looked : Bool
  pub since_due : ℕ
  pub since_deed : ℕ
  pub seen : DueSight

-- before the first work
abbrev pub first_counts : Counts
first_counts = record { looked = None; just_looked = false; since_due = 0; since_deed = 0; seen = seens.Unseen }

-- 100 milliseconds have gone by since the last look, or there was none
abbrev pub has_rested : Option ℕ → ℕ → Bool
has_rested None now = true
has_rested (Some looked) now = nat_le (looked + 100) now

-- a file may be asked for: fewer than 16 are under way, and no member is behind
abbrev pub may_ask : Sight → Bool
may_ask s = nat_lt s.under_way 16 && not s.is_behind

-- these deeds have one that is allowed, where files may be asked for or may not
abbrev pub is_allowed : Deeds → Bool → Bool
is_allowed deeds.Nothing asks = false
is_allowed deeds.Asks asks = asks
is_allowed deeds.Others asks = true

-- there is a deed to do with a file
abbrev pub has_deed : Sight → Bool
has_deed s = is_allowed s.deeds (may_ask s)

-- where no datagram waits: what is due, until a number was seen to or none was due; then a deed, if there is one; then what is due again,
-- as long as numbers are
abbrev pub quiet_work : DueSight → Bool → Bool → Work
quiet_work seens.Unseen deed asks = works.Due
quiet_work seens.One deed asks = if deed then works.Deed asks else works.Due
quiet_work seens.Nothing deed asks = if deed then works.Deed asks else works.Wait

-- the first of these that applies: a look, what is due after so many datagrams, a deed after so many, a datagram; else the quiet work
abbrev pub first_of : Bool → Bool → Bool → Bool → Bool → Work → Work
first_of true due deed waits asks quiet = works.Look
first_of false true deed waits asks quiet = works.Due
first_of false false true waits asks quiet = works.Deed asks
first_of false false false true asks quiet = works.TakeIn
first_of false false false false asks quiet = quiet

-- the work that comes next: a look once the pause is over, never two one after the other; what is due after 64 datagrams; a deed after 16
abbrev pub next_work : Counts → Sight → Work
next_work c s =
    first_of (not c.just_looked && has_rested c.looked s.now) (nat_le 64 c.since_due) (nat_le 16 c.since_deed && has_deed s) s.waits (may_ask s)
    (quiet_work c.seen (has_deed s) (may_ask s))

-- what is counted once this was done, and ended at a moment
abbrev pub after_work : Counts → Done → ℕ → Counts
after_work c dones.Looked now = record c { looked = Some now; just_looked = true }
after_work c dones.TookIn now = record c { just_looked = false; since_due = min (c.since_due + 1) 64; since_deed = min (c.since_deed + 1) 16; seen = seens.Unseen }
after_work c dones.SawOne now = record c { just_looked = false; since_due = 0; seen = seens.One }
after_work c dones.SawNothing now = record c { just_looked = false; since_due = 0; seen = seens.Nothing }
after_work c dones.DidDeed now = record c { just_looked = false; since_deed = 0; seen = seens.Unseen }
after_work c dones.Waited now = record c { just_looked = false; seen = seens.Unseen }
