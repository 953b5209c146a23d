-- Steps that share one save.
use Rattle.std.specs.Prelude.{◌≡◌, ℕ, ◌&&◌, ◌||◌, ◌==◌, ◌+◌, min, List, [], ◌∷◌, ◌++◌, length, Bool, true, false, nat_le, nat_lt, if◌then◌else◌, Option, Some, None}
use Rattle.pace.specs.declared.turns.Work.{Work}
use Rattle.pace.specs.declared.turns.Work.TheVariants as works
use Rattle.protocol.specs.Circuit.{Datagram}
use Rattle.station.specs.declared.answer.Answer.{Answer}
use Rattle.station.specs.declared.answer.Release.{Release}
use Rattle.driver.specs.declared.group.Group.{Group}
use Rattle.driver.specs.declared.sink.TakenStep.{TakenStep}

-- what is sent or released is worth to be kept until it may be handed out
abbrev pub worth : List Datagram → Option Release → Bool
worth [] None = false
worth [] (Some release) = true
worth (d ∷ out) release = true

-- so is an answer that sends or releases
abbrev pub is_worth : Answer → Bool
is_worth answer = worth answer.out.items answer.release

-- of a step, what is kept
abbrev pub worthy : TakenStep → List TakenStep
worthy step = if is_worth step.answer then step ∷ [] else []

-- one step more waits behind those before it, if it is kept, and nothing else of the group has changed
pub record HasAdded (step : TakenStep) (old new : Group) : Type 0 where
  pub behind : new.steps.items ≡ old.steps.items ++ worthy step
  pub only_steps : new ≡ record old { steps = new.steps }

-- sixteen such steps are as many as share a save, or thirty-two works
abbrev pub is_full : Group → Bool
is_full group = nat_le 16 (length group.steps.items) || nat_le 32 group.works

-- two milliseconds have gone by since the first work that shares the save
abbrev pub has_waited : ℕ → Group → Bool
has_waited now group = nat_lt 0 group.works && nat_le (group.since + 2) now

-- one work more shares the save; the first begins at this moment
abbrev pub one_more : ℕ → Group → Group
one_more now group = record group { works = min (group.works + 1) 32; since = if group.works == 0 then now else group.since }

-- a look, which writes files, and a wait, which may take long, share no save with the steps before them
abbrev pub goes_alone : Work → Bool
goes_alone works.Look = true
goes_alone works.TakeIn = false
goes_alone works.Due = false
goes_alone (works.Deed asks) = false
goes_alone works.Wait = true

-- a reply waits for deeds no longer than for two milliseconds and the deed that goes on by then
abbrev pub comes_late : Work → Bool → Bool
comes_late works.Look waited = false
comes_late works.TakeIn waited = false
comes_late works.Due waited = false
comes_late (works.Deed asks) waited = waited
comes_late works.Wait waited = false

-- the steps before a work are handed on, where it can't share their save or they are as many as share one
abbrev pub ends_group : Work → ℕ → Group → Bool
ends_group next now group = goes_alone next || comes_late next (has_waited now group) || is_full group
