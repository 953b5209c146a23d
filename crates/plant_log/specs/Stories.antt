-- What is told of a number in the usual log, from when it is asked for until it is released.
use Rattle.std.specs.Prelude.{◌≡◌, ◌+◌, ◌⊎◌, ℕ, List, Bool, true, false, Option, Some, None, nat_le, if◌then◌else◌}
use Rattle.std.specs.Ordering.{nat_cmp}
use Rattle.std.specs.BTreeMap.{BTreeMap, get, Updates}
use Rattle.plant_log.specs.declared.event.LogEvent.{LogEvent}
use Rattle.plant_log.specs.declared.event.LogEvent.TheVariants.{Began, GaveUp, Nothing, Released, Sent, Lost, Done, Replaced}
use Rattle.log_terms.specs.declared.loudness.Loudness.{Loudness}
use Rattle.log_terms.specs.declared.loudness.Loudness.TheVariants as loudness
use Rattle.plant_log.specs.declared.story.Begun.{Begun}
use Rattle.plant_log.specs.declared.story.Begun.TheVariants.{Never, Once, Often}
use Rattle.plant_log.specs.declared.story.StoryChange.{StoryChange}
use Rattle.plant_log.specs.declared.story.StoryNote.{StoryNote}
use Rattle.plant_log.specs.declared.story.BallotTurn.{BallotTurn}
use Rattle.plant_log.specs.declared.story.BallotTurn.TheVariants.{Begins, Ends}
use Rattle.plant_log.specs.Words.{event_text}
use Rattle.plant_log.specs.Keeping.{Forgets, HasRoom}
use Rattle.plant_log.specs.Telling.{TellsIf}

-- of the ballots that are begun the second is told
abbrev pub is_second : Begun → Bool
is_second Never = false
is_second Once = true
is_second Often = false

-- one ballot more
abbrev pub one_more : Begun → Begun
one_more Never = Once
one_more Once = Often
one_more Often = Often

-- that ballots came to nothing is told the first time, and then once an hour has passed since it was told last
abbrev pub is_due : Option ℕ → ℕ → Bool
is_due None now = true
is_due (Some told) now = nat_le (told + 3_600_000) now

-- nothing befell the number
abbrev pub first_story : StoryNote
first_story = record { begun = Never; ended = None }

-- what is told of that which befalls the ballots of a number, and what is kept in mind of it
abbrev pub heard : StoryNote → BallotTurn → ℕ → StoryChange
heard s Begins now = record { is_told = is_second s.begun; story = record { begun = one_more s.begun; ended = s.ended } }
heard s Ends now = record { is_told = is_due s.ended now; story = record { begun = s.begun; ended = if is_due s.ended now then Some now else s.ended } }

-- what is kept in mind of a number of which nothing is known is that nothing befell it
abbrev pub known : Option StoryNote → StoryNote
known None = first_story
known (Some s) = s

-- it was told of the ballots of a number, or not, and is kept in mind; or there is no room for a number more, and it was told
pub record HearsOf (n : ℕ) (turn : BallotTurn) (now : ℕ) (told : Bool) (old new : BTreeMap ℕ StoryNote) : Type 0 where
  pub hears :
      ((told ≡ (heard (known (get nat_cmp old n)) turn now).is_told) × Updates nat_cmp old new n (Some (heard (known (get nat_cmp old n)) turn now).story))
      ⊎ ((told ≡ true) × (get nat_cmp old n ≡ None) × (new.entries ≡ old.entries))
  pub bound : HasRoom old new

-- what befell a number was told in the usual log, or not: a release is, and its number is forgotten; that a file was sent, or a search answered, is not
abbrev pub Hears : LogEvent → ℕ → Bool → BTreeMap ℕ StoryNote → BTreeMap ℕ StoryNote → Type 0
Hears (Began n b) now told old new = HearsOf n Begins now told old new
Hears (GaveUp n b) now told old new = HearsOf n Ends now told old new
Hears (Nothing n b) now told old new = HearsOf n Ends now told old new
Hears (Released n) now told old new = (told ≡ true) × Forgets n old new
Hears (Sent n) now told old new = (told ≡ false) × (new.entries ≡ old.entries)
Hears (Lost n) now told old new = (told ≡ true) × (new.entries ≡ old.entries)
Hears (Done n) now told old new = (told ≡ false) × (new.entries ≡ old.entries)
Hears (Replaced n) now told old new = (told ≡ true) × (new.entries ≡ old.entries)

-- the same where so much is told: nothing of this where faults alone are
abbrev pub IsHeard : Loudness → LogEvent → ℕ → Bool → BTreeMap ℕ StoryNote → BTreeMap ℕ StoryNote → Type 0
IsHeard loudness.Faults event now told old new = told ≡ false
IsHeard loudness.Usual event now told old new = Hears event now told old new
IsHeard loudness.All event now told old new = told ≡ true

-- the line of what befell a number, where so much is told and this is
abbrev pub TellsHeard : Loudness → LogEvent → ℕ → BTreeMap ℕ StoryNote → BTreeMap ℕ StoryNote → Option (List ℕ) → Option (List ℕ) → Type 0
TellsHeard much event now last next old new = (told : Bool) × IsHeard much event now told last next × TellsIf (told ≡ true) (event_text event) old new

-- why a file is no offer is told, unless faults alone are
abbrev pub IsTellingRefused : Loudness → Type 0
IsTellingRefused loudness.Faults = ⊥
IsTellingRefused loudness.Usual = Unit {0}
IsTellingRefused loudness.All = Unit {0}
