-- What a world logs of a station's answer.
use Rattle.std.specs.Prelude.{◌≡◌, ℕ, ◌+◌, ◌≤◌, ◌<◌, List, [], ◌∷◌, Option, Some, None, Result, Ok, Err, Bool, false, length, is_some, vec_len, vec_capacity, if◌then◌else◌}
use Rattle.protocol.specs.Refusals.{Call, Offering, Seeking, Falling_due, Receiving, Recalling}
use Rattle.protocol.specs.Circuit as circuit
use Rattle.protocol.specs.Limits.{most_sent}
use Rattle.tape_frames.specs.Entries.{owned_entry}
use Rattle.line_check.specs.declared.slug.Slug.{Slug}
use Rattle.line_check.specs.declared.fault.SetFault.{SetFault}
use Rattle.station.specs.declared.station.Station.{Station}
use Rattle.station.specs.declared.answer.Answer.{Answer}
use Rattle.station.specs.declared.answer.Release.{Release}
use Rattle.refusals.specs.declared.refusal.StepRefusal.{StepRefusal}
use Rattle.station.specs.Stations.{Sight}
use Rattle.station.specs.Upgrading.{DoesUpgrade}
use Rattle.station.specs.Readiness.{slugs_of}
use Rattle.world.specs.declared.step.Outcome.{Outcome}
use Rattle.world.specs.declared.step.Outcome.TheVariants as outcomes
use Rattle.world.specs.declared.step.Seen.{Seen}
use Rattle.world.specs.declared.world.World.{World}
use Rattle.world.specs.Taking.{was_taken}

-- the datagrams of an answer
abbrev pub out_of : Result Answer StepRefusal → List circuit.Datagram
out_of (Ok a) = a.out.items
out_of (Err refusal) = []

-- the log of a release by member m
abbrev pub logged : ℕ → Option Release → List (circuit.Release (List Slug) SetFault)
logged m None = []
logged m (Some r) = record { member = m; number = r.number; entry = owned_entry r.entry; set = slugs_of r.set } ∷ []

-- the log of an answer's release
abbrev pub released_of : ℕ → Result Answer StepRefusal → List (circuit.Release (List Slug) SetFault)
released_of m (Ok a) = logged m a.release
released_of m (Err refusal) = []

-- whether an answer releases
abbrev pub was_released : Result Answer StepRefusal → Bool
was_released (Ok a) = is_some a.release
was_released (Err refusal) = false

-- how the step ended
abbrev pub outcome_of : Result Answer StepRefusal → Outcome
outcome_of (Ok a) = outcomes.Done a.note
outcome_of (Err refusal) = outcomes.Refused refusal

-- how an upgrade ended
abbrev pub upgrade_outcome : Result (Unit {0}) StepRefusal → Outcome
upgrade_outcome (Ok done) = outcomes.Upgraded
upgrade_outcome (Err refusal) = outcomes.Refused refusal

-- a station took an upgrade, which ended so
abbrev pub UpgradedAs : {R : Type 0} → Sight R → Station R → Station R → Outcome → Type 0
UpgradedAs x old new o = (end : Result (Unit {0}) StepRefusal) × DoesUpgrade x old new end × (o ≡ upgrade_outcome end)

-- the offer to member m that a call makes, if it makes one
abbrev pub offer_of : ℕ → Call → Option circuit.Offer
offer_of m (Offering n entry now) = Some (record { member = m; number = n; entry = entry })
offer_of m (Seeking n now) = None
offer_of m (Falling_due now) = None
offer_of m (Receiving bytes now) = None
offer_of m (Recalling n to) = None

-- the log of an offer, where its step ended so
abbrev pub offered_of : Option circuit.Offer → Outcome → List circuit.Offer
offered_of None o = []
offered_of (Some offer) o = if was_taken o then offer ∷ [] else []

-- what is seen of an answer of member m, before which so many datagrams were sent
abbrev pub seen_of : ℕ → ℕ → Result Answer StepRefusal → Seen
seen_of m sent r = record { member = m; first = sent + 1; count = length (out_of r); released = was_released r; outcome = outcome_of r }

-- there is room for what one step adds to the logs
pub record HasRoom {R : Type 0} (v : World R) : Type 0 where
  pub sent : vec_len v.sent + most_sent ≤ vec_capacity v.sent
  pub offers : vec_len v.offers < vec_capacity v.offers
  pub releases : vec_len v.releases < vec_capacity v.releases
