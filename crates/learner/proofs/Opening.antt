-- Slots that may not be written down yet.
use Rattle.std.proofs.Common.{◌≡◌, ℕ, ◌-◌, refl, List, [], ◌∷◌, Option, Some, None}
use Rattle.std.proofs.Math.ListN.{get_or-map}
use Rattle.std.specs.Prelude.{map}
use Rattle.std.specs.Global.{Box}
use Rattle.arrayvec.specs.ArrayVec.{ArrayVec}
use Rattle.protocol.specs.Ballots.{Ballot, members}
use Rattle.protocol.specs.Rows.{Vote}
use Rattle.learner.specs.Slots.{nothing_heard, written, opened, slot_of, votes_in, least_in}

no_votes : (ms : List ℕ) → votes_in (map (λ m. None) ms) ≡ []
no_votes [] = refl
no_votes (m ∷ ms) = no_votes ms

-- none that is not written down votes
pub least_opened : (b : Ballot) (c : ℕ) (slots : Option (Box (ArrayVec (Option Vote)))) → least_in b (written slots) ≡ least_in b (opened c slots)
least_opened b c None = let none = no_votes (members c) in rw none refl
least_opened b c (Some slots) = refl

-- where none is written down, no vote stands
pub nothing_there : (c m : ℕ) → slot_of (nothing_heard c) m ≡ None
nothing_there c m = get_or-map (λ (k : ℕ). None) (members c) (m - 1) 0
