-- The order of the files among the offers.
use Rattle.std.specs.Prelude.{◌≡◌, ◌<◌, length, slice_index_or, ℕ, ◌+◌, ◌*◌, ◌≤◌, ◌==◌, suc, List, [], ◌∷◌, Option, Some, None, Bool, true, false, nat_lt, if◌then◌else◌}
use Rattle.folders.specs.declared.names.OfferKind.{OfferKind}
use Rattle.folders.specs.declared.names.OfferKind.TheVariants.{Tape, Text, Withdraw, Seek}
use Rattle.folders.specs.declared.names.FileRequest.{FileRequest}
use Rattle.offers.specs.declared.offer.FoundOffer.{FoundOffer}
use Rattle.offers.specs.declared.offer.Offer.{Offer}

-- of one number the tape stands first, then the text, then the withdrawal, then the search
abbrev pub kind_rank : OfferKind → ℕ
kind_rank Tape = 0
kind_rank Text = 1
kind_rank Withdraw = 2
kind_rank Seek = 3

-- a search asks for what stands under a number; each other file offers an entry for it
abbrev pub is_search : OfferKind → Bool
is_search Tape = false
is_search Text = false
is_search Withdraw = false
is_search Seek = true

-- the place of a file among all files that there can be
abbrev pub rank : FileRequest → ℕ
rank r = 4 * r.number + kind_rank r.kind

-- the files are in order from this place on, each once
abbrev pub RisesFrom : ℕ → List Offer → Type 0
RisesFrom low [] = Unit {0}
RisesFrom low (o ∷ os) = (low ≤ rank o.request) × RisesFrom (suc (rank o.request)) os

-- the files are in order, each once
abbrev pub Rises : List Offer → Type 0
Rises offers = RisesFrom 0 offers

-- the first file at this place
abbrev pub file_at : List Offer → ℕ → Option Offer
file_at [] k = None
file_at (o ∷ os) k = if rank o.request == k then Some o else file_at os k

-- what was found, from this place on, except what stands out of order
abbrev pub rising_from : ℕ → List FoundOffer → List FoundOffer
rising_from low [] = []
rising_from low (f ∷ fs) = if nat_lt (rank f.request) low then rising_from low fs else f ∷ rising_from (suc (rank f.request)) fs

-- what was found, in order, each once; where it was found in order, all of it
abbrev pub rising : List FoundOffer → List FoundOffer
rising found = rising_from 0 found

-- the first of the files stands before this place
abbrev pub starts_before : ℕ → List Offer → Bool
starts_before low [] = false
starts_before low (o ∷ os) = nat_lt (rank o.request) low

-- the files from this place on
abbrev pub from : ℕ → List Offer → List Offer
from low [] = []
from low (o ∷ os) = if nat_lt (rank o.request) low then from low os else o ∷ os

-- the file of this place stands at this index
pub record IsPlaceOf (offers : List Offer) (place index : ℕ) : Type 0 where
  pub within : index < length offers
  pub is : (d : Offer) → rank (slice_index_or offers index d).request ≡ place
