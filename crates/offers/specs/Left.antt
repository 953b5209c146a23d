-- What is left to be done with the files of the book.
use Rattle.std.specs.Prelude.{◌≡◌, ◌<◌, ◌≤◌, ◌+◌, ℕ, Bool, false, if◌then◌else◌, List, Option, None, length, slice_index_or, IfSome, true}
use Rattle.folders.specs.declared.names.FileRequest.{FileRequest}
use Rattle.offers.specs.declared.offer.Offer.{Offer}
use Rattle.offers.specs.Order.{rank, file_at, is_search}
use Rattle.offers.specs.Stages.{tape_of, text_of, withdrawal_of, search_of}
use Rattle.offers.specs.Rules.{Standing, is_leaving_of, ask_moment_of, ask_moment_among, has_other_of}

-- none of the files from one index to another leaves the offers now
abbrev pub NoMoves : Standing → ℕ → ℕ → Type 0
NoMoves b low high = (i : ℕ) (d : Offer) → low ≤ i → i < high → is_leaving_of b (slice_index_or b.files i d) ≡ false

-- the place of a file in the order in which files are read or refused: those that are no searches come first, then the searches
abbrev pub read_place : ℕ → ℕ → Bool → ℕ
read_place many i search = if search then many + i else i

-- the same of a file of the book
abbrev pub place_of : Standing → ℕ → Offer → ℕ
place_of b i o = read_place (length b.files) i (is_search o.request.kind)

-- none of the files at the places from one to another is read or refused now
abbrev pub NoOthers : Standing → ℕ → ℕ → Type 0
NoOthers b low high =
    (i : ℕ) (d : Offer) → i < length b.files → low ≤ place_of b i (slice_index_or b.files i d) → place_of b i (slice_index_or b.files i d) < high → has_other_of b (slice_index_or b.files i d) ≡ false

-- the file at an index is read or refused now, and its place is this one
pub record IsOtherAt (b : Standing) (at index : ℕ) : Type 0 where
  pub within : index < length b.files
  pub place : (d : Offer) → place_of b index (slice_index_or b.files index d) ≡ at
  pub has : (d : Offer) → has_other_of b (slice_index_or b.files index d) ≡ true

-- none of the files has such a moment
abbrev pub NoneAmong : (Offer → Option ℕ) → List Offer → Type 0
NoneAmong moment_of files = (i : ℕ) (d : Offer) → i < length files → moment_of (slice_index_or files i d) ≡ None

-- the station may be asked for none of the files
abbrev pub NoAsks : Standing → Type 0
NoAsks b = NoneAmong (ask_moment_of b) b.files

-- the station may be asked for none of the searches
abbrev pub NoSearches : Standing → Type 0
NoSearches b = NoneAmong (ask_moment_among true b) b.files

-- the file that asks for this does not leave the offers now; or there is no such file
abbrev pub HasLeft : Standing → FileRequest → Type 0
HasLeft b r = IfSome (file_at b.files (rank r)) (λ o. is_leaving_of b o ≡ false)

-- none of the files of a number leaves the offers now
abbrev pub HaveLeft : Standing → ℕ → Type 0
HaveLeft b n = HasLeft b (tape_of n) × HasLeft b (text_of n) × HasLeft b (withdrawal_of n) × HasLeft b (search_of n)
