-- What a look found so far, and what a turn of it adds.
use Rattle.std.specs.Prelude.{◌≡◌, ◌+◌, ◌-◌, ◌^◌, ◌==◌, ℕ, List, [], Bool, false, Option, Some, None, String, min, string_bytes, if◌then◌else◌}
use Rattle.std.specs.Option.{option_map, option_or}
use Rattle.std.specs.List.{AllByRecursion, filter_map, last_or}
use Rattle.std.specs.Str.{bytes_eq}
use Rattle.std.specs.Global.{Global}
use Rattle.std.specs.Ordering.{nat_cmp}
use Rattle.std.specs.Cmp.Lexicographic.{slice_cmp}
use Rattle.std.specs.BTreeMap.{is_at}
use Rattle.std.specs.Map.{lookup}
use Rattle.folders.specs.declared.fault.FolderFault.{FolderFault}
use Rattle.folders.specs.declared.folders.Found as files
use Rattle.folders.specs.declared.folders.Listing.{Listing}
use Rattle.folders.specs.declared.folders.PassedOver.{PassedOver}
use Rattle.folders.specs.declared.names.FileRequest.{FileRequest}
use Rattle.folders.specs.declared.stamp.Stamp.{Stamp}
use Rattle.offers.specs.declared.offer.FoundOffer.{FoundOffer}
use Rattle.offers.specs.Order.{rank}
use Rattle.looks.specs.Names.{name_of, IsRequest, IsStray}

-- what a look found so far, each as a finite map in order of its keys: of each place the file that asks for it, of each name that asks for
-- nothing its stamp, of each name that is passed over why; how many names were not UTF-8; and whether there was no memory for some of it
pub record GatheringValue : Type 0 where
  pub requests : List (ℕ × FoundOffer)
  pub strays : List (String Global × Stamp)
  pub others : List (String Global × FolderFault)
  pub skipped : ℕ
  pub is_broken : Bool

-- nothing was found yet
abbrev pub nothing_found : GatheringValue
nothing_found = record { requests = []; strays = []; others = []; skipped = 0; is_broken = false }

-- what stands under a name
abbrev pub under : {X : Type 0} → List (String Global × X) → List ℕ → Option X
under entries name = lookup (is_at (λ k. slice_cmp nat_cmp name (string_bytes k))) entries

-- the stamp of the file that asks for this
abbrev pub request_at : GatheringValue → FileRequest → Option Stamp
request_at g r = option_map (λ (f : FoundOffer). f.stamp) (lookup (is_at (nat_cmp (rank r))) g.requests)

-- the stamp of a file whose name asks for nothing
abbrev pub stray_at : GatheringValue → List ℕ → Option Stamp
stray_at g name = under g.strays name

-- why something is passed over
abbrev pub other_at : GatheringValue → List ℕ → Option FolderFault
other_at g name = under g.others name

-- each file that asks for something stands at its own place
abbrev pub ArePlaced : List (ℕ × FoundOffer) → Type 0
ArePlaced requests = AllByRecursion (λ (e : ℕ × FoundOffer). rank e.1.request ≡ e.0) requests

-- each file that asks for something stands at its own place, and each other one has a name that asks for nothing and is not left alone
pub record IsGathering (requests : List (ℕ × FoundOffer)) (strays : List (String Global × Stamp)) : Type 0 where
  pub placed : ArePlaced requests
  pub stray : AllByRecursion (λ (e : String Global × Stamp). IsStray (string_bytes e.0)) strays

-- the stamp of a file, where it has this name
abbrev pub stamp_as : List ℕ → files.Found → Option Stamp
stamp_as name f = if bytes_eq (string_bytes f.name) name then Some f.stamp else None

-- why something is passed over, where it has this name
abbrev pub fault_as : List ℕ → PassedOver → Option FolderFault
fault_as name o = if bytes_eq (string_bytes o.name) name then Some o.fault else None

-- the stamp of the last of these files that has this name; where none has, what it was before
abbrev pub last_stamp : List ℕ → Option Stamp → List files.Found → Option Stamp
last_stamp name before found = last_or before (filter_map (stamp_as name) found)

-- why the last of these that has this name is passed over; where none has, what it was before
abbrev pub last_fault : List ℕ → Option FolderFault → List PassedOver → Option FolderFault
last_fault name before others = last_or before (filter_map (fault_as name) others)

-- a file was put to those that ask for something
pub record PutsRequest (f : FoundOffer) (old new : GatheringValue) : Type 0 where
  pub request : IsRequest f.request
  pub requests : (r : FileRequest) → request_at new r ≡ (if rank f.request == rank r then Some f.stamp else request_at old r)
  pub strays : new.strays ≡ old.strays
  pub others : new.others ≡ old.others
  pub skipped : new.skipped ≡ old.skipped

-- a file of this name was put to those that ask for nothing
pub record PutsStray (own : List ℕ) (stamp : Stamp) (old new : GatheringValue) : Type 0 where
  pub strays : (name : List ℕ) → stray_at new name ≡ (if bytes_eq own name then Some stamp else stray_at old name)
  pub requests : new.requests ≡ old.requests
  pub others : new.others ≡ old.others
  pub skipped : new.skipped ≡ old.skipped

-- a file was taken in: it is what was found of its request, or of its name where that asks for nothing; one that is left alone is nowhere
pub record GathersFile (file : files.Found) (old new : GatheringValue) : Type 0 where
  pub requests : (r : FileRequest) → IsRequest r → request_at new r ≡ option_or (stamp_as (name_of r) file) (request_at old r)
  pub strays : (name : List ℕ) → IsStray name → stray_at new name ≡ option_or (stamp_as name file) (stray_at old name)
  pub others : new.others ≡ old.others
  pub skipped : new.skipped ≡ old.skipped
  pub broken : old.is_broken ≡ false

-- files were taken in: of each request it is known what was found last under its name, and so of each name that asks for nothing
pub record GathersFiles (found : List files.Found) (old new : GatheringValue) : Type 0 where
  pub requests : (r : FileRequest) → IsRequest r → request_at new r ≡ last_stamp (name_of r) (request_at old r) found
  pub strays : (name : List ℕ) → IsStray name → stray_at new name ≡ last_stamp name (stray_at old name) found
  pub others : new.others ≡ old.others
  pub skipped : new.skipped ≡ old.skipped
  pub broken : old.is_broken ≡ false

-- something was taken in that is passed over
pub record GathersOther (other : PassedOver) (old new : GatheringValue) : Type 0 where
  pub others : (name : List ℕ) → other_at new name ≡ option_or (fault_as name other) (other_at old name)
  pub requests : new.requests ≡ old.requests
  pub strays : new.strays ≡ old.strays
  pub skipped : new.skipped ≡ old.skipped
  pub broken : old.is_broken ≡ false

-- all that is passed over was taken in: of each name it is known why it was passed over last
pub record GathersOthers (others : List PassedOver) (old new : GatheringValue) : Type 0 where
  pub faults : (name : List ℕ) → other_at new name ≡ last_fault name (other_at old name) others
  pub requests : new.requests ≡ old.requests
  pub strays : new.strays ≡ old.strays
  pub skipped : new.skipped ≡ old.skipped
  pub broken : old.is_broken ≡ false

-- what was found in a turn was taken in, and there was memory for all that was before
pub record Takes (listing : Listing) (old new : GatheringValue) : Type 0 where
  pub requests : (r : FileRequest) → IsRequest r → request_at new r ≡ last_stamp (name_of r) (request_at old r) listing.files.items
  pub strays : (name : List ℕ) → IsStray name → stray_at new name ≡ last_stamp name (stray_at old name) listing.files.items
  pub others : (name : List ℕ) → other_at new name ≡ last_fault name (other_at old name) listing.others.items
  pub skipped : new.skipped ≡ min (old.skipped + listing.skipped) (2 ^ 64 - 1)
  pub broken : old.is_broken ≡ false
