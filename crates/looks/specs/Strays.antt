-- The files whose names ask for nothing, and what a look makes of them.
use Rattle.std.specs.Prelude.{ℕ, zero, suc, List, [], ◌∷◌, Bool, true, false, Option, Some, None, String, length, drop, map, string_bytes, if◌then◌else◌}
use Rattle.std.specs.List.{position_from, slice_get}
use Rattle.std.specs.Option.{unwrap_or}
use Rattle.std.specs.List.Sorted.{IsStrictlySortedBy}
use Rattle.std.specs.declared.cmp.Ordering.{Ordering}
use Rattle.std.specs.declared.cmp.Ordering.TheVariants.{Less, Equal, Greater}
use Rattle.std.specs.Cmp.Lexicographic.{slice_cmp}
use Rattle.std.specs.Ordering.{nat_cmp}
use Rattle.std.specs.Str.{bytes_eq}
use Rattle.std.specs.String.{string_cmp}
use Rattle.std.specs.Global.{Global}
use Rattle.folders.specs.declared.stamp.Stamp.{Stamp}
use Rattle.looks.specs.declared.sighting.Sighting.{Sighting}
use Rattle.looks.specs.declared.sighting.Stray.{Stray}
use Rattle.looks.specs.Names.{is_before}
use Rattle.looks.specs.Sightings.{is_ripe, sighted}

-- the files in order of their names, as they were found at the last look; its moment; how long a file has to stay as it is; and from which
-- file on it is left to see whether it is moved
pub record StraysValue : Type 0 where
  pub files : List Stray
  pub looked : ℕ
  pub still : ℕ
  pub next : ℕ

-- none is known yet
abbrev pub none_known : ℕ → StraysValue
none_known still = record { files = []; looked = 0; still = still; next = 0 }

-- the files are in order of their names, each once
abbrev pub AreInOrder : List Stray → Type 0
AreInOrder files = IsStrictlySortedBy string_cmp (map (λ (s : Stray). s.name) files)

-- what is known of the file of this name
abbrev pub known_of : List Stray → List ℕ → Option Sighting
known_of [] name = None
known_of (s ∷ rest) name = if bytes_eq (string_bytes s.name) name then Some s.sighting else known_of rest name

-- a file that is found now, beside all that was known
abbrev pub seen : List Stray → ℕ → String Global × Stamp → Stray
seen known now found = record { name = found.0; sighting = sighted (known_of known (string_bytes found.0)) found.1 now }

-- the files after a look: what was found and nothing else, each with what was known of it, where it is as it was
abbrev pub looked : List Stray → ℕ → List (String Global × Stamp) → List Stray
looked known now found = map (seen known now) found

-- the first of the files stands before a name
abbrev pub starts_before : List ℕ → List Stray → Bool
starts_before name [] = false
starts_before name (s ∷ rest) = is_before (string_bytes s.name) name

-- the files from the first on that does not
abbrev pub from : List ℕ → List Stray → List Stray
from name [] = []
from name (s ∷ rest) = if is_before (string_bytes s.name) name then from name rest else s ∷ rest

-- what is known of the file of this name, where it is the first
abbrev pub first_known : List ℕ → List Stray → Option Sighting
first_known name [] = None
first_known name (s ∷ rest) = if bytes_eq (string_bytes s.name) name then Some s.sighting else None

-- the files behind the one of this name, where it is the first
abbrev pub past : List ℕ → List Stray → List Stray
past name [] = []
past name (s ∷ rest) = if bytes_eq (string_bytes s.name) name then rest else s ∷ rest

-- how the first of the files stands to a name; behind it, where there is none
abbrev pub first_stands : List ℕ → List Stray → Ordering
first_stands name [] = Greater
first_stands name (s ∷ rest) = slice_cmp nat_cmp (string_bytes s.name) name

-- what is known of a file to which the first stands so
abbrev pub known_where : Ordering → List Stray → Option Sighting
known_where Less rest = None
known_where Equal [] = None
known_where Equal (s ∷ rest) = Some s.sighting
known_where Greater rest = None

-- the files that are left then
abbrev pub left_where : Ordering → List Stray → List Stray
left_where Less rest = rest
left_where Equal [] = []
left_where Equal (s ∷ rest) = rest
left_where Greater rest = rest

-- the place of the first file from the next on that is moved
abbrev pub first_ripe : StraysValue → Option ℕ
first_ripe b = position_from (λ (s : Stray). is_ripe b.still b.looked s.sighting) b.next (drop b.next b.files)

-- from which file on it is left to see, once it was sought: from that one on, or none
abbrev pub next_ripe : StraysValue → ℕ
next_ripe b = unwrap_or (first_ripe b) (length b.files)

-- the file, if it is moved
abbrev pub if_ripe : ℕ → ℕ → Option Stray → Option Stray
if_ripe still looked None = None
if_ripe still looked (Some s) = if is_ripe still looked s.sighting then Some s else None

-- the next file, if it is moved
abbrev pub ripe_at : StraysValue → Option Stray
ripe_at b = if_ripe b.still b.looked (slice_get b.files b.next)

-- what is known of the file at a place changed so, and of no other
abbrev pub noted : ℕ → (Sighting → Sighting) → List Stray → List Stray
noted place g [] = []
noted zero g (s ∷ rest) = record s { sighting = g s.sighting } ∷ rest
noted (suc place) g (s ∷ rest) = s ∷ noted place g rest

abbrev pub with_next : (Sighting → Sighting) → StraysValue → StraysValue
with_next g b = record b { files = noted b.next g b.files }
