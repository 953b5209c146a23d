-- What went out at a plant, as a station keeps it in the file `.released` and beside it.
use Rattle.std.specs.Prelude.{◌≡◌, ◌≤◌, ◌↔◌, ◌⊎◌, ◌++◌, ◌&&◌, ℕ, Bool, not, IsTrue, List, Option, None, Some, take, length}
use Rattle.gone_out.specs.declared.origin.Origin.{Origin}
use Rattle.gone_out.specs.Origins.{IsOrigin}
use Rattle.gone_out.specs.Files.{IsNumber, HasHead, HasRecord, records, whole_part}
use Rattle.gone_out.specs.Laws.{IsAmong}
use Rattle.gone_out.specs.Numbers.{has}
use Rattle.folders.specs.declared.change.Change.{Change}
use Rattle.folders.specs.Changes.{after}

-- the file begins with the station's head, and the numbers that have a record in it are those of the set
pub record IsFileOf (o : Origin) (flags : List Bool) (bytes : List ℕ) : Type 0 where
  pub head : HasHead bytes o
  pub all : (n : ℕ) → IsNumber n → IsTrue (has flags n) → HasRecord bytes o n
  pub only : (n : ℕ) → IsNumber n → HasRecord bytes o n → IsTrue (has flags n)

-- the same, except for numbers of the set that wait for their records
pub record IsFileBut (o : Origin) (flags : List Bool) (waiting bytes : List ℕ) : Type 0 where
  pub head : HasHead bytes o
  pub all : (n : ℕ) → IsNumber n → IsTrue (has flags n) → HasRecord bytes o n ⊎ IsAmong waiting n
  pub only : (n : ℕ) → IsNumber n → HasRecord bytes o n ⊎ IsAmong waiting n → IsTrue (has flags n)

-- the change makes the file good that has this length, or 0 where there is none: the numbers that wait have their records then
abbrev pub MakesGood : Origin → List Bool → List ℕ → ℕ → Change → Type 0
MakesGood o flags waiting len change =
    (bytes : List ℕ) → length bytes ≡ len → (16 ≤ len → IsFileBut o flags waiting bytes) → IsFileOf o flags (after change bytes)

-- the file begins with the head of no station
abbrev pub HasNoHead : List ℕ → Type 0
HasNoHead bytes = (o : Origin) → IsOrigin o → ¬ HasHead bytes o

-- some number has a record of this station in it
abbrev pub HasSomeRecord : List ℕ → Origin → Type 0
HasSomeRecord bytes o = (n : ℕ) × (IsNumber n × HasRecord bytes o n)

-- the file is this station's: it has its head, or it has no head, and a record of this station all the same
abbrev pub IsOwnFile : List ℕ → Origin → Type 0
IsOwnFile bytes o = HasHead bytes o ⊎ (HasNoHead bytes × HasSomeRecord bytes o)

-- some number is in the set
abbrev pub HasSomeNumber : List Bool → Type 0
HasSomeNumber flags = (n : ℕ) × (IsNumber n × IsTrue (has flags n))

-- the bytes after the records of these numbers were added behind the whole ones
abbrev pub added_all : Origin → List ℕ → List ℕ → List ℕ
added_all o bytes ns = take (whole_part (length bytes)) bytes ++ records o ns

-- the numbers of the first set that are not in the second
abbrev pub IsWithout : List Bool → List Bool → List Bool → Type 0
IsWithout flags others left = (n : ℕ) → IsNumber n → has left n ≡ (has flags n && not (has others n))

-- both sets have the same numbers
abbrev pub HaveSame : List Bool → List Bool → Type 0
HaveSame flags others = (n : ℕ) → IsNumber n → has flags n ≡ has others n

-- the numbers are those that have a record of the station in the file
abbrev pub AreThoseOf : List Bool → Origin → List ℕ → Type 0
AreThoseOf flags o bytes = (n : ℕ) → IsNumber n → (IsTrue (has flags n) ↔ HasRecord bytes o n)

-- at the first start that keeps it what has a row counts as gone out, and what is missing has a row
abbrev pub StartsWith : List Bool → List Bool → Option (List Bool) → Type 0
StartsWith known numbers None = Unit {0}
StartsWith known numbers (Some missing) = HaveSame numbers known × ((n : ℕ) → IsNumber n → IsTrue (has missing n) → IsTrue (has known n))
