-- The laws of the file `.released`.
use Rattle.std.specs.Prelude.{◌≡◌, ◌<◌, ◌≤◌, ◌⊎◌, ℕ, List, ◌++◌, length, take, slice_index}
use Rattle.gone_out.specs.declared.origin.Origin.{Origin}
use Rattle.gone_out.specs.Origins.{IsOrigin}
use Rattle.gone_out.specs.Files.{IsNumber, HasHead, HasRecord, whole_part, record_bytes, file}

-- no bytes have the heads of two stations
abbrev pub OneHead : Type 0
OneHead = (bytes : List ℕ) (o p : Origin) → IsOrigin o → IsOrigin p → HasHead bytes o → HasHead bytes p → o ≡ p

-- no record is that of two numbers, nor that of two stations: a record of another station's file is bad
abbrev pub OneRecord : Type 0
OneRecord = (o p : Origin) (n m : ℕ) → IsOrigin o → IsOrigin p → IsNumber n → IsNumber m → record_bytes o n ≡ record_bytes p m → (o ≡ p) × (n ≡ m)

-- the number is among these
abbrev pub IsAmong : List ℕ → ℕ → Type 0
IsAmong ns n = (i : ℕ) × (i < length ns) × (slice_index ns i ≡ n)

-- a file begins with its head, and the numbers that it was written of have records in it, whatever is left of a record behind them
pub record IsReadAgain (o : Origin) (ns rest : List ℕ) : Type 0 where
  pub head : HasHead (file o ns ++ rest) o
  pub all : (n : ℕ) → IsAmong ns n → HasRecord (file o ns ++ rest) o n
  pub only : (n : ℕ) → IsNumber n → HasRecord (file o ns ++ rest) o n → IsAmong ns n

abbrev pub ReadsItAgain : Type 0
ReadsItAgain = (o : Origin) (ns rest : List ℕ) → IsOrigin o → ((n : ℕ) → IsAmong ns n → IsNumber n) → length rest < 8 → IsReadAgain o ns rest

-- the bytes after a record was added behind the whole ones
abbrev pub added : Origin → List ℕ → ℕ → List ℕ
added o bytes n = take (whole_part (length bytes)) bytes ++ record_bytes o n

-- where a record is added, its number has one, the others have one as before, and no others do
pub record IsAdded (o : Origin) (bytes : List ℕ) (n : ℕ) : Type 0 where
  pub new : HasRecord (added o bytes n) o n
  pub kept : (m : ℕ) → HasRecord bytes o m → HasRecord (added o bytes n) o m
  pub only : (m : ℕ) → IsNumber m → HasRecord (added o bytes n) o m → HasRecord bytes o m ⊎ (m ≡ n)

abbrev pub AddsOne : Type 0
AddsOne = (o : Origin) (bytes : List ℕ) (n : ℕ) → IsOrigin o → IsNumber n → 16 ≤ length bytes → IsAdded o bytes n
