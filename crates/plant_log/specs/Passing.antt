-- What is passed over among the offers, and when it is told.
use Rattle.std.specs.Prelude.{◌≡◌, ◌⊎◌, ℕ, List, Option, Some, String, string_bytes, codes}
use Rattle.protocol.specs.Lists.{IsAmong}
use Rattle.std.specs.BTreeMap.{BTreeMap, get_by_text}
use Rattle.std.specs.Global.{Global}
use Rattle.folders.specs.Offers.{IsLeft}
use Rattle.folders.specs.LogNames.{shown_name}
use Rattle.folders.specs.declared.folders.PassedOver.{PassedOver}
use Rattle.plant_log.specs.declared.standing.Standing.{Standing}
use Rattle.plant_log.specs.Words.{file_text}
use Rattle.plant_log.specs.Telling.{TellsEach}
use Rattle.plant_log.specs.Standing.{IsToldAnew, StandsAfter}

-- it is told that this is passed over: it is not left alone, and its fault is told anew
abbrev pub IsPassingTold : BTreeMap (String Global) Standing → ℕ → PassedOver → Type 0
IsPassingTold last now each = (¬ IsLeft (string_bytes each.name)) × IsToldAnew (get_by_text last (string_bytes each.name)) each.fault now

-- the line of it
abbrev pub passing_text : PassedOver → List ℕ
passing_text each = file_text (codes "cannot read") (shown_name (string_bytes each.name)) each.fault

-- what of these is to be told, in turn
abbrev pub TellsPassed : BTreeMap (String Global) Standing → ℕ → List PassedOver → Option (List ℕ) → Option (List ℕ) → Type 0
TellsPassed last now others old new = TellsEach (IsPassingTold last now) passing_text others old new

-- what is kept in mind of a name is what telling this left, which has the name
abbrev pub IsKeptOf : BTreeMap (String Global) Standing → ℕ → List ℕ → PassedOver → Standing → Type 0
IsKeptOf last now name each s = (string_bytes each.name ≡ name) × StandsAfter (get_by_text last name) each.fault now s

-- this was kept in mind, and what was kept of other names stays; or there was no memory for it
abbrev pub KeepsOne : BTreeMap (String Global) Standing → ℕ → PassedOver → BTreeMap (String Global) Standing → BTreeMap (String Global) Standing → Type 0
KeepsOne last now each old new = (name : List ℕ) →
    (get_by_text new name ≡ get_by_text old name) ⊎ ((s : Standing) × (get_by_text new name ≡ Some s) × IsKeptOf last now name each s)

-- what is kept in mind of a name is what telling one of these left, which has the name
abbrev pub IsKeptOfOne : BTreeMap (String Global) Standing → ℕ → List PassedOver → List ℕ → Standing → Type 0
IsKeptOfOne last now others name s = (each : PassedOver) × IsAmong others each × IsKeptOf last now name each s

-- these were kept in mind, or there was no memory for them, and what was kept of other names stays
abbrev pub Remembers : BTreeMap (String Global) Standing → ℕ → List PassedOver → BTreeMap (String Global) Standing → BTreeMap (String Global) Standing → Type 0
Remembers last now others old new = (name : List ℕ) →
    (get_by_text new name ≡ get_by_text old name) ⊎ ((s : Standing) × (get_by_text new name ≡ Some s) × IsKeptOfOne last now others name s)
