-- What the words of `init` ask for.
use Rattle.std.specs.Prelude.{◌≡◌, ◌⊎◌, ℕ, List, Bool, true, false, Option, Some, None, option_map}
use Rattle.std.specs.Borrow.{Bor}
use Rattle.arguments.specs.declared.plan.AllNamed.{AllNamed}
use Rattle.arguments.specs.declared.plan.Members.{Members}
use Rattle.arguments.specs.declared.plan.Members.TheVariants.{One, All}
use Rattle.arguments.specs.declared.plan.Mismatch.{Mismatch}
use Rattle.arguments.specs.declared.plan.Mismatch.TheVariants.{NoMembers, NoStations, NoSetting}
use Rattle.arguments.specs.declared.plan.Named.{Named}

-- the members whose plants are made: all, where that is said, or the one that is named
abbrev pub are_members : Option ℕ → Bool → Option Members
are_members member true = Some All
are_members (Some member) false = Some (One member)
are_members None false = None

-- what is named, as text
abbrev pub word : Option (Bor (List ℕ)) → Option (List ℕ)
word named = option_map (λ text. text.now) named

-- all that is named
pub record IsAllOf (named : Named) (all : AllNamed) : Type 0 where
  pub members : named.members ≡ Some all.members
  pub stations : word named.stations ≡ Some all.stations.now
  pub table : word named.table ≡ Some all.table.now
  pub widths : word named.widths ≡ Some all.widths.now

-- one of the two files is not named
abbrev pub HasNoSetting : Named → Type 0
HasNoSetting named = (named.table ≡ None) ⊎ (named.widths ≡ None)

-- what is told is not named
abbrev pub LacksOne : Named → Mismatch → Type 0
LacksOne named mismatch =
    ((named.members ≡ None) × (mismatch ≡ NoMembers))
    ⊎ (((named.stations ≡ None) × (mismatch ≡ NoStations)) ⊎ (HasNoSetting named × (mismatch ≡ NoSetting)))
