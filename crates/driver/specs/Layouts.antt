-- Datagrams of layout 2 that come to a station whose rows are of layout 1, and when they are told.
use Rattle.std.specs.Prelude.{◌≡◌, ◌≤◌, ◌+◌, ◌++◌, ℕ, List, Option, Some, None, IsSome, codes, decimal}
use Rattle.packets.specs.declared.fault.PacketFault.TheVariants.{BadVersion}
use Rattle.refusals.specs.declared.refusal.StepRefusal.{StepRefusal}
use Rattle.refusals.specs.declared.refusal.StepRefusal.TheVariants.{BadDatagram}
use Rattle.driver.specs.Said.{said_in}
use Rattle.driver.specs.declared.said.Said.{Said}

-- who sent it, by what its head says
abbrev pub sender_of : Option Said → Option ℕ
sender_of None = None
sender_of (Some said) = Some said.sender

-- the member that sent these bytes: a packet that a station of layout 2 reads, and that this one refused for its version
pub record IsNewerIn (refusal : StepRefusal) (bytes : List ℕ) (newer : Option ℕ) : Type 0 where
  pub sender : refusal ≡ BadDatagram BadVersion → newer ≡ sender_of (said_in bytes)
  pub else_none : ¬ (refusal ≡ BadDatagram BadVersion) → newer ≡ None

-- it is time to tell one: none was told yet, or the last a minute ago or longer
abbrev pub IsTime : Option ℕ → ℕ → Type 0
IsTime None now = Unit {0}
IsTime (Some told) now = told + 60_000 ≤ now

-- what was told last, where one of this member comes at a moment, if there is one: it is told if it is time
pub record IsToldLast (newer : Option ℕ) (now : ℕ) (old new : Option ℕ) : Type 0 where
  pub none : newer ≡ None → new ≡ old
  pub early : ¬ IsTime old now → new ≡ old
  pub told : IsSome newer → IsTime old now → new ≡ Some now

-- what is told of one of this member
abbrev pub newer_text : ℕ → List ℕ
newer_text member = codes "bad-version from member " ++ (decimal member ++ codes ": its rows are of layout 2, these of layout 1")
