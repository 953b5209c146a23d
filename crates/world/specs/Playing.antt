-- A circuit that is played from its beginning: where its steps lead, and why it is not played.
use Rattle.std.specs.Prelude.{◌≡◌, ℕ, List, Result, Ok, Err, IfErr, length, map}
use Rattle.std.specs.declared.vec.Vec.{Vec}
use Rattle.std.specs.Global.{Global}
use Rattle.protocol.specs.Versions.{Version}
use Rattle.protocol.specs.Circuit.{fresh}
use Rattle.rows_saved.specs.declared.rows.Rows.{Ghosts}
use Rattle.world.specs.declared.world.World.{World}
use Rattle.world.specs.declared.step.Step.{Step}
use Rattle.world.specs.declared.step.RunStop.{RunStop}
use Rattle.world.specs.declared.plays.PlayFault.{PlayFault}
use Rattle.world.specs.declared.plays.Played.{Played}
use Rattle.world.specs.declared.plays.PlayFault.TheVariants.{BadCount, OutOfMemory}
use Rattle.world.specs.Setups.{StationCircuit}
use Rattle.world.specs.Founding.{Part, Given, given_of, IsCount, IsFounded, IsCircuitOf, AreAt, AreBlank, AreNewlyMade}
use Rattle.world.specs.Reach.{Runs, StandsFor, AllKept}
use Rattle.world.specs.Taking.{StopsAt}

-- from the fresh state of the circuit of these members, each at its version, the steps lead to a state that the world stands for,
-- or those before the one that was refused do
abbrev pub Plays : {R A : Type 0} → Ghosts R → ℕ → List Given → (ℕ → Version) → List Step → World R → Result A RunStop → Type 0
Plays g k members at steps v run = (z : StationCircuit) → IsCircuitOf k members z → Runs g.is_open g.saved g.version z (fresh at) steps v run

-- where no row of the parts is saved, and each member's rows are kept: the same of their circuit, each member at the version of its rows
abbrev pub PlaysParts : {R A : Type 0} → Ghosts R → ℕ → List (Part R) → List Step → World R → Result A RunStop → Type 0
PlaysParts g k parts steps v run =
    AreBlank g.is_open g.saved parts → AllKept g.kept v → (at : ℕ → Version) → AreAt g.version at parts
    → Plays g k (map given_of parts) at steps v run

-- it is not played since no circuit has so many members; or one has, and memory was refused
abbrev pub IsUnplayed : ℕ → PlayFault → Type 0
IsUnplayed count BadCount = ¬ IsCount count
IsUnplayed count OutOfMemory = IsCount count

-- the members were played from their beginning, all at this version: the steps lead to this world, or those before the one at which it stopped;
-- or they were not played, for this reason
abbrev pub WasPlayed : {R : Type 0} → Ghosts R → ℕ → List Given → Version → List Step → Result (Played R) PlayFault → Type 0
WasPlayed g k members version steps (Ok p) = Plays g k members (λ _. version) steps p.world p.run × IfErr p.run (StopsAt steps p.world)
WasPlayed g k members version steps (Err fault) = IsUnplayed (length members) fault

-- these members, each with rows at this version that were just made for it
pub record HaveRows {R : Type 0} (g : Ghosts R) (version : Version) (members : List Given) (parts : List (Part R)) : Type 0 where
  pub new : AreNewlyMade g parts
  pub at : AreAt g.version (λ _. version) parts
  pub given : map given_of parts ≡ members

-- each member of a circuit has its rows; or the circuit is not played, for this reason
abbrev pub Musters : {R : Type 0} → Ghosts R → Version → List Given → Result (Vec (Part R) Global) PlayFault → Type 0
Musters g version members (Ok parts) = IsCount (length members) × HaveRows g version members parts.items
Musters g version members (Err fault) = IsUnplayed (length members) fault

-- circuit k of these members, whatever their rows, and nothing went between them
abbrev pub IsBeginning : {R : Type 0} → Ghosts R → ℕ → List Given → World R → Type 0
IsBeginning {R = R} g k members v = (parts : List (Part R)) × (map given_of parts ≡ members) × IsFounded g.version k parts v

-- the world stands for the fresh state of the circuit of these members, each at its version
abbrev pub IsFresh : {R : Type 0} → Ghosts R → ℕ → List Given → (ℕ → Version) → World R → Type 0
IsFresh g k members at v = (z : StationCircuit) → IsCircuitOf k members z → StandsFor g.is_open g.saved g.version z v (fresh at)

-- where no row of the parts is saved: the same of their circuit, each member at the version of its rows
abbrev pub IsFreshOf : {R : Type 0} → Ghosts R → ℕ → List (Part R) → World R → Type 0
IsFreshOf g k parts v = AreBlank g.is_open g.saved parts → (at : ℕ → Version) → AreAt g.version at parts → IsFresh g k (map given_of parts) at v
