-- What is shown of a circuit, step by step.
use Rattle.std.specs.Prelude.{◌≡◌, ℕ, ◌+◌, List, [], ◌∷◌, ◌++◌, Some, length, flat_map}
use Rattle.protocol.specs.Versions.{Version}
use Rattle.protocol.specs.Circuit.{Datagram, Release, StepsTo, fresh}
use Rattle.protocol.specs.Circuit as circuit
use Rattle.packets.specs.declared.fault.PacketFault.{PacketFault}
use Rattle.rows_saved.specs.Memory.{MemoryOf}
use Rattle.rows_saved.specs.contracts.memory.MemoryRowsRows.TheImpl.{ghosts}
use Rattle.line_check.specs.declared.slug.Slug.{Slug}
use Rattle.line_check.specs.declared.fault.SetFault.{SetFault}
use Rattle.world.specs.declared.world.World.{World}
use Rattle.world.specs.declared.step.Outcome.{Outcome}
use Rattle.world.specs.declared.step.Seen.{Seen}
use Rattle.world.specs.declared.step.Step.{Step}
use Rattle.world.specs.Setups.{StationCircuit, StationState}
use Rattle.world.specs.Founding.{Given, IsCircuitOf}
use Rattle.world.specs.Reach.{StandsFor}
use Rattle.world.specs.Taking.{actor, step_value, EndsAs}
use Rattle.rehearse_command.specs.Datagrams.{datagrams_text}
use Rattle.rehearse_command.specs.Lines.{outcome_line, released_text}
use Rattle.rehearse_command.specs.declared.scene_lines.ShownStep.{ShownStep}

-- one step: who acted and how it ended, the datagrams that were sent in it and the entries that were released
pub record Scene : Type 0 where
  pub member : ℕ
  pub outcome : Outcome
  pub sent : List Datagram
  pub releases : List (Release (List Slug) SetFault)

-- the scene of what was seen of a step, with the datagrams and the releases that it added
abbrev pub scene_of : Seen → List Datagram → List (Release (List Slug) SetFault) → Scene
scene_of seen sent releases = record { member = seen.member; outcome = seen.outcome; sent = sent; releases = releases }

-- what is shown of a step, before which so many datagrams were sent
abbrev pub scene_text : ℕ → Scene → List ℕ
scene_text before s = outcome_line s.member s.outcome ++ (datagrams_text before s.sent ++ flat_map released_text s.releases)

-- what is shown of a step that was seen
abbrev pub shown_text : ShownStep → List ℕ
shown_text s = scene_text s.before (scene_of s.seen s.sent.now s.releases.now)

-- what is shown of steps, one after the other
abbrev pub scenes_text : ℕ → List Scene → List ℕ
scenes_text before [] = []
scenes_text before (s ∷ scenes) = scene_text before s ++ scenes_text (before + length s.sent) scenes

-- the scenes are of this world, and of all of it: each datagram and each release of it stands in them, once, in order
pub record AreOf (v : World MemoryOf) (scenes : List Scene) : Type 0 where
  pub sent : flat_map (λ (s : Scene). s.sent) scenes ≡ v.sent.items
  pub releases : flat_map (λ (s : Scene). s.releases) scenes ≡ v.releases.items

-- the circuit takes this step, and it ends as was seen of it
abbrev pub TakesAs : StationCircuit → StationState → Step → Outcome → StationState → Type 0
TakesAs z w step seen after = (o : circuit.Outcome PacketFault SetFault) × EndsAs seen (Unit {0}) o × StepsTo z w (step_value step) o after

-- from one state of a circuit to another by a step for each scene, whose actor is the scene's member, and which ends as the scene says
abbrev pub Takes : StationCircuit → StationState → List Scene → StationState → Type 0
Takes z w [] after = after ≡ w
Takes z w (s ∷ scenes) after =
    (step : Step) × (mid : StationState) × (actor w.sent step ≡ Some s.member) × TakesAs z w step s.outcome mid × Takes z mid scenes after

-- from the fresh state of the circuit of these members, all at this version, the scenes lead to a state that the world stands for
abbrev pub ArePlayed : ℕ → List Given → Version → World MemoryOf → List Scene → Type 0
ArePlayed k members version v scenes =
    (z : StationCircuit) → IsCircuitOf k members z
    → (w : StationState) × StandsFor ghosts.is_open ghosts.saved ghosts.version z v w × Takes z (fresh (λ m. version)) scenes w
