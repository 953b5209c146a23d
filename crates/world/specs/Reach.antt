-- The states of a circuit that a world stands for, where its steps lead, and what is agreed in it.
use Rattle.std.specs.Prelude.{◌≡◌, ℕ, List, [], ◌∷◌, Some, Result, Ok, Err, IfErr, take}
use Rattle.protocol.specs.Lists.{IsAmong}
use Rattle.protocol.specs.Entries.{Entry}
use Rattle.protocol.specs.Versions.{Version}
use Rattle.protocol.specs.Circuit.{Release, Outcome, StepsTo, History}
use Rattle.protocol.specs.Agreement.{IsChosen}
use Rattle.packets.specs.declared.fault.PacketFault.{PacketFault}
use Rattle.code_table.specs.Tables.{Places, mean}
use Rattle.widths.specs.Widths.{WidthFile}
use Rattle.line_check.specs.declared.slug.Slug.{Slug}
use Rattle.line_check.specs.declared.fault.SetFault.{SetFault}
use Rattle.rows_saved.specs.Saved.{Saved}
use Rattle.rows_saved.specs.declared.balky.Balky.{Balky}
use Rattle.rows_saved.specs.declared.rows.Rows.{Ghosts}
use Rattle.node_core.specs.Standing.{StandsFor as CoreStandsFor}
use Rattle.station.specs.declared.station.Station.{Station}
use Rattle.station.specs.Readiness.{SetsEntry}
use Rattle.world.specs.declared.world.World.{World}
use Rattle.world.specs.declared.step.Step.{Step}
use Rattle.world.specs.declared.step.Seen.{Seen}
use Rattle.world.specs.declared.step.RunStop.{RunStop}
use Rattle.world.specs.declared.step.WorldRefusal.{WorldRefusal}
use Rattle.world.specs.Setups.{StationCircuit, StationState, IsSetUp}
use Rattle.world.specs.Worlds.{station_at, count_of}
use Rattle.world.specs.Taking.{step_value, EndsAs, RowsRefused, StopsAt, TakesFront, Tells, TellsWhy}

-- both halves: what each member's rows stand on was made for it, nobody else wrote to them, and they read back what was written
abbrev pub AllKept : {R : Type 0} → (R → Type 0) → World R → Type 0
AllKept {R = R} kept v = (m : ℕ) (s : Station (Balky R)) → station_at v m ≡ Some s → kept s.rows.rows

-- the store's half: what each member's rows stand on was made for them
abbrev pub AllMade : {R : Type 0} → (R → Type 0) → World R → Type 0
AllMade {R = R} made v = (m : ℕ) (s : Station (Balky R)) → station_at v m ≡ Some s → made s.rows.rows

-- the host's half: nobody else wrote to any member's rows, and they read back what was written
abbrev pub AllHonest : {R : Type 0} → (R → Type 0) → World R → Type 0
AllHonest {R = R} honest v = (m : ℕ) (s : Station (Balky R)) → station_at v m ≡ Some s → honest s.rows.rows

-- the station speaks this version, and its rows are at it
pub record IsAt {R : Type 0} (version : R → Version) (v : Version) (s : Station (Balky R)) : Type 0 where
  pub wire : s.speaker.wire ≡ v
  pub rows : version s.rows.rows ≡ v

-- a station is what the state has of member m, with its table and its width file
pub record Shows {R : Type 0} (is_open : R → Type 0) (saved : R → Saved) (version : R → Version)
    (tables : ℕ → Places) (files : ℕ → WidthFile) (z : StationCircuit) (w : StationState) (m : ℕ) (s : Station (Balky R)) : Type 0 where
  pub circuit : s.speaker.core.circuit ≡ z.number
  pub members : s.speaker.core.members ≡ z.count
  pub me : s.speaker.core.me ≡ m
  pub table : s.table ≡ tables m
  pub widths : s.widths ≡ files m
  pub is_at : IsAt version (w.version m) s
  pub rows : is_open s.rows.rows → (n : ℕ) → saved s.rows.rows n ≡ w.rows m n
  pub marks : CoreStandsFor s.speaker.core (w.marks m)
  pub stopped : s.stopped ≡ w.is_stopped m
  pub armed : s.rows.armed ≡ w.armed m

-- the world stands for this state of this circuit: each station is what the state has of its member, and the logs are the state's
pub record StandsFor {R : Type 0} (is_open : R → Type 0) (saved : R → Saved) (version : R → Version)
    (z : StationCircuit) (v : World R) (w : StationState) : Type 0 where
  pub tables : ℕ → Places
  pub files : ℕ → WidthFile
  pub set_up : IsSetUp tables files z
  pub count : z.count ≡ count_of v
  pub each : (m : ℕ) (s : Station (Balky R)) → station_at v m ≡ Some s → Shows is_open saved version tables files z w m s
  pub sent : w.sent ≡ v.sent.items
  pub offers : w.offers ≡ v.offers.items
  pub releases : w.releases ≡ v.releases.items

-- the state goes on by this step, which ends as what was seen of it; where the step was refused the state stays
abbrev pub Moves :
    {R : Type 0} → (R → Type 0) → (R → Saved) → (R → Version) → (R → ℕ) → StationCircuit → StationState → Step
    → World R → World R → Result Seen WorldRefusal → Type 0
Moves is_open saved version count z w step old new (Ok seen) =
    (after : StationState) × StandsFor is_open saved version z new after
    × (o : Outcome PacketFault SetFault) × EndsAs seen.outcome (RowsRefused count old new seen.member) o × StepsTo z w (step_value step) o after
Moves is_open saved version count z w step old new (Err refusal) = StandsFor is_open saved version z new w

-- where each member's rows are kept: of every circuit and state that the world stands for, it takes the step, and ends as the circuit's step does
abbrev pub FollowsStep : {R : Type 0} → Ghosts R → Step → World R → World R → Result Seen WorldRefusal → Type 0
FollowsStep g step old new result =
    AllKept g.kept new → (z : StationCircuit) (w : StationState) → StandsFor g.is_open g.saved g.version z old w
    → Moves g.is_open g.saved g.version g.refusals z w step old new result

-- a step of a world, answered so: what each kind of step promises
pub record Stepped {R : Type 0} (g : Ghosts R) (step : Step) (old new : World R) (result : Result Seen WorldRefusal) : Type 0 where
  -- where the rows are kept, it is a step of each state that the world stands for
  pub steps : FollowsStep g step old new result
  -- whatever the rows do, what is seen is what was logged, and a refusal changes nothing and has its reason
  pub tells : Tells step old new result
  -- where the store tore it, it is told why
  pub why : TellsWhy g old new result
  -- what held of the members' rows as it ended held before, and rows that were made for their members stay so
  pub was_kept : AllKept g.kept new → AllKept g.kept old
  pub made : AllMade g.made old → AllMade g.made new

-- these steps, one after the other, lead from one state to another
abbrev pub Leads : StationCircuit → StationState → List Step → StationState → Type 0
Leads z w [] after = after ≡ w
Leads z w (step ∷ steps) after =
    (o : Outcome PacketFault SetFault) × (mid : StationState) × StepsTo z w (step_value step) o mid × Leads z mid steps after

-- the steps lead to a state that the world stands for
abbrev pub LeadsTo :
    {R : Type 0} → (R → Type 0) → (R → Saved) → (R → Version) → StationCircuit → StationState → List Step → World R → Type 0
LeadsTo is_open saved version z w steps new = (after : StationState) × StandsFor is_open saved version z new after × Leads z w steps after

-- the steps do, or those before the one that was refused
abbrev pub Runs :
    {R A : Type 0} → (R → Type 0) → (R → Saved) → (R → Version) → StationCircuit → StationState → List Step
    → World R → Result A RunStop → Type 0
Runs is_open saved version z w steps new (Ok x) = LeadsTo is_open saved version z w steps new
Runs is_open saved version z w steps new (Err stop) = LeadsTo is_open saved version z w (take stop.at steps) new

-- the same of a list of steps
abbrev pub FollowsSteps : {R A : Type 0} → Ghosts R → List Step → World R → World R → Result A RunStop → Type 0
FollowsSteps g steps old new result =
    AllKept g.kept new → (z : StationCircuit) (w : StationState) → StandsFor g.is_open g.saved g.version z old w
    → Runs g.is_open g.saved g.version z w steps new result

-- some history of the circuit leads to a state that the world stands for
abbrev pub Reached : {R : Type 0} → (R → Type 0) → (R → Saved) → (R → Version) → StationCircuit → World R → Type 0
Reached is_open saved version z v = (w : StationState) × StandsFor is_open saved version z v w × History z w

-- what each member's rows stand on was made for it; and where their hosts were honest, some history of some circuit
-- leads to a state that the world stands for
pub record IsReached {R : Type 0} (g : Ghosts R) (v : World R) : Type 0 where
  pub made : AllMade g.made v
  pub reached : AllHonest g.honest v → (z : StationCircuit) × Reached g.is_open g.saved g.version z v

-- an entry was offered to some member for this number
abbrev pub IsOffered : {R : Type 0} → World R → ℕ → Entry → Type 0
IsOffered v n entry = (k : ℕ) × IsAmong v.offers.items (record { member = k; number = n; entry = entry })

-- the slugs, or the fault, are what this station's own code table and widths make of the entry: of a withdrawal no slug
abbrev pub SetsAs : {R : Type 0} → Station (Balky R) → Entry → Result (List Slug) SetFault → Type 0
SetsAs s entry set = SetsEntry (mean s.table) s.widths entry set

-- a member released it, and its station sets the entry so
abbrev pub IsSetByMember : {R : Type 0} → World R → Release (List Slug) SetFault → Type 0
IsSetByMember {R = R} v x = (s : Station (Balky R)) × (station_at v x.member ≡ Some s) × SetsAs s x.entry x.set

-- a history of a circuit leads to a state that the world stands for, and in it each entry that was released was chosen for its number:
-- at one ballot a majority of the members voted for it
pub record AllChosen {R : Type 0} (g : Ghosts R) (v : World R) : Type 0 where
  pub z : StationCircuit
  pub w : StationState
  pub stands_for : StandsFor g.is_open g.saved g.version z v w
  pub history : History z w
  pub each : (x : Release (List Slug) SetFault) → IsAmong v.releases.items x → IsChosen history x.number x.entry

-- the headline, of a world's own logs: any two releases of one number have equal entries; each released entry was offered for its
-- number, and chosen by a majority; and each was released by a member, whose station's table and widths give it these slugs, or this fault
pub record Agreed {R : Type 0} (g : Ghosts R) (v : World R) : Type 0 where
  pub one : (x y : Release (List Slug) SetFault) → IsAmong v.releases.items x → IsAmong v.releases.items y → x.number ≡ y.number → x.entry ≡ y.entry
  pub offered : (x : Release (List Slug) SetFault) → IsAmong v.releases.items x → IsOffered v x.number x.entry
  pub chosen : AllChosen g v
  pub set : (x : Release (List Slug) SetFault) → IsAmong v.releases.items x → IsSetByMember v x

-- a step of a world, answered so: what `World::step` promises
pub record WorldStep {R : Type 0} (g : Ghosts R) (step : Step) (old new : World R) (result : Result Seen WorldRefusal) : Type 0 where
  -- of every circuit and state that the world stands for, it takes the step, and ends as the circuit's step does
  pub steps : FollowsStep g step old new result
  -- whatever the rows do, what is seen is what was logged, and a refusal changes nothing and has its reason
  pub tells : Tells step old new result
  -- where the store tears the step, it is told why: the fault is that of an armed store, or one that the member's own rows blame
  pub why : TellsWhy g old new result
  -- what held of the members' rows as it ended held before, and rows that were made for their members stay so
  pub was_kept : AllKept g.kept new → AllKept g.kept old
  pub made : AllMade g.made old → AllMade g.made new
  -- the headline: a world that is reached stays so; and where the hosts of its rows were honest, what is released in it is agreed
  pub reached : IsReached g old → IsReached g new
  pub agreed : IsReached g new → AllHonest g.honest new → Agreed g new

-- steps of a world, up to the first that is refused: what `World::run` promises
pub record WorldRun {R A : Type 0} (g : Ghosts R) (steps : List Step) (old new : World R) (result : Result A RunStop) : Type 0 where
  -- whatever the rows do, each of these steps was told, and where a store tore it, why
  pub takes : TakesFront g old steps new result
  -- of every circuit and state that the world stands for, it takes these steps
  pub runs : FollowsSteps g steps old new result
  -- it stops at a step that this world refuses, and for its reason
  pub stops : IfErr result (StopsAt steps new)
  -- what held of the members' rows as it ended held before, and rows that were made for their members stay so
  pub was_kept : AllKept g.kept new → AllKept g.kept old
  pub made : AllMade g.made old → AllMade g.made new
  -- the headline, as of one step
  pub reached : IsReached g old → IsReached g new
  pub agreed : IsReached g new → AllHonest g.honest new → Agreed g new
