-- A circuit of stations is never stuck, since its members can spell what they may say.
use Rattle.std.proofs.Common.{ℕ, inl, inr, sym, subst, List, Some, None}
use Rattle.protocol.specs.Ballots.{Ballot}
use Rattle.protocol.specs.Entries.{Entry}
use Rattle.protocol.specs.Versions.{Version, Two}
use Rattle.protocol.specs.Packets.{Body, Prepare, Promise, Accept, Accepted, Nack}
use Rattle.protocol.specs.Circuit.{Circuit}
use Rattle.protocol.specs.Progress.{BodyMaySay, SpellsWhatMayBeSaid, IsOfOffers, CircuitIsNeverStuck, RunningNeedNotRestart, DeniedNeedNotRestart, BusyNeedNotRestart, ChosenIsFound, HalfAnUpgradeIsNoDeadEnd, EveryMemberReleases}
use Rattle.protocol.specs.Agreement.{WasOffered}
use Rattle.tape_frames.specs.Entries.{IsEntry}
use Rattle.packets.specs.declared.fault.PacketFault.{PacketFault}
use Rattle.packets.specs.Laws.{MembersCanSpeak}
use Rattle.line_check.specs.declared.slug.Slug.{Slug}
use Rattle.line_check.specs.declared.fault.SetFault.{SetFault}
use Rattle.code_table.specs.Tables.{Places}
use Rattle.widths.specs.Widths.{WidthFile}
use Rattle.world.specs.Setups.{StationCircuit, StationState}
use Rattle.world.specs.Laws.{IsInService, StationsAreNeverStuck, RunningStationsNeedNotRestart, DeniedStationsNeedNotRestart, BusyStationsNeedNotRestart, ChosenIsFoundByStations, HalfAnUpgradeIsNoDeadEndOfStations, EveryStationReleases}

body_more :
    (c : ℕ) (P Q : Entry → Type 0) → ((t : Entry) → P t → Q t) → (b : Ballot) (from to : ℕ) (body : Body) → BodyMaySay c P b from to body
    → BodyMaySay c Q b from to body
body_more c P Q f b from to Prepare says = says
body_more c P Q f b from to (Promise None) says = says
body_more c P Q f b from to (Promise (Some vote)) says = (says.0, says.1, says.2, f vote.entry says.3)
body_more c P Q f b from to (Accept entry) says = (says.0, f entry says.1)
body_more c P Q f b from to (Accepted entry) says = f entry says
body_more c P Q f b from to (Nack promised) says = says

-- what spells each packet with entries of one kind spells each with fewer
fewer :
    {D G F : Type 0} (z : Circuit D G F) (v : Version) (P Q : Entry → Type 0) → ((t : Entry) → P t → Q t) → SpellsWhatMayBeSaid z v Q
    → SpellsWhatMayBeSaid z v P
fewer z v P Q f speaks p says body =
    speaks p (record {
      circuit = says.circuit;
      from = says.from;
      to = says.to;
      differ = says.differ;
      number = says.number;
      ballot = says.ballot;
      body = body_more z.count P Q f p.ballot p.from p.to p.body says.body;
    }) body

-- so the entry that is offered, and those that were
of_offers :
    {tables : ℕ → Places} {files : ℕ → WidthFile} {z : StationCircuit} {w : StationState} {n : ℕ}
    → IsInService tables files z w n → (entry : Entry) → IsEntry entry → (v : Version) → SpellsWhatMayBeSaid z v IsEntry
    → SpellsWhatMayBeSaid z v (IsOfOffers w n entry)
of_offers {z = z} {w = w} {n = n} serving entry is_entry v speaks = fewer z v (IsOfOffers w n entry) IsEntry entries speaks
  where
    entries : (t : Entry) → IsOfOffers w n entry t → IsEntry t
    entries t (inl e) = subst (λ (x : Entry). IsEntry x) (sym e) is_entry
    entries t (inr o) = serving.offered t o

pub stations_are_never_stuck : MembersCanSpeak (List Slug) SetFault → CircuitIsNeverStuck PacketFault (List Slug) SetFault → StationsAreNeverStuck
stations_are_never_stuck speak unstuck tables files z w h among v n serving can at_v number m entry slugs member in_it is_entry fits sets =
    let s = speak z serving.number serving.count serving.set_up.reads in
    unstuck z s.0 w h among v n can at_v number m entry slugs member in_it fits sets (of_offers serving entry is_entry v (s.1 v))

pub chosen_is_found : MembersCanSpeak (List Slug) SetFault → ChosenIsFound PacketFault (List Slug) SetFault → ChosenIsFoundByStations
chosen_is_found speak found tables files z w h among v n serving can at_v number m member in_it t chosen =
    let s = speak z serving.number serving.count serving.set_up.reads in
    found z s.0 w h among v n can at_v number m member in_it t chosen (fewer z v (λ u. WasOffered w n u) IsEntry serving.offered (s.1 v))

pub running_stations_need_not_restart :
    MembersCanSpeak (List Slug) SetFault → RunningNeedNotRestart PacketFault (List Slug) SetFault → RunningStationsNeedNotRestart
running_stations_need_not_restart speak running tables files z w h among v n serving can at_v number m entry slugs member in_it is_entry fits sets going unopened unreleased highest =
    let s = speak z serving.number serving.count serving.set_up.reads in
    running z s.0 w h among v n can at_v number m entry slugs member in_it fits sets (of_offers serving entry is_entry v (s.1 v)) going unopened unreleased highest

pub half_an_upgrade_is_no_dead_end :
    MembersCanSpeak (List Slug) SetFault → HalfAnUpgradeIsNoDeadEnd PacketFault (List Slug) SetFault → HalfAnUpgradeIsNoDeadEndOfStations
half_an_upgrade_is_no_dead_end speak upgrade tables files z w h among n serving can number m entry slugs member in_it is_entry sets =
    let s = speak z serving.number serving.count serving.set_up.reads in
    upgrade z s.0 w h among n can number m entry slugs member in_it sets (of_offers serving entry is_entry Two (s.1 Two))

pub denied_stations_need_not_restart :
    MembersCanSpeak (List Slug) SetFault → DeniedNeedNotRestart PacketFault (List Slug) SetFault → DeniedStationsNeedNotRestart
denied_stations_need_not_restart speak denied tables files z w h among v n serving can at_v number m entry slugs member in_it is_entry fits sets going unopened unreleased =
    let s = speak z serving.number serving.count serving.set_up.reads in
    denied z s.0 w h among v n can at_v number m entry slugs member in_it fits sets (of_offers serving entry is_entry v (s.1 v)) going unopened unreleased

pub busy_stations_need_not_restart :
    MembersCanSpeak (List Slug) SetFault → BusyNeedNotRestart PacketFault (List Slug) SetFault → BusyStationsNeedNotRestart
busy_stations_need_not_restart speak busy tables files z w h among v n serving can at_v number m entry slugs member in_it is_entry fits sets going unreleased rounds =
    let s = speak z serving.number serving.count serving.set_up.reads in
    busy z s.0 w h among v n can at_v number m entry slugs member in_it fits sets (of_offers serving entry is_entry v (s.1 v)) going unreleased rounds

pub every_station_releases : MembersCanSpeak (List Slug) SetFault → EveryMemberReleases PacketFault (List Slug) SetFault → EveryStationReleases
every_station_releases speak every tables files z w h among v n serving can left at_v number m entry slugs member in_it is_entry fits sets =
    let s = speak z serving.number serving.count serving.set_up.reads in
    every z s.0 w h among v n can left at_v number m entry slugs member in_it fits sets (of_offers serving entry is_entry v (s.1 v))
