-- Agreement of stations, from that of any circuit.
use Rattle.std.proofs.Common.{List, sym, subst, Result}
use Rattle.protocol.specs.Agreement.{HistoriesAgree}
use Rattle.packets.specs.declared.fault.PacketFault.{PacketFault}
use Rattle.code_table.specs.Tables.{mean}
use Rattle.line_check.specs.declared.slug.Slug.{Slug}
use Rattle.line_check.specs.declared.fault.SetFault.{SetFault}
use Rattle.station.specs.Readiness.{SetsEntry}
use Rattle.world.specs.Laws.{ReleasesChosen, StationsAgree}

pub agreed : HistoriesAgree PacketFault (List Slug) SetFault → ReleasesChosen → StationsAgree
agreed histories chosen tables files z is_set_up w h =
    let a = histories z w h in
    record {
      one = a.one;
      offered = a.offered;
      chosen = chosen z w h;
      set = λ x i. let P : Result (List Slug) SetFault → Type 0 = λ r. SetsEntry (mean (tables x.member)) (files x.member) x.entry r in subst P (sym (a.set x i)) (is_set_up.sets x.member x.entry);
    }
