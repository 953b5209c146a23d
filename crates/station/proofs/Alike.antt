-- What was spelled says the same as a later packet.
use Rattle.std.proofs.Common.{◌≡◌, ◌<◌, ℕ, List, Option, Some, None, IfSome, length, take, get_or, sym, subst}
use Rattle.std.specs.Prelude.{slice_get}
use Rattle.std.specs.List.{AllZip}
use Rattle.protocol.specs.Circuit.{Datagram}
use Rattle.protocol.specs.Packets.{Packet}
use Rattle.protocol.specs.Versions.{Version}
use Rattle.packets.specs.Grammar.{Spells, SpellsAlike}
use Rattle.station.specs.Readiness.{IsSpelled}
use Rattle.station.proofs.Zips.{paired}

pub spelled_before :
    (v : Version) (packets : List Packet) (out : List Datagram) (first place : ℕ) (d : Datagram) (p : Packet)
    → ((x y : Packet) → slice_get packets first ≡ Some x → slice_get packets place ≡ Some y → x ≡ record y { to = x.to })
    → AllZip (IsSpelled v) (take place packets) out → first < length out → d ≡ get_or out first d → slice_get packets place ≡ Some p → SpellsAlike v d.bytes p
spelled_before v packets out first place d p same zip before is here =
    let pair = paired (IsSpelled v) packets out place first d before zip in
    let spelled : Spells v d.bytes pair.0 = subst (λ (x : Datagram). Spells v x.bytes pair.0) (sym is) pair.2.1 in
    (pair.0.to, subst (λ (x : Packet). Spells v d.bytes x) (same pair.0 p pair.1 here) spelled)

-- what is in an option says less of itself
pub of_some : {A : Type 0} (P Q : A → Type 0) (o : Option A) → ((x : A) → P x → Q x) → IfSome o P → IfSome o Q
of_some P Q None less h = tt
of_some P Q (Some x) less h = less x h
