use Rattle.std.proofs.Common.{◌≡◌, ◌≢◌, ℕ, List, refl, sym, ap, ◌∙◌, arith}
use Rattle.std.specs.Prelude.{slice_index}
use Rattle.whole_packets.proofs.marks.sealed_is_no_packet.Goals as goal

apart : (a : ℕ) → a ≡ 78 → a ≡ 83 → ⊥
apart a p q = absurd (omega arith)

pub returns : goal.returns
returns c = λ v bytes p block own label index part spells opens.
    apart (slice_index bytes 1) (ap (λ (l : List ℕ). slice_index l 1) spells.are) (ap (λ (l : List ℕ). slice_index l 1) opens.are)
