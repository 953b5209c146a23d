-- The last three bytes of the text tell the circuit.
use Rattle.std.proofs.Common.{◌≡◌, ℕ, ◌/◌, ◌%◌, List, ap, arith}
use Rattle.std.specs.Prelude.{slice_index}
use Rattle.circuit_keys.proofs.laws.one_circuit.Goals as goal

number_from : (a b : ℕ) → a / 256 ≡ b / 256 → a % 256 ≡ b % 256 → a ≡ b
number_from a b high low = omega arith

pub returns : goal.returns
returns c = λ a b count count' e. (
  number_from a b (ap (λ (l : List ℕ). slice_index l 16) e) (ap (λ (l : List ℕ). slice_index l 17) e),
  ap (λ (l : List ℕ). slice_index l 18) e,
)
