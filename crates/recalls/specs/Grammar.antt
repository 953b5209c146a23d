-- The grammar of recalls: which bytes spell which recall. Every number is big-endian.
use Rattle.std.specs.Prelude.{◌≡◌, ℕ, ◌≤◌, List, [], ◌∷◌, ◌++◌, length}
use Rattle.protocol.specs.Ballots.{IsMember}
use Rattle.protocol.specs.Limits.{most_members}
use Rattle.packets.specs.Grammar.{SpellsTwo, SpellsFour}
use Rattle.recalls.specs.Recalls.{most_recalled, Recall, Rise}

-- four bytes for each of the numbers, one behind the other
abbrev pub SpellsNumbers : List ℕ → List ℕ → Type 0
SpellsNumbers bytes [] = bytes ≡ []
SpellsNumbers bytes (n ∷ ns) = (first : List ℕ) × (rest : List ℕ) × (bytes ≡ first ++ rest) × SpellsFour first n × SpellsNumbers rest ns

-- the bytes spell the recall: the mark TR, the version 1, the kind 1, the circuit, the sender, the addressee, the number of the asker's,
-- how many numbers there are, and the numbers
pub record Spells (bytes : List ℕ) (r : Recall) : Type 0 where
  pub circuit : List ℕ
  pub asked : List ℕ
  pub numbers : List ℕ
  pub are : bytes ≡ 84 ∷ 82 ∷ 1 ∷ 1 ∷ [] ++ circuit ++ r.from ∷ r.to ∷ [] ++ asked ++ length r.numbers ∷ numbers
  pub spells_circuit : SpellsTwo circuit r.circuit
  pub from_is_member : IsMember most_members r.from
  pub to_is_member : IsMember most_members r.to
  pub differ : ¬ (r.from ≡ r.to)
  pub spells_asked : SpellsFour asked r.asked
  pub some : 1 ≤ length r.numbers
  pub few : length r.numbers ≤ most_recalled
  pub spells_numbers : SpellsNumbers numbers r.numbers
  pub rise : Rise 0 r.numbers
