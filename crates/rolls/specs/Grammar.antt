-- The grammar of rolls: which bytes spell which roll. Every number is big-endian.
use Rattle.std.specs.Prelude.{◌≡◌, ℕ, List, [], ◌∷◌, ◌++◌, replicate}
use Rattle.protocol.specs.Ballots.{IsMember}
use Rattle.protocol.specs.Limits.{most_members}
use Rattle.packets.specs.Grammar.{SpellsTwo, SpellsFour}
use Rattle.rolls.specs.Kinds.{number_of_kind}
use Rattle.rolls.specs.Rolls.{Body, CountsAsked, Counts, PageAsked, Page, Roll, IsBody}
use Rattle.rolls.specs.Bodies.{kind_of}

-- two bytes for each of the counts, one behind the other
abbrev pub SpellsCounts : List ℕ → List ℕ → Type 0
SpellsCounts bytes [] = bytes ≡ []
SpellsCounts bytes (c ∷ cs) = (first : List ℕ) × (rest : List ℕ) × (bytes ≡ first ++ rest) × SpellsTwo first c × SpellsCounts rest cs

-- what stands after the header: five bytes that are 0; the counts; the page and four bytes that are 0; the page and its bits
abbrev pub SpellsBody : List ℕ → Body → Type 0
SpellsBody bytes CountsAsked = bytes ≡ replicate 5 0
SpellsBody bytes (Counts counts) = SpellsCounts bytes counts
SpellsBody bytes (PageAsked page) = bytes ≡ page ∷ replicate 4 0
SpellsBody bytes (Page page bits) = bytes ≡ page ∷ bits

-- the bytes spell the roll: the mark TR, the version 1, the kind, the circuit, the sender, the addressee, the number of the asker's,
-- and then the body
pub record Spells (bytes : List ℕ) (r : Roll) : Type 0 where
  pub circuit : List ℕ
  pub asked : List ℕ
  pub body : List ℕ
  pub are : bytes ≡ 84 ∷ 82 ∷ 1 ∷ number_of_kind (kind_of r.body) ∷ [] ++ circuit ++ r.from ∷ r.to ∷ [] ++ asked ++ body
  pub spells_circuit : SpellsTwo circuit r.circuit
  pub from_is_member : IsMember most_members r.from
  pub to_is_member : IsMember most_members r.to
  pub differ : ¬ (r.from ≡ r.to)
  pub spells_asked : SpellsFour asked r.asked
  pub spells_body : SpellsBody body r.body
  pub is_body : IsBody r.body
