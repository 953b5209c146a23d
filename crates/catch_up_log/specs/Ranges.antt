-- The ranges of a set of numbers, as the log names them.
use Rattle.std.specs.Prelude.{◌≡◌, ◌≤◌, ℕ, ◌+◌, ◌==◌, Bool, List, [], ◌∷◌, ◌++◌, length, flat_map, Option, Some, None, IfSome, if◌then◌else◌, codes, decimal}
use Rattle.protocol.specs.Limits.{last_number}
use Rattle.gone_out.specs.declared.ranges.Range.{Range}
use Rattle.gone_out.specs.Ranges.{FoundFrom}

-- a range, as `41-60`; of one number, as `97`; and behind it this ending, as in `41-60.seek`
abbrev pub range_text : List ℕ → Range → List ℕ
range_text ending r = if r.first == r.last then decimal r.first ++ ending else decimal r.first ++ (codes "-" ++ (decimal r.last ++ ending))

-- a range behind others
abbrev pub next_text : List ℕ → Range → List ℕ
next_text ending r = codes ", " ++ range_text ending r

-- ranges with a comma between two
abbrev pub ranges_text : List ℕ → List Range → List ℕ
ranges_text ending [] = []
ranges_text ending (r ∷ rs) = range_text ending r ++ flat_map (next_text ending) rs

-- what stands behind them: nothing, or that there are more
abbrev pub end_text : Option Range → List ℕ
end_text None = []
end_text (Some r) = codes ", .."

-- what comes from this number on: the first range, or none
abbrev pub ComesFrom : List Bool → ℕ → Option Range → Type 0
ComesFrom flags start next = FoundFrom flags start next × IfSome next (λ r. r.last ≤ last_number)

-- these are the first ranges of the set from this number on, one behind the other, and behind the last of them comes this
abbrev pub AreFrom : List Bool → ℕ → List Range → Option Range → Type 0
AreFrom flags start [] next = ComesFrom flags start next
AreFrom flags start (r ∷ rs) next = ComesFrom flags start (Some r) × AreFrom flags (r.last + 1) rs next

-- these ranges of the set are told, behind which this comes: 20 at most, and no fewer where one comes behind them
pub record AreTold (flags : List Bool) (rs : List Range) (next : Option Range) : Type 0 where
  pub first : AreFrom flags 1 rs next
  pub few : length rs ≤ 20
  pub many : IfSome next (λ r. length rs ≡ 20)

-- the text names the ranges of the set that are told, each with this ending
abbrev pub NamesRanges : List ℕ → List Bool → List ℕ → Type 0
NamesRanges ending flags text = (rs : List Range) × (next : Option Range) × AreTold flags rs next × (text ≡ ranges_text ending rs ++ end_text next)

-- no two texts with this ending name the ranges of a set
abbrev pub OneText : Type 0
OneText = (ending : List ℕ) (flags : List Bool) (a b : List ℕ) → NamesRanges ending flags a → NamesRanges ending flags b → a ≡ b
