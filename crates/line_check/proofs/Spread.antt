-- What is spread over the bands is what the equations of a slug ask.
use Rattle.std.proofs.Common.{◌≡◌, ℕ, zero, suc, ◌+◌, ◌-◌, ◌*◌, ◌<◌, ◌≤◌, min, cond, List, [], ◌∷◌, map, refl, ap, arith, inl, inr}
use Rattle.std.specs.Prelude.{sum}
use Rattle.std.specs.List.{AllByRecursion}
use Rattle.std.proofs.lemmas.List.Sums.{sum_by-cons}
use Rattle.std.proofs.Math.Nat.{mul-le-mul_left}
use Rattle.std.proofs.lemmas.Bool.{cases_lt}
use Rattle.slug_reader.specs.declared.item.Item.{Item}
use Rattle.slug_reader.specs.declared.item.Item.TheVariants as items
use Rattle.widths.specs.Widths.{WidthFile}
use Rattle.slug_reader.specs.declared.line.Quad.{Quad}
use Rattle.line_check.specs.declared.slug.Kind.TheVariants as kinds
use Rattle.line_check.specs.Slugs.{is_band, fixed_of, bands_of, item_of_sort, band_widths, IsEven, kind_of, StandsAt, Justifies, Quads, least_width, greatest_width}
use Rattle.line_check.specs.Spreading.{sorts_of}

-- the widths of so many bands, the first ones a unit more
abbrev pub spread : ℕ → ℕ → ℕ → List ℕ
spread width wider zero = []
spread width wider (suc k) = (width + min wider 1) ∷ spread width (wider - min wider 1) k

-- each item is kept
pub items_kept : (width wider : ℕ) (items : List Item) → map item_of_sort (sorts_of width wider items) ≡ items
items_kept width wider [] = refl
items_kept width wider (items.Matrix name rail w ∷ rest) = ap (λ xs. items.Matrix name rail w ∷ xs) (items_kept width wider rest)
items_kept width wider (items.Band ∷ rest) = ap (λ xs. items.Band ∷ xs) (items_kept width (wider - min wider 1) rest)
items_kept width wider (items.Space w ∷ rest) = ap (λ xs. items.Space w ∷ xs) (items_kept width wider rest)

pub bands_cons : (item : Item) (rest : List Item) → bands_of (item ∷ rest) ≡ cond (is_band item) 1 0 + bands_of rest
bands_cons item rest = sum_by-cons (λ x. cond (is_band x) 1 0) item rest

-- the bands are spread
pub bands_spread : (width wider : ℕ) (items : List Item) → band_widths (sorts_of width wider items) ≡ spread width wider (bands_of items)
bands_spread width wider [] = refl
bands_spread width wider (items.Matrix name rail w ∷ rest) =
    let none : bands_of (items.Matrix name rail w ∷ rest) ≡ bands_of rest = omega (arith, bands_cons (items.Matrix name rail w) rest) in
    rw none (bands_spread width wider rest)
bands_spread width wider (items.Band ∷ rest) =
    let one : bands_of (items.Band ∷ rest) ≡ suc (bands_of rest) = omega (arith, bands_cons items.Band rest) in
    rw one (ap (λ xs. (width + min wider 1) ∷ xs) (bands_spread width (wider - min wider 1) rest))
bands_spread width wider (items.Space w ∷ rest) =
    let none : bands_of (items.Space w ∷ rest) ≡ bands_of rest = omega (arith, bands_cons (items.Space w) rest) in
    rw none (bands_spread width wider rest)

pub sum_cons : (w : ℕ) (ws : List ℕ) → sum (w ∷ ws) ≡ w + sum ws
sum_cons w ws = sum_by-cons (λ x. x) w ws

-- all of it is spread
pub sum_spread : (width wider k : ℕ) → wider ≤ k → sum (spread width wider k) ≡ k * width + wider
sum_spread width wider zero le = omega (arith, le)
sum_spread width wider (suc k) le =
    let rest : wider - min wider 1 ≤ k = omega (arith, le) in
    omega (arith, sum_cons (width + min wider 1) (spread width (wider - min wider 1) k), sum_spread width (wider - min wider 1) k rest, le)

pub range_spread : (low high width wider k : ℕ) → low ≤ width → width + min wider 1 ≤ high → AllByRecursion (λ w. (low ≤ w) × (w ≤ high)) (spread width wider k)
range_spread low high width wider zero p q = tt
range_spread low high width wider (suc k) p q =
    ((omega (arith, p), q), range_spread low high width (wider - min wider 1) k p (omega (arith, q)))

below_spread : (top width wider k : ℕ) → width + min wider 1 ≤ top → top ≤ width + 1 → AllByRecursion (λ v. (v ≤ top) × (top ≤ v + 1)) (spread width wider k)
below_spread top width wider zero p q = tt
below_spread top width wider (suc k) p q =
    ((p, omega (arith, q)), below_spread top width (wider - min wider 1) k (omega (arith, p)) q)

-- it is spread evenly
pub even_spread : (width wider k : ℕ) → IsEven (spread width wider k)
even_spread width wider zero = tt
even_spread width wider (suc k) =
    (below_spread (width + min wider 1) width (wider - min wider 1) k (omega arith) (omega arith), even_spread width (wider - min wider 1) k)

pub same_spread : (width k : ℕ) → AllByRecursion (λ w. w ≡ width) (spread width 0 k)
same_spread width zero = tt
same_spread width (suc k) = (omega arith, same_spread width k)

-- the width that a division gives is in range
pub share_low : (low width wider k rest : ℕ) → k * low ≤ rest → k * width + wider ≡ rest → wider < k → low ≤ width
share_low low width wider k rest le e lt =
    elim (cases_lt width low) [
      | inl less ↦ let more : k * (width + 1) ≤ k * low = mul-le-mul_left k (omega (arith, less)) in absurd (omega (arith, more, le, e, lt))
      | inr done ↦ done
    ]

pub share_high : (high width wider k rest : ℕ) → rest ≤ k * high → k * width + wider ≡ rest → wider < k → width + min wider 1 ≤ high
share_high high width zero k rest le e lt =
    elim (cases_lt high width) [
      | inl less ↦ let more : k * (high + 1) ≤ k * width = mul-le-mul_left k (omega (arith, less)) in absurd (omega (arith, more, le, e, lt))
      | inr done ↦ omega (arith, done)
    ]
share_high high width (suc r) k rest le e lt =
    elim (cases_lt width high) [
      | inl done ↦ omega (arith, done)
      | inr less ↦ let more : k * high ≤ k * width = mul-le-mul_left k less in absurd (omega (arith, more, le, e, lt))
    ]

few_wider : (high width wider k rest : ℕ) → rest ≤ k * high → k * width + wider ≡ rest → (0 < k → wider < k) → wider ≤ k
few_wider high width wider zero rest le e less = omega (arith, le, e)
few_wider high width wider (suc k) rest le e less = let lt : wider < suc k = less (omega arith) in omega (arith, lt)

shared_range : (low high width wider k rest : ℕ) → k * low ≤ rest → rest ≤ k * high → k * width + wider ≡ rest → (0 < k → wider < k)
    → AllByRecursion (λ w. (low ≤ w) × (w ≤ high)) (spread width wider k)
shared_range low high width wider zero rest le ge e less = tt
shared_range low high width wider (suc k) rest le ge e less =
    let lt : wider < suc k = less (omega arith) in
    range_spread low high width wider (suc k) (share_low low width wider (suc k) rest le e lt) (share_high high width wider (suc k) rest ge e lt)

-- what is left is shared out, and the line is justified
pub justifies : (widths : WidthFile) (line : List Item) (width wider rest : ℕ) → least_width widths line ≤ widths.measure → widths.measure ≤ greatest_width widths line
    → rest ≡ widths.measure - fixed_of line → bands_of line * width + wider ≡ rest → (0 < bands_of line → wider < bands_of line)
    → Justifies widths (fixed_of line) (record { items = sorts_of width wider line; kind = kinds.J; left = 0; right = 0 })
justifies widths line width wider rest least greatest is whole less =
    let high : rest ≤ bands_of line * widths.band_max = omega (arith, greatest, is) in
    let low : bands_of line * widths.band_min ≤ rest = omega (arith, least, is) in
    let few = few_wider widths.band_max width wider (bands_of line) rest high whole less in
    let bands = bands_spread width wider line in
    record {
      kind = refl;
      left = refl;
      right = refl;
      full = rw bands (omega (arith, sum_spread width wider (bands_of line) few, whole, is, least));
      range = rw bands (shared_range widths.band_min widths.band_max width wider (bands_of line) rest low high whole less);
      even = rw bands (even_spread width wider (bands_of line));
    }

-- with a quad each band has its least width
pub quads_line : (widths : WidthFile) (line : List Item) (quad : Quad) (left right : ℕ) → left + right + least_width widths line ≡ widths.measure → StandsAt quad left right
    → Quads widths (fixed_of line) quad (record { items = sorts_of widths.band_min 0 line; kind = kind_of quad; left = left; right = right })
quads_line widths line quad left right whole stands =
    let bands = bands_spread widths.band_min 0 line in
    record {
      kind = refl;
      bands = rw bands (same_spread widths.band_min (bands_of line));
      full = rw bands (omega (arith, sum_spread widths.band_min 0 (bands_of line) (omega arith), whole));
      sides = stands;
    }
