-- Words of 64 bits as flags.
use Rattle.std.proofs.Common.{◌≡◌, ℕ, suc, ◌+◌, ◌*◌, ◌/◌, ◌%◌, ◌^◌, ◌<◌, ◌≤◌, Bool, true, false, not, cond, eqb, List, [], ◌∷◌, length, replicate, get_or, set, refl, sym, ◌∙◌, ap, inl, inr, arith, ext_get_or, length-set, get_or-set_same, get_or-set_other, eq-eqb, ne_eqb, w64}
use Rattle.std.proofs.lemmas.List.{length-replicate, get_or-replicate, get_or_past}
use Rattle.std.proofs.lemmas.List.Sums.{sum_by-set, count_by-le-length}
use Rattle.std.proofs.lemmas.List.FromFn.{length-map-range_with_len, get_or-map-range_with_len}
use Rattle.std.proofs.lemmas.Bool.{cases_eq, cases_lt, not-true}
use Rattle.std.proofs.lemmas.Nat.{one_shl, pow_pos}
use Rattle.std.proofs.lemmas.Nat.Bits.{bit_at_set_same, bit_at_set_other, bit_at-zero, and_pow, shr_and_one}
use Rattle.std.specs.Prelude.{bit_and, bit_or}
use Rattle.std.specs.Int.{bit_at}
use Rattle.gone_out.specs.Numbers.{has, how_many, bit_of, flags_of, IsEmpty}

pub length-flags : (words : List ℕ) → length (flags_of words) ≡ 64 * length words
unfolding flags_of
length-flags words = length-map-range_with_len (bit_of words) 0 (64 * length words)

pub has-flags : (words : List ℕ) (n : ℕ) → n < 64 * length words → has (flags_of words) n ≡ bit_of words n
unfolding flags_of
has-flags words n h = get_or-map-range_with_len (bit_of words) 0 (64 * length words) n n false h (omega arith)

-- no word has a bit
pub zeros_empty : (count : ℕ) → IsEmpty (flags_of (replicate count 0))
zeros_empty count n =
    let zeros : List ℕ = replicate count 0 in
    elim (cases_lt n (64 * length zeros)) [
      | inl within ↦
          let word : n / 64 < count = omega (arith, length-replicate {A = ℕ} count 0) in
          has-flags zeros n within
          ∙ ap (λ x. eqb (bit_at x (n % 64)) 1) (get_or-replicate count (n / 64) 0 0 word)
          ∙ ap (λ x. eqb x 1) (bit_at-zero (n % 64))
      | inr past ↦ get_or_past (flags_of zeros) n false (omega (arith, length-flags zeros))
    ]

-- the test `(word >> n) & 1 == 1`
pub bit_is : (words : List ℕ) (word n : ℕ) → n < 64 * length words → word ≡ get_or words (n / 64) 0
    → eqb (bit_and (word / 2 ^ (n % 64)) 1) 1 ≡ has (flags_of words) n
bit_is words word n within read =
    ap (λ x. eqb x 1) (shr_and_one word (n % 64)) ∙ ap (λ x. eqb (bit_at x (n % 64)) 1) read ∙ sym (has-flags words n within)

-- the test `word & bit == 0`
bit_clear : (word k : ℕ) → k < 64 → eqb (bit_and word (1 * 2 ^ k % 2 ^ 64)) 0 ≡ not (eqb (bit_at word k) 1)
bit_clear word k h =
    let e : bit_and word (1 * 2 ^ k % 2 ^ 64) ≡ bit_at word k * 2 ^ k = ap (bit_and word) (one_shl k 64 h) ∙ and_pow word k in
    let b : ℕ = bit_at word k in
    let small : b < 2 = omega arith in
    elim (cases_eq b 1) [
      | inl one ↦
          let big : 0 < bit_and word (1 * 2 ^ k % 2 ^ 64) = rw (e, one) (omega (arith, pow_pos k)) in
          ne_eqb _ 0 (omega arith) ∙ sym (ap not (eq-eqb b 1 one))
      | inr other ↦
          let none : b ≡ 0 = omega arith in
          eq-eqb _ 0 (rw (e, none) (omega arith)) ∙ sym (ap not (ne_eqb b 1 other))
    ]

pub is_clear : (words : List ℕ) (word n : ℕ) → n < 64 * length words → word ≡ get_or words (n / 64) 0
    → eqb (bit_and word (1 * 2 ^ (n % 64) % 2 ^ 64)) 0 ≡ not (has (flags_of words) n)
is_clear words word n within read =
    bit_clear word (n % 64) (omega arith)
    ∙ ap (λ x. not (eqb (bit_at x (n % 64)) 1)) read
    ∙ ap not (sym (has-flags words n within))

-- a word with one bit more
pub flags-set : (words : List ℕ) (n word : ℕ) → n < 64 * length words → word ≡ get_or words (n / 64) 0
    → flags_of (set words (n / 64) (bit_or word (1 * 2 ^ (n % 64) % 2 ^ 64))) ≡ set (flags_of words) n true
flags-set words n word within read =
    let v : ℕ = bit_or word (1 * 2 ^ (n % 64) % 2 ^ 64) in
    let len : length (set words (n / 64) v) ≡ length words = length-set words (n / 64) v in
    let n_in : n < length (flags_of words) = omega (arith, length-flags words) in
    let word_in : n / 64 < length words = omega arith in
    let low : n % 64 < 64 = omega arith in
    ext_get_or false _ _
    (length-flags _ ∙ ap (λ x. 64 * x) len ∙ sym (length-flags words) ∙ sym (length-set (flags_of words) n true))
    (λ k h.
    let k_in : k < 64 * length (set words (n / 64) v) = rw length-flags at h in
    has-flags _ k k_in
    ∙ (elim (cases_eq k n) as (λ _. bit_of (set words (n / 64) v) k ≡ get_or (set (flags_of words) n true) k false) [
      | inl same ↦
          rw same
          (ap (λ x. eqb (bit_at x (n % 64)) 1) (get_or-set_same words (n / 64) v 0 word_in)
          ∙ eq-eqb _ 1 (bit_at_set_same w64 word (n % 64) low)
          ∙ sym (get_or-set_same (flags_of words) n true false n_in))
      | inr other ↦
          (elim (cases_eq (k / 64) (n / 64)) as (λ _. bit_of (set words (n / 64) v) k ≡ bit_of words k) [
            | inl row ↦
                ap (λ x. eqb (bit_at (get_or (set words (n / 64) v) x 0) (k % 64)) 1) row
                ∙ ap (λ x. eqb (bit_at x (k % 64)) 1) (get_or-set_same words (n / 64) v 0 word_in)
                ∙ ap (λ x. eqb x 1) (bit_at_set_other w64 word (n % 64) low (k % 64) (omega arith))
                ∙ ap (λ x. eqb (bit_at x (k % 64)) 1) (read ∙ ap (λ x. get_or words x 0) (sym row))
            | inr apart ↦ ap (λ x. eqb (bit_at x (k % 64)) 1) (get_or-set_other words (n / 64) (k / 64) v 0 apart)
          ])
          ∙ sym (has-flags words k (omega arith))
          ∙ sym (get_or-set_other (flags_of words) n k true false other)
    ]))

pub many_none : (flags : List Bool) → IsEmpty flags → how_many flags ≡ 0
unfolding how_many
many_none [] none = refl
many_none (b ∷ flags) none =
    let first : b ≡ false = none 0 in
    let rest : how_many flags ≡ 0 = many_none flags (λ n. none (suc n)) in
    rw first rest

pub many_le : (flags : List Bool) → how_many flags ≤ length flags
unfolding how_many
many_le flags = count_by-le-length (λ b. b) flags

abbrev weight : Bool → ℕ
weight b = cond b 1 0

-- one more, or the same
pub many-set : (flags : List Bool) (k : ℕ) → k < length flags → how_many (set flags k true) + weight (get_or flags k false) ≡ how_many flags + 1
unfolding how_many
many-set flags k within = sum_by-set weight flags k true false within

-- the flags after one more is set
pub set_same : (flags : List Bool) (k : ℕ) → k < length flags → has (set flags k true) k ≡ true
set_same flags k within = get_or-set_same flags k true false within

-- how many there are after one more was set that was none of them
pub many-new : (flags : List Bool) (k : ℕ) → k < length flags → true ≡ not (has flags k) → how_many (set flags k true) ≡ how_many flags + 1
many-new flags k within new =
    let none : get_or flags k false ≡ false = not-true _ (sym new) in
    let all : how_many (set flags k true) + weight (get_or flags k false) ≡ how_many flags + 1 = many-set flags k within in
    let zero : weight (get_or flags k false) ≡ 0 = ap weight none in
    omega (arith, all, zero)
