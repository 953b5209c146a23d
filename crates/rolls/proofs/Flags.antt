-- Bits, as they are set, tested and counted.
use Rattle.std.proofs.Common.{◌≡◌, ◌≢◌, ℕ, zero, suc, ◌+◌, ◌*◌, ◌/◌, ◌%◌, ◌^◌, ◌<◌, ◌≤◌, Bool, true, false, not, cond, eqb, leb, ◌&&◌, List, [], ◌∷◌, length, get_or, refl, sym, ap, subst, ◌∙◌, inl, inr, arith, w8}
use Rattle.std.specs.Prelude.{drop, slice_index, bit_or, ◌-◌}
use Rattle.std.specs.Int.{bit_at}
use Rattle.std.proofs.lemmas.Bool.{cases_eq, cases_lt, eq-eqb, eqb-true, ne_eqb, eqb-false, le-leb, lt-leb, not-true}
use Rattle.std.proofs.lemmas.List.{get_or-drop, get_or_past}
use Rattle.std.proofs.lemmas.Nat.Bits.{bit_at_set_same, bit_at_set_other, bit_at-zero, bit_at-lt, bit_at_or, same_from_bits_below}
use Rattle.protocol.specs.Limits.{is_number}
use Rattle.packets.specs.Grammar.{IsBytes}
use Rattle.rolls.specs.Pages.{number_on, numbers_on}
use Rattle.rolls.specs.Votes.{Votes, AreVotes, OnlyNumbers, bit_of, are_zero, only_numbers, set_below, how_many}
use mir.Val.{bool_byte}

-- a byte with one bit more, or the same
abbrev pub with_bit : ℕ → ℕ → ℕ → ℕ
with_bit byte k r = bit_or byte (r * 2 ^ k % 256)

none_more : (byte k : ℕ) → with_bit byte k 0 ≡ bit_or byte 0
none_more byte k = let none : 0 * 2 ^ k % 256 ≡ 0 = omega arith in ap (bit_or byte) none

pub bit_same : (byte k r : ℕ) (b : Bool) → k < 8 → bit_at byte k ≡ 0 → r ≡ bool_byte b → eqb (bit_at (with_bit byte k r) k) 1 ≡ b
bit_same byte k r true h none is = rw is (eq-eqb _ 1 (bit_at_set_same w8 byte k h))
bit_same byte k r false h none is =
    let e : bit_at (bit_or byte 0) k ≡ 0 = bit_at_or byte 0 k ∙ (rw (none, bit_at-zero) refl) in
    rw is (ap (λ (x : ℕ). eqb (bit_at x k) 1) (none_more byte k) ∙ ap (λ (x : ℕ). eqb x 1) e)

pub bit_other : (byte k r : ℕ) (b : Bool) (j : ℕ) → k < 8 → j ≢ k → r ≡ bool_byte b → bit_at (with_bit byte k r) j ≡ bit_at byte j
bit_other byte k r true j h other is = rw is (bit_at_set_other w8 byte k h j other)
bit_other byte k r false j h other is =
    let e : bit_at (bit_or byte 0) j ≡ bit_at byte j = bit_at_or byte 0 j ∙ (rw bit_at-zero (omega arith)) in
    rw is (ap (λ (x : ℕ). bit_at x j) (none_more byte k) ∙ e)

-- which are numbers
number_is : (n : ℕ) → 1 ≤ n → n ≤ 999999 → is_number n ≡ true
number_is n low high = let l : leb 1 n ≡ true = le-leb 1 n low in let h : leb n 999999 ≡ true = le-leb n 999999 high in rw (l, h) refl

no_number : (n : ℕ) → 999999 < n → is_number n ≡ false
no_number n high = let l : leb 1 n ≡ true = le-leb 1 n (omega (arith, high)) in let h : leb n 999999 ≡ false = lt-leb n 999999 high in rw (l, h) refl

both_not : (b c : Bool) → b ≡ true → b ≡ false → c ≡ false
both_not b c e f = cc

pub both_true : (a b : Bool) → (a && b) ≡ true → (a ≡ true) × (b ≡ true)
both_true true true e = (refl, refl)
both_true true false e = cc
both_true false b e = cc

-- bytes that are found to be 0 are, and those that are 0 are found to be
zero_each : (bytes : List ℕ) → are_zero bytes ≡ true → (i : ℕ) → slice_index bytes i ≡ 0
zero_each [] e i = refl
zero_each (b ∷ bytes) e zero = eqb-true b 0 (both_true _ _ e).0
zero_each (b ∷ bytes) e (suc i) = zero_each bytes (both_true _ _ e).1 i

zero_all : (bytes : List ℕ) → ((i : ℕ) → slice_index bytes i ≡ 0) → are_zero bytes ≡ true
zero_all [] h = refl
zero_all (b ∷ bytes) h =
    let first : eqb b 0 ≡ true = eq-eqb b 0 (h 0) in
    let rest : are_zero bytes ≡ true = zero_all bytes (λ i. h (suc i)) in
    rw (first, rest) refl

-- no bit of a byte that is 0 is set
no_bit : (bytes : List ℕ) (place : ℕ) → slice_index bytes (place / 8) ≡ 0 → bit_of bytes place ≡ false
no_bit bytes place none =
    let e : bit_at (slice_index bytes (place / 8)) (place % 8) ≡ 0 = ap (λ (x : ℕ). bit_at x (place % 8)) none ∙ bit_at-zero (place % 8) in
    ap (λ (x : ℕ). eqb x 1) e

-- what is found out of the first page and of the last one
first_found : (bytes : List ℕ) → only_numbers 0 bytes ≡ true → bit_of bytes 0 ≡ false
unfolding only_numbers
first_found bytes e = not-true _ e

last_found : (bytes : List ℕ) → only_numbers 122 bytes ≡ true → are_zero (drop 72 bytes) ≡ true
unfolding only_numbers
last_found bytes e = e

first_only : (bytes : List ℕ) (place : ℕ) → only_numbers 0 bytes ≡ true → place < 8192 → is_number (number_on 0 place) ≡ false → bit_of bytes place ≡ false
first_only bytes place e within none = elim (cases_eq place 0) [
  | inl least ↦ subst (λ (p : ℕ). bit_of bytes p ≡ false) (sym least) (first_found bytes e)
  | inr more ↦ both_not (is_number (number_on 0 place)) _ (number_is (number_on 0 place) (omega (arith, more)) (omega (arith, within))) none
]

last_only : (bytes : List ℕ) (place : ℕ) → only_numbers 122 bytes ≡ true → place < 8192 → is_number (number_on 122 place) ≡ false → bit_of bytes place ≡ false
last_only bytes place e within none = elim (cases_lt place 576) [
  | inl low ↦ both_not (is_number (number_on 122 place)) _ (number_is (number_on 122 place) (omega arith) (omega (arith, low))) none
  | inr high ↦
      let here : 72 + (place / 8 - 72) ≡ place / 8 = omega (arith, high) in
      no_bit bytes place
      (ap (λ (i : ℕ). get_or bytes i 0) (sym here)
      ∙ sym (get_or-drop 72 bytes (place / 8 - 72) 0)
      ∙ zero_each (drop 72 bytes) (last_found bytes e) (place / 8 - 72))
]

-- bits that are found to stand for numbers do
pub only_of : (page : ℕ) (bytes : List ℕ) → page < 123 → only_numbers page bytes ≡ true → OnlyNumbers (record { page = page; bytes = bytes })
only_of page bytes h e place within none = elim (cases_eq page 0) [
  | inl first ↦
      first_only bytes place (subst (λ (p : ℕ). only_numbers p bytes ≡ true) first e) within
      (subst (λ (p : ℕ). is_number (number_on p place) ≡ false) first none)
  | inr later ↦ elim (cases_eq page 122) [
    | inl last ↦
        last_only bytes place (subst (λ (p : ℕ). only_numbers p bytes ≡ true) last e) within
        (subst (λ (p : ℕ). is_number (number_on p place) ≡ false) last none)
    | inr before ↦
        both_not (is_number (number_on page place)) _
        (number_is (number_on page place) (omega (arith, later)) (omega (arith, h, before, within))) none
  ]
]

pub votes_are : (page : ℕ) (bytes : List ℕ) → page < 123 → length bytes ≡ 1024 → IsBytes bytes → only_numbers page bytes ≡ true → AreVotes (record { page = page; bytes = bytes })
votes_are page bytes low many small e = record { page = low; many = many; small = small; only = only_of page bytes low e }

-- and so do those that were made of numbers
pub votes_made :
    (page n first : ℕ) (bytes : List ℕ) (among : ℕ → Bool) → n < 123 → n ≡ page → first ≡ n → length bytes ≡ 1024 → IsBytes bytes
    → ((place : ℕ) → place < 8192 → bit_of bytes place ≡ (is_number (8192 * first + place) && among (8192 * first + place)))
    → AreVotes (record { page = page; bytes = bytes })
votes_made page n first bytes among low is same many small bits = record {
  page = omega (arith, low, is);
  many = many;
  small = small;
  only = λ place within none.
      bits place within
      ∙ (rw (subst (λ (k : ℕ). is_number (8192 * k + place) ≡ false) (sym (same ∙ is)) none) refl);
}

-- a byte without bits is 0
zero_byte : (b : ℕ) → b < 256 → ((k : ℕ) → k < 8 → bit_at b k ≡ 0) → b ≡ 0
zero_byte b h none = same_from_bits_below 8 b 0 h (omega arith) (λ k l. none k l ∙ sym (bit_at-zero k))

not_set : (x : ℕ) → x < 2 → eqb x 1 ≡ false → x ≡ 0
not_set x low e = let other : x ≢ 1 = eqb-false x 1 e in omega (arith, low, other)

-- the bytes of the last page behind its last number
behind_zero : (bytes : List ℕ) → AreVotes (record { page = 122; bytes = bytes }) → (j : ℕ) → 72 ≤ j → slice_index bytes j ≡ 0
behind_zero bytes are j high = elim (cases_lt j 1024) [
  | inl within ↦
      zero_byte (slice_index bytes j) (are.small j)
      (λ k l.
      let row : (8 * j + k) / 8 ≡ j = omega (arith, l) in
      let column : (8 * j + k) % 8 ≡ k = omega (arith, l) in
      let off : bit_of bytes (8 * j + k) ≡ false = are.only (8 * j + k) (omega (arith, within, l)) (no_number (number_on 122 (8 * j + k)) (omega (arith, high))) in
      not_set (bit_at (slice_index bytes j) k) (bit_at-lt (slice_index bytes j) k)
      (ap (λ (i : ℕ). eqb (bit_at (slice_index bytes i) k) 1) (sym row)
      ∙ ap (λ (i : ℕ). eqb (bit_at (slice_index bytes ((8 * j + k) / 8)) i) 1) (sym column)
      ∙ off))
  | inr past ↦ let many = are.many in get_or_past bytes j 0 (omega (arith, past, many))
]

-- and bits that stand for numbers are found to
pub only_found : (page : ℕ) (bytes : List ℕ) → AreVotes (record { page = page; bytes = bytes }) → only_numbers page bytes ≡ true
unfolding only_numbers
only_found page bytes are = elim (cases_eq page 0) [
  | inl first ↦
      let on_first : AreVotes (record { page = 0; bytes = bytes }) = subst (λ (p : ℕ). AreVotes (record { page = p; bytes = bytes })) first are in
      subst (λ (p : ℕ). only_numbers p bytes ≡ true) (sym first) (ap not (on_first.only 0 (omega arith) refl))
  | inr later ↦ elim (cases_eq page 122) [
    | inl last ↦
        let on_last : AreVotes (record { page = 122; bytes = bytes }) = subst (λ (p : ℕ). AreVotes (record { page = p; bytes = bytes })) last are in
        subst (λ (p : ℕ). only_numbers p bytes ≡ true) (sym last)
        (zero_all (drop 72 bytes) (λ i. get_or-drop 72 bytes i 0 ∙ behind_zero bytes on_last (72 + i) (omega arith)))
    | inr before ↦
        let a : eqb page 0 ≡ false = ne_eqb page 0 later in
        let b : eqb page 122 ≡ false = ne_eqb page 122 before in
        rw (a, b) refl
  ]
]

-- how many bits are set
abbrev weight : Bool → ℕ
weight b = cond b 1 0

weight_le : (b : Bool) → weight b ≤ 1
weight_le true = omega arith
weight_le false = omega arith

pub set_below-le : (bytes : List ℕ) (n : ℕ) → set_below bytes n ≤ n
unfolding set_below
set_below-le bytes zero = omega arith
set_below-le bytes (suc n) =
    let l : set_below bytes n ≤ n = set_below-le bytes n in
    let w : weight (bit_of bytes n) ≤ 1 = weight_le (bit_of bytes n) in
    omega (arith, l, w)

-- one place more
pub weight_is : (r : ℕ) (b c : Bool) → b ≡ c → r ≡ bool_byte b → r ≡ weight c
weight_is r true c e is = is ∙ ap weight e
weight_is r false c e is = is ∙ ap weight e

pub at_most_one : (r : ℕ) (b : Bool) → r ≡ bool_byte b → r ≤ 1
at_most_one r true is = omega (arith, is)
at_most_one r false is = omega (arith, is)

pub set_more : (bytes : List ℕ) (n r : ℕ) (b : Bool) → b ≡ bit_of bytes n → r ≡ bool_byte b → set_below bytes n + r ≡ set_below bytes (n + 1)
unfolding set_below
set_more bytes n r b e is =
    let one : suc n ≡ n + 1 = omega arith in
    ap (λ (k : ℕ). set_below bytes n + k) (weight_is r b (bit_of bytes n) e is) ∙ ap (λ (k : ℕ). set_below bytes k) one

-- where none is set from a place on
set_few : (bytes : List ℕ) (n all : ℕ) → ((place : ℕ) → n ≤ place → place < all → bit_of bytes place ≡ false) → set_below bytes all ≤ n
unfolding set_below
set_few bytes n zero h = omega arith
set_few bytes n (suc all) h = elim (cases_lt all n) [
  | inl low ↦ let l : set_below bytes (suc all) ≤ suc all = set_below-le bytes (suc all) in omega (arith, low, l)
  | inr high ↦
      let l : set_below bytes all ≤ n = set_few bytes n all (λ place a b. h place a (omega (arith, b))) in
      let none : weight (bit_of bytes all) ≡ 0 = ap weight (h all high (omega arith)) in
      omega (arith, l, none)
]

-- where the first is not set
set_later : (bytes : List ℕ) (n : ℕ) → bit_of bytes 0 ≡ false → set_below bytes (suc n) ≤ n
unfolding set_below
set_later bytes zero off = let none : weight (bit_of bytes 0) ≡ 0 = ap weight off in omega (arith, none)
set_later bytes (suc n) off =
    let l : set_below bytes (suc n) ≤ n = set_later bytes n off in
    let w : weight (bit_of bytes (suc n)) ≤ 1 = weight_le (bit_of bytes (suc n)) in
    omega (arith, l, w)

-- no more than the numbers of the page
fit_all : (page all : ℕ) (bytes : List ℕ) → all ≡ 8192 → AreVotes (record { page = page; bytes = bytes }) → set_below bytes all ≤ numbers_on page
fit_all page all bytes e are = elim (cases_eq page 0) [
  | inl first ↦
      let on_first : AreVotes (record { page = 0; bytes = bytes }) = subst (λ (p : ℕ). AreVotes (record { page = p; bytes = bytes })) first are in
      let one : suc 8191 ≡ all = omega (arith, e) in
      let l : set_below bytes all ≤ 8191 = subst (λ (n : ℕ). set_below bytes n ≤ 8191) one (set_later bytes 8191 (on_first.only 0 (omega arith) refl)) in
      subst (λ (p : ℕ). set_below bytes all ≤ numbers_on p) (sym first) l
  | inr later ↦ elim (cases_eq page 122) [
    | inl last ↦
        let on_last : AreVotes (record { page = 122; bytes = bytes }) = subst (λ (p : ℕ). AreVotes (record { page = p; bytes = bytes })) last are in
        subst (λ (p : ℕ). set_below bytes all ≤ numbers_on p) (sym last)
        (set_few bytes 576 all (λ place a b. on_last.only place (omega (arith, b, e)) (no_number (number_on 122 place) (omega (arith, a)))))
    | inr before ↦
        let a : eqb page 0 ≡ false = ne_eqb page 0 later in
        let b : eqb page 122 ≡ false = ne_eqb page 122 before in
        let l : set_below bytes all ≤ all = set_below-le bytes all in
        rw (a, b) (omega (arith, l, e))
  ]
]

pub fit : (v : Votes) → AreVotes v → how_many v ≤ numbers_on v.page
unfolding how_many
fit v are = fit_all v.page 8192 v.bytes refl are
