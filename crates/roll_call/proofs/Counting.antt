-- How many numbers of a page have a vote, as one more has.
use Rattle.std.proofs.Common.{◌≡◌, ◌≢◌, ℕ, zero, suc, ◌+◌, ◌<◌, ◌≤◌, Bool, true, false, cond, eqb, leb, ltb, ◌&&◌, List, length, refl, sym, ap, subst, ◌∙◌, inl, inr, arith}
use Rattle.std.specs.Prelude.{slice_index, slice_set}
use Rattle.std.proofs.lemmas.Bool.{cases_eq, cases_lt, le-leb, lt-leb, lt-ltb, ne_eqb}
use Rattle.std.proofs.lemmas.List.{length-set, get_or-set_same, get_or-set_other}
use Rattle.protocol.specs.Limits.{is_number}
use Rattle.gone_out.specs.Numbers.{has}
use Rattle.rolls.specs.Pages.{pages, page_numbers, page_of, place_of, number_on, numbers_on}
use Rattle.rolls.specs.Counts.{raised, with_count}
use Rattle.roll_call.specs.Held.{count_below, count_on, AreCounted}

-- the number at a place of a page has a vote
abbrev pub at : List Bool → (page place : ℕ) → Bool
at votes page place = is_number (number_on page place) && has votes (number_on page place)

abbrev weight : Bool → ℕ
weight b = cond b 1 0

weight_le : (b : Bool) → weight b ≤ 1
weight_le true = omega arith
weight_le false = omega arith

pub none_below : (votes : List Bool) (page : ℕ) → count_below votes page 0 ≡ 0
unfolding count_below
none_below votes page = refl

pub one_more : (votes : List Bool) (page place : ℕ) → at votes page place ≡ true → count_below votes page (place + 1) ≡ count_below votes page place + 1
unfolding count_below
one_more votes page place is =
    let one : place + 1 ≡ suc place = omega arith in
    ap (λ (k : ℕ). count_below votes page k) one ∙ ap (λ (b : Bool). count_below votes page place + weight b) is

pub no_more : (votes : List Bool) (page place : ℕ) → at votes page place ≡ false → count_below votes page (place + 1) ≡ count_below votes page place
unfolding count_below
no_more votes page place is =
    let one : place + 1 ≡ suc place = omega arith in
    let none : count_below votes page place + 0 ≡ count_below votes page place = omega arith in
    ap (λ (k : ℕ). count_below votes page k) one ∙ ap (λ (b : Bool). count_below votes page place + weight b) is ∙ none

below_le : (votes : List Bool) (page places : ℕ) → count_below votes page places ≤ places
unfolding count_below
below_le votes page zero = omega arith
below_le votes page (suc place) =
    let l : count_below votes page place ≤ place = below_le votes page place in
    let w : weight (at votes page place) ≤ 1 = weight_le (at votes page place) in
    omega (arith, l, w)

no_number_and : (a b : Bool) → a ≡ false → (a && b) ≡ false
no_number_and true b is = cc
no_number_and false b is = refl

-- the first place of the first page is no number
first_le : (votes : List Bool) (place : ℕ) → count_below votes 0 (suc place) ≤ place
unfolding count_below
first_le votes zero = omega arith
first_le votes (suc place) =
    let l : count_below votes 0 (suc place) ≤ place = first_le votes place in
    let w : weight (at votes 0 (suc place)) ≤ 1 = weight_le (at votes 0 (suc place)) in
    omega (arith, l, w)

no_number : (n : ℕ) → 999999 < n → is_number n ≡ false
no_number n high = let l : leb 1 n ≡ true = le-leb 1 n (omega (arith, high)) in let h : leb n 999999 ≡ false = lt-leb n 999999 high in rw (l, h) refl

-- nor are the places behind the last number
last_le : (votes : List Bool) (places : ℕ) → count_below votes 122 places ≤ 576
unfolding count_below
last_le votes zero = omega arith
last_le votes (suc place) = elim (cases_lt place 576) [
  | inl low ↦ let l : count_below votes 122 (suc place) ≤ suc place = below_le votes 122 (suc place) in omega (arith, l, low)
  | inr high ↦
      let l : count_below votes 122 place ≤ 576 = last_le votes place in
      let none : weight (at votes 122 place) ≡ 0 = ap weight (no_number_and (is_number (number_on 122 place)) (has votes (number_on 122 place)) (no_number (number_on 122 place) (omega (arith, high)))) in
      omega (arith, l, none)
]

-- no more numbers of a page have a vote than lie on it
pub on_le : (votes : List Bool) (page : ℕ) → count_on votes page ≤ numbers_on page
on_le votes page = elim (cases_eq page 0) [
  | inl first ↦ subst (λ (p : ℕ). count_on votes p ≤ numbers_on p) (sym first) (first_le votes 8191)
  | inr later ↦ elim (cases_eq page 122) [
    | inl last ↦ subst (λ (p : ℕ). count_on votes p ≤ numbers_on p) (sym last) (last_le votes page_numbers)
    | inr before ↦
        let a : eqb page 0 ≡ false = ne_eqb page 0 later in
        let b : eqb page 122 ≡ false = ne_eqb page 122 before in
        rw (a, b) (below_le votes page page_numbers)
  ]
]

-- where the same numbers of a page have a vote, as many have
same_below :
    (f g : List Bool) (page places : ℕ) → ((place : ℕ) → place < places → at g page place ≡ at f page place)
    → count_below g page places ≡ count_below f page places
unfolding count_below
same_below f g page zero same = refl
same_below f g page (suc place) same =
    let l : count_below g page place ≡ count_below f page place = same_below f g page place (λ k h. same k (omega (arith, h))) in
    let w : weight (at g page place) ≡ weight (at f page place) = ap weight (same place (omega arith)) in
    omega (arith, l, w)

-- where one has that had none, and the others are the same, one more has
more_below :
    (f g : List Bool) (page i places : ℕ) → i < places → at f page i ≡ false → at g page i ≡ true
    → ((place : ℕ) → place ≢ i → at g page place ≡ at f page place) → count_below g page places ≡ count_below f page places + 1
unfolding count_below
more_below f g page i zero low old new same = absurd (omega (arith, low))
more_below f g page i (suc place) low old new same = elim (cases_eq place i) [
  | inl here ↦
      let l : count_below g page place ≡ count_below f page place = same_below f g page place (λ k h. same k (omega (arith, h, here))) in
      let v : weight (at f page place) ≡ 0 = ap weight (ap (at f page) here ∙ old) in
      let w : weight (at g page place) ≡ 1 = ap weight (ap (at g page) here ∙ new) in
      omega (arith, l, v, w)
  | inr there ↦
      let l : count_below g page place ≡ count_below f page place + 1 = more_below f g page i place (omega (arith, low, there)) old new same in
      let w : weight (at g page place) ≡ weight (at f page place) = ap weight (same place there) in
      omega (arith, l, w)
]

number_is : (n : ℕ) → 1 ≤ n → n ≤ 999999 → is_number n ≡ true
number_is n low high = let l : leb 1 n ≡ true = le-leb 1 n low in let h : leb n 999999 ≡ true = le-leb n 999999 high in rw (l, h) refl

true_and : (a b : Bool) → a ≡ true → (a && b) ≡ b
true_and true b is = refl
true_and false b is = cc

-- a number is at its place of its page
here : (n : ℕ) → number_on (page_of n) (place_of n) ≡ n
here n = omega arith

at_number : (votes : List Bool) (n : ℕ) → 1 ≤ n → n ≤ 999999 → at votes (page_of n) (place_of n) ≡ has votes n
at_number votes n low high = rw (here n) (true_and (is_number n) (has votes n) (number_is n low high))

at_same : (f g : List Bool) (page place : ℕ) → has g (number_on page place) ≡ has f (number_on page place) → at g page place ≡ at f page place
at_same f g page place is = ap (λ (b : Bool). is_number (number_on page place) && b) is

-- one number more has a vote: one more of its page has
pub page_more :
    (f g : List Bool) (n : ℕ) → 1 ≤ n → n ≤ 999999 → has f n ≡ false → has g n ≡ true → ((k : ℕ) → k ≢ n → has g k ≡ has f k)
    → count_on g (page_of n) ≡ count_on f (page_of n) + 1
page_more f g n low high old new same =
    more_below f g (page_of n) (place_of n) page_numbers (omega arith) (at_number f n low high ∙ old) (at_number g n low high ∙ new)
    (λ place other. at_same f g (page_of n) place (same (number_on (page_of n) place) (omega (arith, other))))

-- and as many of each other page
pub page_same : (f g : List Bool) (n page : ℕ) → page ≢ page_of n → ((k : ℕ) → k ≢ n → has g k ≡ has f k) → count_on g page ≡ count_on f page
page_same f g n page other same =
    same_below f g page page_numbers (λ place l. at_same f g page place (same (number_on page place) (omega (arith, l, other))))

-- where no other number has a vote, and this one has as before, all counts are as before
pub nothing_new : (f g : List Bool) (n page : ℕ) → has g n ≡ has f n → ((k : ℕ) → k ≢ n → has g k ≡ has f k) → count_on g page ≡ count_on f page
nothing_new f g n page this same = same_below f g page page_numbers (λ place l. at_same f g page place (each (number_on page place)))
  where
    each : (k : ℕ) → has g k ≡ has f k
    each k = elim (cases_eq k n) [
      | inl is ↦ ap (has g) is ∙ this ∙ sym (ap (has f) is)
      | inr other ↦ same k other
    ]

page_low : (n : ℕ) → n ≤ 999999 → page_of n < pages
page_low n high = omega (arith, high)

-- where a number is new, its page's count is raised by one
pub raised_is :
    (f g : List Bool) (counts : List ℕ) (n : ℕ) → 1 ≤ n → n ≤ 999999 → AreCounted f counts → has f n ≡ false → has g n ≡ true
    → ((k : ℕ) → k ≢ n → has g k ≡ has f k) → raised counts (page_of n) ≡ slice_set counts (page_of n) (slice_index counts (page_of n) + 1)
raised_is f g counts n low high are old new same =
    let c : slice_index counts (page_of n) ≡ count_on f (page_of n) = are.each (page_of n) (page_low n high) in
    let m : count_on g (page_of n) ≡ count_on f (page_of n) + 1 = page_more f g n low high old new same in
    let l : count_on g (page_of n) ≤ numbers_on (page_of n) = on_le g (page_of n) in
    let t : ltb (slice_index counts (page_of n)) (numbers_on (page_of n)) ≡ true = lt-ltb _ _ (omega (arith, c, m, l)) in
    rw t refl

pub counted_more :
    (f g : List Bool) (counts : List ℕ) (n : ℕ) → 1 ≤ n → n ≤ 999999 → AreCounted f counts → has f n ≡ false → has g n ≡ true
    → ((k : ℕ) → k ≢ n → has g k ≡ has f k) → AreCounted g (slice_set counts (page_of n) (slice_index counts (page_of n) + 1))
counted_more f g counts n low high are old new same = record {
  many = length-set counts (page_of n) (slice_index counts (page_of n) + 1) ∙ are.many;
  each = λ page l. elim (cases_eq page (page_of n)) [
    | inl is ↦
        let within : page_of n < length counts = let many = are.many in omega (arith, many, is, l) in
        let c : slice_index counts (page_of n) ≡ count_on f (page_of n) = are.each (page_of n) (page_low n high) in
        subst (λ (p : ℕ). slice_index (slice_set counts (page_of n) (slice_index counts (page_of n) + 1)) p ≡ count_on g p) (sym is)
        (get_or-set_same counts (page_of n) (slice_index counts (page_of n) + 1) 0 within
        ∙ ap (λ (k : ℕ). k + 1) c
        ∙ sym (page_more f g n low high old new same))
    | inr other ↦
        get_or-set_other counts (page_of n) page (slice_index counts (page_of n) + 1) 0 other ∙ are.each page l ∙ sym (page_same f g n page other same)
  ];
}

-- the count of one page more is as it is to be
pub set_more :
    (f : ℕ → ℕ) (counts : List ℕ) (page value count : ℕ) → page ≡ value → value < pages → length counts ≡ pages → count ≡ f page → f page ≤ numbers_on page
    → ((p : ℕ) → p < value → slice_index counts p ≡ f p) → (p : ℕ) → p < value + 1 → slice_index (with_count counts page count) p ≡ f p
set_more f counts page value count at_value low many is fits so p l =
    let t : leb count (numbers_on page) ≡ true = le-leb count (numbers_on page) (subst (λ (k : ℕ). k ≤ numbers_on page) (sym is) fits) in
    rw t (elim (cases_eq p page) [
      | inl here ↦ subst (λ (k : ℕ). slice_index (slice_set counts page count) k ≡ f k) (sym here) (get_or-set_same counts page count 0 (omega (arith, at_value, low, many)) ∙ is)
      | inr other ↦ get_or-set_other counts page p count 0 other ∙ so p (omega (arith, l, other, at_value))
    ])

pub with_many : (counts : List ℕ) (page count : ℕ) → length counts ≡ pages → length (with_count counts page count) ≡ pages
with_many counts page count many = go (leb count (numbers_on page))
  where
    go : (b : Bool) → length (cond b (slice_set counts page count) counts) ≡ pages
    go true = length-set counts page count ∙ many
    go false = many

pub counted_same :
    (f g : List Bool) (counts : List ℕ) (n : ℕ) → AreCounted f counts → has g n ≡ has f n → ((k : ℕ) → k ≢ n → has g k ≡ has f k) → AreCounted g counts
counted_same f g counts n are this same = record { many = are.many; each = λ page l. are.each page l ∙ sym (nothing_new f g n page this same) }
