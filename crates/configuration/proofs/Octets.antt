-- IP addresses, part by part.
use Rattle.std.proofs.Common.{◌≡◌, ℕ, zero, suc, ◌<◌, ◌≤◌, ◌≢◌, ◌&&◌, ◌^◌, Bool, true, false, cond, nat_le, List, [], ◌∷◌, ◌++◌, length, get_or, map, Option, Some, None, Ok, Err, refl, sym, ap, arith, rules, Bor}
use Rattle.std.specs.Char.{is_ascii_digit}
use Rattle.std.specs.List.{list_all, slice_split, join_with_byte}
use Rattle.std.specs.Result.{OkIff}
use Rattle.std.specs.Str.Parse.{ParsesUnsigned, digits_value}
use Rattle.std.proofs.lemmas.Bool.Decides.{nat_tests}
use Rattle.std.proofs.lemmas.List.Splits.{slice_split-cons_no, slice_split_first, join_with_byte-slice_split, length-slice_split}
use Rattle.std.proofs.lemmas.Str.Pattern.{IsSplitOnceResult, split_parts, split_once_first}
use Rattle.std.specs.Option.{MatchOption}
use Rattle.std.proofs.lemmas.Str.Parse.{IsNumeralModel, numerals_by_value, parse_digits}
use Rattle.configuration.specs.Addresses.{octet_of, four, is_dot, ip_of}

own : IsNumeralModel (λ ds. list_all is_ascii_digit ds ≡ true) (digits_value 10)
own = numerals_by_value _ (search rules)

-- a text of at most three digits that parses is that number, and one that does not is none
pub octet_read : (text : List ℕ) (n : ℕ) → ParsesUnsigned {E = Unit {0}} 8 10 text (Ok n) → list_all is_ascii_digit text ≡ true → nat_le (length text) 3 ≡ true → octet_of text ≡ Some n
unfolding octet_of
octet_read text n parsed digits few =
    let facts : OkIff {E = Unit {0}} (Ok n) ((0 < length text) × (digits_value 10 text < 2 ^ 8)) (digits_value 10 text) = parse_digits own {E = Unit {0}} 8 text (Ok n) parsed digits in
    let some : nat_le 1 (length text) ≡ true = grind (arith, nat_tests) in
    let small : nat_le (digits_value 10 text) 255 ≡ true = grind (arith, nat_tests) in
    rw (digits, some, few, small) (ap Some (sym facts.1))

pub octet_refused : (text : List ℕ) → ParsesUnsigned {E = Unit {0}} 8 10 text (Err (tt {0})) → list_all is_ascii_digit text ≡ true → octet_of text ≡ None
unfolding octet_of
octet_refused text parsed digits = rw digits (go (nat_le 1 (length text)) (nat_le (length text) 3) (nat_le (digits_value 10 text) 255) refl refl)
  where
    go : (a b c : Bool) → nat_le 1 (length text) ≡ a → nat_le (digits_value 10 text) 255 ≡ c → cond (a && (b && c)) (Some (digits_value 10 text)) None ≡ None
    go true true true some small =
        let refused : OkIff {T = ℕ} {E = Unit {0}} (Err (tt {0})) ((0 < length text) × (digits_value 10 text < 2 ^ 8)) (digits_value 10 text) = parse_digits own {E = Unit {0}} 8 text (Err (tt {0})) parsed digits in
        absurd (refused (grind (arith, nat_tests), grind (arith, nat_tests)))
    go true true false some small = refl
    go true false c some small = refl
    go false b c some small = refl

pub octet_of_others : (text : List ℕ) → list_all is_ascii_digit text ≡ false → octet_of text ≡ None
unfolding octet_of
octet_of_others text h = rw h refl

pub octet_long : (text : List ℕ) → nat_le (length text) 3 ≡ false → octet_of text ≡ None
unfolding octet_of
octet_long text long = go (list_all is_ascii_digit text) (nat_le 1 (length text))
  where
    go : (a b : Bool) → cond (a && (b && (nat_le (length text) 3 && nat_le (digits_value 10 text) 255))) (Some (digits_value 10 text)) None ≡ None
    go true true = rw long refl
    go true false = refl
    go false b = refl

-- the clause of a split at the first dot
abbrev pub Splits : List ℕ → Option (Bor (List ℕ) × Bor (List ℕ)) → Type 0
Splits text parts = MatchOption parts (slice_split is_dot text ≡ text ∷ []) (λ p. slice_split is_dot text ≡ p.0.now ∷ slice_split is_dot p.1.now)

-- a text without a dot is one part
pub undotted : (text : List ℕ) → ((i : ℕ) → i < length text → get_or text i 0 ≢ 46) → slice_split is_dot text ≡ text ∷ []
undotted [] h = refl
undotted (byte ∷ rest) h =
    let first : byte ≢ 46 = h zero (omega arith) in
    let test : is_dot byte ≡ false = grind (arith, nat_tests) in
    rw (slice_split-cons_no is_dot byte rest test, undotted rest (λ i lt. h (suc i) (omega arith))) refl

and_no : (a b : Bool) → b ≡ false → (a && b) ≡ false
and_no true b h = h
and_no false b h = refl

pub split_at_dot : (text : List ℕ) (parts : Option (Bor (List ℕ) × Bor (List ℕ))) → IsSplitOnceResult 46 text parts → Splits text parts
split_at_dot text None h = undotted text (split_parts 46 text None h (omega arith))
split_at_dot text (Some p) h =
    let first = split_once_first 46 text (Some p) h (omega arith) in
    rw (first.1, first.2) (slice_split_first is_dot text 0 first.0)

-- a dot is no digit
dotted_none : (before after : List ℕ) → list_all is_ascii_digit (before ++ 46 ∷ after) ≡ false
dotted_none [] after = refl
dotted_none (byte ∷ rest) after = and_no (is_ascii_digit byte) (list_all is_ascii_digit (rest ++ 46 ∷ after)) (dotted_none rest after)

-- so the last number of an address may be read before it is known that no dot follows
four_none : (a b c : Option ℕ) → four (a ∷ b ∷ c ∷ None ∷ []) ≡ None
four_none None b c = refl
four_none (Some x) None c = refl
four_none (Some x) (Some y) None = refl
four_none (Some x) (Some y) (Some z) = refl

last_of : (a b c : Option ℕ) (text : List ℕ) (parts : List (List ℕ)) → join_with_byte 46 parts ≡ text → 1 ≤ length parts → four (a ∷ b ∷ c ∷ map octet_of parts) ≡ four (a ∷ b ∷ c ∷ octet_of text ∷ [])
last_of a b c text [] e h = absurd (omega arith)
last_of a b c text (x ∷ []) e h = rw e refl
last_of a b c text (x ∷ y ∷ more) e h = rw (octet_of_others text (rw e at (dotted_none x (join_with_byte 46 (y ∷ more))))) (sym (four_none a b c))

pub ip_few : (text : List ℕ) → length (slice_split is_dot text) < 4 → ip_of text ≡ None
unfolding ip_of
ip_few text h = go (slice_split is_dot text) h
  where
    go : (parts : List (List ℕ)) → length parts < 4 → four (map octet_of parts) ≡ None
    go [] h = refl
    go (a ∷ []) h = refl
    go (a ∷ b ∷ []) h = refl
    go (a ∷ b ∷ c ∷ []) h = refl
    go (a ∷ b ∷ c ∷ d ∷ more) h = absurd (omega arith)

pub ip_parts : (text a b c d : List ℕ) → slice_split is_dot text ≡ a ∷ b ∷ c ∷ slice_split is_dot d → ip_of text ≡ four (octet_of a ∷ octet_of b ∷ octet_of c ∷ octet_of d ∷ [])
unfolding ip_of
ip_parts text a b c d h = rw h (last_of (octet_of a) (octet_of b) (octet_of c) d (slice_split is_dot d) (join_with_byte-slice_split 46 d) (omega (arith, length-slice_split is_dot d)))
