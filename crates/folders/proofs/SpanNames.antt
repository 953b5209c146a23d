-- The names of ranges: where their first number ends, and that they are no names of single numbers.
use Rattle.std.proofs.Common.{rules, ◌≡◌, ◌≢◌, ◌≤◌, ◌<◌, ◌++◌, ◌∙◌, ℕ, true, false, List, [], ◌∷◌, Option, None, Some, length, drop, get_or, codes, decimal, refl, sym, ap, arith, true≢false}
use Rattle.std.specs.Char.{is_ascii_digit}
use Rattle.std.specs.List.{list_all}
use Rattle.std.specs.Str.Parse.{digits_value}
use Rattle.std.proofs.lemmas.Fmt.{digits_decimal, decimal_nonempty}
use Rattle.std.proofs.lemmas.List.{append_assoc}
use Rattle.std.proofs.lemmas.List.Folds.{list_all_at}
use Rattle.std.proofs.lemmas.Str.Parse.{IsNumeralModel, numerals_by_value}
use Rattle.protocol.specs.Limits.{last_number}
use Rattle.folders.specs.Offers.{NamesNone}
use Rattle.folders.specs.Spans.{EndsBehind, IsSpan, IsSpanName, end_text, span_name}
use Rattle.folders.specs.declared.names.OfferKind.TheVariants.{Tape, Text, Withdraw, Seek}
use Rattle.folders.specs.declared.names.Span.{Span}

own : IsNumeralModel (λ ds. list_all is_ascii_digit ds ≡ true) (digits_value 10)
own = numerals_by_value _ (search rules)

all_digits : (n : ℕ) → n ≤ last_number → list_all is_ascii_digit (decimal n) ≡ true
all_digits n most = digits_decimal own n (omega (arith, most))

-- a dash is no digit
pub no_dash : (n : ℕ) → n ≤ last_number → (i : ℕ) → i < length (decimal n) → get_or (decimal n) i 0 ≢ 45
no_dash n most i within = λ e. true≢false (sym (all_digits n most) ∙ list_all_at is_ascii_digit (decimal n) i 0 within (ap is_ascii_digit e))

-- what follows the digits begins at one place
one_cut : (a b xs ys : List ℕ) (x y : ℕ) → list_all is_ascii_digit a ≡ true → list_all is_ascii_digit b ≡ true → is_ascii_digit x ≡ false → is_ascii_digit y ≡ false
    → a ++ x ∷ xs ≡ b ++ y ∷ ys → x ≡ y
one_cut [] [] xs ys x y da db nx ny e = ap (λ (l : List ℕ). get_or l 0 0) e
one_cut [] (d ∷ b) xs ys x y da db nx ny e =
    let same : x ≡ d = ap (λ (l : List ℕ). get_or l 0 0) e in
    let no : is_ascii_digit d ≡ false = ap is_ascii_digit (sym same) ∙ nx in
    absurd (true≢false (sym db ∙ list_all_at is_ascii_digit (d ∷ b) 0 0 (omega arith) no))
one_cut (c ∷ a) [] xs ys x y da db nx ny e =
    let same : c ≡ y = ap (λ (l : List ℕ). get_or l 0 0) e in
    let no : is_ascii_digit c ≡ false = ap is_ascii_digit same ∙ ny in
    absurd (true≢false (sym da ∙ list_all_at is_ascii_digit (c ∷ a) 0 0 (omega arith) no))
one_cut (c ∷ a) (d ∷ b) xs ys x y da db nx ny e =
    one_cut a b xs ys x y (rest c a da) (rest d b db) nx ny (ap (λ (l : List ℕ). drop 1 l) e)
  where
    rest : (k : ℕ) (l : List ℕ) → list_all is_ascii_digit (k ∷ l) ≡ true → list_all is_ascii_digit l ≡ true
    rest k l h = search rules

within : (s : Span) → IsSpan s → s.first ≤ last_number
within s is = go s.last is.ends
  where
    go : (last : Option ℕ) → EndsBehind s.first last → s.first ≤ last_number
    go None h = h
    go (Some l) h = omega (arith, h.0, h.1)

-- the name of a range is that of no number
no_number : (s : Span) → IsSpan s → (n : ℕ) → n ≤ last_number → (rest : List ℕ) → span_name s ≡ decimal n ++ 46 ∷ rest → ⊥
no_number s is n most rest e =
    let same : 45 ≡ 46 = one_cut (decimal s.first) (decimal n) (end_text s.last ++ codes ".seek") rest 45 46 (all_digits s.first (within s is)) (all_digits n most) refl refl e in
    omega (arith, same)

pub names_no_number : (name : List ℕ) (s : Span) → IsSpanName name s → NamesNone name
names_no_number name s is Tape n low most h = no_number s is.0 n most (codes "tape") (sym is.1 ∙ h)
names_no_number name s is Text n low most h = no_number s is.0 n most (codes "text") (sym is.1 ∙ h)
names_no_number name s is Withdraw n low most h = no_number s is.0 n most (codes "withdraw") (sym is.1 ∙ h)
names_no_number name s is Seek n low most h = no_number s is.0 n most (codes "seek") (sym is.1 ∙ h)

-- the name, cut before its end
pub ends_with_seek : (s : Span) → span_name s ≡ (decimal s.first ++ 45 ∷ end_text s.last) ++ codes ".seek"
ends_with_seek s = sym (append_assoc (decimal s.first) (45 ∷ end_text s.last) (codes ".seek"))

pub no_dash_before : (s : Span) → IsSpan s → (i : ℕ) → i < length (decimal s.first) → get_or (decimal s.first) i 0 ≢ 45
no_dash_before s is = no_dash s.first (within s is)

-- where no text is left there is no last number
pub no_end : (first : ℕ) (last : Option ℕ) → EndsBehind first last → length (end_text last) ≡ 0 → last ≡ None
no_end first None h e = refl
no_end first (Some l) h e =
    let some : 0 < length (decimal l) = decimal_nonempty l (omega (arith, h.1)) in
    absurd (omega (arith, some, e))
