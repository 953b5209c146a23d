-- The head of a new log, as it was read before it is given.
use Rattle.std.proofs.Common.{◌≡◌, ℕ, ◌<◌, true, false, ◌&&◌, ◌==◌, leb, List, [], ◌∷◌, length, slice_index, slice_set, take, Some, None, sym, refl, ◌∙◌, ap, ap₂, inl, inr, arith}
use Rattle.std.proofs.lemmas.Bool.{cases_Bool, and_parts, eqb-true}
use Rattle.std.proofs.lemmas.List.{get_or-take, length-take}
use Rattle.std.proofs.Math.Nat.{min-eq_left}
use Rattle.sqlite_wal.specs.Format.{part, be32, checksum}
use Rattle.sqlite_wal.proofs.FormatLemmas.{header_from, part_front, pair}
use Rattle.rows_files.specs.declared.found.FoundLog.TheVariants.{Blank}
use Rattle.rows_life.specs.Logs.{number_at, is_magic, has_sum, is_signed, is_uncut, number_of, begins_frame, log_of, summed, IsHeaded}
use Rattle.rows_life.specs.Keeping.{IsNewLog}

set_first : (xs : List ℕ) (v : ℕ) → 0 < length xs → slice_index xs 0 ≡ v → slice_set xs 0 v ≡ xs
set_first [] v some is = absurd (omega (arith, some))
set_first (x ∷ xs) v some is = ap (λ (y : ℕ). y ∷ xs) (sym is)

same_number : (b : List ℕ) (at : ℕ) → be32 b at ≡ number_at b at
unfolding be32
same_number b at = refl

some_number : (b : List ℕ) (number : ℕ) → number_of b ≡ Some number → is_signed b ≡ true
some_number b number is = elim (cases_Bool (leb 41 (length b) && (is_uncut b && is_signed b))) [
  | inl all ↦ (and_parts _ _ (and_parts _ _ all).1).1
  | inr none ↦ (let e : None ≡ Some number = (rw none at is) in absurd cc)
]

blank_signed : (b : List ℕ) (number : ℕ) → log_of b ≡ Blank (Some number) → is_signed b ≡ true
blank_signed b number is = elim (cases_Bool (length b == 0)) [
  | inl empty ↦ (let e = rw empty at is in absurd cc)
  | inr some ↦ elim (cases_Bool (begins_frame b)) [
    | inl framed ↦ (let e = rw (some, framed) at is in absurd cc)
    | inr bare ↦ (let e : Blank (number_of b) ≡ Blank (Some number) = rw (some, bare) at is in
        let n : number_of b ≡ Some number = cc in
        some_number b number n)
  ]
]

pub new_log_is : (size number : ℕ) (b : List ℕ) → length b ≡ 56 → log_of b ≡ Blank (Some number) → IsHeaded size b → IsNewLog size b
new_log_is size number b len blank headed =
    let signed = and_parts (is_magic b) (has_sum b) (blank_signed b number blank) in
    let one = and_parts (slice_index b 1 == 0x7f) (slice_index b 2 == 0x06 && slice_index b 3 == 0x82) signed.0 in
    let two = and_parts (slice_index b 2 == 0x06) (slice_index b 3 == 0x82) one.1 in
    let sums = and_parts ((checksum false (0, 0) (summed b)).0 == number_at b 24) ((checksum false (0, 0) (summed b)).1 == number_at b 28) signed.1 in
    let short : length (take 24 b) ≡ 24 = length-take 24 b ∙ min-eq_left (omega (arith, len)) in
    let front : summed b ≡ part b 0 24 = set_first (take 24 b) 0x37 (omega (arith, short)) (get_or-take 24 b 0 0 (omega arith) ∙ headed.first) ∙ sym (part_front b 24) in
    let first : (checksum false (0, 0) (part b 0 24)).0 ≡ be32 b 24 = ap (λ (p : List ℕ). (checksum false (0, 0) p).0) (sym front) ∙ eqb-true _ _ sums.0 ∙ sym (same_number b 24) in
    let second : (checksum false (0, 0) (part b 0 24)).1 ≡ be32 b 28 = ap (λ (p : List ℕ). (checksum false (0, 0) p).1) (sym front) ∙ eqb-true _ _ sums.1 ∙ sym (same_number b 28) in
    record {
      long = len;
      head = header_from b size (omega (arith, len)) headed.first (eqb-true _ _ one.0) (eqb-true _ _ two.0) (eqb-true _ _ two.1)
          (same_number b 4 ∙ headed.version) (same_number b 8 ∙ headed.size) (ap₂ pair first second);
    }
