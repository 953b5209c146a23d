-- What is written of numbers is read again, and a record that is added too.
use Rattle.std.proofs.Common.{◌≡◌, ◌<◌, ◌≤◌, ◌+◌, ◌*◌, ◌-◌, ◌/◌, inl, inr, ℕ, zero, suc, List, [], ◌∷◌, ◌++◌, length, take, drop, get_or, refl, sym, ap, ◌∙◌, arith, length-append}
use Rattle.std.proofs.Math.Seq.{drop-append-add}
use Rattle.std.proofs.lemmas.Bool.{cases_eq}
use Rattle.std.proofs.lemmas.List.{drop_at, take-take, drop-take, take-append-le, drop-append-le, length-take-le, length-drop}
use Rattle.gone_out.specs.declared.origin.Origin.{Origin}
use Rattle.gone_out.specs.Files.{IsNumber, head_bytes, record_bytes, records, file}
use Rattle.gone_out.specs.Laws.{IsAmong, IsReadAgain, ReadsItAgain, IsAdded, AddsOne}
use Rattle.gone_out.proofs.Records.{lies_within, same_number}

records_length : (o : Origin) (ns : List ℕ) → length (records o ns) ≡ 8 * length ns
records_length o [] = refl
records_length o (n ∷ ns) = let more : length (records o ns) ≡ 8 * length ns = records_length o ns in omega (arith, more)

-- the record at a place among those that were written
record_of : (o : Origin) (ns rest : List ℕ) (i : ℕ) → i < length ns → take 8 (drop (8 * i) (records o ns ++ rest)) ≡ record_bytes o (get_or ns i 0)
record_of o [] rest i within = absurd (omega (arith, within))
record_of o (n ∷ ns) rest zero within = refl
record_of o (n ∷ ns) rest (suc i) within =
    let further : 8 * suc i ≡ 8 + 8 * i = omega arith in
    ap (λ (k : ℕ). take 8 (drop k (records o (n ∷ ns) ++ rest))) further
    ∙ ap (λ (l : List ℕ). take 8 l) (drop-append-add (record_bytes o n) (records o ns ++ rest) (8 * i))
    ∙ record_of o ns rest i (omega (arith, within))

module _ (o : Origin) (ns rest : List ℕ) where
  behind_head : (i : ℕ) → drop (16 + 8 * i) (file o ns ++ rest) ≡ drop (8 * i) (records o ns ++ rest)
  behind_head i = drop-append-add (head_bytes o) (records o ns ++ rest) (8 * i)

  at : (i : ℕ) → i < length ns → take 8 (drop (16 + 8 * i) (file o ns ++ rest)) ≡ record_bytes o (get_or ns i 0)
  at i within = ap (λ (l : List ℕ). take 8 l) (behind_head i) ∙ record_of o ns rest i within

  pub is_read_again : ((n : ℕ) → IsAmong ns n → IsNumber n) → length rest < 8 → IsReadAgain o ns rest
  is_read_again numbers short = record {
    head = refl;
    all = λ n is. (is.0, at is.0 is.1 ∙ ap (record_bytes o) is.2);
    only = λ n number is.
        let within = lies_within (file o ns ++ rest) o n is.0 is.1 in
        let len : length (file o ns ++ rest) ≡ length (file o ns) + length rest = length-append (file o ns) rest in
        let parts : length (file o ns) ≡ length (head_bytes o) + length (records o ns) = length-append (head_bytes o) (records o ns) in
        let head : length (head_bytes o) ≡ 16 = refl in
        let here : is.0 < length ns = omega (arith, within, len, parts, head, records_length o ns, short) in
        let same : record_bytes o (get_or ns is.0 0) ≡ record_bytes o n = sym (at is.0 here) ∙ is.1 in
        (is.0, here, same_number o (get_or ns is.0 0) n (numbers (get_or ns is.0 0) (is.0, here, refl)) number same);
  }

pub reads_it_again : ReadsItAgain
reads_it_again o ns rest origin numbers short = is_read_again o ns rest numbers short

module _ (o : Origin) (bytes : List ℕ) (n : ℕ) (long : 16 ≤ length bytes) where
  abbrev places : ℕ
  places = (length bytes - 16) / 8

  abbrev whole : List ℕ
  whole = take (16 + 8 * places) bytes

  whole_length : length whole ≡ 16 + 8 * places
  whole_length = length-take-le (16 + 8 * places) bytes (omega (arith, long))

  -- a place before the one that is added is as it was
  as_before : (p : ℕ) → p < places → take 8 (drop (16 + 8 * p) (whole ++ record_bytes o n)) ≡ take 8 (drop (16 + 8 * p) bytes)
  as_before p before =
      let a : ℕ = 16 + 8 * p in
      let left : ℕ = 8 * (places - p) in
      let end : 16 + 8 * places ≡ a + left = omega (arith, before) in
      let inner : length (drop a whole) ≡ left = length-drop a whole ∙ omega (arith, whole_length, before) in
      ap (λ (l : List ℕ). take 8 l) (drop-append-le a whole (record_bytes o n) (omega (arith, whole_length, before)))
      ∙ take-append-le 8 (drop a whole) (record_bytes o n) (omega (arith, inner, before))
      ∙ ap (λ (k : ℕ). take 8 (drop a (take k bytes))) end
      ∙ ap (λ (l : List ℕ). take 8 l) (drop-take a left bytes)
      ∙ take-take 8 left (drop a bytes) (omega (arith, before))

  at_end : take 8 (drop (16 + 8 * places) (whole ++ record_bytes o n)) ≡ record_bytes o n
  at_end = ap (λ (l : List ℕ). take 8 l) (drop_at whole (record_bytes o n) (16 + 8 * places) whole_length)

  added_length : length (whole ++ record_bytes o n) ≡ 16 + 8 * places + 8
  added_length = length-append whole (record_bytes o n) ∙ ap (λ (k : ℕ). k + 8) whole_length

  pub is_added : IsNumber n → IsAdded o bytes n
  is_added number = record {
    new = (places, at_end);
    kept = λ m is.
        let within = lies_within bytes o m is.0 is.1 in
        (is.0, as_before is.0 (omega (arith, within)) ∙ is.1);
    only = λ m other is.
        let within = lies_within (whole ++ record_bytes o n) o m is.0 is.1 in
        elim (cases_eq is.0 places) [
          | inl last ↦ inr (same_number o m n other number (sym is.1 ∙ ap (λ (p : ℕ). take 8 (drop (16 + 8 * p) (whole ++ record_bytes o n))) last ∙ at_end))
          | inr not_last ↦ inl (is.0, sym (as_before is.0 (omega (arith, within, added_length, not_last))) ∙ is.1)
        ];
  }

pub adds_one : AddsOne
adds_one o bytes n origin number long = is_added o bytes n long number
