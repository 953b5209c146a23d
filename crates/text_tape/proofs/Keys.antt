-- The least frames of the keys.
use Rattle.std.proofs.Common.{◌≡◌, ℕ, zero, suc, ◌+◌, ◌<◌, ◌≤◌, true, false, eqb, nat_le, ◌==◌, ◌&&◌, not, List, [], ◌∷◌, ◌++◌, length, map, get_or, Option, Some, refl, sym, ◌∙◌, ap, arith, inl, inr, add-one, length-append}
use Rattle.std.specs.List.{list_all}
use Rattle.std.proofs.lemmas.Bool.{and_parts, cases_lt}
use Rattle.std.proofs.lemmas.Bool.Decides.{nat_tests}
use Rattle.std.proofs.lemmas.List.{map-append, get_or-map, length-map}
use Rattle.std.proofs.Math.ListN.{get_or-append}
use Rattle.std.proofs.Math.Seq.{get_or-append_seam}
use Rattle.code_table.specs.Names.{is_name, is_printed}
use Rattle.code_table.specs.Texts.{matrix_of}
use Rattle.code_table.specs.declared.case.Case.{Case}
use Rattle.code_table.specs.declared.meaning.Meaning.{Meaning}
use Rattle.code_table.specs.declared.meaning.Meaning.TheVariants as meanings
use Rattle.slug_reader.specs.Positions.{before}
use Rattle.slug_reader.specs.Meanings.{Meanings}
use Rattle.text_tape.specs.Codes.{frame_of}
use Rattle.text_tape.specs.Keys.{keyed, keyed_frame, column_of}

before_len : (n : ℕ) → length (before n) ≡ n
before_len zero = refl
before_len (suc n) = omega (arith, length-append (before n) (n ∷ []), before_len n)

get_before : (n i d : ℕ) → i < n → get_or (before n) i d ≡ i
get_before zero i d lt = absurd (omega (arith, lt))
get_before (suc n) i d lt =
    elim (cases_lt i n) [
      | inl less ↦ get_or-append (before n) (n ∷ []) d i (omega (arith, before_len n, less)) ∙ get_before n i d less
      | inr more ↦
          let same : i ≡ n = omega arith in
          let seam : get_or (before n ++ n ∷ []) (length (before n)) d ≡ n = get_or-append_seam (before n) n [] d in
          rw same (rw before_len at seam)
    ]

-- a column of one key more
abbrev pub column_to : Meanings → Case → ℕ → List (Option ℕ)
column_to means case n = map (keyed_frame means case) (before n)

pub column_more : (means : Meanings) (case : Case) (n : ℕ) → column_to means case (n + 1) ≡ column_to means case n ++ keyed_frame means case n ∷ []
column_more means case n = rw add-one (map-append (keyed_frame means case) (before n) (n ∷ []))

pub column_is : (means : Meanings) (case : Case) (n : ℕ) → n ≡ 127 → column_to means case n ≡ column_of means case
unfolding column_of
column_is means case n e = rw e refl

pub column_len : (means : Meanings) (case : Case) → length (column_of means case) ≡ 127
unfolding column_of
column_len means case = simp length-map (before_len 127)

-- what stands at the key of a meaning
pub column_at : (means : Meanings) (case : Case) (key : ℕ) (m : Meaning) (d : Option ℕ) → key < 127 → keyed key ≡ Some m → get_or (column_of means case) key d ≡ frame_of means case m
unfolding column_of
column_at means case key m d lt is =
    get_or-map (keyed_frame means case) (before 127) key 0 d (omega (arith, before_len 127, lt)) ∙ rw (get_before 127 key 0 lt, is) refl

-- the key of a matrix whose name is one byte
printed_in : (b : ℕ) → is_name (b ∷ []) ≡ true → is_printed b ≡ true
printed_in b h =
    let p = and_parts (not (b == 64)) (nat_le 1 8 && list_all is_printed (b ∷ [])) h in
    let q = and_parts (nat_le 1 8) (list_all is_printed (b ∷ [])) p.1 in
    (and_parts (is_printed b) true q.1).0

pub key_few : (name : List ℕ) (b : ℕ) → name ≡ b ∷ [] → is_name name ≡ true → b < 127
key_few name b e h = let p = printed_in b (rw e at h) in grind (arith, nat_tests, and_parts)

low : (b : ℕ) → is_printed b ≡ true → 33 ≤ b
low b h = grind (arith, nat_tests, and_parts)

unlike : (b n : ℕ) → n < b → eqb b n ≡ false
unlike b n h = grind (arith, nat_tests)

byte_keyed : (b : ℕ) → is_name (b ∷ []) ≡ true → keyed b ≡ Some (meanings.Matrix (b ∷ []))
unfolding matrix_of
byte_keyed b h =
    let k = low b (printed_in b h) in
    rw (
      unlike b 1 (omega (arith, k)),
      unlike b 2 (omega (arith, k)),
      unlike b 3 (omega (arith, k)),
      unlike b 4 (omega (arith, k)),
      unlike b 5 (omega (arith, k)),
      unlike b 6 (omega (arith, k)),
      unlike b 7 (omega (arith, k)),
      unlike b 8 (omega (arith, k)),
      unlike b 9 (omega (arith, k)),
      unlike b 10 (omega (arith, k)),
      unlike b 11 (omega (arith, k)),
      unlike b 12 (omega (arith, k)),
      unlike b 13 (omega (arith, k)),
      unlike b 14 (omega (arith, k)),
      h,
    ) refl

one_byte_is : (name : List ℕ) → 1 ≤ length name → length name < 2 → name ≡ get_or name 0 0 ∷ []
one_byte_is [] some few = absurd (omega (arith, some))
one_byte_is (b ∷ []) some few = refl
one_byte_is (b ∷ c ∷ rest) some few = absurd (omega (arith, few))

pub key_keyed : (name : List ℕ) (m : Meaning) → m ≡ meanings.Matrix name → 1 ≤ length name → length name < 2 → is_name name ≡ true → keyed (get_or name 0 0) ≡ Some m
key_keyed name m is some few h =
    let e = one_byte_is name some few in
    let k : is_name (get_or name 0 0 ∷ []) ≡ true = rw e at h in
    byte_keyed (get_or name 0 0) k ∙ ap (λ n. Some (meanings.Matrix n)) (sym e) ∙ ap (λ x. Some x) (sym is)
