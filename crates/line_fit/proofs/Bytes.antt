-- The widths of the matrices whose names are one byte.
use Rattle.std.proofs.Common.{◌≡◌, ℕ, zero, suc, ◌+◌, ◌<◌, ◌≤◌, Bool, true, cond, nat_le, ◌==◌, ◌&&◌, not, List, [], ◌∷◌, ◌++◌, length, map, get_or, Option, None, refl, sym, ◌∙◌, ap, arith, inl, inr, add-one, length-append}
use Rattle.std.specs.List.{list_all}
use Rattle.std.proofs.lemmas.Bool.{and_parts, cases_lt}
use Rattle.std.proofs.lemmas.Bool.Decides.{nat_tests}
use Rattle.std.proofs.lemmas.List.{map-append, get_or-map, length-map}
use Rattle.std.proofs.Math.ListN.{get_or-append}
use Rattle.std.proofs.Math.Seq.{get_or-append_seam}
use Rattle.code_table.specs.Names.{is_name, is_printed}
use Rattle.widths.specs.Widths.{WidthFile, width_of}
use Rattle.slug_reader.specs.Positions.{before}
use Rattle.line_fit.specs.Sizes.{byte_width, byte_widths}

before_len : (n : ℕ) → length (before n) ≡ n
before_len zero = refl
before_len (suc n) = omega (arith, length-append (before n) (n ∷ []), before_len n)

get_before : (n i d : ℕ) → i < n → get_or (before n) i d ≡ i
get_before zero i d lt = absurd (omega (arith, lt))
get_before (suc n) i d lt =
    elim (cases_lt i n) [
      | inl less ↦ get_or-append (before n) (n ∷ []) d i (omega (arith, before_len n, less)) ∙ get_before n i d less
      | inr more ↦
          let same : i ≡ n = omega arith in
          let seam : get_or (before n ++ n ∷ []) (length (before n)) d ≡ n = get_or-append_seam (before n) n [] d in
          rw same (rw before_len at seam)
    ]

-- the widths of one byte more
abbrev pub widths_to : WidthFile → ℕ → List (Option ℕ)
widths_to widths n = map (byte_width widths) (before n)

pub widths_more : (widths : WidthFile) (n : ℕ) → widths_to widths (n + 1) ≡ widths_to widths n ++ byte_width widths n ∷ []
widths_more widths n = rw add-one (map-append (byte_width widths) (before n) (n ∷ []))

pub widths_are : (widths : WidthFile) (n : ℕ) → n ≡ 127 → widths_to widths n ≡ byte_widths widths
unfolding byte_widths
widths_are widths n e = rw e refl

pub widths_len : (widths : WidthFile) → length (byte_widths widths) ≡ 127
unfolding byte_widths
widths_len widths = simp length-map (before_len 127)

at_byte : (widths : WidthFile) (byte : ℕ) (d : Option ℕ) → byte < 127 → get_or (byte_widths widths) byte d ≡ byte_width widths byte
unfolding byte_widths
at_byte widths byte d lt = get_or-map (byte_width widths) (before 127) byte 0 d (omega (arith, before_len 127, lt)) ∙ ap (byte_width widths) (get_before 127 byte 0 lt)

if_named : (b : Bool) (o : Option ℕ) → b ≡ true → cond b o None ≡ o
if_named b o e = rw e refl

pub width_at : (widths : WidthFile) (byte : ℕ) (name : List ℕ) (d : Option ℕ) → byte < 127 → name ≡ byte ∷ [] → is_name name ≡ true → get_or (byte_widths widths) byte d ≡ width_of widths name
width_at widths byte name d lt e h =
    let k : is_name (byte ∷ []) ≡ true = rw e at h in
    at_byte widths byte d lt ∙ (if_named (is_name (byte ∷ [])) (width_of widths (byte ∷ [])) k ∙ ap (width_of widths) (sym e))

-- a name of one byte
printed_in : (b : ℕ) → is_name (b ∷ []) ≡ true → is_printed b ≡ true
printed_in b h =
    let p = and_parts (not (b == 64)) (nat_le 1 8 && list_all is_printed (b ∷ [])) h in
    let q = and_parts (nat_le 1 8) (list_all is_printed (b ∷ [])) p.1 in
    (and_parts (is_printed b) true q.1).0

pub byte_few : (name : List ℕ) (b : ℕ) → name ≡ b ∷ [] → is_name name ≡ true → b < 127
byte_few name b e h = let p = printed_in b (rw e at h) in grind (arith, nat_tests, and_parts)
