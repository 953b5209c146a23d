-- The marks of a chart stand just where they should.
use Rattle.std.proofs.Common.{◌≡◌, ◌<◌, ◌≤◌, ℕ, zero, suc, ◌+◌, List, [], ◌∷◌, ◌++◌, Option, Some, None, Bool, true, false, ◌||◌, refl, sym, ap, ◌∙◌, arith, add-one, inl, inr, ◌⊎◌, subst}
use Rattle.std.specs.Prelude.{map, option_map, ◌==◌, if◌then◌else◌}
use Rattle.std.specs.Str.{bytes_eq}
use Rattle.std.proofs.lemmas.Slice.Eq.{bytes_eq-Decides}
use Rattle.std.proofs.lemmas.Bool.{cases_Bool}
use Rattle.std.proofs.lemmas.Bool.Decides.{Decides-eqb}
use Rattle.std.proofs.lemmas.List.{append-nil, map-append}
use Rattle.code_table.specs.declared.case.Case.{Case}
use Rattle.code_table.specs.declared.case.Case.TheVariants as cases
use Rattle.code_table.specs.declared.meaning.Meaning.{Meaning}
use Rattle.code_table.specs.declared.meaning.Meaning.TheVariants as meanings
use Rattle.widths.specs.Widths.{WidthFile, width_of}
use Rattle.slug_reader.specs.Meanings.{Meanings}
use Rattle.slug_reader.specs.Positions.{before, first, or_else}
use Rattle.tape_drawing.specs.Meanings.{meaning_word}
use Rattle.code_chart.specs.declared.said.MeaningSpan.{MeaningSpan}
use Rattle.code_chart.specs.declared.said.MeaningSpan.TheVariants as spans
use Rattle.code_chart.specs.Cells.{Said, Cell, cell, chart, said, tell, all_frames, has_word, means_word, twin_at, matrix_span}
use Rattle.code_chart.specs.Laws.{FramesInOrder, NoneJustThere, LackingJustThere, SharedJustThere, IsWidthless, IsShared}
use Rattle.tape_drawing.proofs.Firsts.{first_push}

framed : (widths : WidthFile) (means : Meanings) (frames : List ℕ) → map (λ c. c.frame) (map (cell widths means) frames) ≡ frames
framed widths means [] = refl
framed widths means (frame ∷ frames) = ap (λ (xs : List ℕ). frame ∷ xs) (framed widths means frames)

pub in_order : FramesInOrder
unfolding all_frames
in_order widths means = framed widths means (before 64)

none_of : {A B : Type 0} (f : A → B) (x : Option A) → (option_map f x ≡ None → x ≡ None) × (x ≡ None → option_map f x ≡ None)
none_of f None = ((λ e. refl), (λ e. refl))
none_of f (Some x) = ((λ e. absurd cc), (λ e. absurd cc))

pub none_just_there : NoneJustThere
none_just_there widths means cases.Unshift frame = none_of (said widths means frame) (means cases.Unshift frame)
none_just_there widths means cases.Shift frame = none_of (said widths means frame) (means cases.Shift frame)

lacks : (width : Option ℕ) → (matrix_span width ≡ spans.Lacking → width ≡ None) × (width ≡ None → matrix_span width ≡ spans.Lacking)
lacks None = ((λ e. refl), (λ e. refl))
lacks (Some width) = ((λ e. absurd cc), (λ e. absurd cc))

named : (widths : WidthFile) (name : List ℕ) (w : IsWidthless widths (meanings.Matrix name)) → width_of widths name ≡ None
named widths name w =
    let same : name ≡ w.name = cc w.is_matrix in
    ap (width_of widths) same ∙ w.is_absent

pub lacking_just_there : LackingJustThere
lacking_just_there widths means frame (meanings.Matrix name) = (
  (λ e. record { name = name; is_matrix = refl; is_absent = (lacks (width_of widths name)).0 e }),
  (λ w. (lacks (width_of widths name)).1 (named widths name w)),
)
lacking_just_there widths means frame meanings.Shift = ((λ e. absurd cc), (λ w. let e = w.is_matrix in absurd cc))
lacking_just_there widths means frame meanings.Unshift = ((λ e. absurd cc), (λ w. let e = w.is_matrix in absurd cc))
lacking_just_there widths means frame meanings.Elevate = ((λ e. absurd cc), (λ w. let e = w.is_matrix in absurd cc))
lacking_just_there widths means frame meanings.Return = ((λ e. absurd cc), (λ w. let e = w.is_matrix in absurd cc))
lacking_just_there widths means frame meanings.Spaceband = ((λ e. absurd cc), (λ w. let e = w.is_matrix in absurd cc))
lacking_just_there widths means frame meanings.Thin = ((λ e. absurd cc), (λ w. let e = w.is_matrix in absurd cc))
lacking_just_there widths means frame meanings.En = ((λ e. absurd cc), (λ w. let e = w.is_matrix in absurd cc))
lacking_just_there widths means frame meanings.Em = ((λ e. absurd cc), (λ w. let e = w.is_matrix in absurd cc))
lacking_just_there widths means frame meanings.Upper = ((λ e. absurd cc), (λ w. let e = w.is_matrix in absurd cc))
lacking_just_there widths means frame meanings.Lower = ((λ e. absurd cc), (λ w. let e = w.is_matrix in absurd cc))
lacking_just_there widths means frame meanings.QuadLeft = ((λ e. absurd cc), (λ w. let e = w.is_matrix in absurd cc))
lacking_just_there widths means frame meanings.QuadCenter = ((λ e. absurd cc), (λ w. let e = w.is_matrix in absurd cc))
lacking_just_there widths means frame meanings.QuadRight = ((λ e. absurd cc), (λ w. let e = w.is_matrix in absurd cc))
lacking_just_there widths means frame meanings.Ignore = ((λ e. absurd cc), (λ w. let e = w.is_matrix in absurd cc))

either : {B : Type 0} (x y : Option B) (b : B) → or_else x y ≡ Some b → (x ≡ Some b) ⊎ (y ≡ Some b)
either None y b e = inr e
either (Some x) y b e = inl e

neither : {B : Type 0} (x y : Option B) → or_else x y ≡ None → (x ≡ None) × (y ≡ None)
neither None y e = (refl, e)
neither (Some x) y e = absurd cc

-- the first answer among the positions before one is that of such a position
record Answered {B : Type 0} (f : ℕ → Option B) (n : ℕ) (y : B) : Type 0 where
  at : ℕ
  within : at < n
  gives : f at ≡ Some y

found : {B : Type 0} (f : ℕ → Option B) (n : ℕ) (y : B) → first f (before n) ≡ Some y → Answered f n y
found f zero y e = absurd cc
found f (suc n) y e = elim (either (first f (before n)) (f n) y (sym (first_push f (before n) n) ∙ e)) [
  | inl less ↦ let a = found f n y less in record { at = a.at; within = omega (arith, a.within); gives = a.gives }
  | inr here ↦ record { at = n; within = omega arith; gives = here }
]

below : (i n : ℕ) → i < suc n → ¬ (i ≡ n) → i < n
below i n lt other = omega (arith, lt, other)

-- and where there is none no position has one
unfound : {B : Type 0} (f : ℕ → Option B) (n i : ℕ) → first f (before n) ≡ None → i < n → f i ≡ None
unfound f zero i e lt = absurd (omega (arith, lt))
unfound f (suc n) i e lt =
    let none = neither (first f (before n)) (f n) (sym (first_push f (before n) n) ∙ e) in
    elim (cases_Bool (i == n)) [
      | inl same ↦ ap f ((Decides-eqb i n).0 same) ∙ none.1
      | inr other ↦ unfound f n i none.0 (below i n lt (λ e. let so = (Decides-eqb i n).1 e in cc))
    ]

not_true : (b : Bool) → ¬ (b ≡ true) → b ≡ false
not_true true n = absurd (n refl)
not_true false n = refl

both_true : (a b : Bool) → (a || b) ≡ true → (a ≡ true) ⊎ (b ≡ true)
both_true true b e = inl refl
both_true false b e = inr e

or_right : (a b : Bool) → b ≡ true → (a || b) ≡ true
or_right true b e = refl
or_right false b e = e

or_left : (a b : Bool) → a ≡ true → (a || b) ≡ true
or_left true b e = refl
or_left false b e = absurd cc

-- what a twin is read from: it is another, and has the word
some_value : (same has : Bool) (i y : ℕ) → (if same then None else if has then Some i else None) ≡ Some y → (same ≡ false) × ((has ≡ true) × (i ≡ y))
some_value true has i y e = absurd cc
some_value false true i y e = (refl, (refl, cc e))
some_value false false i y e = absurd cc

none_value : (same has : Bool) (i : ℕ) → (if same then None else if has then Some i else None) ≡ None → same ≡ false → ¬ (has ≡ true)
none_value true has i e s h = cc
none_value false true i e s h = cc
none_value false false i e s h = cc

-- a meaning with a word
record Worded (m : Option Meaning) (word : List ℕ) : Type 0 where
  its : Meaning
  is_some : m ≡ Some its
  same : meaning_word (Some its) ≡ word

worded : (m : Option Meaning) (word : List ℕ) → has_word m word ≡ true → Worded m word
worded None word e = absurd cc
worded (Some its) word e = record { its = its; is_some = refl; same = (bytes_eq-Decides (meaning_word (Some its)) word).0 e }

has_it : (m : Option Meaning) (its : Meaning) (word : List ℕ) → m ≡ Some its → meaning_word (Some its) ≡ word → has_word m word ≡ true
has_it m its word is same = rw is ((bytes_eq-Decides (meaning_word (Some its)) word).1 same)

shared_in : (means : Meanings) (frame : ℕ) (meaning : Meaning) (other : ℕ) (case : Case) → other < 64 → ¬ (other ≡ frame)
    → Worded (means case other) (meaning_word (Some meaning)) → IsShared means frame meaning other
shared_in means frame meaning other case within is_other w =
    record { within = within; is_other = is_other; case = case; its = w.its; means_it = w.is_some; same = w.same }

shared_by : (means : Meanings) (frame : ℕ) (meaning : Meaning) (other : ℕ) → other < 64
    → twin_at means frame (meaning_word (Some meaning)) other ≡ Some other → IsShared means frame meaning other
shared_by means frame meaning other within e =
    let word = meaning_word (Some meaning) in
    let v = some_value (other == frame) (means_word means word other) other other e in
    let apart : ¬ (other ≡ frame) = λ s. let so = (Decides-eqb other frame).1 s in let no = v.0 in cc in
    elim (both_true (has_word (means cases.Unshift other) word) (has_word (means cases.Shift other) word) v.1.0) [
      | inl so ↦ shared_in means frame meaning other cases.Unshift within apart (worded (means cases.Unshift other) word so)
      | inr so ↦ shared_in means frame meaning other cases.Shift within apart (worded (means cases.Shift other) word so)
    ]

word_there : (means : Meanings) (other : ℕ) (word : List ℕ) (case : Case) → has_word (means case other) word ≡ true → means_word means word other ≡ true
word_there means other word cases.Unshift so = or_left (has_word (means cases.Unshift other) word) (has_word (means cases.Shift other) word) so
word_there means other word cases.Shift so = or_right (has_word (means cases.Unshift other) word) (has_word (means cases.Shift other) word) so

pub shared_just_there : SharedJustThere
unfolding all_frames
shared_just_there widths means frame meaning =
    let word = meaning_word (Some meaning) in (
      (λ other e.
          let a = found (twin_at means frame word) 64 other e in
          let v = some_value (a.at == frame) (means_word means word a.at) a.at other a.gives in
          let is : a.at ≡ other = v.1.1 in
          shared_by means frame meaning other (subst (λ i. i < 64) is a.within) (subst (λ i. twin_at means frame word i ≡ Some other) is a.gives)),
      (λ none other s.
          let empty = unfound (twin_at means frame word) 64 other none s.within in
          let apart = not_true (other == frame) (λ so. s.is_other ((Decides-eqb other frame).0 so)) in
          none_value (other == frame) (means_word means word other) other empty apart
          (word_there means other word s.case (has_it (means s.case other) s.its word s.means_it s.same))),
    )
