-- What is punched says the words of the text.
use Rattle.std.proofs.Common.{◌≡◌, ℕ, zero, suc, ◌<◌, ◌≤◌, Bool, true, false, ◌==◌, is_some, List, [], ◌∷◌, ◌++◌, length, map, Option, Some, None, refl, sym, ◌∙◌, ap, arith, inl, inr, ◌⊎◌, append_assoc}
use Rattle.std.specs.Str.{bytes_eq}
use Rattle.std.proofs.lemmas.Bool.{and_parts, eqb-true}
use Rattle.std.proofs.lemmas.List.{map-append}
use Rattle.std.proofs.Math.ListN.{get_or-append}
use Rattle.std.proofs.Math.Seq.{get_or-append_seam}
use Rattle.code_table.specs.declared.case.Case.{Case}
use Rattle.code_table.specs.declared.case.Case.TheVariants as cases
use Rattle.code_table.specs.declared.meaning.Meaning.{Meaning}
use Rattle.code_table.specs.declared.meaning.Meaning.TheVariants as meanings
use Rattle.slug_reader.specs.Positions.{before, or_else, first}
use Rattle.slug_reader.specs.Meanings.{Meanings, frame_at, selected_by, meaning_at}
use Rattle.text_words.specs.declared.word.Word.{Word}
use Rattle.text_words.specs.declared.word.Word.TheVariants.{Means, Frame}
use Rattle.text_tape.specs.declared.adding.Added.{Added}
use Rattle.text_tape.specs.Codes.{all_frames, kind_of, name_in, is_same, is_meant, other_case, is_case, if_so, frame_of, turn_to, behind_turn, in_either, adds, added_frames, case_behind}
use Rattle.text_tape.specs.Punching.{nothing, one_more}
use Rattle.text_tape.specs.Laws.{Mark, mark_at, marks_of, IsSaid, Says, nothing_said, one_said, turned, TapesSay}
use Rattle.text_tape.proofs.Lists.{first_push}
use Rattle.text_tape.proofs.Looking.{case_same, case_push, length_one}

-- a meaning by its kind and its name
abbrev decode : ℕ → List ℕ → Meaning
decode zero name = meanings.Matrix name
decode (suc zero) name = meanings.Shift
decode (suc (suc zero)) name = meanings.Unshift
decode (suc (suc (suc zero))) name = meanings.Elevate
decode (suc (suc (suc (suc zero)))) name = meanings.Return
decode (suc (suc (suc (suc (suc zero))))) name = meanings.Spaceband
decode (suc (suc (suc (suc (suc (suc zero)))))) name = meanings.Thin
decode (suc (suc (suc (suc (suc (suc (suc zero))))))) name = meanings.En
decode (suc (suc (suc (suc (suc (suc (suc (suc zero)))))))) name = meanings.Em
decode (suc (suc (suc (suc (suc (suc (suc (suc (suc zero))))))))) name = meanings.Upper
decode (suc (suc (suc (suc (suc (suc (suc (suc (suc (suc zero)))))))))) name = meanings.Lower
decode (suc (suc (suc (suc (suc (suc (suc (suc (suc (suc (suc zero))))))))))) name = meanings.QuadLeft
decode (suc (suc (suc (suc (suc (suc (suc (suc (suc (suc (suc (suc zero)))))))))))) name = meanings.QuadCenter
decode (suc (suc (suc (suc (suc (suc (suc (suc (suc (suc (suc (suc (suc zero))))))))))))) name = meanings.QuadRight
decode _ name = meanings.Ignore

decoded : (m : Meaning) → decode (kind_of m) (name_in m) ≡ m
decoded (meanings.Matrix name) = refl
decoded meanings.Shift = refl
decoded meanings.Unshift = refl
decoded meanings.Elevate = refl
decoded meanings.Return = refl
decoded meanings.Spaceband = refl
decoded meanings.Thin = refl
decoded meanings.En = refl
decoded meanings.Em = refl
decoded meanings.Upper = refl
decoded meanings.Lower = refl
decoded meanings.QuadLeft = refl
decoded meanings.QuadCenter = refl
decoded meanings.QuadRight = refl
decoded meanings.Ignore = refl

bytes_same : (a b : List ℕ) → bytes_eq a b ≡ true → a ≡ b
bytes_same [] [] h = refl
bytes_same [] (y ∷ b) h = absurd cc
bytes_same (x ∷ a) [] h = absurd cc
bytes_same (x ∷ a) (y ∷ b) h =
    let p = and_parts (x == y) (bytes_eq a b) h in
    let e = eqb-true x y p.0 in
    let f = bytes_same a b p.1 in
    λ i. e i ∷ f i

same_is : (a b : Meaning) → is_same a b ≡ true → b ≡ a
unfolding is_same
same_is a b h =
    let p = and_parts (kind_of a == kind_of b) (bytes_eq (name_in a) (name_in b)) h in
    let e = eqb-true (kind_of a) (kind_of b) p.0 in
    let f = bytes_same (name_in a) (name_in b) p.1 in
    sym (decoded b) ∙ sym (λ i. decode (e i) (f i)) ∙ decoded a

meant_is : (m : Meaning) (o : Option Meaning) → is_meant m o ≡ true → o ≡ Some m
meant_is m None h = absurd cc
meant_is m (Some other) h = ap (λ x. Some x) (same_is m other h)

case_is : (c : Case) (o : Option Case) → is_case c o ≡ true → o ≡ Some c
case_is cases.Unshift (Some cases.Unshift) h = refl
case_is cases.Shift (Some cases.Shift) h = refl
case_is cases.Unshift (Some cases.Shift) h = absurd cc
case_is cases.Shift (Some cases.Unshift) h = absurd cc
case_is cases.Unshift None h = absurd cc
case_is cases.Shift None h = absurd cc

some_is : (a b : ℕ) → Some a ≡ Some b → a ≡ b
some_is a b e = cc

if_so_is : (b : Bool) (n i : ℕ) → if_so b n ≡ Some i → (n ≡ i) × (b ≡ true)
if_so_is true n i e = (some_is n i e, refl)
if_so_is false n i e = absurd cc

or_else_is : (x y : Option ℕ) (i : ℕ) → or_else x y ≡ Some i → (x ≡ Some i) ⊎ (y ≡ Some i)
or_else_is None y i e = inr e
or_else_is (Some x) y i e = inl e

-- what is found passes
found_passes : (p : ℕ → Bool) (n i : ℕ) → first (λ f. if_so (p f) f) (before n) ≡ Some i → p i ≡ true
found_passes p zero i e = absurd cc
found_passes p (suc n) i e =
    elim (or_else_is (first (λ f. if_so (p f) f) (before n)) (if_so (p n) n) i (sym (first_push (λ f. if_so (p f) f) (before n) n) ∙ e)) [
      | inl h ↦ found_passes p n i h
      | inr h ↦ let q = if_so_is (p n) n i h in rw q.0 at q.1
    ]

frame_means : (means : Meanings) (case : Case) (m : Meaning) (f : ℕ) → frame_of means case m ≡ Some f → means case f ≡ Some m
unfolding frame_of all_frames
frame_means means case m f e = meant_is m (means case f) (found_passes (λ k. is_meant m (means case k)) 64 f e)

turn_selects : (means : Meanings) (case : Case) (t : ℕ) → turn_to means case ≡ Some t → selected_by means t ≡ Some case
unfolding turn_to all_frames
turn_selects means case t e = case_is case (selected_by means t) (found_passes (λ k. is_case case (selected_by means k)) 64 t e)

-- what a word adds says it
abbrev SaysAdded : Meanings → Case → Word → Option ℕ → ℕ → Type 0
SaysAdded means case w None frame = IsSaid w (frame, means case frame)
SaysAdded means case w (Some t) frame = (other : Case) × (selected_by means t ≡ Some other) × IsSaid w (frame, means other frame)

behind_says : (means : Meanings) (case other : Case) (m : Meaning) (o t : Option ℕ) (added : Added) → frame_of means other m ≡ o → turn_to means other ≡ t → behind_turn o t ≡ Some added → SaysAdded means case (Means m) added.turn added.frame
behind_says means case other m None t added e k h = absurd cc
behind_says means case other m (Some f) None added e k h = absurd cc
behind_says means case other m (Some f) (Some t) added e k h =
    let turn : added.turn ≡ Some t = cc in
    let frame : added.frame ≡ f = cc in
    rw (turn, frame) (other, turn_selects means other t k, frame_means means other m f e)

either_says : (means : Meanings) (case other : Case) (m : Meaning) (o : Option ℕ) (added : Added) → frame_of means case m ≡ o → in_either o (behind_turn (frame_of means other m) (turn_to means other)) ≡ Some added → SaysAdded means case (Means m) added.turn added.frame
either_says means case other m None added e h = behind_says means case other m _ _ added refl refl h
either_says means case other m (Some f) added e h =
    let turn : added.turn ≡ None = cc in
    let frame : added.frame ≡ f = cc in
    rw (turn, frame) (frame_means means case m f e)

adds_says : (means : Meanings) (case : Case) (w : Word) (added : Added) → adds means case w ≡ Some added → SaysAdded means case w added.turn added.frame
unfolding adds
adds_says means case (Frame f) added h =
    let turn : added.turn ≡ None = cc in
    let frame : added.frame ≡ f = cc in
    rw (turn, frame) refl
adds_says means case (Means m) added h = either_says means case (other_case case) m (frame_of means case m) added refl h

-- the marks of one frame more
map_agrees : (f g : ℕ → Mark) (n : ℕ) → ((j : ℕ) → j < n → f j ≡ g j) → map f (before n) ≡ map g (before n)
map_agrees f g zero h = refl
map_agrees f g (suc n) h =
    map-append f (before n) (n ∷ []) ∙ rw (map_agrees f g n (λ j lt. h j (omega (arith, lt))), h n (omega arith)) (sym (map-append g (before n) (n ∷ [])))

mark_same : (means : Meanings) (a b : List ℕ) (j : ℕ) → ((k : ℕ) → k ≤ j → frame_at a k ≡ frame_at b k) → mark_at means a j ≡ mark_at means b j
unfolding meaning_at
mark_same means a b j h =
    let e = case_same means a b j (λ k lt. h k (omega (arith, lt))) in
    let f = h j (omega arith) in
    λ i. (f i, means (e i) (f i))

front_same : (frames : List ℕ) (f k : ℕ) → k < length frames → frame_at (frames ++ f ∷ []) k ≡ frame_at frames k
front_same frames f k lt = get_or-append frames (f ∷ []) 0 k lt

last_mark : (means : Meanings) (frames : List ℕ) (f : ℕ) → mark_at means (frames ++ f ∷ []) (length frames) ≡ (f, means (case_behind means frames) f)
unfolding meaning_at
last_mark means frames f =
    let e = case_same means (frames ++ f ∷ []) frames (length frames) (λ k lt. front_same frames f k lt) in
    let k : frame_at (frames ++ f ∷ []) (length frames) ≡ f = get_or-append_seam frames f [] 0 in
    λ i. (k i, means (e i) (k i))

marks_push : (means : Meanings) (frames : List ℕ) (f : ℕ) → marks_of means (frames ++ f ∷ []) ≡ marks_of means frames ++ (f, means (case_behind means frames) f) ∷ []
marks_push means frames f =
    rw (length_one frames f, map-append (mark_at means (frames ++ f ∷ [])) (before (length frames)) (length frames ∷ []), last_mark means frames f)
    (ap (λ ms. ms ++ (f, means (case_behind means frames) f) ∷ [])
    (map_agrees (mark_at means (frames ++ f ∷ [])) (mark_at means frames) (length frames) (λ j lt. mark_same means (frames ++ f ∷ []) frames j (λ k le. front_same frames f k (omega (arith, lt, le))))))

says_word : (means : Meanings) (words : List Word) (frames : List ℕ) (w : Word) (f : ℕ) → Says means words (marks_of means frames) → IsSaid w (f, means (case_behind means frames) f) → Says means (words ++ w ∷ []) (marks_of means (frames ++ f ∷ []))
says_word means words frames w f p said = rw (marks_push means frames f) (one_said words (marks_of means frames) w (f, means (case_behind means frames) f) p said)

says_turn : (means : Meanings) (words : List Word) (frames : List ℕ) (t : ℕ) (other : Case) → Says means words (marks_of means frames) → selected_by means t ≡ Some other → Says means words (marks_of means (frames ++ t ∷ []))
says_turn means words frames t other p e =
    let is : is_some (selected_by means t) ≡ true = rw e refl in
    rw (marks_push means frames t) (turned words (marks_of means frames) (t, means (case_behind means frames) t) p is)

says_added : (means : Meanings) (words : List Word) (frames : List ℕ) (w : Word) (turn : Option ℕ) (frame : ℕ) → Says means words (marks_of means frames) → SaysAdded means (case_behind means frames) w turn frame → Says means (words ++ w ∷ []) (marks_of means (frames ++ added_frames (record { turn = turn; frame = frame })))
says_added means words frames w None frame p said = says_word means words frames w frame p said
says_added means words frames w (Some t) frame p said =
    let turn = says_turn means words frames t said.0 p said.1 in
    let behind : case_behind means (frames ++ t ∷ []) ≡ said.0 = case_push means frames t ∙ rw said.1 refl in
    rw (← (append_assoc frames (t ∷ []) (frame ∷ []))) (says_word means words (frames ++ t ∷ []) w frame turn (rw behind said.2))

pub tapes_say : TapesSay
tapes_say ligatures means text at words tape nothing = nothing_said
tapes_say ligatures means text at words tape (one_more n len ws fs w added p is coded) =
    says_added means ws fs w added.turn added.frame (tapes_say ligatures means text n ws fs p) (adds_says means (case_behind means fs) w added coded)
