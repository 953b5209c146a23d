-- A text that is punched has no first fault.
use Rattle.std.proofs.Common.{◌≡◌, ℕ, ◌+◌, ◌≤◌, List, [], ◌∷◌, ◌++◌, length, take, drop, Some, None, refl, sym, ◌∙◌, ap, arith, append_assoc, length-append, length-drop}
use Rattle.std.proofs.lemmas.List.{take-append-drop}
use Rattle.std.proofs.Math.Seq.{drop-length}
use Rattle.slug_reader.specs.Meanings.{Meanings}
use Rattle.text_words.specs.declared.word.Word.{Word}
use Rattle.text_tape.specs.declared.adding.Added.{Added}
use Rattle.text_tape.specs.declared.fault.PunchCause.{PunchCause}
use Rattle.text_tape.specs.declared.fault.PunchCause.TheVariants.{NoCode, NoEnd, TooLong}
use Rattle.text_words.specs.Words.{IsPiece, lone, braced, IsUnclosed, HasNoEnd}
use Rattle.text_words.specs.Ligatures.{longest_len, IsFirst, joined, apart}
use Rattle.text_tape.specs.Codes.{adds, added_frames, case_behind}
use Rattle.text_tape.specs.Punching.{Ligatures, Punches, nothing, one_more, IsPunched, IsCause, IsStuck}
use Rattle.text_tape.specs.Laws.{NotBoth}
use Rattle.text_words.proofs.Pieces.{head_is, tail_is, behind_name}
use Rattle.text_words.proofs.Beginning.{begun_once}
use Rattle.text_tape.proofs.Unique.{Run, end, next, run_of, some_same, empty_first, snoc_front, snoc_last, no_last, added_same, tapes_same}

-- what is left of the words of a text behind those of its front
record Left (ligatures : Ligatures) (ws0 ws : List Word) (rest : List ℕ) : Type 0 where
  pub more : List Word
  pub words : ws ≡ ws0 ++ more
  pub over : List ℕ
  pub none : over ≡ []
  pub run : Run ligatures more rest over

left_of : (ligatures : Ligatures) (ws0 ws : List Word) (text rest over : List ℕ) → Run ligatures ws0 text rest → Run ligatures ws text over → over ≡ [] → Left ligatures ws0 ws rest
left_of ligatures ws0 ws text rest over (end t) f e = record { more = ws; words = refl; over = over; none = e; run = f }
left_of ligatures ws0 ws text rest over (next n w us t r is g) (end s) e = absurd (empty_first ligatures text n (Some w) e is)
left_of ligatures ws0 ws text rest over (next n w us t r is g) (next m v xs s q it h) e =
    let once = begun_once ligatures text m n (Some v) (Some w) it is in
    let word = some_same v w once.said in
    let left = left_of ligatures us xs (drop n text) rest over g (rw once.len at h) e in
    record { more = left.more; words = (λ i. word i ∷ left.words i); over = left.over; none = left.none; run = left.run }

-- the first word of a text that is not empty
record Starts (ligatures : Ligatures) (ws : List Word) (text : List ℕ) : Type 0 where
  pub word : Word
  pub rest_words : List Word
  pub len : ℕ
  pub is : IsFirst ligatures text len (Some word)
  pub words : ws ≡ word ∷ rest_words

starts : (ligatures : Ligatures) (ws : List Word) (text over : List ℕ) → Run ligatures ws text over → over ≡ [] → 1 ≤ length text → Starts ligatures ws text
starts ligatures ws text over (end t) e some = let none = ap length e in absurd (omega (arith, some, none))
starts ligatures ws text over (next n w us t r is f) e some = record { word = w; rest_words = us; len = n; is = is; words = refl }

-- the last of words
record Last (ws : List Word) : Type 0 where
  pub front : List Word
  pub last : Word
  pub words : ws ≡ front ++ last ∷ []

last_of : (w : Word) (ws : List Word) → Last (w ∷ ws)
last_of w [] = record { front = []; last = w; words = refl }
last_of w (v ∷ ws) =
    let l = last_of v ws in
    record { front = w ∷ l.front; last = l.last; words = ap (λ xs. w ∷ xs) l.words }

none_before : (ws : List Word) (w : Word) (more : List Word) → [] ≡ ws ++ w ∷ more → ⊥
none_before [] w more e = cc
none_before (x ∷ ws) w more e = cc

-- where a word was punched
record Began (ligatures : Ligatures) (means : Meanings) (whole : List ℕ) (ws0 : List Word) (w : Word) (tape : List ℕ) : Type 0 where
  pub to : ℕ
  pub frames : List ℕ
  pub punches : Punches ligatures means whole to ws0 frames
  pub added : Added
  pub coded : adds means (case_behind means frames) w ≡ Some added
  pub short : length frames + length (added_frames added) ≤ length tape

began :
    (ligatures : Ligatures) (means : Meanings) (whole : List ℕ) (to : ℕ) (words : List Word) (tape : List ℕ) → Punches ligatures means whole to words tape
    → (ws0 : List Word) (w : Word) (more : List Word) → words ≡ ws0 ++ w ∷ more → Began ligatures means whole ws0 w tape
began ligatures means whole to words tape nothing ws0 w [] e = absurd (no_last ws0 w e)
began ligatures means whole to words tape nothing ws0 w (m ∷ ms) e = absurd (none_before ws0 w (m ∷ ms) e)
began ligatures means whole to words tape (one_more n len us h v a y it coded) ws0 w [] e =
    let front = snoc_front us ws0 v w e in
    let word = snoc_last us ws0 v w e in
    record { to = n; frames = h; punches = rw front at y; added = a; coded = rw word at coded; short = omega (arith, length-append h (added_frames a)) }
began ligatures means whole to words tape (one_more n len us h v a y it coded) ws0 w (m ∷ ms) e =
    let l = last_of m ms in
    let all : us ++ v ∷ [] ≡ (ws0 ++ w ∷ l.front) ++ l.last ∷ [] = e ∙ ap (λ xs. ws0 ++ w ∷ xs) l.words ∙ sym (append_assoc ws0 (w ∷ l.front) (l.last ∷ [])) in
    let front = snoc_front us (ws0 ++ w ∷ l.front) v l.last all in
    let b = began ligatures means whole n us h y ws0 w l.front front in
    record { to = b.to; frames = b.frames; punches = b.punches; added = b.added; coded = b.coded; short = omega (arith, b.short, length-append h (added_frames a)) }

-- a brace that is not closed begins no piece
no_piece : (piece rest behind : List ℕ) (w : Word) → IsPiece piece (Some w) → 123 ∷ behind ≡ piece ++ rest → IsUnclosed behind → ⊥
no_piece piece rest behind w (lone c u ne e) h un = ne (sym (head_is 123 c behind rest h))
no_piece piece rest behind w (braced n u k e) h un =
    un n rest k (tail_is 123 123 behind (n ++ 125 ∷ rest) (h ∙ behind_name n rest))

no_first : (ligatures : Ligatures) (text : List ℕ) (len : ℕ) (w : Word) → IsFirst ligatures text len (Some w) → HasNoEnd text → longest_len ligatures text ≡ 0 → ⊥
no_first ligatures text len w (joined n u e some is) opened none = absurd (omega (arith, e, some, none))
no_first ligatures text len w (apart n u nil within is) opened none =
    no_piece (take len text) (drop len text) opened.behind w is (sym opened.open_brace ∙ sym (take-append-drop len text)) opened.unclosed

-- what stands at a place at which a text is stuck
record Met (most : ℕ) (ligatures : Ligatures) (means : Meanings) (frames rest : List ℕ) : Type 0 where
  pub word : Word
  pub len : ℕ
  pub is : IsFirst ligatures rest len (Some word)
  pub added : Added
  pub coded : adds means (case_behind means frames) word ≡ Some added
  pub short : length frames + length (added_frames added) ≤ most

never : (most : ℕ) (ligatures : Ligatures) (means : Meanings) (frames rest : List ℕ) (cause : PunchCause) → Met most ligatures means frames rest → IsCause most ligatures means frames rest cause → ⊥
never most ligatures means frames rest (NoCode len) m why =
    let said = (begun_once ligatures rest len m.len why.said (Some m.word) why.piece m.is).said in
    let none : adds means (case_behind means frames) m.word ≡ None = rw said at why.uncoded in
    let both : None ≡ Some m.added = sym none ∙ m.coded in
    absurd cc
never most ligatures means frames rest NoEnd m why = no_first ligatures rest m.len m.word m.is why.0 why.1
never most ligatures means frames rest TooLong m why =
    let said = (begun_once ligatures rest why.len m.len (Some why.word) (Some m.word) why.piece m.is).said in
    let word = some_same why.word m.word said in
    let added : why.added ≡ m.added = added_same why.added m.added (sym why.coded ∙ rw word m.coded) in
    let long = why.long in
    let same = ap (λ a. length (added_frames a)) added in
    absurd (omega (arith, long, m.short, same))

met :
    (most : ℕ) (ligatures : Ligatures) (means : Meanings) (text tape : List ℕ) (at : ℕ) (cause : PunchCause) (s : IsStuck most ligatures means text at cause)
    → IsPunched ligatures means text tape → length tape ≤ most → Met most ligatures means s.frames (drop at text)
met most ligatures means text tape at cause s p few =
    let left = left_of ligatures s.words p.0 text (drop at text) (drop (length text) text) (run_of ligatures means text at s.words s.frames s.punches)
    (run_of ligatures means text (length text) p.0 tape p.1) (drop-length text) in
    let some : 1 ≤ length (drop at text) = omega (arith, length-drop at text, s.within) in
    let b = starts ligatures left.more (drop at text) left.over left.run left.none some in
    let g = began ligatures means text (length text) p.0 tape p.1 s.words b.word b.rest_words (left.words ∙ ap (λ xs. s.words ++ xs) b.words) in
    let same : g.frames ≡ s.frames = tapes_same ligatures means text text g.to at s.words s.words g.frames s.frames g.punches s.punches refl in
    record {
      word = b.word;
      len = b.len;
      is = b.is;
      added = g.added;
      coded = rw same at g.coded;
      short = let n = ap length same in omega (arith, g.short, few, n);
    }

pub not_both : NotBoth
not_both most ligatures means text tape fault f p few =
    never most ligatures means f.stuck.frames (drop fault.at text) fault.cause (met most ligatures means text tape fault.at fault.cause f.stuck p few) f.stuck.why
