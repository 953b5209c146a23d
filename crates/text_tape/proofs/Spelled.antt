-- A tape is spelled frame by frame, and what is spelled is punched again.
use Rattle.std.proofs.Common.{◌≡◌, ℕ, zero, suc, ◌+◌, ◌<◌, ◌≤◌, Bool, true, false, not, nat_lt, ◌&&◌, List, [], ◌∷◌, ◌++◌, length, take, get_or, Some, None, refl, sym, ◌∙◌, ap, arith, add-one, append_assoc}
use Rattle.std.specs.Prelude.{flat_map}
use Rattle.std.proofs.lemmas.Bool.{and_parts, not-true, lt-ltb, ltb-true}
use Rattle.std.proofs.lemmas.List.{append-nil, get_or-take, length-take, take_more}
use Rattle.std.proofs.Math.Seq.{take-length}
use Rattle.std.proofs.lemmas.Grind.{flat_map-append}
use Rattle.tape_frames.specs.Frames.{AreFrames}
use Rattle.code_table.specs.declared.case.Case.{Case}
use Rattle.slug_reader.specs.Positions.{before}
use Rattle.slug_reader.specs.Meanings.{Meanings, frame_at, case_at, meaning_at}
use Rattle.text_words.specs.declared.word.Word.{Word}
use Rattle.text_words.specs.declared.word.Word.TheVariants.{Means, Frame}
use Rattle.text_tape.specs.declared.adding.Added.{Added}
use Rattle.text_words.specs.Words.{IsPiece}
use Rattle.text_words.specs.Writing.{word_text}
use Rattle.text_tape.specs.Codes.{adds, added_frames, case_behind}
use Rattle.text_tape.specs.Punching.{IsPunched}
use Rattle.text_tape.specs.Spelling.{is_worded, is_alone, is_pair, is_unsaid, is_behind_unsaid, word_for, word_at, text_at, spelled}
use Rattle.text_tape.specs.Laws.{SpellsBack}
use Rattle.text_tape.proofs.Looking.{case_same}
use Rattle.text_tape.proofs.Pieced.{no_piece, one_piece, IsPieced, pieced_punched}
use Rattle.text_words.proofs.Worded.{meaning_piece, frame_piece}
use Rattle.text_tape.proofs.Worded.{worded}

pub pair_is :
    (means : Meanings) (case next : Case) (tape : List ℕ) (i : ℕ) (b : Bool) → i + 1 < length tape → case ≡ case_at means tape i → next ≡ case_at means tape (suc i)
    → b ≡ is_worded means case (means next (get_or tape (i + 1) 0)) (Some (get_or tape i 0)) (get_or tape (i + 1) 0) → b ≡ is_pair means tape i
unfolding is_pair meaning_at
pair_is means case next tape i b lt e n h = h ∙ rw (e, n, lt-ltb (i + 1) (length tape) lt, add-one) refl

pub unsaid_is : (means : Meanings) (tape : List ℕ) (i : ℕ) → is_unsaid means tape i ≡ (not (is_behind_unsaid means tape i) && is_pair means tape i)
unsaid_is means tape zero = refl
unsaid_is means tape (suc i) = refl

-- how much is spelled before a position
abbrev pub spelled_to : Meanings → List ℕ → ℕ → List ℕ
spelled_to means tape i = flat_map (text_at means tape) (before i)

pub spelled_more : (means : Meanings) (tape : List ℕ) (i : ℕ) → spelled_to means tape (suc i) ≡ spelled_to means tape i ++ text_at means tape i
spelled_more means tape i =
    flat_map-append (text_at means tape) (before i) (i ∷ []) ∙ ap (λ t. spelled_to means tape i ++ t) (append-nil (text_at means tape i))

pub spelled_unsaid : (means : Meanings) (tape : List ℕ) (i : ℕ) → is_unsaid means tape i ≡ true → spelled_to means tape (suc i) ≡ spelled_to means tape i
spelled_unsaid means tape i h = spelled_more means tape i ∙ rw h (append-nil (spelled_to means tape i))

pub spelled_said : (means : Meanings) (tape : List ℕ) (i : ℕ) → is_unsaid means tape i ≡ false → spelled_to means tape (suc i) ≡ spelled_to means tape i ++ word_text (word_at means tape i)
spelled_said means tape i h = spelled_more means tape i ∙ rw h refl

-- the case behind a front of a tape
length_front : (tape : List ℕ) (i : ℕ) → i ≤ length tape → length (take i tape) ≡ i
length_front tape i h = omega (arith, length-take i tape)

case_front : (means : Meanings) (tape : List ℕ) (i : ℕ) → i ≤ length tape → case_behind means (take i tape) ≡ case_at means tape i
case_front means tape i h =
    rw (length_front tape i h) (case_same means (take i tape) tape i (λ j lt. get_or-take i tape j 0 lt))

take_next : (tape : List ℕ) (i : ℕ) → i < length tape → take (suc i) tape ≡ take i tape ++ get_or tape i 0 ∷ []
take_next tape i h = sym (ap (λ n. take n tape) (add-one i)) ∙ take_more tape i 0 h

-- a word more is punched
word_on :
    (means : Meanings) (tape text : List ℕ) (i : ℕ) (w : Word) (added : Added) (next : List ℕ)
    → i ≤ length tape → IsPieced means text (take i tape) → IsPiece (word_text w) (Some w) → adds means (case_at means tape i) w ≡ Some added
    → next ≡ take i tape ++ added_frames added → IsPieced means (text ++ word_text w) next
word_on means tape text i w added next h p piece coded e =
    (p.0 ++ w ∷ [], rw e (one_piece p.0 text (take i tape) w (word_text w) added p.1 piece (rw (case_front means tape i h) coded)))

frame_low : (tape : List ℕ) (i : ℕ) → AreFrames tape → i < length tape → get_or tape i 0 < 64
frame_low [] i h lt = absurd (omega (arith, lt))
frame_low (f ∷ tape) zero h lt = h.0
frame_low (f ∷ tape) (suc i) h lt = frame_low tape i h.1 (omega (arith, lt))

-- a frame by its number
number_adds : (means : Meanings) (case : Case) (f : ℕ) → adds means case (Frame f) ≡ Some (record { turn = None; frame = f })
unfolding adds
number_adds means case f = refl

-- the word of a frame alone is punched as that
alone_on :
    (means : Meanings) (tape text : List ℕ) (i : ℕ) (b : Bool) → AreFrames tape → i < length tape → is_alone means tape i ≡ b → IsPieced means text (take i tape)
    → IsPieced means (text ++ word_text (word_for b (meaning_at means tape i) (frame_at tape i))) (take (suc i) tape)
unfolding is_alone
alone_on means tape text i true low lt h p =
    let w = worded means (case_at means tape i) (meaning_at means tape i) None (frame_at tape i) h in
    rw w.is (word_on means tape text i (Means w.m) _ _ (omega (arith, lt)) p (meaning_piece w.m w.word) w.added (take_next tape i lt))
alone_on means tape text i false low lt h p =
    word_on means tape text i (Frame (frame_at tape i)) _ _ (omega (arith, lt)) p (frame_piece (frame_at tape i) (frame_low tape i low lt)) (number_adds means (case_at means tape i) (frame_at tape i)) (take_next tape i lt)

-- the word behind a case code that stands unsaid is punched as both
pair_on :
    (means : Meanings) (tape text : List ℕ) (k : ℕ) (b : Bool) → suc k < length tape → is_pair means tape k ≡ true → IsPieced means text (take k tape)
    → IsPieced means (text ++ word_text (word_for true (meaning_at means tape (suc k)) (frame_at tape (suc k)))) (take (suc (suc k)) tape)
unfolding is_pair
pair_on means tape text k b lt h p =
    let parts = and_parts (nat_lt (k + 1) (length tape)) _ h in
    let w = worded means (case_at means tape k) (meaning_at means tape (suc k)) (Some (frame_at tape k)) (frame_at tape (suc k)) parts.1 in
    let both : take (suc (suc k)) tape ≡ take k tape ++ frame_at tape k ∷ frame_at tape (suc k) ∷ [] =
    take_next tape (suc k) lt ∙ rw (take_next tape k (omega (arith, lt))) (append_assoc (take k tape) (frame_at tape k ∷ []) (frame_at tape (suc k) ∷ [])) in
    rw w.is (word_on means tape text k (Means w.m) _ _ (omega (arith, lt)) p (meaning_piece w.m w.word) w.added both)

-- a front is punched again, unless it ends in a case code that stands unsaid
abbrev Reached : Meanings → List ℕ → ℕ → Type 0
Reached means tape i = i ≤ length tape → is_behind_unsaid means tape i ≡ false → IsPieced means (spelled_to means tape i) (take i tape)

unsaid_pair : (means : Meanings) (tape : List ℕ) (i : ℕ) → is_unsaid means tape i ≡ true → (is_behind_unsaid means tape i ≡ false) × (is_pair means tape i ≡ true)
unsaid_pair means tape i h =
    let parts = and_parts (not (is_behind_unsaid means tape i)) (is_pair means tape i) (sym (unsaid_is means tape i) ∙ h) in
    (not-true _ parts.0, parts.1)

-- one frame further, where the frame before it was said
single_on : (means : Meanings) (tape : List ℕ) (i : ℕ) → AreFrames tape → Reached means tape i → is_behind_unsaid means tape i ≡ false → Reached means tape (suc i)
single_on means tape i low r behind lt said =
    rw (spelled_said means tape i said, behind)
    (alone_on means tape (spelled_to means tape i) i (is_alone means tape i) low lt refl (r (omega (arith, lt)) behind))

-- one frame further, where it was not
double_on : (means : Meanings) (tape : List ℕ) (k : ℕ) → Reached means tape k → is_unsaid means tape k ≡ true → Reached means tape (suc (suc k))
double_on means tape k r unsaid lt said =
    let parts = unsaid_pair means tape k unsaid in
    rw (spelled_said means tape (suc k) said, unsaid, spelled_unsaid means tape k unsaid)
    (pair_on means tape (spelled_to means tape k) k true lt parts.1 (r (omega (arith, lt)) parts.0))

either_on : (means : Meanings) (tape : List ℕ) (k : ℕ) (b : Bool) → is_unsaid means tape k ≡ b → AreFrames tape → Reached means tape k → Reached means tape (suc k) → Reached means tape (suc (suc k))
either_on means tape k true e low r s = double_on means tape k r e
either_on means tape k false e low r s = single_on means tape (suc k) low s e

reach : (means : Meanings) (tape : List ℕ) (i : ℕ) → AreFrames tape → Reached means tape i × Reached means tape (suc i)
reach means tape zero low =
    let start : Reached means tape zero = λ lt said. ([], no_piece) in
    (start, single_on means tape zero low start refl)
reach means tape (suc i) low =
    let was = reach means tape i low in
    (was.1, either_on means tape i (is_unsaid means tape i) refl low was.0 was.1)

-- the last frame of a tape is no case code that stands unsaid
last_said : (means : Meanings) (tape : List ℕ) (i : ℕ) → length tape ≤ i + 1 → is_pair means tape i ≡ true → ⊥
unfolding is_pair
last_said means tape i le h =
    let lt = ltb-true (i + 1) (length tape) (and_parts (nat_lt (i + 1) (length tape)) _ h).0 in
    absurd (omega (arith, lt, le))

end_said : (means : Meanings) (tape : List ℕ) (i : ℕ) → length tape ≤ i → is_behind_unsaid means tape i ≡ false
end_said means tape zero le = refl
end_said means tape (suc i) le =
    elim (is_unsaid means tape i) as (λ b. is_unsaid means tape i ≡ b → b ≡ false) [
      | true ↦ λ e. absurd (last_said means tape i (omega (arith, le)) (unsaid_pair means tape i e).1)
      | false ↦ λ e. refl
    ] refl

pub spelled_punched : (means : Meanings) (tape : List ℕ) → AreFrames tape → IsPunched [] means (spelled_to means tape (length tape)) tape
spelled_punched means tape low =
    pieced_punched means (spelled_to means tape (length tape)) tape
    (rw (take-length tape) at ((reach means tape (length tape) low).0 (omega arith) (end_said means tape (length tape) (omega arith))))

pub spells_back : SpellsBack
unfolding spelled
spells_back means tape is = spelled_punched means tape is.small

pub spelled_is : (means : Meanings) (tape : List ℕ) (i : ℕ) → i ≡ length tape → spelled_to means tape i ≡ spelled means tape
unfolding spelled
spelled_is means tape i e = rw e refl

pub unsaid_here : (means : Meanings) (tape : List ℕ) (i : ℕ) (b p : Bool) → b ≡ is_behind_unsaid means tape i → p ≡ is_pair means tape i → b ≡ false → p ≡ true → is_unsaid means tape i ≡ true
unsaid_here means tape i b p eb ep hb hp = unsaid_is means tape i ∙ rw (← eb, ← ep, hb, hp) refl

pub said_behind : (means : Meanings) (tape : List ℕ) (i : ℕ) (b : Bool) → b ≡ is_behind_unsaid means tape i → b ≡ true → is_unsaid means tape i ≡ false
said_behind means tape i b eb hb = unsaid_is means tape i ∙ rw (← eb, hb) refl

pub said_alone : (means : Meanings) (tape : List ℕ) (i : ℕ) (b p : Bool) → b ≡ is_behind_unsaid means tape i → p ≡ is_pair means tape i → b ≡ false → p ≡ false → is_unsaid means tape i ≡ false
said_alone means tape i b p eb ep hb hp = unsaid_is means tape i ∙ rw (← eb, ← ep, hb, hp) refl
