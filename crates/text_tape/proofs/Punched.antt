-- Punching, word by word.
use Rattle.std.proofs.Common.{◌≡◌, ℕ, suc, zero, ◌+◌, ◌-◌, ◌*◌, ◌<◌, ◌≤◌, Bool, true, false, cond, nat_le, ◌==◌, ◌&&◌, List, [], ◌∷◌, ◌++◌, length, take, drop, Option, Some, None, refl, arith, length-append}
use Rattle.std.specs.Prelude.{IfSome, option_map, option_to_list}
use Rattle.std.proofs.lemmas.Bool.{and_parts}
use Rattle.std.proofs.lemmas.Bool.Decides.{nat_tests}
use Rattle.tape_frames.specs.Frames.{most_frames, AreFrames, IsTape}
use Rattle.code_table.specs.Texts.{meaning_of, matrix_of}
use Rattle.code_table.specs.declared.case.Case.{Case}
use Rattle.code_table.specs.declared.meaning.Meaning.{Meaning}
use Rattle.slug_reader.specs.Positions.{before, or_else, first}
use Rattle.slug_reader.specs.Meanings.{Meanings, selected_by}
use Rattle.text_words.specs.declared.word.Word.{Word}
use Rattle.text_words.specs.declared.word.Word.TheVariants.{Means, Frame}
use Rattle.text_tape.specs.declared.adding.Added.{Added}
use Rattle.text_words.specs.Words.{IsPiece, lone, braced, byte_word, name_word, named_word, frame_named, is_digit}
use Rattle.text_tape.specs.Codes.{all_frames, is_meant, is_case, if_so, frame_of, turn_to, other_case, behind_turn, in_either, adds, added_frames, case_behind}
use Rattle.text_words.specs.Ligatures.{IsFirst, joined, apart}
use Rattle.text_tape.specs.Punching.{Ligatures, Punches, nothing, one_more, AddsPiece}
use Rattle.text_tape.proofs.Lists.{first_push}

-- one word more
pub piece_on :
    (most : ℕ) (ligatures : Ligatures) (means : Meanings) (text rest : List ℕ) (at len : ℕ) (words : List Word) (old new : List ℕ) → rest ≡ drop at text
    → Punches ligatures means text at words old → (a : AddsPiece most ligatures means rest old new len) → Punches ligatures means text (at + len) (words ++ a.word ∷ []) new
piece_on most ligatures means text rest at len words old new e p a =
    rw a.frames (one_more at len words old a.word a.added p (rw e at a.piece) a.coded)

-- a frame of a tape, if there is one
abbrev Low : Option ℕ → Type 0
Low o = IfSome o (λ f. f < 64)

-- frames of a tape, if there are some
abbrev LowAdded : Option Added → Type 0
LowAdded None = Unit {0}
LowAdded (Some added) = AreFrames (added_frames added)

-- a word that gives no frame above 63
abbrev LowWord : Option Word → Type 0
LowWord None = Unit {0}
LowWord (Some (Means m)) = Unit {0}
LowWord (Some (Frame f)) = f < 64

or_else_low : (n : ℕ) (x y : Option ℕ) → IfSome x (λ f. f < n) → IfSome y (λ f. f < suc n) → IfSome (or_else x y) (λ f. f < suc n)
or_else_low n None y h k = k
or_else_low n (Some x) y h k = omega (arith, h)

if_so_low : (b : Bool) (n : ℕ) → IfSome (if_so b n) (λ f. f < suc n)
if_so_low true n = omega arith
if_so_low false n = tt

first_low : (p : ℕ → Bool) (n : ℕ) → IfSome (first (λ f. if_so (p f) f) (before n)) (λ f. f < n)
first_low p zero = tt
first_low p (suc n) = rw (first_push (λ f. if_so (p f) f) (before n) n) (or_else_low n _ _ (first_low p n) (if_so_low (p n) n))

frame_low : (means : Meanings) (case : Case) (m : Meaning) → Low (frame_of means case m)
unfolding frame_of all_frames
frame_low means case m = first_low (λ f. is_meant m (means case f)) 64

turn_low : (means : Meanings) (case : Case) → Low (turn_to means case)
unfolding turn_to all_frames
turn_low means case = first_low (λ f. is_case case (selected_by means f)) 64

behind_low : (frame turn : Option ℕ) → Low frame → Low turn → LowAdded (behind_turn frame turn)
behind_low None turn h k = tt
behind_low (Some f) None h k = tt
behind_low (Some f) (Some t) h k = (k, (h, tt))

either_low : (frame : Option ℕ) (turned : Option Added) → Low frame → LowAdded turned → LowAdded (in_either frame turned)
either_low None turned h k = k
either_low (Some f) turned h k = (h, tt)

adds_low : (means : Meanings) (case : Case) (word : Word) → LowWord (Some word) → LowAdded (adds means case word)
unfolding adds
adds_low means case (Frame f) h = (h, tt)
adds_low means case (Means m) h =
    either_low _ _ (frame_low means case m) (behind_low _ _ (frame_low means (other_case case) m) (turn_low means (other_case case)))

cond_low : (b : Bool) (x y : Option Word) → LowWord x → LowWord y → LowWord (cond b x y)
cond_low true x y h k = h
cond_low false x y h k = k

map_low : (o : Option Meaning) → LowWord (option_map (λ m. Means m) o)
map_low None = tt
map_low (Some m) = tt

byte_low : (b : ℕ) → LowWord (byte_word b)
byte_low b = cond_low (b == 10) _ _ tt (cond_low (b == 13) _ _ tt (cond_low (b == 32) _ _ tt (cond_low (b == 123) _ _ tt (map_low (matrix_of (b ∷ []))))))

cond_number : (b : Bool) (n : ℕ) → (b ≡ true → n < 64) → Low (cond b (Some n) None)
cond_number true n h = h refl
cond_number false n h = tt

number_low : (name : List ℕ) → Low (frame_named name)
number_low [] = tt
number_low (a ∷ []) = tt
number_low (a ∷ b ∷ []) = cond_number (a == 64 && is_digit b) (b - 48) (λ h. let p = and_parts (a == 64) (is_digit b) h in let q = and_parts (nat_le 48 b) (nat_le b 57) p.1 in grind (arith, nat_tests))
number_low (a ∷ b ∷ c ∷ []) =
    cond_number (a == 64 && (nat_le 49 b && (nat_le b 57 && (is_digit c && nat_le (10 * (b - 48) + (c - 48)) 63)))) (10 * (b - 48) + (c - 48))
    (λ h.
    let p = and_parts (a == 64) _ h in
    let q = and_parts (nat_le 49 b) _ p.1 in
    let r = and_parts (nat_le b 57) _ q.1 in
    let s = and_parts (is_digit c) (nat_le (10 * (b - 48) + (c - 48)) 63) r.1 in
    grind (arith, nat_tests))
number_low (a ∷ b ∷ c ∷ d ∷ rest) = tt

name_low : (o : Option ℕ) (name : List ℕ) → Low o → LowWord (name_word o name)
name_low None name h = map_low (meaning_of name)
name_low (Some f) name h = h

named_low : (name : List ℕ) → LowWord (named_word name)
unfolding named_word
named_low name = name_low (frame_named name) name (number_low name)

piece_low : (piece : List ℕ) (said : Option Word) → IsPiece piece said → LowWord said
piece_low piece said (lone b s ne e) = rw e (byte_low b)
piece_low piece said (braced name s h e) = rw e (named_low name)

first_low_word : (ligatures : Ligatures) (text : List ℕ) (len : ℕ) (said : Option Word) → IsFirst ligatures text len said → LowWord said
first_low_word ligatures text len said (joined n u e some is) = rw is (map_low (matrix_of (take len text)))
first_low_word ligatures text len said (apart n u none within is) = piece_low (take len text) said is

added_low : (means : Meanings) (case : Case) (word : Word) (added : Added) → LowWord (Some word) → adds means case word ≡ Some added → AreFrames (added_frames added)
added_low means case word added h e = rw e at (adds_low means case word h)

low_both : (xs ys : List ℕ) → AreFrames xs → AreFrames ys → AreFrames (xs ++ ys)
low_both [] ys h k = k
low_both (x ∷ xs) ys h k = (h.0, low_both xs ys h.1 k)

-- what is punched are frames
pub punched_low : (ligatures : Ligatures) (means : Meanings) (text : List ℕ) (at : ℕ) (words : List Word) (frames : List ℕ) → Punches ligatures means text at words frames → AreFrames frames
punched_low ligatures means text at words frames nothing = tt
punched_low ligatures means text at words frames (one_more n len ws fs word added p is coded) =
    low_both fs (added_frames added) (punched_low ligatures means text n ws fs p)
    (added_low means (case_behind means fs) word added (first_low_word ligatures (drop n text) len (Some word) is) coded)

added_some : (added : Added) → 1 ≤ length (added_frames added)
added_some added = omega (arith, length-append (option_to_list added.turn) (added.frame ∷ []))

-- and there are some, where there is a word
pub punched_some : (ligatures : Ligatures) (means : Meanings) (text : List ℕ) (at : ℕ) (words : List Word) (frames : List ℕ) → Punches ligatures means text at words frames → 1 ≤ at → 1 ≤ length frames
punched_some ligatures means text at words frames nothing h = absurd (omega arith)
punched_some ligatures means text at words frames (one_more n len ws fs word added p is coded) h =
    omega (arith, length-append fs (added_frames added), added_some added)

pub punched_tape : (ligatures : Ligatures) (means : Meanings) (text : List ℕ) (at : ℕ) (words : List Word) (frames : List ℕ) → Punches ligatures means text at words frames → 1 ≤ at → length frames ≤ most_frames → IsTape frames
punched_tape ligatures means text at words frames p some few =
    record { some = punched_some ligatures means text at words frames p some; few = few; small = punched_low ligatures means text at words frames p }
