-- A text is read in one way, and punched as one tape.
use Rattle.std.proofs.Common.{◌≡◌, ℕ, zero, suc, List, [], ◌∷◌, ◌++◌, length, take, drop, Option, Some, refl, sym, ◌∙◌, arith}
use Rattle.std.proofs.lemmas.List.{drop-drop}
use Rattle.std.proofs.Math.Seq.{drop-length}
use Rattle.slug_reader.specs.Meanings.{Meanings}
use Rattle.text_words.specs.declared.word.Word.{Word}
use Rattle.text_words.specs.Words.{IsPiece, lone, braced}
use Rattle.text_words.specs.Ligatures.{longest_len, IsFirst, joined, apart}
use Rattle.text_words.proofs.Beginning.{begun_once, longest_none}
use Rattle.text_tape.specs.declared.adding.Added.{Added}
use Rattle.text_tape.specs.Codes.{added_frames}
use Rattle.text_tape.specs.Punching.{Ligatures, Punches, nothing, one_more}
use Rattle.text_tape.specs.Laws.{OnePunching}

-- words with which a text begins, and what is left of it behind them
pub data Run (ligatures : Ligatures) : List Word → List ℕ → List ℕ → Type 0 where
  end : (text : List ℕ) → Run ligatures [] text text
  next :
      (len : ℕ) (w : Word) (ws : List Word) (text rest : List ℕ) → IsFirst ligatures text len (Some w) → Run ligatures ws (drop len text) rest
      → Run ligatures (w ∷ ws) text rest

run_push : (ligatures : Ligatures) (ws : List Word) (text rest : List ℕ) (len : ℕ) (w : Word) → Run ligatures ws text rest → IsFirst ligatures rest len (Some w) → Run ligatures (ws ++ w ∷ []) text (drop len rest)
run_push ligatures ws text rest len w (end t) is = next len w [] text (drop len rest) is (end (drop len rest))
run_push ligatures ws text rest len w (next n v vs t r it f) is = next n v (vs ++ w ∷ []) text (drop len rest) it (run_push ligatures vs (drop n text) rest len w f is)

pub run_of : (ligatures : Ligatures) (means : Meanings) (text : List ℕ) (at : ℕ) (ws : List Word) (frames : List ℕ) → Punches ligatures means text at ws frames → Run ligatures ws text (drop at text)
run_of ligatures means text at ws frames nothing = end text
run_of ligatures means text at ws frames (one_more n len vs fs w added p is coded) =
    rw (drop-drop len n text) at (run_push ligatures vs text (drop n text) len w (run_of ligatures means text n vs fs p) is)

pub some_same : (v w : Word) → Some v ≡ Some w → v ≡ w
some_same v w e = cc

-- no word begins a text that is empty
none_taken : (n : ℕ) → take {A = ℕ} n [] ≡ []
none_taken zero = refl
none_taken (suc n) = refl

some_piece : (piece : List ℕ) (said : Option Word) → IsPiece piece said → piece ≡ [] → ⊥
some_piece piece said (lone b u ne e) h = absurd cc
some_piece piece said (braced name u k e) h = absurd cc

pub empty_first : (ligatures : Ligatures) (text : List ℕ) (len : ℕ) (said : Option Word) → text ≡ [] → IsFirst ligatures text len said → ⊥
empty_first ligatures text len said e (joined n u is some it) =
    let none : longest_len ligatures text ≡ 0 = rw e (longest_none ligatures) in
    absurd (omega (arith, is, some, none))
empty_first ligatures text len said e (apart n u none within is) =
    let taken : take len text ≡ [] = rw e (none_taken len) in
    some_piece (take len text) said is taken

words_same : (ligatures : Ligatures) (ws vs : List Word) (text rest other : List ℕ) → Run ligatures ws text rest → Run ligatures vs text other → rest ≡ [] → other ≡ [] → ws ≡ vs
words_same ligatures ws vs text rest other (end t) (end s) e f = refl
words_same ligatures ws vs text rest other (end t) (next n v us s r is g) e f = absurd (empty_first ligatures text n (Some v) e is)
words_same ligatures ws vs text rest other (next n w us t r is g) (end s) e f = absurd (empty_first ligatures text n (Some w) f is)
words_same ligatures ws vs text rest other (next n w us t r is g) (next m v xs s q it h) e f =
    let once = begun_once ligatures text n m (Some w) (Some v) is it in
    let word = some_same w v once.said in
    let words = words_same ligatures us xs (drop n text) rest other g (rw (sym once.len) at h) e f in
    λ i. word i ∷ words i

-- words are punched as one tape
pub snoc_front : (ws vs : List Word) (w v : Word) → ws ++ w ∷ [] ≡ vs ++ v ∷ [] → ws ≡ vs
snoc_front [] [] w v e = refl
snoc_front [] (x ∷ []) w v e = absurd cc
snoc_front [] (x ∷ y ∷ vs) w v e = absurd cc
snoc_front (x ∷ []) [] w v e = absurd cc
snoc_front (x ∷ y ∷ ws) [] w v e = absurd cc
snoc_front (x ∷ ws) (y ∷ vs) w v e =
    let head : x ≡ y = cc in
    let rest : ws ++ w ∷ [] ≡ vs ++ v ∷ [] = cc in
    let same = snoc_front ws vs w v rest in
    λ i. head i ∷ same i

pub snoc_last : (ws vs : List Word) (w v : Word) → ws ++ w ∷ [] ≡ vs ++ v ∷ [] → w ≡ v
snoc_last [] [] w v e = cc
snoc_last [] (x ∷ []) w v e = absurd cc
snoc_last [] (x ∷ y ∷ vs) w v e = absurd cc
snoc_last (x ∷ []) [] w v e = absurd cc
snoc_last (x ∷ y ∷ ws) [] w v e = absurd cc
snoc_last (x ∷ ws) (y ∷ vs) w v e = let rest : ws ++ w ∷ [] ≡ vs ++ v ∷ [] = cc in snoc_last ws vs w v rest

pub no_last : (ws : List Word) (w : Word) → [] ≡ ws ++ w ∷ [] → ⊥
no_last [] w e = cc
no_last (x ∷ ws) w e = cc

pub added_same : (a b : Added) → Some a ≡ Some b → a ≡ b
added_same a b e = cc

pub tapes_same :
    (ligatures : Ligatures) (means : Meanings) (text other : List ℕ) (at to : ℕ) (ws vs : List Word) (f g : List ℕ)
    → Punches ligatures means text at ws f → Punches ligatures means other to vs g → ws ≡ vs → f ≡ g
tapes_same ligatures means text other at to ws vs f g nothing nothing e = refl
tapes_same ligatures means text other at to ws vs f g nothing (one_more n len us h w a q is coded) e = absurd (no_last us w e)
tapes_same ligatures means text other at to ws vs f g (one_more n len us h w a q is coded) nothing e = absurd (no_last us w (sym e))
tapes_same ligatures means text other at to ws vs f g (one_more n len us h w a q is coded) (one_more m long xs k v b y it coded2) e =
    let frames = tapes_same ligatures means text other n m us xs h k q y (snoc_front us xs w v e) in
    let word = snoc_last us xs w v e in
    let same : a ≡ b = added_same a b (sym coded ∙ rw (frames, word) coded2) in
    λ i. frames i ++ added_frames (same i)

pub one_punching : OnePunching
one_punching ligatures means text words others tape other p q =
    let same = words_same ligatures words others text (drop (length text) text) (drop (length text) text) (run_of ligatures means text (length text) words tape p)
    (run_of ligatures means text (length text) others other q) (drop-length text) (drop-length text) in
    (same, tapes_same ligatures means text text (length text) (length text) words others tape other p q same)
