-- A word that gives a frame.
use Rattle.std.proofs.Common.{◌≡◌, ℕ, true, ◌==◌, Option, Some, None, refl, sym, ap}
use Rattle.std.proofs.lemmas.Bool.{and_parts, eqb-true}
use Rattle.code_table.specs.declared.case.Case.{Case}
use Rattle.code_table.specs.declared.meaning.Meaning.{Meaning}
use Rattle.slug_reader.specs.Meanings.{Meanings}
use Rattle.text_words.specs.declared.word.Word.TheVariants.{Means}
use Rattle.text_words.specs.Writing.{has_word}
use Rattle.text_tape.specs.declared.adding.Added.{Added}
use Rattle.text_tape.specs.Codes.{adds}
use Rattle.text_tape.specs.Spelling.{is_turn_of, is_added, is_worded}

-- what a word gives that is punched as this frame
turn_is : (a b : Option ℕ) → is_turn_of a b ≡ true → b ≡ a
turn_is None None h = refl
turn_is (Some a) (Some b) h = ap (λ n. Some n) (sym (eqb-true a b h))
turn_is None (Some b) h = absurd cc
turn_is (Some a) None h = absurd cc

added_is : (turn : Option ℕ) (frame : ℕ) (added : Option Added) → is_added turn frame added ≡ true → added ≡ Some (record { turn = turn; frame = frame })
added_is turn frame None h = absurd cc
added_is turn frame (Some added) h =
    let parts = and_parts (is_turn_of turn added.turn) (added.frame == frame) h in
    let e = turn_is turn added.turn parts.0 in
    let k = eqb-true added.frame frame parts.1 in
    λ i. Some (record { turn = e i; frame = k i })

-- a word for what a frame means that gives it
pub record Worded (means : Meanings) (case : Case) (o : Option Meaning) (turn : Option ℕ) (frame : ℕ) : Type 0 where
  pub m : Meaning
  pub is : o ≡ Some m
  pub word : has_word m ≡ true
  pub added : adds means case (Means m) ≡ Some (record { turn = turn; frame = frame })

pub worded : (means : Meanings) (case : Case) (o : Option Meaning) (turn : Option ℕ) (frame : ℕ) → is_worded means case o turn frame ≡ true → Worded means case o turn frame
worded means case None turn frame h = absurd cc
worded means case (Some m) turn frame h =
    let parts = and_parts (has_word m) (is_added turn frame (adds means case (Means m))) h in
    record { m = m; is = refl; word = parts.0; added = added_is turn frame _ parts.1 }
