-- The line and the column behind one byte more.
use Rattle.std.proofs.Common.{◌≡◌, ℕ, ◌+◌, ◌<◌, true, false, List, length, take, get_or, refl, arith, length-append}
use Rattle.std.proofs.lemmas.List.{take_more}
use Rattle.std.proofs.lemmas.List.Sums.{count_by_more_no, count_by_more_yes}
use Rattle.text_words.specs.Places.{ends_line, line_behind, column_behind}
use Rattle.text_words.proofs.Lists.{after_passed, after_kept}

pub line_ended : (text : List ℕ) (i : ℕ) → i < length text → ends_line (get_or text i 0) ≡ true → line_behind (take (i + 1) text) ≡ line_behind (take i text) + 1
line_ended text i lt e = omega (arith, count_by_more_yes ends_line text i 0 lt e)

pub line_goes_on : (text : List ℕ) (i : ℕ) → i < length text → ends_line (get_or text i 0) ≡ false → line_behind (take (i + 1) text) ≡ line_behind (take i text)
line_goes_on text i lt e = omega (arith, count_by_more_no ends_line text i 0 lt e)

pub column_first : (text : List ℕ) (i : ℕ) → i < length text → ends_line (get_or text i 0) ≡ true → column_behind (take (i + 1) text) ≡ 1
column_first text i lt e = rw (take_more text i 0 lt, after_passed ends_line (take i text) (get_or text i 0) e) refl

pub column_next : (text : List ℕ) (i : ℕ) → i < length text → ends_line (get_or text i 0) ≡ false → column_behind (take (i + 1) text) ≡ column_behind (take i text) + 1
column_next text i lt e = rw (take_more text i 0 lt, after_kept ends_line (take i text) (get_or text i 0) e) (omega (arith, length-append {A = ℕ}))
