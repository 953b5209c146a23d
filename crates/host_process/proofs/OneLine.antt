-- Lines that are written.
use Rattle.std.proofs.Common.{◌≡◌, ℕ, ◌-◌, ◌≤◌, Bool, not, List, length, take, Option, arith, sym, subst}
use Rattle.std.specs.Prelude.{◌≢◌, IfOk, Result, Ok, Err}
use Rattle.std.specs.Io.{WritesAtMost}
use Rattle.std.proofs.lemmas.List.{take-take, length-take}
use Rattle.std.proofs.lemmas.List.Elements.{All-take}
use Rattle.std.specs.Io.KnownBytes.{Appends, WriteAppends}
use Rattle.std.proofs.KnownBytes.{Appends-trans}
use Rattle.host_process.specs.Lines.{Begins, HasNoEnd, IsOneLine, WritesLine, ends_line}

-- a front of bytes without a line feed has none
pub fewer : (bytes : List ℕ) (m n : ℕ) → HasNoEnd (take n bytes) → m ≤ n → HasNoEnd (take m bytes)
fewer bytes m n none fits = subst HasNoEnd (take-take m n bytes fits) (All-take (λ b. b ≢ 10) m (take n bytes) none)

-- of bytes that have none before their first line's last one, so many or fewer are of one line
pub one_line : (bytes : List ℕ) (most n : ℕ) → HasNoEnd (take (most - 1) bytes) → n ≤ most → n ≤ length bytes → IsOneLine (take n bytes)
one_line bytes most n none few fits =
    let many : length (take n bytes) ≡ n = omega (arith, length-take n bytes) in
    let less : HasNoEnd (take (n - 1) bytes) = fewer bytes (n - 1) (most - 1) none (omega arith) in
    rw many (subst HasNoEnd (sym (take-take (n - 1) n bytes (omega arith))) less)

-- a moment was written, or none, and then so many bytes of a line
pub line_written : (bytes line : List ℕ) (most n : ℕ) (was is : Bool) (a b c : Option (List ℕ)) → HasNoEnd (take (most - 1) bytes) → most ≤ length bytes → line ≡ take most bytes
    → n ≤ most → is ≡ not (ends_line (take n line)) → Begins was a b → Appends b c (take n line) → WritesLine was (take n bytes) is a c
line_written bytes line most n was is a b c none fits front few ends begun wrote =
    let same : take n line ≡ take n bytes = rw front (take-take n most bytes few) in (
      one_line bytes most n none few (omega arith),
      (λ _. rw same at ends),
      begun.0,
      begun.1,
      Appends-trans a b c begun.0 (take n bytes) begun.2 (rw same at wrote),
    )

-- whatever came of it
pub result_written : {E : Type 0} (bytes line : List ℕ) (most : ℕ) (r : Result ℕ E) (was is : Bool) (a b c : Option (List ℕ)) → HasNoEnd (take (most - 1) bytes)
    → most ≤ length bytes → line ≡ take most bytes → Begins was a b → WritesAtMost r line → WriteAppends b c r line → IfOk r (λ n. is ≡ not (ends_line (take n line)))
    → IfOk r (λ n. WritesLine was (take n bytes) is a c)
result_written bytes line most (Ok n) was is a b c none fits front begun bound wrote ends =
    let few : n ≤ most = omega (arith, length-take most bytes, rw front at bound) in
    line_written bytes line most n was is a b c none fits front few ends begun wrote
result_written bytes line most (Err e) was is a b c none fits front begun bound wrote ends = tt
