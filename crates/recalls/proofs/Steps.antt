-- One number more, as numbers are read, tested and written.
use Rattle.std.proofs.Common.{◌≡◌, ℕ, zero, suc, ◌+◌, ◌<◌, ◌≤◌, List, [], ◌∷◌, ◌++◌, length, take, get_or, Result, Ok, Err, refl, sym, ap, subst, ◌∙◌, arith, append_assoc, append-nil}
use Rattle.std.specs.Prelude.{drop, IsErr, IsErrAnd, ◌-◌}
use Rattle.std.specs.Int.{w32, to_be_bytes}
use Rattle.std.proofs.lemmas.List.{take_more}
use Rattle.recalls.specs.Recalls.{Rise}
use Rattle.recalls.specs.Spelling.{number_bytes}
use Rattle.recalls.specs.declared.fault.RecallFault.{RecallFault}
use Rattle.recalls.specs.Reading.{◌>>=◌, Seen, number_at, numbers_at}
use Rattle.recalls.proofs.Found.{ok_same, bound, number_rises}

numbers_append : (xs ys : List ℕ) → number_bytes (xs ++ ys) ≡ number_bytes xs ++ number_bytes ys
numbers_append [] ys = refl
numbers_append (x ∷ xs) ys = ap (λ (l : List ℕ). to_be_bytes w32 x ++ l) (numbers_append xs ys)

-- one number more is written
pub number_more : (ns : List ℕ) (i n : ℕ) → i < length ns → number_bytes (take (i + 1) ns) ≡ number_bytes (take i ns) ++ to_be_bytes w32 (get_or ns i n)
number_more ns i n l = ap number_bytes (take_more ns i n l) ∙ numbers_append (take i ns) (get_or ns i n ∷ [])

pub written_more :
    (front before after ns : List ℕ) (i d : ℕ) → i < length ns → before ≡ front ++ number_bytes (take i ns)
    → after ≡ before ++ to_be_bytes w32 (get_or ns i d) → after ≡ front ++ number_bytes (take (i + 1) ns)
written_more front before after ns i d l so more =
    more ∙ ap (λ (l : List ℕ). l ++ to_be_bytes w32 (get_or ns i d)) so ∙ append_assoc front (number_bytes (take i ns)) (to_be_bytes w32 (get_or ns i d))
    ∙ ap (λ (l : List ℕ). front ++ l) (sym (number_more ns i d l))

-- what was read before, in front
abbrev pub with_front : List ℕ → Result (List ℕ × List ℕ) RecallFault → Result (List ℕ × List ℕ) RecallFault
with_front xs r = r >>= λ x. Ok (xs ++ x.0, x.1)

one_more : (xs : List ℕ) (n : ℕ) (r : Result (List ℕ × List ℕ) RecallFault) → with_front xs (r >>= λ x. Ok (n ∷ x.0, x.1)) ≡ with_front (xs ++ n ∷ []) r
one_more xs n (Ok x) = ap (λ (l : List ℕ). Ok (l, x.1)) (sym (append_assoc xs (n ∷ []) x.0))
one_more xs n (Err e) = refl

-- a number that is read in its turn, or the first fault
module _ (count i above : ℕ) (bytes xs rest : List ℕ) (turn : i < count) (read : numbers_at count 0 bytes ≡ with_front xs (numbers_at (count - i) above rest)) where
  left_is : count - i ≡ suc (count - (i + 1))
  left_is = omega arith

  read_on : numbers_at count 0 bytes ≡ with_front xs (numbers_at (suc (count - (i + 1))) above rest)
  read_on = read ∙ ap (λ (k : ℕ). with_front xs (numbers_at k above rest)) left_is

  pub failed : (e : RecallFault) → number_at above rest ≡ Err e → numbers_at count 0 bytes ≡ Err e
  failed e is = read_on ∙ (rw is refl)

  pub went_on : (n : ℕ) → number_at above rest ≡ Ok n → numbers_at count 0 bytes ≡ with_front (xs ++ n ∷ []) (numbers_at (count - (i + 1)) n (drop 4 rest))
  went_on n is = read_on ∙ (rw is refl) ∙ one_more xs n (numbers_at (count - (i + 1)) n (drop 4 rest))

-- all numbers are read
pub read_all :
    (count i above : ℕ) (bytes xs rest : List ℕ) → count ≤ i → numbers_at count 0 bytes ≡ with_front xs (numbers_at (count - i) above rest)
    → numbers_at count 0 bytes ≡ Ok (xs, rest)
read_all count i above bytes xs rest l read =
    let none : count - i ≡ 0 = omega arith in
    read ∙ ap (λ (k : ℕ). with_front xs (numbers_at k above rest)) none ∙ ap (λ (l : List ℕ). Ok (l, rest)) (append-nil xs)

-- an error that a `?` hands on
pub seen_err :
    {X Y : Type 0} (view : X → Y) (read : Result Y RecallFault) (r : Result X RecallFault) (e : RecallFault)
    → IsErr r × IsErrAnd r (λ q. q ≡ e) → read ≡ Err e → Seen view r read
seen_err view read (Ok x) e h is = absurd h.1
seen_err view read (Err q) e h is = is ∙ ap Err (sym h.1)

-- what was read rises, and there is as much of it as was asked for
pub read_rises : (count above : ℕ) (bytes ns rest : List ℕ) → numbers_at count above bytes ≡ Ok (ns, rest) → Rise above ns
read_rises zero above bytes ns rest e = subst (λ (l : List ℕ). Rise above l) (ap (λ (x : List ℕ × List ℕ). x.0) (ok_same (Ok ([], bytes)) refl e)) tt
read_rises (suc count) above bytes ns rest e =
    let (n, e1, e2) = bound (number_at above bytes) _ (ns, rest) e in
    let (more, e3, e4) = bound (numbers_at count n (drop 4 bytes)) _ (ns, rest) e2 in
    let first = number_rises above bytes n e1 in
    subst (λ (l : List ℕ). Rise above l) (ap (λ (x : List ℕ × List ℕ). x.0) (ok_same (Ok (n ∷ more.0, more.1)) refl e4))
    (first.0, first.1, read_rises count n (drop 4 bytes) more.0 more.1 e3)
