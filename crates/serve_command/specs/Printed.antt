-- What becomes of a printer while its station takes steps.
use Rattle.std.specs.Prelude.{◌≡◌, ℕ, List, [], ◌∷◌, ◌++◌, Option, Ok, Err, refl}
use Rattle.std.proofs.Common.{sym, ap, ◌∙◌, subst, append_assoc, append-nil}
use Rattle.std.specs.Io.KnownBytes.{Appends}
use Rattle.std.proofs.KnownBytes.{Appends-nil, Appends-trans}
use Rattle.streams.specs.Fronts.{AppendsFront}
use Rattle.streams.proofs.Fronts.{front_of_all, front_more}
use Rattle.driver.specs.Events.{Event, asked, took, stored, aside}
use Rattle.driver.specs.Fates.{Fates}
use Rattle.serve_command.specs.Serving.{PrintsPrefix, PrintsStored, printed_behind, prints, unprinted_behind, written}

-- it prints where it printed, and has printed the text of the releases of these events, whose saves are all stored
abbrev pub Printed : ℕ → ℕ → Option (List ℕ) → Option (List ℕ) → List Event → Type 0
Printed was is old new log = (is ≡ was) × PrintsStored old new log

-- it prints where it printed, and has printed a prefix of the text of those whose saves are stored
abbrev pub PrintedFront : ℕ → ℕ → Option (List ℕ) → Option (List ℕ) → List Event → Type 0
PrintedFront was is old new log = (is ≡ was) × PrintsPrefix old new log

-- what is printed while the one happens, and then the other
printed_then : (waits : List ℕ) (xs ys : List Event) → printed_behind waits (xs ++ ys) ≡ printed_behind waits xs ++ printed_behind (unprinted_behind waits xs) ys
printed_then waits [] ys = refl
printed_then waits (asked moment ∷ xs) ys = printed_then waits xs ys
printed_then waits (took call answer ∷ xs) ys = printed_then (waits ++ written answer) xs ys
printed_then waits (stored (Ok done) ∷ xs) ys =
    ap (λ (l : List ℕ). waits ++ l) (printed_then [] xs ys) ∙ sym (append_assoc waits (printed_behind [] xs) (printed_behind (unprinted_behind [] xs) ys))
printed_then waits (stored (Err refusal) ∷ xs) ys = printed_then waits xs ys
printed_then waits (aside what ∷ xs) ys = printed_then waits xs ys

-- what waits to be printed behind both
unprinted_then : (waits : List ℕ) (xs ys : List Event) → unprinted_behind waits (xs ++ ys) ≡ unprinted_behind (unprinted_behind waits xs) ys
unprinted_then waits [] ys = refl
unprinted_then waits (asked moment ∷ xs) ys = unprinted_then waits xs ys
unprinted_then waits (took call answer ∷ xs) ys = unprinted_then (waits ++ written answer) xs ys
unprinted_then waits (stored (Ok done) ∷ xs) ys = unprinted_then [] xs ys
unprinted_then waits (stored (Err refusal) ∷ xs) ys = unprinted_then waits xs ys
unprinted_then waits (aside what ∷ xs) ys = unprinted_then waits xs ys

-- the same, if nothing waits behind the first
printed_both : (xs ys : List Event) → unprinted_behind [] xs ≡ [] → printed_behind [] (xs ++ ys) ≡ printed_behind [] xs ++ printed_behind [] ys
printed_both xs ys none = printed_then [] xs ys ∙ ap (λ (l : List ℕ). printed_behind [] xs ++ printed_behind l ys) none

prints_both : (a b c : Option (List ℕ)) (xs ys : List Event) → PrintsStored a b xs → PrintsStored b c ys → PrintsStored a c (xs ++ ys)
prints_both a b c xs ys p q = record {
  text =
      subst (λ (l : List ℕ). Appends a c l) (sym (printed_both xs ys p.none_waits))
      (Appends-trans a b c (printed_behind [] xs) (printed_behind [] ys) p.text q.text);
  none_waits = unprinted_then [] xs ys ∙ ap (λ (l : List ℕ). unprinted_behind l ys) p.none_waits ∙ q.none_waits;
}

prints_more : (a b c : Option (List ℕ)) (xs ys : List Event) → PrintsStored a b xs → PrintsPrefix b c ys → PrintsPrefix a c (xs ++ ys)
prints_more a b c xs ys p q =
    let one = printed_behind [] xs in
    let two = printed_behind [] ys in
    subst (λ (l : List ℕ). AppendsFront a c l) (sym (printed_both xs ys p.none_waits))
    (front_more a b c one two [] (one ++ two) p.text q (ap (λ (l : List ℕ). one ++ l) (append-nil two)))

-- what is printed to an output is printed one behind the other
pub printing_fates : {W : Type 0} (contents : W → Option (List ℕ)) → Fates (prints contents).lived (prints contents).front (λ s call. Unit {0})
printing_fates contents = record {
  rests = λ s. record { text = Appends-nil (contents s); none_waits = refl };
  clock = λ s moment. record { text = Appends-nil (contents s); none_waits = refl };
  unstored = λ s refusal. record { text = Appends-nil (contents s); none_waits = refl };
  withheld = λ s call answer refusal may. (0, Appends-nil (contents s));
  besides = λ s what. record { text = Appends-nil (contents s); none_waits = refl };
  refuses = λ s call refusal may. record { text = Appends-nil (contents s); none_waits = refl };
  joins = λ a b c xs ys p q. prints_both (contents a) (contents b) (contents c) xs ys p q;
  begins = λ a b xs p. front_of_all (contents a) (contents b) (printed_behind [] xs) p.text;
  joins_front = λ a b c xs ys p q. prints_more (contents a) (contents b) (contents c) xs ys p q;
  free = λ s call needs. tt;
}

-- and so it is behind a printer, which prints where it printed
pub printed : {S : Type 0} (name : S → ℕ) (contents : S → Option (List ℕ))
    → Fates (λ (a b : S) (log : List Event). Printed (name a) (name b) (contents a) (contents b) log)
    (λ (a b : S) (log : List Event). PrintedFront (name a) (name b) (contents a) (contents b) log) (λ s call. Unit {0})
printed name contents =
    let f = printing_fates contents in
    record {
      rests = λ s. (refl, f.rests s);
      clock = λ s moment. (refl, f.clock s moment);
      unstored = λ s refusal. (refl, f.unstored s refusal);
      withheld = λ s call answer refusal may. (refl, f.withheld s call answer refusal tt);
      besides = λ s what. (refl, f.besides s what);
      refuses = λ s call refusal may. (refl, f.refuses s call refusal tt);
      joins = λ a b c xs ys p q. (q.0 ∙ p.0, f.joins a b c xs ys p.1 q.1);
      begins = λ a b xs p. (p.0, f.begins a b xs p.1);
      joins_front = λ a b c xs ys p q. (q.0 ∙ p.0, f.joins_front a b c xs ys p.1 q.1);
      free = λ s call needs. tt;
    }
