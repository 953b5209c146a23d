-- What is known of a text by what its reader has.
use Rattle.std.proofs.Common.{◌≡◌, ℕ, List, Option, Some, None, Result, Ok, Err}
use Rattle.std.specs.Prelude.{IfOk, IfSome}

-- what holds of all that a reader has holds of the text, where that is known
known : (P : List ℕ → Type 0) (text reader : Option (List ℕ)) → IfSome text (λ bytes. reader ≡ Some bytes) → IfSome reader P → IfSome text P
known P None reader same holds = tt
known P (Some bytes) reader same holds = rw same at holds

pub read_known : {A E : Type 0} (r : Result A E) (P : A → List ℕ → Type 0) (text reader : Option (List ℕ)) → IfSome text (λ bytes. reader ≡ Some bytes) → IfOk r (λ x. IfSome reader (P x)) → IfOk r (λ x. IfSome text (P x))
read_known (Ok x) P text reader same holds = known (P x) text reader same holds
read_known (Err e) P text reader same holds = tt
