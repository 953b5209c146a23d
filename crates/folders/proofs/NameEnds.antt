-- The number of a name before its end, and the kinds that its end was looked for.
use Rattle.std.proofs.Common.{◌≡◌, ◌≤◌, ◌++◌, ◌∷◌, ◌∙◌, ℕ, List, [], Result, Ok, take, decimal, ap, sym, subst, arith}
use Rattle.std.specs.List.{All}
use Rattle.std.specs.Str.Pattern.{FindsTextSuffix, StripsSuffix}
use Rattle.std.specs.Str.Parse.{ParsesUnsigned}
use Rattle.std.proofs.lemmas.List.{append_cancel_right, take_all}
use Rattle.std.proofs.lemmas.Fmt.{parse-decimal}
use Rattle.protocol.specs.Limits.{last_number}
use Rattle.folders.specs.Offers.{NamesNoneOf, NamesNone}
use Rattle.folders.specs.declared.names.OfferKind.{OfferKind}
use Rattle.folders.specs.declared.names.OfferKind.TheVariants.{Tape, Text, Withdraw, Seek}

-- what is left of a name where its end is cut off
pub rest_is : (word s rest front : List ℕ) → StripsSuffix (FindsTextSuffix word) s rest → s ≡ front ++ word → rest ≡ front
rest_is word s rest front h is = append_cancel_right rest front word (ap (λ x. x ++ word) h.2 ∙ sym h.1.1 ∙ is)

-- the number that stands there is read
pub reads : {E : Type 0} (n : ℕ) (bs : List ℕ) (r : Result ℕ E) → n ≤ last_number → bs ≡ decimal n → ParsesUnsigned 32 10 bs r → r ≡ Ok n
reads n bs r most is h = parse-decimal 32 n bs r (omega arith) (omega arith) is h

-- of each kind none, where of all four none
each_kind : (name : List ℕ) → All (λ kind. NamesNoneOf kind name) (Tape ∷ Text ∷ Withdraw ∷ Seek ∷ []) → NamesNone name
each_kind name none Tape = none 0 Tape (omega arith)
each_kind name none Text = none 1 Tape (omega arith)
each_kind name none Withdraw = none 2 Tape (omega arith)
each_kind name none Seek = none 3 Tape (omega arith)

pub names_none : (name : List ℕ) (i : ℕ) → 4 ≤ i → All (λ kind. NamesNoneOf kind name) (take i (Tape ∷ Text ∷ Withdraw ∷ Seek ∷ [])) → NamesNone name
names_none name i past none = each_kind name (subst (λ (ks : List OfferKind). All (λ kind. NamesNoneOf kind name) ks) (take_all i (Tape ∷ Text ∷ Withdraw ∷ Seek ∷ []) past) none)
