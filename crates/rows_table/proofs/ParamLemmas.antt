-- What a column takes of a value that a statement is given.
use Rattle.std.proofs.Common.{◌≡◌, ℕ, pos, List, Some, None, Option, option_map, option_copied, MatchOption, IsSomeAnd, Bor, refl, ap, ◌∙◌}
use Rattle.std.specs.Global.{Vec}
use Rattle.sqlite_value.specs.declared.value.Value.TheVariants.{Blob}
use Rattle.sqlite.specs.Kind.TheVariants.{Integer}
use Rattle.sqlite_rules.specs.Cast.{cast}
use Rattle.sqlite.specs.Values.{or_null, bound_value}
use Rattle.rows_table.specs.Rows.{whole}
use Rattle.rows_table.proofs.PutLemmas.{cast_int, cast_null}

-- a column of whole numbers takes a number or NULL as it is
pub optional : (o : Option ℕ) → cast Integer (or_null whole o) ≡ or_null whole o
optional None = cast_null
optional (Some n) = cast_int (pos n)

-- and so does a parameter
pub bound_number : (o : Option ℕ) → bound_value (or_null whole o) ≡ or_null whole o
bound_number None = refl
bound_number (Some n) = refl

-- and bytes that are lent, or NULL
pub bound_packed : (o : Option (Bor (Vec ℕ))) → bound_value (or_null (λ (b : Bor (Vec ℕ)). Blob b.now.items) o) ≡ or_null Blob (option_map (λ (b : Bor (Vec ℕ)). b.now.items) o)
bound_packed None = refl
bound_packed (Some b) = refl

-- a column of a vote that is lent, if there is one
pub of_vote : {V : Type 0} (column : V → ℕ) (lent : Option (Bor V)) (vote : Option V) (given : Option ℕ) {Gives : Bor V → ℕ → Type 0} → option_copied lent ≡ vote
    → MatchOption lent (given ≡ None) (λ v. IsSomeAnd given (Gives v)) → ((v : Bor V) (n : ℕ) → Gives v n → n ≡ column v.now) → given ≡ option_map column vote
of_vote column None vote given same is gives = is ∙ ap (option_map column) same
of_vote column (Some v) vote None same is gives = absurd is
of_vote column (Some v) vote (Some n) same is gives = ap Some (gives v n is) ∙ ap (option_map column) same

-- and its bytes
pub bytes_of_vote : {V : Type 0} (column : V → List ℕ) (lent : Option (Bor V)) (vote : Option V) (given : Option (Bor (Vec ℕ))) {Gives : Bor V → Bor (Vec ℕ) → Type 0} → option_copied lent ≡ vote
    → MatchOption lent (given ≡ None) (λ v. IsSomeAnd given (Gives v)) → ((v : Bor V) (b : Bor (Vec ℕ)) → Gives v b → b.now.items ≡ column v.now)
    → option_map (λ (b : Bor (Vec ℕ)). b.now.items) given ≡ option_map column vote
bytes_of_vote column None vote given same is gives = ap (option_map (λ (b : Bor (Vec ℕ)). b.now.items)) is ∙ ap (option_map column) same
bytes_of_vote column (Some v) vote None same is gives = absurd is
bytes_of_vote column (Some v) vote (Some b) same is gives = ap Some (gives v b is) ∙ ap (option_map column) same
