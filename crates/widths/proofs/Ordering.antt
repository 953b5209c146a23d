-- The members in byte order of their names ascend, and are those of the table.
use Rattle.std.proofs.Common.{◌≡◌, ℕ, zero, suc, Bool, true, false, cond, List, [], ◌∷◌, Ordering, Less, Equal, Greater, nat_cmp, refl, arith, add-one}
use Rattle.std.specs.Prelude.{⊤, IsPermutation, IsSortedByKey}
use Rattle.std.specs.Ordering.{is_lt, ordering_reverse}
use Rattle.std.specs.Cmp.Lexicographic.{slice_cmp}
use Rattle.std.proofs.lemmas.Cmp.{nat_list_cmp_total}
use Rattle.std.proofs.lemmas.List.Sorted.{IsPermutation-refl, IsPermutation-trans, IsPermutation-cons, IsPermutation-append_left, IsPermutation-append_comm}
use Rattle.toml.specs.Data.{Data, Members, no_members, member}
use Rattle.widths.specs.Reading.{put_in_order, in_name_order}
use Rattle.widths.specs.Laws.{listed, StandsInOrder, KeepsMembers}

abbrev Named : Type 0
Named = List ℕ × Data

abbrev compare : List ℕ → List ℕ → Ordering
compare a b = slice_cmp nat_cmp a b

-- of two names one is not below the other
not_lt : (o : Ordering) → is_lt o ≡ true → is_lt (ordering_reverse o) ≡ false
not_lt Less h = refl
not_lt Equal h = absurd cc
not_lt Greater h = absurd cc

above : (a b : List ℕ) → is_lt (compare a b) ≡ true → is_lt (compare b a) ≡ false
above a b h = rw (nat_list_cmp_total.antisymm b a) (not_lt (compare a b) h)

-- each member's name is not below the one before it
abbrev Follows : Named → List Named → Type 0
Follows first [] = ⊤
Follows first (second ∷ rest) = is_lt (compare second.0 first.0) ≡ false

abbrev Ascends : List Named → Type 0
Ascends [] = ⊤
Ascends (first ∷ rest) = Follows first rest × Ascends rest

put_follows : (before : Named) (name : List ℕ) (value : Data) (members : Members) → is_lt (compare name before.0) ≡ false → Follows before (listed members) → Follows before (listed (put_in_order name value members))
put_follows before name value no_members h follows = h
put_follows before name value (member first other rest) h follows =
    elim (is_lt (compare name first)) as (λ b. Follows before (listed (cond b (member name value (member first other rest)) (member first other (put_in_order name value rest))))) [ true ↦ h | false ↦ follows ]

put_ascends : (name : List ℕ) (value : Data) (members : Members) → Ascends (listed members) → Ascends (listed (put_in_order name value members))
put_ascends name value no_members up = (tt, tt)
put_ascends name value (member first other rest) up = go (is_lt (compare name first)) refl (put_ascends name value rest up.1)
  where
    go : (b : Bool) → is_lt (compare name first) ≡ b → Ascends (listed (put_in_order name value rest)) → Ascends (listed (cond b (member name value (member first other rest)) (member first other (put_in_order name value rest))))
    go true h others = (above name first h, up)
    go false h others = (put_follows (first, other) name value rest h up.0, others)

ascends : (table : Members) → Ascends (listed (in_name_order table))
ascends no_members = tt
ascends (member name value rest) = put_ascends name value (in_name_order rest) (ascends rest)

sorted : (members : List Named) → Ascends members → IsSortedByKey (λ m. m.0) (slice_cmp nat_cmp) members
sorted [] up k d low high = absurd (omega arith)
sorted (first ∷ []) up k d low high = absurd (omega arith)
sorted (first ∷ second ∷ rest) up zero d low high = up.0
sorted (first ∷ second ∷ rest) up (suc k) d low high =
    let others = sorted (second ∷ rest) up.1 k d (omega arith) (omega arith) in
    rw add-one (rw add-one at others)

pub stands_in_order : StandsInOrder
stands_in_order table = sorted (listed (in_name_order table)) (ascends table)

put_keeps : (name : List ℕ) (value : Data) (members : Members) → IsPermutation ((name, value) ∷ listed members) (listed (put_in_order name value members))
put_keeps name value no_members = IsPermutation-refl ((name, value) ∷ [])
put_keeps name value (member first other rest) = go (is_lt (compare name first)) (put_keeps name value rest)
  where
    exchanged : IsPermutation ((name, value) ∷ (first, other) ∷ listed rest) ((first, other) ∷ (name, value) ∷ listed rest)
    exchanged = IsPermutation-append_left (listed rest) ((name, value) ∷ (first, other) ∷ []) ((first, other) ∷ (name, value) ∷ []) (IsPermutation-append_comm ((name, value) ∷ []) ((first, other) ∷ []))

    go : (b : Bool) → IsPermutation ((name, value) ∷ listed rest) (listed (put_in_order name value rest)) → IsPermutation ((name, value) ∷ (first, other) ∷ listed rest) (listed (cond b (member name value (member first other rest)) (member first other (put_in_order name value rest))))
    go true others = IsPermutation-refl ((name, value) ∷ (first, other) ∷ listed rest)
    go false others = IsPermutation-trans _ _ _ exchanged (IsPermutation-cons (first, other) _ _ others)

pub keeps_members : KeepsMembers
keeps_members no_members = IsPermutation-refl []
keeps_members (member name value rest) =
    IsPermutation-trans _ _ _ (IsPermutation-cons (name, value) _ _ (keeps_members rest)) (put_keeps name value (in_name_order rest))
