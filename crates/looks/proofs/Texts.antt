-- The order of names.
use Rattle.std.proofs.Common.{◌≡◌, ℕ, List, true, false, Ordering, sym, ap, ◌∙◌, refl}
use Rattle.std.specs.declared.cmp.Ordering.TheVariants.{Less, Equal, Greater}
use Rattle.std.specs.Cmp.Lexicographic.{slice_cmp, nat_list_cmp_total}
use Rattle.std.specs.Ordering.{is_lt, is_eq, nat_cmp, ordering_reverse}
use Rattle.std.specs.Str.{bytes_eq}
use Rattle.std.proofs.lemmas.Map.Text.{is_eq-slice_cmp}
use Rattle.std.proofs.lemmas.Slice.Eq.{bytes_eq-Decides}
use Rattle.looks.specs.Names.{is_before}

-- which answer it was
less_from : (o : Ordering) → is_lt o ≡ true → o ≡ Less
less_from Less e = refl
less_from Equal e = cc
less_from Greater e = cc

greater_from : (o : Ordering) → is_lt o ≡ false → is_eq o ≡ false → o ≡ Greater
greater_from Less e f = cc
greater_from Equal e f = cc
greater_from Greater e f = refl

-- a name stands before another
pub before_from : (a b : List ℕ) → is_before a b ≡ true → slice_cmp nat_cmp a b ≡ Less
before_from a b e = less_from (slice_cmp nat_cmp a b) e

-- it is then not that one
pub apart : (a b : List ℕ) → slice_cmp nat_cmp a b ≡ Less → bytes_eq a b ≡ false
apart a b e = sym (is_eq-slice_cmp a b) ∙ ap is_eq e

pub apart_back : (a b : List ℕ) → slice_cmp nat_cmp a b ≡ Less → bytes_eq b a ≡ false
apart_back a b e = sym (is_eq-slice_cmp b a) ∙ ap is_eq (nat_list_cmp_total.antisymm b a ∙ ap ordering_reverse e)

-- and stands before all that stand behind that one
pub before_more : (a b c : List ℕ) → slice_cmp nat_cmp a b ≡ Less → slice_cmp nat_cmp b c ≡ Less → slice_cmp nat_cmp a c ≡ Less
before_more a b c e f = nat_list_cmp_total.trans a b c e f

-- of two names that are not one the one that does not stand before stands behind
pub behind : (a b : List ℕ) → is_before a b ≡ false → bytes_eq a b ≡ false → slice_cmp nat_cmp b a ≡ Less
behind a b e f =
    let greater : slice_cmp nat_cmp a b ≡ Greater = greater_from (slice_cmp nat_cmp a b) e (is_eq-slice_cmp a b ∙ f) in
    nat_list_cmp_total.antisymm b a ∙ ap ordering_reverse greater

-- a name that is this one is none that stands behind it
pub own_apart : (a b c : List ℕ) → bytes_eq a b ≡ true → slice_cmp nat_cmp b c ≡ Less → bytes_eq a c ≡ false
own_apart a b c e f = rw ((bytes_eq-Decides a b).0 e) (apart b c f)
