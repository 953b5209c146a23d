-- The order of ballots, as tests.
use Rattle.std.proofs.Common.{◌≡◌, Bool, true, false, cond, ◌||◌, arith, refl}
use Rattle.std.proofs.lemmas.Bool.Decides.{nat_tests}
use Rattle.protocol.specs.Ballots.{Ballot, is_below, is_same}

pub or_false : (p : Bool) → p || false ≡ p
or_false true = refl
or_false false = refl

pub or_parts : (p q : Bool) → p || q ≡ false → (p ≡ false) × (q ≡ false)
or_parts true q h = absurd cc
or_parts false q h = (refl, h)

pub or_assoc : (p q r : Bool) → (p || q) || r ≡ p || (q || r)
or_assoc true q r = refl
or_assoc false q r = refl

-- of a and x, the later is above b where one of them is
pub below_later : (a x b : Ballot) → is_below b (cond (is_below a x) x a) ≡ is_below b a || is_below b x
below_later a x b = grind (arith, nat_tests)

pub not_both : (a b : Ballot) → is_below b a ≡ true → is_below a b ≡ false
not_both a b h = grind (arith, nat_tests)

pub same_where : (a b : Ballot) → is_below a b ≡ false → is_below b a ≡ false → a ≡ b
same_where a b h k = grind (arith, nat_tests)

pub same_after : (w v b : Ballot) → is_below b w ≡ false → is_below b v ≡ false → is_same (cond (is_below w v) v w) b ≡ is_same w b || is_same v b
same_after w v b h k = grind (arith, nat_tests)

pub below_where : (w b : Ballot) → is_below b w ≡ false → is_same w b ≡ false → is_below w b ≡ true
below_where w b h k = grind (arith, nat_tests)

pub not_below_same : (w b : Ballot) → is_same w b ≡ true → is_below w b ≡ false
not_below_same w b h = grind (arith, nat_tests)

pub irrefl : (p : Ballot) → is_below p p ≡ false
irrefl p = grind (arith, nat_tests)

pub below_at : (p w b : Ballot) → is_below p w ≡ false → is_same w b ≡ true → is_below p b ≡ false
below_at p w b h k = grind (arith, nat_tests)
