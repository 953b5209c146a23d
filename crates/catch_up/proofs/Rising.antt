-- Circuit numbers in a row, some of which are left out.
use Rattle.std.proofs.Common.{◌≡◌, ℕ, zero, suc, Bool, true, false, not, ◌≤◌, List, [], ◌∷◌, ◌++◌, length, Option, Some, None, sym, ap, subst, ◌∙◌, eqb, arith}
use Rattle.std.specs.Prelude.{if◌then◌else◌, option_to_list}
use Rattle.recalls.specs.Recalls.{Rise}
use Rattle.catch_up.specs.Values.{AreNumbers, without}

-- each of those that rise is a circuit number
pub rise_numbers : (above : ℕ) (ns : List ℕ) → Rise above ns → AreNumbers ns
rise_numbers above [] rise k d within = absurd (omega (arith, within))
rise_numbers above (n ∷ ns) rise zero d within = ((let up = rise.0 in omega (arith, up)), rise.1)
rise_numbers above (n ∷ ns) rise (suc k) d within = rise_numbers n ns rise.2 k d (omega (arith, within))

pub rise_down : (low high : ℕ) (ns : List ℕ) → low ≤ high → Rise high ns → Rise low ns
rise_down low high [] down rise = tt
rise_down low high (n ∷ ns) down rise = ((let up = rise.0 in omega (arith, up, down)), rise.1, rise.2)

-- without one number they still rise
pub rise_without : (above number : ℕ) (ns : List ℕ) → Rise above ns → Rise above (without number ns)
rise_without above number [] rise = tt
rise_without above number (n ∷ ns) rise = go (not (eqb n number)) (rise_without n number ns rise.2)
  where
    go : (b : Bool) → Rise n (without number ns) → Rise above (if b then n ∷ without number ns else without number ns)
    go true rest = (rise.0, rise.1, rest)
    go false rest = rise_down above n (without number ns) (let up = rise.0 in omega (arith, up)) rest

-- and are no more
pub few_without : (number most : ℕ) (ns : List ℕ) → length ns ≤ most → length (without number ns) ≤ most
few_without number most [] few = few
few_without number most (n ∷ ns) few = go (not (eqb n number)) (few_without number (length ns) ns (omega arith))
  where
    go : (b : Bool) → length (without number ns) ≤ length ns → length (if b then n ∷ without number ns else without number ns) ≤ most
    go true rest = omega (arith, rest, few)
    go false rest = omega (arith, rest, few)

-- the numbers behind the first
pub tail_numbers : (first : Option ℕ) (ns : List ℕ) → AreNumbers (option_to_list first ++ ns) → AreNumbers ns
tail_numbers None ns all = all
tail_numbers (Some n) ns all = λ k d within. all (suc k) d (omega (arith, within))

pub tail_few : (first : Option ℕ) (ns : List ℕ) → length (option_to_list first ++ ns) ≤ 64 → length ns ≤ 64
tail_few None ns few = few
tail_few (Some n) ns few = omega (arith, few)

pub tail_rises : (first : Option ℕ) (ns : List ℕ) → Rise 0 (option_to_list first ++ ns) → Rise 0 ns
tail_rises None ns rise = rise
tail_rises (Some n) ns rise = rise_down 0 n ns (omega arith) rise.2

-- the same where lists are known by equations
pub left_rises : (number : ℕ) (old seen new : List ℕ) → seen ≡ old → new ≡ without number seen → Rise 0 old → Rise 0 new
left_rises number old seen new is made rise = subst (Rise 0) (sym (made ∙ ap (without number) is)) (rise_without 0 number old rise)

pub left_few : (number : ℕ) (old seen new : List ℕ) → seen ≡ old → new ≡ without number seen → length old ≤ 64 → length new ≤ 64
left_few number old seen new is made few = subst (λ (l : List ℕ). length l ≤ 64) (sym (made ∙ ap (without number) is)) (few_without number 64 old few)

pub rest_numbers : (first : Option ℕ) (old new : List ℕ) → old ≡ option_to_list first ++ new → AreNumbers old → AreNumbers new
rest_numbers first old new is all = tail_numbers first new (subst AreNumbers is all)

pub rest_few : (first : Option ℕ) (old new : List ℕ) → old ≡ option_to_list first ++ new → length old ≤ 64 → length new ≤ 64
rest_few first old new is few = tail_few first new (subst (λ (l : List ℕ). length l ≤ 64) is few)

pub rest_rises : (first : Option ℕ) (old new : List ℕ) → old ≡ option_to_list first ++ new → Rise 0 old → Rise 0 new
rest_rises first old new is rise = tail_rises first new (subst (Rise 0) is rise)
