-- The addresses of stations beside their places, the first of each and then the others.
use Rattle.std.proofs.Common.{◌≡◌, ◌==◌, ◌-◌, ◌<◌, ◌≤◌, ℕ, true, List, [], ◌∷◌, length, take, drop, get_or, subst, subst₂, arith, length-drop}
use Rattle.std.proofs.Math.Seq.{take-length}
use Rattle.std.proofs.lemmas.Bool.Decides.{nat_tests}
use Rattle.wire.specs.declared.address.Address.{Address}
use Rattle.init_command.specs.Asked.{ArePlaces, IsPlace}
use Rattle.init_command.specs.declared.place.StationPlace.{StationPlace}

-- the slice behind the first element
tail_is : {A : Type 0} (xs : List A) → take (length xs - 1) (drop 1 xs) ≡ drop 1 xs
tail_is xs = rw (← (length-drop 1 xs)) (take-length (drop 1 xs))

none_of : (n : ℕ) → (n == 0) ≡ true → n ≡ 0
none_of n is = grind (arith, nat_tests)

-- where there are no addresses there are no places
pub no_places : (addresses : List Address) (places : List StationPlace) → length addresses < 1 → (length places == 0) ≡ true → ArePlaces addresses places
no_places [] [] few none = tt
no_places [] (place ∷ places) few none = absurd (omega (arith, none_of (length (place ∷ places)) none))
no_places (address ∷ addresses) places few none = absurd (omega arith)

-- the first is the first place, and the others are the other places
pub places_more : (addresses : List Address) (places : List StationPlace) (address : Address) (e : StationPlace) → 1 ≤ length addresses → 1 ≤ length places
    → address ≡ get_or addresses 0 address → IsPlace address (get_or places 0 e)
    → ArePlaces (take (length addresses - 1) (drop 1 addresses)) (take (length places - 1) (drop 1 places)) → ArePlaces addresses places
places_more [] places address e some other same is are = absurd (omega arith)
places_more (first ∷ addresses) [] address e some other same is are = absurd (omega arith)
places_more (first ∷ addresses) (place ∷ places) address e some other same is are = (
  subst (λ (a : Address). IsPlace a place) same is,
  subst₂ (λ xs ys. ArePlaces xs ys) (tail_is (first ∷ addresses)) (tail_is (place ∷ places)) are,
)
