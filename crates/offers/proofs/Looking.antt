-- The steps of a look.
use Rattle.std.proofs.Common.{◌≡◌, ℕ, suc, ◌+◌, ◌≤◌, ◌<◌, ◌++◌, List, [], ◌∷◌, map, drop, get_or, length, true, false, cond, nat_lt, refl, sym, ◌∙◌, ap, append_assoc, arith, drop-cons, add-one}
use Rattle.std.proofs.lemmas.Bool.Decides.{nat_tests}
use Rattle.offers.specs.declared.offer.FoundOffer.{FoundOffer}
use Rattle.offers.specs.declared.offer.Offer.{Offer}
use Rattle.offers.specs.Order.{rank, RisesFrom, from, rising_from}
use Rattle.offers.specs.Looks.{seen}
use Rattle.offers.proofs.Merging.{file_from}

-- of a file from the place on, those before it do not matter
pub seen_from : (low : ℕ) (known : List Offer) (now : ℕ) (f : FoundOffer) → low ≤ rank f.request → seen (from low known) now f ≡ seen known now f
seen_from low known now f h = let same = file_from low (rank f.request) known h in cc

-- what is left of what was found, from a place in it on
pub left : (found : List FoundOffer) (i : ℕ) (f : FoundOffer) → i < length found → f ≡ get_or found i f → drop i found ≡ f ∷ drop (i + 1) found
left found i f h e = rw add-one (drop-cons found i f h ∙ ap (λ x. x ∷ drop (suc i) found) (sym e))

-- a file that stands from the place on is taken in
pub taken : (low : ℕ) (g : FoundOffer → Offer) (f : FoundOffer) (fs : List FoundOffer) (files all : List Offer) → low ≤ rank f.request → all ≡ files ++ map g (rising_from low (f ∷ fs)) → all ≡ (files ++ g f ∷ []) ++ map g (rising_from (suc (rank f.request)) fs)
taken low g f fs files all h e =
    let opened : rising_from low (f ∷ fs) ≡ f ∷ rising_from (suc (rank f.request)) fs = grind (arith, nat_tests) in
    e ∙ ap (λ xs. files ++ map g xs) opened ∙ sym (append_assoc files (g f ∷ []) (map g (rising_from (suc (rank f.request)) fs)))

-- one that stands before it is passed over
pub passed : (low : ℕ) (g : FoundOffer → Offer) (f : FoundOffer) (fs : List FoundOffer) (files all : List Offer) → rank f.request < low → all ≡ files ++ map g (rising_from low (f ∷ fs)) → all ≡ files ++ map g (rising_from low fs)
passed low g f fs files all h e =
    let opened : rising_from low (f ∷ fs) ≡ rising_from low fs = grind (arith, nat_tests) in
    e ∙ ap (λ xs. files ++ map g xs) opened

-- what is found rises
pub found_rises : (known : List Offer) (now low : ℕ) (found : List FoundOffer) → RisesFrom low (map (seen known now) (rising_from low found))
found_rises known now low [] = tt
found_rises known now low (f ∷ fs) = elim (nat_lt (rank f.request) low) as (λ b. b ≡ nat_lt (rank f.request) low → RisesFrom low (map (seen known now) (cond b (rising_from low fs) (f ∷ rising_from (suc (rank f.request)) fs)))) [
  | true ↦ λ e. found_rises known now low fs
  | false ↦ λ e. (grind (arith, nat_tests), found_rises known now (suc (rank f.request)) fs)
] refl
