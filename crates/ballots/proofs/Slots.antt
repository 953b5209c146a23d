-- A slot for each member: the lists member by member.
use Rattle.std.proofs.Common.{◌≡◌, ℕ, zero, suc, ◌+◌, ◌-◌, ◌<◌, ◌≤◌, refl, sym, ap, ◌∙◌, List, [], ◌∷◌, ◌++◌, Bool, true, false, length, cond, arith, get_or, set, length-append}
use Rattle.std.specs.Prelude.{map, count_by, ◌==◌}
use Rattle.std.proofs.lemmas.Bool.{eqb-true, eqb-false}
use Rattle.std.proofs.lemmas.List.{length-map, map-append, set-append_left, get_or-set_same}
use Rattle.std.proofs.Math.Seq.{set-append_seam}
use Rattle.std.proofs.lemmas.List.Sums.{sum_by-cons}
use Rattle.protocol.specs.Ballots.{IsMember, members}
use Rattle.ballots.specs.Slots.{SlotForEachMember, SlotHoldsItsValue, OneSlotChanges, SlotsCountAsMembers}

length-members : (c : ℕ) → length (members c) ≡ c
length-members zero = refl
length-members (suc c) = length-append (members c) (suc c ∷ []) ∙ rw (length-members c) (omega arith)

module _ {A : Type 0} where
  pub slot_for_each : SlotForEachMember A
  slot_for_each c f = length-map (members c) f ∙ length-members c

  count-map : (f : ℕ → A) (p : A → Bool) (ms : List ℕ) → count_by p (map f ms) ≡ count_by (λ m. p (f m)) ms
  count-map f p [] = refl
  count-map f p (m ∷ ms) =
      sum_by-cons (λ a. cond (p a) 1 0) (f m) (map f ms)
      ∙ ap (λ i. cond (p (f m)) 1 0 + i) (count-map f p ms)
      ∙ sym (sum_by-cons (λ k. cond (p (f k)) 1 0) m ms)

  pub count_as_members : SlotsCountAsMembers A
  count_as_members c f passes = count-map f passes (members c)

  -- two functions that differ at m alone, over members below m
  same_below : (f g : ℕ → A) (m c : ℕ) → ((k : ℕ) → (k ≡ m → ⊥) → g k ≡ f k) → c < m → map f (members c) ≡ map g (members c)
  same_below f g m zero other l = refl
  same_below f g m (suc c) other l =
      let before : map f (members c) ≡ map g (members c) = same_below f g m c other (omega arith) in
      let here : g (suc c) ≡ f (suc c) = other (suc c) (λ e. omega arith) in
      map-append f (members c) (suc c ∷ []) ∙ rw (before, ← here) (sym (map-append g (members c) (suc c ∷ [])))

  pub one_changes : OneSlotChanges A
  one_changes zero m f g i other = absurd (let low : 1 ≤ m = i.0 in let high : m ≤ 0 = i.1 in omega arith)
  one_changes (suc c) m f g i other = go (m == suc c) refl (λ h. one_changes c m f g h other)
    where
      low : 1 ≤ m
      low = i.0

      high : m ≤ suc c
      high = i.1

      many : length (map f (members c)) ≡ c
      many = slot_for_each c f

      go : (b : Bool) → (m == suc c) ≡ b → (IsMember c m → set (map f (members c)) (m - 1) (g m) ≡ map g (members c)) → set (map f (members (suc c))) (m - 1) (g m) ≡ map g (members (suc c))
      go true e rest =
          let last : m ≡ suc c = eqb-true m (suc c) e in
          let place : m - 1 ≡ length (map f (members c)) = omega (arith, many, last) in
          ap (λ xs. set xs (m - 1) (g m)) (map-append f (members c) (suc c ∷ []))
          ∙ ap (λ k. set (map f (members c) ++ f (suc c) ∷ []) k (g m)) place
          ∙ set-append_seam (map f (members c)) (f (suc c)) [] (g m)
          ∙ ap (λ xs. xs ++ g m ∷ []) (same_below f g m c other (omega (arith, last)))
          ∙ ap (λ k. map g (members c) ++ g k ∷ []) last
          ∙ sym (map-append g (members c) (suc c ∷ []))
      go false e rest =
          let before : m ≡ suc c → ⊥ = eqb-false m (suc c) e in
          let within : m ≤ c = omega (arith, before, high) in
          let place : m - 1 < length (map f (members c)) = omega (arith, many, within, low) in
          let here : g (suc c) ≡ f (suc c) = other (suc c) (λ k. before (sym k)) in
          ap (λ xs. set xs (m - 1) (g m)) (map-append f (members c) (suc c ∷ []))
          ∙ set-append_left (map f (members c)) (f (suc c) ∷ []) (m - 1) (g m) place
          ∙ ap (λ xs. xs ++ f (suc c) ∷ []) (rest (low, within))
          ∙ ap (λ y. map g (members c) ++ y ∷ []) (sym here)
          ∙ sym (map-append g (members c) (suc c ∷ []))

  pub holds_its_value : SlotHoldsItsValue A
  holds_its_value c m f other i =
      let low : 1 ≤ m = i.0 in
      let high : m ≤ c = i.1 in
      let many : length (map f (members c)) ≡ c = slot_for_each c f in
      ap (λ xs. get_or xs (m - 1) other) (sym (one_changes c m f f i (λ k e. refl))) ∙ get_or-set_same (map f (members c)) (m - 1) (f m) other (omega (arith, many, low, high))
