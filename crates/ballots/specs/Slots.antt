-- Lists with a slot for each member of a circuit, in rising order: what f gives of member m stands at m - 1.
use Rattle.std.specs.Prelude.{◌≡◌, ℕ, ◌-◌, Bool, length, map, count_by, slice_index_or, slice_set}
use Rattle.protocol.specs.Ballots.{IsMember, members}

-- there are as many slots as members
abbrev pub SlotForEachMember : Type 0 → Type 0
SlotForEachMember A = (c : ℕ) (f : ℕ → A) → length (map f (members c)) ≡ c

-- reading the slot of a member gives the member's value
abbrev pub SlotHoldsItsValue : Type 0 → Type 0
SlotHoldsItsValue A = (c m : ℕ) (f : ℕ → A) (other : A) → IsMember c m → slice_index_or (map f (members c)) (m - 1) other ≡ f m

-- setting the slot of a member gives the list in which the value of that member alone has changed
abbrev pub OneSlotChanges : Type 0 → Type 0
OneSlotChanges A =
    (c m : ℕ) (f g : ℕ → A) → IsMember c m → ((k : ℕ) → (k ≡ m → ⊥) → g k ≡ f k)
    → slice_set (map f (members c)) (m - 1) (g m) ≡ map g (members c)

-- as many slots pass a test as members whose value passes it
abbrev pub SlotsCountAsMembers : Type 0 → Type 0
SlotsCountAsMembers A = (c : ℕ) (f : ℕ → A) (passes : A → Bool) → count_by passes (map f (members c)) ≡ count_by (λ m. passes (f m)) (members c)
