-- Which steps a circuit has: those of its members, and the delivery to a member of what was sent.
use Rattle.std.specs.Prelude.{◌≡◌, ℕ, suc, List, ◌∷◌, ◌++◌, length, None}
use Rattle.protocol.specs.Ballots.{IsMember}
use Rattle.protocol.specs.Circuit.{Datagram, Step, Offers, Seeks, Falls_due, Delivers, Restarts, Upgrades, Balks, Recalls, missing}

-- the datagram was sent as the k-th, from 1
abbrev pub WasSentAs : List Datagram → ℕ → Datagram → Type 0
WasSentAs sent k d = (before : List Datagram) × (after : List Datagram) × (sent ≡ before ++ d ∷ after) × (k ≡ suc (length before))

-- who takes the step is a member of the circuit; of a delivery, the datagram was sent, and its addressee is a member
abbrev pub HasStep : ℕ → List Datagram → Step → Type 0
HasStep c sent (Offers m n entry now) = IsMember c m
HasStep c sent (Seeks m n now) = IsMember c m
HasStep c sent (Falls_due m now) = IsMember c m
HasStep c sent (Delivers k now) = (d : Datagram) × WasSentAs sent k d × IsMember c d.to
HasStep c sent (Restarts m) = IsMember c m
HasStep c sent (Upgrades m) = IsMember c m
HasStep c sent (Balks m saved) = IsMember c m
HasStep c sent (Recalls m n to) = IsMember c m

-- nothing is missing exactly where the circuit has the step
abbrev pub MissingIsExact : Type 0
MissingIsExact = (c : ℕ) (sent : List Datagram) (s : Step) → (missing c sent s ≡ None → HasStep c sent s) × (HasStep c sent s → missing c sent s ≡ None)
