-- What passes over a wire, in order, as far as that is known.
use Rattle.std.specs.Prelude.{◌≡◌, ◌↔◌, ℕ, List, [], ◌∷◌, ◌++◌}

-- a datagram came, or was asked to be sent to a member; or the clock told a moment
pub data Passed : Type 0 where
  came : (bytes : List ℕ) → Passed
  sent : (to : ℕ) (bytes : List ℕ) → Passed
  told : (moment : ℕ) → Passed

-- what a wire tells of what has passed over it: nothing; or all of it, in order; or which datagrams it lets in, and that all that waits in
-- it was let in
pub data Trace : Type 1 where
  untold : Trace
  listed : (passed : List Passed) → Trace
  guarded : (Is : List ℕ → Type 0) (clean : Type 0) → Trace

-- each datagram that came is such
abbrev pub AllCame : (List ℕ → Type 0) → List Passed → Type 0
AllCame Is [] = Unit {0}
AllCame Is (came bytes ∷ rest) = Is bytes × AllCame Is rest
AllCame Is (sent to bytes ∷ rest) = AllCame Is rest
AllCame Is (told moment ∷ rest) = AllCame Is rest

-- what is let in stays the same; and where all that waited was let in, so was each datagram that came, and so is all that waits now
pub record Guards (Is Is' : List ℕ → Type 0) (clean clean' : Type 0) (more : List Passed) : Type 0 where
  pub alike : (bytes : List ℕ) → Is' bytes ↔ Is bytes
  pub stays : clean → clean'
  pub came : clean → AllCame Is more

-- these have passed since, and nothing else, as far as the wire tells
abbrev pub Passes : Trace → Trace → List Passed → Type 0
Passes untold new more = Unit {0}
Passes (listed old) untold more = ⊥
Passes (listed old) (listed new) more = new ≡ old ++ more
Passes (listed old) (guarded Is clean) more = ⊥
Passes (guarded Is clean) untold more = ⊥
Passes (guarded Is clean) (listed new) more = ⊥
Passes (guarded Is clean) (guarded Is' clean') more = Guards Is Is' clean clean' more
