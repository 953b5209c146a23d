-- Numbers of two and of four bytes.
use Rattle.std.proofs.Common.{◌≡◌, ℕ, zero, suc, ◌<◌, List, [], ◌∷◌, refl, sym, arith, lit<}
use Rattle.std.specs.Int.{w16, w32, from_be_bytes, to_be_bytes}
use Rattle.std.proofs.lemmas.Nat.{be_bytes_2, be_bytes_4}
use Rattle.packets.specs.Grammar.{IsBytes, SpellsTwo, SpellsFour}

two_fit : (b1 b0 : ℕ) → b1 < 256 → b0 < 256 → IsBytes (b1 ∷ b0 ∷ [])
two_fit b1 b0 h1 h0 zero = h1
two_fit b1 b0 h1 h0 (suc zero) = h0
two_fit b1 b0 h1 h0 (suc (suc i)) = lit< tt

four_fit : (b3 b2 b1 b0 : ℕ) → b3 < 256 → b2 < 256 → b1 < 256 → b0 < 256 → IsBytes (b3 ∷ b2 ∷ b1 ∷ b0 ∷ [])
four_fit b3 b2 b1 b0 h3 h2 h1 h0 zero = h3
four_fit b3 b2 b1 b0 h3 h2 h1 h0 (suc zero) = h2
four_fit b3 b2 b1 b0 h3 h2 h1 h0 (suc (suc zero)) = h1
four_fit b3 b2 b1 b0 h3 h2 h1 h0 (suc (suc (suc zero))) = h0
four_fit b3 b2 b1 b0 h3 h2 h1 h0 (suc (suc (suc (suc i)))) = lit< tt

-- the bytes of a number are those that are written
pub two_are : (bytes : List ℕ) (n : ℕ) → SpellsTwo bytes n → bytes ≡ to_be_bytes w16 n
two_are [] n h = absurd h
two_are (a ∷ []) n h = absurd h
two_are (b1 ∷ b0 ∷ []) n h =
    let h1 = h.0 in
    let h0 = h.1 in
    let e = h.2 in
    sym (be_bytes_2 (b1 ∷ b0 ∷ []) n refl (two_fit b1 b0 h1 h0) (omega (arith, e)))
two_are (a ∷ b ∷ c ∷ bytes) n h = absurd h

pub two_below : (bytes : List ℕ) (n : ℕ) → SpellsTwo bytes n → n < 65536
two_below [] n h = absurd h
two_below (a ∷ []) n h = absurd h
two_below (b1 ∷ b0 ∷ []) n h = omega (arith, h.0, h.1, h.2)
two_below (a ∷ b ∷ c ∷ bytes) n h = absurd h

pub four_are : (bytes : List ℕ) (n : ℕ) → SpellsFour bytes n → bytes ≡ to_be_bytes w32 n
four_are [] n h = absurd h
four_are (a ∷ []) n h = absurd h
four_are (a ∷ b ∷ []) n h = absurd h
four_are (a ∷ b ∷ c ∷ []) n h = absurd h
four_are (b3 ∷ b2 ∷ b1 ∷ b0 ∷ []) n h =
    let e = h.4 in
    sym (be_bytes_4 (b3 ∷ b2 ∷ b1 ∷ b0 ∷ []) n refl (four_fit b3 b2 b1 b0 h.0 h.1 h.2 h.3) (omega (arith, e)))
four_are (a ∷ b ∷ c ∷ d ∷ e ∷ bytes) n h = absurd h

pub four_below : (bytes : List ℕ) (n : ℕ) → SpellsFour bytes n → n < 4294967296
four_below [] n h = absurd h
four_below (a ∷ []) n h = absurd h
four_below (a ∷ b ∷ []) n h = absurd h
four_below (a ∷ b ∷ c ∷ []) n h = absurd h
four_below (b3 ∷ b2 ∷ b1 ∷ b0 ∷ []) n h = omega (arith, h.0, h.1, h.2, h.3, h.4)
four_below (a ∷ b ∷ c ∷ d ∷ e ∷ bytes) n h = absurd h

-- the bytes that are read spell what they are read as
pub two_read : (b1 b0 : ℕ) → b1 < 256 → b0 < 256 → SpellsTwo (b1 ∷ b0 ∷ []) (from_be_bytes w16 (b1 ∷ b0 ∷ []))
two_read b1 b0 h1 h0 = (h1, h0, omega arith)

pub four_read : (b3 b2 b1 b0 : ℕ) → b3 < 256 → b2 < 256 → b1 < 256 → b0 < 256 → SpellsFour (b3 ∷ b2 ∷ b1 ∷ b0 ∷ []) (from_be_bytes w32 (b3 ∷ b2 ∷ b1 ∷ b0 ∷ []))
four_read b3 b2 b1 b0 h3 h2 h1 h0 = (h3, h2, h1, h0, omega arith)

-- the bytes that are written spell the number
pub two_written : (n : ℕ) → n < 65536 → SpellsTwo (to_be_bytes w16 n) n
two_written n h = (omega arith, omega arith, omega arith)

pub four_written : (n : ℕ) → n < 4294967296 → SpellsFour (to_be_bytes w32 n) n
four_written n h = (omega arith, omega arith, omega arith, omega arith, omega arith)
