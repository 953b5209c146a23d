-- A mask as it is written: two hexadecimal digits behind `0x`.
use Rattle.std.specs.Prelude.{ℕ, ◌+◌, ◌-◌, ◌*◌, List, [], ◌∷◌, Option, Some, None, option_map, nat_le, ◌==◌, ◌&&◌, if◌then◌else◌}
use Rattle.std.specs.Option.{option_and_then}

-- the number of a hexadecimal digit
abbrev pub digit_of : ℕ → Option ℕ
digit_of byte =
    if nat_le 48 byte && nat_le byte 57 then Some (byte - 48) else
    if nat_le 65 byte && nat_le byte 70 then Some (byte - 55) else
    if nat_le 97 byte && nat_le byte 102 then Some (byte - 87) else None

-- the number of two digits
abbrev pub byte_of : Option ℕ → Option ℕ → Option ℕ
byte_of high low = option_and_then (λ h. option_map (λ l. 16 * h + l) low) high

-- the byte that a text writes
abbrev pub mask_of : List ℕ → Option ℕ
mask_of (first ∷ x ∷ high ∷ low ∷ []) = if first == 48 && (x == 120) then byte_of (digit_of high) (digit_of low) else None
mask_of _ = None
