-- Names as the log shows them.
use Rattle.std.specs.Prelude.{ℕ, List, [], ◌∷◌, ◌==◌, ◌&&◌, nat_le, if◌then◌else◌, flat_map}
use Rattle.hex.specs.Hex.{encode_lower}

-- a byte in hex: a backslash, an `x` and two digits
abbrev pub hex_shown : ℕ → List ℕ
hex_shown b = 92 ∷ 120 ∷ encode_lower (b ∷ [])

-- a byte as the log shows it: a line feed as a backslash and an `n`, a backslash twice, a printable character of ASCII as it is, any other in hex
abbrev pub shown : ℕ → List ℕ
shown b =
    if b == 10 then 92 ∷ 110 ∷ [] else
    if b == 92 then 92 ∷ 92 ∷ [] else
    if nat_le 32 b && nat_le b 126 then b ∷ [] else hex_shown b

-- a name as the log shows it, byte by byte
abbrev pub shown_name : List ℕ → List ℕ
shown_name name = flat_map shown name
