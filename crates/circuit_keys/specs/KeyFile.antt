-- The file of shared keys.
use Rattle.std.specs.Prelude.{ℕ, ◌-◌, List, length, take, drop, slice_index, ◌==◌, ◌&&◌, nat_lt, Option, Some, None, option_map, option_and_then, if◌then◌else◌}
use Rattle.std.specs.Result.{result_ok}
use Rattle.hex.specs.Hex.{decode_sized}
use Rattle.circuit_keys.specs.declared.key_file.SharedKeys.{SharedKeys}

-- the key of 64 hexadecimal digits
abbrev pub key_in : List ℕ → Option (List ℕ)
key_in line = result_ok (decode_sized line 32)

-- without the end of its last line
abbrev pub without_end : List ℕ → List ℕ
without_end text = if nat_lt 0 (length text) && (slice_index text (length text - 1) == 10) then take (length text - 1) text else text

-- the keys of one line
abbrev pub one_key : List ℕ → Option SharedKeys
one_key line = option_map (λ key. record { first = key; second = None }) (key_in line)

-- the keys of two lines
abbrev pub two_keys : List ℕ → List ℕ → Option SharedKeys
two_keys line other =
    option_and_then (λ key. option_map (λ more. record { first = key; second = Some more }) (key_in other)) (key_in line)

-- the keys of lines without the end of the last
abbrev pub keys_of_lines : List ℕ → Option SharedKeys
keys_of_lines text =
    if length text == 64 then one_key text else
    if (length text == 129) && (slice_index text 64 == 10) then two_keys (take 64 text) (drop 65 text) else None

-- the keys of a file
abbrev pub keys_in : List ℕ → Option SharedKeys
keys_in text = keys_of_lines (without_end text)
