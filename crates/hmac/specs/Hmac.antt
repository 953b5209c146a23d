-- HMAC over SHA-256 (RFC 2104, section 2), as functions on lists of bytes. A block of SHA-256 has 64 bytes.
use Rattle.std.specs.Prelude.{ℕ, ◌-◌, List, ◌++◌, length, map, replicate, bit_xor, nat_lt, if◌then◌else◌}
use Rattle.sha2.specs.Sha256.{sha256}

-- the bytes, and zeros behind them up to a block
abbrev pub filled : List ℕ → List ℕ
filled bytes = bytes ++ replicate (64 - length bytes) 0

-- a key as a block: one that is longer is its digest
abbrev pub key_block : List ℕ → List ℕ
key_block key = if nat_lt 64 (length key) then filled (sha256 key) else filled key

-- the block, these bits of each byte changed
abbrev pub masked : ℕ → List ℕ → List ℕ
masked bits block = map (λ b. bit_xor b bits) block

-- the tag of a message under the key of this block
unfoldable pub hmac_of_block : List ℕ → List ℕ → List ℕ
hmac_of_block block message = sha256 (masked 0x5c block ++ sha256 (masked 0x36 block ++ message))

-- the tag of a message under a key
abbrev pub hmac_sha256 : List ℕ → List ℕ → List ℕ
hmac_sha256 key message = hmac_of_block (key_block key) message
