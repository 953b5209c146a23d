-- What holds of all tags.
use Rattle.std.specs.Prelude.{◌≡◌, ℕ, List, length}
use Rattle.hmac.specs.Hmac.{hmac_of_block}

-- a tag has 32 bytes
abbrev pub TagsHaveTheirLength : Type 0
TagsHaveTheirLength = (block message : List ℕ) → length (hmac_of_block block message) ≡ 32
