-- Which numbers of a page have a vote: a bit for each.
use Rattle.std.specs.Prelude.{◌≡◌, ◌<◌, ℕ, zero, suc, ◌+◌, ◌/◌, ◌%◌, Bool, true, false, not, ◌&&◌, ◌==◌, List, [], ◌∷◌, length, drop, slice_index, if◌then◌else◌}
use Rattle.std.specs.Int.{bit_at}
use Rattle.protocol.specs.Limits.{is_number}
use Rattle.packets.specs.Grammar.{IsBytes}
use Rattle.rolls.specs.Pages.{pages, page_numbers, page_bytes, page_of, place_of, number_on}

-- the page, and its bits in bytes
pub record Votes : Type 0 where
  pub page : ℕ
  pub bytes : List ℕ

-- the bit of a place, counted from the lowest of the first byte
abbrev pub bit_of : List ℕ → ℕ → Bool
bit_of bytes place = bit_at (slice_index bytes (place / 8)) (place % 8) == 1

-- the number lies on the page and has a vote
abbrev pub has_vote : Votes → ℕ → Bool
has_vote v n = page_of n == v.page && bit_of v.bytes (place_of n)

-- no bit is set that stands for no number
abbrev pub OnlyNumbers : Votes → Type 0
OnlyNumbers v = (place : ℕ) → place < page_numbers → is_number (number_on v.page place) ≡ false → bit_of v.bytes place ≡ false

-- a page, and a bit for each number of it
pub record AreVotes (v : Votes) : Type 0 where
  pub page : v.page < pages
  pub many : length v.bytes ≡ page_bytes
  pub small : IsBytes v.bytes
  pub only : OnlyNumbers v

-- how many of the places below one have a bit that is set
unfoldable pub set_below : List ℕ → ℕ → ℕ
set_below bytes zero = 0
set_below bytes (suc place) = set_below bytes place + (if bit_of bytes place then 1 else 0)

-- how many numbers have a vote
unfoldable pub how_many : Votes → ℕ
how_many v = set_below v.bytes page_numbers

-- all bytes are 0
abbrev pub are_zero : List ℕ → Bool
are_zero [] = true
are_zero (b ∷ bytes) = b == 0 && are_zero bytes

-- no bit is set that stands for no number: the first one of the first page, and those behind the last number
unfoldable pub only_numbers : ℕ → List ℕ → Bool
only_numbers page bytes = if page == 0 then not (bit_of bytes 0) else if page == 122 then are_zero (drop 72 bytes) else true
