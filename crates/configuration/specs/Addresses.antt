-- The numbers and the IP address of a station, as an entry of a TOML document has them.
use Rattle.std.specs.Prelude.{◌≡◌, ◌<◌, ℕ, List, [], ◌∷◌, map, length, Bool, Option, Some, None, nat_le, ◌==◌, ◌&&◌, if◌then◌else◌}
use Rattle.std.specs.Char.{is_ascii_digit}
use Rattle.std.specs.List.{list_all, slice_split}
use Rattle.std.specs.Str.Parse.{digits_value}
use Rattle.toml.specs.Data.{Data, Members, get_member, as_integer, as_str}
use Rattle.configuration.specs.Keys.{in_range}

-- one step after another, as long as there is a value
infixl 10 ◌>>=◌
abbrev pub ◌>>=◌ : {A B : Type 0} → Option A → (A → Option B) → Option B
(Some x) >>= f = f x
None >>= f = None

-- a decimal number of one to three digits, 0 to 255
unfoldable pub octet_of : List ℕ → Option ℕ
octet_of text =
    if list_all is_ascii_digit text && (nat_le 1 (length text) && (nat_le (length text) 3 && nat_le (digits_value 10 text) 255))
    then Some (digits_value 10 text)
    else None

-- four numbers, where there are four and each is one
abbrev pub four : List (Option ℕ) → Option (List ℕ)
four (first ∷ second ∷ third ∷ fourth ∷ []) = do
  a ← first
  b ← second
  c ← third
  d ← fourth
  Some (a ∷ b ∷ c ∷ d ∷ [])
four _ = None

-- the byte `.`
abbrev pub is_dot : ℕ → Bool
is_dot byte = byte == 46

-- there is no dot in the text
abbrev pub HasNoDot : List ℕ → Type 0
HasNoDot text = slice_split is_dot text ≡ text ∷ []

-- the text is these two, with its first dot between
abbrev pub SplitsAtDot : List ℕ → List ℕ → List ℕ → Type 0
SplitsAtDot text first rest = slice_split is_dot text ≡ first ∷ slice_split is_dot rest

-- the dots of the text part fewer than four
abbrev pub HasFewParts : List ℕ → Type 0
HasFewParts text = length (slice_split is_dot text) < 4

-- the text is these four, with its first three dots between
abbrev pub SplitsAtDots : List ℕ → List ℕ → List ℕ → List ℕ → List ℕ → Type 0
SplitsAtDots text first second third rest = slice_split is_dot text ≡ first ∷ second ∷ third ∷ slice_split is_dot rest

-- the numbers of an IP address: four, with dots between
unfoldable pub ip_of : List ℕ → Option (List ℕ)
ip_of text = four (map octet_of (slice_split is_dot text))

-- the whole number at a key of an entry, from the least to the most
unfoldable pub number_in : List ℕ → ℕ → ℕ → Members → Option ℕ
number_in key least most entry = do
  value ← get_member key entry
  number ← as_integer value
  in_range least most number

-- the IP address that a value spells
unfoldable pub spelled_ip : Data → Option (List ℕ)
spelled_ip value = do
  text ← as_str value
  ip_of text
