-- Where a station listens, as a word names it.
use Rattle.std.specs.Prelude.{◌≡◌, ℕ, List, length, Bool, true, false, Some, None, ◌==◌, ◌&&◌, ◌||◌, nat_le, nat_lt, slice_index}
use Rattle.std.specs.Char.{is_ascii_alphabetic, is_ascii_alphanumeric}
use Rattle.std.specs.List.{list_all, list_any}
use Rattle.configuration.specs.Addresses.{ip_of}
use Rattle.init_command.specs.declared.place.StationHost.{StationHost}
use Rattle.init_command.specs.declared.place.StationHost.TheVariants.{Ip, Name}

-- a letter, a digit, `-`, `.` or `_`: each stands for itself between the quotes of a text of TOML
abbrev pub is_name_byte : ℕ → Bool
is_name_byte byte = ((is_ascii_alphanumeric byte || (byte == 45)) || (byte == 46)) || (byte == 95)

-- there is a letter in a word
abbrev pub has_letter : List ℕ → Bool
has_letter word = list_any is_ascii_alphabetic word

-- a word is the name of a host: 253 such bytes at most, and a letter among them, since without one it is an address with a mistake
abbrev pub is_name : List ℕ → Bool
is_name word = nat_le (length word) 253 && (list_all is_name_byte word && has_letter word)

-- the host of a word: four numbers are an IP address, and a name is the word itself
abbrev pub IsHostOf : List ℕ → StationHost → Type 0
IsHostOf word (Ip ip) = ip_of word ≡ Some ip
IsHostOf word (Name name) = (name.now ≡ word) × (is_name word ≡ true)

-- a word is neither
pub record IsNoHost (word : List ℕ) : Type 0 where
  pub ip : ip_of word ≡ None
  pub name : is_name word ≡ false

-- a host may have this first number of its address: 0 is of none, and so is 224 and above
abbrev pub is_first_of_a_host : ℕ → Bool
is_first_of_a_host first = nat_lt 0 first && nat_lt first 224

-- a host may have this address; of a name nothing is known before it is looked up
abbrev pub is_of_a_host : StationHost → Bool
is_of_a_host (Ip ip) = is_first_of_a_host (slice_index ip 0)
is_of_a_host (Name name) = true
