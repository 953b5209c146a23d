-- One entry of a code table, as a TOML document has it.
use Rattle.std.specs.Prelude.{ℕ, ℤ, pos, negsuc, List, Bool, codes, Option, Some, None, Result, Ok, Err, nat_le, not, option_map, if◌then◌else◌}
use Rattle.std.specs.Option.{option_and_then}
use Rattle.toml.specs.Data.{Data, Items, Members, get_member, as_integer, as_str, as_array, as_table}
use Rattle.code_table.specs.Texts.{meaning_of, may_stand}
use Rattle.code_table.specs.declared.entry.FrameMeanings.{FrameMeanings}
use Rattle.code_table.specs.declared.fault.TableFault.{TableFault}
use Rattle.code_table.specs.declared.fault.TableFault.TheVariants.{WrongType, BadFrame, DuplicateFrame, BadMeaning, CaseCodeDiffers}

-- one step after another, up to the first fault
infixl 10 ◌>>=◌
abbrev pub ◌>>=◌ : {A B : Type 0} → Result A TableFault → (A → Result B TableFault) → Result B TableFault
(Ok x) >>= f = f x
(Err e) >>= f = Err e

-- a value, or this fault where there is none
abbrev pub wanted : {A : Type 0} → TableFault → Option A → Result A TableFault
wanted fault None = Err fault
wanted fault (Some x) = Ok x

-- a test that has to hold, or this fault
abbrev pub holds : TableFault → Bool → Result (Unit {0}) TableFault
holds fault test = if test then Ok tt else Err fault

-- the three keys of an entry as they are written
pub record Keys : Type 0 where
  pub frame : ℤ
  pub unshift : List ℕ
  pub shift : List ℕ

-- the whole number at a key
unfoldable pub integer_at : List ℕ → Members → Option ℤ
integer_at key keys = option_and_then as_integer (get_member key keys)

-- the text at a key
unfoldable pub text_at : List ℕ → Members → Option (List ℕ)
text_at key keys = option_and_then as_str (get_member key keys)

-- the array at a key
unfoldable pub array_at : List ℕ → Members → Option Items
array_at key keys = option_and_then as_array (get_member key keys)

-- the three keys of a table, where all are there and of their types
unfoldable pub keys_in : Members → Option Keys
keys_in keys =
    option_and_then (λ frame.
    option_and_then (λ unshift.
    option_map (λ shift. record { frame = frame; unshift = unshift; shift = shift })
    (text_at (codes "shift") keys))
    (text_at (codes "unshift") keys))
    (integer_at (codes "frame") keys)

-- an entry as it is written, where it is a table with these keys
unfoldable pub keys_of : Data → Option Keys
keys_of code = option_and_then keys_in (as_table code)

-- a frame is 0 to 63
unfoldable pub frame_of : ℤ → Option ℕ
frame_of (pos n) = if nat_le n 63 then Some n else None
frame_of (negsuc n) = None

-- the frame of the entry at a place, where no earlier entry has taken it
unfoldable pub free_frame : (ℕ → Bool) → ℕ → ℤ → Result ℕ TableFault
free_frame is_taken place number = do
  frame ← wanted (BadFrame place) (frame_of number)
  free ← holds (DuplicateFrame place) (not (is_taken frame))
  Ok frame

-- the two columns of the entry at a place
unfoldable pub columns_of : ℕ → List ℕ → List ℕ → Result FrameMeanings TableFault
columns_of place unshift shift = do
  first ← wanted (BadMeaning place) (meaning_of unshift)
  second ← wanted (BadMeaning place) (meaning_of shift)
  agree ← holds (CaseCodeDiffers place) (may_stand first second)
  Ok (record { unshift = first; shift = second })

-- the entry at a place, counted from 1, and its frame, where no earlier entry has taken that; else its first fault
unfoldable pub read_entry : (ℕ → Bool) → ℕ → Data → Result (ℕ × FrameMeanings) TableFault
read_entry is_taken place code = do
  keys ← wanted (WrongType place) (keys_of code)
  frame ← free_frame is_taken place keys.frame
  entry ← columns_of place keys.unshift keys.shift
  Ok (frame, entry)
