-- Reading a recall from its front, with the first fault in the stated order.
use Rattle.std.specs.Prelude.{◌≡◌, ℕ, zero, suc, List, [], ◌∷◌, length, drop, slice_index, not, ◌&&◌, ◌==◌, Option, Some, None, Result, Ok, Err, nat_lt, nat_le, if◌then◌else◌}
use Rattle.protocol.specs.Limits.{is_number}
use Rattle.recalls.specs.Tickets.{u32_at, ticket_at}
use Rattle.recalls.specs.Recalls.{most_recalled, Recall, recall_of}
use Rattle.recalls.specs.declared.fault.RecallFault.{RecallFault}
use Rattle.recalls.specs.declared.fault.RecallFault.TheVariants.{Short, BadMark, BadVersion, BadKind, BadMember, BadCount, BadNumber, BadOrder, Long}

-- one step after another, up to the first fault
infixl 10 ◌>>=◌
abbrev pub ◌>>=◌ : {A B : Type 0} → Result A RecallFault → (A → Result B RecallFault) → Result B RecallFault
(Ok x) >>= f = f x
(Err e) >>= f = Err e

-- what a function returned, seen by view, is what reading gives
abbrev pub Seen : {X Y : Type 0} → (X → Y) → Result X RecallFault → Result Y RecallFault → Type 0
Seen view (Ok x) read = read ≡ Ok (view x)
Seen view (Err e) read = read ≡ Err e

-- a value, or this fault where there is none
abbrev pub wanted : {A : Type 0} → RecallFault → Option A → Result A RecallFault
wanted fault None = Err fault
wanted fault (Some x) = Ok x

-- the length, the mark, the version and the kind
unfoldable pub mark_at : List ℕ → Result (Unit {0}) RecallFault
mark_at bytes =
    if nat_lt (length bytes) 17 then Err Short else
    if not (slice_index bytes 0 == 84 && slice_index bytes 1 == 82) then Err BadMark else
    if not (slice_index bytes 2 == 1) then Err BadVersion else
    if not (slice_index bytes 3 == 1) then Err BadKind else Ok tt

-- how many numbers there are
unfoldable pub count_of : ℕ → Result ℕ RecallFault
count_of count = if nat_le 1 count && nat_le count most_recalled then Ok count else Err BadCount

-- a number that is above this one
unfoldable pub number_at : ℕ → List ℕ → Result ℕ RecallFault
number_at above bytes =
    if nat_lt (length bytes) 4 then Err Short else
    if not (is_number (u32_at bytes 0)) then Err BadNumber else
    if nat_le (u32_at bytes 0) above then Err BadOrder else Ok (u32_at bytes 0)

-- so many numbers, each above this one and the one before it, and what follows them
abbrev pub numbers_at : ℕ → ℕ → List ℕ → Result (List ℕ × List ℕ) RecallFault
numbers_at zero above bytes = Ok ([], bytes)
numbers_at (suc count) above bytes = number_at above bytes >>= λ n. numbers_at count n (drop 4 bytes) >>= λ rest. Ok (n ∷ rest.0, rest.1)

-- this, where no bytes follow
abbrev pub ends : {A : Type 0} → A → List ℕ → Result A RecallFault
ends x [] = Ok x
ends x (b ∷ bytes) = Err Long

-- the recall that the bytes spell, or their first fault
unfoldable pub recall_at : List ℕ → Result Recall RecallFault
recall_at bytes = do
  marked ← mark_at bytes
  ticket ← wanted BadMember (ticket_at bytes)
  count ← count_of (slice_index bytes 12)
  numbers ← numbers_at count 0 (drop 13 bytes)
  ends (recall_of ticket numbers.0) numbers.1
