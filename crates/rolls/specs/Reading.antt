-- Reading a roll from its front, with the first fault in the stated order.
use Rattle.std.specs.Prelude.{◌≡◌, ℕ, zero, suc, List, [], ◌∷◌, length, take, drop, slice_index, not, ◌&&◌, ◌==◌, Option, Some, None, Result, Ok, Err, nat_lt, if◌then◌else◌}
use Rattle.recalls.specs.Tickets.{u16_at, ticket_at}
use Rattle.rolls.specs.Pages.{pages, page_bytes}
use Rattle.rolls.specs.Counts.{counts_fit}
use Rattle.rolls.specs.Votes.{Votes, are_zero, only_numbers}
use Rattle.rolls.specs.Kinds.{kind_of_byte, body_len}
use Rattle.rolls.specs.Rolls.{Body, CountsAsked, Counts, PageAsked, Page, Roll, roll_of}
use Rattle.rolls.specs.declared.body.RollKind.{RollKind}
use Rattle.rolls.specs.declared.body.RollKind.TheVariants as kinds
use Rattle.rolls.specs.declared.fault.RollFault.{RollFault}
use Rattle.rolls.specs.declared.fault.RollFault.TheVariants.{Short, BadMark, BadVersion, BadKind, BadMember, BadPage, BadPad, BadCount, BadBits, Long}

-- one step after another, up to the first fault
infixl 10 ◌>>=◌
abbrev pub ◌>>=◌ : {A B : Type 0} → Result A RollFault → (A → Result B RollFault) → Result B RollFault
(Ok x) >>= f = f x
(Err e) >>= f = Err e

-- what a function returned, seen by view, is what reading gives
abbrev pub Seen : {X Y : Type 0} → (X → Y) → Result X RollFault → Result Y RollFault → Type 0
Seen view (Ok x) read = read ≡ Ok (view x)
Seen view (Err e) read = read ≡ Err e

-- a value, or this fault where there is none
abbrev pub wanted : {A : Type 0} → RollFault → Option A → Result A RollFault
wanted fault None = Err fault
wanted fault (Some x) = Ok x

-- the length of a header, the mark and the version
unfoldable pub mark_at : List ℕ → Result (Unit {0}) RollFault
mark_at bytes =
    if nat_lt (length bytes) 12 then Err Short else
    if not (slice_index bytes 0 == 84 && slice_index bytes 1 == 82) then Err BadMark else
    if not (slice_index bytes 2 == 1) then Err BadVersion else Ok tt

-- the kind
unfoldable pub kind_at : List ℕ → Result RollKind RollFault
kind_at bytes = wanted BadKind (kind_of_byte (slice_index bytes 3))

-- so many numbers of two bytes
unfoldable pub counts_in : ℕ → List ℕ → List ℕ
counts_in zero bytes = []
counts_in (suc count) bytes = u16_at bytes 0 ∷ counts_in count (drop 2 bytes)

-- a count for each page, at most the numbers of the page
unfoldable pub counts_at : List ℕ → Result (List ℕ) RollFault
counts_at bytes = if counts_fit 0 (counts_in pages bytes) then Ok (counts_in pages bytes) else Err BadCount

-- a page
unfoldable pub page_at : List ℕ → Result ℕ RollFault
page_at bytes = if nat_lt (slice_index bytes 0) pages then Ok (slice_index bytes 0) else Err BadPage

-- so many bytes that are 0
unfoldable pub pad_at : ℕ → List ℕ → Result (Unit {0}) RollFault
pad_at count bytes = if are_zero (take count bytes) then Ok tt else Err BadPad

-- a page, and four bytes that are 0
unfoldable pub asked_page_at : List ℕ → Result ℕ RollFault
asked_page_at bytes = do
  page ← page_at bytes
  padded ← pad_at 4 (drop 1 bytes)
  Ok page

-- a page, and a bit for each of its numbers
unfoldable pub votes_at : List ℕ → Result Votes RollFault
votes_at bytes = do
  page ← page_at bytes
  if only_numbers page (take page_bytes (drop 1 bytes)) then Ok (record { page = page; bytes = take page_bytes (drop 1 bytes) }) else Err BadBits

-- what is told in a body of this kind
abbrev pub told_at : RollKind → List ℕ → Result Body RollFault
told_at kinds.CountsAsked bytes = pad_at 5 bytes >>= λ padded. Ok CountsAsked
told_at kinds.Counts bytes = counts_at bytes >>= λ counts. Ok (Counts counts)
told_at kinds.PageAsked bytes = asked_page_at bytes >>= λ page. Ok (PageAsked page)
told_at kinds.Page bytes = votes_at bytes >>= λ votes. Ok (Page votes.page votes.bytes)

-- the body of this kind that the bytes are
unfoldable pub body_at : RollKind → List ℕ → Result Body RollFault
body_at kind bytes =
    if nat_lt (length bytes) (body_len kind) then Err Short else
    told_at kind bytes >>= λ body. if nat_lt (body_len kind) (length bytes) then Err Long else Ok body

-- the roll that the bytes spell, or their first fault
unfoldable pub roll_at : List ℕ → Result Roll RollFault
roll_at bytes = do
  marked ← mark_at bytes
  kind ← kind_at bytes
  ticket ← wanted BadMember (ticket_at bytes)
  body ← body_at kind (drop 12 bytes)
  Ok (roll_of ticket body)
