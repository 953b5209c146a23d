-- A range of numbers that an editor asked for: what was answered, what is searched, and what is searched next.
use Rattle.std.specs.Prelude.{◌≡◌, ◌≤◌, ◌<◌, ◌+◌, ◌⊎◌, ℕ, Bool, true, false, ◌&&◌, not, nat_le, List, [], ◌∷◌, ◌++◌, length, Option, Some, None, if◌then◌else◌}
use Rattle.protocol.specs.Limits.{last_number}
use Rattle.gone_out.specs.Numbers.{has}
use Rattle.by_hand.specs.declared.answer.SearchEnd.{SearchEnd}
use Rattle.by_hand.specs.declared.answer.SearchEnd.TheVariants.{Nothing}
use Rattle.by_hand.specs.Answers.{answer_by, answer_after}
use Rattle.by_hand.specs.Lists.{is_among, without}
use Rattle.by_hand.specs.Scans.{IsOpenFrom}

-- the range; which of its numbers have an answer, and which are tapes or withdrawn; whose searches are under way, in the order in which
-- they were begun; and from which number on the next is looked for
pub record HandValue : Type 0 where
  pub first : ℕ
  pub last : ℕ
  pub answered : List Bool
  pub tapes : List Bool
  pub voids : List Bool
  pub flying : List ℕ
  pub next : ℕ

-- the number is one of the range
abbrev pub covers : HandValue → ℕ → Bool
covers h n = nat_le h.first n && nat_le n h.last

-- what came of a number so far
abbrev pub answer_of : HandValue → ℕ → SearchEnd
answer_of h n = answer_by (has h.tapes n) (has h.voids n)

-- each number of the range has an answer
abbrev pub IsDone : HandValue → Type 0
IsDone h = (n : ℕ) → covers h n ≡ true → has h.answered n ≡ true

-- the number waits for a search: it is one of the range, has no answer, and no search of it is under way
abbrev pub waits : HandValue → ℕ → Bool
waits h n = covers h n && not (has h.answered n) && not (is_among h.flying n)

-- no number waits
abbrev pub NoneWaits : HandValue → Type 0
NoneWaits h = (n : ℕ) → waits h n ≡ false

-- where a range ends that was asked for: where it says so, or else at the greatest number that the circuit has, and no earlier than it begins
abbrev pub EndsAt : List Bool → ℕ → Option ℕ → ℕ → Type 0
EndsAt flags first (Some last) end = end ≡ last
EndsAt flags first None end =
    (first ≤ end) × (end ≤ last_number) × ((n : ℕ) → end < n → n ≤ last_number → has flags n ≡ false) × (first < end → has flags end ≡ true)

-- a range as it begins: of the numbers that the circuit has not, there is nothing; of the others there is no answer yet
pub record IsBegun (from : ℕ) (to : Option ℕ) (flags : List Bool) (h : HandValue) : Type 0 where
  pub first : h.first ≡ from
  pub last : EndsAt flags from to h.last
  pub answered : (n : ℕ) → covers h n ≡ true → has h.answered n ≡ not (has flags n)
  pub answers : (n : ℕ) → answer_of h n ≡ Nothing
  pub flying : h.flying ≡ []
  pub next : h.next ≡ from

-- the number whose turn it is: the first that waits from the place of the next one on, or else the first that waits
pub record IsTurnOf (h : HandValue) (n : ℕ) : Type 0 where
  pub is_waiting : waits h n ≡ true
  pub rises : (m : ℕ) → h.next ≤ m → waits h m ≡ true → (h.next ≤ n) × (n ≤ m)
  pub anew : n < h.next → (m : ℕ) → waits h m ≡ true → n ≤ m

-- a search of a number is begun
abbrev pub begun : HandValue → ℕ → HandValue
begun h n = record h { flying = h.flying ++ n ∷ []; next = n + 1 }

-- what is searched next: the number whose turn it is, unless 8 are under way or none waits
abbrev pub IsNext : HandValue → HandValue → Option ℕ → Type 0
IsNext old new (Some n) = IsTurnOf old n × (length old.flying < 8) × (new ≡ begun old n)
IsNext old new None = ((8 ≤ length old.flying) ⊎ NoneWaits old) × (new ≡ old)

-- a search of a number is under way no longer, and the number has no answer of it
abbrev pub put_off : HandValue → ℕ → HandValue
put_off h n = if covers h n then record h { flying = without n h.flying } else h

-- a number of the range has an answer
pub record IsAnswered (old new : HandValue) (n : ℕ) (told : SearchEnd) : Type 0 where
  pub first : new.first ≡ old.first
  pub last : new.last ≡ old.last
  pub here : has new.answered n ≡ true
  pub others : (m : ℕ) → ¬ (m ≡ n) → has new.answered m ≡ has old.answered m
  pub answer : answer_of new n ≡ answer_after (answer_of old n) told
  pub answers : (m : ℕ) → ¬ (m ≡ n) → answer_of new m ≡ answer_of old m
  pub flying : new.flying ≡ without n old.flying
  pub next : new.next ≡ old.next

-- what came of a number is kept, and nothing else changes
pub record IsNoted (old new : HandValue) (n : ℕ) (told : SearchEnd) : Type 0 where
  pub same : new ≡ record old { tapes = new.tapes; voids = new.voids }
  pub answer : answer_of new n ≡ answer_after (answer_of old n) told
  pub answers : (m : ℕ) → ¬ (m ≡ n) → answer_of new m ≡ answer_of old m

-- a number has an answer and is searched no longer, and nothing else changes
pub record IsSettled (old new : HandValue) (n : ℕ) : Type 0 where
  pub same : new ≡ record old { answered = new.answered; flying = without n old.flying }
  pub here : has new.answered n ≡ true
  pub others : (m : ℕ) → ¬ (m ≡ n) → has new.answered m ≡ has old.answered m

-- what comes of an answer: nothing, where the number is none of the range
pub record IsTold (old new : HandValue) (n : ℕ) (told : SearchEnd) : Type 0 where
  pub within : covers old n ≡ true → IsAnswered old new n told
  pub outside : covers old n ≡ false → new ≡ old

-- the first number from one on that waits, if there is one
abbrev pub IsFirstWaiting : HandValue → ℕ → Option ℕ → Type 0
IsFirstWaiting h start None = (m : ℕ) → start ≤ m → waits h m ≡ false
IsFirstWaiting h start (Some n) = (start ≤ n) × (waits h n ≡ true) × ((m : ℕ) → start ≤ m → m < n → waits h m ≡ false)

-- a range that is looked after: its first number without an answer is known, and where it idles no number waits
pub record IsHand (h : HandValue) (low : ℕ) (is_idle : Bool) : Type 0 where
  pub first_open : IsOpenFrom h.answered h.first h.last low
  pub idle : is_idle ≡ true → NoneWaits h
  pub first_low : 1 ≤ h.first
  pub next_low : 1 ≤ h.next
  pub next_high : h.next ≤ last_number + 1
