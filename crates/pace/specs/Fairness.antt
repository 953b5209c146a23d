-- No kind of work starves, over any sequence of turns.
use Rattle.std.specs.Prelude.{◌≡◌, ◌≤◌, ◌⊎◌, ℕ, ◌+◌, Bool, true, false, not, List, [], ◌∷◌, length, if◌then◌else◌}
use Rattle.pace.specs.declared.turns.Done.{Done}
use Rattle.pace.specs.declared.turns.Done.TheVariants as dones
use Rattle.pace.specs.declared.turns.Sight.{Sight}
use Rattle.pace.specs.declared.turns.Work.{Work}
use Rattle.pace.specs.declared.turns.Work.TheVariants as works
use Rattle.pace.specs.Order.{Counts, has_rested, has_deed, next_work, after_work}

-- a turn: what was found, what was done, and when that ended
pub record Turn : Type 0 where
  pub sight : Sight
  pub done : Done
  pub moment : ℕ

-- this was done of that work; a datagram that came while it was waited was taken in at once
abbrev pub carries_out : Work → Done → Bool
carries_out works.Look dones.Looked = true
carries_out works.TakeIn dones.TookIn = true
carries_out works.Due dones.SawOne = true
carries_out works.Due dones.SawNothing = true
carries_out (works.Deed asks) dones.DidDeed = true
carries_out works.Wait dones.Waited = true
carries_out works.Wait dones.TookIn = true
carries_out work done = false

-- in each turn the work was done that came next, from these counts on; what was found, and how long each took, is left open
abbrev pub Follow : Counts → List Turn → Type 0
Follow c [] = Unit {0}
Follow c (t ∷ ts) = (carries_out (next_work c t.sight) t.done ≡ true) × Follow (after_work c t.done t.moment) ts

-- the test holds of each turn
abbrev pub Each : (Turn → Bool) → List Turn → Type 0
Each p [] = Unit {0}
Each p (t ∷ ts) = (p t ≡ true) × Each p ts

-- what is due was seen to
abbrev pub sees_due : Done → Bool
sees_due dones.SawOne = true
sees_due dones.SawNothing = true
sees_due done = false

-- a deed was done with a file
abbrev pub does_deed : Done → Bool
does_deed dones.DidDeed = true
does_deed done = false

-- a datagram was taken in
abbrev pub takes_in : Done → Bool
takes_in dones.TookIn = true
takes_in done = false

-- how many datagrams were taken in
abbrev pub taken_in : List Turn → ℕ
taken_in [] = 0
taken_in (t ∷ ts) = (if takes_in t.done then 1 else 0) + taken_in ts

-- counts as a station has them
abbrev pub AreCounts : Counts → Type 0
AreCounts c = (c.since_due ≤ 64) × (c.since_deed ≤ 16)

-- turns in which what is due is not seen to are at most 291, and take in at most 64 datagrams
abbrev pub DueNumbersAreSeenTo : Type 0
DueNumbersAreSeenTo =
    (c : Counts) (ts : List Turn) → AreCounts c → Follow c ts → Each (λ t. not (sees_due t.done)) ts
    → (length ts ≤ 291) × (taken_in ts ≤ 64)

-- turns in each of which there is a deed to do, and in none of which one is done, are at most 101, and take in at most 16 datagrams
abbrev pub DeedsAreDone : Type 0
DeedsAreDone =
    (c : Counts) (ts : List Turn) → AreCounts c → Follow c ts → Each (λ t. has_deed t.sight) ts → Each (λ t. not (does_deed t.done)) ts
    → (length ts ≤ 101) × (taken_in ts ≤ 16)

-- turns in each of which a datagram waits, and in none of which one is taken in, are at most 5
abbrev pub DatagramsAreTakenIn : Type 0
DatagramsAreTakenIn =
    (c : Counts) (ts : List Turn) → AreCounts c → Follow c ts → Each (λ t. t.sight.waits) ts → Each (λ t. not (takes_in t.done)) ts
    → length ts ≤ 5

-- of two turns one after the other, at both of which the pause since the last look is over, one is a look
abbrev pub LooksAreTaken : Type 0
LooksAreTaken =
    (c : Counts) (t u : Turn) → Follow c (t ∷ u ∷ []) → has_rested c.looked t.sight.now ≡ true → has_rested c.looked u.sight.now ≡ true
    → (t.done ≡ dones.Looked) ⊎ (u.done ≡ dones.Looked)
