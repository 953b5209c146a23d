-- A log that holds no frame, as it is replaced by a new one: each moment leaves a log of which nothing is taken.
use Rattle.std.proofs.Common.{◌≡◌, ℕ, ◌+◌, ◌<◌, ◌≤◌, true, false, ◌==◌, List, length, slice_index, take, sym, refl, ◌∙◌, ap, inl, inr, arith}
use Rattle.std.proofs.lemmas.Bool.{cases_lt, and_from, eq-eqb, le-leb, ne_eqb}
use Rattle.std.proofs.lemmas.List.{get_or-take, length-take}
use Rattle.std.proofs.Math.Nat.{min-eq_left}
use Rattle.sqlite_disk.specs.Disk.{Torn, Cut}
use Rattle.sqlite_wal.specs.Format.{part, IsHeader}
use Rattle.sqlite_wal.specs.Recovery.{Passes, Replays, frame_at, frame, header}
use Rattle.sqlite_wal.proofs.PartLemmas.{slice_index-part, same_parts, frames_len-zero}
use Rattle.sqlite_wal.proofs.RecoveryLemmas.{last_at_invalid}
use Rattle.rows_files.specs.Found.{HoldsNoFrame}
use Rattle.rows_life.specs.Logs.{begins_frame, number_at}
use Rattle.rows_life.specs.Lives.{log_in}
use Rattle.rows_life.specs.Keeping.{IsNewLog}

-- the first frame, if the log is so long, does not have the header's salts, or there is no header
abbrev pub IsUnframed : List ℕ → Type 0
IsUnframed log = 56 ≤ length log → slice_index log 0 ≡ 0x37 → ((j : ℕ) → j < 8 → slice_index log (40 + j) ≡ slice_index log (16 + j)) → ⊥

short_is_ignored : (size : ℕ) (log : List ℕ) → length log ≤ 55 → Replays size log 0
short_is_ignored size log short = inl (inl (omega (arith, short)), refl)

-- what passes as the first frame has the header's salts
unframed_passes_none : (size : ℕ) (log : List ℕ) → slice_index log 0 ≡ 0x37 → IsUnframed log → ¬ Passes size log 0
unframed_passes_none size log first bare it =
    let zero' : frame_at size 0 ≡ 32 = omega (arith, frames_len-zero size) in
    let salt = it.passes.salt in
    bare (omega (arith, it.within, zero')) first (λ j low.
    let theirs : slice_index (part (header log) 16 8) j ≡ slice_index log (0 + (16 + j)) =
    slice_index-part (header log) 16 8 j low ∙ slice_index-part log 0 32 (16 + j) (omega (arith, low)) in
    let ours : slice_index (part (frame size log 0) 8 8) j ≡ slice_index log (frame_at size 0 + (8 + j)) =
    slice_index-part (frame size log 0) 8 8 j low ∙ slice_index-part log (frame_at size 0) (24 + size) (8 + j) (omega (arith, low)) in
    let here : frame_at size 0 + (8 + j) ≡ 40 + j = omega (arith, zero') in
    let there : 0 + (16 + j) ≡ 16 + j = omega arith in
    sym (ap (slice_index log) here) ∙ sym ours ∙ ap (λ (b : List ℕ). slice_index b j) salt ∙ theirs ∙ ap (slice_index log) there)

-- nothing is taken of a log with a header that holds no frame
none_behind : (size : ℕ) (log : List ℕ) → 32 < length log → IsHeader size (header log) → ¬ Passes size log 0 → Replays size log 0
none_behind size log long head none =
    inr (record { long = long; head = head; valid = λ i low. absurd (omega (arith, low)); commits = λ i last. absurd (omega (arith, last)) }, last_at_invalid size log 0 none)

same_header : (old new : List ℕ) → 32 ≤ length old → 32 ≤ length new → ((i : ℕ) → i < 32 → slice_index new i ≡ slice_index old i) → header new ≡ header old
same_header old new long still each =
    same_parts new old 0 0 32 (omega (arith, still)) (omega (arith, long)) (λ i low. let here : 0 + i ≡ i = omega arith in ap (slice_index new) here ∙ each i low ∙ sym (ap (slice_index old) here))

-- The log is cut within the head of a first frame, which the salts stand before.
pub bare_when_cut : (size : ℕ) (old new : List ℕ) → IsUnframed old → Cut 55 old new → Replays size old 0 → Replays size new 0
bare_when_cut size old new bare cut was = elim (cases_lt 55 (length new)) [
  | inr short ↦ short_is_ignored size new (omega (arith, short))
  | inl long ↦
      let was_long : 56 ≤ length old = omega (arith, long, cut.no_longer) in
      let same : (i : ℕ) → i < 55 → slice_index new i ≡ slice_index old i = λ i low. cut.below i (omega (arith, low, was_long)) low in
      let head : header new ≡ header old = same_header old new (omega (arith, was_long)) (omega (arith, long)) (λ i low. same i (omega (arith, low))) in
      elim was [
        | inl ignored ↦ elim ignored.0 [
          | inl short ↦ absurd (omega (arith, short, was_long))
          | inr unsigned ↦ inl (inr (λ signed. unsigned (rw (← head) signed)), refl)
        ]
        | inr taken ↦
            let now : IsHeader size (header new) = rw head taken.0.head in
            let first : slice_index new 0 ≡ 0x37 = sym (slice_index-part new 0 32 0 (omega arith)) ∙ now.signed.first in
            none_behind size new (omega (arith, long)) now
            (unframed_passes_none size new first (λ _ is salts.
            bare was_long (sym (same 0 (omega arith)) ∙ is) (λ j low.
            sym (same (40 + j) (omega (arith, low))) ∙ salts j low ∙ same (16 + j) (omega (arith, low)))))
      ]
]

-- What is written first is shorter than what is taken for a log.
pub bare_when_short : (size : ℕ) (old new : List ℕ) → length old ≤ 55 → Torn 0 55 old new → Replays size new 0
bare_when_short size old new short torn = short_is_ignored size new (omega (arith, torn.no_longer, short))

-- Then the last byte is, behind the header and the salts.
pub bare_when_made : (size : ℕ) (made old new : List ℕ) → IsNewLog size made → 512 ≤ size → length old ≡ 55
    → ((i : ℕ) → i < 55 → slice_index old i ≡ slice_index made i) → Torn 55 1 old new → Replays size new 0
bare_when_made size made old new is large len front torn = elim (cases_lt 55 (length new)) [
  | inr short ↦ short_is_ignored size new (omega (arith, short))
  | inl long ↦
      let head : header new ≡ header made = same_header made new (omega (arith, is.long)) (omega (arith, long))
      (λ i low. torn.below i (omega (arith, low, len)) (omega (arith, low)) ∙ front i (omega (arith, low))) in
      none_behind size new (omega (arith, long)) (rw head is.head)
      (λ it. omega (arith, it.within, frames_len-zero size, torn.no_longer, len, large))
]

-- ---- what a look at the log tells

pub unframed_when_blank : (log : List ℕ) → HoldsNoFrame (log_in log) → IsUnframed log
unframed_when_blank log held long first salts =
    let head = take 56 log in
    let len : length head ≡ 56 = length-take 56 log ∙ min-eq_left long in
    let byte : (i : ℕ) → i < 56 → slice_index head i ≡ slice_index log i = λ i low. get_or-take 56 log i 0 low in
    let pair : (j : ℕ) → j < 8 → slice_index head (40 + j) ≡ slice_index head (16 + j) =
    λ j low. byte (40 + j) (omega (arith, low)) ∙ salts j low ∙ sym (byte (16 + j) (omega (arith, low))) in
    let start : slice_index head 0 ≡ 0x37 = byte 0 (omega arith) ∙ first in
    let one : number_at head 40 ≡ number_at head 16 = omega (arith, pair 0 (omega arith), pair 1 (omega arith), pair 2 (omega arith), pair 3 (omega arith)) in
    let two : number_at head 44 ≡ number_at head 20 = omega (arith, pair 4 (omega arith), pair 5 (omega arith), pair 6 (omega arith), pair 7 (omega arith)) in
    let framed : begins_frame head ≡ true =
    and_from _ _ (le-leb 56 (length head) (omega (arith, len))) (and_from _ _ (eq-eqb _ _ start) (and_from _ _ (eq-eqb _ _ one) (eq-eqb _ _ two))) in
    let none : (length head == 0) ≡ false = ne_eqb _ _ (λ e. omega (arith, e, len)) in
    rw (none, framed) at held

-- a log of which something is taken has a frame
pub nothing_taken : (size : ℕ) (log : List ℕ) (k : ℕ) → IsUnframed log → Replays size log k → k ≡ 0
nothing_taken size log k bare (inl ignored) = ignored.1
nothing_taken size log k bare (inr taken) = elim (cases_lt 0 k) [
  | inr none ↦ omega (arith, none)
  | inl some ↦
      let first : slice_index log 0 ≡ 0x37 = sym (slice_index-part log 0 32 0 (omega arith)) ∙ taken.0.head.signed.first in
      absurd (unframed_passes_none size log first bare (record { within = (taken.0.valid 0 some).within; passes = (taken.0.valid 0 some).passes }))
]
