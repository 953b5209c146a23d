-- A file that can be marked, beside a log that holds no frame, keeps no sums: the first page is the file's own, and says so.
use Rattle.std.proofs.Common.{◌≡◌, ◌==◌, ℕ, ◌<◌, ◌≤◌, List, slice_index, take, sym, refl, ◌∙◌, ap, inl, inr, arith}
use Rattle.std.proofs.lemmas.Bool.{cases_Bool, eqb-true}
use Rattle.std.proofs.lemmas.List.{get_or-take}
use Rattle.sqlite_wal.specs.Format.{be32}
use Rattle.sqlite_wal.specs.Recovery.{pages_after}
use Rattle.rows_files.specs.Found.{HoldsNoFrame, has_header, lists_nothing, mark_of}
use Rattle.rows_files.specs.declared.found.FoundFile.TheVariants.{Bare, Database, Foreign}
use Rattle.rows_files.specs.declared.found.Mark.{Mark}
use Rattle.rows_files.specs.declared.found.Mark.TheVariants.{Unmarkable}
use Rattle.rows_life.specs.Keeping.{KeepNoSums}
use Rattle.rows_life.specs.Lives.{file_in, log_in, BeginsWithBytes}
use Rattle.rows_life.proofs.KeepingLemmas.{first_by_file}
use Rattle.rows_life.proofs.RenewLemmas.{nothing_taken, unframed_when_blank}

-- a file that can be marked has 0 for the count of bytes that are kept for a sum
markable_says : (file : List ℕ) (mark : Mark) → file_in file ≡ Database mark → ¬ (mark ≡ Unmarkable) → slice_index file 20 ≡ 0
markable_says file mark is marks =
    let head = take 108 file in
    let byte : slice_index head 20 ≡ slice_index file 20 = get_or-take 108 file 20 0 (omega arith) in
    elim (cases_Bool (has_header head)) [
      | inr none ↦ (let e : Foreign ≡ Database mark = rw none at is in absurd cc)
      | inl header ↦ elim (cases_Bool (lists_nothing head)) [
        | inl bare ↦ (let e : Bare ≡ Database mark = rw (header, bare) at is in absurd cc)
        | inr lists ↦ (let e : Database (mark_of head) ≡ Database mark = rw (header, lists) at is in
            let same : mark_of head ≡ mark = cc in
            elim (cases_Bool (slice_index head 20 == 0)) [
              | inl none ↦ sym byte ∙ eqb-true _ _ none
              | inr some ↦ (let sums : mark_of head ≡ Unmarkable = rw some refl in absurd (marks (sym same ∙ sums)))
            ])
      ]
    ]

no_word : (first file : List ℕ) → ((i : ℕ) → i < 108 → slice_index first i ≡ slice_index file i) → slice_index file 20 ≡ 0 → BeginsWithBytes 108 file → 0x100_0000 ≤ be32 first 20 → ⊥
unfolding be32
no_word first file same zero' bytes word =
    omega (
      arith,
      word,
      zero',
      same 20 (omega arith),
      same 21 (omega arith),
      same 22 (omega arith),
      same 23 (omega arith),
      bytes 21 (omega arith),
      bytes 22 (omega arith),
      bytes 23 (omega arith),
    )

pub markable_keeps_none : (log file : List ℕ) (mark : Mark) → file_in file ≡ Database mark → ¬ (mark ≡ Unmarkable) → HoldsNoFrame (log_in log) → BeginsWithBytes 108 file
    → KeepNoSums (record { log = log; db = file })
markable_keeps_none log file mark is marks held bytes = record {
  none = λ it.
      let none : it.found.frames ≡ 0 = nothing_taken it.size log it.found.frames (unframed_when_blank log held) it.found.replays in
      let gives : pages_after it.size log file 0 ≡ it.pages = ap (pages_after it.size log file) (sym none) ∙ it.found.gives in
      let (long, byte) = first_by_file it.size log file it.pages it.database gives it.first it.is_first in
      no_word it.first file (λ i low. byte i (omega (arith, low, it.database.large))) (markable_says file mark is marks) bytes it.reserves;
}
