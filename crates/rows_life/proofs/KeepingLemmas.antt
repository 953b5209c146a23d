-- What the writes of a start and of an end leave of the pages.
use Rattle.std.proofs.Common.{◌≡◌, ◌≢◌, ℕ, zero, suc, ◌+◌, ◌-◌, ◌*◌, ◌/◌, ◌<◌, ◌≤◌, ◌&&◌, eqb, leb, List, length, slice_index, Some, None, sym, refl, ◌∙◌, ap, subst, inl, inr, arith, mul-le-mul_right, div-mul-le_self, false}
use Rattle.std.proofs.lemmas.Bool.{cases_eq, cases_Bool, cond-false, and_parts, leb-true}
use Rattle.sqlite_disk.specs.Disk.{Torn}
use Rattle.sqlite_wal.specs.Format.{part, page_number, content}
use Rattle.sqlite_wal.specs.Recovery.{Pages, Image, frame, file_page, page_count, page_after, pages_after}
use Rattle.sqlite_wal.proofs.PartLemmas.{slice_index-part, part_within, part_above, length-part}
use Rattle.sqlite_wal.proofs.AppendLemmas.{page_from_pages, some_value}
use Rattle.sqlite_wal.proofs.FileLemmas.{pages_inside}
use Rattle.rows_life.specs.Lives.{page_size_in}
use Rattle.rows_life.specs.Keeping.{SameButMark, SamePages, AreOfDatabase, HavePagesOf, KeepSums, StandFor}

-- ---- the mark

pub same_mark : (page : List ℕ) → SameButMark page page
same_mark page = record { len = refl; before = λ i _ _. refl; behind = λ i _ _. refl }

mark_then : (a b c : List ℕ) → SameButMark a b → SameButMark b c → SameButMark a c
mark_then a b c s t = record {
  len = t.len ∙ s.len;
  before = λ i low here. t.before i (omega (arith, s.len)) here ∙ s.before i low here;
  behind = λ i low here. t.behind i (omega (arith, s.len)) here ∙ s.behind i low here;
}

pub same_pages : (pages : Pages) → SamePages pages pages
same_pages pages = record { first = λ page is. (page, is, same_mark page); others = λ n _. refl }

pages_then : (a b c : Pages) → SamePages a b → SamePages b c → SamePages a c
pages_then a b c s t = record {
  first = λ page is.
      let (mid, at_mid, marked) = s.first page is in
      let (now, at_now, again) = t.first mid at_mid in
      (now, at_now, mark_then page mid now marked again);
  others = λ n other. t.others n other ∙ s.others n other;
}

-- the size that a page names is not in the mark
pub same_named : (a b : List ℕ) → 18 ≤ length a → SameButMark a b → page_size_in b ≡ page_size_in a
same_named a b long s =
    let first : slice_index b 16 ≡ slice_index a 16 = s.before 16 (omega (arith, long)) (omega arith) in
    let second : slice_index b 17 ≡ slice_index a 17 = s.before 17 (omega (arith, long)) (omega arith) in
    rw (first, second)

-- pages of a database that are marked are those of one
pub still_of_database : (size : ℕ) (pages now : Pages) → AreOfDatabase size pages → SamePages pages now → AreOfDatabase size now
still_of_database size pages now d s =
    let (first, is) = some_value (pages 1) d.whole.first in
    let (marked, at, same) = s.first first is in
    let len : length first ≡ size = d.whole.sized 1 first is in
    record {
      large = d.large;
      whole = record {
        first = rw at refl;
        sized = λ n bytes found. elim (cases_eq n 1) [
          | inl here ↦ (let e : Some marked ≡ Some bytes = sym at ∙ ap now (sym here) ∙ found in
              let same_bytes : marked ≡ bytes = cc in
              ap length (sym same_bytes) ∙ same.len ∙ len)
          | inr other ↦ d.whole.sized n bytes (sym (s.others n other) ∙ found)
        ];
      };
      named = λ page found.
          let e : Some marked ≡ Some page = sym at ∙ found in
          let same_bytes : marked ≡ page = cc in
          ap page_size_in (sym same_bytes) ∙ same_named first marked (omega (arith, len, d.large)) same ∙ d.named first is;
    }

pub stands_as_it_was : (image : Image) → HavePagesOf image image
stands_as_it_was image size pages d found = (pages, same_pages pages, found)

pub stands_then : (a b c : Image) → HavePagesOf a b → HavePagesOf b c → HavePagesOf a c
stands_then a b c s t size pages d found =
    let (mid, same, there) = s size pages d found in
    let (now, again, here) = t size mid (still_of_database size pages mid d same) there in
    (now, pages_then pages mid now same again, here)

-- files that were not changed stand for what they stand for
pub stands_still : (image : Image) → StandFor image image
stands_still image = record { pages = stands_as_it_was image; sums = λ it. refl }

-- so do files after one step more
pub stands_on : (a b c : Image) → StandFor a b → StandFor b c → StandFor a c
stands_on a b c s t = record {
  pages = stands_then a b c s.pages t.pages;
  sums = λ it. let same : b ≡ a = s.sums it in t.sums (subst KeepSums (sym same) it) ∙ same;
}

-- ---- a write of the mark

past_first : (n size : ℕ) → 1 < n → size ≤ (n - 1) * size
past_first n size two =
    let one : 1 ≤ n - 1 = omega (arith, two) in
    omega (arith, mul-le-mul_right size one)

has_a_page : (n size : ℕ) → 1 ≤ n / size → size ≤ n
has_a_page n size one = omega (arith, mul-le-mul_right size one, div-mul-le_self n size)

pages_outside : (size : ℕ) (log db : List ℕ) (k n : ℕ) → (leb 1 n && leb n (page_count size log db k)) ≡ false → pages_after size log db k n ≡ None
unfolding pages_after
pages_outside size log db k n outside = cond-false (leb 1 n && leb n (page_count size log db k)) _ _ outside

-- a page of the file, whole, before and after a write of the mark
module _ (size : ℕ) (large : 512 ≤ size) (log old new : List ℕ) (torn : Torn 60 4 old new) where
  first_marked : length (file_page size old 1) ≡ size → SameButMark (file_page size old 1) (file_page size new 1)
  first_marked whole =
      let start : (1 - 1) * size ≡ 0 = omega arith in
      let old_is : file_page size old 1 ≡ part old 0 size = ap (λ (at : ℕ). part old at size) start in
      let new_is : file_page size new 1 ≡ part new 0 size = ap (λ (at : ℕ). part new at size) start in
      let within : 0 + size ≤ length old = part_within old 0 size (omega (arith, large)) (ap length (sym old_is) ∙ whole) in
      let len : length (part new 0 size) ≡ size = length-part new 0 size (omega (arith, within, torn.no_shorter)) in
      let was : (i : ℕ) → i < size → slice_index (part old 0 size) i ≡ slice_index old (0 + i) = λ i low. slice_index-part old 0 size i low in
      let is : (i : ℕ) → i < size → slice_index (part new 0 size) i ≡ slice_index new (0 + i) = λ i low. slice_index-part new 0 size i low in
      rw (old_is, new_is) (record {
        len = len ∙ sym whole ∙ ap length old_is;
        before = λ i low here. let inside : i < size = omega (arith, low, whole, ap length old_is) in
            is i inside ∙ torn.below (0 + i) (omega (arith, within, inside)) (omega (arith, here)) ∙ sym (was i inside);
        behind = λ i low here. let inside : i < size = omega (arith, low, whole, ap length old_is) in
            is i inside ∙ torn.above (0 + i) (omega (arith, within, inside)) (omega (arith, here)) ∙ sym (was i inside);
      })

  other_kept : (n : ℕ) → 1 ≤ n → n ≢ 1 → length (file_page size old n) ≡ size → file_page size new n ≡ file_page size old n
  other_kept n some other whole =
      let past : size ≤ (n - 1) * size = past_first n size (omega (arith, some, other)) in
      part_above old new 60 4 ((n - 1) * size) size torn (omega (arith, past, large)) (part_within old ((n - 1) * size) size (omega (arith, large)) whole)

  -- the same of a page that the log may have
  first_after : (k : ℕ) → length (page_after size log old 1 k) ≡ size → SameButMark (page_after size log old 1 k) (page_after size log new 1 k)
  first_after zero whole = first_marked whole
  first_after (suc i) whole =
      elim (cases_Bool (eqb (page_number (frame size log i)) 1)) [
        | inl here ↦ rw here (same_mark (content (frame size log i)))
        | inr other ↦ rw other (first_after i (rw other at whole))
      ]

  other_after : (n : ℕ) → 1 ≤ n → n ≢ 1 → (k : ℕ) → length (page_after size log old n k) ≡ size → page_after size log new n k ≡ page_after size log old n k
  other_after n some other zero whole = other_kept n some other whole
  other_after n some other (suc i) whole =
      elim (cases_Bool (eqb (page_number (frame size log i)) n)) [
        | inl here ↦ rw here refl
        | inr apart ↦ rw apart (other_after n some other i (rw apart at whole))
      ]

  same_count : (k : ℕ) → 1 ≤ page_count size log old k → page_count size log new k ≡ page_count size log old k
  same_count (suc i) some = refl
  same_count zero some =
      let long : size ≤ length old = has_a_page (length old) size some in
      let len : length new ≡ length old = omega (arith, torn.no_shorter, torn.no_longer, long, large) in
      ap (λ (n : ℕ). n / size) len

-- a write of the mark, whole or torn, leaves what the two stand for
pub stands_marked : (log old new : List ℕ) → Torn 60 4 old new → HavePagesOf (record { log = log; db = old }) (record { log = log; db = new })
stands_marked log old new torn size pages d found =
    let k = found.frames in
    let is : pages_after size log old k ≡ pages = found.gives in
    let at = λ (n : ℕ) (page : List ℕ) (some : pages n ≡ Some page). page_from_pages size log old k n page (ap (λ (p : Pages). p n) is ∙ some) in
    let (first, has) = some_value (pages 1) d.whole.first in
    let one = at 1 first has in
    let count = same_count size d.large log old new torn k one.2 in
    let some : (n : ℕ) → 1 ≤ n → n ≤ page_count size log old k → pages_after size log new k n ≡ Some (page_after size log new n k) =
    λ n low high. pages_inside size log new k n low (omega (arith, count, high)) in
    let whole : (n : ℕ) (page : List ℕ) → pages n ≡ Some page → length (page_after size log old n k) ≡ size =
    λ n page has_it. ap length (at n page has_it).0 ∙ d.whole.sized n page has_it in (
      pages_after size log new k,
      record {
        first = λ page has_it.
            let from = at 1 page has_it in (
              page_after size log new 1 k,
              some 1 (omega arith) from.2,
              subst (λ (p : List ℕ). SameButMark p (page_after size log new 1 k)) from.0 (first_after size d.large log old new torn k (whole 1 page has_it)),
            );
        others = λ n other. elim (cases_Bool (leb 1 n && leb n (page_count size log old k))) [
          | inl inside ↦
              let both = and_parts _ _ inside in
              let low : 1 ≤ n = leb-true _ _ both.0 in
              let high : n ≤ page_count size log old k = leb-true _ _ both.1 in
              let was : pages n ≡ Some (page_after size log old n k) = sym (ap (λ (p : Pages). p n) is) ∙ pages_inside size log old k n low high in
              some n low high ∙ ap Some (other_after size d.large log old new torn n low other k (whole n _ was)) ∙ sym was
          | inr outside ↦ pages_outside size log new k n (rw count outside) ∙ sym (pages_outside size log old k n outside) ∙ ap (λ (p : Pages). p n) is
        ];
      },
      record { frames = k; replays = found.replays; present = omega (arith, found.present, torn.no_shorter); gives = refl },
    )

-- with no frame to take, the first page is the beginning of the file
pub first_by_file : (size : ℕ) (log db : List ℕ) (pages : Pages) → AreOfDatabase size pages → pages_after size log db 0 ≡ pages
    → (first : List ℕ) → pages 1 ≡ Some first → (size ≤ length db) × ((i : ℕ) → i < size → slice_index first i ≡ slice_index db i)
first_by_file size log db pages d gives first is =
    let from = page_from_pages size log db 0 1 first (ap (λ (p : Pages). p 1) gives ∙ is) in
    let start : (1 - 1) * size ≡ 0 = omega arith in
    let front : part db 0 size ≡ first = ap (λ (at : ℕ). part db at size) (sym start) ∙ from.0 in
    let within : 0 + size ≤ length db = part_within db 0 size (omega (arith, d.large)) (ap length front ∙ d.whole.sized 1 first is) in (
      omega (arith, within),
      λ i low.
          let here : 0 + i ≡ i = omega arith in
          ap (λ (b : List ℕ). slice_index b i) (sym front) ∙ slice_index-part db 0 size i low ∙ ap (slice_index db) here,
    )

-- it names the size
pub named_by_file : (size : ℕ) (log db : List ℕ) (pages : Pages) → AreOfDatabase size pages → pages_after size log db 0 ≡ pages
    → (size ≤ length db) × (page_size_in db ≡ size)
named_by_file size log db pages d gives =
    let (first, is) = some_value (pages 1) d.whole.first in
    let (long, byte) = first_by_file size log db pages d gives first is in
    let one : slice_index first 16 ≡ slice_index db 16 = byte 16 (omega (arith, d.large)) in
    let two : slice_index first 17 ≡ slice_index db 17 = byte 17 (omega (arith, d.large)) in
    let named : page_size_in first ≡ page_size_in db = rw (one, two) in
    (long, sym named ∙ d.named first is)
