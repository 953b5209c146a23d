-- What the two files stand for, act by act.
use Rattle.std.proofs.Common.{◌≡◌, ◌⊎◌, ℕ, ◌+◌, ◌<◌, ◌≤◌, List, length, slice_index, Some, sym, refl, ◌∙◌, ap, subst, inl, inr, arith, le-ltb, take, drop, ext_get_or, length-drop, get_or-drop}
use Rattle.std.proofs.lemmas.Bool.{cases_eq, cases_lt, and_from, and_parts}
use Rattle.std.proofs.lemmas.List.{get_or-take, length-take}
use Rattle.std.proofs.Math.Nat.{min-eq_left}
use Rattle.sqlite_disk.specs.declared.Disk.{Ghosts}
use Rattle.sqlite_disk.specs.declared.Files.{Files}
use Rattle.sqlite_disk.specs.Disk.{Torn, Cut, Holds, Follows, Only}
use Rattle.sqlite_wal.specs.declared.page_size.PageSize.{PageSize}
use Rattle.sqlite_wal.specs.PageSize.{bytes_of, size_in_file, Names}
use Rattle.sqlite_wal.specs.Format.{be32}
use Rattle.sqlite_wal.specs.Reads.{IsClean, AreClean, OnlyReads}
use Rattle.sqlite_wal.specs.Files.{outcomes, seen_image}
use Rattle.sqlite_wal.specs.Recovery.{Pages, Image, IsIgnored, Recovers, Replays, AddsNothing, pages_after}
use Rattle.sqlite_wal.proofs.FormatLemmas.{be32-part}
use Rattle.sqlite_wal.proofs.FileLemmas.{pages_without_frames}
use Rattle.sqlite_wal.proofs.RecoveryLemmas.{replays_once}
use Rattle.rows_life.specs.Lives.{page_size_in}
use Rattle.rows_life.specs.Keeping.{IsUnwritten, AreUnwritten, AreOfDatabase, HavePagesOf, KeepNoSums, IsNewLog, StaysBare, WritesTheMark, ReplacesBare, AreSynced, LoseNothing, KeepPages, KeepAll}
use Rattle.rows_life.proofs.KeepingLemmas.{same_pages, stands_as_it_was, stands_then, stands_marked, named_by_file}
use Rattle.rows_life.proofs.RenewLemmas.{IsUnframed, nothing_taken, bare_when_cut, bare_when_short, bare_when_made}

-- ---- the mark

pub torn_mark : (at n : ℕ) (old new : List ℕ) → 60 ≤ at → at + n ≤ 64 → Torn at n old new → Torn 60 4 old new
torn_mark at n old new low high t = record {
  no_shorter = t.no_shorter;
  no_longer = omega (arith, t.no_longer, high);
  below = λ i within here. t.below i within (omega (arith, here, low));
  above = λ i within here. t.above i within (omega (arith, here, high));
}

pub torn_marks : (a b c : List ℕ) → Torn 60 4 a b → Torn 60 4 b c → Torn 60 4 a c
torn_marks a b c s t = record {
  no_shorter = omega (arith, s.no_shorter, t.no_shorter);
  no_longer = omega (arith, s.no_longer, t.no_longer);
  below = λ i within here. t.below i (omega (arith, within, s.no_shorter)) here ∙ s.below i within here;
  above = λ i within here. t.above i (omega (arith, within, s.no_shorter)) here ∙ s.above i within here;
}

pub torn_none : (a : List ℕ) → Torn 60 4 a a
torn_none a = record { no_shorter = omega arith; no_longer = omega arith; below = λ i _ _. refl; above = λ i _ _. refl }

-- the mark is behind the size
pub size_still_named : (old new : List ℕ) → Torn 60 4 old new → 512 ≤ length new → page_size_in new ≡ page_size_in old
size_still_named old new t long =
    let was : 512 ≤ length old = omega (arith, t.no_longer, long) in
    let one : slice_index new 16 ≡ slice_index old 16 = t.below 16 (omega (arith, was)) (omega arith) in
    let two : slice_index new 17 ≡ slice_index old 17 = t.below 17 (omega (arith, was)) (omega arith) in
    rw (one, two) refl

module _ {D : Type 0} {g : Ghosts D} where
  pub mark_none : (a : D) → WritesTheMark g a a
  mark_none a = record { seen = torn_none (g.seen a); crash = λ c may. (c, may, torn_none c) }

  pub mark_read : (a b : D) → IsUnwritten g a b → WritesTheMark g a b
  mark_read a b s = record { seen = subst (Torn 60 4 (g.seen a)) (sym s.seen) (torn_none (g.seen a)); crash = λ c may. (c, s.crash c may, torn_none c) }

  pub marks_then : (a b c : D) → WritesTheMark g a b → WritesTheMark g b c → WritesTheMark g a c
  marks_then a b c s t = record {
    seen = torn_marks (g.seen a) (g.seen b) (g.seen c) s.seen t.seen;
    crash = λ x may.
        let (mid, was, torn) = t.crash x may in
        let (before, first, step) = s.crash mid was in
        (before, first, torn_marks before mid x step torn);
  }

  -- a write within the mark, and a sync of it or not
  pub mark_written : (at n : ℕ) (a b : D) → 60 ≤ at → at + n ≤ 64 → Torn at n (g.seen a) (g.seen b) → Follows (Torn at n) (g.may_leave a) (g.may_leave b) → WritesTheMark g a b
  mark_written at n a b low high torn follows = record {
    seen = torn_mark at n (g.seen a) (g.seen b) low high torn;
    crash = λ c may. let (before, was, step) = follows c may in (before, was, torn_mark at n before c low high step);
  }

  pub unwritten_then : (a b c : D) → IsUnwritten g a b → IsUnwritten g b c → IsUnwritten g a c
  unwritten_then a b c s t = record { seen = t.seen ∙ s.seen; crash = λ x may. s.crash x (t.crash x may) }

  pub unwritten_still : (a : D) → IsUnwritten g a a
  unwritten_still a = record { seen = refl; crash = λ c may. may }

  pub only_reads : (a b : D) → OnlyReads g a b → IsUnwritten g a b
  only_reads a b s = record { seen = s.seen; crash = s.crash }

-- ---- what is lost

pub both_clean : {D : Type 0} (g : Ghosts D) (a b : Files D) → (IsClean g b.log → IsClean g a.log) → (IsClean g b.db → IsClean g a.db) → AreClean g b.log b.db → AreClean g a.log a.db
both_clean g a b log db clean = let both = and_parts _ _ clean in and_from _ _ (log both.0) (db both.1)

module _ {D : Type 0} (g : Ghosts D) where
  pub lose_then : (a b c : Files D) → (AreClean g c.log c.db → AreClean g b.log b.db) → LoseNothing g a b → LoseNothing g b c → LoseNothing g a c
  lose_then a b c was s t clean left may =
      let (mid, in_b, later) = t clean left may in
      let (before, in_a, earlier) = s (was clean) mid in_b in
      (before, in_a, stands_then before mid left earlier later)

  pub keep_then : (a b c : Files D) → (AreClean g c.log c.db → AreClean g b.log b.db) → KeepPages g a b → LoseNothing g b c → KeepPages g a c
  keep_then a b c was s t synced clean left may =
      let (mid, in_b, later) = t clean left may in
      stands_then (seen_image g a.log a.db) mid left (s synced (was clean) mid in_b) later

  pub unwritten_loses : (a b : Files D) → AreUnwritten g a b → LoseNothing g a b
  unwritten_loses a b s clean left may = (left, (s.log.crash left.log may.0, s.db.crash left.db may.1), stands_as_it_was left)

  pub mark_loses : (a b : Files D) → b.log ≡ a.log → WritesTheMark g a.db b.db → LoseNothing g a b
  mark_loses a b same s clean left may =
      let (was, in_a, torn) = s.crash left.db may.1 in
      (record { log = left.log; db = was }, (subst (λ l. g.may_leave l left.log) same may.0, in_a), stands_marked left.log was left.db torn)

  synced_image : (a : Files D) → AreSynced g a → (left : Image) → outcomes g a.log a.db left → left ≡ seen_image g a.log a.db
  synced_image a synced left may = λ i. record { log = synced.log left.log may.0 i; db = synced.db left.db may.1 i }

  -- files of which nothing was lost keep the pages that they had
  pub loses_keeps : (a b : Files D) → LoseNothing g a b → KeepPages g a b
  loses_keeps a b s synced clean left may =
      let (before, was, stands) = s clean left may in
      subst (λ i. HavePagesOf i left) (synced_image a synced before was) stands

  pub keeps_after_reads : (a b c : Files D) → AreUnwritten g a b → KeepPages g b c → KeepPages g a c
  keeps_after_reads a b c s t synced clean left may =
      let still : AreSynced g b = record {
        log = λ x leaves. synced.log x (s.log.crash x leaves) ∙ sym s.log.seen;
        db = λ x leaves. synced.db x (s.db.crash x leaves) ∙ sym s.db.seen;
      } in
      let same : seen_image g b.log b.db ≡ seen_image g a.log a.db = λ i. record { log = s.log.seen i; db = s.db.seen i } in
      subst (λ i. HavePagesOf i left) same (t still clean left may)

  -- files that were not written keep all
  pub unwritten_keeps : (a b : Files D) → AreUnwritten g a b → KeepAll g a b
  unwritten_keeps a b s synced clean left may =
      let is : left ≡ seen_image g a.log a.db = synced_image a synced left (s.log.crash left.log may.0, s.db.crash left.db may.1) in
      record { pages = subst (λ i. HavePagesOf i left) is (stands_as_it_was left); sums = λ it. is }

  -- so do files that keep no sums, and keep their pages
  pub plain_keeps : (a b : Files D) → (AreClean g b.log b.db → KeepNoSums (seen_image g a.log a.db)) → KeepPages g a b → KeepAll g a b
  plain_keeps a b plain s synced clean left may = record { pages = s synced clean left may; sums = λ it. absurd ((plain clean).none it) }

  -- so do files of which no page is lost, if they keep no sums, or were not written
  pub either_keeps : (a b : Files D) → LoseNothing g a b → (AreClean g b.log b.db → KeepNoSums (seen_image g a.log a.db)) ⊎ AreUnwritten g a b → KeepAll g a b
  either_keeps a b loses (inl plain) = plain_keeps a b plain (loses_keeps a b loses)
  either_keeps a b loses (inr unwritten) = unwritten_keeps a b unwritten

  pub pages_of_all : (a b : Files D) → KeepAll g a b → KeepPages g a b
  pages_of_all a b s synced clean left may = (s synced clean left may).pages

  pub both_unwritten : (a b c : Files D) → AreUnwritten g a b → AreUnwritten g b c → AreUnwritten g a c
  both_unwritten a b c s t = record { log = unwritten_then a.log b.log c.log s.log t.log; db = unwritten_then a.db b.db c.db s.db t.db }

  -- a log of which nothing is taken is replaced by another
  pub renew_loses : (made : List ℕ) (a b : Files D) → b.db ≡ a.db → Only (g.seen a.db) (g.may_leave a.db) → g.may_leave a.log (g.seen a.log) → (AreClean g b.log b.db → IsClean g b.log)
      → (AreClean g b.log b.db → IsUnframed (g.seen a.log)) → (AreClean g b.log b.db → 512 ≤ length (g.seen a.db) → IsNewLog (page_size_in (g.seen a.db)) made)
      → ReplacesBare g made a.log b.log → LoseNothing g a b
  renew_loses made a b same only stays calm bare new s clean left may =
      let at_db : g.may_leave a.db left.db = subst (λ d. g.may_leave d left.db) same may.1 in
      let is : left.db ≡ g.seen a.db = only left.db at_db in
      elim (s (calm clean) left.log may.0) [
        | inl old ↦ (left, (old, at_db), stands_as_it_was left)
        | inr stays_bare ↦ (
          record { log = g.seen a.log; db = left.db },
          (stays, at_db),
          λ size pages d found.
              let none : found.frames ≡ 0 = nothing_taken size (g.seen a.log) found.frames (bare clean) found.replays in
              let gives : pages_after size (g.seen a.log) left.db 0 ≡ pages = ap (pages_after size (g.seen a.log) left.db) (sym none) ∙ found.gives in
              let (long, names) = named_by_file size (g.seen a.log) left.db pages d gives in
              let named : page_size_in (g.seen a.db) ≡ size = ap page_size_in (sym is) ∙ names in
              let log : IsNewLog size made = subst (λ n. IsNewLog n made) named (new clean (omega (arith, long, d.large, ap length is))) in (
                pages,
                same_pages pages,
                record {
                  frames = 0;
                  replays = stays_bare size log d.large (subst (Replays size (g.seen a.log)) none found.replays);
                  present = found.present;
                  gives = sym (pages_without_frames size (g.seen a.log) left.log left.db) ∙ gives;
                },
              ),
        )
      ]

-- ---- a log of which nothing is taken, as it is replaced

module _ {D : Type 0} (g : Ghosts D) (made : List ℕ) (old a b : D) (only : Only (g.seen a) (g.may_leave a)) where
  pub stays_cut : g.seen a ≡ g.seen old → Follows (Cut 55) (g.may_leave a) (g.may_leave b) → IsUnframed (g.seen old)
      → (c : List ℕ) → g.may_leave b c → StaysBare made (g.seen old) c
  stays_cut same follows bare c may size is large was =
      let (d, at, cut) = follows c may in
      bare_when_cut size (g.seen old) c bare (subst (λ x. Cut 55 x c) (only d at ∙ same) cut) was

  pub stays_short : (n : ℕ) → n ≡ 55 → length (g.seen a) ≡ 55 → Follows (Torn 0 n) (g.may_leave a) (g.may_leave b)
      → (c : List ℕ) → g.may_leave b c → StaysBare made (g.seen old) c
  stays_short n whole len follows c may size is large was =
      let (d, at, torn) = follows c may in
      bare_when_short size d c (omega (arith, len, ap length (only d at))) (subst (λ m. Torn 0 m d c) whole torn)

  pub stays_made : (n : ℕ) → n ≡ 1 → length (g.seen a) ≡ 55 → ((i : ℕ) → i < 55 → slice_index (g.seen a) i ≡ slice_index made i)
      → Follows (Torn 55 n) (g.may_leave a) (g.may_leave b) → (c : List ℕ) → g.may_leave b c → StaysBare made (g.seen old) c
  stays_made n whole len front follows c may size is large was =
      let (d, at, torn) = follows c may in
      let same : d ≡ g.seen a = only d at in
      bare_when_made size made d c is large (ap length same ∙ len) (λ i low. ap (λ (x : List ℕ). slice_index x i) same ∙ front i low) (subst (λ m. Torn 55 m d c) whole torn)

pub front_len : (made : List ℕ) → length made ≡ 56 → length (take 55 made) ≡ 55
front_len made len = length-take 55 made ∙ min-eq_left (omega (arith, len))

pub last_len : (made : List ℕ) → length made ≡ 56 → length (take 1 (drop 55 made)) ≡ 1
last_len made len = length-take 1 (drop 55 made) ∙ min-eq_left (omega (arith, length-drop 55 made, len))

-- what was written first, of the length that the log was cut to
pub front_stands : (made a b : List ℕ) → length made ≡ 56 → length a ≡ 55 → Torn 0 (length (take 55 made)) a b → Holds b 0 (take 55 made)
    → (length b ≡ 55) × ((i : ℕ) → i < 55 → slice_index b i ≡ slice_index made i)
front_stands made a b len cut torn holds =
    let whole = front_len made len in (
      omega (arith, whole, cut, torn.no_longer, torn.no_shorter),
      λ i low.
          let here : i ≡ 0 + i = omega arith in
          ap (slice_index b) here ∙ holds.each i (omega (arith, whole, low)) ∙ get_or-take 55 made i 0 low,
    )

pub made_whole : (made b c : List ℕ) → length made ≡ 56 → length b ≡ 55 → ((i : ℕ) → i < 55 → slice_index b i ≡ slice_index made i)
    → Torn 55 (length (take 1 (drop 55 made))) b c → Holds c 55 (take 1 (drop 55 made)) → c ≡ made
made_whole made b c len cut front torn holds =
    let last = last_len made len in
    let whole : length c ≡ length made = omega (arith, last, len, cut, torn.no_longer, holds.within) in
    ext_get_or 0 c made whole (λ i low. elim (cases_lt i 55) [
      | inl below ↦ torn.below i (omega (arith, below, cut)) below ∙ front i below
      | inr above ↦
          let here : i ≡ 55 + 0 = omega (arith, above, low, whole, len) in
          ap (slice_index c) here ∙ holds.each 0 (omega (arith, last)) ∙ get_or-take 1 (drop 55 made) 0 0 (omega arith) ∙ get_or-drop 55 made 0 0 ∙ ap (slice_index made) (sym here)
    ])

-- ---- a copy of the log into the file

-- the size that was probed is the one that a database of the two has
probed_size : (image : Image) (probe : PageSize) → (¬ IsIgnored image.log → Names (Some probe) (be32 image.log 8)) → (IsIgnored image.log → Names (Some probe) (size_in_file image.db))
    → (size : ℕ) (pages : Pages) → AreOfDatabase size pages → Recovers size image pages → size ≡ bytes_of probe
probed_size image probe by_log by_file size pages d found = elim (cases_eq size (bytes_of probe)) [
  | inl same ↦ same
  | inr other ↦
      let read : ¬ IsIgnored image.log = λ ignored.
      let none = replays_once size image.log found.frames 0 found.replays (inl (ignored, refl)) in
      let gives : pages_after size image.log image.db 0 ≡ pages = ap (pages_after size image.log image.db) (sym none) ∙ found.gives in
      let (long, names) = named_by_file size image.log image.db pages d gives in
      let in_file : size_in_file image.db ≡ page_size_in image.db = rw (le-ltb (length image.db) 18 (omega (arith, long, d.large))) refl in
      other (sym names ∙ sym in_file ∙ sym (by_file ignored).1) in
      absurd (elim found.replays [
        | inl ignored ↦ read ignored.0
        | inr taken ↦ other (sym taken.0.head.size ∙ be32-part image.log 0 32 8 (omega arith) ∙ sym (by_log read).1)
      ])
]

pub copy_keeps : {D : Type 0} (g : Ghosts D) (a : Files D) (probe : PageSize) (old new : Image → Type 0)
    → (¬ IsIgnored (g.seen a.log) → Names (Some probe) (be32 (g.seen a.log) 8)) → (IsIgnored (g.seen a.log) → Names (Some probe) (size_in_file (g.seen a.db)))
    → ((left : Image) → old left → outcomes g a.log a.db left) → AddsNothing (bytes_of probe) old new
    → AreSynced g a → (left : Image) → new left → HavePagesOf (seen_image g a.log a.db) left
copy_keeps g a probe old new by_log by_file within adds synced left may size pages d found =
    let (before, was, again) = adds left may in
    let image = seen_image g a.log a.db in
    let is : before ≡ image = synced_image g a synced before (within before was) in
    let same : size ≡ bytes_of probe = probed_size image probe by_log by_file size pages d found in
    let there : Recovers (bytes_of probe) before pages = subst (λ i. Recovers (bytes_of probe) i pages) (sym is) (subst (λ n. Recovers n image pages) same found) in
    (pages, same_pages pages, subst (λ n. Recovers n left pages) (sym same) (again pages there))

-- ---- sums

-- no sums are kept, where the first page that was probed says so
pub no_sums : (image : Image) (probe : PageSize) (settings : ℕ) → (¬ IsIgnored image.log → Names (Some probe) (be32 image.log 8)) → (IsIgnored image.log → Names (Some probe) (size_in_file image.db))
    → ((pages : Pages) (first : List ℕ) → Recovers (bytes_of probe) image pages → pages 1 ≡ Some first → length first ≡ bytes_of probe → settings ≡ be32 first 20)
    → settings < 0x100_0000 → KeepNoSums image
no_sums image probe settings by_log by_file value low = record {
  none = λ it.
      let same : it.size ≡ bytes_of probe = probed_size image probe by_log by_file it.size it.pages it.database it.found in
      let there : Recovers (bytes_of probe) image it.pages = subst (λ n. Recovers n image it.pages) same it.found in
      let word : settings ≡ be32 it.first 20 = value it.pages it.first there it.is_first (it.database.whole.sized 1 it.first it.is_first ∙ same) in
      omega (arith, it.reserves, word, low);
}
