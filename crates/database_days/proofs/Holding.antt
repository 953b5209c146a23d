-- Files that stand for others hold each database of a station that those hold, except its user version: the mark is in none of a station's tables.
use Rattle.std.proofs.Common.{◌≡◌, ◌≢◌, ℕ, ◌+◌, ◌*◌, ◌%◌, ◌<◌, ◌≤◌, true, cond, eqb, List, [], slice_index, take, Option, Some, unwrap_or, length, sym, refl, ◌∙◌, ap, ap₂, subst, inl, inr, arith, get_or-take}
use Rattle.std.proofs.lemmas.Bool.{cases_Bool, cases_eq, eq-eqb, ne_eqb}
use Rattle.sqlite_wal.specs.Recovery as raw
use Rattle.sqlite_wal.specs.Recovery.{Image}
use Rattle.sqlite_wal.specs.Format.{be32}
use Rattle.sqlite_wal.specs.PageSize.{IsPageSize}
use Rattle.sqlite_pages.specs.PageMap.{PageMap}
use Rattle.sqlite_pool.specs.File.{IsSoundFile, header_in, in_use}
use Rattle.sqlite_pool.specs.Stored.{reserved, stored_size, trimmed, Adopts}
use Rattle.sqlite_pool.specs.StoredLaws.{trimmed_some, trimmed_whole}
use Rattle.sqlite_pool.proofs.ProbeLemmas.{reserved_word}
use Rattle.sqlite_pool.proofs.ResealLemmas.{adopts_of}
use Rattle.sqlite_value.specs.Order.{Row as Columns}
use Rattle.sqlite_trees.specs.declared.store.Shape.TheVariants.{Table}
use Rattle.sqlite_trees.specs.Tree.{Trees, with_tree}
use Rattle.sqlite_trees.specs.Objects.{catalog_tree, version_tree}
use Rattle.sqlite_store.specs.declared.catalog.Wanted.{Wanted}
use Rattle.sqlite_store.specs.Db.{roots_of, rows_at, trees_in}
use Rattle.sqlite_store.specs.Exact.{IsExact}
use Rattle.sqlite_store.specs.Listing.{IsOurs, all_trees, file_trees, listed_from}
use Rattle.sqlite.specs.Files.{HoldsDatabase}
use Rattle.sqlite.specs.Opening.{HoldsIn}
use Rattle.sqlite_schema.specs.declared.schema.Schema.{Schema}
use Rattle.sqlite_catalog.specs.Listing.{IsSound}
use Rattle.rows_table.specs.declared.layout.Layout.{Layout}
use Rattle.rows_table.specs.Tables.{layout_schema}
use Rattle.rows_saved.specs.declared.identity.Identity.{Identity}
use Rattle.acceptor_store.specs.Sqlite.{IsOfStation}
use Rattle.acceptor_store.specs.Begun.{SameTables, HoldAllOf}
use Rattle.acceptor_store.proofs.TableLemmas.{same_schema}
use Rattle.rows_life.specs.Keeping.{AreOfDatabase, SamePages, KeepSums, StandFor}
use Rattle.database_days.proofs.Marking.{still_whole, no_sum, others_same, head_same, rest_same, length_same}
use Rattle.database_days.proofs.Obeying.{still_lists}
use Rattle.database_days.proofs.Sounding.{still_sound, same_tables}

few_reserved : (size : ℕ) → reserved size ≤ 8
few_reserved size = elim (cases_Bool (eqb (size % 16) 8)) [ inl summed ↦ rw summed (omega arith) | inr plain ↦ rw plain (omega arith) ]

-- ---- a database that files hold

module _ (size : ℕ) (left : Image) (pages : PageMap) (valid : IsPageSize (stored_size size)) (found : Adopts size left pages) (sound : IsSoundFile size pages) where
  large : 504 ≤ size
  large = omega (arith, valid.0, few_reserved size)

  -- the header that is used is the one that is stored
  header_byte : (page : List ℕ) → found.stored 1 ≡ Some page → (k : ℕ) → k < 100 → slice_index (header_in pages) k ≡ slice_index page k
  header_byte page is k low =
      let used : pages 1 ≡ Some (take size page) = ap (λ (p : PageMap). p 1) (sym found.shows) ∙ trimmed_some size _ 1 page is in
      let head : header_in pages ≡ take 100 (take size page) = ap (λ (o : Option (List ℕ)). take 100 (unwrap_or o [])) used in
      ap (λ (b : List ℕ). slice_index b k) head ∙ get_or-take 100 (take size page) k 0 low ∙ get_or-take size page k 0 (omega (arith, large))

  -- its pages are those of a database, as they are stored
  stored_database : AreOfDatabase (stored_size size) found.stored
  stored_database = record {
    large = valid.0;
    whole = found.whole;
    named = λ page is.
        let one : slice_index page 16 ≡ slice_index (header_in pages) 16 = sym (header_byte page is 16 (omega arith)) in
        let two : slice_index page 17 ≡ slice_index (header_in pages) 17 = sym (header_byte page is 17 (omega arith)) in
        let word : slice_index page 16 * 256 + slice_index page 17 ≡ slice_index (header_in pages) 16 * 256 + slice_index (header_in pages) 17 = ap₂ (λ (a b : ℕ). a * 256 + b) one two in
        ap (λ (n : ℕ). cond (eqb n 1) 65536 n) word ∙ sound.header.0.size;
  }

  -- where pages have room for a sum, the first page says so
  says_sums : size % 16 ≡ 8 → KeepSums left
  says_sums summed =
      let word = reserved_word size left pages found large sound in
      let is : be32 word.0 20 ≡ reserved size * 0x100_0000 + 0x0040_2020 = word.3 in
      let eight : reserved size ≡ 8 = rw (eq-eqb (size % 16) 8 summed) refl in
      record {
        size = stored_size size;
        pages = found.stored;
        database = stored_database;
        found = found.found;
        first = word.0;
        is_first = word.1;
        reserves = omega (arith, is, eight);
      }

-- ---- the same pages with another mark

module _ (size : ℕ) (stored now : PageMap) (plain : size % 16 ≢ 8) (whole : raw.AreWhole (stored_size size) stored) (same : SamePages stored now) where
  as_used : stored_size size ≡ size
  as_used = rw (ne_eqb (size % 16) 8 plain) (omega arith)

  -- the pool takes the pages that recovery finds
  pub adopts : (image : Image) → raw.Recovers (stored_size size) image now → Adopts size image (trimmed size now)
  adopts image recovers =
      let kept = still_whole (stored_size size) stored now same whole in
      adopts_of size image (trimmed size now) (record {
        stored = now;
        found = recovers;
        whole = kept;
        sealed = λ n bytes is. no_sum size bytes plain (kept.sized n bytes is ∙ as_used);
        shows = refl;
        present = recovers.present;
      })

  module _ (page : List ℕ) (is : stored 1 ≡ Some page) (wanted : List Wanted) (ours : IsOurs size true wanted (trimmed size stored)) where
    len : length page ≡ size
    len = whole.sized 1 page is ∙ as_used

    pub still_ours : IsOurs size true wanted (trimmed size now)
    still_ours =
        let others = others_same size stored now same page is len in
        let head = head_same size stored now same page is len in
        let rest = rest_same size stored now same page is len in
        let lens = length_same size stored now same page is len in
        let file = ours.file in
        let tables = same_tables size (trimmed size stored) (trimmed size now) others head rest lens file.sound file.db in
        record {
          file = record {
            whole = trimmed_whole size now (still_whole (stored_size size) stored now same whole);
            sound = still_sound size (trimmed size stored) (trimmed size now) others head rest lens file.sound;
            db = tables.0;
          };
          numbered = λ yes.
              let exact : IsExact wanted (roots_of size wanted (in_use size (trimmed size stored))) (rows_at size (in_use size (trimmed size stored)) Table 1) = ours.numbered yes in
              subst (λ (rows : List Columns). IsExact wanted (roots_of size wanted (in_use size (trimmed size now))) rows) (sym tables.3)
              (subst (λ (roots : List ℕ). IsExact wanted roots (rows_at size (in_use size (trimmed size stored)) Table 1)) (sym tables.1) exact);
        }

    pub still_trees : trees_in size wanted (in_use size (trimmed size now)) ≡ trees_in size wanted (in_use size (trimmed size stored))
    still_trees =
        (same_tables size (trimmed size stored) (trimmed size now) (others_same size stored now same page is len) (head_same size stored now same page is len)
        (rest_same size stored now same page is len) (length_same size stored now same page is len) ours.file.sound ours.file.db).2

-- the trees of a file are those that its pages read as, except the user version
same_but_version : (size : ℕ) (wanted : List Wanted) (old new : PageMap) → trees_in size wanted (in_use size new) ≡ trees_in size wanted (in_use size old)
    → SameTables (file_trees size wanted old) (file_trees size wanted new)
unfolding all_trees
same_but_version size wanted old new same tree other =
    let all : all_trees size wanted (in_use size new) ≡ all_trees size wanted (in_use size old) = ap (λ (trees : Trees). with_tree trees catalog_tree (listed_from 0 wanted)) same in
    rw (ne_eqb tree version_tree other) (ap (λ (trees : Trees). trees tree) all)

-- ---- the joint

holds_marked : (left begun : Image) → StandFor left begun → (layout : Layout) (i : Identity) (db : Trees) → IsOfStation layout i db
    → (size : ℕ) → IsPageSize (stored_size size) → size % 16 ≢ 8 → HoldsIn size left db → (now : Trees) × SameTables db now × HoldsDatabase begun now
holds_marked left begun stands layout i db of size valid plain held =
    let found = held.found in
    let (now, same, recovers) = stands.pages (stored_size size) found.stored (stored_database size left held.pages valid found held.ours.file.sound) found.found in
    let word = reserved_word size left held.pages found (large size left held.pages valid found held.ours.file.sound) held.ours.file.sound in
    let ours : IsOurs size true held.wanted (trimmed size found.stored) = subst (λ (p : PageMap). IsOurs size true held.wanted p) (sym found.shows) held.ours in
    let reads : db ≡ file_trees size held.wanted (trimmed size found.stored) = held.reads ∙ ap (λ (p : PageMap). file_trees size held.wanted p) (sym found.shows) in
    let trees = file_trees size held.wanted (trimmed size now) in
    let tables : SameTables (file_trees size held.wanted (trimmed size found.stored)) trees =
    same_but_version size held.wanted (trimmed size found.stored) (trimmed size now) (still_trees size found.stored now plain found.whole same word.0 word.1 held.wanted ours) in
    let but_version : SameTables db trees = subst (λ (was : Trees). SameTables was trees) (sym reads) tables in
    let schema : held.schema ≡ layout_schema layout = same_schema layout (db catalog_tree) held.schema of.tables held.sound.lists in
    let sound : IsSound (layout_schema layout) trees = still_lists layout db trees but_version (subst (λ (s : Schema). IsSound s db) schema held.sound) in (
      trees,
      but_version,
      (
        size,
        valid,
        record {
          pages = trimmed size now;
          wanted = held.wanted;
          schema = layout_schema layout;
          found = adopts size found.stored now plain found.whole same begun recovers;
          ours = still_ours size found.stored now plain found.whole same word.0 word.1 held.wanted ours;
          reads = refl;
          sound = sound;
        },
      ),
    )

pub holds_all : (left begun : Image) → StandFor left begun → HoldAllOf left begun
holds_all left begun stands layout i db of (size, valid, held) = elim (cases_eq (size % 16) 8) [
  | inl summed ↦
      let same : begun ≡ left = stands.sums (says_sums size left held.pages valid held.found held.ours.file.sound summed) in
      ∣ (db, (λ tree other. refl), subst (λ image. HoldsDatabase image db) (sym same) (size, valid, held)) ∣₁
  | inr plain ↦ ∣ holds_marked left begun stands layout i db of size valid plain held ∣₁
]
