-- A database's file stays sound where its first page has another mark, and its tables read the same. The list of free pages does not have the
-- first page, so it is the same.
use Rattle.std.proofs.Common.{◌≡◌, ◌≢◌, ℕ, zero, suc, ◌<◌, ◌≤◌, cond, eqb, List, [], ◌∷◌, length, Option, None, Some, is_some, unwrap_or, option_map, drop, sym, refl, ◌∙◌, ap, subst, inl, inr, arith}
use Rattle.std.proofs.lemmas.Bool.{cases_eq, cases_lt, cases_Bool, eq-eqb}
use Rattle.sqlite_pages.specs.PageMap.{PageMap}
use Rattle.sqlite_pool.specs.FreeList.{bytes_of, hit, next_trunk, times_free, total_free, AreLinked, live, trunks_from}
use Rattle.sqlite_format.specs.Bytes.{SameOutside}
use Rattle.sqlite_pool.specs.Header.{first_trunk, free_count, lock_page, stated_page_count}
use Rattle.sqlite_pool.specs.File.{header_in, unlocked, trunks_of, ListsFree, IsSoundFile, in_use, SameButHeader}
use Rattle.sqlite_pool.proofs.HeaderLemmas.{u32_outside, version_written}
use Rattle.sqlite_trees.specs.declared.store.Shape.TheVariants.{Table}
use Rattle.sqlite_store.specs.declared.catalog.Wanted.{Wanted}
use Rattle.sqlite_store.specs.Db.{IsDb, roots_of, trees_in, rows_at}
use Rattle.sqlite_store.proofs.DbLemmas.{resealed}

-- the same pages, except the first
abbrev pub SameButFirst : PageMap → PageMap → Type 0
SameButFirst old new = (n : ℕ) → n ≢ 1 → new n ≡ old n

-- each of these pages lies behind the first
abbrev pub AreBehind : List ℕ → Type 0
AreBehind [] = Unit {0}
AreBehind (t ∷ ts) = (1 < t) × AreBehind ts

hit_itself : (t : ℕ) → hit t t ≡ 1
unfolding hit
hit_itself t = rw (eq-eqb t t refl) refl

behind_all : (pages : PageMap) (trunks : List ℕ) → ((n : ℕ) → 0 < times_free pages trunks n → 1 < n) → AreBehind trunks
behind_all pages [] each = tt
behind_all pages (t ∷ ts) each = (
  each t (omega (arith, hit_itself t)),
  behind_all pages ts (λ n some. each n (omega (arith, some))),
)

module _ (old new : PageMap) (same : SameButFirst old new) where
  same_bytes_of : (t : ℕ) → 1 < t → bytes_of new t ≡ bytes_of old t
  same_bytes_of t behind = ap (λ (o : Option (List ℕ)). unwrap_or o []) (same t (λ e. omega (arith, e, behind)))

  pub same_times : (trunks : List ℕ) (n : ℕ) → AreBehind trunks → times_free new trunks n ≡ times_free old trunks n
  same_times [] n all = refl
  same_times (t ∷ ts) n all = rw (same_bytes_of t all.0, same_times ts n all.1) refl

  pub same_total : (trunks : List ℕ) → AreBehind trunks → total_free new trunks ≡ total_free old trunks
  same_total [] all = refl
  same_total (t ∷ ts) all = rw (same_bytes_of t all.0, same_total ts all.1) refl

  pub same_links : (trunks : List ℕ) → AreBehind trunks → AreLinked old trunks → AreLinked new trunks
  same_links [] all linked = tt
  same_links (t ∷ ts) all linked = rw (same_bytes_of t all.0) (linked.0, linked.1, same_links ts all.1 linked.2)

  pub same_trunks : (fuel first : ℕ) → AreBehind (trunks_from old fuel first) → trunks_from new fuel first ≡ trunks_from old fuel first
  same_trunks zero first all = refl
  same_trunks (suc fuel) zero all = refl
  same_trunks (suc fuel) (suc before) all =
      rw (same_bytes_of (suc before) all.0) (ap (λ (ts : List ℕ). suc before ∷ ts) (same_trunks fuel (next_trunk (bytes_of old (suc before))) all.1))

-- a file whose first page has another mark
module _ (size : ℕ) (old new : PageMap) (same : SameButFirst old new) (head : SameOutside (header_in old) (header_in new) 60 64)
    (rest : option_map (drop 100) (new 1) ≡ option_map (drop 100) (old 1)) (len : option_map length (new 1) ≡ option_map length (old 1)) (sound : IsSoundFile size old) where
  same_unlocked : SameButFirst (unlocked size old) (unlocked size new)
  unfolding unlocked
  same_unlocked n other = ap (λ (o : Option (List ℕ)). cond (eqb n (lock_page size)) None o) (same n other)

  trunks : List ℕ
  trunks = trunks_of (unlocked size old) (header_in old)

  behind : AreBehind trunks
  unfolding trunks
  behind = behind_all (unlocked size old) (trunks_of (unlocked size old) (header_in old)) (λ n some. (sound.free.list.real n some).0)

  same_first : first_trunk (header_in new) ≡ first_trunk (header_in old)
  same_first = u32_outside head 32 (inl (omega arith))

  same_count : free_count (header_in new) ≡ free_count (header_in old)
  same_count = u32_outside head 36 (inl (omega arith))

  still_trunks : trunks_of (unlocked size new) (header_in new) ≡ trunks_of (unlocked size old) (header_in old)
  unfolding trunks trunks_of
  still_trunks = rw (same_first, same_count) (same_trunks (unlocked size old) (unlocked size new) same_unlocked (free_count (header_in old)) (first_trunk (header_in old)) behind)

  none_at_first : times_free (unlocked size old) trunks 1 ≡ 0
  unfolding trunks
  none_at_first = elim (cases_lt 0 (times_free (unlocked size old) trunks 1)) [
    | inl some ↦ absurd (omega (arith, (sound.free.list.real 1 some).0))
    | inr none ↦ omega (arith, none)
  ]

  still_times : (n : ℕ) → times_free (unlocked size new) trunks n ≡ times_free (unlocked size old) trunks n
  still_times n = same_times (unlocked size old) (unlocked size new) same_unlocked trunks n behind

  first_in_use : (f : List ℕ → List ℕ) → option_map f (new 1) ≡ option_map f (old 1) → option_map f (in_use size new 1) ≡ option_map f (in_use size old 1)
  unfolding in_use live unlocked trunks
  first_in_use f e =
      rw (still_trunks, still_times 1, none_at_first) (elim (cases_Bool (eqb 1 (lock_page size))) [ inl locked ↦ rw locked refl | inr free ↦ rw free e ])

  length_in_use : option_map length (in_use size new 1) ≡ option_map length (in_use size old 1)
  unfolding in_use live unlocked trunks
  length_in_use =
      rw (still_trunks, still_times 1, none_at_first) (elim (cases_Bool (eqb 1 (lock_page size))) [ inl locked ↦ rw locked refl | inr free ↦ rw free len ])

  others_in_use : (n : ℕ) → n ≢ 1 → in_use size new n ≡ in_use size old n
  unfolding in_use live trunks
  others_in_use n other = rw (still_trunks, still_times n, same_unlocked n other) refl

  pub same_in_use : SameButHeader (in_use size old) (in_use size new)
  same_in_use = record { first = first_in_use (drop 100) rest; len = length_in_use; others = others_in_use }

  pub same_tables : {schema : List Wanted} → IsDb size schema (in_use size old)
      → IsDb size schema (in_use size new) × (roots_of size schema (in_use size new) ≡ roots_of size schema (in_use size old))
      × (trees_in size schema (in_use size new) ≡ trees_in size schema (in_use size old)) × (rows_at size (in_use size new) Table 1 ≡ rows_at size (in_use size old) Table 1)
  same_tables db = resealed db (in_use size new) same_in_use

  some_from_length : (a b : Option (List ℕ)) → option_map length a ≡ option_map length b → is_some a ≡ is_some b
  some_from_length None None e = refl
  some_from_length (Some x) (Some y) e = refl
  some_from_length None (Some y) e = absurd cc
  some_from_length (Some x) None e = absurd cc

  still_there : (n : ℕ) → is_some (new n) ≡ is_some (old n)
  still_there n = elim (cases_eq n 1) [
    | inl here ↦ rw here (some_from_length (new 1) (old 1) len)
    | inr other ↦ ap is_some (same n other)
  ]

  still_free : ListsFree (unlocked size new) (header_in new) (trunks_of (unlocked size old) (header_in old))
  unfolding trunks
  still_free = record {
    list = record {
      linked = same_links (unlocked size old) (unlocked size new) same_unlocked trunks behind sound.free.list.linked;
      once = λ n. subst (λ k. k ≤ 1) (sym (still_times n)) (sound.free.list.once n);
      real = λ n some.
          let was = sound.free.list.real n (subst (λ k. 0 < k) (still_times n) some) in
          (was.0, ap is_some (same_unlocked n (λ e. omega (arith, e, was.0))) ∙ was.1);
    };
    first = sound.free.first ∙ sym same_first;
    count = same_total (unlocked size old) (unlocked size new) same_unlocked trunks behind ∙ sound.free.count ∙ sym same_count;
  }

  pub still_sound : IsSoundFile size new
  still_sound = record {
    header = version_written head size sound.header;
    counted = λ n.
        let count : stated_page_count (header_in new) ≡ stated_page_count (header_in old) = u32_outside head 28 (inl (omega arith)) in
        let was = sound.counted n in (
          λ some. let at = was.0 (sym (still_there n) ∙ some) in (at.0, rw count at.1),
          λ within. still_there n ∙ was.1 (within.0, rw (← count) within.1),
        );
    free = subst (ListsFree (unlocked size new) (header_in new)) (sym still_trunks) still_free;
  }
