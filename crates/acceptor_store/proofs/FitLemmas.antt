-- The version of a layout has each row that columns are, and each of them has a promise.
use Rattle.std.proofs.Common.{◌≡◌, ◌+◌, ℕ, Bool, true, false, if◌then◌else◌, List, [], ◌∷◌, length, Option, Some, None, option_map, IfSome, nat_le, refl, arith}
use Rattle.std.specs.Prelude.{◌&&◌}
use Rattle.std.specs.List.{AllByRecursion, filter_map, cons_option}
use Rattle.std.proofs.lemmas.Bool.{le-leb}
use Rattle.sqlite_value.specs.declared.value.Value.{Value}
use Rattle.sqlite_value.specs.declared.value.Value.TheVariants.{Null, Int, Real, Text, Blob}
use Rattle.sqlite_value.specs.Order.{Row as Columns, column}
use Rattle.tape_frames.specs.Frames.{tape_fault}
use Rattle.tape_frames.specs.declared.fault.TapeFault.{TapeFault}
use Rattle.rows_table.specs.declared.layout.Layout.{Layout}
use Rattle.rows_table.specs.declared.layout.Layout.TheVariants as layouts
use Rattle.protocol.specs.Ballots.{Ballot}
use Rattle.protocol.specs.Entries.{Entry, Taped}
use Rattle.protocol.specs.Rows.{Vote, Row, may_stand}
use Rattle.protocol.specs.Versions.{One, Two}
use Rattle.protocol.specs.Fitting.{Fits, VoteFits}
use Rattle.rows_saved.specs.Saved.{HasPromise, RowFits, AreFitting}
use Rattle.acceptor_store.specs.Columns.{version_in, unless, stored_tape, tape_in, entry_in, entry_at, no_entry_at, vote_from, vote_at, ballot_from, whole_in, is_null, row_of, row_from, row_in, item_from, item_in}
use Rattle.protocol.specs.Limits.{most_frames_one}

-- what is no fault has a frame
has_frames : (frames : List ℕ) → tape_fault frames ≡ None → nat_le 1 (length frames) ≡ true
has_frames [] e = absurd cc
has_frames (x ∷ xs) e = le-leb 1 (length (x ∷ xs)) (omega arith)

stored_fits : (frames : List ℕ) → IfSome (stored_tape frames) (λ t. Fits One (Taped t))
stored_fits frames = at (nat_le (length frames) most_frames_one) refl (tape_fault frames) refl
  where
    at : (b : Bool) → nat_le (length frames) most_frames_one ≡ b → (fault : Option TapeFault) → tape_fault frames ≡ fault
        → IfSome (if b then unless fault frames else None) (λ t. Fits One (Taped t))
    at true few None none = rw (has_frames frames none, few) refl
    at true few (Some fault) none = tt
    at false few fault none = tt

taped_fits : (o : Option (List ℕ)) → IfSome o (λ t. Fits One (Taped t)) → IfSome (option_map (λ t. Taped t) o) (Fits One)
taped_fits None fits = tt
taped_fits (Some t) fits = fits

tape_fits : (v : Value) → IfSome (tape_in v) (λ t. Fits One (Taped t))
tape_fits (Blob frames) = stored_fits frames
tape_fits Null = tt
tape_fits (Int z) = tt
tape_fits (Real x) = tt
tape_fits (Text t) = tt

fits_two : (o : Option Entry) → IfSome o (Fits Two)
fits_two None = tt
fits_two (Some e) = refl

entry_fits : (layout : Layout) (at : ℕ) (c : Columns) → IfSome (entry_at layout at c) (Fits (version_in layout))
entry_fits layouts.One at c = taped_fits (tape_in (column c at)) (tape_fits (column c at))
entry_fits (layouts.Two origin) at c = fits_two (entry_in (column c at) (column c (at + 1)))

module _ (layout : Layout) where
  from_fits : (b : Option Ballot) (e : Option Entry) → IfSome e (Fits (version_in layout)) → IfSome (vote_from b e) (VoteFits (version_in layout))
  from_fits None e fits = tt
  from_fits (Some b) None fits = tt
  from_fits (Some b) (Some e) fits = fits

  vote_fits : (at : ℕ) (c : Columns) → IfSome (vote_at layout at c) (VoteFits (version_in layout))
  vote_fits at c = pick (is_null (column c at) && (is_null (column c (at + 1)) && no_entry_at layout (at + 2) c))
    where
      pick : (b : Bool)
          → IfSome (if b then Some None else vote_from (ballot_from (whole_in (column c at)) (whole_in (column c (at + 1)))) (entry_at layout (at + 2) c)) (VoteFits (version_in layout))
      pick true = tt
      pick false = from_fits (ballot_from (whole_in (column c at)) (whole_in (column c (at + 1)))) (entry_at layout (at + 2) c) (entry_fits layout (at + 2) c)

  with_vote : (promise : Option Ballot) (vote : Option (Option Vote)) → IfSome vote (VoteFits (version_in layout)) → IfSome (row_from promise vote) (RowFits (version_in layout))
  with_vote None vote fits = tt
  with_vote (Some p) None fits = tt
  with_vote (Some p) (Some v) fits = at (may_stand (Some p) v)
    where
      at : (b : Bool) → IfSome (if b then Some (row_of p v) else None) (RowFits (version_in layout))
      at true = fits
      at false = tt

  pub row_fits : (first : ℕ) (c : Columns) → IfSome (row_in layout first c) (RowFits (version_in layout))
  row_fits first c = with_vote (ballot_from (whole_in (column c first)) (whole_in (column c (first + 1)))) (vote_at layout (first + 2) c) (vote_fits (first + 2) c)

-- ---- the rows of a listing

has_promise : (promise : Option Ballot) (vote : Option (Option Vote)) → IfSome (row_from promise vote) HasPromise
has_promise None vote = tt
has_promise (Some p) None = tt
has_promise (Some p) (Some v) = at (may_stand (Some p) v)
  where
    at : (b : Bool) → IfSome (if b then Some (row_of p v) else None) HasPromise
    at true = refl
    at false = tt

-- what is true of the row that a line is, is true of each row of the listing
module _ (layout : Layout) (P : Row → Type 0) (each : (r : Columns) → IfSome (row_in layout 1 r) P) where
  item_has : (number : Option ℕ) (row : Option Row) → IfSome row P → IfSome (item_from number row) (λ p. P p.1)
  item_has None row is = tt
  item_has (Some n) None is = tt
  item_has (Some n) (Some row) is = at (nat_le 1 n && nat_le n 999999)
    where
      at : (b : Bool) → IfSome {T = ℕ × Row} (if b then Some (n, row) else None) (λ p. P p.1)
      at true = is
      at false = tt

  with_item : (item : Option (ℕ × Row)) (items : List (ℕ × Row)) → IfSome item (λ p. P p.1) → AllByRecursion (λ p. P p.1) items → AllByRecursion (λ p. P p.1) (cons_option item items)
  with_item None items is all = all
  with_item (Some p) items is all = (is, all)

  all_items : (rows : List Columns) → AllByRecursion (λ p. P p.1) (filter_map (item_in layout) rows)
  all_items [] = tt
  all_items (r ∷ rs) = with_item (item_in layout r) (filter_map (item_in layout) rs) (item_has (whole_in (column r 0)) (row_in layout 1 r) (each r)) (all_items rs)

pub items_fit : (layout : Layout) (rows : List Columns) → AreFitting (version_in layout) (filter_map (item_in layout) rows)
items_fit layout = all_items layout (RowFits (version_in layout)) (row_fits layout 1)

pub items_promise : (layout : Layout) (rows : List Columns) → AllByRecursion (λ (p : ℕ × Row). HasPromise p.1) (filter_map (item_in layout) rows)
items_promise layout = all_items layout HasPromise (λ r. has_promise (ballot_from (whole_in (column r 1)) (whole_in (column r 2))) (vote_at layout 3 r))
