-- The station in its table.
use Rattle.std.proofs.Common.{◌≡◌, ◌<◌, ◌≤◌, ◌==◌, ℕ, ℤ, pos, negsuc, Bool, true, false, cond, nat_le, nat_lt, ◌&&◌, ◌^◌, List, [], ◌∷◌, map, Option, Some, None, true≢false, inl, inr, refl, sym, ap, ◌∙◌, arith}
use Rattle.std.specs.List.Sorted.{IsPermutation}
use Rattle.std.proofs.lemmas.List.Sorted.{length_permutation}
use Rattle.std.proofs.lemmas.Bool.{le-leb, and_parts}
use Rattle.std.proofs.lemmas.Bool.Decides.{Decides-eqb, leb_tells}
use Rattle.sqlite_value.specs.declared.value.Value.{Value}
use Rattle.sqlite_value.specs.declared.value.Value.TheVariants.{Null, Int, Real, Text, Blob}
use Rattle.sqlite_value.specs.Order.{Row as Columns, column}
use Rattle.sqlite_trees.specs.Tree.{Trees}
use Rattle.sqlite.proofs.Callers.{one_permutation}
use Rattle.rows_table.specs.declared.layout.Layout.{Layout}
use Rattle.rows_table.specs.Tables.{station_tree, layout_number}
use Rattle.rows_table.specs.declared.layout.Layout.TheVariants.{One, Two}
use Rattle.rows_table.specs.declared.layout.LayoutOrigin.TheVariants.{Upgraded}
use Rattle.rows_table.specs.Rows.{whole}
use Rattle.rows_table.specs.Station.{station_columns, HoldsNone}
use Rattle.rows_table.specs.Entries.{HasLayoutOne, IsUpgraded}
use Rattle.rows_saved.specs.declared.identity.Identity.{Identity}
use Rattle.rows_saved.specs.Identity.{IsIdentity}
use Rattle.acceptor_store.specs.Columns.{whole_in, small}
use Rattle.acceptor_store.specs.StationRow.{station_from, station_of, station_in, IsStationOf}
use Rattle.acceptor_store.proofs.ColumnLemmas.{ranged}

-- the order of the rows tells nothing
pub same_station : (xs ys : List Columns) → IsPermutation xs ys → station_in xs ≡ station_in ys
same_station [] [] h = refl
same_station [] (y ∷ ys) h = absurd (omega (arith, length_permutation [] (y ∷ ys) h))
same_station (x ∷ []) ys h = ap station_in (sym (one_permutation x ys h))
same_station (x ∷ z ∷ xs) [] h = absurd (omega (arith, length_permutation (x ∷ z ∷ xs) [] h))
same_station (x ∷ z ∷ xs) (y ∷ []) h = absurd (omega (arith, length_permutation (x ∷ z ∷ xs) (y ∷ []) h))
same_station (x ∷ z ∷ xs) (y ∷ w ∷ ys) h = refl

-- a layout has one of two numbers
pub numbered : (layout : Layout) → (1 ≤ layout_number layout) × (layout_number layout ≤ 2)
numbered One = (omega arith, omega arith)
numbered (Two origin) = (omega arith, omega arith)

-- what was added is found
pub added : (layout : Layout) (i : Identity) (trees : Trees) → IsIdentity i → i.circuit < 65536 → HoldsNone layout i.circuit i.member i.members trees → IsStationOf layout i trees
added layout i trees h small made =
    let number = layout_number layout in
    let range = numbered layout in
    ap (λ rows. station_in (map station_columns rows)) made.station
    ∙ rw (
      ranged 1 (omega arith),
      ranged number (omega (arith, range.1)),
      ranged i.circuit (omega (arith, small)),
      ranged i.member (omega (arith, h.within, h.high)),
      ranged i.members (omega (arith, h.high)),
      le-leb 1 number range.0,
      le-leb number 2 range.1,
      le-leb i.circuit 65535 (omega (arith, small)),
      le-leb 1 i.member h.low,
      le-leb i.member i.members h.within,
      le-leb i.members 15 h.high,
    ) refl

-- ---- out of the columns of a station, what they are

at_most : (a b : ℕ) → nat_le a b ≡ true → a ≤ b
at_most a b e = elim (leb_tells a b) [ inl holds ↦ holds.1 | inr fails ↦ absurd (true≢false (sym e ∙ fails.0)) ]

some_pair : (a b : ℕ × Identity) → Some a ≡ Some b → a ≡ b
some_pair a b e = cc

small_is : (z : ℤ) (n : ℕ) → small z ≡ Some n → z ≡ pos n
small_is (pos m) n e = at (nat_lt m (2 ^ 32)) e
  where
    at : (b : Bool) → cond b (Some m) None ≡ Some n → pos m ≡ pos n
    at true f = let same : m ≡ n = cc in ap pos same
    at false f = absurd cc
small_is (negsuc m) n e = absurd cc

whole_is : (v : Value) (n : ℕ) → whole_in v ≡ Some n → v ≡ whole n
whole_is (Int z) n e = ap Int (small_is z n e)
whole_is Null n e = absurd cc
whole_is (Real x) n e = absurd cc
whole_is (Text t) n e = absurd cc
whole_is (Blob b) n e = absurd cc

record IsTold (key layout circuit member members : Option ℕ) (n : ℕ) (i : Identity) : Type 0 where
  key_is : key ≡ Some 1
  layout_is : layout ≡ Some n
  circuit_is : circuit ≡ Some i.circuit
  member_is : member ≡ Some i.member
  members_is : members ≡ Some i.members
  low : 1 ≤ n
  high : n ≤ 2

told : (key layout circuit member members : Option ℕ) (n : ℕ) (i : Identity) → station_from key layout circuit member members ≡ Some (n, i) → IsTold key layout circuit member members n i
told None layout circuit member members n i e = absurd cc
told (Some k) None circuit member members n i e = absurd cc
told (Some k) (Some l) None member members n i e = absurd cc
told (Some k) (Some l) (Some c) None members n i e = absurd cc
told (Some k) (Some l) (Some c) (Some m) None n i e = absurd cc
told (Some k) (Some l) (Some c) (Some m) (Some ms) n i e =
    at (k == 1) ((nat_le 1 l && nat_le l 2) && (nat_le c 65535 && (nat_le 1 m && (nat_le m ms && nat_le ms 15)))) refl refl e
  where
    at : (a b : Bool) → (k == 1) ≡ a → ((nat_le 1 l && nat_le l 2) && (nat_le c 65535 && (nat_le 1 m && (nat_le m ms && nat_le ms 15)))) ≡ b
        → cond {A = Option (ℕ × Identity)} (a && b) (Some (l, record { circuit = c; member = m; members = ms })) None ≡ Some (n, i) → IsTold (Some k) (Some l) (Some c) (Some m) (Some ms) n i
    at false b key rest f = absurd cc
    at true false key rest f = absurd cc
    at true true key rest f =
        let same = some_pair (l, record { circuit = c; member = m; members = ms }) (n, i) f in
        let number : l ≡ n = ap (λ (p : ℕ × Identity). p.0) same in
        let range = and_parts (nat_le 1 l) (nat_le l 2) (and_parts _ _ rest).0 in
        record {
          key_is = ap Some ((Decides-eqb k 1).0 key);
          layout_is = ap Some number;
          circuit_is = ap (λ (p : ℕ × Identity). Some p.1.circuit) same;
          member_is = ap (λ (p : ℕ × Identity). Some p.1.member) same;
          members_is = ap (λ (p : ℕ × Identity). Some p.1.members) same;
          low = omega (arith, number, at_most 1 l range.0);
          high = omega (arith, number, at_most l 2 range.1);
        }

told_by_row : (r : Columns) (n : ℕ) (i : Identity) → station_of r ≡ Some (n, i)
    → IsTold (whole_in (column r 0)) (whole_in (column r 1)) (whole_in (column r 2)) (whole_in (column r 3)) (whole_in (column r 4)) n i
told_by_row r n i e = told (whole_in (column r 0)) (whole_in (column r 1)) (whole_in (column r 2)) (whole_in (column r 3)) (whole_in (column r 4)) n i e

told_in : (rows : List Columns) (n : ℕ) (i : Identity) → station_in rows ≡ Some (n, i) → (r : Columns) × (rows ≡ r ∷ []) × (station_of r ≡ Some (n, i))
told_in [] n i e = absurd cc
told_in (r ∷ []) n i e = (r, refl, e)
told_in (r ∷ s ∷ rs) n i e = absurd cc

-- ---- a station in layout 1, and after its upgrade

-- where a database holds a station in layout 1, the upgrade finds its row
pub lies_in_one : (i : Identity) (db : Trees) → IsStationOf One i db → HasLayoutOne db
lies_in_one i db is =
    let row = one_row (db station_tree) (told_in (map station_columns (db station_tree)) 1 i is) in
    let all = told_by_row (station_columns row.0) 1 i row.2 in
    let key = whole_is (column row.0 0) 1 all.key_is in
    let number = whole_is (column row.0 2) 1 all.layout_is in
    let circuit = whole_is (column row.0 3) i.circuit all.circuit_is in
    let member = whole_is (column row.0 4) i.member all.member_is in
    let members = whole_is (column row.0 5) i.members all.members_is in
    record {
      circuit = i.circuit;
      member = i.member;
      members = i.members;
      row = row.0;
      station = row.1;
      columns = λ j. key j ∷ number j ∷ circuit j ∷ member j ∷ members j ∷ [];
    }
  where
    one_row : (rows : List Columns) → (r : Columns) × (map station_columns rows ≡ r ∷ []) × (station_of r ≡ Some (1, i)) → (r : Columns) × (rows ≡ r ∷ []) × (station_of (station_columns r) ≡ Some (1, i))
    one_row [] found = absurd cc
    one_row (r ∷ []) found = let same : station_columns r ≡ found.0 = cc in (r, refl, ap station_of same ∙ found.2)
    one_row (r ∷ s ∷ rs) found = absurd cc

-- the layout's number is told beside the same station
goes_over : (circuit member members : Option ℕ) (i : Identity) → station_from (Some 1) (Some 1) circuit member members ≡ Some (1, i) → station_from (Some 1) (Some 2) circuit member members ≡ Some (2, i)
goes_over None member members i e = absurd cc
goes_over (Some c) None members i e = absurd cc
goes_over (Some c) (Some m) None i e = absurd cc
goes_over (Some c) (Some m) (Some ms) i e = at (nat_le c 65535 && (nat_le 1 m && (nat_le m ms && nat_le ms 15))) e
  where
    at : (b : Bool) → cond {A = Option (ℕ × Identity)} b (Some (1, record { circuit = c; member = m; members = ms })) None ≡ Some (1, i) → cond {A = Option (ℕ × Identity)} b (Some (2, record { circuit = c; member = m; members = ms })) None ≡ Some (2, i)
    at true f = let same = some_pair (1, record { circuit = c; member = m; members = ms }) (1, i) f in ap (λ (p : ℕ × Identity). Some (2, p.1)) same
    at false f = absurd cc

-- an upgraded database holds the station that it held, in layout 2
pub upgraded_station : (i : Identity) (before db : Trees) (rows : List Columns) → IsStationOf One i before → IsUpgraded before rows db → IsStationOf (Two Upgraded) i db
upgraded_station i before db rows is up =
    let was = up.was in
    let c = whole_in (whole was.circuit) in
    let m = whole_in (whole was.member) in
    let ms = whole_in (whole was.members) in
    let one : whole_in (whole 1) ≡ Some 1 = ranged 1 (omega arith) in
    let two : whole_in (whole 2) ≡ Some 2 = ranged 2 (omega arith) in
    let held : station_from (whole_in (whole 1)) (whole_in (whole 1)) c m ms ≡ Some (1, i) =
    sym (ap (λ rows. station_in (map station_columns rows)) was.station ∙ ap station_of was.columns) ∙ is in
    let first : station_from (Some 1) (Some 1) c m ms ≡ Some (1, i) = ap (λ o. station_from o o c m ms) (sym one) ∙ held in
    ap (λ rows. station_in (map station_columns rows)) up.station
    ∙ ap (λ o. station_from o (whole_in (whole 2)) c m ms) one
    ∙ ap (λ o. station_from (Some 1) o c m ms) two
    ∙ goes_over c m ms i first
