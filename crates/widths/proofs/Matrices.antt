-- The matrices of a table, one after another.
use Rattle.std.proofs.Common.{◌≡◌, ℕ, zero, suc, ◌+◌, ◌-◌, ◌<◌, ◌≤◌, List, [], ◌∷◌, ◌++◌, length, map, String, Global, Ok, Err, Less, nat_cmp, string_bytes, refl, ap, arith, append_assoc, length-append, zero-add, add-one}
use Rattle.std.proofs.lemmas.List.{map-append, append-nil}
use Rattle.std.specs.Cmp.Lexicographic.{slice_cmp}
use Rattle.std.specs.List.{AllByRecursion}
use Rattle.std.specs.List.Sorted.{IsStrictlySortedBy}
use Rattle.std.specs.Map.{keys_of}
use Rattle.std.specs.String.{string_cmp}
use Rattle.toml.specs.Data.{Members}
use Rattle.toml.specs.View.{view, members_view}
use Rattle.toml.specs.declared.value.Value.{Value}
use Rattle.widths.specs.Widths.{IsWidth, IsInNameOrder}
use Rattle.widths.specs.Numbers.{◌>>=◌}
use Rattle.widths.specs.Reading.{read_entry, count, member_at, first_entries, all_entries, put_in_order, in_name_order, read_matrix}
use Rattle.widths.specs.declared.entry.MatrixWidth.{MatrixWidth}
use Rattle.widths.specs.declared.fault.WidthFault.{WidthFault}

abbrev pub Member : Type 0
Member = String Global × Value

-- the keys of a table of the code ascend
abbrev pub AreInOrder : List Member → Type 0
AreInOrder members = IsStrictlySortedBy string_cmp (keys_of members)

-- members that ascend are in order already
put_first : (first : Member) (rest : List Member) → AllByRecursion (λ y. string_cmp first.0 y ≡ Less) (keys_of rest) → put_in_order (string_bytes first.0) (view first.1) (members_view rest) ≡ members_view (first ∷ rest)
put_first first [] h = refl
put_first first (second ∷ rest) h = rw h.0 refl

ordered : (members : List Member) → AreInOrder members → in_name_order (members_view members) ≡ members_view members
unfolding IsStrictlySortedBy
ordered [] h = refl
ordered (first ∷ rest) h = rw (ordered rest h.1) (put_first first rest h.0)

counted : (members : List Member) → count (members_view members) ≡ length members
counted [] = refl
counted (first ∷ rest) = ap suc (counted rest)

-- the member behind others
member_is : (before : List Member) (first : Member) (left : List Member) → member_at (members_view (before ++ first ∷ left)) (length before) ≡ (string_bytes first.0, view first.1)
member_is [] first left = refl
member_is (other ∷ before) first left = member_is before first left

-- a fault of the first members is the fault of more
fault_stays : (table : Members) (more n : ℕ) (fault : WidthFault) → first_entries table n ≡ Err fault → first_entries table (more + n) ≡ Err fault
fault_stays table zero n fault h = rw zero-add h
fault_stays table (suc more) n fault h =
    let next : suc more + n ≡ suc (more + n) = omega arith in
    rw (next, fault_stays table more n fault h) refl

fault_of_all : (table : Members) (n : ℕ) (fault : WidthFault) → n ≤ count table → first_entries table n ≡ Err fault → all_entries table ≡ Err fault
fault_of_all table n fault le h =
    let all : (count table - n) + n ≡ count table = omega arith in
    rw all at (fault_stays table (count table - n) n fault h)

-- how far the members were read: the matrices of those before
pub record ReadSoFar (members : List Member) (entries : List MatrixWidth) (left : List Member) : Type 0 where
  pub before : List Member
  pub all : before ++ left ≡ members
  pub number : length entries ≡ length before
  pub read : first_entries (members_view members) (length entries) ≡ Ok entries
  pub names : map (λ e. e.name) entries ≡ map (λ m. string_bytes m.0) before
  pub widths : AllByRecursion (λ e. IsWidth e.width) entries

all_more : {A : Type 0} (P : A → Type 0) (xs : List A) (x : A) → AllByRecursion P xs → P x → AllByRecursion P (xs ++ x ∷ [])
all_more P [] x h p = (p, tt)
all_more P (y ∷ ys) x h p = (h.0, all_more P ys x h.1 p)

module _ (members : List Member) (entries : List MatrixWidth) (name : String Global) (value : Value) (left : List Member) (so_far : ReadSoFar members entries ((name, value) ∷ left)) where
  here : member_at (members_view members) (length entries) ≡ (string_bytes name, view value)
  here = rw (so_far.number, ← so_far.all) (member_is so_far.before (name, value) left)

  next : first_entries (members_view members) (suc (length entries)) ≡ (read_entry (length entries + 1) (string_bytes name) (view value) >>= (λ entry. Ok (entries ++ entry ∷ [])))
  next = rw (so_far.read, here, add-one) refl

  within : length entries < length members
  within =
      let long : length (so_far.before ++ (name, value) ∷ left) ≡ length so_far.before + suc (length left) = rw length-append refl in
      let all : length (so_far.before ++ (name, value) ∷ left) ≡ length members = ap length so_far.all in
      omega (arith, so_far.number)

  pub goes_on : (entry : MatrixWidth) → read_entry (length entries + 1) (string_bytes name) (view value) ≡ Ok entry → entry.name ≡ string_bytes name → IsWidth entry.width → ReadSoFar members (entries ++ entry ∷ []) left
  goes_on entry h named range =
      let long : length (entries ++ entry ∷ []) ≡ suc (length entries) = rw (length-append, add-one) refl in
      let before : length (so_far.before ++ (name, value) ∷ []) ≡ suc (length so_far.before) = rw (length-append, add-one) refl in
      record {
        before = so_far.before ++ (name, value) ∷ [];
        all = rw append_assoc so_far.all;
        number = omega (arith, so_far.number);
        read = rw long (rw h at next);
        names = rw (map-append (λ e. e.name) entries (entry ∷ []), map-append (λ m. string_bytes m.0) so_far.before ((name, value) ∷ []), so_far.names, named) refl;
        widths = all_more (λ e. IsWidth e.width) entries entry so_far.widths range;
      }

  pub stops : (fault : WidthFault) → AreInOrder members → read_entry (length entries + 1) (string_bytes name) (view value) ≡ Err fault → read_matrix (members_view members) ≡ Err fault
  unfolding read_matrix
  stops fault order h = rw (ordered members order) (fault_of_all (members_view members) (suc (length entries)) fault (omega (arith, within, counted members)) (rw h at next))

pub ends : (members : List Member) (entries : List MatrixWidth) → AreInOrder members → ReadSoFar members entries [] → read_matrix (members_view members) ≡ Ok entries
unfolding read_matrix
ends members entries order so_far =
    let all : so_far.before ≡ members = rw append-nil at so_far.all in
    let number : count (members_view members) ≡ length entries = rw (counted members, so_far.number, all) refl in
    rw (ordered members order, number) so_far.read

-- the names ascend as the keys of the table
after : (first : String Global) (rest : List Member) → AllByRecursion (λ y. string_cmp first y ≡ Less) (keys_of rest) → AllByRecursion (λ y. slice_cmp nat_cmp (string_bytes first) y ≡ Less) (map (λ m. string_bytes m.0) rest)
after first [] h = tt
after first (second ∷ rest) h = (h.0, after first rest h.1)

ascend : (members : List Member) → AreInOrder members → IsStrictlySortedBy (slice_cmp nat_cmp) (map (λ m. string_bytes m.0) members)
unfolding IsStrictlySortedBy
ascend [] h = tt
ascend (first ∷ rest) h = (after first.0 rest h.0, ascend rest h.1)

pub ascends : (members : List Member) (entries : List MatrixWidth) → AreInOrder members → ReadSoFar members entries [] → IsInNameOrder entries
ascends members entries order so_far =
    let all : so_far.before ≡ members = rw append-nil at so_far.all in
    rw (so_far.names, all) (ascend members order)
