-- What a visitor has seen of a listing, row after row.
use Rattle.std.proofs.Common.{◌≡◌, ◌⊎◌, inl, inr, ℕ, ℤ, Bool, true, false, cond, List, [], ◌∷◌, ◌++◌, Option, Some, None, Result, Ok, Err, is_some, true≢false, IsTrue, refl, sym, ap, subst, ◌∙◌, append_assoc}
use Rattle.std.specs.Prelude.{IsSome, IfSome, IfOk, IfErr}
use Rattle.std.specs.List.{AllByRecursion, filter_map, cons_option}
use Rattle.std.proofs.lemmas.List.{append-nil}
use Rattle.std.proofs.lemmas.List.Elements.{filter_map-append}
use Rattle.sqlite_value.specs.Order.{Row as Columns, column}
use Rattle.sqlite_trees.specs.Tree.{Trees}
use Rattle.sqlite.specs.State.{State}
use Rattle.rows_table.specs.declared.layout.Layout.{Layout}
use Rattle.rows_table.specs.Tables.{layout_tree}
use Rattle.rows_table.specs.Rows.{IsListing, AreRows}
use Rattle.rows_table.specs.Rising.{rise_from, AreListed}
use Rattle.rows_table.specs.Cursor.{ListsFirst}
use Rattle.protocol.specs.Ballots.{Ballot}
use Rattle.protocol.specs.Rows.{Vote, Row, may_stand}
use Rattle.rows_saved.specs.Saved.{HasPromise, IsListOf}
use Rattle.rows_saved.specs.declared.fault.RowsFault.{RowsFault}
use Rattle.acceptor_store.specs.Columns.{whole_in, ballot_from, vote_at, row_in, row_of, row_from, first_of, damage_of, damage_in, item_from, item_in, saved_in, AreSound}
use Rattle.acceptor_store.specs.Sqlite.{Lists, IsRefusal}
use Rattle.acceptor_store.specs.declared.reading.RowReader.{RowReader}
use Rattle.acceptor_store.specs.Reading.{SeesFront, SeesAll, HasSeen}
use Rattle.acceptor_store.proofs.ListLemmas.{lists, no_damage}

-- ---- what is damaged stays so, whatever comes behind it

first_some : (a b : Option ℤ) → IsSome b → IsSome (first_of a b)
first_some None b some = some
first_some (Some z) b some = refl

first_grows : (a b c : Option ℤ) → (IsSome b → IsSome c) → IsSome (first_of a b) → IsSome (first_of a c)
first_grows None b c grows some = grows some
first_grows (Some z) b c grows some = refl

damage_stays : (layout : Layout) (rows more : List Columns) → IsSome (damage_in layout rows) → IsSome (damage_in layout (rows ++ more))
damage_stays layout [] more some = absurd (true≢false (sym some))
damage_stays layout (r ∷ rs) more some = first_grows (damage_of (column r 0) (row_in layout 1 r)) _ _ (damage_stays layout rs more) some

damage_last : (layout : Layout) (rows : List Columns) (c : Columns) → IsSome (damage_of (column c 0) (row_in layout 1 c)) → IsSome (damage_in layout (rows ++ c ∷ []))
damage_last layout [] c some = first_grows (damage_of (column c 0) (row_in layout 1 c)) None None (λ none. none) (first_some_left _ some)
  where
    first_some_left : (a : Option ℤ) → IsSome a → IsSome (first_of a None)
    first_some_left None none = none
    first_some_left (Some z) some = refl
damage_last layout (r ∷ rs) c some = first_some (damage_of (column r 0) (row_in layout 1 r)) _ (damage_last layout rs c some)

-- ---- one row more

module _ {V : Type 0} (saw : V → V → List (ℕ × Row) → Type 0) (layout : Layout) (was : V) (rows : List Columns) (c : Columns) where
  -- after a fault none is shown
  pub seen_after : (fault : Option RowsFault) (now : V) → IsSome fault → HasSeen saw layout fault was now rows → HasSeen saw layout fault was now (rows ++ c ∷ [])
  seen_after fault now some h = record {
    seen = h.seen;
    unseen = h.unseen ++ c ∷ [];
    are = ap (λ l. l ++ c ∷ []) h.are ∙ append_assoc h.seen h.unseen (c ∷ []);
    all = λ none. absurd (true≢false (sym some ∙ ap is_some none));
    saw_them = h.saw_them;
    cause = at fault h.cause;
  }
    where
      at : (f : Option RowsFault) → IfSome f (λ x. IsRefusal x ⊎ IsSome (damage_in layout rows)) → IfSome f (λ x. IsRefusal x ⊎ IsSome (damage_in layout (rows ++ c ∷ [])))
      at None t = tt
      at (Some x) (inl refusal) = inl refusal
      at (Some x) (inr damaged) = inr (damage_stays layout rows (c ∷ []) damaged)

  -- a row with a fault is not shown
  pub seen_at_fault : (now : V) (fault : RowsFault) → IsRefusal fault ⊎ IsSome (damage_of (column c 0) (row_in layout 1 c)) → HasSeen saw layout None was now rows → HasSeen saw layout (Some fault) was now (rows ++ c ∷ [])
  seen_at_fault now fault cause h = record {
    seen = h.seen;
    unseen = h.unseen ++ c ∷ [];
    are = ap (λ l. l ++ c ∷ []) h.are ∙ append_assoc h.seen h.unseen (c ∷ []);
    all = λ none. absurd cc;
    saw_them = h.saw_them;
    cause = at cause;
  }
    where
      at : IsRefusal fault ⊎ IsSome (damage_of (column c 0) (row_in layout 1 c)) → IsRefusal fault ⊎ IsSome (damage_in layout (rows ++ c ∷ []))
      at (inl refusal) = inl refusal
      at (inr damaged) = inr (damage_last layout rows c damaged)

  -- and the number and row of any other is
  pub seen_more : (mid now : V) (item : ℕ × Row) → item_in layout c ≡ Some item → ((items : List (ℕ × Row)) → saw was mid items → saw was now (items ++ item ∷ [])) → HasSeen saw layout None was mid rows → HasSeen saw layout None was now (rows ++ c ∷ [])
  seen_more mid now item is more h =
      let whole : rows ≡ h.seen = h.are ∙ ap (λ l. h.seen ++ l) (h.all refl) ∙ append-nil h.seen in
      let items : filter_map (item_in layout) (rows ++ c ∷ []) ≡ filter_map (item_in layout) h.seen ++ item ∷ [] =
      filter_map-append (item_in layout) rows (c ∷ []) ∙ (rw (is, whole) refl) in
      record {
        seen = rows ++ c ∷ [];
        unseen = [];
        are = sym (append-nil (rows ++ c ∷ []));
        all = λ none. refl;
        saw_them = subst (saw was now) (sym items) (more (filter_map (item_in layout) h.seen) h.saw_them);
        cause = tt;
      }

-- ---- a listing of sound rows is the map

from_promise : (promise : Option Ballot) (vote : Option (Option Vote)) (row : Row) → row_from promise vote ≡ Some row → HasPromise row
from_promise None vote row e = absurd cc
from_promise (Some p) None row e = absurd cc
from_promise (Some p) (Some v) row e = at (may_stand (Some p) v) e
  where
    at : (b : Bool) → cond b (Some (row_of p v)) None ≡ Some row → HasPromise row
    at true f = let is : row_of p v ≡ row = cc in subst HasPromise is refl
    at false f = absurd cc

item_promise : (n : Option ℕ) (o : Option Row) (p : ℕ × Row) → ((row : Row) → o ≡ Some row → HasPromise row) → item_from n o ≡ Some p → HasPromise p.1
item_promise None o p has e = absurd cc
item_promise (Some n) None p has e = absurd cc
item_promise (Some n) (Some row) p has e = at _ e
  where
    at : (b : Bool) → cond b (Some (n, row)) None ≡ Some p → HasPromise p.1
    at true f = let is : row ≡ p.1 = cc in subst HasPromise is (has row refl)
    at false f = absurd cc

promised : (layout : Layout) (rows : List Columns) → AllByRecursion (λ (p : ℕ × Row). HasPromise p.1) (filter_map (item_in layout) rows)
promised layout [] = tt
promised layout (r ∷ rs) = at (item_in layout r) refl (promised layout rs)
  where
    at : (o : Option (ℕ × Row)) → item_in layout r ≡ o → AllByRecursion (λ (p : ℕ × Row). HasPromise p.1) (filter_map (item_in layout) rs)
        → AllByRecursion (λ (p : ℕ × Row). HasPromise p.1) (cons_option o (filter_map (item_in layout) rs))
    at None is rest = rest
    at (Some p) is rest = (item_promise (whole_in (column r 0)) (row_in layout 1 r) p (λ row e. from_promise (ballot_from (whole_in (column r 1)) (whole_in (column r 2))) (vote_at layout 3 r) row e) is, rest)

-- what is known of every listing
abbrev pub Rise : Type 0
Rise = (layout : Layout) (table rows : List Columns) → IsListing layout table rows → AreRows table → rise_from None rows ≡ true

abbrev pub Listed : Type 0
Listed = (layout : Layout) (table rows : List Columns) → IsListing layout table rows → rise_from None rows ≡ true → AreListed layout table rows

module _ (rise : Rise) (listed : Listed) (layout : Layout) (trees : Trees) (are : AreRows (trees (layout_tree layout))) (sound : AreSound layout (trees (layout_tree layout))) (rows : List Columns)
    (listing : IsListing layout (trees (layout_tree layout)) rows) where
  rose : rise_from None rows ≡ true
  rose = rise layout (trees (layout_tree layout)) rows listing are

  is_listed : AreListed layout (trees (layout_tree layout)) rows
  is_listed = listed layout (trees (layout_tree layout)) rows listing rose

  pub undamaged : damage_in layout rows ≡ None
  undamaged = no_damage layout (trees (layout_tree layout)) rows is_listed.each sound

  pub is_map : IsListOf (saved_in layout trees) (filter_map (item_in layout) rows)
  is_map = lists layout (trees (layout_tree layout)) rows (saved_in layout trees) (λ n. refl) is_listed rose undamaged (promised layout rows)

module _ (rise : Rise) (listed : Listed) (layout : Layout) (s : State) (are : IsTrue s.is_open → AreRows (s.now.trees (layout_tree layout))) (sound : IsTrue s.is_open → AreSound layout (s.now.trees (layout_tree layout)))
    {V : Type 0} (saw : V → V → List (ℕ × Row) → Type 0) (was now : V) (fault : Option RowsFault) (rows : List Columns) (h : HasSeen saw layout fault was now rows) where
  module _ (lists_first : ListsFirst layout s rows) where
    -- what was seen begins the map
    pub front_seen : SeesFront saw was now (saved_in layout s.now.trees)
    front_seen =
        let all = is_map rise listed layout s.now.trees (are lists_first.0) (sound lists_first.0) (rows ++ lists_first.1) lists_first.2 in
        let parts : filter_map (item_in layout) (rows ++ lists_first.1) ≡ filter_map (item_in layout) h.seen ++ filter_map (item_in layout) (h.unseen ++ lists_first.1) =
        ap (λ l. filter_map (item_in layout) (l ++ lists_first.1)) h.are ∙ ap (filter_map (item_in layout)) (append_assoc h.seen h.unseen lists_first.1) ∙ filter_map-append (item_in layout) h.seen (h.unseen ++ lists_first.1) in
        inr (filter_map (item_in layout) h.seen, (filter_map (item_in layout) (h.unseen ++ lists_first.1), subst (IsListOf (saved_in layout s.now.trees)) parts all), h.saw_them)

    -- no fault speaks of a row
    pub refused : (f : RowsFault) → fault ≡ Some f → IsRefusal f
    refused f is = at (subst (λ x. IfSome x (λ y. IsRefusal y ⊎ IsSome (damage_in layout rows))) is h.cause)
      where
        at : IsRefusal f ⊎ IsSome (damage_in layout rows) → IsRefusal f
        at (inl refusal) = refusal
        at (inr damaged) =
            let none = undamaged rise listed layout s.now.trees (are lists_first.0) (sound lists_first.0) (rows ++ lists_first.1) lists_first.2 in
            absurd (true≢false (sym (damage_stays layout rows lists_first.1 damaged) ∙ ap is_some none))

-- ---- what a reader leaves

module _ {V : Type 0} (rise : Rise) (listed : Listed) (saw : V → V → List (ℕ × Row) → Type 0) (layout : Layout) (s : State) (old new : RowReader V) (fresh : old.fault ≡ None) (same_layout : old.layout ≡ layout) where
  -- the one leads to the other by the rows of a listing
  abbrev pub Leads : List Columns → Type 0
  Leads rows = (old.visitor.ghost_name ≡ new.visitor.ghost_name) × (new.layout ≡ old.layout) × (old.fault ≡ None → HasSeen saw old.layout new.fault old.visitor.now new.visitor.now rows)

  seen_of : (rows : List Columns) → Leads rows → HasSeen saw layout new.fault old.visitor.now new.visitor.now rows
  seen_of rows leads = subst (λ (l : Layout). HasSeen saw l new.fault old.visitor.now new.visitor.now rows) same_layout (leads.2 fresh)

  module _ (are : IsTrue s.is_open → AreRows (s.now.trees (layout_tree layout))) (sound : IsTrue s.is_open → AreSound layout (s.now.trees (layout_tree layout)))
      (first : (new ≡ old) ⊎ ((rows : List Columns) × ListsFirst layout s rows × Leads rows)) where
    pub front_read : SeesFront saw old.visitor.now new.visitor.now (saved_in layout s.now.trees)
    front_read = elim first [
      | inl same ↦ inl (ap (λ (r : RowReader V). r.visitor.now) same)
      | inr h ↦ front_seen rise listed layout s are sound saw old.visitor.now new.visitor.now new.fault h.0 (seen_of h.0 h.2) h.1
    ]

    pub refusal_read : (r : Result Bool RowsFault) → IfErr r (λ f. new.fault ≡ Some f) → IfErr r IsRefusal
    refusal_read (Ok all) h = tt
    refusal_read (Err f) h = elim first [
      | inl same ↦ absurd (let none : None ≡ Some f = sym (ap (λ (r : RowReader V). r.fault) same ∙ fresh) ∙ h in cc)
      | inr h' ↦ refused rise listed layout s are sound saw old.visitor.now new.visitor.now new.fault h'.0 (seen_of h'.0 h'.2) h'.1 f h
    ]

  module _ (are : AreRows (s.now.trees (layout_tree layout))) (sound : AreSound layout (s.now.trees (layout_tree layout))) where
    whole_read : new.fault ≡ None → Lists layout s.now.trees Leads → SeesAll saw old.visitor.now new.visitor.now (saved_in layout s.now.trees)
    whole_read none h =
        let seen = seen_of h.0 h.2 in
        let whole : h.0 ≡ seen.seen = seen.are ∙ ap (λ l. seen.seen ++ l) (seen.all none) ∙ append-nil seen.seen in (
          filter_map (item_in layout) seen.seen,
          subst (λ l. IsListOf (saved_in layout s.now.trees) (filter_map (item_in layout) l)) whole (is_map rise listed layout s.now.trees are sound h.0 h.1),
          seen.saw_them,
        )

    pub all_read : (all : Bool) → (IsTrue all → Lists layout s.now.trees Leads) → (r : Result Bool RowsFault) → IfOk r (λ of_all. (new.fault ≡ None) × (of_all ≡ all))
        → IfOk r (λ of_all. IsTrue of_all → SeesAll saw old.visitor.now new.visitor.now (saved_in layout s.now.trees))
    all_read all lists (Ok of_all) h = λ sure. whole_read h.0 (lists (subst IsTrue h.1 sure))
    all_read all lists (Err f) h = tt
