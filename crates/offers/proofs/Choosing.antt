-- The file that comes first, by the first of its group.
use Rattle.std.proofs.Common.{◌≡◌, ℕ, ◌<◌, ◌≤◌, ◌⊎◌, inl, inr, List, Option, Some, None, IfSome, Bool, true, false, length, get_or, not, refl, sym, ◌∙◌, arith}
use Rattle.std.proofs.lemmas.Bool.{cases_lt}
use Rattle.std.proofs.lemmas.List.{get_or_default}
use Rattle.offers.specs.declared.offer.Offer.{Offer}
use Rattle.offers.specs.Asks.{IsNoLater, turn_at, group_of, is_search_turn, IsFirstAsk, MatchFirstAsk, MatchSoonest, IsSoonest}
use Rattle.offers.specs.Left.{NoneAmong}
use Rattle.offers.specs.Order.{rank, Rises, is_search}
use Rattle.offers.specs.Rules.{Standing, only_of, ask_moment_of, ask_moment_among}
use Rattle.offers.proofs.Asking.{standing_at}
use Rattle.offers.proofs.Editing.{ordered}

-- ---- of one file: whether the searches go first, whether it is one, and its moment

-- what has a moment in the group that goes first
turn_first : (s k : Bool) (m : Option ℕ) (own place : ℕ) → only_of s k m ≡ Some own → turn_at (group_of s k) place m ≡ Some (record { group = 0; moment = own; place = place })
turn_first true true None own place e = cc
turn_first true true (Some x) own place e = cc
turn_first true false m own place e = cc
turn_first false true m own place e = cc
turn_first false false None own place e = cc
turn_first false false (Some x) own place e = cc

-- and in the other
turn_second : (s k : Bool) (m : Option ℕ) (own place : ℕ) → only_of (not s) k m ≡ Some own → turn_at (group_of s k) place m ≡ Some (record { group = 1; moment = own; place = place })
turn_second true true m own place e = cc
turn_second true false None own place e = cc
turn_second true false (Some x) own place e = cc
turn_second false true None own place e = cc
turn_second false true (Some x) own place e = cc
turn_second false false m own place e = cc

-- another comes no sooner, where it has a later moment, or the same and a place that is no less
later_first : (s k : Bool) (m : Option ℕ) (moment place at : ℕ) → IfSome (only_of s k m) (λ other. (moment < other) ⊎ ((moment ≡ other) × (place ≤ at))) → IfSome (turn_at (group_of s k) at m) (λ other. IsNoLater (record { group = 0; moment = moment; place = place }) other)
later_first s k None moment place at h = tt
later_first true true (Some x) moment place at h = inr (refl, h)
later_first true false (Some x) moment place at h = inl (omega arith)
later_first false true (Some x) moment place at h = inl (omega arith)
later_first false false (Some x) moment place at h = inr (refl, h)

later_second : (s k : Bool) (m : Option ℕ) (moment place at : ℕ) → only_of s k m ≡ None → IfSome (only_of (not s) k m) (λ other. (moment < other) ⊎ ((moment ≡ other) × (place ≤ at))) → IfSome (turn_at (group_of s k) at m) (λ other. IsNoLater (record { group = 1; moment = moment; place = place }) other)
later_second s k None moment place at none h = tt
later_second true true (Some x) moment place at none h = cc
later_second true false (Some x) moment place at none h = inr (refl, h)
later_second false true (Some x) moment place at none h = inr (refl, h)
later_second false false (Some x) moment place at none h = cc

-- of neither group is none
of_neither : (s k : Bool) (m : Option ℕ) → only_of s k m ≡ None → only_of (not s) k m ≡ None → m ≡ None
of_neither true true m a b = a
of_neither true false m a b = b
of_neither false true m a b = b
of_neither false false m a b = a

-- ---- of all files

-- a later moment, or the same and a later place
or_later : (x : Option ℕ) (moment place at : ℕ) → place ≤ at → IfSome x (λ own. moment ≤ own) → IfSome x (λ other. (moment < other) ⊎ ((moment ≡ other) × (place ≤ at)))
or_later None moment place at le h = tt
or_later (Some own) moment place at le h = elim (cases_lt moment own) [
  | inl later ↦ inl later
  | inr no_later ↦ inr (omega arith, le)
]

surely_later : (x : Option ℕ) (moment place at : ℕ) → IfSome x (λ own. moment < own) → IfSome x (λ other. (moment < other) ⊎ ((moment ≡ other) × (place ≤ at)))
surely_later None moment place at h = tt
surely_later (Some own) moment place at h = inl h

-- the first of a group comes before the others of it
first_of_group : (f : Offer → Option ℕ) (files : List Offer) (index moment : ℕ) (o : Offer) → Rises files → IsSoonest f files index moment → o ≡ get_or files index o → (i : ℕ) (d : Offer) → i < length files → IfSome (f (get_or files i d)) (λ other. (moment < other) ⊎ ((moment ≡ other) × (rank o.request ≤ rank (get_or files i d).request)))
first_of_group f files index moment o rises s at i d lt = elim (cases_lt i index) [
  | inl before ↦ surely_later _ moment _ _ (s.least i d before)
  | inr behind ↦
      let own : o ≡ get_or files index d = at ∙ get_or_default files index o d s.within in
      let place : rank o.request ≤ rank (get_or files i d).request = rw own (ordered 0 files index i d rises behind lt) in
      or_later _ moment _ _ place (s.first i d lt)
]

by_first : (b : Standing) (index moment : ℕ) → Rises b.files → IsSoonest (ask_moment_among (is_search_turn b) b) b.files index moment → IsFirstAsk b index
by_first b index moment rises s =
    let file = standing_at b.files index s.within in
    let o = file.0 in (
      record { group = 0; moment = moment; place = rank o.request },
      record {
        within = s.within;
        is = λ d.
            let own : get_or b.files index d ≡ o = get_or_default b.files index d o s.within ∙ sym file.1 in
            rw own (turn_first (is_search_turn b) (is_search o.request.kind) (ask_moment_of b o) moment (rank o.request) (rw own at (s.is d)));
        first = λ i d lt. later_first (is_search_turn b) _ _ moment _ _ (first_of_group _ b.files index moment o rises s file.1 i d lt);
      },
    )

by_second : (b : Standing) (index moment : ℕ) → Rises b.files → NoneAmong (ask_moment_among (is_search_turn b) b) b.files → IsSoonest (ask_moment_among (not (is_search_turn b)) b) b.files index moment → IsFirstAsk b index
by_second b index moment rises none s =
    let file = standing_at b.files index s.within in
    let o = file.0 in (
      record { group = 1; moment = moment; place = rank o.request },
      record {
        within = s.within;
        is = λ d.
            let own : get_or b.files index d ≡ o = get_or_default b.files index d o s.within ∙ sym file.1 in
            rw own (turn_second (is_search_turn b) (is_search o.request.kind) (ask_moment_of b o) moment (rank o.request) (rw own at (s.is d)));
        first = λ i d lt. later_second (is_search_turn b) _ _ moment _ _ (none i d lt) (first_of_group _ b.files index moment o rises s file.1 i d lt);
      },
    )

second_of : (b : Standing) (x : Option (ℕ × ℕ)) → Rises b.files → NoneAmong (ask_moment_among (is_search_turn b) b) b.files → MatchSoonest (ask_moment_among (not (is_search_turn b)) b) b.files x → MatchFirstAsk b x
second_of b None rises none s = λ i d lt. of_neither (is_search_turn b) _ _ (none i d lt) (s i d lt)
second_of b (Some own) rises none s = by_second b own.0 own.1 rises none s

-- whether the searches go first may be told in other words
pub first_found : (b : Standing) (searches : Bool) (first : ℕ × ℕ) → searches ≡ is_search_turn b → Rises b.files → IsSoonest (ask_moment_among searches b) b.files first.0 first.1 → IsFirstAsk b first.0
first_found b searches first turn rises s = by_first b first.0 first.1 rises (rw turn at s)

pub second_found : (b : Standing) (searches : Bool) (x : Option (ℕ × ℕ)) → searches ≡ is_search_turn b → Rises b.files → NoneAmong (ask_moment_among searches b) b.files → MatchSoonest (ask_moment_among (not searches) b) b.files x → MatchFirstAsk b x
second_found b searches x turn rises none s = second_of b x rises (rw turn at none) (rw turn at s)
