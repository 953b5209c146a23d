-- No search starves: where eight others were asked for since the last, the next ask is for a search.
use Rattle.std.proofs.Common.{◌≡◌, ℕ, ◌<◌, ◌≤◌, ◌+◌, inl, inr, List, [], ◌∷◌, Option, Some, None, IfSome, Bool, true, false, length, get_or, min, refl, ap, ◌∙◌, arith}
use Rattle.std.proofs.lemmas.Bool.Decides.{nat_tests}
use Rattle.std.specs.List.{list_any}
use Rattle.folders.specs.declared.names.OfferKind.{OfferKind}
use Rattle.folders.specs.declared.names.FileRequest.{FileRequest}
use Rattle.offers.specs.declared.deed.Allowed.{Allowed}
use Rattle.offers.specs.declared.deed.Deed.{Deed}
use Rattle.offers.specs.declared.deed.Deed.TheVariants.{Move, Ask, Read, Refuse}
use Rattle.offers.specs.Asks.{Turn, IsNoLater, turn_at, group_of, is_search_turn}
use Rattle.offers.specs.Fairness.{Asked, AreAsks, SearchesAreAskedFor}
use Rattle.offers.specs.Left.{NoSearches}
use Rattle.offers.specs.Order.{is_search}
use Rattle.offers.specs.Rules.{Standing, only_of}
use Rattle.offers.specs.Turns.{AsksFirst, IsInTurn, PassesFew, since_ask}
use Rattle.offers.proofs.Asking.{standing_at}
use Rattle.offers.proofs.Editing.{two_ways}

-- where the searches go first, one that is none is of the group behind them
is_behind : (turn k : Bool) (place : ℕ) (m : Option ℕ) (t : Turn) → turn ≡ true → k ≡ false → turn_at (group_of turn k) place m ≡ Some t → t.group ≡ 1
is_behind true false place None t a b e = cc
is_behind true false place (Some x) t a b e = cc
is_behind true true place m t a b e = cc
is_behind false k place m t a b e = cc

-- and one that comes no sooner is no search
is_none : (turn k : Bool) (place : ℕ) (m : Option ℕ) (t : Turn) → turn ≡ true → t.group ≡ 1 → IfSome (turn_at (group_of turn k) place m) (λ other. IsNoLater t other) → only_of true k m ≡ None
is_none true true place None t a g h = refl
is_none true true place (Some x) t a g (inl less) = absurd (omega arith)
is_none true true place (Some x) t a g (inr same) = absurd (omega (arith, same.0))
is_none true false place m t a g h = refl
is_none false k place m t a g h = cc

-- where the searches go first and one that is none is asked for, the station may be asked for no search
no_searches : (b : Standing) (r : FileRequest) → is_search_turn b ≡ true → AsksFirst b (Ask r) → is_search r.kind ≡ false → NoSearches b
no_searches b r turn h kind =
    let first = h.1.1 in
    let file = standing_at b.files h.0 first.within in
    let other : is_search (get_or b.files h.0 file.0).request.kind ≡ false = ap (λ (q : FileRequest). is_search q.kind) (h.2 file.0) ∙ kind in
    let behind = is_behind (is_search_turn b) (is_search (get_or b.files h.0 file.0).request.kind) _ _ h.1.0 turn other (first.is file.0) in
    λ i d lt. is_none (is_search_turn b) _ _ _ h.1.0 turn behind (first.first i d lt)

pub passes_few : (b : Standing) (r : FileRequest) → AsksFirst b (Ask r) → PassesFew b (Ask r)
passes_few b r h = elim (two_ways (is_search r.kind)) [
  | inl search ↦ inl search
  | inr other ↦ elim (two_ways (is_search_turn b)) [
    | inl turn ↦ inr (inr (no_searches b r turn h other))
    | inr no_turn ↦ inr (inl (grind (arith, nat_tests)))
  ]
]

-- what is handed out in turn passes few searches over
pub fair_in_turn : (b : Standing) (allowed : Allowed) (r : Option Deed) → IsInTurn b allowed r → IfSome r (PassesFew b)
fair_in_turn b allowed None h = tt
fair_in_turn b allowed (Some (Move r found to)) h = tt
fair_in_turn b allowed (Some (Ask r)) h = passes_few b r h.1.1.1
fair_in_turn b allowed (Some (Read r found replaced)) h = tt
fair_in_turn b allowed (Some (Refuse r found why)) h = tt

-- ---- over any number of asks

-- one that is no search counts one more
counts : (k : OfferKind) (since : ℕ) → is_search k ≡ false → since_ask k since ≡ min (since + 1) 8
counts k since e = rw e refl

any_search : (asks : List Asked) (since : ℕ) → AreAsks since asks → 9 ≤ length asks + min since 8 → list_any (λ (a : Asked). is_search a.request.kind) asks ≡ true
any_search [] since h enough = absurd (omega arith)
any_search (a ∷ rest) since h enough = elim (two_ways (is_search a.request.kind)) [
  | inl search ↦ rw search refl
  | inr other ↦ elim (passes_few a.book a.request h.2) [
    | inl search ↦ cc
    | inr few ↦ elim few [
      | inl less ↦
          let below : since < 8 = omega (arith, h.0, less) in
          let next = rw (counts a.request.kind since other) at h.3 in
          rw other (any_search rest (min (since + 1) 8) next (omega arith))
      | inr none ↦ absurd (h.1 none)
    ]
  ]
]

pub searches_are_asked_for : SearchesAreAskedFor
searches_are_asked_for = λ since asks h enough. any_search asks since h (omega arith)
