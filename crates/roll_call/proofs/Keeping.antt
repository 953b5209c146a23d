-- What was asked for is kept, and what was not changes nothing.
use Rattle.std.proofs.Common.{◌≡◌, ℕ, Bool, true, false, cond, List, refl, sym, ap, ◌∙◌, true≢false, Some}
use Rattle.std.specs.Prelude.{◌-◌, slice_index}
use Rattle.std.proofs.lemmas.List.{set-get_or, get_or-set_same}
use Rattle.rolls.specs.Votes.{how_many}
use Rattle.rolls.specs.Rolls.{Body}
use Rattle.rolls.specs.Rolls as bodies
use Rattle.roll_call.specs.Tellers.{TellerValue, silent, told_counts, told_page}
use Rattle.roll_call.specs.Asks.{teller_at, with_teller, is_asked_for}
use Rattle.roll_call.specs.Topics.{the_counts}
use Rattle.roll_call.specs.RollCall.{RollCallValue}
use Rattle.roll_call.specs.Laws.{heard_of, tells, PassesOver, KeepsCounts, KeepsPage}

if_not : {X : Type 0} (b : Bool) (x y : X) → b ≡ false → cond b x y ≡ y
if_not true x y is = absurd (true≢false is)
if_not false x y is = refl

if_so : {X : Type 0} (b : Bool) (x y : X) → b ≡ true → cond b x y ≡ x
if_so true x y is = refl
if_so false x y is = absurd (true≢false (sym is))

-- the member at a place stays
unchanged : (c : RollCallValue) (place : ℕ) (t : TellerValue) → t ≡ teller_at place c.asks.tellers → record c { asks = with_teller place t c.asks } ≡ c
unchanged c place t is =
    ap (λ (t : TellerValue). record c { asks = with_teller place t c.asks }) is
    ∙ ap (λ (ts : List TellerValue). record c { asks = record c.asks { tellers = ts } }) (set-get_or c.asks.tellers place silent)

pub passes : PassesOver
passes c member asked bodies.CountsAsked tells none = absurd (true≢false (sym tells))
passes c member asked (bodies.PageAsked page) tells none = absurd (true≢false (sym tells))
passes c member asked (bodies.Counts counts) tells none =
    unchanged c (member - 1) (told_counts asked counts (teller_at (member - 1) c.asks.tellers)) (if_not (is_asked_for member asked the_counts c.asks) _ _ none)
passes c member asked (bodies.Page page bytes) tells none =
    unchanged c (member - 1) (told_page asked page (how_many (record { page = page; bytes = bytes })) (teller_at (member - 1) c.asks.tellers))
    (if_not (is_asked_for member asked (Some page) c.asks) _ _ none)

pub keeps_counts : KeepsCounts
keeps_counts c member asked counts within so =
    ap (λ (t : TellerValue). t.heard.told)
    (get_or-set_same c.asks.tellers (member - 1) (told_counts asked counts (teller_at (member - 1) c.asks.tellers)) silent within
    ∙ if_so (is_asked_for member asked the_counts c.asks) _ _ so)

pub keeps_page : KeepsPage
keeps_page c member asked page bytes within low so =
    let many = how_many (record { page = page; bytes = bytes }) in
    ap (λ (t : TellerValue). slice_index t.heard.known page)
    (get_or-set_same c.asks.tellers (member - 1) (told_page asked page many (teller_at (member - 1) c.asks.tellers)) silent within
    ∙ if_so (is_asked_for member asked (Some page) c.asks) _ _ so)
    ∙ get_or-set_same (heard_of member c).known page many 0 low
