-- How often a search found nothing, as far as that is kept in mind.
use Rattle.std.proofs.Common.{◌≡◌, ℕ, ◌+◌, ◌≤◌, inl, inr, List, [], ◌∷◌, true, nat_le, refl, arith}
use Rattle.std.proofs.lemmas.Bool.Decides.{nat_tests}
use Rattle.folders.specs.declared.wishes.Wish.{Wish}
use Rattle.folders.specs.declared.wishes.Wish.TheVariants.{Offered, Sought}
use Rattle.tape_frames.specs.declared.entry.Entry.{Entry}
use Rattle.offers.specs.declared.stage.Landing.TheVariants.{Ended, Nothing, Busy, Barred, Released}
use Rattle.offers.specs.declared.stage.FileNews.{FileNews}
use Rattle.offers.specs.declared.stage.FileNews.TheVariants as news
use Rattle.offers.specs.declared.stage.OfferFault.{OfferFault}
use Rattle.offers.specs.declared.stage.Stage.{Stage}
use Rattle.offers.specs.declared.stage.Stage.TheVariants.{Watched, Waiting, UnderWay, Refused, Answered, Gone}
use Rattle.offers.specs.declared.stage.Tries.{Tries}
use Rattle.offers.specs.Nothings.{Befell, told, changed, known_after, nothings_since, WasSought, is_answered, AnsweredAfterTen}
use Rattle.offers.specs.Stages.{after, anew, found_nothing, landed, put_off}
use Rattle.offers.proofs.Editing.{two_ways}

-- what is kept in mind of a search is no more than what it found, and it was read as one; of what was offered nothing is said
abbrev CountsOf : ℕ → Type 0 → Wish → Tries → Type 0
CountsOf n W (Offered entry) tries = Unit {0}
CountsOf n W Sought tries = (tries.nothings ≤ n) × W

abbrev Counts : ℕ → Type 0 → Stage → Type 0
Counts n W (Watched at replaced) = Unit {0}
Counts n W (Waiting wish at tries) = CountsOf n W wish tries
Counts n W (UnderWay wish tries) = CountsOf n W wish tries
Counts n W (Refused reason at pause) = Unit {0}
Counts n W (Answered at pause) = (10 ≤ n) × W
Counts n W Gone = Unit {0}

-- ---- what keeps the count

same_count : (n : ℕ) (W : Type 0) (wish : Wish) (tries other : Tries) → tries.nothings ≡ other.nothings → CountsOf n W wish tries → CountsOf n W wish other
same_count n W (Offered entry) tries other e h = tt
same_count n W Sought tries other e h = (omega (arith, e, h.0), h.1)

fresh : (n : ℕ) (W : Type 0) (wish : Wish) (tries other : Tries) → other.nothings ≡ 0 → CountsOf n W wish tries → CountsOf n W wish other
fresh n W (Offered entry) tries other e h = tt
fresh n W Sought tries other e h = (omega (arith, e), h.1)

off_counts : (n : ℕ) (W : Type 0) (now : ℕ) (s : Stage) → Counts n W s → Counts n W (put_off now s)
off_counts n W now (Watched at replaced) h = tt
off_counts n W now (Waiting wish at tries) h = same_count n W wish tries _ refl h
off_counts n W now (UnderWay wish tries) h = h
off_counts n W now (Refused reason at pause) h = tt
off_counts n W now (Answered at pause) h = h
off_counts n W now Gone h = tt

asked_counts : (n : ℕ) (W : Type 0) (now : ℕ) (s : Stage) → Counts n W s → Counts n W (after news.Asked now s)
asked_counts n W now (Watched at replaced) h = tt
asked_counts n W now (Waiting wish at tries) h = h
asked_counts n W now (UnderWay wish tries) h = h
asked_counts n W now (Refused reason at pause) h = tt
asked_counts n W now (Answered at pause) h = h
asked_counts n W now Gone h = tt

none_counts : (n : ℕ) (W : Type 0) (why : OfferFault) (now : ℕ) (s : Stage) → Counts n W s → Counts n W (after (news.NoOffer why) now s)
none_counts n W why now (Watched at replaced) h = tt
none_counts n W why now (Waiting wish at tries) h = h
none_counts n W why now (UnderWay wish tries) h = h
none_counts n W why now (Refused reason at pause) h = tt
none_counts n W why now (Answered at pause) h = h
none_counts n W why now Gone h = tt

ended_counts : (n : ℕ) (W : Type 0) (now : ℕ) (s : Stage) → Counts n W s → Counts n W (landed Ended now s)
ended_counts n W now (Watched at replaced) h = tt
ended_counts n W now (Waiting wish at tries) h = h
ended_counts n W now (UnderWay wish tries) h = same_count n W wish tries _ refl h
ended_counts n W now (Refused reason at pause) h = tt
ended_counts n W now (Answered at pause) h = h
ended_counts n W now Gone h = tt

busy_counts : (n : ℕ) (W : Type 0) (now : ℕ) (s : Stage) → Counts n W s → Counts n W (landed Busy now s)
busy_counts n W now (Watched at replaced) h = tt
busy_counts n W now (Waiting wish at tries) h = h
busy_counts n W now (UnderWay wish tries) h = h
busy_counts n W now (Refused reason at pause) h = tt
busy_counts n W now (Answered at pause) h = h
busy_counts n W now Gone h = tt

barred_counts : (n : ℕ) (W : Type 0) (why : OfferFault) (now : ℕ) (s : Stage) → Counts n W s → Counts n W (landed (Barred why) now s)
barred_counts n W why now (Watched at replaced) h = tt
barred_counts n W why now (Waiting wish at tries) h = h
barred_counts n W why now (UnderWay wish tries) h = tt
barred_counts n W why now (Refused reason at pause) h = tt
barred_counts n W why now (Answered at pause) h = h
barred_counts n W why now Gone h = tt

released_counts : (n : ℕ) (W : Type 0) (now : ℕ) (s : Stage) → Counts n W s → Counts n W (landed Released now s)
released_counts n W now (Watched at replaced) h = tt
released_counts n W now (Waiting wish at tries) h = fresh n W wish tries _ refl h
released_counts n W now (UnderWay wish tries) h = fresh n W wish tries _ refl h
released_counts n W now (Refused reason at pause) h = tt
released_counts n W now (Answered at pause) h = h
released_counts n W now Gone h = tt

-- ---- what begins it, and what counts

offered_counts : (n : ℕ) (W : Type 0) (entry : Entry) (now : ℕ) (s : Stage) → Counts n W s → Counts n W (after (news.Read (Offered entry)) now s)
offered_counts n W entry now (Watched at replaced) h = tt
offered_counts n W entry now (Waiting wish at tries) h = h
offered_counts n W entry now (UnderWay wish tries) h = h
offered_counts n W entry now (Refused reason at pause) h = tt
offered_counts n W entry now (Answered at pause) h = h
offered_counts n W entry now Gone h = tt

sure : (n : ℕ) (W : Type 0) (wish : Wish) (tries : Tries) → CountsOf n W wish tries → CountsOf n (Unit {0}) wish tries
sure n W (Offered entry) tries h = tt
sure n W Sought tries h = (h.0, tt)

sought_counts : (n : ℕ) (W : Type 0) (now : ℕ) (s : Stage) → Counts n W s → Counts n (Unit {0}) (after (news.Read Sought) now s)
sought_counts n W now (Watched at replaced) h = (omega arith, tt)
sought_counts n W now (Waiting wish at tries) h = sure n W wish tries h
sought_counts n W now (UnderWay wish tries) h = sure n W wish tries h
sought_counts n W now (Refused reason at pause) h = tt
sought_counts n W now (Answered at pause) h = (h.0, tt)
sought_counts n W now Gone h = tt

more : (n : ℕ) (W : Type 0) (wish : Wish) (tries : Tries) → CountsOf n W wish tries → CountsOf (n + 1) W wish tries
more n W (Offered entry) tries h = tt
more n W Sought tries h = (omega (arith, h.0), h.1)

found_counts : (n : ℕ) (W : Type 0) (wish : Wish) (tries : Tries) (now : ℕ) → CountsOf n W wish tries → Counts (n + 1) W (found_nothing wish tries now)
found_counts n W (Offered entry) tries now h = tt
found_counts n W Sought tries now h = elim (two_ways (nat_le 9 tries.nothings)) [
  | inl often ↦ let nine : 9 ≤ tries.nothings = grind (arith, nat_tests) in rw often (omega (arith, nine, h.0), h.1)
  | inr seldom ↦ rw seldom (omega (arith, h.0), h.1)
]

nothing_counts : (n : ℕ) (W : Type 0) (now : ℕ) (s : Stage) → Counts n W s → Counts (n + 1) W (landed Nothing now s)
nothing_counts n W now (Watched at replaced) h = tt
nothing_counts n W now (Waiting wish at tries) h = more n W wish tries h
nothing_counts n W now (UnderWay wish tries) h = found_counts n W wish tries now h
nothing_counts n W now (Refused reason at pause) h = tt
nothing_counts n W now (Answered at pause) h = (omega (arith, h.0), h.1)
nothing_counts n W now Gone h = tt

anew_counts : (now : ℕ) (s : Stage) → Counts 0 ⊥ (anew now s)
anew_counts now (Watched at replaced) = tt
anew_counts now (Waiting wish at tries) = tt
anew_counts now (UnderWay wish tries) = tt
anew_counts now (Refused reason at pause) = tt
anew_counts now (Answered at pause) = tt
anew_counts now Gone = tt

-- ---- over all that befalls a file

abbrev Counted : List Befell → Stage → Type 0
Counted befell s = Counts (nothings_since befell) (WasSought befell) s

after_news : (some : FileNews) (now : ℕ) (before : List Befell) (s : Stage) → Counted before s → Counted (told some now ∷ before) (after some now s)
after_news (news.Read (Offered entry)) now before s h = offered_counts _ _ entry now s h
after_news (news.Read Sought) now before s h = sought_counts _ _ now s h
after_news (news.NoOffer why) now before s h = none_counts _ _ why now s h
after_news news.Asked now before s h = asked_counts _ _ now s h
after_news news.PutOff now before s h = off_counts _ _ now s h
after_news news.Moved now before s h = tt
after_news (news.Landed Ended) now before s h = ended_counts _ _ now s h
after_news (news.Landed Nothing) now before s h = nothing_counts _ _ now s h
after_news (news.Landed Busy) now before s h = busy_counts _ _ now s h
after_news (news.Landed (Barred why)) now before s h = barred_counts _ _ why now s h
after_news (news.Landed Released) now before s h = released_counts _ _ now s h

counted : (first : ℕ) (befell : List Befell) → Counted befell (known_after first befell)
counted first [] = tt
counted first (told some now ∷ before) = after_news some now before (known_after first before) (counted first before)
counted first (changed now ∷ before) = anew_counts now (known_after first before)

is_ten : (n : ℕ) (W : Type 0) (s : Stage) → is_answered s ≡ true → Counts n W s → (10 ≤ n) × W
is_ten n W (Watched at replaced) e h = cc
is_ten n W (Waiting wish at tries) e h = cc
is_ten n W (UnderWay wish tries) e h = cc
is_ten n W (Refused reason at pause) e h = cc
is_ten n W (Answered at pause) e h = h
is_ten n W Gone e h = cc

pub answered_after_ten : AnsweredAfterTen
answered_after_ten = λ first befell e. is_ten _ _ (known_after first befell) e (counted first befell)
