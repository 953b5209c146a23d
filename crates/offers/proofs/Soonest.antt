-- The file that comes first of those for which the station may be asked.
use Rattle.std.proofs.Common.{◌≡◌, ℕ, ◌<◌, ◌≤◌, Option, Some, None, Bool, true, false, length, get_or, cond, nat_le, is_some, not, ◌&&◌, refl, sym, arith}
use Rattle.std.proofs.lemmas.Bool.Decides.{nat_tests}
use Rattle.tape_frames.specs.declared.entry.Entry.{Entry}
use Rattle.offers.specs.declared.deed.Deed.TheVariants.{Ask}
use Rattle.offers.specs.declared.offer.Offer.{Offer}
use Rattle.offers.specs.declared.stage.Stage.{Stage}
use Rattle.offers.specs.declared.stage.Stage.TheVariants.{Watched, Waiting, UnderWay, Refused, Answered, Gone}
use Rattle.offers.specs.Asks.{Turn, turn_at, IsFirstAsk}
use Rattle.offers.specs.Rules.{Standing, entry_of, is_under_way, IsWhole, IsReady, MayDo, is_whole, moment_of, ask_moment_of}

-- a file that has a moment waits, and that moment has come
ready_from : (looked moment : ℕ) (s : Stage) → moment_of looked s ≡ Some moment → IsReady looked s
ready_from looked moment (Watched from replaced) e = cc
ready_from looked moment (Waiting wish from tries) e = elim (nat_le from looked) as (λ t. t ≡ nat_le from looked → cond t (Some from) None ≡ Some moment → from ≤ looked) [
  | true ↦ λ t e. grind (arith, nat_tests)
  | false ↦ λ t e. cc
] refl e
ready_from looked moment (UnderWay wish tries) e = cc
ready_from looked moment (Refused reason from pause) e = cc
ready_from looked moment (Answered from pause) e = cc
ready_from looked moment Gone e = cc

-- what is known of a file for which the station may be asked
pub record IsAsked (entry : Option Entry) (flies : Bool) (still looked : ℕ) (o : Offer) : Type 0 where
  pub whole : IsWhole still looked o
  pub ready : IsReady looked o.stage
  pub unreleased : entry ≡ None
  pub one : flies ≡ false

go_asked : (still looked moment : ℕ) (o : Offer) (whole : Bool) (entry : Option Entry) (flies : Bool) → whole ≡ is_whole still looked o → cond (whole && not (is_some entry) && not flies) (moment_of looked o.stage) None ≡ Some moment → IsAsked entry flies still looked o
go_asked still looked moment o false entry flies w e = cc
go_asked still looked moment o true (Some x) false w e = cc
go_asked still looked moment o true (Some x) true w e = cc
go_asked still looked moment o true None true w e = cc
go_asked still looked moment o true None false w e = record { whole = grind (arith, nat_tests); ready = ready_from looked moment o.stage e; unreleased = refl; one = refl }

-- what goes by a turn has its moment
pub turn_has : (group place : ℕ) (m : Option ℕ) (t : Turn) → turn_at group place m ≡ Some t → m ≡ Some t.moment
turn_has group place None t e = cc
turn_has group place (Some moment) t e = cc

-- the station may be asked for the file that comes first, where there is room
pub soonest_may : (b : Standing) (i : ℕ) (o : Offer) → IsFirstAsk b i → o ≡ get_or b.files i o → length b.window < 16 → MayDo b (Ask o.request)
soonest_may b i o s is room =
    let own : ask_moment_of b o ≡ Some s.0.moment = turn_has _ _ _ s.0 (rw (sym is) at (s.1.is o)) in
    let asked = go_asked b.still b.looked s.0.moment o (is_whole b.still b.looked o) (entry_of b o.request.number) (is_under_way o.request.number b.window) refl own in
    (i, o, s.1.within, sym is, record { file = refl; whole = asked.whole; ready = asked.ready; unreleased = asked.unreleased; one = asked.one; window = room })

-- and no other of its number is under way
pub soonest_alone : (b : Standing) (i : ℕ) (o : Offer) → IsFirstAsk b i → o ≡ get_or b.files i o → is_under_way o.request.number b.window ≡ false
soonest_alone b i o s is =
    let own : ask_moment_of b o ≡ Some s.0.moment = turn_has _ _ _ s.0 (rw (sym is) at (s.1.is o)) in
    let asked = go_asked b.still b.looked s.0.moment o (is_whole b.still b.looked o) (entry_of b o.request.number) (is_under_way o.request.number b.window) refl own in
    asked.one
