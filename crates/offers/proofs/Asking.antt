-- What asking for a file makes of the book, where there is room and where there is none.
use Rattle.std.proofs.Common.{◌≡◌, ◌<◌, ◌≤◌, ℕ, zero, suc, List, [], ◌∷◌, Bool, true, false, cond, Option, Some, None, IfSome, length, get_or, refl, sym, ap, ◌∙◌, arith, length-append}
use Rattle.folders.specs.declared.names.FileRequest.{FileRequest}
use Rattle.pace.specs.UnderWay.{with_one}
use Rattle.offers.specs.declared.deed.Deed.{Deed}
use Rattle.offers.specs.declared.deed.Deed.TheVariants.{Ask}
use Rattle.offers.specs.declared.offer.Offer.{Offer}
use Rattle.offers.specs.Asks.{IsFirstAsk}
use Rattle.offers.specs.Rules.{Standing, MayDo, AreApart, is_under_way}
use Rattle.offers.specs.Order.{rank}
use Rattle.offers.specs.Stages.{after, changed}
use Rattle.offers.specs.declared.stage.FileNews.TheVariants as news
use Rattle.offers.specs.UnderWay.{AreHeld, AreAlone}
use Rattle.offers.proofs.Airborne.{held_asked, alone_asked}
use Rattle.offers.proofs.Flying.{apart_more}
use Rattle.offers.proofs.Soonest.{soonest_may, soonest_alone}

-- some file stands at an index
pub standing_at : (os : List Offer) (i : ℕ) → i < length os → (o : Offer) × (o ≡ get_or os i o)
standing_at [] i h = absurd (omega arith)
standing_at (o ∷ os) zero h = (o, refl)
standing_at (o ∷ os) (suc i) h = let rest = standing_at os i (omega arith) in (rest.0, rest.1)

-- what is asked, or nothing
abbrev pub asked_if : Bool → FileRequest → Option Deed
asked_if found r = cond found (Some (Ask r)) None

pub asked_may : (b : Standing) (i : ℕ) (o : Offer) (found : Bool) → IsFirstAsk b i → o ≡ get_or b.files i o → (found ≡ true → length b.window < 16) → IfSome (asked_if found o.request) (MayDo b)
asked_may b i o true s is room = soonest_may b i o s is (room refl)
asked_may b i o false s is room = tt

pub asked_apart : (w : List ℕ) (n : ℕ) (found : Bool) → AreApart w → is_under_way n w ≡ false → AreApart (with_one found n w)
asked_apart w n true apart none = apart_more w n apart none
asked_apart w n false apart none = apart

pub asked_few : (w : List ℕ) (n : ℕ) (found : Bool) → length w ≤ 16 → (found ≡ true → length w < 16) → length (with_one found n w) ≤ 16
asked_few w n true few room = let one = room refl in rw length-append (omega arith)
asked_few w n false few room = few

-- a file is under way with its number, and alone of it
pub held_if : (w : List ℕ) (q : FileRequest) (found : Bool) (os : List Offer) → AreHeld w os → AreHeld (with_one found q.number w) (cond found (changed (rank q) (after news.Asked 0) os) os)
held_if w q true os held = held_asked w q os held
held_if w q false os held = held

pub alone_if_asked : (w : List ℕ) (q : FileRequest) (found : Bool) (os : List Offer) → AreHeld w os → AreAlone os → is_under_way q.number w ≡ false → AreAlone (cond found (changed (rank q) (after news.Asked 0) os) os)
alone_if_asked w q true os held alone none = alone_asked w q os held alone none
alone_if_asked w q false os held alone none = alone

-- the same of the file at an index, by what it asks for
pub may_if : (b : Standing) (i : ℕ) (r : FileRequest) (found : Bool) → IsFirstAsk b i → ((d : Offer) → (get_or b.files i d).request ≡ r) → (found ≡ true → length b.window < 16) → IfSome (asked_if found r) (MayDo b)
may_if b i r found s is room =
    let file = standing_at b.files i s.1.within in
    let asks : file.0.request ≡ r = ap (λ (o : Offer). o.request) file.1 ∙ is file.0 in
    rw (sym asks) (asked_may b i file.0 found s file.1 room)

pub alone_if : (b : Standing) (i : ℕ) (r : FileRequest) → IsFirstAsk b i → ((d : Offer) → (get_or b.files i d).request ≡ r) → is_under_way r.number b.window ≡ false
alone_if b i r s is =
    let file = standing_at b.files i s.1.within in
    let asks : file.0.request ≡ r = ap (λ (o : Offer). o.request) file.1 ∙ is file.0 in
    rw (sym asks) (soonest_alone b i file.0 s file.1)
