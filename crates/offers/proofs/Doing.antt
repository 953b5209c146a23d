-- What the rules say of a file is said of the book.
use Rattle.std.proofs.Common.{◌≡◌, ℕ, ◌<◌, length, get_or, Option, Some, None, IfSome, ◌+◌, Bool, false, refl, sym, ◌∙◌, arith}
use Rattle.std.proofs.lemmas.List.{get_or_default}
use Rattle.offers.specs.declared.deed.Deed.{Deed}
use Rattle.offers.specs.declared.deed.Deed.TheVariants.{Move, Ask, Read, Refuse}
use Rattle.offers.specs.declared.offer.Offer.{Offer}
use Rattle.folders.specs.declared.names.FileRequest.{FileRequest}
use Rattle.tape_frames.specs.declared.entry.Entry.{Entry}
use Rattle.offers.specs.Choices.{MayMoveBy, MayTakeBy}
use Rattle.offers.specs.Left.{NoMoves, HasLeft}
use Rattle.offers.specs.Order.{rank, file_at, Rises, IsPlaceOf}
use Rattle.offers.specs.Rules.{Standing, entry_of, is_under_way, IsLeaving, IsOther, Suits, MayDo, is_leaving_of}
use Rattle.offers.specs.Turns.{IsMove, IsOtherDeed}
use Rattle.offers.proofs.Editing.{file_is}

pub leaves : (b : Standing) (o : Offer) (d : Deed) → IsLeaving (entry_of b o.request.number) b.still b.looked o d → Suits b d o
leaves b o (Move r found to) h = record { file = h.0; as_found = h.1; whole = h.2; leaves = rw (sym h.0) h.3 }
leaves b o (Ask r) h = absurd h
leaves b o (Read r found replaced) h = absurd h
leaves b o (Refuse r found why) h = absurd h

pub others : (b : Standing) (o : Offer) (d : Deed) → IsOther (is_under_way o.request.number b.window) b.still b.looked o d → Suits b d o
others b o (Move r found to) h = absurd h
others b o (Ask r) h = absurd h
others b o (Read r found replaced) h = record { file = h.0; as_found = h.1; whole = h.2; unread = h.3; one = rw (sym h.0) h.4 }
others b o (Refuse r found why) h = record { file = h.0; as_found = h.1; whole = h.2; refused = h.3 }

-- what suits the file at an index may be done
pub may_do : (b : Standing) (i : ℕ) (o : Offer) (d : Deed) → i < length b.files → o ≡ get_or b.files i o → Suits b d o → MayDo b d
may_do b i o d within is h = (i, o, within, sym is, h)

-- of which kind each is
all_move : (entry : Option Entry) (still looked : ℕ) (o : Offer) (r : Option Deed) → IfSome r (IsLeaving entry still looked o) → IfSome r IsMove
all_move entry still looked o None h = tt
all_move entry still looked o (Some (Move r found to)) h = tt
all_move entry still looked o (Some (Ask r)) h = absurd h
all_move entry still looked o (Some (Read r found replaced)) h = absurd h
all_move entry still looked o (Some (Refuse r found why)) h = absurd h

all_other : (flies : Bool) (still looked : ℕ) (o : Offer) (r : Option Deed) → IfSome r (IsOther flies still looked o) → IfSome r IsOtherDeed
all_other flies still looked o None h = tt
all_other flies still looked o (Some (Move r found to)) h = absurd h
all_other flies still looked o (Some (Ask r)) h = absurd h
all_other flies still looked o (Some (Read r found replaced)) h = tt
all_other flies still looked o (Some (Refuse r found why)) h = tt

pub may_leave : (b : Standing) (i : ℕ) (o : Offer) (r : Option Deed) → i < length b.files → o ≡ get_or b.files i o → IfSome r (IsLeaving (entry_of b o.request.number) b.still b.looked o) → IfSome r (MayMoveBy b)
may_leave b i o None within is h = tt
may_leave b i o (Some d) within is h = (may_do b i o d within is (leaves b o d h), all_move _ _ _ o (Some d) h)

pub may_other : (b : Standing) (i : ℕ) (o : Offer) (r : Option Deed) → i < length b.files → o ≡ get_or b.files i o → IfSome r (IsOther (is_under_way o.request.number b.window) b.still b.looked o) → IfSome r (MayTakeBy b)
may_other b i o None within is h = tt
may_other b i o (Some d) within is h = (may_do b i o d within is (others b o d h), all_other _ _ _ o (Some d) h)

-- where the file at an index does not leave, none does at it
pub no_move : (b : Standing) (i : ℕ) (o : Offer) → i < length b.files → o ≡ get_or b.files i o → is_leaving_of b o ≡ false → NoMoves b i (i + 1)
no_move b i o within is none = λ j d low high.
    let same : j ≡ i = omega (arith, low, high) in
    let there : get_or b.files i d ≡ o = sym (is ∙ get_or_default b.files i o d within) in
    rw (same, there) none

-- where the file at an index does not leave, the file of its place does not
go_left : (b : Standing) (r : FileRequest) (i : ℕ) → Rises b.files → IsPlaceOf b.files (rank r) i → NoMoves b i (i + 1) → (x : Option Offer) → x ≡ file_at b.files (rank r) → IfSome x (λ o. is_leaving_of b o ≡ false)
go_left b r i rises there none None e = tt
go_left b r i rises there none (Some o) e =
    let found = file_is 0 b.files i o (rank r) rises there.within (there.is o) in
    let same : get_or b.files i o ≡ o = cc in
    let left = none i o (omega arith) (omega arith) in
    rw same at left

pub has_left : (b : Standing) (r : FileRequest) (i : ℕ) → Rises b.files → IsPlaceOf b.files (rank r) i → NoMoves b i (i + 1) → HasLeft b r
has_left b r i rises there none = go_left b r i rises there none (file_at b.files (rank r)) refl
