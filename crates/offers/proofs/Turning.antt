-- The order of deeds, from what each part of the choice says.
use Rattle.std.proofs.Common.{◌≡◌, inl, inr, ℕ, ◌<◌, ◌*◌, Option, Some, None, IfSome, Bool, true, false, length, arith}
use Rattle.folders.specs.declared.names.FileRequest.{FileRequest}
use Rattle.offers.specs.declared.deed.Allowed.{Allowed}
use Rattle.offers.specs.declared.deed.Deed.{Deed}
use Rattle.offers.specs.declared.deed.Deed.TheVariants.{Move, Ask, Read, Refuse}
use Rattle.offers.specs.Asks.{Turn, IsFirstBy}
use Rattle.offers.specs.Left.{NoOthers, read_place}
use Rattle.offers.specs.Rules.{Standing}
use Rattle.offers.specs.Turns.{IsAskOrOther, IsBehindMoves, IsInTurn, IsEarly, IsHeld, NoOthersLeft, NoMovesLeft, OthersWait, AdvancesOther}

-- what follows where no file is overdue, from which on the others are left or not
early_waits : (b : Standing) (k : ℕ) → IsEarly b (record b { others = k }) → OthersWait b
early_waits b k (inl early) = inl early.0
early_waits b k (inr late) = inr late.0

early_left : (b : Standing) (k : ℕ) → IsEarly b (record b { others = k }) → NoOthersLeft (record b { others = k }) → NoOthersLeft b
early_left b k (inl early) h = rw early.1 at h
early_left b k (inr late) h = late.0

-- which comes first hangs on the files and the numbers alone
first_of_others : (b : Standing) (k index : ℕ) (turn : Turn) → IsFirstBy (record b { others = k }) index turn → IsFirstBy b index turn
first_of_others b k index turn h = record { within = h.within; is = h.is; first = h.first }

first_of_moves : (b : Standing) (k index : ℕ) (turn : Turn) → IsFirstBy (record b { moves = k }) index turn → IsFirstBy b index turn
first_of_moves b k index turn h = record { within = h.within; is = h.is; first = h.first }

held_of_others : (b : Standing) (k : ℕ) (asks : Bool) → IsHeld (record b { others = k }) asks → IsHeld b asks
held_of_others b k asks h = ((h.0.0, (h.0.1.0, first_of_others b k _ _ h.0.1.1)), h.1)

held_of_moves : (b : Standing) (k : ℕ) (asks : Bool) → IsHeld (record b { moves = k }) asks → IsHeld b asks
held_of_moves b k asks h = ((h.0.0, (h.0.1.0, first_of_moves b k _ _ h.0.1.1)), h.1)

asks_of_others : (b : Standing) (k : ℕ) (asks : Bool) (r : FileRequest) → IsAskOrOther (record b { others = k }) asks (Some (Ask r)) → IsAskOrOther b asks (Some (Ask r))
asks_of_others b k asks r h = (h.0, (h.1.0, (h.1.1.0, first_of_others b k _ _ h.1.1.1), h.1.2))

asks_of_moves : (b : Standing) (k : ℕ) (asks : Bool) (r : FileRequest) → IsAskOrOther (record b { moves = k }) asks (Some (Ask r)) → IsAskOrOther b asks (Some (Ask r))
asks_of_moves b k asks r h = (h.0, (h.1.0, (h.1.1.0, first_of_moves b k _ _ h.1.1.1), h.1.2))

none_of_moves : (b : Standing) (k : ℕ) (asks : Bool) → IsAskOrOther (record b { moves = k }) asks None → IsAskOrOther b asks None
none_of_moves b k asks (inl none) = inl none
none_of_moves b k asks (inr held) = inr (held_of_moves b k asks held)

pub behind_turn : (b : Standing) (asks : Bool) (k : ℕ) (r : Option Deed) → IsEarly b (record b { others = k }) → IsAskOrOther (record b { others = k }) asks r → IsBehindMoves b asks r
behind_turn b asks k None early (inl none) = (early_waits b k early, inl (none.0, early_left b k early none.1))
behind_turn b asks k None early (inr held) = (early_waits b k early, inr (held_of_others b k asks held))
behind_turn b asks k (Some (Move r found to)) early h = absurd h
behind_turn b asks k (Some (Ask r)) early h = (early_waits b k early, asks_of_others b k asks r h)
behind_turn b asks k (Some (Read r found replaced)) early h = inr h
behind_turn b asks k (Some (Refuse r found why)) early h = inr h

pub in_turn : (b : Standing) (allowed : Allowed) (k : ℕ) (r : Option Deed) → NoMovesLeft b allowed.moves → IsBehindMoves (record b { moves = k }) allowed.asks r → IsInTurn b allowed r
in_turn b allowed k None none h = (none, (h.0, none_of_moves b k allowed.asks h.1))
in_turn b allowed k (Some (Move r found to)) none h = absurd h
in_turn b allowed k (Some (Ask r)) none h = (none, (h.0, asks_of_moves b k allowed.asks r h.1))
in_turn b allowed k (Some (Read r found replaced)) none h = (none, h)
in_turn b allowed k (Some (Refuse r found why)) none h = (none, h)

-- ---- one part of the choice behind another

pub behind_via : (b mid : Standing) (asks : Bool) (r : Option Deed) → mid ≡ record b { others = mid.others } → IsEarly b mid → IsAskOrOther mid asks r → IsBehindMoves b asks r
behind_via b mid asks r same early h =
    let early_so = rw same at early in
    let so = rw same at h in
    behind_turn b asks mid.others r early_so so

pub in_turn_via : (b mid : Standing) (allowed : Allowed) (r : Option Deed) → mid ≡ record b { moves = mid.moves } → NoMovesLeft b allowed.moves → IsBehindMoves mid allowed.asks r → IsInTurn b allowed r
in_turn_via b mid allowed r same none h = let so = rw same at h in in_turn b allowed mid.moves r none so

-- each place is before the end
within_end : (many i : ℕ) (search : Bool) → i < many → read_place many i search < 2 * many
within_end many i true lt = omega arith
within_end many i false lt = omega arith

-- none that was passed over is read or refused, where no file is overdue
passed_go : (b : Standing) (k high : ℕ) → IsEarly b (record b { others = k }) → NoOthers (record b { others = k }) k high → NoOthers b b.others high
passed_go b k high (inl early) h = λ i d within low lt. h i d within (omega (arith, early.1)) lt
passed_go b k high (inr late) h = λ i d within low lt. late.0 i d within low (within_end (length b.files) i _ within)

pub passed_via : (b mid : Standing) (high : ℕ) → mid ≡ record b { others = mid.others } → IsEarly b mid → NoOthers mid mid.others high → NoOthers b b.others high
passed_via b mid high same early h =
    let early_so = rw same at early in
    let so = rw same at h in
    passed_go b mid.others high early_so so

-- and the work goes on
forward_go : (b new : Standing) (k : ℕ) (r : Option Deed) → IsEarly b (record b { others = k }) → IfSome r (AdvancesOther (record b { others = k }) new) → IfSome r (AdvancesOther b new)
forward_go b new k None early h = tt
forward_go b new k (Some (Move r found to)) early h = absurd h
forward_go b new k (Some (Ask r)) early h = tt
forward_go b new k (Some (Read r found replaced)) (inl early) h = (omega (arith, early.1, h.0), h.1)
forward_go b new k (Some (Read r found replaced)) (inr late) h = absurd (omega (arith, late.1, h.0, h.1))
forward_go b new k (Some (Refuse r found why)) (inl early) h = (omega (arith, early.1, h.0), h.1)
forward_go b new k (Some (Refuse r found why)) (inr late) h = absurd (omega (arith, late.1, h.0, h.1))

pub forward_via : (b mid new : Standing) (r : Option Deed) → mid ≡ record b { others = mid.others } → IsEarly b mid → IfSome r (AdvancesOther mid new) → IfSome r (AdvancesOther b new)
forward_via b mid new r same early h =
    let early_so = rw same at early in
    let so = rw same at h in
    forward_go b new mid.others r early_so so
