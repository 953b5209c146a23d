-- Version 1 spells a tape exactly where nothing is wrong with its frames, and they are not too many for it: where it fits.
use Rattle.std.proofs.Common.{◌≡◌, ℕ, ◌+◌, ◌≤◌, Bool, true, false, cond, ltb, eqb, List, [], ◌∷◌, length, Option, Some, None, refl, arith}
use Rattle.std.specs.Prelude.{is_some, option_map}
use Rattle.std.specs.List.{position_from}
use Rattle.std.proofs.lemmas.Bool.{le-ltb, ltb-false, le-leb, leb-true, ne_eqb, eqb-false, and_parts}
use Rattle.tape_frames.specs.Frames.{most_frames, AreFrames, IsTape, tape_fault}
use Rattle.tape_frames.specs.declared.fault.TapeFault.TheVariants.{BadFrame}
use Rattle.protocol.specs.Limits.{most_frames_one}
use Rattle.protocol.specs.Entries.{Tape, Taped}
use Rattle.protocol.specs.Versions.{One}
use Rattle.protocol.specs.Fitting.{Fits}
use Rattle.packets.specs.Grammar.{IsTapeOne}

-- version 1 spells each tape that fits it
pub tape_one : (tape : Tape) → IsTape tape → Fits One (Taped tape) → IsTapeOne tape
tape_one tape is fit =
    let bounds = and_parts _ _ fit in
    record { some = is.some; few = leb-true (length tape) most_frames_one bounds.1; small = is.small }

-- and what it spells is a tape
pub one_tape : (tape : Tape) → IsTapeOne tape → IsTape tape
one_tape tape is = let few = is.few in record { some = is.some; few = omega (arith, few); small = is.small }

pub fits_one : (tape : Tape) → 1 ≤ length tape → length tape ≤ most_frames_one → Fits One (Taped tape)
fits_one tape some few = rw (le-leb 1 (length tape) some, le-leb (length tape) most_frames_one few) refl

none_bad : (i : ℕ) (xs : List ℕ) → AreFrames xs → position_from (λ f. ltb 63 f) i xs ≡ None
none_bad i [] h = refl
none_bad i (x ∷ xs) h =
    let small = h.0 in
    let test : ltb 63 x ≡ false = le-ltb 63 x (omega (arith, small)) in
    rw test (none_bad (i + 1) xs h.1)

pub no_fault : (tape : Tape) → IsTapeOne tape → tape_fault tape ≡ None
no_fault tape is =
    let some = is.some in
    let few = is.few in
    let a : eqb (length tape) 0 ≡ false = ne_eqb (length tape) 0 (λ e. omega (arith, some, e)) in
    let b : ltb most_frames (length tape) ≡ false = le-ltb most_frames (length tape) (omega (arith, few)) in
    rw (a, b, none_bad 0 tape is.small) refl

-- a test that found nothing
none_after : {A : Type 0} (b : Bool) (x : A) (y : Option A) → is_some (cond b (Some x) y) ≡ false → (b ≡ false) × (is_some y ≡ false)
none_after true x y e = absurd cc
none_after false x y e = (refl, e)

none_mapped : {A B : Type 0} (f : A → B) (o : Option A) → is_some (option_map f o) ≡ false → is_some o ≡ false
none_mapped f None e = refl
none_mapped f (Some x) e = absurd cc

all_small : (i : ℕ) (xs : List ℕ) → is_some (position_from (λ f. ltb 63 f) i xs) ≡ false → AreFrames xs
all_small i [] e = tt
all_small i (x ∷ xs) e =
    let h = none_after (ltb 63 x) i (position_from (λ f. ltb 63 f) (i + 1) xs) e in
    let le = ltb-false 63 x h.0 in
    (omega (arith, le), all_small (i + 1) xs h.1)

pub is_tape : (tape : Tape) → length tape ≤ most_frames_one → is_some (tape_fault tape) ≡ false → IsTapeOne tape
is_tape tape few e =
    let a = none_after (eqb (length tape) 0) _ _ e in
    let b = none_after (ltb most_frames (length tape)) _ _ a.1 in
    record {
      some = omega (arith, eqb-false _ _ a.0);
      few = few;
      small = all_small 0 tape (none_mapped (λ i. BadFrame i) _ b.1);
    }
