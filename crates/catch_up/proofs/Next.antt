-- What is recalled is lacked and did not go out, and what is sent spells a recall or a roll.
use Rattle.std.proofs.Common.{◌≡◌, ℕ, Bool, true, false, not, ◌+◌, ◌^◌, ◌%◌, inl, inr, List, [], ◌∷◌, Option, Some, None, Result, Ok, Err, IfOk, IfSome, refl, sym, ap, subst, ◌∙◌, true≢false, eqb}
use Rattle.std.specs.Prelude.{if◌then◌else◌, ◌||◌, ◌⊎◌}
use Rattle.std.proofs.lemmas.Bool.{cases_eq}
use Rattle.std.proofs.lemmas.Option.{none-some}
use Rattle.gone_out.specs.declared.origin.Origin.{Origin}
use Rattle.healing.specs.declared.wanted.Want.TheVariants.{Recall as Recalls}
use Rattle.healing.specs.Lists.{is_among}
use Rattle.healing.specs.Healing.{HealingValue}
use Rattle.rolls.specs.Rolls.{Roll}
use Rattle.catch_up.specs.declared.errand.Errand.{Errand}
use Rattle.catch_up.specs.declared.errand.Errand.TheVariants.{Send, Tell, Seek}
use Rattle.catch_up.specs.declared.wave.AskedNumbers.{AskedNumbers}
use Rattle.catch_up.specs.Values.{without}
use Rattle.catch_up.specs.Own.{OwnValue, GoesOn, asked_again, begun, recall_to}
use Rattle.catch_up.specs.Errands.{IsGoodErrand}
use Rattle.catch_up.specs.Waves.{AreAskedIn}
use Rattle.catch_up.specs.Lacking.{NoneWentOut, AreLacked, IsOutOf, IsWantOf, IsAwaitedBatch, may_ask_pages}
use Rattle.roll_call.specs.RollCall.{RollCallValue}
use Rattle.catch_up.specs.Calls.{IsAskOf}
use Rattle.catch_up.specs.Recalling.{IsRecalling, left_in, GoesOnFrom, IsDone}
use Rattle.catch_up.specs.CatchUp.{CatchUpValue, IsSent, IsLeft, IsNewRecall, IsRecallAgain, IsHealed, IsFirstAsk, IsLastAsk, NoAsk, IsBegun, IsOwnErrand, IsErrandFor, IsNext, next_batch}

or_none : (a b : Bool) → (a || b) ≡ false → (a ≡ false) × (b ≡ false)
or_none true b is = absurd (true≢false is)
or_none false b is = (refl, is)

none_or : (a b : Bool) → a ≡ false → b ≡ false → (a || b) ≡ false
none_or true b first second = absurd (true≢false first)
none_or false b first second = second

-- a number is not among those that it was left out of
pub without_self : (number : ℕ) (ns : List ℕ) → is_among (without number ns) number ≡ false
without_self number [] = refl
without_self number (n ∷ ns) = go (eqb n number) refl (without_self number ns)
  where
    go : (b : Bool) → eqb n number ≡ b → is_among (without number ns) number ≡ false → is_among (if not b then n ∷ without number ns else without number ns) number ≡ false
    go true is rest = rest
    go false is rest = none_or (eqb n number) (is_among (without number ns) number) is rest

-- nor is one that was not among them before
pub without_other : (number k : ℕ) (ns : List ℕ) → is_among ns k ≡ false → is_among (without number ns) k ≡ false
without_other number k [] is = refl
without_other number k (n ∷ ns) is = go (not (eqb n number)) (without_other number k ns (or_none (eqb n k) (is_among ns k) is).1)
  where
    go : (b : Bool) → is_among (without number ns) k ≡ false → is_among (if b then n ∷ without number ns else without number ns) k ≡ false
    go true rest = none_or (eqb n k) (is_among (without number ns) k) (or_none (eqb n k) (is_among ns k) is).0 rest
    go false rest = rest

-- where a number goes out that is left out, none of the others went out
still_none : (number : ℕ) (old new : Option HealingValue) (ns : List ℕ) → IsOutOf old new number → NoneWentOut old ns → NoneWentOut new (without number ns)
still_none number None None ns out none n gone = absurd (true≢false (sym gone))
still_none number None (Some k) ns out none n gone = absurd (none-some k (sym out))
still_none number (Some h) None ns out none n gone = absurd out
still_none number (Some h) (Some k) ns out none n gone =
    elim (cases_eq n number) [
      | inl same ↦ subst (λ (m : ℕ). is_among (without number ns) m ≡ false) (sym same) (without_self number ns)
      | inr other ↦ without_other number n ns (none n (sym (out.others n other) ∙ gone))
    ]

pub still_recalling :
    (own : Origin) (number : ℕ) (h k : Option HealingValue) (r s : Option OwnValue) → IsOutOf h k number → s ≡ left_in number r → IfSome r (IsRecalling own h) → IfSome s (IsRecalling own k)
still_recalling own number h k r s out is before = subst (λ (o : Option OwnValue). IfSome o (IsRecalling own k)) (sym is) (go r before)
  where
    go : (r : Option OwnValue) → IfSome r (IsRecalling own h) → IfSome (left_in number r) (IsRecalling own k)
    go None before = tt
    go (Some v) before = record {
      origin = before.origin;
      numbers = still_none number h k v.numbers out before.numbers;
      left = still_none number h k v.left out before.left;
    }

-- what healing wants to be recalled did not go out
wanted_in : (own : Origin) (asked now : ℕ) (h : Option HealingValue) (batch : List ℕ) → IsWantOf h now (Recalls batch) → IsRecalling own h (begun own asked batch)
wanted_in own asked now None batch want = absurd want
wanted_in own asked now (Some h) batch want = record { origin = refl; numbers = want.1; left = want.1 }

lacked : (now : ℕ) (h : Option HealingValue) (batch : List ℕ) → IsWantOf h now (Recalls batch) → AreLacked h now batch
lacked now None batch want = absurd want
lacked now (Some h) batch want = want.0.0

-- the first errand of what is recalled now
first_errand :
    (c : CatchUpValue) (wave : Option AskedNumbers) (now : ℕ) (v : OwnValue) (w : Option OwnValue) (e : Option Errand)
    → (IsNewRecall c wave now v ⊎ IsRecallAgain c wave now v) → IsRecalling c.own c.healing v → GoesOnFrom (Some v) w e → IfSome e (IsHealed c wave now)
first_errand c wave now v w None is recalling goes = tt
first_errand c wave now v None (Some errand) is recalling goes = absurd goes
first_errand c wave now v (Some u) (Some (Seek number)) is recalling goes = absurd goes
first_errand c wave now v (Some u) (Some (Send to bytes)) is recalling goes = (v, u, is, recalling, goes)
first_errand c wave now v (Some u) (Some (Tell number to)) is recalling goes = (v, u, is, recalling, goes)

-- of what is lacked
pub recalled_errand :
    (c : CatchUpValue) (wave : Option AskedNumbers) (now : ℕ) (batch : List ℕ) (w : Option OwnValue) (e : Option Errand) → IsWantOf c.healing now (Recalls batch)
    → AreAskedIn c.wave wave batch → GoesOnFrom (Some (begun c.own (next_batch c) batch)) w e → IfSome e (IsHealed c wave now)
recalled_errand c wave now batch w e want asked goes =
    first_errand c wave now (begun c.own (next_batch c) batch) w e (inl (batch, lacked now c.healing batch want, refl, asked)) (wanted_in c.own _ now c.healing batch want) goes

-- of what is waited for
pub repeated_errand :
    (c : CatchUpValue) (now : ℕ) (batch : List ℕ) (w : Option OwnValue) (e : Option Errand) → IsAwaitedBatch c.healing now batch
    → GoesOnFrom (Some (asked_again c.own (next_batch c) batch)) w e → IfSome e (IsHealed c c.wave now)
repeated_errand c now batch w e awaited goes =
    first_errand c c.wave now (asked_again c.own (next_batch c) batch) w e (inr (batch, awaited.0, refl, refl))
    (record { origin = refl; numbers = awaited.1; left = λ n gone. refl }) goes

-- what is sent spells a recall or a roll
left_good : (v w : OwnValue) (e : Errand) → GoesOn v w (Some e) → IsGoodErrand e
left_good v w (Tell number to) goes = tt
left_good v w (Seek number) goes = tt
left_good v w (Send to bytes) goes = inl (recall_to v to, goes.1, refl)

healed_good : (c : CatchUpValue) (wave : Option AskedNumbers) (now : ℕ) (e : Errand) → IsHealed c wave now e → IsGoodErrand e
healed_good c wave now (Tell number to) healed = tt
healed_good c wave now (Seek number) healed = tt
healed_good c wave now (Send to bytes) healed = left_good healed.0 healed.1 (Send to bytes) healed.4

sent_good : (r : Roll) (e : Errand) → IsSent r e → IsGoodErrand e
sent_good r (Tell number to) sent = tt
sent_good r (Seek number) sent = tt
sent_good r (Send to bytes) sent = inr (r, sent.0, sent.1)

own_good : (old new : CatchUpValue) (now : ℕ) (e : Errand) → IsOwnErrand old new now e → IsGoodErrand e
own_good old new now e (inl left) = left_good left.0 left.1 e left.4
own_good old new now e (inr (done, inl healed)) = healed_good old new.wave now e healed.0
own_good old new now e (inr (done, inr asked)) = sent_good asked.0 e asked.2

for_good : (old new : CatchUpValue) (now : ℕ) (e : Errand) → IsErrandFor old new now (Some e) → IsGoodErrand e
for_good old new now (Tell number to) is = tt
for_good old new now (Seek number) is = tt
for_good old new now (Send to bytes) is = sent_good is.0.0 (Send to bytes) is.0.2

pub all_good : (old new : CatchUpValue) (now : ℕ) (e : Option Errand) → IsNext old new now e → IfSome e IsGoodErrand
all_good old new now None next = tt
all_good old new now (Some e) (inl own) = own_good old own.0 now e own.3
all_good old new now (Some e) (inr for) = for_good for.0 for.1 now e for.3

pub if_ok : {X E : Type 0} {P Q : X → Type 0} (r : Result X E) → IfOk r P → ((x : X) → P x → Q x) → IfOk r Q
if_ok (Ok x) all also = also x all
if_ok (Err e) all also = tt

-- where nothing comes next of what is recalled, it is done
pub done : (r w : Option OwnValue) → GoesOnFrom r w None → IsDone r
done None w goes = tt
done (Some v) None goes = absurd goes
done (Some v) (Some w) goes = (goes.0, goes.1)

-- what is left of what is recalled
pub left_errand :
    (c : CatchUpValue) (w : Option OwnValue) (e : Errand) → IfSome c.recalling (IsRecalling c.own c.healing) → GoesOnFrom c.recalling w (Some e)
    → IsLeft c (record c { recalling = w }) e
left_errand c w e recalling goes = go c.recalling w refl recalling goes
  where
    go : (r w : Option OwnValue) → c.recalling ≡ r → IfSome r (IsRecalling c.own c.healing) → GoesOnFrom r w (Some e) → IsLeft c (record c { recalling = w }) e
    go None w is recalling goes = absurd (none-some e (sym goes.1))
    go (Some v) None is recalling goes = absurd goes
    go (Some v) (Some u) is recalling goes = (v, u, is, recalling, goes, refl)

-- an ask that comes last, where none came first, asks from what was known
pub last_asked :
    (old mid between new : CatchUpValue) (now : ℕ) (may : Bool) (e : Option Errand) → IsFirstAsk old mid now may None → between.rolls ≡ mid.rolls
    → between.rolls_first ≡ mid.rolls_first → may ≡ may_ask_pages old.healing → IsLastAsk between new now may e → IfSome e (IsBegun old new now)
last_asked old mid between new now may None first rolls flag pages last = tt
last_asked old mid between new now may (Some e) (inl first) rolls flag pages last =
    let same = rolls ∙ ap (λ (c : CatchUpValue). c.rolls) first.1 in
    let asked = subst (λ (r : Option RollCallValue). IsAskOf r new.rolls now may (Some last.1.0)) same last.1.1 in
    inr (last.1.0, subst (λ (b : Bool). IsAskOf old.rolls new.rolls now b (Some last.1.0)) pages asked, last.1.2, last.1.3)
last_asked old mid between new now may (Some e) (inr first) rolls flag pages last = absurd (true≢false (sym first.2 ∙ sym flag ∙ last.0))

-- what is lacked is seen to alike, whatever is known of rolls
seen_to : (c : CatchUpValue) (rolls : Option RollCallValue) (first : Bool) (wave : Option AskedNumbers) (now : ℕ) (e : Errand) → IsHealed (record c { rolls = rolls; rolls_first = first }) wave now e → IsHealed c wave now e
seen_to c rolls first wave now (Seek number) healed = healed
seen_to c rolls first wave now (Send to bytes) healed = healed
seen_to c rolls first wave now (Tell number to) healed = healed

-- what is lacked is seen to where no ask came first
pub healed_first :
    (old mid : CatchUpValue) (wave : Option AskedNumbers) (now : ℕ) (may : Bool) (e : Errand) → IsFirstAsk old mid now may None
    → mid ≡ record old { rolls = mid.rolls; rolls_first = mid.rolls_first } → may ≡ may_ask_pages old.healing → IsHealed mid wave now e
    → IsHealed old wave now e × ((old.rolls_first ≡ false) ⊎ NoAsk old now)
healed_first old mid wave now may e first rest pages healed = (
  seen_to old mid.rolls mid.rolls_first wave now e (subst (λ (c : CatchUpValue). IsHealed c wave now e) rest healed),
  elim first [
    | inl own ↦ inl own.0
    | inr none ↦ inr (mid.rolls, subst (λ (b : Bool). IsAskOf old.rolls mid.rolls now b None) pages none.1)
  ],
)
