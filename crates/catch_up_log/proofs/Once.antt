-- What waits after some were told.
use Rattle.std.proofs.Common.{◌≡◌, ◌+◌, ℕ, Bool, true, false, List, [], ◌∷◌, Option, Some, None, inl, inr, refl, sym, subst, ap, ◌∙◌}
use Rattle.std.proofs.lemmas.Bool.{lt-leb}
use Rattle.std.specs.Prelude.{if◌then◌else◌}
use Rattle.protocol.specs.Lists.{IsAmong}
use Rattle.plant_log.specs.Differing.{is_time}
use Rattle.catch_up_log.specs.declared.missed.Missed.{Missed}
use Rattle.catch_up_log.specs.Missed.{AddsTo, TellsSome, are_told, missed_after}
use Rattle.catch_up_log.specs.Once.{AddsEach, OnceASecond, OnceEach, waits}

-- a number that does not wait does not where another is added
one_added : (old new : Option (List Bool)) (m n : ℕ) → AddsTo old m new → ¬ (n ≡ m) → waits old n ≡ false → waits new n ≡ false
one_added None None m n adds other is = refl
one_added None (Some new) m n adds other is = adds.1 n other ∙ is
one_added (Some old) None m n adds other is = absurd adds
one_added (Some old) (Some new) m n adds other is = adds.1 n other ∙ is

-- nor where others are
others_added : (ns : List ℕ) (old new : Option (List Bool)) (n : ℕ) → AddsEach old ns new → ¬ IsAmong ns n → waits old n ≡ false → waits new n ≡ false
others_added [] old new n adds other is = subst (λ (w : Option (List Bool)). waits w n ≡ false) (sym adds) is
others_added (m ∷ ms) old new n adds other is =
    others_added ms adds.0 new n adds.2 (λ among. other (inr among)) (one_added old adds.0 m n adds.1 (λ same. other (inl same)) is)

-- once some were told none waits, and it was now
told_now : (m : Missed) (now : ℕ) → are_told m now ≡ true → missed_after m now ≡ record { waiting = None; told = Some now }
told_now m now is =
    let none : Missed = record { waiting = None; told = Some now } in
    ap (λ (b : Bool). if b then none else m) is

-- where it is not time nothing is told
nothing_told : (waiting : Option (List Bool)) (old new : Option (List ℕ)) → TellsSome waiting false old new → new ≡ old
nothing_told None old new tells = tells
nothing_told (Some flags) old new tells = tells

pub once_each : OnceEach
once_each m later now added after n other =
    let none : (missed_after m now).waiting ≡ None = ap (λ (k : Missed). k.waiting) (told_now m now after.some) in
    others_added added None later.waiting n (subst (λ (w : Option (List Bool)). AddsEach w added later.waiting) none after.adds) other refl

pub once_a_second : OnceASecond
once_a_second m later now soon added old new after less tells =
    let told : later.told ≡ Some now = after.rest ∙ ap (λ (k : Missed). k.told) (told_now m now after.some) in
    let early : is_time later.told soon ≡ false = ap (λ (t : Option ℕ). is_time t soon) told ∙ lt-leb (now + 1000) soon less in
    nothing_told later.waiting old new (subst (λ (b : Bool). TellsSome later.waiting b old new) early tells)
