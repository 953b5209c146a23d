-- The one key of some plants, one after another.
use Rattle.std.proofs.Common.{◌≡◌, List, [], ◌∷◌, Option, Some, None, Result, Ok, Err, IfOk, refl, sym, subst}
use Rattle.circuit_keys.specs.declared.key_file.SharedKeys.{SharedKeys}
use Rattle.init_command.specs.Keys.{IsKeyOf, AllHave, NoneHas}

-- a key is its own
pub own_key : (key : Option SharedKeys) → IsKeyOf key key
own_key None = tt
own_key (Some own) = refl

-- no plant has another
pub none_found : (key : Option SharedKeys) (found : List (Option SharedKeys)) → found ≡ [] → AllHave key found
none_found key found is = subst (λ fs. AllHave key fs) (sym is) tt

-- and none has one
pub none_there : (found : List (Option SharedKeys)) → found ≡ [] → NoneHas found
none_there found is = subst (λ fs. NoneHas fs) (sym is) tt

-- a key of a key is that of its plant
of_key : (key mid own : Option SharedKeys) → IsKeyOf key mid → IsKeyOf mid own → IsKeyOf key own
of_key key mid None is same = tt
of_key key mid (Some own) is same = subst (λ k. IsKeyOf key k) same is

-- it is the one that was asked for
pub asked_through : {E : Type 0} (result : Result (Option SharedKeys) E) (mid asked : Option SharedKeys)
    → IsKeyOf mid asked → IfOk result (λ key. IsKeyOf key mid) → IfOk result (λ key. IsKeyOf key asked)
asked_through (Ok key) mid asked same is = of_key key mid asked is same
asked_through (Err e) mid asked same is = tt

-- it is that of the first plant and of the others
pub found_through : {E : Type 0} (result : Result (Option SharedKeys) E) (mid first : Option SharedKeys) (rest found : List (Option SharedKeys))
    → found ≡ first ∷ rest → IsKeyOf mid first → IfOk result (λ key. IsKeyOf key mid) → IfOk result (λ key. AllHave key rest) → IfOk result (λ key. AllHave key found)
found_through (Ok key) mid first rest found split same is all = subst (λ fs. AllHave key fs) (sym split) (of_key key mid first is same, all)
found_through (Err e) mid first rest found split same is all = tt

-- where there is none, none was asked for or found
pub none_through : {E : Type 0} (result : Result (Option SharedKeys) E) (mid asked first : Option SharedKeys) (rest found : List (Option SharedKeys))
    → found ≡ first ∷ rest → (mid ≡ None → (asked ≡ None) × (first ≡ None)) → IfOk result (λ key. key ≡ None → (mid ≡ None) × NoneHas rest)
    → IfOk result (λ key. key ≡ None → (asked ≡ None) × NoneHas found)
none_through (Ok key) mid asked first rest found split both none =
    λ is. ((both (none is).0).0, subst (λ fs. NoneHas fs) (sym split) ((both (none is).0).1, (none is).1))
none_through (Err e) mid asked first rest found split both none = tt
