-- A step is missing exactly where the circuit does not have it.
use Rattle.std.proofs.Common.{◌≡◌, ℕ, zero, suc, refl, sym, ap, subst, ◌∙◌, arith, List, [], ◌∷◌, ◌++◌, Option, Some, None, Bool, true, false}
use Rattle.std.specs.Prelude.{◌==◌, ◌-◌, ◌&&◌, nat_le, slice_get, length}
use Rattle.std.proofs.lemmas.Bool.{ne_eqb, le-leb, leb-true, and_parts}
use Rattle.protocol.specs.Ballots.{IsMember}
use Rattle.protocol.specs.Circuit.{Datagram, Offers, Seeks, Falls_due, Delivers, Restarts, Upgrades, Balks, Recalls, datagram_at, No_such_member, No_such_datagram, member_missing, datagram_missing}
use Rattle.protocol.specs.Missing.{WasSentAs, HasStep, MissingIsExact}

none_some : {A : Type 0} {a : A} → None ≡ Some a → ⊥
none_some e = cc

some_is : {A : Type 0} {a b : A} → Some a ≡ Some b → a ≡ b
some_is e = cc

is_member : (c m : ℕ) → member_missing c m ≡ None → IsMember c m
is_member c m e = go (nat_le 1 m && nat_le m c) refl
  where
    go : (t : Bool) → (nat_le 1 m && nat_le m c) ≡ t → IsMember c m
    go true f = let p = and_parts (nat_le 1 m) (nat_le m c) f in (leb-true 1 m p.0, leb-true m c p.1)
    go false f = let no : Some No_such_member ≡ None = rw f at e in absurd (none_some (sym no))

no_member_missing : (c m : ℕ) → IsMember c m → member_missing c m ≡ None
no_member_missing c m i = rw (le-leb 1 m i.0, le-leb m c i.1) refl

-- what stands at a place has so many before it
stands_after : (ds : List Datagram) (j : ℕ) (d : Datagram) → slice_get ds j ≡ Some d → WasSentAs ds (suc j) d
stands_after [] j d e = absurd (none_some e)
stands_after (y ∷ ds) zero d e = ([], ds, ap (λ (x : Datagram). x ∷ ds) (some_is e), refl)
stands_after (y ∷ ds) (suc j) d e =
    let (before, after, is, place) = stands_after ds j d e in
    (y ∷ before, after, ap (λ (l : List Datagram). y ∷ l) is, ap suc place)

stands_at : (before after : List Datagram) (d : Datagram) → slice_get (before ++ d ∷ after) (length before) ≡ Some d
stands_at [] after d = refl
stands_at (y ∷ before) after d = stands_at before after d

from_one : (ds : List Datagram) (j : ℕ) → datagram_at ds (suc j) ≡ slice_get ds j
from_one ds j =
    let e : (suc j == 0) ≡ false = ne_eqb (suc j) 0 (λ q. omega arith) in
    let f : suc j - 1 ≡ j = omega arith in
    rw (e, f) refl

was_sent : (sent : List Datagram) (k : ℕ) (d : Datagram) → datagram_at sent k ≡ Some d → WasSentAs sent k d
was_sent sent zero d e = absurd (none_some e)
was_sent sent (suc j) d e = stands_after sent j d (sym (from_one sent j) ∙ e)

is_sent : (sent : List Datagram) (k : ℕ) (d : Datagram) → WasSentAs sent k d → datagram_at sent k ≡ Some d
is_sent sent k d (before, after, is, place) =
    subst (λ (x : ℕ). datagram_at sent x ≡ Some d) (sym place)
    (subst (λ (l : List Datagram). datagram_at l (suc (length before)) ≡ Some d) (sym is)
    (from_one (before ++ d ∷ after) (length before) ∙ stands_at before after d))

pub missing_is_exact : MissingIsExact
missing_is_exact c sent (Offers m n entry now) = (is_member c m, no_member_missing c m)
missing_is_exact c sent (Seeks m n now) = (is_member c m, no_member_missing c m)
missing_is_exact c sent (Falls_due m now) = (is_member c m, no_member_missing c m)
missing_is_exact c sent (Delivers k now) = (λ e. there (datagram_at sent k) refl e, λ x. here x)
  where
    there : (r : Option Datagram) → datagram_at sent k ≡ r → datagram_missing c (datagram_at sent k) ≡ None → HasStep c sent (Delivers k now)
    there None f e = let no : Some No_such_datagram ≡ None = rw f at e in absurd (none_some (sym no))
    there (Some d) f e = (d, was_sent sent k d f, is_member c d.to (ap (λ (r : Option Datagram). datagram_missing c r) (sym f) ∙ e))

    here : HasStep c sent (Delivers k now) → datagram_missing c (datagram_at sent k) ≡ None
    here (d, was, member) = ap (λ (r : Option Datagram). datagram_missing c r) (is_sent sent k d was) ∙ no_member_missing c d.to member
missing_is_exact c sent (Restarts m) = (is_member c m, no_member_missing c m)
missing_is_exact c sent (Upgrades m) = (is_member c m, no_member_missing c m)
missing_is_exact c sent (Balks m saved) = (is_member c m, no_member_missing c m)
missing_is_exact c sent (Recalls m n to) = (is_member c m, no_member_missing c m)
