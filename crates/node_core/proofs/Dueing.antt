-- The least number that is due: the least of the instances that are is the least that is read from the marks.
use Rattle.std.proofs.Common.{◌≡◌, ◌≤◌, ◌<◌, ℕ, refl, sym, ap, ◌∙◌, List, [], ◌∷◌, Option, Some, None, Bool, true, false, subst, arith}
use Rattle.std.specs.Ordering.{nat_cmp}
use Rattle.std.proofs.Common.{Ordering, Less, Equal, Greater}
use Rattle.std.specs.BTreeMap.{is_at}
use Rattle.std.specs.List.{AllByRecursion}
use Rattle.std.specs.List.Sorted.{IsStrictlySortedBy}
use Rattle.std.specs.Map.{keys_of}
use Rattle.std.proofs.lemmas.Cmp.{ranked}
use Rattle.std.proofs.lemmas.Map.Lookups.{exact_unsigned}
use Rattle.std.proofs.lemmas.Map.Views.{tells_apart}
use Rattle.protocol.specs.NextDue.{IsLeast}
use Rattle.protocol.specs.Marks.{Mark}
use Rattle.protocol.specs.Proposals.{open_proposal, is_due_number}
use Rattle.node_core.specs.declared.instance.Instance.{Instance}
use Rattle.node_core.specs.Standing.{Core, StandsFor, InHandStands, instance_in, instance_at, AllStand, IsLeastPassing}
use Rattle.node_core.proofs.Keeping.{none_open_in_hand}

-- there is one least
pub one_least : (passes : ℕ → Bool) (o r : Option ℕ) → IsLeast passes o → IsLeast passes r → o ≡ r
one_least passes None None h l = refl
one_least passes None (Some n) h l = let bad : true ≡ false = sym l.0 ∙ h n in absurd cc
one_least passes (Some m) None h l = let bad : true ≡ false = sym h.0 ∙ l m in absurd cc
one_least passes (Some m) (Some n) h l =
    let below : m ≤ n = h.1 n l.0 in
    let above : n ≤ m = l.1 m h.0 in
    let same : m ≡ n = omega arith in
    ap (λ k. Some k) same

-- what is in hand stands for the marks
pub all_stand : (v : Core) (marks : List Mark) → StandsFor v marks → AllStand v.instances marks
all_stand v marks h = λ n d e. subst (λ (o : Option Instance). InHandStands v.members n o marks) e (h.in_hand n)

-- a number that is due is in hand
due_in_hand : (v : Core) (me now n : ℕ) (marks : List Mark) → StandsFor v marks → is_due_number me now marks n ≡ true → (d : Instance) × (instance_at v n ≡ Some d)
due_in_hand v me now n marks h due = go (instance_at v n) refl
  where
    go : (q : Option Instance) → instance_at v n ≡ q → (d : Instance) × (instance_at v n ≡ Some d)
    go None e =
        let closed : open_proposal n marks ≡ None = none_open_in_hand v.members n marks (subst (λ (x : Option Instance). InHandStands v.members n x marks) e (h.in_hand n)) in
        let bad : false ≡ true = rw closed at due in absurd cc
    go (Some d) e = (d, e)

-- the least in hand that is due is the least of all numbers that are
least_of_all : (v : Core) (me now : ℕ) (marks : List Mark) (o : Option ℕ) → StandsFor v marks → IsLeastPassing (is_due_number me now marks) v.instances o → IsLeast (is_due_number me now marks) o
least_of_all v me now marks None h l = λ n. go n (is_due_number me now marks n) refl
  where
    go : (n : ℕ) (t : Bool) → is_due_number me now marks n ≡ t → is_due_number me now marks n ≡ false
    go n true due = let d = due_in_hand v me now n marks h due in l n d.0 d.1
    go n false e = e
least_of_all v me now marks (Some n) h l = (l.0, λ k due. (let d = due_in_hand v me now k marks h due in l.1 k d.0 d.1 due))

pub is_next_due : (v : Core) (me now : ℕ) (marks : List Mark) (o next : Option ℕ) → StandsFor v marks → IsLeastPassing (is_due_number me now marks) v.instances o → IsLeast (is_due_number me now marks) next → o ≡ next
is_next_due v me now marks o next h l least = one_least (is_due_number me now marks) o next (least_of_all v me now marks o h l) least

-- the rest of what is in hand, in order, with all of it that passes
pub record Left (passes : ℕ → Bool) (all rest : List (ℕ × Instance)) : Type 0 where
  pub in_order : IsStrictlySortedBy nat_cmp (keys_of rest)
  pub within : (k : ℕ) (d : Instance) → instance_in rest k ≡ Some d → instance_in all k ≡ Some d
  pub due_left : (k : ℕ) (d : Instance) → instance_in all k ≡ Some d → passes k ≡ true → instance_in rest k ≡ Some d

pub all_left : (passes : ℕ → Bool) (all rest : List (ℕ × Instance)) → rest ≡ all → IsStrictlySortedBy nat_cmp (keys_of all) → Left passes all rest
all_left passes all rest e h = rw e (record { in_order = h; within = λ k d f. f; due_left = λ k d f p. f })

-- a key of the rest is above the key before it
above : (n k : ℕ) (x : Instance) (rest : List (ℕ × Instance)) → AllByRecursion (λ q. nat_cmp n q ≡ Less) (keys_of rest) → instance_in rest k ≡ Some x → n < k
above n k x [] a e = absurd cc
above n k x (f ∷ rest) a e = go (is_at (nat_cmp k) f.0) refl (λ g. above n k x rest a.1 g)
  where
    go : (t : Bool) → is_at (nat_cmp k) f.0 ≡ t → (instance_in rest k ≡ Some x → n < k) → n < k
    go true t r = ranked n k Less (sym (subst (λ j. nat_cmp n j ≡ Less) (sym (tells_apart exact_unsigned k f.0 t)) a.0))
    go false t r = r (rw t at e)

parts : (n : ℕ) (ns : List ℕ) → IsStrictlySortedBy nat_cmp (n ∷ ns) → AllByRecursion (λ q. nat_cmp n q ≡ Less) ns × IsStrictlySortedBy nat_cmp ns
unfolding IsStrictlySortedBy
parts n ns h = h

-- where the first of the rest stands
own_at : (n : ℕ) → is_at (nat_cmp n) n ≡ true
own_at n = go (nat_cmp n n) refl
  where
    go : (o : Ordering) → nat_cmp n n ≡ o → is_at (nat_cmp n) n ≡ true
    go Less e = let h : n < n = ranked n n Less (sym e) in absurd (omega arith)
    go Equal e = rw e refl
    go Greater e = let h : n < n = ranked n n Greater (sym e) in absurd (omega arith)

module _ (passes : ℕ → Bool) (all rest next : List (ℕ × Instance)) (n : ℕ) (d : Instance) (is : rest ≡ (n, d) ∷ next) (h : Left passes all rest) where
  first_left : Left passes all ((n, d) ∷ next)
  first_left = subst (λ (es : List (ℕ × Instance)). Left passes all es) is h

  pub there : instance_in all n ≡ Some d
  there = let t : is_at (nat_cmp n) n ≡ true = own_at n in first_left.within n d (rw t refl)

  -- it does not pass
  pub less_left : passes n ≡ false → Left passes all next
  less_left f = record { in_order = (parts n (keys_of next) first_left.in_order).1; within = within; due_left = due }
    where
      within : (k : ℕ) (x : Instance) → instance_in next k ≡ Some x → instance_in all k ≡ Some x
      within k x e = go (is_at (nat_cmp k) n) refl
        where
          go : (t : Bool) → is_at (nat_cmp k) n ≡ t → instance_in all k ≡ Some x
          go true t =
              let same : k ≡ n = tells_apart exact_unsigned k n t in
              let below : n < k = above n k x next (parts n (keys_of next) first_left.in_order).0 e in
              absurd (omega arith)
          go false t = first_left.within k x (rw t e)

      due : (k : ℕ) (x : Instance) → instance_in all k ≡ Some x → passes k ≡ true → instance_in next k ≡ Some x
      due k x e p = go (is_at (nat_cmp k) n) refl
        where
          go : (t : Bool) → is_at (nat_cmp k) n ≡ t → instance_in next k ≡ Some x
          go true t = let bad : true ≡ false = sym p ∙ ap passes (tells_apart exact_unsigned k n t) ∙ f in absurd cc
          go false t = let g : instance_in ((n, d) ∷ next) k ≡ Some x = first_left.due_left k x e p in rw t at g

  -- it passes: it is the least that does
  pub least_left : passes n ≡ true → IsLeastPassing passes all (Some n)
  least_left p = (p, λ k x e q. go k x q (is_at (nat_cmp k) n) refl (first_left.due_left k x e q))
    where
      go : (k : ℕ) (x : Instance) → passes k ≡ true → (t : Bool) → is_at (nat_cmp k) n ≡ t → instance_in ((n, d) ∷ next) k ≡ Some x → n ≤ k
      go k x q true t e = let same : k ≡ n = tells_apart exact_unsigned k n t in omega arith
      go k x q false t e = let below : n < k = above n k x next (parts n (keys_of next) first_left.in_order).0 (rw t at e) in omega arith

-- nothing is left
pub none_left : (passes : ℕ → Bool) (all rest : List (ℕ × Instance)) → rest ≡ [] → Left passes all rest → IsLeastPassing passes all None
none_left passes all rest is h = λ k d e. go k d e (passes k) refl
  where
    go : (k : ℕ) (d : Instance) → instance_in all k ≡ Some d → (t : Bool) → passes k ≡ t → passes k ≡ false
    go k d e true p = let f : instance_in [] k ≡ Some d = rw is at (h.due_left k d e p) in absurd cc
    go k d e false p = p
