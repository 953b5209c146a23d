-- What the words of Lists find.
use Rattle.std.proofs.Common.{◌≡◌, ◌⊎◌, inl, inr, refl, sym, ap, subst, ◌∙◌, List, [], ◌∷◌, ◌++◌, Option, Some, None, Bool, true, false}
use Rattle.std.specs.Prelude.{filter, filter_map, find}
use Rattle.protocol.specs.Lists.{IsAmong, has, until, or_else, first, greatest}

pub has_one : {A : Type 0} (p : A → Bool) (xs : List A) → has p xs ≡ true → (x : A) × IsAmong xs x × (p x ≡ true)
has_one p [] e = absurd (impossible e)
  where
    impossible : false ≡ true → ⊥
    impossible e = cc
has_one {A = A} p (x ∷ xs) e = go (p x) refl (λ h. has_one p xs h)
  where
    go : (b : Bool) → p x ≡ b → (has p xs ≡ true → (y : A) × IsAmong xs y × (p y ≡ true)) → (y : A) × IsAmong (x ∷ xs) y × (p y ≡ true)
    go true f rest = (x, inl refl, f)
    go false f rest = let (y, i, g) = rest (rw f at e) in (y, inr i, g)

pub among_has : {A : Type 0} (p : A → Bool) (xs : List A) (x : A) → IsAmong xs x → p x ≡ true → has p xs ≡ true
among_has p [] x i e = absurd i
among_has p (y ∷ xs) x (inl f) e = let g : p y ≡ true = subst (λ z. p z ≡ true) f e in rw g refl
among_has p (y ∷ xs) x (inr i) e = go (p y) refl (among_has p xs x i e)
  where
    go : (b : Bool) → p y ≡ b → has p xs ≡ true → has p (y ∷ xs) ≡ true
    go true f rest = rw f refl
    go false f rest = rw f rest

pub has_none : {A : Type 0} (p : A → Bool) (xs : List A) → ((x : A) → IsAmong xs x → p x ≡ true → ⊥) → has p xs ≡ false
has_none p xs h = go (has p xs) refl
  where
    go : (b : Bool) → has p xs ≡ b → has p xs ≡ false
    go true e = let (x, i, f) = has_one p xs e in absurd (h x i f)
    go false e = e

pub among_filter_map : {A B : Type 0} (f : A → Option B) (xs : List A) (y : B) → IsAmong (filter_map f xs) y → (x : A) × IsAmong xs x × (f x ≡ Some y)
among_filter_map f [] y i = absurd i
among_filter_map {A = A} {B = B} f (x ∷ xs) y i = go (f x) refl (λ j. among_filter_map f xs y j)
  where
    go : (o : Option B) → f x ≡ o → (IsAmong (filter_map f xs) y → (z : A) × IsAmong xs z × (f z ≡ Some y)) → (z : A) × IsAmong (x ∷ xs) z × (f z ≡ Some y)
    go None e rest = let (z, j, g) = rest (rw e at i) in (z, inr j, g)
    go (Some w) e rest =
        let split : (y ≡ w) ⊎ IsAmong (filter_map f xs) y = rw e at i in
        elim split [ inl g ↦ (x, inl refl, e ∙ ap Some (sym g)) | inr j ↦ let (z, k, g) = rest j in (z, inr k, g) ]

pub filter_map_among : {A B : Type 0} (f : A → Option B) (xs : List A) (x : A) (y : B) → IsAmong xs x → f x ≡ Some y → IsAmong (filter_map f xs) y
filter_map_among f [] x y i e = absurd i
filter_map_among f (z ∷ xs) x y (inl g) e = let h : f z ≡ Some y = subst (λ w. f w ≡ Some y) g e in rw h (inl refl)
filter_map_among {B = B} f (z ∷ xs) x y (inr i) e = go (f z) refl (filter_map_among f xs x y i e)
  where
    go : (o : Option B) → f z ≡ o → IsAmong (filter_map f xs) y → IsAmong (filter_map f (z ∷ xs)) y
    go None g rest = rw g rest
    go (Some w) g rest = rw g (inr rest)

-- an order: it is no cycle
pub record IsOrder {A : Type 0} (above : A → A → Bool) : Type 0 where
  pub strict : (x : A) → above x x ≡ true → ⊥
  pub trans : (x y z : A) → above x y ≡ true → above y z ≡ true → above x z ≡ true
  pub level : (x y z : A) → above x y ≡ true → above z y ≡ false → above x z ≡ true

pub record IsTop {A : Type 0} (above : A → A → Bool) (xs : List A) (g : A) : Type 0 where
  pub is_among : IsAmong xs g
  pub none_above : (x : A) → IsAmong xs x → above x g ≡ true → ⊥

pub greatest_top : {A : Type 0} (above : A → A → Bool) → IsOrder above → (xs : List A) (g : A) → greatest above xs ≡ Some g → IsTop above xs g
greatest_top above o [] g e = absurd (impossible e)
  where
    impossible : {A : Type 0} {g : A} → None ≡ Some g → ⊥
    impossible e = cc
greatest_top {A = A} above o (x ∷ xs) g e = go (greatest above xs) refl (λ b f. greatest_top above o xs b f)
  where
    false_true : false ≡ true → ⊥
    false_true e = cc

    some_same : {B : Type 0} {a b : B} → Some a ≡ Some b → b ≡ a
    some_same e = cc

    none_there : (ys : List A) → greatest above ys ≡ None → ys ≡ []
    none_there [] f = refl
    none_there (y ∷ ys) f = cc

    only : xs ≡ [] → g ≡ x → IsTop above (x ∷ xs) g
    only f h = rw (f, h) (record { is_among = inl refl; none_above = λ y i u. elim i [ inl w ↦ o.strict x (subst (λ z. above z x ≡ true) w u) | inr n ↦ n ] })

    stays : (b : A) → IsTop above xs b → above x b ≡ false → g ≡ b → IsTop above (x ∷ xs) g
    stays b top t h =
        rw h (record {
          is_among = inr top.is_among;
          none_above = λ y i u. elim i [ inl w ↦ false_true (sym t ∙ subst (λ z. above z b ≡ true) w u) | inr j ↦ top.none_above y j u ];
        })

    takes : (b : A) → IsTop above xs b → above x b ≡ true → g ≡ x → IsTop above (x ∷ xs) g
    takes b top t h =
        rw h (record {
          is_among = inl refl;
          none_above = λ y i u. elim i [ inl w ↦ o.strict x (subst (λ z. above z x ≡ true) w u) | inr j ↦ top.none_above y j (o.trans y x b u t) ];
        })

    decide : (b : A) → IsTop above xs b → greatest above xs ≡ Some b → (t : Bool) → above x b ≡ t → IsTop above (x ∷ xs) g
    decide b top f true t = takes b top t (some_same (rw t at (rw f at e)))
    decide b top f false t = stays b top t (some_same (rw t at (rw f at e)))

    go : (r : Option A) → greatest above xs ≡ r → ((b : A) → greatest above xs ≡ Some b → IsTop above xs b) → IsTop above (x ∷ xs) g
    go None f rest = only (none_there xs f) (some_same (rw f at e))
    go (Some b) f rest = decide b (rest b f) f (above x b) refl

pub greatest_none : {A : Type 0} (above : A → A → Bool) (xs : List A) (x : A) → greatest above xs ≡ None → ¬ IsAmong xs x
greatest_none above [] x e i = i
greatest_none above (y ∷ xs) x e i = impossible e
  where
    impossible : {A : Type 0} {g : A} → Some g ≡ None → ⊥
    impossible e = cc

-- where f answers exactly where p passes, the first answer is that of the first item that passes
pub first_splits : {A B : Type 0} (f : A → Option B) (p : A → Bool) → ((x : A) → f x ≡ None → p x ≡ false) → ((x : A) (y : B) → f x ≡ Some y → p x ≡ true) → (xs : List A) (y : B) → first f xs ≡ Some y → (x : A) × (before : List A) × (f x ≡ Some y) × (xs ≡ until p xs ++ x ∷ before)
first_splits f p silent speaks [] y e = absurd (impossible e)
  where
    impossible : {B : Type 0} {y : B} → None ≡ Some y → ⊥
    impossible e = cc
first_splits {A = A} {B = B} f p silent speaks (x ∷ xs) y e = go (f x) refl (λ h. first_splits f p silent speaks xs y h)
  where
    go : (o : Option B) → f x ≡ o → (first f xs ≡ Some y → (z : A) × (before : List A) × (f z ≡ Some y) × (xs ≡ until p xs ++ z ∷ before)) → (z : A) × (before : List A) × (f z ≡ Some y) × (x ∷ xs ≡ until p (x ∷ xs) ++ z ∷ before)
    go None g rest =
        let (z, before, h, k) = rest (rw g at e) in
        let n : p x ≡ false = silent x g in
        (z, before, h, rw n (ap (λ l. x ∷ l) k))
    go (Some w) g rest =
        let t : p x ≡ true = speaks x w g in
        let same : Some w ≡ Some y = rw g at e in
        (x, xs, g ∙ same, rw t refl)

pub first_none : {A B : Type 0} (f : A → Option B) (xs : List A) (x : A) → first f xs ≡ None → IsAmong xs x → f x ≡ None
first_none f [] x e i = absurd i
first_none {B = B} f (z ∷ xs) x e i = go (f z) refl (λ h j. first_none f xs x h j)
  where
    go : (o : Option B) → f z ≡ o → (first f xs ≡ None → IsAmong xs x → f x ≡ None) → f x ≡ None
    go None g rest = elim i [ inl h ↦ subst (λ w. f w ≡ None) (sym h) g | inr j ↦ rest (rw g at e) j ]
    go (Some w) g rest = let h : Some w ≡ None = rw g at e in cc

pub first_at : {A B : Type 0} (f : A → Option B) (p : A → Bool) → ((x : A) (y : B) → f x ≡ Some y → p x ≡ true) → ((x : A) → p x ≡ false → f x ≡ None) → (since before : List A) (x : A) (y : B) → f x ≡ Some y → ((z : A) → IsAmong since z → p z ≡ true → ⊥) → (first f (since ++ x ∷ before) ≡ Some y) × (until p (since ++ x ∷ before) ≡ since)
first_at f p speaks silent [] before x y e h = let t : p x ≡ true = speaks x y e in (rw e refl, rw t refl)
first_at {A = A} {B = B} f p speaks silent (w ∷ since) before x y e h = go (p w) refl (first_at f p speaks silent since before x y e (λ z i t. h z (inr i) t))
  where
    go : (b : Bool) → p w ≡ b → (first f (since ++ x ∷ before) ≡ Some y) × (until p (since ++ x ∷ before) ≡ since) → (first f (w ∷ since ++ x ∷ before) ≡ Some y) × (until p (w ∷ since ++ x ∷ before) ≡ w ∷ since)
    go true t rest = absurd (h w (inl refl) t)
    go false t rest = let n : f w ≡ None = silent w t in (rw n rest.0, rw t (ap (λ l. w ∷ l) rest.1))

-- the greatest answer, and where it stands: none after it is above, and it is above all before it
pub record Stands {A B : Type 0} (f : A → Option B) (above : B → B → Bool) (xs : List A) (y : B) : Type 0 where
  pub after : List A
  pub before : List A
  pub item : A
  pub stands : xs ≡ after ++ item ∷ before
  pub gives : f item ≡ Some y
  pub above_before : (x : A) (w : B) → IsAmong before x → f x ≡ Some w → above y w ≡ true
  pub above_after : (x : A) (w : B) → IsAmong after x → f x ≡ Some w → above w y ≡ false

pub greatest_stands : {A B : Type 0} (f : A → Option B) (above : B → B → Bool) → IsOrder above → (xs : List A) (y : B) → greatest above (filter_map f xs) ≡ Some y → Stands f above xs y
greatest_stands f above o [] y e = absurd (impossible e)
  where
    impossible : {B : Type 0} {y : B} → None ≡ Some y → ⊥
    impossible e = cc
greatest_stands {A = A} {B = B} f above o (x ∷ xs) y e = go (f x) refl (λ h. greatest_stands f above o xs y h) (greatest above (filter_map f xs)) refl (λ g h. greatest_stands f above o xs g h)
  where
    some_same : {B : Type 0} {a b : B} → Some a ≡ Some b → b ≡ a
    some_same e = cc

    none_some : {B : Type 0} {b : B} → None ≡ Some b → ⊥
    none_some e = cc

    not_true : (b : Bool) → (b ≡ true → ⊥) → b ≡ false
    not_true true h = absurd (h refl)
    not_true false h = refl

    later : (g : B) → Stands f above xs g → ((w : B) → f x ≡ Some w → above w g ≡ false) → Stands f above (x ∷ xs) g
    later g s h = record {
      after = x ∷ s.after;
      before = s.before;
      item = s.item;
      stands = ap (λ l. x ∷ l) s.stands;
      gives = s.gives;
      above_before = s.above_before;
      above_after = λ z w i e. elim i [ inl k ↦ h w (subst (λ v. f v ≡ Some w) k e) | inr j ↦ s.above_after z w j e ];
    }

    here : (w : B) → f x ≡ Some w → ((z : A) (u : B) → IsAmong xs z → f z ≡ Some u → above w u ≡ true) → Stands f above (x ∷ xs) w
    here w g h = record { after = []; before = xs; item = x; stands = refl; gives = g; above_before = h; above_after = λ z u i e. absurd i }

    weigh : (w g : B) → f x ≡ Some w → greatest above (filter_map f xs) ≡ Some g → Stands f above xs g → (t : Bool) → above w g ≡ t → Stands f above (x ∷ xs) y
    weigh w g k h s true t =
        let same : y ≡ w = some_same (rw t at (rw h at (rw k at e))) in
        let top : IsTop above (filter_map f xs) g = greatest_top above o (filter_map f xs) g h in
        rw same (here w k (λ z u i v. o.level w g u t (not_true (above u g) (λ q. top.none_above u (filter_map_among f xs z u i v) q))))
    weigh w g k h s false t =
        let same : y ≡ g = some_same (rw t at (rw h at (rw k at e))) in
        rw same (later g s (λ u v. subst (λ q. above q g ≡ false) (some_same (sym v ∙ k)) t))

    go : (a : Option B) → f x ≡ a → (greatest above (filter_map f xs) ≡ Some y → Stands f above xs y) → (r : Option B) → greatest above (filter_map f xs) ≡ r → ((g : B) → greatest above (filter_map f xs) ≡ Some g → Stands f above xs g) → Stands f above (x ∷ xs) y
    go None k rest r h tail = later y (rest (rw k at e)) (λ w g. absurd (none_some (sym k ∙ g)))
    go (Some w) k rest (Some g) h tail = weigh w g k h (tail g h) (above w g) refl
    go (Some w) k rest None h tail =
        let same : y ≡ w = some_same (rw h at (rw k at e)) in
        rw same (here w k (λ z u i v. absurd (greatest_none above (filter_map f xs) u h (filter_map_among f xs z u i v))))

pub find_append : {A : Type 0} (p : A → Bool) (xs ys : List A) → find p (xs ++ ys) ≡ or_else (find p xs) (find p ys)
find_append p [] ys = refl
find_append {A = A} p (x ∷ xs) ys = go (p x) refl (find_append p xs ys)
  where
    go : (b : Bool) → p x ≡ b → find p (xs ++ ys) ≡ or_else (find p xs) (find p ys) → find p (x ∷ xs ++ ys) ≡ or_else (find p (x ∷ xs)) (find p ys)
    go true t rest = rw t refl
    go false t rest = rw t rest

pub among_filter : {A : Type 0} (p : A → Bool) (xs : List A) (y : A) → IsAmong (filter p xs) y → IsAmong xs y × (p y ≡ true)
among_filter p [] y i = absurd i
among_filter {A = A} p (x ∷ xs) y i = go (p x) refl (λ j. among_filter p xs y j)
  where
    go : (b : Bool) → p x ≡ b → (IsAmong (filter p xs) y → IsAmong xs y × (p y ≡ true)) → IsAmong (x ∷ xs) y × (p y ≡ true)
    go false e rest = let (j, g) = rest (rw e at i) in (inr j, g)
    go true e rest =
        let split : (y ≡ x) ⊎ IsAmong (filter p xs) y = rw e at i in
        elim split [ inl g ↦ (inl g, ap p g ∙ e) | inr j ↦ (let (k, g) = rest j in (inr k, g)) ]

pub filter_among : {A : Type 0} (p : A → Bool) (xs : List A) (y : A) → IsAmong xs y → p y ≡ true → IsAmong (filter p xs) y
filter_among p [] y i e = absurd i
filter_among {A = A} p (x ∷ xs) y (inl g) e = let h : p x ≡ true = ap p (sym g) ∙ e in rw h (inl g)
filter_among {A = A} p (x ∷ xs) y (inr i) e = go (p x) refl (filter_among p xs y i e)
  where
    go : (b : Bool) → p x ≡ b → IsAmong (filter p xs) y → IsAmong (filter p (x ∷ xs)) y
    go false f rest = rw f rest
    go true f rest = rw f (inr rest)
