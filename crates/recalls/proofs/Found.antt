-- What is read as a recall spells it.
use Rattle.std.proofs.Common.{◌≡◌, ℕ, zero, suc, ◌<◌, ◌≤◌, Bool, true, false, ltb, leb, eqb, not, ◌&&◌, List, [], ◌∷◌, ◌++◌, length, Result, Ok, Err, refl, sym, ap, subst, ◌∙◌, append-nil, append_assoc}
use Rattle.std.specs.Prelude.{drop, slice_index, IfOk, OnErr, Option, Some, None, if◌then◌else◌}
use Rattle.std.specs.Int.{w32, from_be_bytes}
use Rattle.std.proofs.lemmas.Bool.{eqb-true, eqb-false, ltb-false, leb-true, leb-false}
use Rattle.protocol.specs.Ballots.{IsMember}
use Rattle.protocol.specs.Limits.{is_number}
use Rattle.packets.specs.Grammar.{IsBytes, SpellsFour}
use Rattle.recalls.specs.Recalls.{Recall, Rise, recall_of}
use Rattle.recalls.specs.Grammar.{SpellsNumbers, Spells}
use Rattle.recalls.specs.declared.fault.RecallFault.{RecallFault}
use Rattle.recalls.specs.declared.fault.RecallFault.TheVariants.{Short, BadMark, BadVersion, BadKind, BadMember, BadCount, BadNumber, BadOrder}
use Rattle.recalls.specs.Tickets.{Ticket, u32_at, is_member_at, ticket_in, ticket_at}
use Rattle.recalls.specs.Reading.{◌>>=◌, wanted, number_at, mark_at, count_of, numbers_at, ends, recall_at}
use Rattle.recalls.specs.Laws.{FindsWhatIsSpelled}
use Rattle.recalls.proofs.Numbers.{two_read, four_read}
use Rattle.recalls.proofs.Again.{reads_it_again}

no_ok : {A : Type 0} {x : A} {e : RecallFault} → Err e ≡ Ok x → ⊥
no_ok e = cc

pub ok_same : {A : Type 0} {x y : A} (r : Result A RecallFault) → r ≡ Ok x → r ≡ Ok y → x ≡ y
ok_same r e f = cc

-- both steps of two went well
pub bound : {A B : Type 0} (x : Result A RecallFault) (f : A → Result B RecallFault) (y : B) → (x >>= f) ≡ Ok y → (a : A) × (x ≡ Ok a) × (f a ≡ Ok y)
bound (Ok a) f y e = (a, refl, e)
bound (Err fault) f y e = absurd (no_ok e)

-- a test that went well
passed : {A : Type 0} (b : Bool) (fault : RecallFault) (x : Result A RecallFault) (y : A) → (if b then Err fault else x) ≡ Ok y → (b ≡ false) × (x ≡ Ok y)
passed true fault x y e = absurd (no_ok e)
passed false fault x y e = (refl, e)

granted : {A : Type 0} (b : Bool) (fault : RecallFault) (x y : A) → (if b then Ok x else Err fault) ≡ Ok y → (b ≡ true) × (x ≡ y)
granted true fault x y e = (refl, ok_same _ refl e)
granted false fault x y e = absurd (no_ok e)

both_true : (a b : Bool) → (a && b) ≡ true → (a ≡ true) × (b ≡ true)
both_true true true e = (refl, refl)
both_true true false e = cc
both_true false b e = cc

unnot : (b : Bool) → not b ≡ false → b ≡ true
unnot true e = refl
unnot false e = cc

-- what a number was read from
record Number (above : ℕ) (bytes : List ℕ) (n : ℕ) : Type 0 where
  front : List ℕ
  are : bytes ≡ front ++ drop 4 bytes
  spells : SpellsFour front n
  above_it : above < n
  high : n ≤ 999999
  fit_behind : IsBytes (drop 4 bytes)

number_found : (above : ℕ) (bytes : List ℕ) (n : ℕ) → IsBytes bytes → number_at above bytes ≡ Ok n → Number above bytes n
unfolding number_at
number_found above [] n fit e = absurd (no_ok e)
number_found above (a ∷ []) n fit e = absurd (no_ok e)
number_found above (a ∷ b ∷ []) n fit e = absurd (no_ok e)
number_found above (a ∷ b ∷ c ∷ []) n fit e = absurd (no_ok e)
number_found above (b3 ∷ b2 ∷ b1 ∷ b0 ∷ bytes) n fit e =
    let m : ℕ = from_be_bytes w32 (b3 ∷ b2 ∷ b1 ∷ b0 ∷ []) in
    let (long, e0) = passed (ltb (length (b3 ∷ b2 ∷ b1 ∷ b0 ∷ bytes)) 4) Short _ n e in
    let (known, e1) = passed (not (is_number m)) BadNumber _ n e0 in
    let (rising, e2) = passed (leb m above) BadOrder _ n e1 in
    let number = both_true (leb 1 m) (leb m 999999) (unnot (is_number m) known) in
    let found : Number above (b3 ∷ b2 ∷ b1 ∷ b0 ∷ bytes) m = record {
      front = b3 ∷ b2 ∷ b1 ∷ b0 ∷ [];
      are = refl;
      spells = four_read b3 b2 b1 b0 (fit 0) (fit 1) (fit 2) (fit 3);
      above_it = leb-false m above rising;
      high = leb-true m 999999 number.1;
      fit_behind = λ i. fit (suc (suc (suc (suc i))));
    } in
    subst (λ (x : ℕ). Number above (b3 ∷ b2 ∷ b1 ∷ b0 ∷ bytes) x) (ok_same _ refl e2) found

-- it is one, and above
pub number_rises : (above : ℕ) (bytes : List ℕ) (n : ℕ) → number_at above bytes ≡ Ok n → (above < n) × (n ≤ 999999)
unfolding number_at
number_rises above bytes n e =
    let m : ℕ = u32_at bytes 0 in
    let (long, e0) = passed (ltb (length bytes) 4) Short _ n e in
    let (known, e1) = passed (not (is_number m)) BadNumber _ n e0 in
    let (rising, e2) = passed (leb m above) BadOrder _ n e1 in
    let number = both_true (leb 1 m) (leb m 999999) (unnot (is_number m) known) in
    subst (λ (x : ℕ). (above < x) × (x ≤ 999999)) (ok_same _ refl e2) (leb-false m above rising, leb-true m 999999 number.1)

-- what the numbers were read from
record Numbers (count above : ℕ) (bytes ns rest : List ℕ) : Type 0 where
  front : List ℕ
  are : bytes ≡ front ++ rest
  spells : SpellsNumbers front ns
  rise : Rise above ns
  many : length ns ≡ count

numbers_found : (count above : ℕ) (bytes ns rest : List ℕ) → IsBytes bytes → numbers_at count above bytes ≡ Ok (ns, rest) → Numbers count above bytes ns rest
numbers_found zero above bytes ns rest fit e =
    let same : ([], bytes) ≡ (ns, rest) = ok_same _ refl e in
    let none : [] ≡ ns = ap (λ (x : List ℕ × List ℕ). x.0) same in
    let all : bytes ≡ rest = ap (λ (x : List ℕ × List ℕ). x.1) same in
    subst (λ (l : List ℕ). Numbers 0 above bytes l rest) none (record { front = []; are = all; spells = refl; rise = tt; many = refl })
numbers_found (suc count) above bytes ns rest fit e =
    let (n, e1, e2) = bound (number_at above bytes) _ (ns, rest) e in
    let (more, e3, e4) = bound (numbers_at count n (drop 4 bytes)) _ (ns, rest) e2 in
    let first = number_found above bytes n fit e1 in
    let inner = numbers_found count n (drop 4 bytes) more.0 more.1 (first.fit_behind) e3 in
    let whole : Numbers (suc count) above bytes (n ∷ more.0) more.1 = record {
      front = first.front ++ inner.front;
      are = first.are ∙ ap (λ (l : List ℕ). first.front ++ l) inner.are ∙ sym (append_assoc first.front inner.front more.1);
      spells = (first.front, inner.front, refl, first.spells, inner.spells);
      rise = (first.above_it, first.high, inner.rise);
      many = ap suc inner.many;
    } in
    subst (λ (x : List ℕ × List ℕ). Numbers (suc count) above bytes x.0 x.1) (ok_same _ refl e4) whole

nothing_behind : {A : Type 0} (x y : A) (bytes : List ℕ) → ends x bytes ≡ Ok y → (bytes ≡ []) × (x ≡ y)
nothing_behind x y [] e = (refl, ok_same _ refl e)
nothing_behind x y (b ∷ bytes) e = absurd (no_ok e)

-- bytes of the mark, the version and the kind
marked : (bytes : List ℕ) → mark_at bytes ≡ Ok tt
    → (17 ≤ length bytes) × (slice_index bytes 0 ≡ 84) × (slice_index bytes 1 ≡ 82) × (slice_index bytes 2 ≡ 1) × (slice_index bytes 3 ≡ 1)
unfolding mark_at
marked bytes e =
    let (long, e1) = passed (ltb (length bytes) 17) Short _ tt e in
    let (mark, e2) = passed (not (eqb (slice_index bytes 0) 84 && eqb (slice_index bytes 1) 82)) BadMark _ tt e1 in
    let (version, e3) = passed (not (eqb (slice_index bytes 2) 1)) BadVersion _ tt e2 in
    let (kind, e4) = passed (not (eqb (slice_index bytes 3) 1)) BadKind _ tt e3 in
    let both = both_true _ _ (unnot _ mark) in (
      ltb-false (length bytes) 17 long,
      eqb-true _ _ both.0,
      eqb-true _ _ both.1,
      eqb-true _ _ (unnot _ version),
      eqb-true _ _ (unnot _ kind),
    )

-- a value that was wanted, and is there
there : {A : Type 0} (fault : RecallFault) (o : Option A) (x : A) → wanted fault o ≡ Ok x → o ≡ Some x
there fault None x e = absurd (no_ok e)
there fault (Some y) x e = ap Some (ok_same (Ok y) refl e)

-- what the members of a ticket were read from
record Members (bytes : List ℕ) (h : Ticket) : Type 0 where
  is : ticket_in bytes ≡ h
  from : IsMember 15 (slice_index bytes 6)
  to : IsMember 15 (slice_index bytes 7)
  differ : ¬ (slice_index bytes 6 ≡ slice_index bytes 7)

member_found : (bytes : List ℕ) (at : ℕ) → not (is_member_at bytes at) ≡ false → IsMember 15 (slice_index bytes at)
member_found bytes at e = let both = both_true _ _ (unnot _ e) in (leb-true _ _ both.0, leb-true _ _ both.1)

ticket_found : (bytes : List ℕ) (h : Ticket) → wanted BadMember (ticket_at bytes) ≡ Ok h → Members bytes h
unfolding ticket_at
ticket_found bytes h e = long (ltb (length bytes) 12) (there BadMember _ h e)
  where
    apart : (b : Bool) → eqb (slice_index bytes 6) (slice_index bytes 7) ≡ b → not (is_member_at bytes 6) ≡ false → not (is_member_at bytes 7) ≡ false
        → (if b then None else Some (ticket_in bytes)) ≡ Some h → Members bytes h
    apart true is f t e = cc
    apart false is f t e = record { is = cc; from = member_found bytes 6 f; to = member_found bytes 7 t; differ = eqb-false _ _ is }

    to : (b : Bool) → not (is_member_at bytes 7) ≡ b → not (is_member_at bytes 6) ≡ false
        → (if b then None else if eqb (slice_index bytes 6) (slice_index bytes 7) then None else Some (ticket_in bytes)) ≡ Some h → Members bytes h
    to true is f e = cc
    to false is f e = apart (eqb (slice_index bytes 6) (slice_index bytes 7)) refl f is e

    from : (b : Bool) → not (is_member_at bytes 6) ≡ b
        → (if b then None else if not (is_member_at bytes 7) then None else if eqb (slice_index bytes 6) (slice_index bytes 7) then None else Some (ticket_in bytes)) ≡ Some h
        → Members bytes h
    from true is e = cc
    from false is e = to (not (is_member_at bytes 7)) refl is e

    long : (b : Bool)
        → (if b then None else if not (is_member_at bytes 6) then None else if not (is_member_at bytes 7) then None else if eqb (slice_index bytes 6) (slice_index bytes 7) then None else Some (ticket_in bytes))
        ≡ Some h → Members bytes h
    long true e = cc
    long false e = from (not (is_member_at bytes 6)) refl e

count_found : (count n : ℕ) → count_of count ≡ Ok n → (count ≡ n) × (1 ≤ n) × (n ≤ 64)
unfolding count_of
count_found count n e =
    let (is, same) = granted (leb 1 count && leb count 64) BadCount _ n e in
    let both = both_true _ _ is in
    (same, subst (λ (x : ℕ). 1 ≤ x) same (leb-true _ _ both.0), subst (λ (x : ℕ). x ≤ 64) same (leb-true _ _ both.1))

-- bytes that are long enough, read step by step
module _ (m1 m2 v k c1 c0 f t a3 a2 a1 a0 n : ℕ) (rest : List ℕ) (r : Recall) (fit : IsBytes (m1 ∷ m2 ∷ v ∷ k ∷ c1 ∷ c0 ∷ f ∷ t ∷ a3 ∷ a2 ∷ a1 ∷ a0 ∷ n ∷ rest)) where
  front_found : recall_at (m1 ∷ m2 ∷ v ∷ k ∷ c1 ∷ c0 ∷ f ∷ t ∷ a3 ∷ a2 ∷ a1 ∷ a0 ∷ n ∷ rest) ≡ Ok r
      → Spells (m1 ∷ m2 ∷ v ∷ k ∷ c1 ∷ c0 ∷ f ∷ t ∷ a3 ∷ a2 ∷ a1 ∷ a0 ∷ n ∷ rest) r
  unfolding recall_at
  front_found e =
      let bytes : List ℕ = m1 ∷ m2 ∷ v ∷ k ∷ c1 ∷ c0 ∷ f ∷ t ∷ a3 ∷ a2 ∷ a1 ∷ a0 ∷ n ∷ rest in
      let (done, mark, e1) = bound (mark_at bytes) _ r e in
      let (ticket, headed, e2) = bound (wanted BadMember (ticket_at bytes)) _ r e1 in
      let (count, counted, e3) = bound (count_of n) _ r e2 in
      let (numbers, read, e4) = bound (numbers_at count 0 rest) _ r e3 in
      let m = marked bytes mark in
      let members = ticket_found bytes ticket headed in
      let many = count_found n count counted in
      let all = numbers_found count 0 rest numbers.0 numbers.1 (λ i. fit (suc (suc (suc (suc (suc (suc (suc (suc (suc (suc (suc (suc (suc i)))))))))))))) read in
      let last = nothing_behind _ r numbers.1 e4 in
      let is_all : rest ≡ all.front = all.are ∙ ap (λ (l : List ℕ). all.front ++ l) last.0 ∙ append-nil all.front in
      let read_as : Recall = recall_of (ticket_in bytes) numbers.0 in
      let spells : Spells bytes read_as = record {
        circuit = c1 ∷ c0 ∷ [];
        asked = a3 ∷ a2 ∷ a1 ∷ a0 ∷ [];
        numbers = all.front;
        are = λ i. m.1 i ∷ m.2 i ∷ m.3 i ∷ m.4 i ∷ c1 ∷ c0 ∷ f ∷ t ∷ a3 ∷ a2 ∷ a1 ∷ a0 ∷ (many.0 ∙ sym all.many) i ∷ is_all i;
        spells_circuit = two_read c1 c0 (fit 4) (fit 5);
        from_is_member = members.from;
        to_is_member = members.to;
        differ = members.differ;
        spells_asked = four_read a3 a2 a1 a0 (fit 8) (fit 9) (fit 10) (fit 11);
        some = subst (λ (x : ℕ). 1 ≤ x) (sym all.many) many.1;
        few = subst (λ (x : ℕ). x ≤ 64) (sym all.many) many.2;
        spells_numbers = all.spells;
        rise = all.rise;
      } in
      subst (λ (q : Recall). Spells bytes q) (ap (λ (h : Ticket). recall_of h numbers.0) members.is ∙ last.1) spells

pub finds_what_is_spelled : FindsWhatIsSpelled Spells recall_at
unfolding recall_at mark_at
finds_what_is_spelled [] r fit e = absurd (no_ok e)
finds_what_is_spelled (m1 ∷ []) r fit e = absurd (no_ok e)
finds_what_is_spelled (m1 ∷ m2 ∷ []) r fit e = absurd (no_ok e)
finds_what_is_spelled (m1 ∷ m2 ∷ v ∷ []) r fit e = absurd (no_ok e)
finds_what_is_spelled (m1 ∷ m2 ∷ v ∷ k ∷ []) r fit e = absurd (no_ok e)
finds_what_is_spelled (m1 ∷ m2 ∷ v ∷ k ∷ c1 ∷ []) r fit e = absurd (no_ok e)
finds_what_is_spelled (m1 ∷ m2 ∷ v ∷ k ∷ c1 ∷ c0 ∷ []) r fit e = absurd (no_ok e)
finds_what_is_spelled (m1 ∷ m2 ∷ v ∷ k ∷ c1 ∷ c0 ∷ f ∷ []) r fit e = absurd (no_ok e)
finds_what_is_spelled (m1 ∷ m2 ∷ v ∷ k ∷ c1 ∷ c0 ∷ f ∷ t ∷ []) r fit e = absurd (no_ok e)
finds_what_is_spelled (m1 ∷ m2 ∷ v ∷ k ∷ c1 ∷ c0 ∷ f ∷ t ∷ a3 ∷ []) r fit e = absurd (no_ok e)
finds_what_is_spelled (m1 ∷ m2 ∷ v ∷ k ∷ c1 ∷ c0 ∷ f ∷ t ∷ a3 ∷ a2 ∷ []) r fit e = absurd (no_ok e)
finds_what_is_spelled (m1 ∷ m2 ∷ v ∷ k ∷ c1 ∷ c0 ∷ f ∷ t ∷ a3 ∷ a2 ∷ a1 ∷ []) r fit e = absurd (no_ok e)
finds_what_is_spelled (m1 ∷ m2 ∷ v ∷ k ∷ c1 ∷ c0 ∷ f ∷ t ∷ a3 ∷ a2 ∷ a1 ∷ a0 ∷ []) r fit e = absurd (no_ok e)
finds_what_is_spelled (m1 ∷ m2 ∷ v ∷ k ∷ c1 ∷ c0 ∷ f ∷ t ∷ a3 ∷ a2 ∷ a1 ∷ a0 ∷ n ∷ rest) r fit e = front_found m1 m2 v k c1 c0 f t a3 a2 a1 a0 n rest r fit e

-- what was answered
pub at_found : (bytes : List ℕ) (result : Result Recall RecallFault) → IsBytes bytes → result ≡ recall_at bytes → IfOk result (λ r. Spells bytes r)
at_found bytes (Ok r) fit e = finds_what_is_spelled bytes r fit (sym e)
at_found bytes (Err fault) fit e = tt

pub at_nothing : (bytes : List ℕ) (result : Result Recall RecallFault) → result ≡ recall_at bytes → OnErr result ((r : Recall) → Spells bytes r → ⊥)
at_nothing bytes (Ok r) e = tt
at_nothing bytes (Err fault) e = λ r s. no_ok (e ∙ reads_it_again bytes r s)
