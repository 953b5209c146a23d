-- What is read as a roll spells it.
use Rattle.std.proofs.Common.{◌≡◌, ℕ, zero, suc, ◌+◌, ◌*◌, ◌<◌, ◌≤◌, Bool, true, false, ltb, leb, eqb, not, ◌&&◌, List, [], ◌∷◌, length, take, Result, Ok, Err, refl, sym, ap, subst, ◌∙◌, inl, inr, arith}
use Rattle.std.specs.Prelude.{drop, slice_index, replicate, IfOk, OnErr, Option, Some, None, ◌⊎◌, if◌then◌else◌}
use Rattle.std.proofs.Math.Seq.{take-length}
use Rattle.std.proofs.lemmas.Bool.{eqb-true, eqb-false, ltb-true, ltb-false, leb-true}
use Rattle.protocol.specs.Ballots.{IsMember}
use Rattle.packets.specs.Grammar.{IsBytes}
use Rattle.rolls.specs.Pages.{pages}
use Rattle.rolls.specs.Kinds.{number_of_kind, kind_of_byte, body_len}
use Rattle.rolls.specs.declared.body.RollKind.{RollKind}
use Rattle.rolls.specs.declared.body.RollKind.TheVariants as kinds
use Rattle.rolls.specs.Counts.{counts_fit}
use Rattle.rolls.specs.Votes.{Votes, AreVotes, are_zero, only_numbers}
use Rattle.rolls.specs.Rolls.{Body, Counts, Roll, roll_of, IsBody}
use Rattle.rolls.specs.Bodies.{kind_of}
use Rattle.rolls.specs.Grammar.{SpellsCounts, SpellsBody, Spells}
use Rattle.rolls.specs.declared.fault.RollFault.{RollFault}
use Rattle.rolls.specs.declared.fault.RollFault.TheVariants.{Short, BadMark, BadVersion, BadKind, BadMember, BadPage, BadPad, BadCount, BadBits, Long}
use Rattle.rolls.specs.Reading.{◌>>=◌, wanted, mark_at, kind_at, counts_in, counts_at, page_at, pad_at, asked_page_at, votes_at, told_at, body_at, roll_at}
use Rattle.recalls.specs.Laws.{FindsWhatIsSpelled}
use Rattle.recalls.specs.Tickets.{Ticket, is_member_at, ticket_in, ticket_at}
use Rattle.rolls.proofs.Numbers.{two_read, four_read}
use Rattle.rolls.proofs.Counting.{are_counts}
use Rattle.rolls.proofs.Flags.{both_true, votes_are}
use Rattle.rolls.proofs.Again.{reads_it_again}

no_ok : {A : Type 0} {x : A} {e : RollFault} → Err e ≡ Ok x → ⊥
no_ok e = cc

ok_same : {A : Type 0} {x y : A} (r : Result A RollFault) → r ≡ Ok x → r ≡ Ok y → x ≡ y
ok_same r e f = cc

-- both steps of two went well
bound : {A B : Type 0} (x : Result A RollFault) (f : A → Result B RollFault) (y : B) → (x >>= f) ≡ Ok y → (a : A) × (x ≡ Ok a) × (f a ≡ Ok y)
bound (Ok a) f y e = (a, refl, e)
bound (Err fault) f y e = absurd (no_ok e)

-- a test that went well
passed : {A : Type 0} (b : Bool) (fault : RollFault) (x : Result A RollFault) (y : A) → (if b then Err fault else x) ≡ Ok y → (b ≡ false) × (x ≡ Ok y)
passed true fault x y e = absurd (no_ok e)
passed false fault x y e = (refl, e)

granted : {A : Type 0} (b : Bool) (fault : RollFault) (x y : A) → (if b then Ok x else Err fault) ≡ Ok y → (b ≡ true) × (x ≡ y)
granted true fault x y e = (refl, ok_same _ refl e)
granted false fault x y e = absurd (no_ok e)

unnot : (b : Bool) → not b ≡ false → b ≡ true
unnot true e = refl
unnot false e = cc

-- bytes of the mark and the version
marked : (bytes : List ℕ) → mark_at bytes ≡ Ok tt → (slice_index bytes 0 ≡ 84) × (slice_index bytes 1 ≡ 82) × (slice_index bytes 2 ≡ 1)
unfolding mark_at
marked bytes e =
    let (long, e1) = passed (ltb (length bytes) 12) Short _ tt e in
    let (mark, e2) = passed (not (eqb (slice_index bytes 0) 84 && eqb (slice_index bytes 1) 82)) BadMark _ tt e1 in
    let (version, e3) = passed (not (eqb (slice_index bytes 2) 1)) BadVersion _ tt e2 in
    let both = both_true _ _ (unnot _ mark) in
    (eqb-true _ _ both.0, eqb-true _ _ both.1, eqb-true _ _ (unnot _ version))

-- one kind after another
tried : (n m : ℕ) (k l : RollKind) (rest : Option RollKind) → number_of_kind k ≡ m → wanted BadKind (if eqb n m then Some k else rest) ≡ Ok l
    → (n ≡ number_of_kind l) ⊎ (wanted BadKind rest ≡ Ok l)
tried n m k l rest is e = go (eqb n m) refl e
  where
    go : (b : Bool) → eqb n m ≡ b → wanted BadKind (if b then Some k else rest) ≡ Ok l → (n ≡ number_of_kind l) ⊎ (wanted BadKind rest ≡ Ok l)
    go true t e = inl (eqb-true n m t ∙ sym is ∙ ap number_of_kind (ok_same (Ok k) refl e))
    go false t e = inr e

kind_found : (n : ℕ) (l : RollKind) → wanted BadKind (kind_of_byte n) ≡ Ok l → n ≡ number_of_kind l
kind_found n l e = elim (tried n 2 kinds.CountsAsked l _ refl e) [
  | inl is ↦ is
  | inr e3 ↦ elim (tried n 3 kinds.Counts l _ refl e3) [
    | inl is ↦ is
    | inr e4 ↦ elim (tried n 4 kinds.PageAsked l _ refl e4) [
      | inl is ↦ is
      | inr e5 ↦ elim (tried n 5 kinds.Page l None refl e5) [
        | inl is ↦ is
        | inr none ↦ absurd (no_ok none)
      ]
    ]
  ]
]

-- a value that was wanted, and is there
there : {A : Type 0} (fault : RollFault) (o : Option A) (x : A) → wanted fault o ≡ Ok x → o ≡ Some x
there fault None x e = absurd (no_ok e)
there fault (Some y) x e = ap Some (ok_same (Ok y) refl e)

-- what the members of a ticket were read from
record Members (bytes : List ℕ) (h : Ticket) : Type 0 where
  is : ticket_in bytes ≡ h
  from : IsMember 15 (slice_index bytes 6)
  to : IsMember 15 (slice_index bytes 7)
  differ : ¬ (slice_index bytes 6 ≡ slice_index bytes 7)

member_found : (bytes : List ℕ) (at : ℕ) → not (is_member_at bytes at) ≡ false → IsMember 15 (slice_index bytes at)
member_found bytes at e = let both = both_true _ _ (unnot _ e) in (leb-true _ _ both.0, leb-true _ _ both.1)

ticket_found : (bytes : List ℕ) (h : Ticket) → wanted BadMember (ticket_at bytes) ≡ Ok h → Members bytes h
unfolding ticket_at
ticket_found bytes h e = long (ltb (length bytes) 12) (there BadMember _ h e)
  where
    apart : (b : Bool) → eqb (slice_index bytes 6) (slice_index bytes 7) ≡ b → not (is_member_at bytes 6) ≡ false → not (is_member_at bytes 7) ≡ false
        → (if b then None else Some (ticket_in bytes)) ≡ Some h → Members bytes h
    apart true is f t e = cc
    apart false is f t e = record { is = cc; from = member_found bytes 6 f; to = member_found bytes 7 t; differ = eqb-false _ _ is }

    to : (b : Bool) → not (is_member_at bytes 7) ≡ b → not (is_member_at bytes 6) ≡ false
        → (if b then None else if eqb (slice_index bytes 6) (slice_index bytes 7) then None else Some (ticket_in bytes)) ≡ Some h → Members bytes h
    to true is f e = cc
    to false is f e = apart (eqb (slice_index bytes 6) (slice_index bytes 7)) refl f is e

    from : (b : Bool) → not (is_member_at bytes 6) ≡ b
        → (if b then None else if not (is_member_at bytes 7) then None else if eqb (slice_index bytes 6) (slice_index bytes 7) then None else Some (ticket_in bytes)) ≡ Some h
        → Members bytes h
    from true is e = cc
    from false is e = to (not (is_member_at bytes 7)) refl is e

    long : (b : Bool)
        → (if b then None else if not (is_member_at bytes 6) then None else if not (is_member_at bytes 7) then None else if eqb (slice_index bytes 6) (slice_index bytes 7) then None else Some (ticket_in bytes))
        ≡ Some h → Members bytes h
    long true e = cc
    long false e = from (not (is_member_at bytes 6)) refl e

-- bytes of a length
none_left : (bytes : List ℕ) → length bytes ≡ 0 → bytes ≡ []
none_left [] len = refl
none_left (b ∷ bytes) len = absurd (omega (arith, len))

one_and_more : (bytes : List ℕ) (n : ℕ) → length bytes ≡ 1 + n → (bytes ≡ slice_index bytes 0 ∷ drop 1 bytes) × (length (drop 1 bytes) ≡ n)
one_and_more [] n len = absurd (omega (arith, len))
one_and_more (b ∷ bytes) n len = (refl, omega (arith, len))

bits_left : (bytes : List ℕ) (n : ℕ) → length bytes ≡ 1 + n → bytes ≡ slice_index bytes 0 ∷ take n (drop 1 bytes)
bits_left [] n len = absurd (omega (arith, len))
bits_left (b ∷ bytes) n len =
    let many : length bytes ≡ n = omega (arith, len) in
    ap (λ (l : List ℕ). b ∷ l) (sym (subst (λ (k : ℕ). take k bytes ≡ bytes) many (take-length bytes)))

counts_spelled : (n : ℕ) (bytes : List ℕ) → IsBytes bytes → length bytes ≡ 2 * n → SpellsCounts bytes (counts_in n bytes)
unfolding counts_in
counts_spelled zero bytes fit len = none_left bytes (omega (arith, len))
counts_spelled (suc n) [] fit len = absurd (omega (arith, len))
counts_spelled (suc n) (b ∷ []) fit len = absurd (omega (arith, len))
counts_spelled (suc n) (b1 ∷ b0 ∷ bytes) fit len =
    (b1 ∷ b0 ∷ [], bytes, refl, two_read b1 b0 (fit 0) (fit 1), counts_spelled n bytes (λ i. fit (suc (suc i))) (omega (arith, len)))

page_found : (bytes : List ℕ) (page : ℕ) → page_at bytes ≡ Ok page → (slice_index bytes 0 ≡ page) × (page < 123)
unfolding page_at
page_found bytes page e =
    let (is, same) = granted (ltb (slice_index bytes 0) 123) BadPage _ page e in
    (same, subst (λ (x : ℕ). x < 123) same (ltb-true _ _ is))

-- bytes that are 0
zeros_are : (bytes : List ℕ) → are_zero bytes ≡ true → bytes ≡ replicate (length bytes) 0
zeros_are [] e = refl
zeros_are (b ∷ bytes) e =
    let both = both_true _ _ e in
    let first : b ≡ 0 = eqb-true b 0 both.0 in
    let rest : bytes ≡ replicate (length bytes) 0 = zeros_are bytes both.1 in
    λ i. first i ∷ rest i

pad_found : (n : ℕ) (bytes : List ℕ) → length bytes ≡ n → pad_at n bytes ≡ Ok tt → bytes ≡ replicate n 0
unfolding pad_at
pad_found n bytes len e =
    let all : take n bytes ≡ bytes = subst (λ (k : ℕ). take k bytes ≡ bytes) len (take-length bytes) in
    let none : are_zero (take n bytes) ≡ true = (granted (are_zero (take n bytes)) BadPad tt tt e).0 in
    subst (λ (k : ℕ). bytes ≡ replicate k 0) len (zeros_are bytes (ap are_zero (sym all) ∙ none))

asked_page_found : (bytes : List ℕ) (page : ℕ) → length bytes ≡ 5 → asked_page_at bytes ≡ Ok page → (bytes ≡ page ∷ replicate 4 0) × (page < 123)
unfolding asked_page_at
asked_page_found bytes page len e =
    let (read, e1, e2) = bound (page_at bytes) _ page e in
    let (padded, e3, e4) = bound (pad_at 4 (drop 1 bytes)) _ page e2 in
    let first = page_found bytes read e1 in
    let parts = one_and_more bytes 4 len in
    let pad : drop 1 bytes ≡ replicate 4 0 = pad_found 4 (drop 1 bytes) parts.1 e3 in
    subst (λ (p : ℕ). (bytes ≡ p ∷ replicate 4 0) × (p < 123)) (ok_same _ refl e4)
    (parts.0 ∙ (λ i. first.0 i ∷ pad i), first.1)

-- what a body was read from
record Told (k : RollKind) (bytes : List ℕ) (b : Body) : Type 0 where
  kind : kind_of b ≡ k
  spells : SpellsBody bytes b
  is_body : IsBody b

votes_found : (bytes : List ℕ) (v : Votes) → IsBytes bytes → length bytes ≡ 1025 → votes_at bytes ≡ Ok v → (bytes ≡ v.page ∷ v.bytes) × AreVotes v
unfolding votes_at
votes_found bytes v fit len e =
    let bits : List ℕ = take 1024 (drop 1 bytes) in
    let (page, e1, e2) = bound (page_at bytes) _ v e in
    let (is, same) = granted (only_numbers page bits) BadBits _ v e2 in
    let first = page_found bytes page e1 in
    let all : bytes ≡ slice_index bytes 0 ∷ bits = bits_left bytes 1024 len in
    let many : length bits ≡ 1024 = let l : length bytes ≡ suc (length bits) = ap (λ (l : List ℕ). length l) all in omega (arith, l, len) in
    let small : IsBytes bits = λ i. subst (λ (l : List ℕ). IsBytes l) all fit (suc i) in
    subst (λ (x : Votes). (bytes ≡ x.page ∷ x.bytes) × AreVotes x) same
    (all ∙ ap (λ (p : ℕ). p ∷ bits) first.0, votes_are page bits first.1 many small is)

told_found : (k : RollKind) (bytes : List ℕ) (b : Body) → IsBytes bytes → length bytes ≡ body_len k → told_at k bytes ≡ Ok b → Told k bytes b
unfolding counts_at
told_found kinds.CountsAsked bytes b fit len e =
    let (padded, e1, e2) = bound (pad_at 5 bytes) _ b e in
    subst (λ (x : Body). Told kinds.CountsAsked bytes x) (ok_same _ refl e2)
    (record { kind = refl; spells = pad_found 5 bytes len e1; is_body = tt })
told_found kinds.Counts bytes b fit len e =
    let (counts, e1, e2) = bound (counts_at bytes) _ b e in
    let (is, same) = granted (counts_fit 0 (counts_in pages bytes)) BadCount _ counts e1 in
    subst (λ (x : Body). Told kinds.Counts bytes x) (ok_same _ refl e2)
    (subst (λ (l : List ℕ). Told kinds.Counts bytes (Counts l)) same
    (record { kind = refl; spells = counts_spelled pages bytes fit len; is_body = are_counts bytes is }))
told_found kinds.PageAsked bytes b fit len e =
    let (page, e1, e2) = bound (asked_page_at bytes) _ b e in
    let all = asked_page_found bytes page len e1 in
    subst (λ (x : Body). Told kinds.PageAsked bytes x) (ok_same _ refl e2)
    (record { kind = refl; spells = all.0; is_body = all.1 })
told_found kinds.Page bytes b fit len e =
    let (votes, e1, e2) = bound (votes_at bytes) _ b e in
    let all = votes_found bytes votes fit len e1 in
    subst (λ (x : Body). Told kinds.Page bytes x) (ok_same _ refl e2)
    (record { kind = refl; spells = all.0; is_body = all.1 })

body_found : (k : RollKind) (bytes : List ℕ) (b : Body) → IsBytes bytes → body_at k bytes ≡ Ok b → Told k bytes b
unfolding body_at
body_found k bytes b fit e =
    let (long, e1) = passed (ltb (length bytes) (body_len k)) Short _ b e in
    let (told, e2, e3) = bound (told_at k bytes) _ b e1 in
    let (short, e4) = passed (ltb (body_len k) (length bytes)) Long _ b e3 in
    let low : body_len k ≤ length bytes = ltb-false (length bytes) (body_len k) long in
    let high : length bytes ≤ body_len k = ltb-false (body_len k) (length bytes) short in
    subst (λ (x : Body). Told k bytes x) (ok_same _ refl e4) (told_found k bytes told fit (omega (arith, low, high)) e2)

-- bytes that are long enough, read step by step
module _ (m1 m2 v k c1 c0 f t a3 a2 a1 a0 : ℕ) (rest : List ℕ) (r : Roll) (fit : IsBytes (m1 ∷ m2 ∷ v ∷ k ∷ c1 ∷ c0 ∷ f ∷ t ∷ a3 ∷ a2 ∷ a1 ∷ a0 ∷ rest)) where
  front_found : roll_at (m1 ∷ m2 ∷ v ∷ k ∷ c1 ∷ c0 ∷ f ∷ t ∷ a3 ∷ a2 ∷ a1 ∷ a0 ∷ rest) ≡ Ok r
      → Spells (m1 ∷ m2 ∷ v ∷ k ∷ c1 ∷ c0 ∷ f ∷ t ∷ a3 ∷ a2 ∷ a1 ∷ a0 ∷ rest) r
  unfolding roll_at kind_at
  front_found e =
      let bytes : List ℕ = m1 ∷ m2 ∷ v ∷ k ∷ c1 ∷ c0 ∷ f ∷ t ∷ a3 ∷ a2 ∷ a1 ∷ a0 ∷ rest in
      let (done, mark, e1) = bound (mark_at bytes) _ r e in
      let (kind, kinded, e2) = bound (kind_at bytes) _ r e1 in
      let (ticket, headed, e3) = bound (wanted BadMember (ticket_at bytes)) _ r e2 in
      let (body, read, e4) = bound (body_at kind rest) _ r e3 in
      let m = marked bytes mark in
      let members = ticket_found bytes ticket headed in
      let told = body_found kind rest body (λ i. fit (suc (suc (suc (suc (suc (suc (suc (suc (suc (suc (suc (suc i))))))))))))) read in
      let of_kind : k ≡ number_of_kind (kind_of body) = kind_found k kind kinded ∙ ap number_of_kind (sym told.kind) in
      let read_as : Roll = roll_of (ticket_in bytes) body in
      let spells : Spells bytes read_as = record {
        circuit = c1 ∷ c0 ∷ [];
        asked = a3 ∷ a2 ∷ a1 ∷ a0 ∷ [];
        body = rest;
        are = λ i. m.0 i ∷ m.1 i ∷ m.2 i ∷ of_kind i ∷ c1 ∷ c0 ∷ f ∷ t ∷ a3 ∷ a2 ∷ a1 ∷ a0 ∷ rest;
        spells_circuit = two_read c1 c0 (fit 4) (fit 5);
        from_is_member = members.from;
        to_is_member = members.to;
        differ = members.differ;
        spells_asked = four_read a3 a2 a1 a0 (fit 8) (fit 9) (fit 10) (fit 11);
        spells_body = told.spells;
        is_body = told.is_body;
      } in
      subst (λ (q : Roll). Spells bytes q) (ok_same (Ok (roll_of ticket body)) refl e4) (subst (λ (h : Ticket). Spells bytes (roll_of h body)) members.is spells)

pub finds_what_is_spelled : FindsWhatIsSpelled Spells roll_at
unfolding roll_at mark_at
finds_what_is_spelled [] r fit e = absurd (no_ok e)
finds_what_is_spelled (m1 ∷ []) r fit e = absurd (no_ok e)
finds_what_is_spelled (m1 ∷ m2 ∷ []) r fit e = absurd (no_ok e)
finds_what_is_spelled (m1 ∷ m2 ∷ v ∷ []) r fit e = absurd (no_ok e)
finds_what_is_spelled (m1 ∷ m2 ∷ v ∷ k ∷ []) r fit e = absurd (no_ok e)
finds_what_is_spelled (m1 ∷ m2 ∷ v ∷ k ∷ c1 ∷ []) r fit e = absurd (no_ok e)
finds_what_is_spelled (m1 ∷ m2 ∷ v ∷ k ∷ c1 ∷ c0 ∷ []) r fit e = absurd (no_ok e)
finds_what_is_spelled (m1 ∷ m2 ∷ v ∷ k ∷ c1 ∷ c0 ∷ f ∷ []) r fit e = absurd (no_ok e)
finds_what_is_spelled (m1 ∷ m2 ∷ v ∷ k ∷ c1 ∷ c0 ∷ f ∷ t ∷ []) r fit e = absurd (no_ok e)
finds_what_is_spelled (m1 ∷ m2 ∷ v ∷ k ∷ c1 ∷ c0 ∷ f ∷ t ∷ a3 ∷ []) r fit e = absurd (no_ok e)
finds_what_is_spelled (m1 ∷ m2 ∷ v ∷ k ∷ c1 ∷ c0 ∷ f ∷ t ∷ a3 ∷ a2 ∷ []) r fit e = absurd (no_ok e)
finds_what_is_spelled (m1 ∷ m2 ∷ v ∷ k ∷ c1 ∷ c0 ∷ f ∷ t ∷ a3 ∷ a2 ∷ a1 ∷ []) r fit e = absurd (no_ok e)
finds_what_is_spelled (m1 ∷ m2 ∷ v ∷ k ∷ c1 ∷ c0 ∷ f ∷ t ∷ a3 ∷ a2 ∷ a1 ∷ a0 ∷ rest) r fit e = front_found m1 m2 v k c1 c0 f t a3 a2 a1 a0 rest r fit e

-- what was answered
pub at_found : (bytes : List ℕ) (result : Result Roll RollFault) → IsBytes bytes → result ≡ roll_at bytes → IfOk result (λ r. Spells bytes r)
at_found bytes (Ok r) fit e = finds_what_is_spelled bytes r fit (sym e)
at_found bytes (Err fault) fit e = tt

pub at_nothing : (bytes : List ℕ) (result : Result Roll RollFault) → result ≡ roll_at bytes → OnErr result ((r : Roll) → Spells bytes r → ⊥)
at_nothing bytes (Ok r) e = tt
at_nothing bytes (Err fault) e = λ r s. no_ok (e ∙ reads_it_again bytes r s)
