-- What spells a roll is what is written of it, and what is written spells it.
use Rattle.std.proofs.Common.{◌≡◌, ℕ, suc, ◌+◌, ◌*◌, ◌<◌, ◌≤◌, List, [], ◌∷◌, ◌++◌, length, refl, sym, ap, subst, ◌∙◌, inl, inr, arith}
use Rattle.std.specs.Prelude.{Result, Ok, Err, IfOk, OnOk, slice_index}
use Rattle.std.specs.declared.alloc.AllocError.{AllocError}
use Rattle.std.specs.Global.{Vec}
use Rattle.std.specs.Int.{w16, w32, to_be_bytes}
use Rattle.std.proofs.lemmas.Bool.{cases_eq, ne_eqb}
use Rattle.rolls.specs.Pages.{numbers_on}
use Rattle.rolls.specs.Kinds.{number_of_kind, body_len}
use Rattle.rolls.specs.declared.body.RollKind.{RollKind}
use Rattle.rolls.specs.declared.body.RollKind.TheVariants as kinds
use Rattle.rolls.specs.Counts.{AreCounts}
use Rattle.rolls.specs.Rolls.{Body, CountsAsked, Counts, PageAsked, Page, Roll, IsBody, IsRoll}
use Rattle.rolls.specs.Bodies.{kind_of}
use Rattle.rolls.specs.Grammar.{SpellsCounts, SpellsBody, Spells}
use Rattle.rolls.specs.Spelling.{count_bytes, body_bytes, spelling}
use Rattle.recalls.specs.Laws.{HasOneSpelling, OnlyThese}
use Rattle.rolls.specs.Laws.{LengthsAreGiven, NoneIsShort}
use Rattle.rolls.proofs.Numbers.{two_are, two_below, four_are, four_below, two_written, four_written}

counts_are : (bytes cs : List ℕ) → SpellsCounts bytes cs → bytes ≡ count_bytes cs
counts_are bytes [] h = h
counts_are bytes (c ∷ cs) (first, rest, are, two, more) = are ∙ (λ i. two_are first c two i ++ counts_are rest cs more i)

body_are : (bytes : List ℕ) (b : Body) → SpellsBody bytes b → bytes ≡ body_bytes b
body_are bytes CountsAsked h = h
body_are bytes (Counts counts) h = counts_are bytes counts h
body_are bytes (PageAsked page) h = h
body_are bytes (Page page bits) h = h

pub spelled_is : (bytes : List ℕ) (r : Roll) → Spells bytes r → bytes ≡ spelling r
spelled_is bytes r s =
    s.are
    ∙ (λ i. 84 ∷ 82 ∷ 1 ∷ number_of_kind (kind_of r.body) ∷ [] ++ two_are s.circuit r.circuit s.spells_circuit i ++ r.from ∷ r.to ∷ []
    ++ four_are s.asked r.asked s.spells_asked i ++ body_are s.body r.body s.spells_body i)

-- a count has two bytes
numbers_few : (page : ℕ) → numbers_on page ≤ 8192
numbers_few page = elim (cases_eq page 0) [
  | inl first ↦ subst (λ (p : ℕ). numbers_on p ≤ 8192) (sym first) (omega arith)
  | inr later ↦ elim (cases_eq page 122) [
    | inl last ↦ subst (λ (p : ℕ). numbers_on p ≤ 8192) (sym last) (omega arith)
    | inr before ↦ rw (ne_eqb page 0 later, ne_eqb page 122 before) (omega arith)
  ]
]

pub counts_small : (counts : List ℕ) → AreCounts counts → (i : ℕ) → slice_index counts i < 65536
counts_small counts are i = let low = are.fit i in let few : numbers_on i ≤ 8192 = numbers_few i in omega (arith, low, few)

counts_written : (cs : List ℕ) → ((i : ℕ) → slice_index cs i < 65536) → SpellsCounts (count_bytes cs) cs
counts_written [] h = refl
counts_written (c ∷ cs) h = (to_be_bytes w16 c, count_bytes cs, refl, two_written c (h 0), counts_written cs (λ i. h (suc i)))

body_written : (b : Body) → IsBody b → SpellsBody (body_bytes b) b
body_written CountsAsked is = refl
body_written (Counts counts) is = counts_written counts (counts_small counts is)
body_written (PageAsked page) is = refl
body_written (Page page bits) is = refl

pub written_spells : (r : Roll) → IsRoll r → Spells (spelling r) r
written_spells r is = record {
  circuit = to_be_bytes w16 r.circuit;
  asked = to_be_bytes w32 r.asked;
  body = body_bytes r.body;
  are = refl;
  spells_circuit = two_written r.circuit is.circuit;
  from_is_member = is.from;
  to_is_member = is.to;
  differ = is.differ;
  spells_asked = four_written r.asked is.asked;
  spells_body = body_written r.body is.body;
  is_body = is.body;
}

pub only_rolls : OnlyThese Spells IsRoll
only_rolls bytes r s = record {
  circuit = two_below s.circuit r.circuit s.spells_circuit;
  from = s.from_is_member;
  to = s.to_is_member;
  differ = s.differ;
  asked = four_below s.asked r.asked s.spells_asked;
  body = s.is_body;
}

pub has_one_spelling : HasOneSpelling Spells IsRoll
has_one_spelling r is = (spelling r, written_spells r is, λ other s. spelled_is other r s)

-- how long it is
count_length : (cs : List ℕ) → length (count_bytes cs) ≡ 2 * length cs
count_length [] = refl
count_length (c ∷ cs) = let rest : length (count_bytes cs) ≡ 2 * length cs = count_length cs in omega arith

pub body_length : (b : Body) → IsBody b → length (body_bytes b) ≡ body_len (kind_of b)
body_length CountsAsked is = refl
body_length (Counts counts) is = let all : length (count_bytes counts) ≡ 2 * length counts = count_length counts in let many = is.many in omega (arith, all, many)
body_length (PageAsked page) is = refl
body_length (Page page bits) is = let many = is.many in omega (arith, many)

pub spelling_length : (r : Roll) → IsRoll r → length (spelling r) ≡ 12 + body_len (kind_of r.body)
spelling_length r is = let body : length (body_bytes r.body) ≡ body_len (kind_of r.body) = body_length r.body is.body in omega (arith, body)

pub lengths_are_given : LengthsAreGiven
lengths_are_given bytes r s = ap (λ (l : List ℕ). length l) (spelled_is bytes r s) ∙ spelling_length r (only_rolls bytes r s)

-- none is short
body_least : (k : RollKind) → 5 ≤ body_len k
body_least kinds.CountsAsked = omega arith
body_least kinds.Counts = omega arith
body_least kinds.PageAsked = omega arith
body_least kinds.Page = omega arith

pub none_is_short : NoneIsShort
none_is_short bytes r s =
    let all : length bytes ≡ 12 + body_len (kind_of r.body) = lengths_are_given bytes r s in
    let least : 5 ≤ body_len (kind_of r.body) = body_least (kind_of r.body) in
    omega (arith, all, least)

-- what was written, where memory was not refused
module _ (result : Result (Vec ℕ) AllocError) (r : Roll) (exact : IfOk result (λ v. v.items ≡ spelling r)) where
  pub is_spelled : OnOk result (IsRoll r) → IfOk result (λ v. Spells v.items r)
  is_spelled = go result exact
    where
      go : (x : Result (Vec ℕ) AllocError) → IfOk x (λ v. v.items ≡ spelling r) → OnOk x (IsRoll r) → IfOk x (λ v. Spells v.items r)
      go (Ok v) e is = subst (λ (l : List ℕ). Spells l r) (sym e) (written_spells r is)
      go (Err refused) e is = tt

  pub is_only : IfOk result (λ v. (other : List ℕ) → Spells other r → other ≡ v.items)
  is_only = go result exact
    where
      go : (x : Result (Vec ℕ) AllocError) → IfOk x (λ v. v.items ≡ spelling r) → IfOk x (λ v. (other : List ℕ) → Spells other r → other ≡ v.items)
      go (Ok v) e = λ other s. spelled_is other r s ∙ sym e
      go (Err refused) e = tt

  pub is_long : OnOk result (IsRoll r) → IfOk result (λ v. length v.items ≡ 12 + body_len (kind_of r.body))
  is_long = go result exact
    where
      go : (x : Result (Vec ℕ) AllocError) → IfOk x (λ v. v.items ≡ spelling r) → OnOk x (IsRoll r) → IfOk x (λ v. length v.items ≡ 12 + body_len (kind_of r.body))
      go (Ok v) e is = ap (λ (l : List ℕ). length l) e ∙ spelling_length r is
      go (Err refused) e is = tt
