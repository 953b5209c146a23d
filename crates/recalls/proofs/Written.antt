-- What spells a recall is what is written of it, and what is written spells it.
use Rattle.std.proofs.Common.{◌≡◌, ℕ, ◌+◌, ◌*◌, List, [], ◌∷◌, ◌++◌, length, refl, sym, ap, subst, ◌∙◌, arith}
use Rattle.std.specs.Prelude.{Result, Ok, Err, IfOk, OnOk}
use Rattle.std.specs.declared.alloc.AllocError.{AllocError}
use Rattle.std.specs.Global.{Vec}
use Rattle.std.specs.Int.{w16, w32, to_be_bytes}
use Rattle.recalls.specs.Recalls.{Recall, IsRecall, Rise}
use Rattle.recalls.specs.Grammar.{SpellsNumbers, Spells}
use Rattle.recalls.specs.Spelling.{number_bytes, spelling}
use Rattle.recalls.specs.Laws.{HasOneSpelling, OnlyThese, LengthsAreGiven}
use Rattle.recalls.proofs.Numbers.{two_are, two_below, four_are, four_below, two_written, four_written}

numbers_are : (bytes ns : List ℕ) → SpellsNumbers bytes ns → bytes ≡ number_bytes ns
numbers_are bytes [] h = h
numbers_are bytes (n ∷ ns) (first, rest, are, four, more) = are ∙ (λ i. four_are first n four i ++ numbers_are rest ns more i)

pub spelled_is : (bytes : List ℕ) (r : Recall) → Spells bytes r → bytes ≡ spelling r
spelled_is bytes r s =
    s.are
    ∙ (λ i. 84 ∷ 82 ∷ 1 ∷ 1 ∷ [] ++ two_are s.circuit r.circuit s.spells_circuit i ++ r.from ∷ r.to ∷ [] ++ four_are s.asked r.asked s.spells_asked i
    ++ length r.numbers ∷ numbers_are s.numbers r.numbers s.spells_numbers i)

numbers_written : (ns : List ℕ) (above : ℕ) → Rise above ns → SpellsNumbers (number_bytes ns) ns
numbers_written [] above h = refl
numbers_written (n ∷ ns) above h = let high = h.1 in (to_be_bytes w32 n, number_bytes ns, refl, four_written n (omega (arith, high)), numbers_written ns n h.2)

pub written_spells : (r : Recall) → IsRecall r → Spells (spelling r) r
written_spells r is = record {
  circuit = to_be_bytes w16 r.circuit;
  asked = to_be_bytes w32 r.asked;
  numbers = number_bytes r.numbers;
  are = refl;
  spells_circuit = two_written r.circuit is.circuit;
  from_is_member = is.from;
  to_is_member = is.to;
  differ = is.differ;
  spells_asked = four_written r.asked is.asked;
  some = is.some;
  few = is.few;
  spells_numbers = numbers_written r.numbers 0 is.rise;
  rise = is.rise;
}

pub only_recalls : OnlyThese Spells IsRecall
only_recalls bytes r s = record {
  circuit = two_below s.circuit r.circuit s.spells_circuit;
  from = s.from_is_member;
  to = s.to_is_member;
  differ = s.differ;
  asked = four_below s.asked r.asked s.spells_asked;
  some = s.some;
  few = s.few;
  rise = s.rise;
}

pub has_one_spelling : HasOneSpelling Spells IsRecall
has_one_spelling r is = (spelling r, written_spells r is, λ other s. spelled_is other r s)

pub number_length : (ns : List ℕ) → length (number_bytes ns) ≡ 4 * length ns
number_length [] = refl
number_length (n ∷ ns) = let rest : length (number_bytes ns) ≡ 4 * length ns = number_length ns in omega arith

pub spelling_length : (r : Recall) → length (spelling r) ≡ 13 + 4 * length r.numbers
spelling_length r = let numbers : length (number_bytes r.numbers) ≡ 4 * length r.numbers = number_length r.numbers in omega arith

pub lengths_are_given : LengthsAreGiven
lengths_are_given bytes r s = ap (λ (l : List ℕ). length l) (spelled_is bytes r s) ∙ spelling_length r

-- what was written, where memory was not refused
module _ (result : Result (Vec ℕ) AllocError) (r : Recall) (exact : IfOk result (λ v. v.items ≡ spelling r)) where
  pub is_spelled : OnOk result (IsRecall r) → IfOk result (λ v. Spells v.items r)
  is_spelled = go result exact
    where
      go : (x : Result (Vec ℕ) AllocError) → IfOk x (λ v. v.items ≡ spelling r) → OnOk x (IsRecall r) → IfOk x (λ v. Spells v.items r)
      go (Ok v) e is = subst (λ (l : List ℕ). Spells l r) (sym e) (written_spells r is)
      go (Err refused) e is = tt

  pub is_only : IfOk result (λ v. (other : List ℕ) → Spells other r → other ≡ v.items)
  is_only = go result exact
    where
      go : (x : Result (Vec ℕ) AllocError) → IfOk x (λ v. v.items ≡ spelling r) → IfOk x (λ v. (other : List ℕ) → Spells other r → other ≡ v.items)
      go (Ok v) e = λ other s. spelled_is other r s ∙ sym e
      go (Err refused) e = tt

  pub is_long : IfOk result (λ v. length v.items ≡ 13 + 4 * length r.numbers)
  is_long = go result exact
    where
      go : (x : Result (Vec ℕ) AllocError) → IfOk x (λ v. v.items ≡ spelling r) → IfOk x (λ v. length v.items ≡ 13 + 4 * length r.numbers)
      go (Ok v) e = ap (λ (l : List ℕ). length l) e ∙ spelling_length r
      go (Err refused) e = tt
