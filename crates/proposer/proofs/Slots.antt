-- What the slots say of the members that are counted.
use Rattle.std.proofs.Common.{◌≡◌, ℕ, ◌*◌, ◌-◌, refl, sym, ap, ◌∙◌, List, [], ◌∷◌, Option, Some, None, Bool, true, false, length, set}
use Rattle.std.specs.Prelude.{map, count_by, nat_lt, is_some, ◌==◌}
use Rattle.std.specs.Option.{option_or}
use Rattle.std.proofs.lemmas.Bool.{eq-eqb, eqb-true}
use Rattle.protocol.specs.Ballots.{members, IsMember, is_majority}
use Rattle.protocol.specs.Rows.{Vote}
use Rattle.protocol.specs.Proposals.{Counted, is_counted}
use Rattle.ballots.specs.Slots.{SlotForEachMember, SlotHoldsItsValue, OneSlotChanges, SlotsCountAsMembers}
use Rattle.proposer.specs.InHand.{report_in, vote_in, reports_of}
use Rattle.proposer.specs.Greatest.{IsGreatest}
use Rattle.proposer.specs.Slots.{nothing_counted, report_at, reported, vote_at}
use Rattle.proposer.proofs.Counting.{counted_where, vote_reported, same_greatest, same_tests, then_reported, report_second}

itself : (m : ℕ) → (m == m) ≡ true
itself m = eq-eqb m m refl

-- slots with the reports of all that are counted
module _ (c : ℕ) (slots : List (Option (Option Vote))) (all : List Counted) (e : slots ≡ reports_of c all) where
  module _ (read : SlotHoldsItsValue (Option (Option Vote))) where
    report_is : (m : ℕ) → IsMember c m → report_at slots m ≡ report_in all m
    report_is m i = ap (λ (s : List (Option (Option Vote))). report_at s m) e ∙ read c m (report_in all) None i

    pub counted_is : (m : ℕ) → IsMember c m → is_some (report_at slots m) ≡ is_counted all m
    counted_is m i = ap is_some (report_is m i) ∙ sym (counted_where all m)

    pub greatest_is : (o : Option Vote) → IsGreatest (vote_at slots) c o → IsGreatest (vote_in all) c o
    greatest_is o = same_greatest c (vote_at slots) (vote_in all) o (λ m i. ap reported (report_is m i) ∙ sym (vote_reported all m))

  pub quorum_is : SlotForEachMember (Option (Option Vote)) → SlotsCountAsMembers (Option (Option Vote)) → nat_lt (length slots) (2 * count_by is_some slots) ≡ is_majority c (is_counted all)
  quorum_is many count =
      ap (λ (s : List (Option (Option Vote))). nat_lt (length s) (2 * count_by is_some s)) e
      ∙ ap (λ k. nat_lt k (2 * count_by is_some (map (report_in all) (members c)))) (many c (report_in all))
      ∙ ap (λ k. nat_lt c (2 * k)) (count c (report_in all) is_some ∙ sym (same_tests (is_counted all) (λ m. is_some (report_in all m)) (counted_where all) (members c)))

-- one member more is counted
pub more_counted :
    OneSlotChanges (Option (Option Vote)) → (c : ℕ) (slots : List (Option (Option Vote))) (first came : Counted) (rest : List Counted)
    → slots ≡ reports_of c (first ∷ rest) → IsMember c came.member → is_counted (first ∷ rest) came.member ≡ false
    → set slots (came.member - 1) (Some came.report) ≡ reports_of c (first ∷ came ∷ rest)
more_counted changes c slots first came rest e i new =
    ap (λ (s : List (Option (Option Vote))). set s (came.member - 1) (Some came.report)) e
    ∙ ap (λ (r : Option (Option Vote)). set (map (report_in (first ∷ rest)) (members c)) (came.member - 1) r) (sym here)
    ∙ changes c came.member (report_in (first ∷ rest)) (report_in (first ∷ came ∷ rest)) i elsewhere
  where
    uncounted : (o : Option (Option Vote)) → is_some o ≡ false → o ≡ None
    uncounted None f = refl
    uncounted (Some r) f = absurd cc

    here : report_in (first ∷ came ∷ rest) came.member ≡ Some came.report
    here =
        let none : report_in (first ∷ rest) came.member ≡ None = uncounted (report_in (first ∷ rest) came.member) (sym (counted_where (first ∷ rest) came.member) ∙ new) in
        let same : (came.member == came.member) ≡ true = itself came.member in
        report_second first came rest came.member new ∙ ap (then_reported came came.member) none ∙ rw same refl

    stays : (r : Option (Option Vote)) → option_or r None ≡ r
    stays None = refl
    stays (Some v) = refl

    elsewhere : (k : ℕ) → (k ≡ came.member → ⊥) → report_in (first ∷ came ∷ rest) k ≡ report_in (first ∷ rest) k
    elsewhere k other = report_second first came rest k new ∙ go (came.member == k) refl
      where
        go : (b : Bool) → (came.member == k) ≡ b → then_reported came k (report_in (first ∷ rest) k) ≡ report_in (first ∷ rest) k
        go true f = absurd (other (sym (eqb-true came.member k f)))
        go false f = rw f (stays (report_in (first ∷ rest) k))

-- one member alone is counted
pub alone_counted :
    OneSlotChanges (Option (Option Vote)) → (c : ℕ) (x : Counted) → IsMember c x.member
    → set (nothing_counted c) (x.member - 1) (Some x.report) ≡ reports_of c (x ∷ [])
alone_counted changes c x i =
    ap (λ (r : Option (Option Vote)). set (nothing_counted c) (x.member - 1) r) (sym here)
    ∙ changes c x.member (λ m. None) (report_in (x ∷ [])) i elsewhere
  where
    here : report_in (x ∷ []) x.member ≡ Some x.report
    here = let same : (x.member == x.member) ≡ true = itself x.member in rw same refl

    elsewhere : (k : ℕ) → (k ≡ x.member → ⊥) → report_in (x ∷ []) k ≡ None
    elsewhere k other = go (x.member == k) refl
      where
        go : (b : Bool) → (x.member == k) ≡ b → report_in (x ∷ []) k ≡ None
        go true f = absurd (other (sym (eqb-true x.member k f)))
        go false f = rw f refl
