-- What a proposal stands for, by its slots.
use Rattle.std.proofs.Common.{◌≡◌, ℕ, ◌+◌, ◌-◌, ◌*◌, refl, sym, ap, subst, ◌∙◌, List, [], ◌∷◌, Option, Some, None, Bool, true, false, length, set}
use Rattle.std.specs.Prelude.{count_by, nat_lt, is_some, filter_map, not, ◌&&◌}
use Rattle.protocol.specs.Ballots.{Ballot, is_same, IsMember}
use Rattle.protocol.specs.Entries.{Entry}
use Rattle.protocol.specs.Rows.{Vote}
use Rattle.protocol.specs.Marks.{Mark, Began, Promised}
use Rattle.protocol.specs.Proposals.{Opening, Counted, promise_of, is_counted, counted, was_released, open_proposal, since_began, gathering_at, entry_or, pick}
use Rattle.ballots.specs.Slots.{SlotForEachMember, SlotHoldsItsValue, OneSlotChanges, SlotsCountAsMembers}
use Rattle.proposer.specs.InHand.{InHand, StandsFor, reports_of}
use Rattle.proposer.specs.Greatest.{IsGreatest}
use Rattle.proposer.specs.Answers.{IsNew, IsRepeated, completes}
use Rattle.proposer.specs.Slots.{nothing_counted, report_at, vote_at}
use Rattle.proposer.proofs.Counting.{first_is_member}
use Rattle.proposer.proofs.Slots.{counted_is, greatest_is, quorum_is, more_counted, alone_counted}
use Rattle.proposer.proofs.Standing.{is_same-true, gathers_here, is_promised, stands_promised, stands_first, stands_renewed, picked}

-- a promise of a member at the ballot for which a proposal gathers
module _ (q : InHand) (n : ℕ) (marks : List Mark) (h : StandsFor q n marks) (b : Ballot) (gathers : q.gathers && is_same q.ballot b ≡ true) (m : ℕ) (i : IsMember q.members m) (read : SlotHoldsItsValue (Option (Option Vote))) where
  abbrev all : List Counted
  all = counted q.me n h.opening (since_began n marks)

  both : (x y : Bool) → x && y ≡ true → (x ≡ true) × (y ≡ true)
  both true y e = (refl, e)
  both false y e = absurd cc

  at_ballot : q.ballot ≡ b
  at_ballot = is_same-true q.ballot b (both q.gathers (is_same q.ballot b) gathers).1

  found_at : gathering_at n b marks ≡ Some h.opening
  found_at = let parts = both q.gathers (is_same q.ballot b) gathers in gathers_here q n marks h b parts.0 parts.1

  its_slot : (t : Bool) → is_some (report_at q.reports m) ≡ t → is_counted all m ≡ t
  its_slot t e = sym (counted_is q.members q.reports all h.its_reports read m i) ∙ e

  pub is_repeated : is_some (report_at q.reports m) ≡ true → IsRepeated q.me n b m marks
  is_repeated e = record { opening = h.opening; gathers = found_at; is_repeated = its_slot true e }

  pub is_new : is_some (report_at q.reports m) ≡ false → IsNew q.me n b m marks
  is_new e = record { opening = h.opening; gathers = found_at; is_new = its_slot false e }

  -- once it is counted
  module _ (set_one : OneSlotChanges (Option (Option Vote))) (many : SlotForEachMember (Option (Option Vote))) (report : Option Vote) (new : is_some (report_at q.reports m) ≡ false) (after : List (Option (Option Vote))) (counts : after ≡ set q.reports (m - 1) (Some report)) where
    abbrev mine : Counted
    mine = record { member = q.me; report = h.opening.report }

    abbrev came : Counted
    came = record { member = m; report = report }

    abbrev rest : List Counted
    rest = filter_map (promise_of n h.opening.ballot) (since_began n marks)

    after_is : after ≡ reports_of q.members (mine ∷ came ∷ rest)
    after_is = counts ∙ more_counted set_one q.members q.reports mine came rest h.its_reports i (its_slot false new)

    pub is_quorum_now : SlotsCountAsMembers (Option (Option Vote)) → (t : Bool) → nat_lt (length after) (2 * count_by is_some after) ≡ t → (p : IsNew q.me n b m marks) × (completes q.members q.me n b m report marks p.opening ≡ t)
    unfolding is_new
    is_quorum_now count t e =
        let by_marks : nat_lt (length after) (2 * count_by is_some after) ≡ completes q.members q.me n b m report marks h.opening =
        quorum_is q.members after (counted q.me n h.opening (Promised n m b report ∷ since_began n marks)) (after_is ∙ ap (reports_of q.members) (sym (is_promised q n marks h m b report at_ballot))) many count in
        (is_new new, sym by_marks ∙ e)

    pub stands_after : StandsFor (record q { members = length after; reports = after }) n (Promised n m b report ∷ marks)
    stands_after =
        subst (λ (c : ℕ). StandsFor (record q { members = c; reports = after }) n (Promised n m b report ∷ marks)) (sym (ap length after_is ∙ many q.members _))
        (stands_promised q n marks h m b report at_ballot after after_is i (its_slot false new))

-- from whether a member was new to whether it was counted
pub was_counted : (counted new : Bool) → new ≡ not counted → new ≡ false → counted ≡ true
was_counted true new e f = refl
was_counted false new e f = absurd (let bad : true ≡ false = sym e ∙ f in cc)

pub was_not_counted : (counted new : Bool) → new ≡ not counted → new ≡ true → counted ≡ false
was_not_counted false new e f = refl
was_not_counted true new e f = absurd (let bad : false ≡ true = sym e ∙ f in cc)

pub only_not_counted : (counted : Bool) → (counted ≡ true → ⊥) → counted ≡ false
only_not_counted false e = refl
only_not_counted true e = absurd (e refl)

-- the own member alone, in as many slots as there are members
alone_in : OneSlotChanges (Option (Option Vote)) → (c me : ℕ) (report : Option Vote) (slots : List (Option (Option Vote))) → IsMember c me → slots ≡ set (nothing_counted c) (me - 1) (Some report) → length slots ≡ c → slots ≡ reports_of (length slots) (record { member = me; report = report } ∷ [])
alone_in changes c me report slots i e f = e ∙ alone_counted changes c (record { member = me; report = report }) i ∙ ap (λ k. reports_of k (record { member = me; report = report } ∷ [])) (sym f)

pub first_by_slots :
    OneSlotChanges (Option (Option Vote)) → (me c n : ℕ) (b : Ballot) (own : Option Entry) (report : Option Vote) (now : ℕ) (marks : List Mark) (slots : List (Option (Option Vote)))
    → IsMember c me → was_released n marks ≡ false → open_proposal n marks ≡ None → slots ≡ set (nothing_counted c) (me - 1) (Some report) → length slots ≡ c
    → StandsFor (record { me = me; members = length slots; ballot = b; own = own; reports = slots; gathers = true; denied = None; begun = 1; moved = now }) n (Began n b own report now ∷ marks)
first_by_slots changes me c n b own report now marks slots i r o e f =
    let member : IsMember (length slots) me = subst (λ k. IsMember k me) (sym f) i in
    stands_first me (length slots) n b own report now marks slots member (alone_in changes c me report slots i e f) r o

pub renewed_by_slots :
    OneSlotChanges (Option (Option Vote)) → (q : InHand) (n : ℕ) (marks : List Mark) (h : StandsFor q n marks) (b : Ballot) (own : Option Entry) (report : Option Vote) (now c : ℕ) (slots : List (Option (Option Vote)))
    → q.own ≡ own → c ≡ q.members → slots ≡ set (nothing_counted c) (q.me - 1) (Some report) → length slots ≡ c
    → StandsFor (record { me = q.me; members = length slots; ballot = b; own = q.own; reports = slots; gathers = true; denied = q.denied; begun = q.begun + 1; moved = now }) n (Began n b own report now ∷ marks)
renewed_by_slots changes q n marks h b own report now c slots o g e f =
    let mine : IsMember q.members q.me = first_is_member q.members (record { member = q.me; report = h.opening.report }) (filter_map (promise_of n h.opening.ballot) (since_began n marks)) h.in_range in
    let within : IsMember c q.me = subst (λ k. IsMember k q.me) (sym g) mine in
    let member : IsMember (length slots) q.me = subst (λ k. IsMember k q.me) (sym f) within in
    subst (λ (t : Option Entry). StandsFor (record { me = q.me; members = length slots; ballot = b; own = q.own; reports = slots; gathers = true; denied = q.denied; begun = q.begun + 1; moved = now }) n (Began n b t report now ∷ marks)) o
    (stands_renewed q n marks h (length slots) b report now slots member (alone_in changes c q.me report slots within e f))

pub picked_by_slots :
    SlotHoldsItsValue (Option (Option Vote)) → (q : InHand) (n : ℕ) (marks : List Mark) (p : Opening) (o : Option Vote) → StandsFor q n marks → open_proposal n marks ≡ Some p
    → IsGreatest (vote_at q.reports) q.members o → entry_or q.own o ≡ pick p.own (counted q.me n p (since_began n marks))
picked_by_slots read q n marks p o h e g = picked q n marks h p o e (greatest_is q.members q.reports (counted q.me n h.opening (since_began n marks)) h.its_reports read o g)
