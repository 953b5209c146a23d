-- What a proposal stands for, once a mark stands in front.
use Rattle.std.proofs.Common.{◌≡◌, ℕ, ◌+◌, refl, sym, ap, subst, ◌∙◌, List, [], ◌∷◌, Option, Some, None, Result, Ok, Err, Bool, true, false, arith, add_comm}
use Rattle.std.specs.Prelude.{IsTrue, OnErr, filter_map, nat_le, not, ◌&&◌, ◌||◌, ◌==◌}
use Rattle.std.proofs.lemmas.Bool.{le-leb}
use Rattle.std.proofs.lemmas.Bool.Decides.{nat_tests}
use Rattle.protocol.specs.Lists.{has, greatest}
use Rattle.protocol.specs.Ballots.{Ballot, is_same, IsMember}
use Rattle.protocol.specs.Entries.{Entry}
use Rattle.protocol.specs.Rows.{Vote}
use Rattle.protocol.specs.Marks.{Mark, Began, Promised, Proposed, Denied, Heard, Closed, Released, begins, ends, proposes}
use Rattle.protocol.specs.Proposals.{Opening, Counted, promise_of, is_counted, counted, was_released, open_proposal, since_began, since_end, begun, denied, denial_of, moved, gathering_at, reports_above, report_of, entry_or, pick}
use Rattle.protocol.specs.Turn.{greater_ballot}
use Rattle.proposer.specs.InHand.{InHand, StandsFor, vote_in, reports_of, are_members, none_twice, OtherMarksPass}
use Rattle.proposer.specs.Greatest.{IsGreatest}
use Rattle.proposer.proofs.Greatest.{one_greatest}
use Rattle.proposer.proofs.Reading.{itself, found, open_is_begun, closed_is_not_begun, one_more_denial, one_more_ballot, first_ballot, denials_stay, no_denials, nothing_since, is_open_now}
use Rattle.proposer.proofs.Counting.{marked_greatest}

is_same-self : (a : Ballot) → is_same a a ≡ true
is_same-self a = grind (arith, nat_tests)

pub is_same-true : (a b : Ballot) → is_same a b ≡ true → a ≡ b
is_same-true a b h = grind (arith, nat_tests)

pub same_ballot : (a b : Ballot) → a ≡ b → is_same a b ≡ true
same_ballot a b e = ap (λ (x : Ballot). is_same x b) e ∙ is_same-self b

-- as the fields are seen
pub opened : {inside now : InHand} {n : ℕ} {marks : List Mark} → inside ≡ now → StandsFor now n marks → StandsFor inside n marks
opened {n = n} {marks = marks} e h = subst (λ (q : InHand). StandsFor q n marks) (sym e) h

-- after a Nack
pub stands_denied : (q : InHand) (n : ℕ) (marks : List Mark) (p : Ballot) (d : Option Ballot) → StandsFor q n marks → d ≡ greater_ballot q.denied (Some p) → StandsFor (record q { denied = d }) n (Denied n p ∷ marks)
stands_denied q n marks p d h e = record {
  opening = h.opening;
  is_open = h.is_open;
  its_ballot = h.its_ballot;
  its_own = h.its_own;
  its_reports = h.its_reports;
  its_phase = h.its_phase;
  its_denials = e ∙ ap (λ (x : Option Ballot). greater_ballot x (Some p)) h.its_denials ∙ sym (one_more_denial n p marks (open_is_begun n marks h.opening h.is_open));
  its_ballots = h.its_ballots;
  its_moment = h.its_moment;
  in_range = h.in_range;
  once = h.once;
}

-- after it was proposed
pub stands_proposed : (q : InHand) (n : ℕ) (marks : List Mark) (b : Ballot) (now : ℕ) → StandsFor q n marks → q.ballot ≡ b → StandsFor (record q { gathers = false; moved = now }) n (Proposed n b now ∷ marks)
stands_proposed q n marks b now h e =
    let here = itself n in
    let same = same_ballot b h.opening.ballot (sym e ∙ h.its_ballot) in
    record {
      opening = h.opening;
      is_open = h.is_open;
      its_ballot = h.its_ballot;
      its_own = h.its_own;
      its_reports = h.its_reports;
      its_phase = rw (here, same) refl;
      its_denials = h.its_denials ∙ sym (denied_as_before n b now marks (open_is_begun n marks h.opening h.is_open));
      its_ballots = h.its_ballots;
      its_moment = rw (here, same) refl;
      in_range = h.in_range;
      once = h.once;
    }
  where
    denied_as_before : (n : ℕ) (b : Ballot) (now : ℕ) (marks : List Mark) → has (begins n) (since_end n marks) ≡ true → denied n (Proposed n b now ∷ marks) ≡ denied n marks
    denied_as_before n b now marks e = rw e refl

-- the tests of range and of doubles, with one more
more_members : (c : ℕ) (y x : Counted) (xs : List Counted) → IsTrue (are_members c (y ∷ xs)) → IsMember c x.member → IsTrue (are_members c (y ∷ x ∷ xs))
more_members c y x xs h i = go (nat_le 1 y.member && nat_le y.member c) (nat_le 1 x.member) (nat_le x.member c) (are_members c xs) h (le-leb 1 x.member i.0) (le-leb x.member c i.1)
  where
    go : (a b d e : Bool) → IsTrue (a && e) → b ≡ true → d ≡ true → IsTrue (a && ((b && d) && e))
    go true b d e h f g = rw (f, g) h
    go false b d e h f g = h

none_twice_more : (y x : Counted) (xs : List Counted) → IsTrue (none_twice (y ∷ xs)) → is_counted (y ∷ xs) x.member ≡ false → IsTrue (none_twice (y ∷ x ∷ xs))
none_twice_more y x xs h new = go (y.member == x.member) (x.member == y.member) (is_counted xs y.member) (is_counted xs x.member) (none_twice xs) (turned y.member x.member) h new
  where
    turned : (k m : ℕ) → (k == m) ≡ (m == k)
    turned k m = grind (arith, nat_tests)

    go : (a b d e t : Bool) → a ≡ b → IsTrue (not d && t) → a || e ≡ false → IsTrue (not (b || d) && (not e && t))
    go true b d e t f h g = absurd cc
    go false true d e t f h g = absurd cc
    go false false d true t f h g = absurd cc
    go false false d false t f h g = h

-- after a promise of a member that is not counted
module _ (q : InHand) (n : ℕ) (marks : List Mark) (h : StandsFor q n marks) (m : ℕ) (b : Ballot) (report : Option Vote) (at : q.ballot ≡ b) where
  abbrev mine : Counted
  mine = record { member = q.me; report = h.opening.report }

  abbrev came : Counted
  came = record { member = m; report = report }

  abbrev rest : List Counted
  rest = filter_map (promise_of n h.opening.ballot) (since_began n marks)

  pub is_promised : counted q.me n h.opening (Promised n m b report ∷ since_began n marks) ≡ mine ∷ came ∷ rest
  is_promised =
      let here = itself n in
      let same = same_ballot b h.opening.ballot (sym at ∙ h.its_ballot) in
      rw (here, same) refl

  pub stands_promised :
      (reports : List (Option (Option Vote))) → reports ≡ reports_of q.members (mine ∷ came ∷ rest) → IsMember q.members m → is_counted (counted q.me n h.opening (since_began n marks)) m ≡ false
      → StandsFor (record q { reports = reports }) n (Promised n m b report ∷ marks)
  stands_promised reports e i new = record {
    opening = h.opening;
    is_open = h.is_open;
    its_ballot = h.its_ballot;
    its_own = h.its_own;
    its_reports = e ∙ ap (reports_of q.members) (sym is_promised);
    its_phase = h.its_phase;
    its_denials = h.its_denials ∙ sym (denied_as_before n m b report marks (open_is_begun n marks h.opening h.is_open));
    its_ballots = h.its_ballots;
    its_moment = h.its_moment;
    in_range = subst (λ (all : List Counted). IsTrue (are_members q.members all)) (sym is_promised) (more_members q.members mine came rest h.in_range i);
    once = subst (λ (all : List Counted). IsTrue (none_twice all)) (sym is_promised) (none_twice_more mine came rest h.once new);
  }
    where
      denied_as_before : (n m : ℕ) (b : Ballot) (report : Option Vote) (marks : List Mark) → has (begins n) (since_end n marks) ≡ true → denied n (Promised n m b report ∷ marks) ≡ denied n marks
      denied_as_before n m b report marks e = rw e refl

-- what gathers
pub gathers_here : (q : InHand) (n : ℕ) (marks : List Mark) (h : StandsFor q n marks) (b : Ballot) → q.gathers ≡ true → is_same q.ballot b ≡ true → gathering_at n b marks ≡ Some h.opening
gathers_here q n marks h b g s =
    let unproposed : has (proposes n h.opening.ballot) (since_began n marks) ≡ false = not_true (has (proposes n h.opening.ballot) (since_began n marks)) (sym h.its_phase ∙ g) in
    let its : h.opening.ballot ≡ b = sym h.its_ballot ∙ is_same-true q.ballot b s in
    let unproposed_at : has (proposes n b) (since_began n marks) ≡ false = ap (λ (a : Ballot). has (proposes n a) (since_began n marks)) (sym its) ∙ unproposed in
    let at : is_same h.opening.ballot b ≡ true = same_ballot h.opening.ballot b its in
    let is_open = h.is_open in
    rw (unproposed_at, is_open, at) refl
  where
    not_true : (t : Bool) → not t ≡ true → t ≡ false
    not_true true e = absurd cc
    not_true false e = refl

pub on_err : {T E : Type 0} {P : Type 0} (r : Result T E) → P → OnErr r P
on_err (Ok x) h = tt
on_err (Err e) h = h

-- after a ballot was begun
stands_began :
    (me c n : ℕ) (b : Ballot) (own : Option Entry) (report : Option Vote) (now : ℕ) (marks : List Mark) (reports : List (Option (Option Vote))) (d : Option Ballot) (k : ℕ)
    → IsMember c me → reports ≡ reports_of c (record { member = me; report = report } ∷ []) → was_released n marks ≡ false → d ≡ denied n (Began n b own report now ∷ marks) → k ≡ begun n (Began n b own report now ∷ marks)
    → StandsFor (record { me = me; members = c; ballot = b; own = own; reports = reports; gathers = true; denied = d; begun = k; moved = now }) n (Began n b own report now ∷ marks)
stands_began me c n b own report now marks reports d k i g r e f =
    let since = nothing_since n b own report now marks in
    record {
      opening = record { ballot = b; own = own; report = report; now = now };
      is_open = is_open_now n b own report now marks r;
      its_ballot = refl;
      its_own = refl;
      its_reports = rw since g;
      its_phase = rw since refl;
      its_denials = e;
      its_ballots = f;
      its_moment = rw since refl;
      in_range = rw since (alone c me report i);
      once = rw since refl;
    }
  where
    alone : (c me : ℕ) (report : Option Vote) → IsMember c me → IsTrue (are_members c (record { member = me; report = report } ∷ []))
    alone c me report i = let low = le-leb 1 me i.0 in let high = le-leb me c i.1 in rw (low, high) refl

-- a proposal that begins its first ballot
pub stands_first :
    (me c n : ℕ) (b : Ballot) (own : Option Entry) (report : Option Vote) (now : ℕ) (marks : List Mark) (reports : List (Option (Option Vote)))
    → IsMember c me → reports ≡ reports_of c (record { member = me; report = report } ∷ []) → was_released n marks ≡ false → open_proposal n marks ≡ None
    → StandsFor (record { me = me; members = c; ballot = b; own = own; reports = reports; gathers = true; denied = None; begun = 1; moved = now }) n (Began n b own report now ∷ marks)
stands_first me c n b own report now marks reports i g r o =
    let none = closed_is_not_begun n marks r o in
    stands_began me c n b own report now marks reports None 1 i g r (sym (no_denials n b own report now marks none)) (sym (first_ballot n b own report now marks none))

-- a proposal that begins anew
pub stands_renewed :
    (q : InHand) (n : ℕ) (marks : List Mark) (h : StandsFor q n marks) (c : ℕ) (b : Ballot) (report : Option Vote) (now : ℕ) (reports : List (Option (Option Vote)))
    → IsMember c q.me → reports ≡ reports_of c (record { member = q.me; report = report } ∷ [])
    → StandsFor (record { me = q.me; members = c; ballot = b; own = q.own; reports = reports; gathers = true; denied = q.denied; begun = q.begun + 1; moved = now }) n (Began n b q.own report now ∷ marks)
stands_renewed q n marks h c b report now reports i g =
    let some = open_is_begun n marks h.opening h.is_open in
    let k : q.begun + 1 ≡ begun n (Began n b q.own report now ∷ marks) = ap (λ j. j + 1) h.its_ballots ∙ add_comm (begun n marks) 1 ∙ sym (one_more_ballot n b q.own report now marks) in
    stands_began q.me c n b q.own report now marks reports q.denied (q.begun + 1) i g (found n marks h.opening h.is_open).unreleased (h.its_denials ∙ sym (denials_stay n b q.own report now marks some)) k

-- the greatest of the counted reports decides
pub picked : (q : InHand) (n : ℕ) (marks : List Mark) (h : StandsFor q n marks) (p : Opening) (o : Option Vote) → open_proposal n marks ≡ Some p → IsGreatest (vote_in (counted q.me n h.opening (since_began n marks))) q.members o → entry_or q.own o ≡ pick p.own (counted q.me n p (since_began n marks))
picked q n marks h p o e g =
    let both : Some h.opening ≡ Some p = sym h.is_open ∙ e in
    let same : h.opening ≡ p = cc in
    let all : List Counted = counted q.me n h.opening (since_began n marks) in
    ap (λ (t : Option Entry). entry_or t o) h.its_own
    ∙ ap (entry_or h.opening.own) (one_greatest (vote_in all) q.members o (report_of (greatest reports_above all)) g (marked_greatest q.members all h.in_range h.once))
    ∙ ap (λ (x : Opening). pick x.own (counted q.me n x (since_began n marks))) same

-- a mark of which the proposal says nothing

module _ (q : InHand) (n : ℕ) (mark : Mark) (marks : List Mark) (h : StandsFor q n marks) where
  denied_pass : ends n mark ≡ false → denial_of n mark ≡ None → denied n (mark ∷ marks) ≡ denied n marks
  denied_pass e d = let some = open_is_begun n marks h.opening h.is_open in rw (e, some, d) refl

  passes :
      open_proposal n (mark ∷ marks) ≡ open_proposal n marks → counted q.me n h.opening (since_began n (mark ∷ marks)) ≡ counted q.me n h.opening (since_began n marks)
      → has (proposes n h.opening.ballot) (since_began n (mark ∷ marks)) ≡ has (proposes n h.opening.ballot) (since_began n marks) → denied n (mark ∷ marks) ≡ denied n marks → begun n (mark ∷ marks) ≡ begun n marks
      → moved n h.opening (since_began n (mark ∷ marks)) ≡ moved n h.opening (since_began n marks) → StandsFor q n (mark ∷ marks)
  passes e f g d b m = record {
    opening = h.opening;
    is_open = e ∙ h.is_open;
    its_ballot = h.its_ballot;
    its_own = h.its_own;
    its_reports = h.its_reports ∙ ap (reports_of q.members) (sym f);
    its_phase = h.its_phase ∙ ap not (sym g);
    its_denials = h.its_denials ∙ sym d;
    its_ballots = h.its_ballots ∙ sym b;
    its_moment = h.its_moment ∙ sym m;
    in_range = subst (λ (all : List Counted). IsTrue (are_members q.members all)) (sym f) h.in_range;
    once = subst (λ (all : List Counted). IsTrue (none_twice all)) (sym f) h.once;
  }

pub others_pass : OtherMarksPass
others_pass q n (Began k b own report now) marks e h = passes q n (Began k b own report now) marks h (rw e refl) (rw e refl) (rw e refl) (denied_pass q n (Began k b own report now) marks h refl refl) (rw e refl) (rw e refl)
others_pass q n (Promised k m b report) marks e h = passes q n (Promised k m b report) marks h refl (rw e refl) refl (denied_pass q n (Promised k m b report) marks h refl refl) refl refl
others_pass q n (Proposed k b now) marks e h = passes q n (Proposed k b now) marks h refl refl (rw e refl) (denied_pass q n (Proposed k b now) marks h refl refl) refl (rw e refl)
others_pass q n (Denied k b) marks e h = passes q n (Denied k b) marks h refl refl refl (denied_pass q n (Denied k b) marks h refl (rw e refl)) refl refl
others_pass q n (Heard k m b t) marks e h = passes q n (Heard k m b t) marks h refl refl refl (denied_pass q n (Heard k m b t) marks h refl refl) refl refl
others_pass q n (Closed k) marks e h = passes q n (Closed k) marks h (rw e refl) refl refl (denied_pass q n (Closed k) marks h e refl) (rw e refl) refl
others_pass q n (Released k t) marks e h = passes q n (Released k t) marks h (rw e refl) refl refl (denied_pass q n (Released k t) marks h e refl) (rw e refl) refl
