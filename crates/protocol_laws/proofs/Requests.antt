-- One step from the row goes on as the whole list says.
use Rattle.std.proofs.Common.{◌≡◌, List, [], ◌∷◌, ◌++◌, Bool, true, false, cond, ◌||◌, Option, Some, None, refl, ap, sym, ◌∙◌, append_assoc}
use Rattle.std.specs.List.{list_any}
use Rattle.std.proofs.lemmas.List.{append-nil}
use Rattle.protocol.specs.Ballots.{Ballot, is_below, is_same}
use Rattle.protocol.specs.Entries.{Entry}
use Rattle.protocol.specs.Rows.{Vote, vote_for, voted}
use Rattle.protocol.specs.Acceptor.{Request, Prepares, Accepts, Votes, Votes_again, ballot_of, higher, greatest_from, greatest_ballot, has_above, votes_after, votes_of, later, greatest_vote_from, greatest_vote, row_after, is_above, vote_is_at, has_vote_at, nack_of, reply_of, next_row, reply_after, StepsAreOfTheWhole}
use Rattle.protocol_laws.proofs.Order.{or_false, or_assoc, or_parts, below_later, not_both, same_where, same_after, below_where, not_below_same, irrefl, below_at}

above_higher : (o : Option Ballot) (x b : Ballot) → is_above (higher o x) b ≡ is_above o b || is_below b x
above_higher None x b = refl
above_higher (Some a) x b = below_later a x b

above_greatest : (b : Ballot) (most : Option Ballot) (rs : List Request) → is_above (greatest_from most rs) b ≡ is_above most b || has_above b rs
above_greatest b most [] = sym (or_false (is_above most b))
above_greatest b most (r ∷ rs) =
    above_greatest b (higher most (ballot_of r)) rs ∙ ap (λ p. p || has_above b rs) (above_higher most (ballot_of r) b) ∙ or_assoc (is_above most b) (is_below b (ballot_of r)) (has_above b rs)

greatest_more : (most : Option Ballot) (rs : List Request) (r : Request) → greatest_from most (rs ++ r ∷ []) ≡ higher (greatest_from most rs) (ballot_of r)
greatest_more most [] r = refl
greatest_more most (x ∷ rs) r = greatest_more (higher most (ballot_of x)) rs r

greatest_vote_more : (most : Option Vote) (vs : List Vote) (v : Vote) → greatest_vote_from most (vs ++ v ∷ []) ≡ later (greatest_vote_from most vs) v
greatest_vote_more most [] v = refl
greatest_vote_more most (x ∷ vs) v = greatest_vote_more (later most x) vs v

votes_more : (before rs : List Request) (r : Request) → votes_after before (rs ++ r ∷ []) ≡ votes_after before rs ++ votes_after (before ++ rs) (r ∷ [])
votes_more before [] r = rw append-nil refl
votes_more before (Prepares b ∷ rs) r =
    votes_more (before ++ Prepares b ∷ []) rs r ∙ ap (λ (xs : List Request). votes_after (before ++ Prepares b ∷ []) rs ++ votes_after xs (r ∷ [])) (append_assoc before (Prepares b ∷ []) rs)
votes_more before (Accepts b t ∷ rs) r =
    let e = votes_more (before ++ Accepts b t ∷ []) rs r ∙ ap (λ (xs : List Request). votes_after (before ++ Accepts b t ∷ []) rs ++ votes_after xs (r ∷ [])) (append_assoc before (Accepts b t ∷ []) rs) in
    elim (has_above b before) as (λ p. cond p (votes_after (before ++ Accepts b t ∷ []) (rs ++ r ∷ [])) (vote_for b t ∷ votes_after (before ++ Accepts b t ∷ []) (rs ++ r ∷ [])) ≡ cond p (votes_after (before ++ Accepts b t ∷ []) rs) (vote_for b t ∷ votes_after (before ++ Accepts b t ∷ []) rs) ++ votes_after (before ++ Accepts b t ∷ rs) (r ∷ [])) [
      | true ↦ e
      | false ↦ ap (λ (vs : List Vote). vote_for b t ∷ vs) e
    ]

abbrev any_vote_above : Ballot → List Vote → Bool
any_vote_above b vs = list_any (λ v. is_below b v.ballot) vs

-- where no request is above b, no vote is
votes_below : (b : Ballot) (before rs : List Request) → has_above b rs ≡ false → any_vote_above b (votes_after before rs) ≡ false
votes_below b before [] h = refl
votes_below b before (Prepares c ∷ rs) h = votes_below b (before ++ Prepares c ∷ []) rs (or_parts _ _ h).1
votes_below b before (Accepts c t ∷ rs) h =
    let parts = or_parts (is_below b c) (has_above b rs) h in
    let rest = votes_below b (before ++ Accepts c t ∷ []) rs parts.1 in
    elim (has_above c before) as (λ p. any_vote_above b (cond p (votes_after (before ++ Accepts c t ∷ []) rs) (vote_for c t ∷ votes_after (before ++ Accepts c t ∷ []) rs)) ≡ false) [
      | true ↦ rest
      | false ↦ rw (parts.0) rest
    ]

-- a vote above b
abbrev vote_is_above : Option Vote → Ballot → Bool
vote_is_above None b = false
vote_is_above (Some v) b = is_below b v.ballot

later_is_at : (most : Option Vote) (v : Vote) (b : Ballot) → vote_is_above most b ≡ false → is_below b v.ballot ≡ false → vote_is_at (later most v) b ≡ vote_is_at most b || is_same v.ballot b
later_is_at None v b h k = refl
later_is_at (Some w) v b h k =
    same_ballot w v b ∙ same_after w.ballot v.ballot b h k
  where
    same_ballot : (w v : Vote) (b : Ballot) → vote_is_at (later (Some w) v) b ≡ is_same (cond (is_below w.ballot v.ballot) v.ballot w.ballot) b
    same_ballot w v b = elim (is_below w.ballot v.ballot) as (λ p. vote_is_at (Some (cond p v w)) b ≡ is_same (cond p v.ballot w.ballot) b) [ true ↦ refl | false ↦ refl ]

later_not_above : (most : Option Vote) (v : Vote) (b : Ballot) → vote_is_above most b ≡ false → is_below b v.ballot ≡ false → vote_is_above (later most v) b ≡ false
later_not_above None v b h k = k
later_not_above (Some w) v b h k = elim (is_below w.ballot v.ballot) as (λ p. vote_is_above (Some (cond p v w)) b ≡ false) [ true ↦ k | false ↦ h ]

greatest_not_above : (b : Ballot) (most : Option Vote) (vs : List Vote) → vote_is_above most b ≡ false → any_vote_above b vs ≡ false → vote_is_above (greatest_vote_from most vs) b ≡ false
greatest_not_above b most [] h k = h
greatest_not_above b most (v ∷ vs) h k =
    let parts = or_parts (is_below b v.ballot) (any_vote_above b vs) k in
    greatest_not_above b (later most v) vs (later_not_above most v b h parts.0) parts.1

-- a vote at b stands in the list where the greatest is at b
greatest_is_at : (b : Ballot) (most : Option Vote) (vs : List Vote) → vote_is_above most b ≡ false → any_vote_above b vs ≡ false → vote_is_at (greatest_vote_from most vs) b ≡ vote_is_at most b || has_vote_at b vs
greatest_is_at b most [] h k = sym (or_false (vote_is_at most b))
greatest_is_at b most (v ∷ vs) h k =
    let parts = or_parts (is_below b v.ballot) (any_vote_above b vs) k in
    greatest_is_at b (later most v) vs (later_not_above most v b h parts.0) parts.1 ∙ ap (λ p. p || has_vote_at b vs) (later_is_at most v b h parts.0) ∙ or_assoc (vote_is_at most b) (is_same v.ballot b) (has_vote_at b vs)

-- what the whole list says of a ballot that no request is above
record Facts (before : List Request) (b : Ballot) : Type 0 where
  pub none_above : has_above b before ≡ is_above (greatest_ballot before) b
  pub found : is_above (greatest_ballot before) b ≡ false → has_vote_at b (votes_of before) ≡ vote_is_at (greatest_vote (votes_of before)) b
  pub low : is_above (greatest_ballot before) b ≡ false → vote_is_above (greatest_vote (votes_of before)) b ≡ false

facts : (before : List Request) (b : Ballot) → Facts before b
facts before b =
    let none = sym (above_greatest b None before) in
    record {
      none_above = none;
      found = λ h. sym (greatest_is_at b None (votes_of before) refl (votes_below b [] before (none ∙ h)));
      low = λ h. greatest_not_above b None (votes_of before) refl (votes_below b [] before (none ∙ h));
    }

-- a ballot that is not below the promise becomes the promise
higher_where : (o : Option Ballot) (b : Ballot) → is_above o b ≡ false → higher o b ≡ Some b
higher_where None b h = refl
higher_where (Some p) b h =
    elim (is_below p b) as (λ q. is_below p b ≡ q → Some (cond q b p) ≡ Some b) [
      | true ↦ λ _. refl
      | false ↦ λ k. ap (λ (r : Ballot). Some r) (same_where p b k h)
    ] refl

higher_stays : (o : Option Ballot) (b : Ballot) → is_above o b ≡ true → higher o b ≡ o
higher_stays None b h = absurd cc
higher_stays (Some p) b h = rw (not_both p b h) refl

later_is : (o : Option Vote) (b : Ballot) (t : Entry) → vote_is_above o b ≡ false → later o (vote_for b t) ≡ cond (vote_is_at o b) o (Some (vote_for b t))
later_is None b t h = refl
later_is (Some w) b t h =
    elim (is_same w.ballot b) as (λ q. is_same w.ballot b ≡ q → later (Some w) (vote_for b t) ≡ cond q (Some w) (Some (vote_for b t))) [
      | true ↦ λ k. rw (not_below_same w.ballot b k) refl
      | false ↦ λ k. rw (below_where w.ballot b h k) refl
    ] refl

-- the vote after an accept
voted_more : (before : List Request) (b : Ballot) (t : Entry) → greatest_vote (votes_of (before ++ Accepts b t ∷ [])) ≡ cond (is_above (greatest_ballot before) b) (greatest_vote (votes_of before)) (cond (vote_is_at (greatest_vote (votes_of before)) b) (greatest_vote (votes_of before)) (Some (vote_for b t)))
voted_more before b t =
    let f = facts before b in
    rw (votes_more [] before (Accepts b t)) (
    rw (f.none_above) (
    elim (is_above (greatest_ballot before) b) as (λ p. is_above (greatest_ballot before) b ≡ p → greatest_vote (votes_of before ++ cond p [] (vote_for b t ∷ [])) ≡ cond p (greatest_vote (votes_of before)) (cond (vote_is_at (greatest_vote (votes_of before)) b) (greatest_vote (votes_of before)) (Some (vote_for b t)))) [
      | true ↦ λ _. ap greatest_vote (append-nil (votes_of before))
      | false ↦ λ h. greatest_vote_more None (votes_of before) (vote_for b t) ∙ later_is (greatest_vote (votes_of before)) b t (f.low h)
    ] refl
    )
    )

promise_more : (before : List Request) (r : Request) → greatest_ballot (before ++ r ∷ []) ≡ cond (is_above (greatest_ballot before) (ballot_of r)) (greatest_ballot before) (Some (ballot_of r))
promise_more before r =
    greatest_more None before r ∙ elim (is_above (greatest_ballot before) (ballot_of r)) as (λ p. is_above (greatest_ballot before) (ballot_of r) ≡ p → higher (greatest_ballot before) (ballot_of r) ≡ cond p (greatest_ballot before) (Some (ballot_of r))) [
      | true ↦ λ h. higher_stays (greatest_ballot before) (ballot_of r) h
      | false ↦ λ h. higher_where (greatest_ballot before) (ballot_of r) h
    ] refl

some_from : (x : Ballot) (rs : List Request) → greatest_from (Some x) rs ≡ None → ⊥
some_from x [] h = cc
some_from x (r ∷ rs) h = some_from (cond (is_below x (ballot_of r)) (ballot_of r) x) rs h

none_voted : (before : List Request) → greatest_ballot before ≡ None → votes_of before ≡ []
none_voted [] h = refl
none_voted (r ∷ rs) h = absurd (some_from (ballot_of r) rs h)

vote_low : (o : Option Vote) (p b : Ballot) → vote_is_above o p ≡ false → vote_is_at o b ≡ true → is_below p b ≡ false
vote_low None p b h k = absurd cc
vote_low (Some w) p b h k = below_at p w.ballot b h k

-- where a vote stands at b and no request is above b, the promise is b
promise_at : (before : List Request) (b : Ballot) (p : Option Ballot) → greatest_ballot before ≡ p → is_above p b ≡ false → vote_is_at (greatest_vote (votes_of before)) b ≡ true → p ≡ Some b
promise_at before b None e h k =
    let bad : false ≡ true = rw (none_voted before e) at k in
    absurd cc
promise_at before b (Some p) e h k =
    let low = (facts before p).low (rw e (irrefl p)) in
    ap (λ (r : Ballot). Some r) (same_where p b (vote_low (greatest_vote (votes_of before)) p b low k) h)

-- the row after one more request
pub step_row : (before : List Request) (r : Request) → next_row (row_after before) r ≡ row_after (before ++ r ∷ [])
step_row before (Prepares b) =
    let e = promise_more before (Prepares b) in
    let v = votes_more [] before (Prepares b) ∙ append-nil (votes_of before) in
    rw (e, v) (elim (is_above (greatest_ballot before) b) as (λ p. cond p (row_after before) (record { promised = Some b; vote = greatest_vote (votes_of before) }) ≡ record { promised = cond p (greatest_ballot before) (Some b); vote = greatest_vote (votes_of before) }) [ true ↦ refl | false ↦ refl ])
step_row before (Accepts b t) =
    let e = promise_more before (Accepts b t) in
    let v = voted_more before b t in
    let p = greatest_ballot before in
    let w = greatest_vote (votes_of before) in
    rw (e, v) (
    elim (is_above p b) as (λ x. is_above p b ≡ x → cond x (row_after before) (cond (vote_is_at w b) (row_after before) (voted b t)) ≡ record { promised = cond x p (Some b); vote = cond x w (cond (vote_is_at w b) w (Some (vote_for b t))) }) [
      | true ↦ λ _. refl
      | false ↦ λ h. elim (vote_is_at w b) as (λ y. vote_is_at w b ≡ y → cond y (row_after before) (voted b t) ≡ record { promised = Some b; vote = cond y w (Some (vote_for b t)) }) [
        | true ↦ λ k. ap (λ (o : Option Ballot). record { promised = o; vote = w }) (promise_at before b p refl h k)
        | false ↦ λ _. refl
      ] refl
    ] refl
    )

pub step_reply : (before : List Request) (r : Request) → reply_of (row_after before) r ≡ reply_after before r
step_reply before (Prepares b) = refl
step_reply before (Accepts b t) =
    let f = facts before b in
    elim (is_above (greatest_ballot before) b) as (λ p. is_above (greatest_ballot before) b ≡ p → cond p (nack_of (greatest_ballot before)) (cond (vote_is_at (greatest_vote (votes_of before)) b) Votes_again Votes) ≡ cond p (nack_of (greatest_ballot before)) (cond (has_vote_at b (votes_of before)) Votes_again Votes)) [
      | true ↦ λ _. refl
      | false ↦ λ h. rw (f.found h) refl
    ] refl

pub steps : StepsAreOfTheWhole
steps before r = (step_row before r, step_reply before r)
