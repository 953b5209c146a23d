-- What the slots say of the marks that they stand for.
use Rattle.std.proofs.Common.{◌≡◌, ℕ, ◌*◌, ◌-◌, refl, sym, ap, ◌∙◌, List, [], ◌∷◌, Option, Some, None, Bool, true, false, length, cond, get_or, set}
use Rattle.std.specs.Prelude.{map, filter_map, find, count_by, nat_lt, ◌==◌}
use Rattle.std.proofs.lemmas.Bool.{eq-eqb, eqb-true}
use Rattle.std.proofs.lemmas.List.{set-get_or}
use Rattle.protocol.specs.Lists.{greater}
use Rattle.protocol.specs.Ballots.{Ballot, is_same, is_below, is_majority, IsMember, members}
use Rattle.protocol.specs.Entries.{Entry}
use Rattle.protocol.specs.Rows.{Vote, vote_for}
use Rattle.protocol.specs.Marks.{Mark, Heard}
use Rattle.protocol.specs.Learner.{latest, votes_at, ripe}
use Rattle.ballots.specs.Slots.{SlotForEachMember, SlotHoldsItsValue, OneSlotChanges, SlotsCountAsMembers}
use Rattle.learner.specs.Latest.{LatestVotes, StandsFor, least_at}
use Rattle.learner.specs.Slots.{votes_in, is_ripe_in, ripe_in, least_in, is_newer, slot_of, kept}

filter-map : (f : ℕ → Option Vote) (ms : List ℕ) → votes_in (map f ms) ≡ filter_map f ms
filter-map f [] = refl
filter-map f (m ∷ ms) = go (f m) refl (filter-map f ms)
  where
    go : (o : Option Vote) → f m ≡ o → votes_in (map f ms) ≡ filter_map f ms → votes_in (map f (m ∷ ms)) ≡ filter_map f (m ∷ ms)
    go None e rest = rw e rest
    go (Some v) e rest = rw (e, rest) refl

same_find : (p q : Vote → Bool) → ((v : Vote) → p v ≡ q v) → (vs : List Vote) → find p vs ≡ find q vs
same_find p q same [] = refl
same_find p q same (v ∷ vs) = let e : p v ≡ q v = same v in let r : find p vs ≡ find q vs = same_find p q same vs in rw (e, r) refl

-- the vote that stands for j where one of m for t at b is heard after those that gave o
abbrev then_heard : ℕ → Ballot → Entry → ℕ → Option Vote → Option Vote
then_heard m b t j o = cond (m == j) (Some (greater (λ (v u : Vote). is_below u.ballot v.ballot) (vote_for b t) o)) o

-- one vote more is heard
module _ (n m : ℕ) (b : Ballot) (t : Entry) (marks : List Mark) where
  heard_for : (j : ℕ) → latest n (Heard n m b t ∷ marks) j ≡ then_heard m b t j (latest n marks j)
  heard_for j = go (m == j) refl
    where
      its_number : (n == n) ≡ true
      its_number = eq-eqb n n refl

      go : (x : Bool) → (m == j) ≡ x → latest n (Heard n m b t ∷ marks) j ≡ then_heard m b t j (latest n marks j)
      go true e = rw (its_number, e) refl
      go false e = rw (its_number, e) refl

  -- of the other members nothing changes
  others_stay : (j : ℕ) → (j ≡ m → ⊥) → latest n (Heard n m b t ∷ marks) j ≡ latest n marks j
  others_stay j other = heard_for j ∙ go (m == j) refl
    where
      go : (x : Bool) → (m == j) ≡ x → then_heard m b t j (latest n marks j) ≡ latest n marks j
      go true e = absurd (other (sym (eqb-true m j e)))
      go false e = rw e refl

  -- of this one it is the vote, where it is newer
  its_latest : latest n (Heard n m b t ∷ marks) m ≡ cond (is_newer b (latest n marks m)) (Some (vote_for b t)) (latest n marks m)
  its_latest = heard_for m ∙ (let same : (m == m) ≡ true = eq-eqb m m refl in rw same (go (latest n marks m)))
    where
      go : (o : Option Vote) → Some (greater (λ (v u : Vote). is_below u.ballot v.ballot) (vote_for b t) o) ≡ cond (is_newer b o) (Some (vote_for b t)) o
      go None = refl
      go (Some v) = pick (is_below v.ballot b) refl
        where
          pick : (x : Bool) → is_below v.ballot b ≡ x → Some (greater (λ (v u : Vote). is_below u.ballot v.ballot) (vote_for b t) (Some v)) ≡ cond (is_newer b (Some v)) (Some (vote_for b t)) (Some v)
          pick true e = rw e refl
          pick false e = rw e refl

-- slots that stand for marks
module _ (n : ℕ) (marks : List Mark) (slots : List (Option Vote)) (now : LatestVotes) (seen : record { members = length slots; votes = slots } ≡ now) (stands : StandsFor now n marks) where
  are_latest : slots ≡ map (latest n marks) (members now.members)
  are_latest = ap (λ (r : LatestVotes). r.votes) (seen ∙ stands)

  pub least_stands : (b : Ballot) (read : List (Option Vote)) → read ≡ slots → least_in b read ≡ least_at now.members b (latest n marks)
  least_stands b read e = ap (least_in b) (e ∙ are_latest) ∙ ap (find (λ (v : Vote). is_same v.ballot b)) (filter-map (latest n marks) (members now.members))

  -- a vote of one of the members
  module _ (m : ℕ) (i : IsMember now.members m) (holds : SlotHoldsItsValue (Option Vote)) where
    its_slot : slot_of slots m ≡ latest n marks m
    its_slot = ap (λ (s : List (Option Vote)). slot_of s m) are_latest ∙ holds now.members m (latest n marks) None i

    -- where it is not above the member's own
    pub is_not_newer : (b : Ballot) (v : Vote) → latest n marks m ≡ Some v → is_below v.ballot b ≡ false → is_newer b (slot_of slots m) ≡ false
    is_not_newer b v here below = ap (is_newer b) (its_slot ∙ here) ∙ below

    module _ (changes : OneSlotChanges (Option Vote)) (b : Ballot) (t : Entry) where
      abbrev before : ℕ → Option Vote
      before = latest n marks

      abbrev then : ℕ → Option Vote
      then = latest n (Heard n m b t ∷ marks)

      all : set (map before (members now.members)) (m - 1) (then m) ≡ map then (members now.members)
      all = changes now.members m before then i (others_stay n m b t marks)

      pub kept_stands : kept slots m b t ≡ map then (members now.members)
      kept_stands = ap (λ (s : List (Option Vote)). kept s m b t) are_latest ∙ go (is_newer b (before m)) refl
        where
          slot : get_or (map before (members now.members)) (m - 1) None ≡ before m
          slot = holds now.members m before None i

          go : (x : Bool) → is_newer b (before m) ≡ x → kept (map before (members now.members)) m b t ≡ map then (members now.members)
          go true x = rw (slot, x) (ap (λ o. set (map before (members now.members)) (m - 1) o) (sym (its_latest n m b t marks ∙ rw x refl)) ∙ all)
          go false x =
              rw (slot, x)
              (sym (set-get_or (map before (members now.members)) (m - 1) None)
              ∙ ap (λ o. set (map before (members now.members)) (m - 1) o) (slot ∙ sym (its_latest n m b t marks ∙ rw x refl))
              ∙ all)

      -- once it is heard
      module _ (many : SlotForEachMember (Option Vote)) (after : List (Option Vote)) (keeps : after ≡ kept slots m b t) where
        pub after_stands : StandsFor (record { members = length after; votes = after }) n (Heard n m b t ∷ marks)
        after_stands =
            ap (λ (votes : List (Option Vote)). let r : LatestVotes = record { members = length after; votes = votes } in r)
            (keeps ∙ kept_stands ∙ ap (λ c. map then (members c)) (sym (ap length (keeps ∙ kept_stands) ∙ many now.members then)))

        -- what is ripe by the slots is so by the marks
        pub after_ripe : SlotsCountAsMembers (Option Vote) → ripe_in after ≡ ripe now.members n (Heard n m b t ∷ marks)
        after_ripe counts =
            ap ripe_in (keeps ∙ kept_stands)
            ∙ same_find (is_ripe_in (map then (members now.members))) (λ (v : Vote). is_majority now.members (λ j. votes_at v.ballot (then j)))
            (λ v. ap (λ k. nat_lt k (2 * count_by (votes_at v.ballot) (map then (members now.members)))) (many now.members then) ∙ ap (λ k. nat_lt now.members (2 * k)) (counts now.members then (votes_at v.ballot)))
            (votes_in (map then (members now.members)))
            ∙ ap (find (λ (v : Vote). is_majority now.members (λ j. votes_at v.ballot (then j)))) (filter-map then (members now.members))
