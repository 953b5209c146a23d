-- Only members vote.
use Rattle.std.proofs.Common.{◌≡◌, ℕ, ◌⊎◌, inl, inr, sym, ap, subst, ◌∙◌, Some, None}
use Rattle.protocol.specs.Ballots.{Ballot, IsMember}
use Rattle.protocol.specs.Entries.{Entry}
use Rattle.protocol.specs.Rows.{Row, vote_for}
use Rattle.protocol.specs.Circuit.{Circuit, State, Step, Outcome, saved, StepsTo, is_refused, is_idle, is_spent, is_done, is_torn, restarts, upgrades, upgrade_is_torn, is_armed, History, starts, goes_on}
use Rattle.protocol.specs.Agreement.{HoldsVote, WasVoted}
use Rattle.protocol_laws.proofs.Places.{saved_cases, saved-self}

pub was_held :
    {D G F : Type 0} {z : Circuit D G F} {w : State G F} (h : History z w) (m n : ℕ) (b : Ballot) (t : Entry) → HoldsVote w m n b t
    → WasVoted h m n b t
was_held (starts version f) m n b t v = v
was_held (goes_on h s o st) m n b t v = inl v

module _ {D G F : Type 0} (z : Circuit D G F) (j n : ℕ) (b : Ballot) (t : Entry) where
  abbrev Was : State G F → Type 0
  Was w = HoldsVote w j n b t ⊎ IsMember z.count j

  same_rows : (w after : State G F) → after.rows j n ≡ w.rows j n → HoldsVote after j n b t → Was w
  same_rows w after e v = inl (ap (λ (r : Row). r.vote) (sym e) ∙ v)

  by_member : (w : State G F) (m i : ℕ) (row : Row) → IsMember z.count m → (saved w.rows m i row j n).vote ≡ Some (vote_for b t) → Was w
  by_member w m i row member v = elim (saved_cases w.rows m i (w.rows m i) row j n) [
    | inl e ↦ inl (ap (λ (r : Row). r.vote) (sym (e ∙ saved-self w.rows m i j n)) ∙ v)
    | inr e ↦ inr (subst (λ (x : ℕ). IsMember z.count x) (sym e.0) member)
  ]

  before : (w after : State G F) (s : Step) (o : Outcome D F) → StepsTo z w s o after → HoldsVote after j n b t → Was w
  before w after s o (is_refused m call r task member refused how is) v = same_rows w after (is.rows j n) v
  before w after s o (is_idle m call task member unrefused event how is) v = same_rows w after (is.rows j n) v
  before w after s o (is_spent m call e task member unrefused event turn how is) v = same_rows w after (is.rows j n) v
  before w after s o (is_done m call e u out task member unrefused event turn carried armed how is) v =
      by_member w m _ u.row member (ap (λ (r : Row). r.vote) (sym (is.rows j n)) ∙ v)
  before w after s o (is_torn m call e row armed task member event leaves is) v =
      by_member w m _ row member (ap (λ (r : Row). r.vote) (sym (is.rows j n)) ∙ v)
  before w after s o (restarts m member is_restart how is) v = same_rows w after (is.rows j n) v
  before w after s o (upgrades m member is_upgrade how unarmed is) v = same_rows w after (is.rows j n) v
  before w after s o (upgrade_is_torn m version member is_upgrade turns is) v = same_rows w after (is.rows j n) v
  before w after s o (is_armed m flag member is_balk how is) v = same_rows w after (is.rows j n) v

  pub voter_is_member : {w : State G F} (h : History z w) → WasVoted h j n b t → IsMember z.count j
  voter_is_member (starts version f) v = absurd (none (ap (λ (r : Row). r.vote) (sym (f.rows j n)) ∙ v))
    where
      none : None ≡ Some (vote_for b t) → ⊥
      none e = cc
  voter_is_member (goes_on {w = w} {after = after} h s o st) (inr v) = voter_is_member h v
  voter_is_member (goes_on {w = w} {after = after} h s o st) (inl v) = elim (before w after s o st v) [
    | inl held ↦ voter_is_member h (was_held h j n b t held)
    | inr member ↦ member
  ]
