-- What stays as votes and promises grow.
use Rattle.std.proofs.Common.{◌≡◌, ℕ, ◌⊎◌, inl, inr, List, Option, Some}
use Rattle.protocol.specs.Ballots.{Ballot, IsAtMost}
use Rattle.protocol.specs.Entries.{Entry}
use Rattle.protocol.specs.Rows.{Vote}
use Rattle.protocol.specs.Packets.{Body, Prepare, Promise, Accept, Accepted, Nack}
use Rattle.protocol.specs.Marks.{Mark, Began, Promised, Proposed, Denied, Heard, Closed, Released}
use Rattle.protocol.specs.Lists.{IsAmong}
use Rattle.protocol.specs.Circuit.{Offer}
use Rattle.protocol_laws.proofs.Below.{at_most_trans, below_at_most, not_both}
use Rattle.protocol_laws.proofs.Majorities.{weaker}
use Rattle.protocol_laws.proofs.Sound.{Votes, Rows, IsPromisedTo, IsPromisedAbove, PromiseHolds, Backs, IsSafe, BodyHolds, MarkHolds}

-- votes stay, a new one is not below the promise before it, and promises do not fall
pub record Grows (V W : Votes) (rows after : Rows) : Type 0 where
  pub stay : (m n : ℕ) (b : Ballot) (t : Entry) → V m n b t → W m n b t
  pub fresh : (m n : ℕ) (b : Ballot) (t : Entry) → W m n b t → V m n b t ⊎ ((p : Ballot) → (rows m n).promised ≡ Some p → IsAtMost p b)
  pub rise : (m n : ℕ) (p : Ballot) → (rows m n).promised ≡ Some p → IsPromisedTo (after m n) p

pub promised_stays : {V W : Votes} {rows after : Rows} (m n : ℕ) (b : Ballot) → Grows V W rows after → IsPromisedTo (rows m n) b → IsPromisedTo (after m n) b
promised_stays m n b g p =
    let q = g.rise m n p.at p.is in
    record { at = q.at; is = q.is; reaches = at_most_trans b p.at q.at p.reaches q.reaches }

pub promised_above_stays : {V W : Votes} {rows after : Rows} (m n : ℕ) (b : Ballot) → Grows V W rows after → IsPromisedAbove (rows m n) b → IsPromisedAbove (after m n) b
promised_above_stays m n b g p =
    let q = g.rise m n p.at p.is in
    record { at = q.at; is = q.is; passes = below_at_most b p.at q.at p.passes q.reaches }

-- no new vote below a promise
pub none_below : {V W : Votes} {rows after : Rows} (m n : ℕ) (a : Ballot) (t : Entry) → Grows V W rows after → IsPromisedAbove (rows m n) a → W m n a t → V m n a t
none_below m n a t g p v = elim (g.fresh m n a t v) [ inl old ↦ old | inr new ↦ absurd (not_both a p.at p.passes (new p.at p.is)) ]

pub promise_stays : {V W : Votes} {rows after : Rows} (m n : ℕ) (b : Ballot) (report : Option Vote) → Grows V W rows after → PromiseHolds V rows m n b report → PromiseHolds W after m n b report
promise_stays m n b report g h = record {
  promised = promised_stays m n b g h.promised;
  reported = λ v e. let r = h.reported v e in (g.stay m n v.ballot v.entry r.0, r.1);
  greatest = λ a t v l. h.greatest a t (none_below m n a t g (record { at = h.promised.at; is = h.promised.is; passes = below_at_most a b h.promised.at l h.promised.reaches }) v) l;
}

pub backs_stays : {V W : Votes} {rows after : Rows} (n : ℕ) (a : Ballot) (t : Entry) (m : ℕ) → Grows V W rows after → Backs V rows n a t m → Backs W after n a t m
backs_stays n a t m g (inl v) = inl (g.stay m n a t v)
backs_stays n a t m g (inr h) = inr ((λ u v. h.0 u (none_below m n a u g h.1 v)), promised_above_stays m n a g h.1)

pub safe_stays : {c : ℕ} {V W : Votes} {rows after : Rows} (n : ℕ) (b : Ballot) (t : Entry) → Grows V W rows after → IsSafe c V rows n b t → IsSafe c W after n b t
safe_stays n b t g h = record { backed = λ a l. weaker (λ m i k. backs_stays n a t m g k) (h.backed a l) }

pub body_stays : {V W : Votes} {rows after : Rows} (from n : ℕ) (b : Ballot) (body : Body) → Grows V W rows after → BodyHolds V rows from n b body → BodyHolds W after from n b body
body_stays from n b Prepare g h = tt
body_stays from n b (Promise report) g h = promise_stays from n b report g h
body_stays from n b (Accept t) g h = g.stay b.owner n b t h
body_stays from n b (Accepted t) g h = g.stay from n b t h
body_stays from n b (Nack p) g h = tt

pub mark_stays :
    {V W : Votes} {rows after : Rows} (offers more : List Offer) (m : ℕ) (x : Mark) → Grows V W rows after
    → ((e : Offer) → IsAmong offers e → IsAmong more e) → MarkHolds V rows offers m x → MarkHolds W after more m x
mark_stays offers more m (Began n b own report now) g o h = (h.0, promise_stays m n b report g h.1, λ t e. let k = h.2 t e in (k.0, o (record { member = k.0; number = n; entry = t }) k.1))
mark_stays offers more m (Promised n k b report) g o h = promise_stays k n b report g h
mark_stays offers more m (Heard n k b t) g o h = g.stay k n b t h
mark_stays offers more m (Proposed n b now) g o h = tt
mark_stays offers more m (Denied n p) g o h = tt
mark_stays offers more m (Closed n) g o h = tt
mark_stays offers more m (Released n t) g o h = tt
