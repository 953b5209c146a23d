-- The small moves that a turn is made of, each of which keeps a sound state sound.
use Rattle.std.proofs.Common.{◌≡◌, ℕ, ◌⊎◌, inl, inr, sym, ap, subst, ◌∙◌, List, [], ◌∷◌, ◌++◌, Option, Some, None}
use Rattle.protocol.specs.Ballots.{Ballot, IsBelow, IsAtMost, IsNoneOrBelow, IsNoneOrAtMost, Majority}
use Rattle.protocol.specs.Entries.{Entry}
use Rattle.protocol.specs.Rows.{Vote, Row, raised, voted}
use Rattle.protocol.specs.Packets.{Packet}
use Rattle.protocol.specs.Marks.{Mark, Began}
use Rattle.protocol.specs.Lists.{IsAmong}
use Rattle.protocol.specs.Table.{VotedAt}
use Rattle.protocol.specs.Circuit.{Offer}
use Rattle.protocol_laws.proofs.Below.{at_most_trans, at_most_below, at_most_refl, at_most_cases, below_weaken, below_irrefl}
use Rattle.protocol_laws.proofs.Majorities.{weaker}
use Rattle.protocol_laws.proofs.Sound.{Votes, Releases, Rows, NoVote, IsPromisedTo, IsSafe, IsOffered, PacketHolds, MarkHolds, NotProposed, Sound}
use Rattle.protocol_laws.proofs.Growth.{Grows, safe_stays, body_stays, mark_stays}

pub known : (o : Option Ballot) (p b : Ballot) → IsNoneOrAtMost o b → o ≡ Some p → IsAtMost p b
known o p b h e = let P : Option Ballot → Type 0 = λ q. IsNoneOrAtMost q b in subst P e h

pub known_below : (o : Option Ballot) (p b : Ballot) → IsNoneOrBelow o b → o ≡ Some p → IsBelow p b
known_below o p b h e = let P : Option Ballot → Type 0 = λ q. IsNoneOrBelow q b in subst P e h

pub below_to_at_most : (o : Option Ballot) (b : Ballot) → IsNoneOrBelow o b → IsNoneOrAtMost o b
below_to_at_most None b h = tt
below_to_at_most (Some a) b h = below_weaken a b h

pub row_same : {r q : Row} (p : Ballot) → q ≡ r → r.promised ≡ Some p → q.promised ≡ Some p
row_same p e h = ap (λ x. x.promised) e ∙ h

pub some_inj : {A : Type 0} {x y : A} → Some x ≡ Some y → x ≡ y
some_inj e = cc

pub heads : {x y : Mark} {xs ys : List Mark} → x ∷ xs ≡ y ∷ ys → x ≡ y
heads e = cc

pub tails : {x y : Mark} {xs ys : List Mark} → x ∷ xs ≡ y ∷ ys → xs ≡ ys
tails e = cc

pub not_empty : (xs : List Mark) (y : Mark) (ys : List Mark) → ¬ ([] ≡ xs ++ y ∷ ys)
not_empty [] y ys e = cc
not_empty (x ∷ xs) y ys e = cc

-- a promise is raised

pub record IsRaised (row after : Row) : Type 0 where
  pub to : Ballot
  pub free : IsNoneOrAtMost row.promised to
  pub is : after ≡ raised row to

pub raise :
    {c : ℕ} {V : Votes} {rows : Rows} {marks : ℕ → List Mark} {sent : List Packet} {offers : List Offer} {releases : Releases}
    → Sound c V rows marks sent offers releases → (after : Rows)
    → ((m n : ℕ) → (after m n ≡ rows m n) ⊎ IsRaised (rows m n) (after m n))
    → Sound c V after marks sent offers releases
raise {c = c} {V = V} {rows = rows} {marks = marks} {sent = sent} {offers = offers} s after up = record {
  kept = λ m n v e. s.kept m n v (sym (same_vote m n) ∙ e);
  valid = λ m n v e. let p = s.valid m n v (sym (same_vote m n) ∙ e) in let q = rises m n p.at p.is in record { at = q.at; is = q.is; reaches = at_most_trans v.ballot p.at q.at p.reaches q.reaches };
  last = λ m n b t v. let l = s.last m n b t v in (l.0, same_vote m n ∙ l.1, l.2);
  one = s.one;
  owned = s.owned;
  safe = λ m n b t v. safe_stays n b t grown (s.safe m n b t v);
  offered = s.offered;
  packets = λ p i. body_stays p.from p.number p.ballot p.body grown (s.packets p i);
  marked = λ m x i. mark_stays offers offers m x grown (λ e k. k) (s.marked m x i);
  gathering = s.gathering;
  chosen = s.chosen;
}
  where
    same_vote : (m n : ℕ) → (after m n).vote ≡ (rows m n).vote
    same_vote m n = elim (up m n) [ inl e ↦ ap (λ x. x.vote) e | inr r ↦ ap (λ x. x.vote) r.is ]

    rises : (m n : ℕ) (p : Ballot) → (rows m n).promised ≡ Some p → IsPromisedTo (after m n) p
    rises m n p e = elim (up m n) [
      | inl h ↦ record { at = p; is = row_same p h e; reaches = at_most_refl p }
      | inr r ↦ record { at = r.to; is = ap (λ x. x.promised) r.is; reaches = known ((rows m n).promised) p r.to r.free e }
    ]

    grown : Grows V V rows after
    grown = record { stay = λ m n b t v. v; fresh = λ m n b t v. inl v; rise = rises }

-- a vote is taken

-- the votes, and one of m
pub data WithVote (V : Votes) (m n : ℕ) (b : Ballot) (t : Entry) (k j : ℕ) (a : Ballot) (u : Entry) : Type 0 where
  old : V k j a u → WithVote V m n b t k j a u
  new : k ≡ m → j ≡ n → a ≡ b → u ≡ t → WithVote V m n b t k j a u

pub record IsVote (V : Votes) (rows : Rows) (marks : ℕ → List Mark) (m n : ℕ) (b : Ballot) (t : Entry) : Type 0 where
  pub free : IsNoneOrAtMost (rows m n).promised b
  pub unvoted : (u : Entry) → ¬ VotedAt (rows m n) b u
  pub owned : WithVote V m n b t b.owner n b t
  pub unopened : (own : Option Entry) (report : Option Vote) (now : ℕ) (since before : List Mark) → marks m ≡ since ++ Began n b own report now ∷ before → ¬ NotProposed since n b

-- each vote of m is below a new one
pub votes_below :
    {c : ℕ} {V : Votes} {rows : Rows} {marks : ℕ → List Mark} {sent : List Packet} {offers : List Offer} {releases : Releases} (m n : ℕ) (b : Ballot) (a : Ballot) (u : Entry)
    → Sound c V rows marks sent offers releases → IsNoneOrAtMost (rows m n).promised b → ((w : Entry) → ¬ VotedAt (rows m n) b w)
    → V m n a u → IsBelow a b
votes_below {rows = rows} m n b a u s free unvoted v =
    let l = s.last m n a u v in
    let p = s.valid m n l.0 l.1 in
    let top : IsAtMost l.0.ballot b = at_most_trans l.0.ballot p.at b p.reaches (known ((rows m n).promised) p.at b free p.is) in
    elim (at_most_cases l.0.ballot b top) [
      | inl e ↦ absurd (unvoted l.0.entry (l.1 ∙ ap (λ x. Some (record { ballot = x; entry = l.0.entry })) e))
      | inr h ↦ at_most_below a l.0.ballot b l.2 h
    ]

pub vote :
    {c : ℕ} {V : Votes} {rows : Rows} {marks : ℕ → List Mark} {sent : List Packet} {offers : List Offer} {releases : Releases}
    → Sound c V rows marks sent offers releases → (after : Rows) (m n : ℕ) (b : Ballot) (t : Entry)
    → after m n ≡ voted b t
    → ((k j : ℕ) → (after k j ≡ rows k j) ⊎ (k ≡ m) × (j ≡ n) × (after k j ≡ voted b t))
    → IsVote V rows marks m n b t → IsSafe c V rows n b t → IsOffered offers n t
    → Sound c (WithVote V m n b t) after marks sent offers releases
vote {c = c} {V = V} {rows = rows} {marks = marks} {sent = sent} {offers = offers} s after m n b t at_it up ok safe offered = record {
  kept = λ k j v e. keeps k j v e (up k j);
  valid = λ k j v e. valids k j v e (up k j);
  last = λ k j a u v. lasts k j a u v (up k j);
  one = ones;
  owned = owns;
  safe = safes;
  offered = offereds;
  packets = λ p i. body_stays p.from p.number p.ballot p.body grown (s.packets p i);
  marked = λ k x i. mark_stays offers offers k x grown (λ e h. h) (s.marked k x i);
  gathering = λ k. record { unvoted = gathers k };
  chosen = λ i u r. let h = s.chosen i u r in (h.0, weaker (λ k q v. old v) h.1);
}
  where
    rises : (k j : ℕ) (p : Ballot) → (rows k j).promised ≡ Some p → (after k j ≡ rows k j) ⊎ (k ≡ m) × (j ≡ n) × (after k j ≡ voted b t) → IsPromisedTo (after k j) p
    rises k j p i (inl e) = record { at = p; is = row_same p e i; reaches = at_most_refl p }
    rises k j p i (inr (e, f, g)) = record { at = b; is = ap (λ x. x.promised) g; reaches = known ((rows m n).promised) p b ok.free (rw (e, f) at i) }

    fresh : (k j : ℕ) (a : Ballot) (u : Entry) → WithVote V m n b t k j a u → V k j a u ⊎ ((p : Ballot) → (rows k j).promised ≡ Some p → IsAtMost p a)
    fresh k j a u (old v) = inl v
    fresh k j a u (new e f g h) = inr (λ p i. rw g (known ((rows m n).promised) p b ok.free (rw (e, f) at i)))

    grown : Grows V (WithVote V m n b t) rows after
    grown = record { stay = λ k j a u v. old v; fresh = fresh; rise = λ k j p i. rises k j p i (up k j) }

    keeps : (k j : ℕ) (v : Vote) → (after k j).vote ≡ Some v → (after k j ≡ rows k j) ⊎ (k ≡ m) × (j ≡ n) × (after k j ≡ voted b t) → WithVote V m n b t k j v.ballot v.entry
    keeps k j v i (inl e) = old (s.kept k j v (sym (ap (λ x. x.vote) e) ∙ i))
    keeps k j v i (inr (e, f, g)) =
        let same : Some (record { ballot = b; entry = t }) ≡ Some v = sym (ap (λ x. x.vote) g) ∙ i in
        let is : record { ballot = b; entry = t } ≡ v = some_inj same in
        new e f (sym (ap (λ x. x.ballot) is)) (sym (ap (λ x. x.entry) is))

    valids : (k j : ℕ) (v : Vote) → (after k j).vote ≡ Some v → (after k j ≡ rows k j) ⊎ (k ≡ m) × (j ≡ n) × (after k j ≡ voted b t) → IsPromisedTo (after k j) v.ballot
    valids k j v i (inl e) = let p = s.valid k j v (sym (ap (λ x. x.vote) e) ∙ i) in record { at = p.at; is = row_same p.at e p.is; reaches = p.reaches }
    valids k j v i (inr (e, f, g)) =
        let same : Some (record { ballot = b; entry = t }) ≡ Some v = sym (ap (λ x. x.vote) g) ∙ i in
        let is : record { ballot = b; entry = t } ≡ v = some_inj same in
        record { at = b; is = ap (λ x. x.promised) g; reaches = subst (λ (x : Vote). IsAtMost x.ballot b) is (at_most_refl b) }

    below : (a : Ballot) (u : Entry) → V m n a u → IsBelow a b
    below a u v = votes_below m n b a u s ok.free ok.unvoted v

    lasts : (k j : ℕ) (a : Ballot) (u : Entry) → WithVote V m n b t k j a u → (after k j ≡ rows k j) ⊎ (k ≡ m) × (j ≡ n) × (after k j ≡ voted b t)
        → (v : Vote) × ((after k j).vote ≡ Some v) × IsAtMost a v.ballot
    lasts k j a u (old v) (inl e) = let l = s.last k j a u v in (l.0, ap (λ x. x.vote) e ∙ l.1, l.2)
    lasts k j a u (old v) (inr (e, f, g)) = (record { ballot = b; entry = t }, ap (λ x. x.vote) g, below_weaken a b (below a u (rw (e, f) at v)))
    lasts k j a u (new e f g h) x = (record { ballot = b; entry = t }, rw (e, f) (ap (λ x. x.vote) at_it), rw g (at_most_refl b))

    ones : (k j : ℕ) (a : Ballot) (u w : Entry) → WithVote V m n b t k j a u → WithVote V m n b t k j a w → u ≡ w
    ones k j a u w (old x) (old y) = s.one k j a u w x y
    ones k j a u w (old x) (new e f g h) = absurd (below_irrefl b (below b u (rw (e, f, g) at x)))
    ones k j a u w (new e f g h) (old y) = absurd (below_irrefl b (below b w (rw (e, f, g) at y)))
    ones k j a u w (new e f g h) (new e' f' g' h') = h ∙ sym h'

    owns : (k j : ℕ) (a : Ballot) (u : Entry) → WithVote V m n b t k j a u → WithVote V m n b t a.owner j a u
    owns k j a u (old v) = old (s.owned k j a u v)
    owns k j a u (new e f g h) = rw (f, g, h) ok.owned

    safes : (k j : ℕ) (a : Ballot) (u : Entry) → WithVote V m n b t k j a u → IsSafe c (WithVote V m n b t) after j a u
    safes k j a u (old v) = safe_stays j a u grown (s.safe k j a u v)
    safes k j a u (new e f g h) = rw (f, g, h) (safe_stays n b t grown safe)

    offereds : (k j : ℕ) (a : Ballot) (u : Entry) → WithVote V m n b t k j a u → IsOffered offers j u
    offereds k j a u (old v) = s.offered k j a u v
    offereds k j a u (new e f g h) = rw (f, h) offered

    gathers :
        (k j : ℕ) (a : Ballot) (own : Option Entry) (report : Option Vote) (now : ℕ) (since before : List Mark)
        → marks k ≡ since ++ Began j a own report now ∷ before → NotProposed since j a → (u : Entry) → ¬ WithVote V m n b t k j a u
    gathers k j a own report now since before i np u (old v) = (s.gathering k).unvoted j a own report now since before i np u v
    gathers k j a own report now since before i np u (new e f g h) = ok.unopened own report now since before (rw (e, f, g) at i) (rw (f, g) at np)

-- what one station does to what it took in

pub record IsMarked (V : Votes) (rows : Rows) (offers : List Offer) (m : ℕ) (ms after : List Mark) : Type 0 where
  pub mark : Mark
  pub is : after ≡ mark ∷ ms
  pub holds : MarkHolds V rows offers m mark
  pub unvoted : (n : ℕ) (b : Ballot) (own : Option Entry) (report : Option Vote) (now : ℕ) → mark ≡ Began n b own report now → NoVote V m n b

pub mark :
    {c : ℕ} {V : Votes} {rows : Rows} {marks : ℕ → List Mark} {sent : List Packet} {offers : List Offer} {releases : Releases}
    → Sound c V rows marks sent offers releases → (after : ℕ → List Mark)
    → ((m : ℕ) → (after m ≡ marks m) ⊎ ((after m ≡ []) ⊎ IsMarked V rows offers m (marks m) (after m)))
    → Sound c V rows after sent offers releases
mark {c = c} {V = V} {rows = rows} {marks = marks} {sent = sent} {offers = offers} s after change = record {
  kept = s.kept;
  valid = s.valid;
  last = s.last;
  one = s.one;
  owned = s.owned;
  safe = s.safe;
  offered = s.offered;
  packets = s.packets;
  marked = λ m x i. all m x i (change m);
  gathering = λ m. record { unvoted = gathers m (change m) };
  chosen = s.chosen;
}
  where
    all : (m : ℕ) (x : Mark) → IsAmong (after m) x → (after m ≡ marks m) ⊎ ((after m ≡ []) ⊎ IsMarked V rows offers m (marks m) (after m)) → MarkHolds V rows offers m x
    all m x i (inl e) = s.marked m x (subst (λ (l : List Mark). IsAmong l x) e i)
    all m x i (inr (inl e)) = absurd (subst (λ (l : List Mark). IsAmong l x) e i)
    all m x i (inr (inr k)) = elim (subst (λ (l : List Mark). IsAmong l x) k.is i) [ inl same ↦ subst (λ (y : Mark). MarkHolds V rows offers m y) (sym same) k.holds | inr among ↦ s.marked m x among ]

    splits :
        (m : ℕ) (k : IsMarked V rows offers m (marks m) (after m)) (n : ℕ) (b : Ballot) (own : Option Entry) (report : Option Vote) (now : ℕ) (since before : List Mark)
        → k.mark ∷ marks m ≡ since ++ Began n b own report now ∷ before → NotProposed since n b → NoVote V m n b
    splits m k n b own report now [] before i np = k.unvoted n b own report now (heads i)
    splits m k n b own report now (y ∷ since) before i np = (s.gathering m).unvoted n b own report now since before (tails i) (λ j h. np j (inr h))

    gathers :
        (m : ℕ) → (after m ≡ marks m) ⊎ ((after m ≡ []) ⊎ IsMarked V rows offers m (marks m) (after m))
        → (n : ℕ) (b : Ballot) (own : Option Entry) (report : Option Vote) (now : ℕ) (since before : List Mark)
        → after m ≡ since ++ Began n b own report now ∷ before → NotProposed since n b → NoVote V m n b
    gathers m (inl e) n b own report now since before i np = (s.gathering m).unvoted n b own report now since before (sym e ∙ i) np
    gathers m (inr (inl e)) n b own report now since before i np = absurd (not_empty since (Began n b own report now) before (sym e ∙ i))
    gathers m (inr (inr k)) n b own report now since before i np = splits m k n b own report now since before (sym k.is ∙ i) np

-- packets go out, entries are offered and released

pub send :
    {c : ℕ} {V : Votes} {rows : Rows} {marks : ℕ → List Mark} {sent : List Packet} {offers : List Offer} {releases : Releases}
    → Sound c V rows marks sent offers releases → (after : List Packet)
    → ((p : Packet) → IsAmong after p → IsAmong sent p ⊎ PacketHolds V rows p)
    → Sound c V rows marks after offers releases
send {V = V} {rows = rows} s after adds = record {
  kept = s.kept;
  valid = s.valid;
  last = s.last;
  one = s.one;
  owned = s.owned;
  safe = s.safe;
  offered = s.offered;
  packets = λ p i. elim (adds p i) [ inl h ↦ s.packets p h | inr h ↦ h ];
  marked = s.marked;
  gathering = s.gathering;
  chosen = s.chosen;
}

pub offer :
    {c : ℕ} {V : Votes} {rows : Rows} {marks : ℕ → List Mark} {sent : List Packet} {offers : List Offer} {releases : Releases}
    → Sound c V rows marks sent offers releases → (after : List Offer) → ((e : Offer) → IsAmong offers e → IsAmong after e)
    → Sound c V rows marks sent after releases
offer {V = V} {rows = rows} {offers = offers} s after more = record {
  kept = s.kept;
  valid = s.valid;
  last = s.last;
  one = s.one;
  owned = s.owned;
  safe = s.safe;
  offered = λ m n b t v. let h = s.offered m n b t v in (h.0, more (record { member = h.0; number = n; entry = t }) h.1);
  packets = s.packets;
  marked = λ m x i. mark_stays offers after m x (record { stay = λ k j a u v. v; fresh = λ k j a u v. inl v; rise = λ k j p e. record { at = p; is = e; reaches = at_most_refl p } }) more (s.marked m x i);
  gathering = s.gathering;
  chosen = s.chosen;
}

pub release :
    {c : ℕ} {V : Votes} {rows : Rows} {marks : ℕ → List Mark} {sent : List Packet} {offers : List Offer} {releases : Releases}
    → Sound c V rows marks sent offers releases → (after : Releases)
    → ((n : ℕ) (t : Entry) → after n t → releases n t ⊎ ((b : Ballot) × Majority c (λ m. V m n b t)))
    → Sound c V rows marks sent offers after
release {c = c} {V = V} s after adds = record {
  kept = s.kept;
  valid = s.valid;
  last = s.last;
  one = s.one;
  owned = s.owned;
  safe = s.safe;
  offered = s.offered;
  packets = s.packets;
  marked = s.marked;
  gathering = s.gathering;
  chosen = λ n t r. elim (adds n t r) [ inl h ↦ s.chosen n t h | inr h ↦ h ];
}

-- the same votes, named otherwise

pub rename :
    {c : ℕ} {V : Votes} {rows : Rows} {marks : ℕ → List Mark} {sent : List Packet} {offers : List Offer} {releases : Releases} (W : Votes)
    → Sound c V rows marks sent offers releases
    → ((m n : ℕ) (b : Ballot) (t : Entry) → V m n b t → W m n b t) → ((m n : ℕ) (b : Ballot) (t : Entry) → W m n b t → V m n b t)
    → Sound c W rows marks sent offers releases
rename {c = c} {V = V} {rows = rows} {offers = offers} W s to from = record {
  kept = λ m n v e. to m n v.ballot v.entry (s.kept m n v e);
  valid = s.valid;
  last = λ m n b t v. s.last m n b t (from m n b t v);
  one = λ m n b t u v w. s.one m n b t u (from m n b t v) (from m n b u w);
  owned = λ m n b t v. to b.owner n b t (s.owned m n b t (from m n b t v));
  safe = λ m n b t v. safe_stays n b t grown (s.safe m n b t (from m n b t v));
  offered = λ m n b t v. s.offered m n b t (from m n b t v);
  packets = λ p i. body_stays p.from p.number p.ballot p.body grown (s.packets p i);
  marked = λ m x i. mark_stays offers offers m x grown (λ e k. k) (s.marked m x i);
  gathering = λ m. record { unvoted = λ n b own report now since before e np t v. (s.gathering m).unvoted n b own report now since before e np t (from m n b t v) };
  chosen = λ n t r. let h = s.chosen n t r in (h.0, weaker (λ m q v. to m n h.0 t v) h.1);
}
  where
    grown : Grows V W rows rows
    grown = record { stay = to; fresh = λ m n b t v. inl (from m n b t v); rise = λ k j p e. record { at = p; is = e; reaches = at_most_refl p } }
