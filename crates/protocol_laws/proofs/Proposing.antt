-- A proposal keeps a sound state sound.
use Rattle.std.proofs.Common.{◌≡◌, ℕ, ◌⊎◌, inl, inr, refl, sym, ap, subst, ◌∙◌, List, [], ◌∷◌, ◌++◌, Option, Some, None}
use Rattle.protocol.specs.Ballots.{Ballot, IsBelow, IsAtMost, IsNoneOrAtMost, Majority}
use Rattle.protocol.specs.Entries.{Entry}
use Rattle.protocol.specs.Rows.{Vote, Row, voted}
use Rattle.protocol.specs.Packets.{Packet, Accept, Accepted}
use Rattle.protocol.specs.Marks.{Mark, Began, Promised, Proposed, Closed}
use Rattle.protocol.specs.Lists.{IsAmong}
use Rattle.protocol.specs.Readings.{IsCounted, Picks, the_reported, the_own}
use Rattle.protocol.specs.Turn.{Turn, stays, packet_to, to_others, others}
use Rattle.protocol.specs.Table.{VotedAt, Proposes, nothing, proposes}
use Rattle.protocol.specs.Circuit.{with_at}
use Rattle.protocol_laws.proofs.Below.{at_most_trans, below_at_most, not_both, at_most_refl, at_most_cases, below_weaken, compare_ballots}
use Rattle.protocol_laws.proofs.Majorities.{weaker}
use Rattle.protocol_laws.proofs.Sound.{Votes, NoVote, IsPromisedAbove, PromiseHolds, Backs, IsSafe, IsOffered, PacketHolds, MarkHolds, NotProposed}
use Rattle.protocol_laws.proofs.Moves.{some_inj, heads, WithVote, old, new, IsVote, vote}
use Rattle.protocol_laws.proofs.Places.{with_at-same, saved-same, saved_cases, among_split, among_left, among-append, among-map}
use Rattle.protocol_laws.proofs.Station.{Setting, At, rows_with, at_mark, at_hear, row_kept, marks_hold, one_entry}

-- what a turn leaves
pub record TurnSound (z : Setting) (V : Votes) (t : Turn) : Type 1 where
  pub votes : Votes
  pub stands : At z votes t.row t.marks
  pub grows : (k j : ℕ) (b : Ballot) (u : Entry) → V k j b u → votes k j b u
  pub held : (k j : ℕ) (b : Ballot) (u : Entry) → votes k j b u → V k j b u ⊎ VotedAt (rows_with z t.row k j) b u
  pub out : (p : Packet) → IsAmong t.out p → PacketHolds votes (rows_with z t.row) p
  pub release : (u : Entry) → t.release ≡ Some u → (a : Ballot) × Majority z.seat.members (λ m. votes m z.number a u)

-- a turn without a vote
pub quiet :
    {z : Setting} {V : Votes} (t : Turn) → At z V t.row t.marks → ((p : Packet) → IsAmong t.out p → PacketHolds V (rows_with z t.row) p)
    → ((u : Entry) → t.release ≡ Some u → (a : Ballot) × Majority z.seat.members (λ m. V m z.number a u)) → TurnSound z V t
quiet {V = V} t h out release = record { votes = V; stands = h; grows = λ k j b u v. v; held = λ k j b u v. inl v; out = out; release = release }

-- a turn that changes no more than the marks
pub silent : {z : Setting} {V : Votes} (t : Turn) → t.out ≡ [] → t.release ≡ None → At z V t.row t.marks → TurnSound z V t
silent {z = z} {V = V} t e f h = quiet t h (λ p i. absurd (subst (λ (l : List Packet). IsAmong l p) e i)) (λ u g. let no : None ≡ Some u = sym f ∙ g in cc)

-- a proposal of which the marks know
pub record Opened (ms : List Mark) (n : ℕ) (b : Ballot) (own : Option Entry) (report : Option Vote) (since : List Mark) : Type 0 where
  pub now : ℕ
  pub before : List Mark
  pub began : ms ≡ since ++ Began n b own report now ∷ before
  pub unproposed : NotProposed since n b

began_holds :
    {z : Setting} {V : Votes} {row : Row} {ms : List Mark} {n : ℕ} {b : Ballot} {own : Option Entry} {report : Option Vote} {since : List Mark}
    → At z V row ms → (o : Opened ms n b own report since) → MarkHolds V (rows_with z row) z.offers z.seat.me (Began n b own report o.now)
began_holds {ms = ms} {n = n} {b = b} {own = own} {report = report} {since = since} h o =
    marks_hold (Began n b own report o.now) h (among_split ms since o.before (Began n b own report o.now) o.began)

pub opened_unvoted :
    {z : Setting} {V : Votes} {row : Row} {ms : List Mark} {n : ℕ} {b : Ballot} {own : Option Entry} {report : Option Vote} {since : List Mark}
    → At z V row ms → Opened ms n b own report since → NoVote V z.seat.me n b
opened_unvoted {z = z} {ms = ms} {n = n} {b = b} {own = own} {report = report} {since = since} h o =
    (h.sound.gathering z.seat.me).unvoted n b own report o.now since o.before (with_at-same z.marks z.seat.me ms ∙ o.began) o.unproposed

-- what each counted member promised
counted_holds :
    {z : Setting} {V : Votes} {row : Row} {ms : List Mark} {n : ℕ} {b : Ballot} {own : Option Entry} {report : Option Vote} {since : List Mark}
    → At z V row ms → Opened ms n b own report since → (k : ℕ) (r : Option Vote) → IsCounted z.seat.me n b report since k r → PromiseHolds V (rows_with z row) k n b r
counted_holds {z = z} h o k r (inl (e, f)) = rw (e, f) ((began_holds h o).1)
counted_holds {ms = ms} {n = n} {b = b} {own = own} {report = report} {since = since} h o k r (inr i) =
    marks_hold (Promised n k b r) h (subst (λ (l : List Mark). IsAmong l (Promised n k b r)) (sym o.began) (among_left since (Began n b own report o.now ∷ o.before) (Promised n k b r) i))

-- a member with this report that the greatest report at g for t is not below backs t at each ballot from g up to b
backs_from :
    {z : Setting} {V : Votes} {row : Row} {ms : List Mark} (n : ℕ) (b g a : Ballot) (t : Entry) (j l : ℕ) (r : Option Vote)
    → At z V row ms → V l n g t → IsAtMost g a → IsBelow a b → PromiseHolds V (rows_with z row) j n b r
    → ((u : Vote) → r ≡ Some u → IsAtMost u.ballot g)
    → Backs V (rows_with z row) n a t j
backs_from {z = z} {V = V} {row = row} n b g a t j l None h v low up p top =
    inr ((λ u w. let x = p.greatest a u w up in none_is (x.0) (x.1)), record { at = p.promised.at; is = p.promised.is; passes = below_at_most a b p.promised.at up p.promised.reaches })
  where
    none_is : (x : Vote) → None ≡ Some x → ⊥
    none_is x e = cc
backs_from {z = z} {V = V} {row = row} n b g a t j l (Some u) h v low up p top =
    elim (at_most_cases u.ballot a (at_most_trans u.ballot g a (top u refl) low)) [
      | inl same ↦
          let g_is : g ≡ a = both_at_most g a low (subst (λ (x : Ballot). IsAtMost x g) same (top u refl)) in
          let held : V j n a u.entry = subst (λ (x : Ballot). V j n x u.entry) same ((p.reported u refl).0) in
          let chief : V l n a t = subst (λ (x : Ballot). V l n x t) g_is v in
          inl (subst (λ (x : Entry). V j n a x) (one_entry j l n a u.entry t h held chief) held)
      | inr less ↦
          inr ((λ w x. let y = p.greatest a w x up in not_above y.0 y.1 y.2 less), record { at = p.promised.at; is = p.promised.is; passes = below_at_most a b p.promised.at up p.promised.reaches })
    ]
  where
    both_at_most : (x y : Ballot) → IsAtMost x y → IsAtMost y x → x ≡ y
    both_at_most x y e f = elim (at_most_cases x y e) [ inl i ↦ i | inr i ↦ absurd (not_both x y i f) ]

    not_above : (y : Vote) → Some u ≡ Some y → IsAtMost a y.ballot → IsBelow u.ballot a → ⊥
    not_above y e f less = not_both u.ballot a less (subst (λ (x : Vote). IsAtMost a x.ballot) (sym (some_inj e)) f)

-- the pick is safe
pick_safe :
    {z : Setting} {V : Votes} {row : Row} {ms : List Mark} {n : ℕ} {b : Ballot} {own : Option Entry} {report : Option Vote} {since : List Mark} (t : Entry)
    → At z V row ms → Opened ms n b own report since
    → Majority z.seat.members (λ k. (r : Option Vote) × IsCounted z.seat.me n b report since k r)
    → Picks z.seat.me n b own report since (Some t)
    → IsSafe z.seat.members V (rows_with z row) n b t × IsOffered z.offers n t
pick_safe {z = z} {V = V} {row = row} {n = n} {b = b} {own = own} {report = report} {since = since} t h o many (the_own none is) =
    (record { backed = λ a up. weaker (λ m i k. inr ((λ u w. lacks m k.0 k.1 a u up w), above m k.0 k.1 a up)) many }, (began_holds h o).2 t (sym is))
  where
    lacks : (m : ℕ) (r : Option Vote) → IsCounted z.seat.me n b report since m r → (a : Ballot) (u : Entry) → IsBelow a b → V m n a u → ⊥
    lacks m r k a u up w = let x = (counted_holds h o m r k).greatest a u w up in none m x.0 (subst (λ (y : Option Vote). IsCounted z.seat.me n b report since m y) x.1 k)

    above : (m : ℕ) (r : Option Vote) → IsCounted z.seat.me n b report since m r → (a : Ballot) → IsBelow a b → IsPromisedAbove (rows_with z row m n) a
    above m r k a up = let p = (counted_holds h o m r k).promised in record { at = p.at; is = p.is; passes = below_at_most a b p.at up p.reaches }
pick_safe {z = z} {V = V} {row = row} {n = n} {b = b} {own = own} {report = report} {since = since} t h o many (the_reported k v counted top is) =
    (record { backed = λ a up. safe a up (compare_ballots a v.ballot) }, h.sound.offered k n v.ballot t chief)
  where
    chief_holds : V k n v.ballot v.entry × IsBelow v.ballot b
    chief_holds = (counted_holds h o k (Some v) counted).reported v refl

    chief : V k n v.ballot t
    chief = subst (λ (x : Entry). V k n v.ballot x) (sym (some_inj is)) chief_holds.0

    greatest : (j : ℕ) (u : Vote) → IsCounted z.seat.me n b report since j (Some u) → IsAtMost u.ballot v.ballot
    greatest j u i = elim (top j u i) [ inl less ↦ below_weaken u.ballot v.ballot less | inr same ↦ subst (λ (x : Ballot). IsAtMost u.ballot x) same.0 (at_most_refl u.ballot) ]

    from : (a : Ballot) → IsAtMost v.ballot a → IsBelow a b → Majority z.seat.members (Backs V (rows_with z row) n a t)
    from a low up = weaker (λ m i q. backs_from n b v.ballot a t m k q.0 h chief low up (counted_holds h o m q.0 q.1) (λ u e. greatest m u (subst (λ (y : Option Vote). IsCounted z.seat.me n b report since m y) e q.1))) many

    safe : (a : Ballot) → IsBelow a b → IsBelow a v.ballot ⊎ ((a ≡ v.ballot) ⊎ IsBelow v.ballot a) → Majority z.seat.members (Backs V (rows_with z row) n a t)
    safe a up (inl less) = (h.sound.safe k n v.ballot t chief).backed a less
    safe a up (inr (inl same)) = from a (subst (λ (x : Ballot). IsAtMost x a) same (at_most_refl a)) up
    safe a up (inr (inr more)) = from a (below_weaken v.ballot a more) up

pub propose_sound :
    {z : Setting} {V : Votes} {row : Row} {ms : List Mark} {b : Ballot} {own : Option Entry} {report : Option Vote} {since : List Mark} (now : ℕ) (t : Turn)
    → At z V row ms → row.promised ≡ Some b → Opened ms z.number b own report since
    → Majority z.seat.members (λ k. (r : Option Vote) × IsCounted z.seat.me z.number b report since k r)
    → Proposes z.seat z.number b now own report since row ms t
    → TurnSound z V t
propose_sound {z = z} {V = V} now t h promised o many (nothing picks is) =
    subst (λ (x : Turn). TurnSound z V x) (sym is) (silent (stays _ _ _) refl refl (at_mark (Closed z.number) h tt (λ n a w r i e. cc)))
propose_sound {z = z} {V = V} {row = row} {ms = ms} {b = b} now t h promised o many (proposes entry release after picks hears is) =
    subst (λ (x : Turn). TurnSound z V x) (sym is) (record {
      votes = W;
      stands = heard.0;
      grows = λ k j a u v. old v;
      held = helds;
      out = outs;
      release = heard.1;
    })
  where
    W : Votes
    W = WithVote V z.seat.me z.number b entry

    no_vote : NoVote V z.seat.me z.number b
    no_vote = opened_unvoted h o

    owner : b.owner ≡ z.seat.me
    owner = (began_holds h o).0

    proposed : At z V row (Proposed z.number b now ∷ ms)
    proposed = at_mark (Proposed z.number b now) h tt (λ k a w r i e. cc)

    ups : (k j : ℕ) → (rows_with z (voted b entry) k j ≡ rows_with z row k j) ⊎ (k ≡ z.seat.me) × (j ≡ z.number) × (rows_with z (voted b entry) k j ≡ voted b entry)
    ups k j = elim (saved_cases z.rows z.seat.me z.number row (voted b entry) k j) [ inl e ↦ inl e | inr e ↦ inr (e.0, e.1, e.3) ]

    unopened :
        (own' : Option Entry) (report' : Option Vote) (now' : ℕ) (since' before' : List Mark)
        → Proposed z.number b now ∷ ms ≡ since' ++ Began z.number b own' report' now' ∷ before' → ¬ NotProposed since' z.number b
    unopened own' report' now' [] before' e np = let same : Proposed z.number b now ≡ Began z.number b own' report' now' = heads e in cc
    unopened own' report' now' (y ∷ since') before' e np = np now (inl (heads e))

    is_vote : IsVote V (rows_with z row) (with_at z.marks z.seat.me (Proposed z.number b now ∷ ms)) z.seat.me z.number b entry
    is_vote = record {
      free = subst (λ (x : Row). IsNoneOrAtMost x.promised b) (sym (saved-same z.rows z.seat.me z.number row)) (subst (λ (x : Option Ballot). IsNoneOrAtMost x b) (sym promised) (at_most_refl b));
      unvoted = λ u e. no_vote u (row_kept (record { ballot = b; entry = u }) h (ap (λ x. x.vote) (sym (saved-same z.rows z.seat.me z.number row)) ∙ e));
      owned = new owner refl refl refl;
      unopened = λ own' report' now' since' before' e. unopened own' report' now' since' before' (sym (with_at-same z.marks z.seat.me (Proposed z.number b now ∷ ms)) ∙ e);
    }

    safe : IsSafe z.seat.members V (rows_with z row) z.number b entry × IsOffered z.offers z.number entry
    safe = pick_safe entry h o many picks

    has_voted : At z W (voted b entry) (Proposed z.number b now ∷ ms)
    has_voted = record { sound = vote proposed.sound (rows_with z (voted b entry)) z.seat.me z.number b entry (saved-same z.rows z.seat.me z.number (voted b entry)) ups is_vote safe.0 safe.1 }

    heard : At z W (voted b entry) after × ((u : Entry) → release ≡ Some u → (a : Ballot) × Majority z.seat.members (λ m. W m z.number a u))
    heard = at_hear z.seat.me b entry release after has_voted (new refl refl refl refl) hears

    helds : (k j : ℕ) (a : Ballot) (u : Entry) → W k j a u → V k j a u ⊎ VotedAt (rows_with z (voted b entry) k j) a u
    helds k j a u (old v) = inl v
    helds k j a u (new e f g i) = inr (rw (e, f, g, i) (ap (λ x. x.vote) (saved-same z.rows z.seat.me z.number (voted b entry))))

    outs : (p : Packet) → IsAmong (to_others z.seat z.number b (Accept entry) ++ to_others z.seat z.number b (Accepted entry)) p → PacketHolds W (rows_with z (voted b entry)) p
    outs p i = elim (among-append (to_others z.seat z.number b (Accept entry)) (to_others z.seat z.number b (Accepted entry)) p i) [
      | inl x ↦ (let y = among-map (packet_to z.seat z.number b (Accept entry)) (others z.seat) p x in subst (λ (q : Packet). PacketHolds W (rows_with z (voted b entry)) q) (sym y.1) (new owner refl refl refl))
      | inr x ↦ (let y = among-map (packet_to z.seat z.number b (Accepted entry)) (others z.seat) p x in subst (λ (q : Packet). PacketHolds W (rows_with z (voted b entry)) q) (sym y.1) (new refl refl refl refl))
    ]
