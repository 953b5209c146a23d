-- Lemmas on the lines of the turn.
use Rattle.std.proofs.Common.{◌≡◌, ◌≤◌, ℕ, suc, refl, sym, ap, subst, ◌∙◌, List, [], ◌∷◌, Option, Some, None, Bool, true, false, arith}
use Rattle.std.specs.Prelude.{◌==◌, nat_lt, nat_le, is_some, option_map}
use Rattle.std.proofs.lemmas.Bool.{eq-eqb}
use Rattle.std.proofs.lemmas.Bool.Decides.{nat_tests}
use Rattle.protocol.specs.Lists.{has}
use Rattle.protocol.specs.Ballots.{Ballot, is_same, is_below, next, last_round}
use Rattle.protocol.specs.Entries.{Entry}
use Rattle.protocol.specs.Rows.{Vote, Row, raised}
use Rattle.protocol.specs.Acceptor.{is_above, is_at}
use Rattle.protocol.specs.Marks.{Mark, Began, Promised, Closed, proposes, releases}
use Rattle.protocol.specs.Proposals.{Opening, was_released, open_proposal, gathering_at, since_began, where_at, counted, is_counted, pick, begun, denied, is_due, is_due_number, due_moment, opening_ballot, open_ballot}
use Rattle.protocol.specs.Packets.{Packet}
use Rattle.protocol.specs.Turn as said
use Rattle.protocol.specs.Turn.{greater_ballot, next_ballot, is_promised, stays, promise_turn, propose, due_turn, nack_turn, begin, Hearing, hear}
use Rattle.proposer.specs.Answers.{IsNew, IsRepeated, completes, IsCountedAs}
use Rattle.proposer.specs.declared.answer.Counted.{Counted}
use Rattle.proposer.specs.declared.answer.Counted.TheVariants as kinds
use Rattle.tape_frames.specs.Entries.{owned_entry}
use Rattle.node_core.specs.declared.instance.Instance.{Instance}
use Rattle.node_core.specs.declared.turn.Turn.{Turn}
use Rattle.protocol.specs.Seats.{Seat}
use Rattle.learner.specs.Latest.{hears, OtherMarksPass as OtherVotesPass}
use Rattle.proposer.specs.InHand.{InHand, StandsFor as ProposalStandsFor}
use Rattle.node_core.specs.Standing.{Answers, InstanceStands, ProposalStands}
use Rattle.node_core.specs.Turns.{HandsNothing, note_value}
use Rattle.node_core.specs.declared.turn.Note.TheVariants as notes
use Rattle.node_core.specs.Handling.{IsTurnAlone}

abbrev pub opening : Ballot → Option Entry → Option Vote → ℕ → Opening
opening b own report now = record { ballot = b; own = own; report = report; now = now }

-- what was just begun is open
pub began_opens : (n : ℕ) (b : Ballot) (own : Option Entry) (report : Option Vote) (now : ℕ) (marks : List Mark) → was_released n marks ≡ false → open_proposal n (Began n b own report now ∷ marks) ≡ Some (opening b own report now)
began_opens n b own report now marks u = let here : (n == n) ≡ true = eq-eqb n n refl in rw (u, here) refl

pub none_since : (n : ℕ) (b : Ballot) (own : Option Entry) (report : Option Vote) (now : ℕ) (marks : List Mark) → since_began n (Began n b own report now ∷ marks) ≡ []
none_since n b own report now marks = let here : (n == n) ≡ true = eq-eqb n n refl in rw here refl

pub is_same-true : (a b : Ballot) → is_same a b ≡ true → a ≡ b
is_same-true a b h = grind (arith, nat_tests)

pub is_same-self : (a : Ballot) → is_same a a ≡ true
is_same-self a = grind (arith, nat_tests)

at_its_ballot : (b : Ballot) (p : Option Opening) (o : Opening) → where_at b p ≡ Some o → (p ≡ Some o) × (o.ballot ≡ b)
at_its_ballot b None o e = absurd cc
at_its_ballot b (Some p) o e = go (is_same p.ballot b) refl
  where
    go : (t : Bool) → is_same p.ballot b ≡ t → (Some p ≡ Some o) × (o.ballot ≡ b)
    go true h = let f : Some p ≡ Some o = rw h at e in let p_is : p ≡ o = cc in (f, ap (λ (q : Opening). q.ballot) (sym p_is) ∙ is_same-true p.ballot b h)
    go false h = let f : None ≡ Some o = rw h at e in absurd cc

-- a proposal that gathers at b is open at b
pub gathers_open : (n : ℕ) (b : Ballot) (marks : List Mark) (o : Opening) → gathering_at n b marks ≡ Some o → (open_proposal n marks ≡ Some o) × (o.ballot ≡ b)
gathers_open n b marks o e = go (has (proposes n b) (since_began n marks)) refl
  where
    go : (t : Bool) → has (proposes n b) (since_began n marks) ≡ t → (open_proposal n marks ≡ Some o) × (o.ballot ≡ b)
    go true h = let f : None ≡ Some o = rw h at e in absurd cc
    go false h = at_its_ballot b (open_proposal n marks) o (rw h at e)

-- a row that is promised to b stays where its promise is raised to b
pub raised_same : (row : Row) (b : Ballot) → row.promised ≡ Some b → raised row b ≡ row
raised_same row b e = ap (λ (p : Option Ballot). let r : Row = record { promised = p; vote = row.vote } in r) (sym e)

-- and above what was seen
pub next_above : (seen : Option Ballot) (m : ℕ) (b : Ballot) → next seen m ≡ Some b → is_above seen b ≡ false
next_above None m b e = refl
next_above (Some a) m b e = go (nat_lt a.round last_round) refl
  where
    go : (t : Bool) → nat_lt a.round last_round ≡ t → is_below b a ≡ false
    go true h = let f : Some (record { round = suc a.round; owner = m }) ≡ Some b = rw h at e in let g : record { round = suc a.round; owner = m } ≡ b = cc in ap (λ (x : Ballot). is_below x a) (sym g) ∙ above a m
      where
        above : (a : Ballot) (m : ℕ) → is_below (record { round = suc a.round; owner = m }) a ≡ false
        above a m = grind (arith, nat_tests)
    go false h = let f : None ≡ Some b = rw h at e in absurd cc

below_trans : (a b c : Ballot) → is_below a b ≡ true → is_below c b ≡ false → is_below c a ≡ false
below_trans a b c h k = grind (arith, nat_tests)

-- a ballot that is not below the greater of two is not below the first
pub not_below_greater : (p q : Option Ballot) (b : Ballot) → is_above (greater_ballot p q) b ≡ false → is_above p b ≡ false
not_below_greater None q b h = refl
not_below_greater (Some p) None b h = h
not_below_greater (Some p) (Some q) b h = go (is_below p q) refl
  where
    go : (t : Bool) → is_below p q ≡ t → is_below b p ≡ false
    go true e = below_trans p q b e (rw e at h)
    go false e = rw e at h

-- a turn that saves, sends and releases nothing
pub stays_so : {row : Row} {marks : List Mark} {note : said.Note} {x : Turn} {d : Instance} → HandsNothing x → note_value x.note ≡ note → InstanceStands d marks → Answers row (stays row marks note) x d
stays_so h noted stands = record { is_turn = record { row_after = rw h.saves refl; out = rw h.sends refl; release = ap (option_map owned_entry) h.releases; note = noted }; left = rw h.releases stands }

not_at_it : (p : Option Ballot) (b : Ballot) → (p ≡ Some b → ⊥) → is_at p b ≡ false
not_at_it None b o = refl
not_at_it (Some a) b o = go (is_same a b) refl
  where
    go : (t : Bool) → is_same a b ≡ t → is_same a b ≡ false
    go true h = absurd (o (ap (λ (x : Ballot). Some x) (is_same-true a b h)))
    go false h = h

-- the lines of a promise
module _ (s : Seat) (now : ℕ) (marks : List Mark) (row : Row) (p : Packet) (r : Option Vote) where
  pub not_gathering : gathering_at p.number p.ballot marks ≡ None → promise_turn s now marks row p r (gathering_at p.number p.ballot marks) ≡ stays row marks said.Note_stale
  not_gathering e = rw e refl

  pub overtaken : (o : Opening) → gathering_at p.number p.ballot marks ≡ Some o → (row.promised ≡ Some p.ballot → ⊥) → promise_turn s now marks row p r (gathering_at p.number p.ballot marks) ≡ stays row marks (said.Note_overtaken p.ballot)
  overtaken o e passed = let f : is_at row.promised p.ballot ≡ false = not_at_it row.promised p.ballot passed in rw (e, f) refl

  module _ (promised : row.promised ≡ Some p.ballot) where
    at_it : is_at row.promised p.ballot ≡ true
    at_it = ap (λ (a : Option Ballot). is_at a p.ballot) promised ∙ is_same-self p.ballot

    pub repeated : IsRepeated s.me p.number p.ballot p.from marks → promise_turn s now marks row p r (gathering_at p.number p.ballot marks) ≡ stays row marks said.Note_repeated
    repeated h =
        let e : gathering_at p.number p.ballot marks ≡ Some h.opening = h.gathers in
        let t : is_at row.promised p.ballot ≡ true = at_it in
        let f : is_counted (counted s.me p.number h.opening (since_began p.number marks)) p.from ≡ true = h.is_repeated in
        rw (e, t, f) refl

    pub counts_so : (h : IsNew s.me p.number p.ballot p.from marks) → completes s.members s.me p.number p.ballot p.from r marks h.opening ≡ false → promise_turn s now marks row p r (gathering_at p.number p.ballot marks) ≡ stays row (Promised p.number p.from p.ballot r ∷ marks) (said.Note_counted p.ballot)
    counts_so h few =
        let e : gathering_at p.number p.ballot marks ≡ Some h.opening = h.gathers in
        let t : is_at row.promised p.ballot ≡ true = at_it in
        let f : is_counted (counted s.me p.number h.opening (since_began p.number marks)) p.from ≡ false = h.is_new in
        rw (e, t, f, few) refl

    -- the same from what became of the promise
    pub counts_as : IsCountedAs kinds.More s.members s.me p.number p.ballot p.from r marks → promise_turn s now marks row p r (gathering_at p.number p.ballot marks) ≡ stays row (Promised p.number p.from p.ballot r ∷ marks) (said.Note_counted p.ballot)
    counts_as h = counts_so h.0 h.1

    pub completes_so : (h : IsNew s.me p.number p.ballot p.from marks) → completes s.members s.me p.number p.ballot p.from r marks h.opening ≡ true
        → promise_turn s now marks row p r (gathering_at p.number p.ballot marks)
        ≡ propose s p.number p.ballot now (Promised p.number p.from p.ballot r ∷ marks) row (pick h.opening.own (counted s.me p.number h.opening (Promised p.number p.from p.ballot r ∷ since_began p.number marks)))
    completes_so h many =
        let e : gathering_at p.number p.ballot marks ≡ Some h.opening = h.gathers in
        let t : is_at row.promised p.ballot ≡ true = at_it in
        let f : is_counted (counted s.me p.number h.opening (since_began p.number marks)) p.from ≡ false = h.is_new in
        rw (e, t, f, many) refl

    pub completes_as :
        (x : Turn) (d : Instance) → IsCountedAs kinds.Quorum s.members s.me p.number p.ballot p.from r marks
        → ((o : Opening) → open_proposal p.number marks ≡ Some o → o.ballot ≡ p.ballot → Answers row (propose s p.number p.ballot now (Promised p.number p.from p.ballot r ∷ marks) (raised row p.ballot) (pick o.own (counted s.me p.number o (Promised p.number p.from p.ballot r ∷ since_began p.number marks)))) x d)
        → Answers row (promise_turn s now marks row p r (gathering_at p.number p.ballot marks)) x d
    completes_as x d h turn =
        let opens = gathers_open p.number p.ballot marks h.0.opening h.0.gathers in
        let answer = turn h.0.opening opens.0 opens.1 in
        rw (completes_so h.0 h.1)
        (subst (λ (w : Row). Answers row (propose s p.number p.ballot now (Promised p.number p.from p.ballot r ∷ marks) w (pick h.0.opening.own (counted s.me p.number h.0.opening (Promised p.number p.from p.ballot r ∷ since_began p.number marks)))) x d) (raised_same row p.ballot promised) answer)

-- what became of a promise, told of the packet and the seat
pub counted_as :
    (kind : Counted) (c d m l n j : ℕ) (b a : Ballot) (from k : ℕ) (r : Option Vote) (marks : List Mark) → c ≡ d → m ≡ l → n ≡ j → b ≡ a → from ≡ k
    → IsCountedAs kind c m n b from r marks → IsCountedAs kind d l j a k r marks
counted_as kind c d m l n j b a from k r marks x y e f g h =
    subst (λ i. IsCountedAs kind i l j a k r marks) x (subst (λ i. IsCountedAs kind c i j a k r marks) y
    (subst (λ i. IsCountedAs kind c m j a i r marks) g (subst (λ (z : Ballot). IsCountedAs kind c m j z from r marks) f (subst (λ i. IsCountedAs kind c m i b from r marks) e h))))

-- where the number is open
pub none_at : (n : ℕ) (marks : List Mark) → None ≡ opening_ballot (open_proposal n marks) → open_proposal n marks ≡ None
none_at n marks e = go (open_proposal n marks) refl
  where
    go : (q : Option Opening) → open_proposal n marks ≡ q → open_proposal n marks ≡ None
    go None h = h
    go (Some o) h = let f : None ≡ Some o.ballot = rw h at e in absurd cc

-- the lines of a due moment
module _ (s : Seat) (n now : ℕ) (marks : List Mark) (row : Row) where
  pub not_due : (o : Opening) → open_proposal n marks ≡ Some o → is_due s.me n now (since_began n marks) (Some o) ≡ false → due_turn s n now marks row (open_proposal n marks) ≡ stays row marks said.Note_idle
  not_due o e f = rw (e, f) refl

  pub gives_up : (o : Opening) → open_proposal n marks ≡ Some o → is_due s.me n now (since_began n marks) (Some o) ≡ true → next_ballot s.me n marks row ≡ None → due_turn s n now marks row (open_proposal n marks) ≡ stays row (Closed n ∷ marks) (said.Note_gave_up o.ballot)
  gives_up o e f g = rw (e, f, g) refl

  pub renews : (o : Opening) (b : Ballot) → open_proposal n marks ≡ Some o → is_due s.me n now (since_began n marks) (Some o) ≡ true → next_ballot s.me n marks row ≡ Some b → due_turn s n now marks row (open_proposal n marks) ≡ begin s n b o.own now marks row
  renews o b e f g = rw (e, f, g) refl

  pub renews_above : (b : Ballot) → next_ballot s.me n marks row ≡ Some b → is_above row.promised b ≡ false
  renews_above b g = go (nat_le 32 (begun n marks)) refl
    where
      go : (t : Bool) → nat_le 32 (begun n marks) ≡ t → is_above row.promised b ≡ false
      go true h = let f : None ≡ Some b = rw h at g in absurd cc
      go false h = not_below_greater row.promised (denied n marks) b (next_above (greater_ballot row.promised (denied n marks)) s.me b (rw h at g))

not_below_itself : (a : Ballot) → is_below a a ≡ false
not_below_itself a = grind (arith, nat_tests)

-- a promise at b is not above b
pub promised_not_above : (p : Option Ballot) (b : Ballot) → p ≡ Some b → is_above p b ≡ false
promised_not_above p b e = ap (λ (a : Option Ballot). is_above a b) e ∙ not_below_itself b

-- a proposing instance's answer, told of another's number and ballot that are equal to its own
pub told :
    (s : Seat) (now : ℕ) (row : Row) (x : Turn) (d e : Instance) (b : Ballot) (n : ℕ) (a : Ballot) (marks : List Mark) → e.number ≡ n → b ≡ a
    → ((o : Opening) → is_above row.promised b ≡ false → InstanceStands e marks → open_proposal e.number marks ≡ Some o → o.ballot ≡ b → Answers row (propose s e.number b now marks (raised row b) (pick o.own (counted s.me e.number o (since_began e.number marks)))) x d)
    → is_above row.promised a ≡ false → InstanceStands e marks
    → (o : Opening) → open_proposal n marks ≡ Some o → o.ballot ≡ a → Answers row (propose s n a now marks (raised row a) (pick o.own (counted s.me n o (since_began n marks)))) x d
told s now row x d e b n a marks is_n is_a h above stands o opens at =
    subst (λ j. Answers row (propose s j a now marks (raised row a) (pick o.own (counted s.me j o (since_began j marks)))) x d) is_n
    (subst (λ (y : Ballot). Answers row (propose s e.number y now marks (raised row y) (pick o.own (counted s.me e.number o (since_began e.number marks)))) x d) is_a
    (h o (subst (λ (y : Ballot). is_above row.promised y ≡ false) (sym is_a) above) stands (subst (λ j. open_proposal j marks ≡ Some o) (sym is_n) opens) (at ∙ sym is_a)))

-- a due moment of a number that was released
pub idle_alone : (s : Seat) (n now : ℕ) (marks : List Mark) (row : Row) (x : Turn) → was_released n marks ≡ true → HandsNothing x → x.note ≡ notes.Idle → IsTurnAlone row marks (due_turn s n now marks row (open_proposal n marks)) x
idle_alone s n now marks row x released h noted = rw released (record {
  is_turn = record { row_after = rw h.saves refl; out = rw h.sends refl; release = ap (option_map owned_entry) h.releases; note = rw noted refl };
  takes_nothing = refl;
  releases_nothing = h.releases;
})

-- where one more mark comes that hears and releases nothing, and the proposal in hand stands for it
pub one_more : (votes : OtherVotesPass) (d : Instance) (q : InHand) (x : Mark) (marks : List Mark) → hears d.number x ≡ false → releases d.number x ≡ false → InstanceStands d marks → ProposalStandsFor q d.number (x ∷ marks) → InstanceStands (record d { proposal = Some q }) (x ∷ marks)
one_more votes d q x marks unheard unreleased s p = record { unreleased = rw unreleased s.unreleased; proposal = p; heard = votes d.heard d.number x marks unheard s.heard }

pub still : (d : Instance) (q : InHand) (marks : List Mark) → InstanceStands d marks → ProposalStandsFor q d.number marks → InstanceStands (record d { proposal = Some q }) marks
still d q marks s p = record { unreleased = s.unreleased; proposal = p; heard = s.heard }

pub promised_told : (n j m k : ℕ) (b a : Ballot) (r : Option Vote) → n ≡ j → m ≡ k → b ≡ a → Promised n m b r ≡ Promised j k a r
promised_told n j m k b a r e f g = ap (λ i. Promised i m b r) e ∙ ap (λ i. Promised j i b r) f ∙ ap (λ (x : Ballot). Promised j k x r) g

-- what is read of a proposal in hand
pub proposal_stands : (d : Instance) (q : InHand) (marks : List Mark) → d.proposal ≡ Some q → InstanceStands d marks → ProposalStandsFor q d.number marks
proposal_stands d q marks is s = subst (λ (o : Option InHand). ProposalStands o d.number marks) is s.proposal

pub none_stands : (d : Instance) (marks : List Mark) → d.proposal ≡ None → InstanceStands d marks → open_proposal d.number marks ≡ None
none_stands d marks is s = subst (λ (o : Option InHand). ProposalStands o d.number marks) is s.proposal

-- no other proposal of a number is open
pub one_open : (n : ℕ) (marks : List Mark) (o p : Opening) → open_proposal n marks ≡ Some o → open_proposal n marks ≡ Some p → p.ballot ≡ o.ballot
one_open n marks o p e f = let g : Some p ≡ Some o = sym f ∙ e in let is : p ≡ o = cc in ap (λ (q : Opening). q.ballot) is

-- where nothing is open, nothing gathers
pub none_gathers : (n : ℕ) (b : Ballot) (marks : List Mark) → open_proposal n marks ≡ None → gathering_at n b marks ≡ None
none_gathers n b marks e = go (has (proposes n b) (since_began n marks)) refl
  where
    go : (t : Bool) → has (proposes n b) (since_began n marks) ≡ t → gathering_at n b marks ≡ None
    go true h = rw h refl
    go false h = rw (h, e) refl

-- whether a proposal in hand is due
pub due_so : (d : Instance) (q : InHand) (m now moment : ℕ) (marks : List Mark) (p : ProposalStandsFor q d.number marks) → q.me ≡ m → moment ≡ due_moment q.me d.number p.opening (since_began d.number marks) → moment ≤ now → is_due_number m now marks d.number ≡ true
due_so d q m now moment marks p of is h =
    let e : open_proposal d.number marks ≡ Some p.opening = p.is_open in
    let f : moment ≡ due_moment m d.number p.opening (since_began d.number marks) = is ∙ ap (λ i. due_moment i d.number p.opening (since_began d.number marks)) of in
    rw (e, ← f) (grind (arith, nat_tests))

pub closed_so : (n : ℕ) (marks : List Mark) (b : Bool) (o : Option Ballot) → b ≡ is_some o → o ≡ open_ballot n marks → b ≡ false → open_proposal n marks ≡ None
closed_so n marks b None e f g = none_at n marks f
closed_so n marks b (Some a) e f g = let bad : true ≡ false = sym e ∙ g in absurd cc

-- what is heard, told of equal numbers, ballots and members
pub hear_told :
    (P : Hearing → Type 0) (c e j n k m : ℕ) (b a : Ballot) (t : Entry) (marks : List Mark) → c ≡ e → j ≡ n → k ≡ m → b ≡ a
    → P (hear c j k b t marks) → P (hear e n m a t marks)
hear_told P c e j n k m b a t marks f g h i p =
    subst (λ (x : Ballot). P (hear e n m x t marks)) i
    (subst (λ l. P (hear e n l b t marks)) h
    (subst (λ l. P (hear e l k b t marks)) g
    (subst (λ l. P (hear l j k b t marks)) f p)))
