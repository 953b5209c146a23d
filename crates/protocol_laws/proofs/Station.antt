-- The moves of one station for one number.
use Rattle.std.proofs.Common.{◌≡◌, ℕ, ◌⊎◌, inl, inr, sym, ap, subst, ◌∙◌, List, [], ◌∷◌, Option, Some}
use Rattle.protocol.specs.Seats.{Seat}
use Rattle.protocol.specs.Ballots.{Ballot, IsAtMost, IsNoneOrBelow, IsNoneOrAtMost, Majority}
use Rattle.protocol.specs.Entries.{Entry}
use Rattle.protocol.specs.Rows.{Vote, Row, raised}
use Rattle.protocol.specs.Packets.{Packet}
use Rattle.protocol.specs.Marks.{Mark, Began, Heard, Released}
use Rattle.protocol.specs.Lists.{IsAmong}
use Rattle.protocol.specs.Readings.{Latest, Ripe}
use Rattle.protocol.specs.Table.{Hears, was_settled, waits, releases}
use Rattle.protocol.specs.Circuit.{Offer, with_at, saved}
use Rattle.protocol_laws.proofs.Below.{at_most_trans, at_most_below, not_both, at_most_refl}
use Rattle.protocol_laws.proofs.Majorities.{weaker}
use Rattle.protocol_laws.proofs.Sound.{Votes, Releases, Rows, NoVote, IsPromisedTo, PromiseHolds, IsOffered, MarkHolds, Sound}
use Rattle.protocol_laws.proofs.Moves.{known_below, below_to_at_most, some_inj, IsRaised, raise, IsMarked, mark}
use Rattle.protocol_laws.proofs.Places.{with_at_cases, with_at-same, with_at-self, saved-same, saved_cases, saved-self, among_split}

-- where a station stands: the circuit before the step, the member and the number
pub record Setting : Type 1 where
  pub seat : Seat
  pub rows : Rows
  pub marks : ℕ → List Mark
  pub number : ℕ
  pub sent : List Packet
  pub offers : List Offer
  pub releases : Releases

abbrev pub rows_with : Setting → Row → Rows
rows_with z row = saved z.rows z.seat.me z.number row

pub record At (z : Setting) (V : Votes) (row : Row) (ms : List Mark) : Type 0 where
  pub sound : Sound z.seat.members V (rows_with z row) (with_at z.marks z.seat.me ms) z.sent z.offers z.releases

pub at_start : (z : Setting) (V : Votes) → Sound z.seat.members V z.rows z.marks z.sent z.offers z.releases → At z V (z.rows z.seat.me z.number) (z.marks z.seat.me)
at_start z V s = record { sound = mark (raise s (rows_with z (z.rows z.seat.me z.number)) (λ k j. inl (saved-self z.rows z.seat.me z.number k j))) (with_at z.marks z.seat.me (z.marks z.seat.me)) (λ k. inl (with_at-self z.marks z.seat.me k)) }

pub at_raise : {z : Setting} {V : Votes} {row : Row} {ms : List Mark} (b : Ballot) → At z V row ms → IsNoneOrAtMost row.promised b → At z V (raised row b) ms
at_raise {z = z} {V = V} {row = row} b h free = record { sound = raise h.sound (rows_with z (raised row b)) ups }
  where
    ups : (k j : ℕ) → (rows_with z (raised row b) k j ≡ rows_with z row k j) ⊎ IsRaised (rows_with z row k j) (rows_with z (raised row b) k j)
    ups k j = elim (saved_cases z.rows z.seat.me z.number row (raised row b) k j) [
      | inl e ↦ inl e
      | inr e ↦ inr (record { to = b; free = subst (λ (x : Row). IsNoneOrAtMost x.promised b) (sym e.2) free; is = e.3 ∙ ap (λ x. raised x b) (sym e.2) })
    ]

pub at_mark :
    {z : Setting} {V : Votes} {row : Row} {ms : List Mark} (x : Mark) → At z V row ms → MarkHolds V (rows_with z row) z.offers z.seat.me x
    → ((n : ℕ) (b : Ballot) (own : Option Entry) (report : Option Vote) (now : ℕ) → x ≡ Began n b own report now → NoVote V z.seat.me n b)
    → At z V row (x ∷ ms)
at_mark {z = z} {V = V} {row = row} {ms = ms} x h holds unvoted = record { sound = mark h.sound (with_at z.marks z.seat.me (x ∷ ms)) change }
  where
    change : (k : ℕ) → (with_at z.marks z.seat.me (x ∷ ms) k ≡ with_at z.marks z.seat.me ms k) ⊎ ((with_at z.marks z.seat.me (x ∷ ms) k ≡ []) ⊎ IsMarked V (rows_with z row) z.offers k (with_at z.marks z.seat.me ms k) (with_at z.marks z.seat.me (x ∷ ms) k))
    change k = elim (with_at_cases z.marks z.seat.me ms (x ∷ ms) k) [
      | inl e ↦ inl e
      | inr e ↦ inr (inr (record {
        mark = x;
        is = e.2 ∙ ap (λ l. x ∷ l) (sym e.1);
        holds = subst (λ (q : ℕ). MarkHolds V (rows_with z row) z.offers q x) (sym e.0) holds;
        unvoted = λ n b own report now i. subst (λ (q : ℕ). NoVote V q n b) (sym e.0) (unvoted n b own report now i);
      }))
    ]

-- what the station's own row says

pub row_kept : {z : Setting} {V : Votes} {row : Row} {ms : List Mark} (v : Vote) → At z V row ms → row.vote ≡ Some v → V z.seat.me z.number v.ballot v.entry
row_kept {z = z} {row = row} v h e = h.sound.kept z.seat.me z.number v (ap (λ x. x.vote) (saved-same z.rows z.seat.me z.number row) ∙ e)

pub row_valid : {z : Setting} {V : Votes} {row : Row} {ms : List Mark} (v : Vote) → At z V row ms → row.vote ≡ Some v → IsPromisedTo row v.ballot
row_valid {z = z} {row = row} v h e =
    subst (λ (x : Row). IsPromisedTo x v.ballot) (saved-same z.rows z.seat.me z.number row) (h.sound.valid z.seat.me z.number v (ap (λ x. x.vote) (saved-same z.rows z.seat.me z.number row) ∙ e))

pub row_last : {z : Setting} {V : Votes} {row : Row} {ms : List Mark} (b : Ballot) (t : Entry) → At z V row ms → V z.seat.me z.number b t → (v : Vote) × (row.vote ≡ Some v) × IsAtMost b v.ballot
row_last {z = z} {row = row} b t h v = let l = h.sound.last z.seat.me z.number b t v in (l.0, sym (ap (λ x. x.vote) (saved-same z.rows z.seat.me z.number row)) ∙ l.1, l.2)

pub marks_hold : {z : Setting} {V : Votes} {row : Row} {ms : List Mark} (x : Mark) → At z V row ms → IsAmong ms x → MarkHolds V (rows_with z row) z.offers z.seat.me x
marks_hold {z = z} {ms = ms} x h i = h.sound.marked z.seat.me x (subst (λ (l : List Mark). IsAmong l x) (sym (with_at-same z.marks z.seat.me ms)) i)

-- all votes of one number and ballot carry one entry
pub one_entry : {z : Setting} {V : Votes} {row : Row} {ms : List Mark} (k j n : ℕ) (b : Ballot) (t u : Entry) → At z V row ms → V k n b t → V j n b u → t ≡ u
one_entry k j n b t u h v w = h.sound.one b.owner n b t u (h.sound.owned k n b t v) (h.sound.owned j n b u w)

-- a ballot above the promise has no vote of ours
pub unvoted_above : {z : Setting} {V : Votes} {row : Row} {ms : List Mark} (b : Ballot) → At z V row ms → IsNoneOrBelow row.promised b → NoVote V z.seat.me z.number b
unvoted_above {row = row} b h free t v =
    let l = row_last b t h v in
    let p = row_valid l.0 h l.1 in
    not_both p.at b (known_below row.promised p.at b free p.is) (at_most_trans b l.0.ballot p.at l.2 p.reaches)

-- a promise of ours at b, with the row's vote as its report
pub promise_now : {z : Setting} {V : Votes} {row : Row} {ms : List Mark} (b : Ballot) → At z V row ms → IsNoneOrBelow row.promised b → PromiseHolds V (rows_with z (raised row b)) z.seat.me z.number b row.vote
promise_now {z = z} {row = row} b h free = record {
  promised = record { at = b; is = ap (λ x. x.promised) (saved-same z.rows z.seat.me z.number (raised row b)); reaches = at_most_refl b };
  reported = λ v e. let p = row_valid v h e in (row_kept v h e, at_most_below v.ballot p.at b p.reaches (known_below row.promised p.at b free p.is));
  greatest = λ a t v l. row_last a t h v;
}

pub at_begin :
    {z : Setting} {V : Votes} {row : Row} {ms : List Mark} (b : Ballot) (own : Option Entry) (now : ℕ) → At z V row ms → IsNoneOrBelow row.promised b → b.owner ≡ z.seat.me
    → ((t : Entry) → own ≡ Some t → IsOffered z.offers z.number t)
    → At z V (raised row b) (Began z.number b own row.vote now ∷ ms)
at_begin {z = z} {V = V} {row = row} b own now h free owner offered =
    at_mark (Began z.number b own row.vote now) (at_raise b h (below_to_at_most row.promised b free)) (owner, promise_now b h free, offered) unvoted
  where
    unvoted : (n : ℕ) (a : Ballot) (o : Option Entry) (r : Option Vote) (i : ℕ) → Began z.number b own row.vote now ≡ Began n a o r i → NoVote V z.seat.me n a
    unvoted n a o r i e =
        let en : z.number ≡ n = cc in
        let eb : b ≡ a = cc in
        rw (← en, ← eb) (unvoted_above b h free)

-- a vote is heard

pub at_hear :
    {z : Setting} {V : Votes} {row : Row} {ms : List Mark} (k : ℕ) (b : Ballot) (t : Entry) (release : Option Entry) (after : List Mark)
    → At z V row ms → V k z.number b t → Hears z.seat.members z.number k b t ms release after
    → At z V row after × ((u : Entry) → release ≡ Some u → (a : Ballot) × Majority z.seat.members (λ m. V m z.number a u))
at_hear {z = z} {V = V} {row = row} {ms = ms} k b t release after h v hears = (stands, chosen)
  where
    with_heard : At z V row (Heard z.number k b t ∷ ms)
    with_heard = at_mark (Heard z.number k b t) h v (λ n a o r i e. cc)

    move : (l : List Mark) → after ≡ l → At z V row l → At z V row after
    move l e g = subst (λ (x : List Mark). At z V row x) (sym e) g

    stands : At z V row after
    stands = elim hears [
      | was_settled i e f ↦ move ms f h
      | waits i j e f ↦ move (Heard z.number k b t ∷ ms) f with_heard
      | releases a u i j e f ↦ move (Released z.number u ∷ Heard z.number k b t ∷ ms) f (at_mark (Released z.number u) with_heard tt (λ n a o r i e. cc))
    ]

    latest_held : (m : ℕ) (a : Ballot) (u : Entry) → Latest (Heard z.number k b t ∷ ms) z.number m a u → V m z.number a u
    latest_held m a u l = marks_hold (Heard z.number m a u) with_heard (among_split (Heard z.number k b t ∷ ms) l.after l.before (Heard z.number m a u) l.heard)

    ripe_chosen : (a : Ballot) (u : Entry) → Ripe z.seat.members (Heard z.number k b t ∷ ms) z.number a u → Majority z.seat.members (λ m. V m z.number a u)
    ripe_chosen a u ripe =
        let least : V ripe.least z.number a u = latest_held ripe.least a u ripe.is_latest in
        weaker (λ m i w. subst (λ (x : Entry). V m z.number a x) (one_entry m ripe.least z.number a w.0 u with_heard (latest_held m a w.0 w.1) least) (latest_held m a w.0 w.1)) ripe.many

    chosen : (u : Entry) → release ≡ Some u → (a : Ballot) × Majority z.seat.members (λ m. V m z.number a u)
    chosen u e = elim hears [
      | was_settled i f g ↦ cc
      | waits i j f g ↦ cc
      | releases a w i j f g ↦ let same : w ≡ u = some_inj (sym f ∙ e) in (a, subst (λ (x : Entry). Majority z.seat.members (λ m. V m z.number a x)) same (ripe_chosen a w j))
    ]
