-- A day of two members, from its dawn to a release.
use Rattle.std.proofs.Common.{◌≡◌, ℕ, inl, inr, refl, sym, ap, subst, ◌∙◌, arith, List, [], Some, Bool, true, false}
use Rattle.std.specs.Prelude.{Ok, ◌==◌, if◌then◌else◌}
use Rattle.std.proofs.lemmas.Bool.{eqb-true, eqb-false}
use Rattle.protocol.specs.Lists.{IsAmong}
use Rattle.protocol.specs.Ballots.{IsMember}
use Rattle.protocol.specs.Entries.{Entry}
use Rattle.protocol.specs.Rows.{blank}
use Rattle.protocol.specs.Refusals.{Call, Offering, Receiving}
use Rattle.node_core.specs.Standing.{StandsFor}
use Rattle.station.specs.Stations.{sight, IsFixed}
use Rattle.station.specs.Settling.{IsReadAlike}
use Rattle.station.specs.Steps.{TakesStep, Steps, IsStep}
use Rattle.rows_saved.specs.declared.rows.Rows.{Ghosts}
use Rattle.station.specs.declared.answer.Answer.{Answer}
use Rattle.station.specs.declared.answer.Release.{Release}
use Rattle.station.specs.declared.station.Station.{Station}
use Rattle.days.specs.Happening.{At_rest, Happened, began, WasReleased}
use Rattle.days.proofs.Showing.{followed}
use Rattle.days.specs.Handing.{Plants, Begins, HasNoRow, HandsOver, Member, runs}
use Rattle.days.specs.Days.{Day, dawns, answers, settles, ends, begins}
use Rattle.days.specs.Examples.{OfferedBoth, TookIn, HasStored, DayOfTwo}

-- a step of a station that has just begun leaves where it sits, and what it sets with
step_fixed : {R : Type 0} {g : Ghosts R} {p : Plants} {m : ℕ} (old new : Station R) (call : Call) (a : Answer) → Begins g p m old → g.kept new.rows → IsStep g call old new (Ok a) → IsFixed old new
step_fixed {R = R} {g = g} old new call a b kept step =
    let st : TakesStep (sight g) call old new (Ok a) = step.steps kept in
    let found : st.found ≡ old = followed (sight g) old st.found b.goes b.wire st.follows in
    let stands : StandsFor st.found.speaker.core [] = subst (λ (s : Station R). StandsFor s.speaker.core []) (sym found) b.stands_for in
    let steps : Steps (sight g) call old new [] (Ok a) = subst (λ (s : Station R). Steps (sight g) call s new [] (Ok a)) found (st.steps [] stands) in
    elim steps [
      | inl idle ↦ subst (λ (s : Station R). IsFixed old s) (sym idle.same) (record { circuit = refl; members = refl; me = refl; table = refl; widths = refl })
      | inr done ↦ done.2.fixed
    ]

-- where rows alone were stored since, it stays so
settled_fixed : {R : Type 0} {g : Ghosts R} (old mid new : Station R) → IsFixed old mid → IsReadAlike g mid new → IsFixed old new
settled_fixed {R = R} old mid new f reads = record {
  circuit = ap (λ (s : Station R). s.speaker.core.circuit) reads.only_rows ∙ f.circuit;
  members = ap (λ (s : Station R). s.speaker.core.members) reads.only_rows ∙ f.members;
  me = ap (λ (s : Station R). s.speaker.core.me) reads.only_rows ∙ f.me;
  table = ap (λ (s : Station R). s.table) reads.only_rows ∙ f.table;
  widths = ap (λ (s : Station R). s.widths) reads.only_rows ∙ f.widths;
}

module _ {R : Type 0} (g : Ghosts R) (all : (rows : R) → g.kept rows) (one two : Station R) where
  -- the plants of these two stations
  abbrev pub plants : Plants
  plants = record {
    number = one.speaker.core.circuit;
    count = 2;
    tables = λ m. if m == 1 then one.table else two.table;
    files = λ m. if m == 1 then one.widths else two.widths;
  }

  -- the two, at the dawn
  abbrev at_dawn : ℕ → Member R
  at_dawn m = if m == 1 then runs one else runs two

  is_other : (m : ℕ) → IsMember 2 m → (m == 1) ≡ false → m ≡ 2
  is_other m member far = let apart : ¬ (m ≡ 1) = eqb-false m 1 far in let low : _ = member.0 in let high : _ = member.1 in omega (arith, apart, low, high)

  module _ (is_settled : R → Type 0) (first : Begins g plants 1 one) (second : Begins g plants 2 two) (none_one : HasNoRow g one) (none_two : HasNoRow g two) where
    dawn : Day g plants [] at_dawn
    dawn = dawns at_dawn (λ m member. go m member (m == 1) refl)
      where
        go : (m : ℕ) → IsMember 2 m → (b : Bool) → (m == 1) ≡ b → (s : Station R) × (at_dawn m ≡ runs s) × Begins g plants m s × HasNoRow g s
        go m member true e = (one, ap (λ (b : Bool). if b then runs one else runs two) e, subst (λ (k : ℕ). Begins g plants k one) (sym (eqb-true m 1 e)) first, none_one)
        go m member false e = (two, ap (λ (b : Bool). if b then runs one else runs two) e, subst (λ (k : ℕ). Begins g plants k two) (sym (is_other m member e)) second, none_two)

    low : IsMember 2 1
    low = (omega arith, omega arith)

    high : IsMember 2 2
    high = (omega arith, omega arith)

    -- each of the two has stored all
    both : (at : ℕ → Member R) → HasStored is_settled (at 1) → HasStored is_settled (at 2) → (m : ℕ) → IsMember 2 m → HasStored is_settled (at m)
    both at first_has second_has m member = go (m == 1) refl
      where
        go : (b : Bool) → (m == 1) ≡ b → HasStored is_settled (at m)
        go true e = subst (λ (k : ℕ). HasStored is_settled (at k)) (sym (eqb-true m 1 e)) first_has
        go false e = subst (λ (k : ℕ). HasStored is_settled (at k)) (sym (is_other m member e)) second_has

    ends_so :
        {day : List Happened} {at : ℕ → Member R} (r : Release) → Day g plants day at → IsAmong day (began 2) → WasReleased day 1 r
        → HasStored is_settled (at 1) → HasStored is_settled (at 2) → DayOfTwo g is_settled r
    ends_so {day = day} {at = at} r d again released first_has second_has = record {
      plants = plants;
      two = refl;
      day = day;
      at = at;
      is_day = d;
      again = again;
      released = released;
      stored = both at first_has second_has;
    }

    -- two offers, the Prepare of the first, a restart of the second member, the Promise, the Accept and the vote
    played :
        (entry : Entry) (at : ℕ) (one1 one2 one3 two1 again two2 : Station R) (prepare promise accept accepted last : Answer) (r : Release)
        → OfferedBoth g is_settled entry at one one1 prepare → TookIn g is_settled 2 prepare at two two1 promise
        → HandsOver (sight g) At_rest two1 again → (IsFixed two two1 → Begins g plants 2 again)
        → TookIn g is_settled 1 promise at one1 one2 accept
        → TookIn g is_settled 2 accept at again two2 accepted → TookIn g is_settled 1 accepted at one2 one3 last → last.release ≡ Some r
        → DayOfTwo g is_settled r
    played entry at one1 one2 one3 two1 again two2 prepare promise accept accepted last r offer a hands begun b c d released =
        let fixed = step_fixed two a.mid (Receiving a.received.bytes at) promise second (all a.mid.rows) a.received.step in
        let new = begun (settled_fixed two a.mid two1 fixed a.settled.reads) in
        let day1 = answers dawn 1 (Offering 12 entry at) one offer.mid (Ok prepare) low refl tt (all offer.mid.rows) offer.first in
        let day2 = answers day1 1 (Offering 13 entry at) offer.mid offer.late (Ok offer.other) low refl tt (all offer.late.rows) offer.second in
        let day3 = settles day2 1 offer.late one1 low refl (all one1.rows) offer.settled.reads in
        let day4 = answers day3 2 (Receiving a.received.bytes at) two a.mid (Ok promise) high refl (_, inr (inl refl), a.received.out) (all a.mid.rows) a.received.step in
        let day5 = settles day4 2 a.mid two1 high refl (all two1.rows) a.settled.reads in
        let day6 = ends day5 2 At_rest two1 high refl tt in
        let day7 = begins day6 2 At_rest two1 again high refl hands new in
        let day8 = answers day7 1 (Receiving b.received.bytes at) one1 b.mid (Ok accept) low refl (_, inr (inr (inl refl)), b.received.out) (all b.mid.rows) b.received.step in
        let day9 = settles day8 1 b.mid one2 low refl (all one2.rows) b.settled.reads in
        let day10 = answers day9 2 (Receiving c.received.bytes at) again c.mid (Ok accepted) high refl (_, inl refl, c.received.out) (all c.mid.rows) c.received.step in
        let day11 = settles day10 2 c.mid two2 high refl (all two2.rows) c.settled.reads in
        let day12 = answers day11 1 (Receiving d.received.bytes at) one2 d.mid (Ok last) low refl (_, inl refl, d.received.out) (all d.mid.rows) d.received.step in
        let day13 = settles day12 1 d.mid one3 low refl (all one3.rows) d.settled.reads in
        ends_so r day13 (inr (inr (inr (inl refl)))) (_, inl refl, (refl, released))
        (record { station = one3; running = refl; stored = d.settled.stored }) (record { station = two2; running = refl; stored = c.settled.stored })

-- such a station `Station::new` makes for this member of circuit 7, over rows in which nothing is saved
pub record IsNew {R : Type 0} (g : Ghosts R) (m : ℕ) (rows : R) (s : Station R) : Type 0 where
  pub circuit : s.speaker.core.circuit ≡ 7
  pub members : s.speaker.core.members ≡ 2
  pub me : s.speaker.core.me ≡ m
  pub has : s.rows ≡ rows
  pub none : (n : ℕ) → g.saved rows n ≡ blank
  pub wire : s.speaker.wire ≡ g.version rows
  pub stands_for : StandsFor s.speaker.core []
  pub goes : s.stopped ≡ false

-- and so `Station::restart` starts one again
pub record IsAgain {R : Type 0} (g : Ghosts R) (old new : Station R) : Type 0 where
  pub fixed : IsFixed old new
  pub wire : new.speaker.wire ≡ g.version old.rows
  pub stands_for : StandsFor new.speaker.core []
  pub starts : new ≡ record old { speaker = new.speaker; stopped = false }

no_row : {R : Type 0} {g : Ghosts R} {m : ℕ} {rows : R} {s : Station R} → IsNew g m rows s → HasNoRow g s
no_row {R = R} {g = g} new n = ap (λ (q : R). g.saved q n) new.has ∙ new.none n

speaks : {R : Type 0} {g : Ghosts R} {m : ℕ} {rows : R} {s : Station R} → IsNew g m rows s → s.speaker.wire ≡ g.version s.rows
speaks {R = R} {g = g} new = new.wire ∙ sym (ap (λ (q : R). g.version q) new.has)

-- the play, over rows that are kept and open
pub day_of_two :
    {R : Type 0} {g : Ghosts R} {is_settled : R → Type 0} (all : (rows : R) → g.kept rows) (opened : (rows : R) → g.is_open rows) (one two : Station R) (left right : R)
    → IsNew g 1 left one → IsNew g 2 right two → (entry : Entry) (at : ℕ) (one1 one2 one3 two1 again two2 : Station R) (prepare promise accept accepted last : Answer) (r : Release)
    → OfferedBoth g is_settled entry at one one1 prepare → TookIn g is_settled 2 prepare at two two1 promise → IsAgain g two1 again
    → TookIn g is_settled 1 promise at one1 one2 accept → TookIn g is_settled 2 accept at again two2 accepted → TookIn g is_settled 1 accepted at one2 one3 last
    → last.release ≡ Some r → DayOfTwo g is_settled r
day_of_two {R = R} {g = g} {is_settled = is_settled} all opened one two left right p q entry at one1 one2 one3 two1 again two2 prepare promise accept accepted last r offer a re b c d released =
    played g all one two is_settled first second (no_row p) (no_row q) entry at one1 one2 one3 two1 again two2 prepare promise accept accepted last r
    offer a (λ n. ap (λ (rows : R). g.saved rows n) same, ap (λ (rows : R). g.version rows) same) begun b c d released
  where
    first : Begins g (plants g all one two) 1 one
    first = record {
      circuit = refl;
      members = p.members;
      me = p.me;
      table = refl;
      widths = refl;
      is_open = opened one.rows;
      wire = speaks p;
      stands_for = p.stands_for;
      goes = p.goes;
    }

    second : Begins g (plants g all one two) 2 two
    second = record {
      circuit = q.circuit ∙ sym p.circuit;
      members = q.members;
      me = q.me;
      table = refl;
      widths = refl;
      is_open = opened two.rows;
      wire = speaks q;
      stands_for = q.stands_for;
      goes = q.goes;
    }

    same : again.rows ≡ two1.rows
    same = ap (λ (s : Station R). s.rows) re.starts

    begun : IsFixed two two1 → Begins g (plants g all one two) 2 again
    begun f = record {
      circuit = re.fixed.circuit ∙ (f.circuit ∙ second.circuit);
      members = re.fixed.members ∙ (f.members ∙ second.members);
      me = re.fixed.me ∙ (f.me ∙ second.me);
      table = re.fixed.table ∙ (f.table ∙ second.table);
      widths = re.fixed.widths ∙ (f.widths ∙ second.widths);
      is_open = opened again.rows;
      wire = re.wire ∙ sym (ap (λ (rows : R). g.version rows) same);
      stands_for = re.stands_for;
      goes = ap (λ (s : Station R). s.stopped) re.starts;
    }
