-- What is in hand is acted on where it is. Of a number that was released nothing is taken in, and of another what is then in hand is kept.
use Rattle.std.proofs.Common.{rules, ◌≡◌, ℕ, sym, ap, subst, ◌∙◌, List, Some, refl, None, true, false}
use Rattle.std.proofs.lemmas.Result.{MatchResult-weaker, err_from_is_err_and, MatchResult-from_err}
use Rattle.std.specs.Prelude.{Bool, Ok}
use Rattle.std.specs.Ordering.{nat_cmp}
use Rattle.std.specs.BTreeMap.{get}
use Rattle.protocol.specs.Proposals.{was_released, open_proposal}
use Rattle.node_core.specs.declared.instance.Instance.{Instance}
use Rattle.node_core.specs.Calls.{TurnIs, IsRefused}
use Rattle.protocol.specs.Seats.{Seat}
use Rattle.node_core.specs.Standing.{Core, StandsFor, InstanceStands, Grows, Kept, Settles, AreInstancesOf, instance_at, seat_of}
use Rattle.node_core.specs.Handling.{Acts}
use Rattle.node_core.specs.Turns.{event_value, Stirs}
use Rattle.node_core.proofs.Calling.{turn_so, refused_told}
use Rattle.node_core.proofs.Growing.{grows}
use Rattle.node_core.proofs.Keeping.{stands_there, Written, written, unwritten, in_place, settles, new_stands, new_stirs, fresh_closed, settles_alone}
use Rattle.protocol.specs.Marks.{Mark}
use Rattle.protocol.specs.Turn.{number_of}
use Rattle.node_core.proofs.Stirring.{quiet_keeps}
use Rattle.node_core.proofs.node.NodeCore.act.Goals as goal

pub returns-in-Some : goal.returns-in-Some
returns-in-Some c = record {
  turn = λ marks h.
      let s = stands_there c.args.self.now c.self.inside.instances c.args.number (Some c.deref_mut.result.now) marks (ap (λ (v : Core). v.instances) c.self.view_is) (ap Some (c.deref_mut.ensures.value ∙ c.boxed.view_is) ∙ c.in-Some.ensures.value ∙ ap (get nat_cmp c.self.inside.instances) c.get.ensures.value) h in
      let m = c.get_mut.follows.lender c.handle.new.self in
      let number = c.handle.ensures.taken.number ∙ s.0 in
      let after : Core = record { circuit = c.self.inside.seat.circuit; me = c.self.inside.seat.me; members = c.self.inside.seat.members; failed = c.self.inside.failed; instances = m.entries; released = c.self.inside.released.keys } in
      let there = subst (λ n. Written c.self.inside.instances m n c.handle.new.self) c.get.ensures.value (written c.self.inside.instances m c.get.result c.deref_mut.result.now c.handle.new.self (ap Some (c.deref_mut.ensures.value ∙ c.boxed.view_is) ∙ c.in-Some.ensures.value) (c.get_mut.follows.holds c.handle.new.self)) in
      let kept = subst (λ (v : Core). Kept v c.handle.new.self after) c.self.view_is
      (in_place c.self.inside.seat.circuit c.self.inside.seat.me c.self.inside.seat.members c.self.inside.failed c.self.inside.released.keys c.self.inside.instances m c.args.number c.handle.new.self there number) in
      MatchResult-weaker c.handle.result (c.handle.ensures.taken.turn marks s.1)
      (λ x t.
      subst (λ (z : Seat). TurnIs z c.args.event marks c.args.row.now (λ u. Settles c.args.number c.args.row.now u x after)) (ap seat_of c.self.view_is)
      (turn_so c.self.inside.seat c.args.event marks c.args.row.now _ _ t
      (λ u is a.
      settles c.other_marks_pass.ensures c.other_marks_pass-2.ensures c.args.self.now after c.args.number c.handle.new.self kept number c.args.row.now marks u x h
      (ap (λ n. was_released n marks) (sym s.0) ∙ s.1.unreleased)
      (subst (λ n. Grows n marks u.marks) c.requires.number (grows c.self.inside.seat marks c.args.row.now (event_value c.args.event) u is))
      (c.handle.ensures.taken.of.heard ∙ ap (λ (v : Core). v.members) c.self.view_is) a)))
      (λ e t is. subst (λ (z : Seat). TurnIs z c.args.event marks c.args.row.now Stirs) (ap seat_of c.self.view_is) (t is));
  orderly = search rules;
  refused = let m = c.get_mut.follows.lender c.handle.new.self in
      let core = λ (es : List (ℕ × Instance)). (let v : Core = record { circuit = c.self.inside.seat.circuit; me = c.self.inside.seat.me; members = c.self.inside.seat.members; failed = c.self.inside.failed; instances = es; released = c.self.inside.released.keys } in v) in
      MatchResult-weaker c.handle.result c.handle.ensures.refused (λ _ _. tt)
      (λ e r.
      subst (λ i. IsRefused c.args.event e (core m.entries ≡ c.args.self.now) (StandsFor c.args.self.now) i c.args.row.now) (ap (λ (v : Core). v.me) c.self.view_is)
      (refused_told (c.handle.new.self ≡ c.deref_mut.result.now) (core m.entries ≡ c.args.self.now) (InstanceStands c.deref_mut.result.now) (StandsFor c.args.self.now)
      (λ same. ap core (unwritten c.self.inside.instances m c.get.result c.deref_mut.result.now c.handle.new.self (ap Some (c.deref_mut.ensures.value ∙ c.boxed.view_is) ∙ c.in-Some.ensures.value) (c.get_mut.follows.holds c.handle.new.self) same) ∙ c.self.view_is)
      (λ marks h. (stands_there c.args.self.now c.self.inside.instances c.args.number (Some c.deref_mut.result.now) marks (ap (λ (v : Core). v.instances) c.self.view_is) (ap Some (c.deref_mut.ensures.value ∙ c.boxed.view_is) ∙ c.in-Some.ensures.value ∙ ap (get nat_cmp c.self.inside.instances) c.get.ensures.value) h).1)
      c.self.inside.seat.me c.args.row.now c.args.event e r));
  seat = search rules;
}

-- the core with so much in hand
abbrev with_in_hand : Seat → Bool → List ℕ → List (ℕ × Instance) → Core
with_in_hand s failed released instances = record { circuit = s.circuit; me = s.me; members = s.members; failed = failed; instances = instances; released = released }

pub invariant_of-self-3 : goal.invariant_of-self-3
invariant_of-self-3 c =
    let left : c.get_mut.follows.lender-at-none ≡ c.self.inside.instances = search rules in
    subst (λ m. AreInstancesOf c.self.inside.seat m.entries) (sym left) c.self.invariant

pub returns-then-released : goal.returns-then-released
returns-then-released c =
    let left : c.get_mut.follows.lender-at-none ≡ c.self.inside.instances = search rules in
    let was = with_in_hand c.self.inside.seat c.self.inside.failed c.self.inside.released.keys c.get_mut.follows.lender-at-none.entries in
    let same : was ≡ c.args.self.now = ap (λ m. with_in_hand c.self.inside.seat c.self.inside.failed c.self.inside.released.keys m.entries) left ∙ c.self.view_is in
    subst (λ (v : Core). Acts c.args.number c.args.event c.args.row.now c.settled.result v was) same (record {
      turn = λ marks h.
          let released : was_released (number_of (event_value c.args.event)) marks ≡ true = ap (λ n. was_released n marks) c.requires.number ∙ sym (c.if-released.ensures.value marks h) in
          MatchResult-weaker c.settled.result (c.settled.ensures.turn marks released)
          (λ x t. turn_so c.self.inside.seat c.args.event marks c.args.row.now _ _ t (λ u is a. settles_alone was c.args.number c.args.row.now marks u x h a))
          (λ e t is. t is);
      orderly = search rules;
      refused = MatchResult-weaker c.settled.result c.settled.ensures.refused (λ _ _. tt)
          (λ e r.
          refused_told (Unit {0}) (was ≡ was) (λ marks. was_released (number_of (event_value c.args.event)) marks ≡ true) (StandsFor was) (λ _. refl)
          (λ marks h. ap (λ n. was_released n marks) c.requires.number ∙ sym (c.if-released.ensures.value marks h)) c.self.inside.seat.me c.args.row.now c.args.event e r);
      seat = search rules;
    })

pub returns-in_err-turn : goal.returns-in_err-turn
returns-in_err-turn c =
    let left : c.get_mut.follows.lender-at-none ≡ c.self.inside.instances = search rules in
    let was = with_in_hand c.self.inside.seat c.self.inside.failed c.self.inside.released.keys c.get_mut.follows.lender-at-none.entries in
    let same : was ≡ c.args.self.now = ap (λ m. with_in_hand c.self.inside.seat c.self.inside.failed c.self.inside.released.keys m.entries) left ∙ c.self.view_is in
    let nothing : instance_at was c.args.number ≡ None = search rules in
    let stand = λ (marks : List Mark) (h : StandsFor was marks). new_stands was c.self.inside.seat.members c.args.number c.new-instance.result marks nothing refl c.new-instance.ensures.instance h (sym (c.if-released.ensures.value marks h)) in
    let p = err_from_is_err_and c.from_residual.result c.from_residual.ensures.1 in
    subst (λ (v : Core). Acts c.args.number c.args.event c.args.row.now c.from_residual.result v was) same (record {
      turn = λ marks h. rw (p.1, p.2) (λ is. c.in_err-turn.ensures.taken.turn marks (stand marks h) is);
      orderly = search rules;
      refused = rw (p.1, p.2)
          (refused_told _ (was ≡ was) (InstanceStands c.new-instance.result) (StandsFor was) (λ _. refl) stand c.self.inside.seat.me c.args.row.now c.args.event c.in_err-turn.field-0.0 c.in_err-turn.ensures.refused);
      seat = search rules;
    })

pub returns-in_err-keep : goal.returns-in_err-keep
returns-in_err-keep c =
    let left : c.get_mut.follows.lender-at-none ≡ c.self.inside.instances = search rules in
    let was = with_in_hand c.self.inside.seat c.self.inside.failed c.self.inside.released.keys c.get_mut.follows.lender-at-none.entries in
    let same : was ≡ c.args.self.now = ap (λ m. with_in_hand c.self.inside.seat c.self.inside.failed c.self.inside.released.keys m.entries) left ∙ c.self.view_is in
    let nothing : instance_at was c.args.number ≡ None = search rules in
    subst (λ (v : Core). Acts c.args.number c.args.event c.args.row.now c.from_residual-in_err-keep.result v c.keep.new.self) same (record {
      turn = λ marks h.
          let stands = new_stands was c.self.inside.seat.members c.args.number c.new-instance.result marks nothing refl c.new-instance.ensures.instance h (sym (c.if-released.ensures.value marks h)) in
          MatchResult-from_err c.from_residual-in_err-keep.result _ _ c.from_residual-in_err-keep.ensures.0
          (λ _ _.
          turn_so c.self.inside.seat c.args.event marks c.args.row.now _ _ (c.in_ok-turn.ensures.taken.turn marks stands)
          (λ t is a.
          new_stirs c.self.inside.seat.members c.args.number c.new-instance.result c.handle-2.new.self c.args.row.now marks t c.in_ok-turn.turn c.new-instance.ensures.instance stands
          (c.handle-2.ensures.taken.number ∙ ap (λ (d : Instance). d.number) c.new-instance.ensures.instance) c.handle-2.ensures.taken.of.heard c.in_err-keep.ensures.memory
          (quiet_keeps c.self.inside.seat marks c.args.row.now (event_value c.args.event) t is
          (subst (λ n. open_proposal n marks ≡ None) (sym c.requires.number) (fresh_closed c.self.inside.seat.members c.args.number c.new-instance.result marks c.new-instance.ensures.instance stands))) a));
      orderly = search rules;
      refused = search rules;
      seat = search rules;
    })

pub returns : goal.returns
returns c =
    let left : c.get_mut.follows.lender-at-none ≡ c.self.inside.instances = search rules in
    let was = with_in_hand c.self.inside.seat c.self.inside.failed c.self.inside.released.keys c.get_mut.follows.lender-at-none.entries in
    let same : was ≡ c.args.self.now = ap (λ m. with_in_hand c.self.inside.seat c.self.inside.failed c.self.inside.released.keys m.entries) left ∙ c.self.view_is in
    let nothing : instance_at was c.args.number ≡ None = search rules in
    subst (λ (v : Core). Acts c.args.number c.args.event c.args.row.now (Ok c.in_ok-turn.turn) v c.keep.new.self) same (record {
      turn = λ marks h.
          let unreleased : was_released c.args.number marks ≡ false = sym (c.if-released.ensures.value marks h) in
          let stands = new_stands was c.self.inside.seat.members c.args.number c.new-instance.result marks nothing refl c.new-instance.ensures.instance h unreleased in
          turn_so c.self.inside.seat c.args.event marks c.args.row.now _ _ (c.in_ok-turn.ensures.taken.turn marks stands)
          (λ t is a.
          settles c.other_marks_pass.ensures c.other_marks_pass-2.ensures was c.keep.new.self c.args.number c.handle-2.new.self c.in_ok-keep.ensures.kept
          (c.handle-2.ensures.taken.number ∙ ap (λ (d : Instance). d.number) c.new-instance.ensures.instance) c.args.row.now marks t c.in_ok-turn.turn h unreleased
          (subst (λ n. Grows n marks t.marks) c.requires.number (grows c.self.inside.seat marks c.args.row.now (event_value c.args.event) t is))
          c.handle-2.ensures.taken.of.heard a);
      orderly = search rules;
      refused = search rules;
      seat = search rules;
    })
