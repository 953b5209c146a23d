-- The first that is due is the least: what is in hand is in order.
use Rattle.std.proofs.Common.{◌≡◌, sym, ap, subst, ◌∙◌, Some, true, false}
use Rattle.protocol.specs.Proposals.{is_due_number}
use Rattle.node_core.specs.Standing.{IsLeastPassing}
use Rattle.node_core.proofs.Dueing.{all_left, there, less_left, least_left, none_left}
use Rattle.node_core.proofs.instances.least_due.Goals as goal

pub loop-boxed-init : goal.loop-boxed-init
loop-boxed-init c = λ s marks of stand. all_left (is_due_number s.me c.args.now marks) c.args.instances.now.entries c.into_iter-boxed-iterator.result c.into_iter-boxed-iterator.ensures.into_iter_gives.0 c.into_iter-boxed-iterator.ensures.into_iter_gives.5

pub returns-then-is_due : goal.returns-then-is_due
returns-then-is_due c = λ s marks of stand.
    let h = c.loop-boxed.invariant s marks of stand in
    let n = c.in-Some.field-0-0.now in
    let d = c.as_ref-instance.result.now in
    let here = there (is_due_number s.me c.args.now marks) c.args.instances.now.entries c.loop-boxed.boxed-iterator c.next.new.self n c.in-Some.boxed.now c.in-Some.ensures.steps h ∙ ap Some (sym (c.as_ref-instance.ensures ∙ c.boxed.view_is)) in
    let stands = stand n d here in
    let due : is_due_number s.me c.args.now marks n ≡ true = ap (is_due_number s.me c.args.now marks) (sym stands.0) ∙ sym (c.is_due.ensures s marks (of n d here).0 stands.1) ∙ c.if-is_due.true in
    subst (λ k. IsLeastPassing (is_due_number s.me c.args.now marks) c.args.instances.now.entries (Some k)) (sym stands.0)
    (least_left (is_due_number s.me c.args.now marks) c.args.instances.now.entries c.loop-boxed.boxed-iterator c.next.new.self n c.in-Some.boxed.now c.in-Some.ensures.steps h due)

pub loop-boxed-preserved : goal.loop-boxed-preserved
loop-boxed-preserved c = λ s marks of stand.
    let h = c.loop-boxed.invariant s marks of stand in
    let n = c.in-Some.field-0-0.now in
    let d = c.as_ref-instance.result.now in
    let here = there (is_due_number s.me c.args.now marks) c.args.instances.now.entries c.loop-boxed.boxed-iterator c.next.new.self n c.in-Some.boxed.now c.in-Some.ensures.steps h ∙ ap Some (sym (c.as_ref-instance.ensures ∙ c.boxed.view_is)) in
    let stands = stand n d here in
    let idle : is_due_number s.me c.args.now marks n ≡ false = ap (is_due_number s.me c.args.now marks) (sym stands.0) ∙ sym (c.is_due.ensures s marks (of n d here).0 stands.1) ∙ c.if-is_due.false in
    less_left (is_due_number s.me c.args.now marks) c.args.instances.now.entries c.loop-boxed.boxed-iterator c.next.new.self n c.in-Some.boxed.now c.in-Some.ensures.steps h idle

pub returns : goal.returns
returns c = λ s marks of stand. none_left (is_due_number s.me c.args.now marks) c.args.instances.now.entries c.loop-boxed.boxed-iterator c.in-None.ensures.steps.0 (c.loop-boxed.invariant s marks of stand)
