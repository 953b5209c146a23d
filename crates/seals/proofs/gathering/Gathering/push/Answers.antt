-- What a piece leaves, and what is answered. The list of packets is what the gathering is seen as.
use Rattle.std.proofs.Common.{ℕ, Vec, Global, List, None, subst}
use Rattle.std.specs.Prelude.{option_map}
use Rattle.seals.specs.Parts.{Parts}
use Rattle.seals.specs.Places.{Gathers, Keeps}
use Rattle.seals.proofs.Counting.{put_counts, remove_counts}
use Rattle.seals.proofs.Knowing.{gathers_none, gathers_whole, taken_for, ready_inside, ready_for, finished}
use Rattle.seals.proofs.Keeping.{put_keeps, whole_keeps}
use Rattle.seals.proofs.gathering.Gathering.push.Goals as goal

pub returns-then-not-put_at-clause-gathers : goal.returns-then-not-put_at-clause-gathers
returns-then-not-put_at-clause-gathers c =
    subst (λ (s : List Parts). Gathers c.args.keys.now c.args.piece.now.place c.args.piece.now.label c.args.piece.now.index c.args.piece.now.part.now s c.put_at.new.slots.items None) c.self.view_is (
    gathers_none c.args.keys.now c.args.piece.now.place c.args.piece.now.label c.args.piece.now.index c.args.piece.now.part.now c.self.inside.slots.items c.make_ready.new.slots.items c.put_at.new.slots.items c.in_ok-at.at c.put_at.result
    c.requires c.in_ok-at.ensures.ready c.put_at.ensures.puts c.if-not-put_at.true)

pub returns-then-not-put_at-clause-bounded : goal.returns-then-not-put_at-clause-bounded
returns-then-not-put_at-clause-bounded c =
    let inside = (ready_for c.args.piece.now.place c.args.piece.now.label c.self.inside.slots.items c.make_ready.new.slots.items c.in_ok-at.at c.in_ok-at.ensures.ready).0 in
    put_counts c.in_ok-at.at c.args.piece.now.index c.args.piece.now.part.now c.make_ready.new.slots.items c.put_at.new.slots.items c.put_at.result inside c.put_at.ensures.puts (c.in_ok-at.ensures.bounded c.self.invariant)

pub returns-clause-sealed : goal.returns-clause-sealed
returns-clause-sealed c =
    let for_it = taken_for c.args.piece.now.place c.args.piece.now.label c.args.piece.now.index c.args.piece.now.part.now c.self.inside.slots.items c.make_ready.new.slots.items c.put_at.new.slots.items c.in_ok-at.at c.put_at.result c.remove-whole.result
    c.in_ok-at.ensures.ready c.put_at.ensures.puts c.remove-whole.ensures.value in
    (finished (λ (v : Vec ℕ Global). v.items) c.args.keys.now c.args.piece.now.place c.args.piece.now.label c.remove-whole.result c.finish.result for_it c.finish.ensures.some).0

pub returns-clause-gathers : goal.returns-clause-gathers
returns-clause-gathers c =
    let for_it = taken_for c.args.piece.now.place c.args.piece.now.label c.args.piece.now.index c.args.piece.now.part.now c.self.inside.slots.items c.make_ready.new.slots.items c.put_at.new.slots.items c.in_ok-at.at c.put_at.result c.remove-whole.result
    c.in_ok-at.ensures.ready c.put_at.ensures.puts c.remove-whole.ensures.value in
    let bytes = (finished (λ (v : Vec ℕ Global). v.items) c.args.keys.now c.args.piece.now.place c.args.piece.now.label c.remove-whole.result c.finish.result for_it c.finish.ensures.some).1 in
    subst (λ (s : List Parts). Gathers c.args.keys.now c.args.piece.now.place c.args.piece.now.label c.args.piece.now.index c.args.piece.now.part.now s c.remove-whole.new.self.items (option_map (λ (v : Vec ℕ Global). v.items) c.finish.result)) c.self.view_is (
    gathers_whole (λ (v : Vec ℕ Global). v.items) c.args.keys.now c.args.piece.now.place c.args.piece.now.label c.args.piece.now.index c.args.piece.now.part.now c.self.inside.slots.items c.make_ready.new.slots.items c.put_at.new.slots.items c.remove-whole.new.self.items c.in_ok-at.at c.put_at.result c.remove-whole.result c.finish.result
    c.requires c.in_ok-at.ensures.ready c.put_at.ensures.puts c.if-not-put_at.false c.remove-whole.ensures.value bytes c.finish.ensures.only)

pub returns-clause-bounded : goal.returns-clause-bounded
returns-clause-bounded c = λ m.
    let inside = (ready_for c.args.piece.now.place c.args.piece.now.label c.self.inside.slots.items c.make_ready.new.slots.items c.in_ok-at.at c.in_ok-at.ensures.ready).0 in
    let put = put_counts c.in_ok-at.at c.args.piece.now.index c.args.piece.now.part.now c.make_ready.new.slots.items c.put_at.new.slots.items c.put_at.result inside c.put_at.ensures.puts (c.in_ok-at.ensures.bounded c.self.invariant) in
    let there = ready_inside c.args.piece.now.place c.args.piece.now.label c.args.piece.now.index c.args.piece.now.part.now c.self.inside.slots.items c.make_ready.new.slots.items c.put_at.new.slots.items c.in_ok-at.at c.put_at.result c.in_ok-at.ensures.ready c.put_at.ensures.puts in
    rw c.remove-whole.ensures.items (remove_counts c.put_at.new.slots.items c.in_ok-at.at there put m)

pub returns-then-not-put_at-clause-keeps : goal.returns-then-not-put_at-clause-keeps
returns-then-not-put_at-clause-keeps c =
    subst (λ (s : List Parts). Keeps c.args.piece.now.place c.args.piece.now.label s c.put_at.new.slots.items) c.self.view_is (
    put_keeps c.args.piece.now.place c.args.piece.now.label c.args.piece.now.index c.args.piece.now.part.now c.self.inside.slots.items c.make_ready.new.slots.items c.put_at.new.slots.items c.in_ok-at.at c.put_at.result
    c.in_ok-at.ensures.ready c.put_at.ensures.puts)

pub returns-clause-keeps : goal.returns-clause-keeps
returns-clause-keeps c =
    subst (λ (s : List Parts). Keeps c.args.piece.now.place c.args.piece.now.label s c.remove-whole.new.self.items) c.self.view_is (
    whole_keeps c.args.piece.now.place c.args.piece.now.label c.args.piece.now.index c.args.piece.now.part.now c.self.inside.slots.items c.make_ready.new.slots.items c.put_at.new.slots.items c.remove-whole.new.self.items c.in_ok-at.at c.put_at.result
    c.in_ok-at.ensures.ready c.put_at.ensures.puts c.remove-whole.ensures.items)

pub invariant_of-self-then-not-put_at : goal.invariant_of-self-then-not-put_at
invariant_of-self-then-not-put_at c = returns-then-not-put_at-clause-bounded c

pub invariant_of-self-2 : goal.invariant_of-self-2
invariant_of-self-2 c = returns-clause-bounded c

pub returns-in_err-at-clause-bounded : goal.returns-in_err-at-clause-bounded
returns-in_err-at-clause-bounded c = c.in_err-at.ensures.bounded c.self.invariant

pub invariant_of-self : goal.invariant_of-self
invariant_of-self c = c.in_err-at.ensures.bounded c.self.invariant
