-- What the pieces of one packet give.
use Rattle.std.proofs.Common.{ℕ, List, [], Vec, Global, Option, subst, sym, arith}
use Rattle.std.specs.Prelude.{option_map}
use Rattle.seals.specs.Opening.{IsPart}
use Rattle.seals.specs.declared.opening.Piece.{Piece}
use Rattle.seals.specs.Parts.{Parts}
use Rattle.seals.specs.Places.{Gathers}
use Rattle.whole_packets.proofs.Runs.{AllCame, none_came, one_more, gives_last, gives_none}
use Rattle.whole_packets.proofs.orders.gather_all.Goals as goal

pub loop-piece-init : goal.loop-piece-init
loop-piece-init c = subst (λ (s : List Parts). AllCame c.args.keys.now c.args.pieces.now [] s) (sym c.new-gathering.ensures) (none_came c.args.keys.now c.args.pieces.now)

pub returns-in-Some : goal.returns-in-Some
returns-in-Some c =
    let p = c.piece-item.result in
    let gathers = subst (λ (o : Option (Vec ℕ Global)). Gathers c.args.keys.now p.place p.label p.index p.part.now c.loop-piece.gathering c.push.new.self (option_map (λ (v : Vec ℕ Global). v.items) o)) c.in-Some.is c.in_ok-taken.ensures.gathers in
    gives_last c.args.keys.now c.args.pieces.now c.loop-piece.piece-index p c.loop-piece.gathering c.push.new.self c.in-Some.packet.items (omega arith) c.piece-item.is gathers c.loop-piece.invariant

pub loop-piece-preserved : goal.loop-piece-preserved
loop-piece-preserved c =
    let p = c.piece-item.result in
    let is = subst (λ (q : Piece). IsPart q.label q.index q.part.now) (sym c.piece-item.is) (c.requires c.loop-piece.piece-index p (omega arith)) in
    let gathers = subst (λ (o : Option (Vec ℕ Global)). Gathers c.args.keys.now p.place p.label p.index p.part.now c.loop-piece.gathering c.push.new.self (option_map (λ (v : Vec ℕ Global). v.items) o)) c.in_default.is c.in_ok-taken.ensures.gathers in
    one_more c.args.keys.now c.args.pieces.now c.loop-piece.piece-index p c.loop-piece.gathering c.push.new.self (omega arith) c.piece-item.is is gathers c.loop-piece.invariant

pub returns : goal.returns
returns c = gives_none c.args.keys.now c.args.pieces.now c.loop-piece.piece-index c.loop-piece.gathering (omega arith) c.loop-piece.invariant
