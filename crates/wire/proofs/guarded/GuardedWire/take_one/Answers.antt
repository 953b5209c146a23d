-- What the door brings of a datagram that came.
use Rattle.std.proofs.Common.{◌≡◌, ◌≤◌, ℕ, List, length, take, subst, sym, arith}
use Rattle.std.proofs.lemmas.Grind.{common_steps}
use Rattle.wire.specs.Doors.{BringsOnly, LetIn}
use Rattle.wire.proofs.Guarding.{kept_stays}
use Rattle.wire.proofs.Staying.{brought_in, let_in_alike, stays_alike, stays_then}
use Rattle.wire.proofs.guarded.GuardedWire.take_one.Given.{Over}
use Rattle.wire.proofs.guarded.GuardedWire.take_one.Goals as goal

-- the door is shown the room that the socket filled
filled : (g : Over) (c : goal.After-keep g) → c.deref.result.now ≡ c.receive_from.new.room
filled g c = grind (arith, common_steps)

pub returns : goal.returns
returns g c =
    let old = c.args.self.now in
    let came = g.S.Socket.came old.socket in
    let was = g.D.Door.brings old.door in
    let is = g.D.Door.brings c.admit-brought.new.self in
    let bytes = take c.in_ok-length.length c.deref.result.now in
    let it : (c.in_ok-length.length ≤ length c.receive_from.new.room) × came c.in_ok-length.sender (take c.in_ok-length.length c.receive_from.new.room) = c.in_ok-length.ensures in
    let came_in : came c.in_ok-length.sender bytes =
    subst (λ (room : List ℕ). came c.in_ok-length.sender (take c.in_ok-length.length room)) (sym (filled g c)) it.1 in
    let brought : BringsOnly (LetIn came is) c.admit-brought.result = brought_in came is c.in_ok-length.sender bytes c.admit-brought.result came_in c.admit-brought.ensures.brings in
    record {
      keeps =
          stays_then (LetIn came was) (LetIn came is) (LetIn came is) old.waiting old.waiting c.keep.new.waiting
          (stays_alike (LetIn came was) (LetIn came is) old.waiting (let_in_alike came was is c.admit-brought.ensures.alike))
          (kept_stays (LetIn came is) c.admit-brought.result c.in_ok-length.sender old.waiting old.untold.tallies c.keep.new.waiting c.keep.new.untold.tallies brought c.keep.ensures);
    }
