use Rattle.std.proofs.Common.{◌≡◌, ◌∙◌, ◌+◌, ◌++◌, ◌∷◌, map, suc, sym, refl, drop, ap, arith, length-append}
use Rattle.offers.specs.Order.{rank, rising_from}
use Rattle.offers.specs.Looks.{seen, looked}
use Rattle.offers.proofs.Looking.{seen_from, left, taken, passed}
use Rattle.offers.proofs.Merging.{rises, rises_from, from_same, from_from}
use Rattle.offers.proofs.look.merge.Goals as goal
use Rattle.offers.proofs.look.merge.Goals.{then-low-place, else-low-place}

pub loop-each-init : goal.loop-each-init
loop-each-init c = record {
  known = c.requires.rises;
  rest = sym (from_same 0 c.args.known.items c.requires.rises);
  done = rw c.requires.empty refl;
  few = rw c.requires.empty (omega arith);
  room = c.requires.room;
}

pub meet-requires : goal.meet-requires
meet-requires c = rw c.loop-each.invariant.rest (rises c.loop-each.low _ (rises_from c.loop-each.low 0 c.args.known.items c.requires.rises))

pub loop-each-preserved : goal.loop-each-preserved
loop-each-preserved c =
    let known = c.args.known.items in
    let low = c.loop-each.low in
    let f = c.each-item.result in
    let later = drop (c.loop-each.each-index + 1) c.args.found.now in
    let g = seen known c.args.now in
    let before = c.loop-each.invariant in
    let open_up : rising_from low (drop c.loop-each.each-index c.args.found.now) ≡ rising_from low (f ∷ later) = ap (rising_from low) (left c.args.found.now c.loop-each.each-index f c.loop-each-test.true c.each-item.is) in
    let all : looked known c.args.now c.args.found.now ≡ c.loop-each.files.items ++ map g (rising_from low (f ∷ later)) = before.done ∙ ap (λ xs. c.loop-each.files.items ++ map g xs) open_up in
    elim c.if-low-place.branch [
      | then-low-place w ↦
          let next : c.if-low-place.low ≡ suc (rank f.request) = omega arith in
          let nested = from_from low (suc (rank f.request)) known (omega arith) in
          let met : w.meet.result ≡ g f = w.meet.ensures.file ∙ ap (λ xs. seen xs c.args.now f) before.rest ∙ seen_from low known c.args.now f (omega arith) in
          record {
            known = before.known;
            rest = cc;
            done = rw (w.files-is, w.push_reserved.ensures.items, met, next) (taken low g f later _ _ (omega arith) all);
            few = rw (w.files-is, w.push_reserved.ensures.items, length-append) (omega arith);
            room = rw (w.files-is, w.push_reserved.ensures.capacity) before.room;
          }
      | else-low-place w ↦
          record {
            known = before.known;
            rest = cc;
            done = rw (w.files-is, w.low-is) (passed low g f later _ _ (omega arith) all);
            few = rw w.files-is (omega arith);
            room = rw w.files-is before.room;
          }
    ]
