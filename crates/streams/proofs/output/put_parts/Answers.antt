use Rattle.std.proofs.Common.{List, [], ℕ, get_or, refl, Bor}
use Rattle.streams.proofs.Parts.{at_err, stopped_part}
use Rattle.streams.proofs.output.put_parts.Goals as goal

pub returns-in_err-put_all-clause-err : goal.returns-in_err-put_all-clause-err
returns-in_err-put_all-clause-err g c =
    let none : Bor (List ℕ) = record { ref_ptr = (0, 0); now = [] } in
    at_err c.from_residual.result
    (stopped_part (λ (part : Bor (List ℕ)). part.now) c.args.parts.now c.loop-part.part-index none (get_or c.args.parts.now c.loop-part.part-index none)
    (g.W.Write.contents c.args.out.now) (g.W.Write.contents c.loop-part.out) (g.W.Write.contents c.put_all.new.out)
    c.loop-part-test.true refl c.loop-part.invariant c.in_err-put_all.ensures.err)
