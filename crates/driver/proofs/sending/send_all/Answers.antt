-- One more is sent, behind those before it.
use Rattle.std.proofs.Common.{rules, ◌≡◌, ◌<◌, ◌+◌, ℕ, List, [], ◌∷◌, ◌++◌, length, take, get_or, map, sym, subst, ap, ◌∙◌}
use Rattle.std.proofs.lemmas.List.{map_more}
use Rattle.protocol.specs.Circuit.{Datagram}
use Rattle.wire.specs.Passing.{Passed, Passes, Trace, sent}
use Rattle.wire.proofs.Passing.{Passes-then}
use Rattle.driver.specs.Events.{sending}
use Rattle.driver.proofs.sending.send_all.Goals as goal

abbrev sent_as : Datagram → Passed
sent_as d = sent d.to d.bytes

one_more : {N : Type 0} (passed : N → Trace) (was mid is : N) (out : List Datagram) (i : ℕ) (d : Datagram) → i < length out → d ≡ get_or out i d
    → Passes (passed was) (passed mid) (sending (take i out)) → Passes (passed mid) (passed is) (sent d.to d.bytes ∷ []) → Passes (passed was) (passed is) (sending (take (i + 1) out))
one_more passed was mid is out i d low at before p =
    subst (λ (l : List Passed). Passes (passed was) (passed is) l)
    (sym (map_more sent_as out i d low ∙ ap (λ (x : Datagram). map sent_as (take i out) ++ sent_as x ∷ []) (sym at)))
    (Passes-then (passed was) (passed mid) (passed is) (sending (take i out)) (sent d.to d.bytes ∷ []) before p)

pub loop-datagram-preserved : goal.loop-datagram-preserved
loop-datagram-preserved g c =
    let d = c.datagram-item.result in
    let same : sent c.to.result c.bytes.result.now ≡ sent_as d = search rules in
    one_more g.N.Wire.passed c.args.wire.now c.loop-datagram.wire c.send_bytes.new.wire c.args.out.now c.loop-datagram.datagram-index d
    c.loop-datagram-test.true c.datagram-item.is c.loop-datagram.invariant
    (subst (λ (x : Passed). Passes (g.N.Wire.passed c.loop-datagram.wire) (g.N.Wire.passed c.send_bytes.new.wire) (x ∷ [])) same c.send_bytes.ensures)
