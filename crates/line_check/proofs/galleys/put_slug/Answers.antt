use Rattle.std.proofs.Common.{[], ◌∷◌, ◌++◌}
use Rattle.std.specs.Prelude.{flat_map}
use Rattle.std.proofs.KnownBytes.{Appends-trans}
use Rattle.std.proofs.lemmas.Result.{on_ok_weaker, on_err_weaker}
use Rattle.line_check.specs.Galley.{head_text, sort_text}
use Rattle.streams.proofs.Parts.{at_err, front_of, front_then}
use Rattle.line_check.proofs.galleys.put_slug.Goals as goal

pub returns-in_err-put_head-clause-err : goal.returns-in_err-put_head-clause-err
returns-in_err-put_head-clause-err g c =
    let head = head_text c.args.number c.args.slug.now in
    let sorts = flat_map sort_text c.args.slug.now.items in
    let from = g.W.Write.contents c.args.out.now in
    let to = g.W.Write.contents c.put_head.new.out in
    at_err c.from_residual.result (front_of from to (head ++ sorts) (10 ∷ []) (front_of from to head sorts c.in_err-put_head.ensures.err))

pub returns-in_err-put_sorts-clause-err : goal.returns-in_err-put_sorts-clause-err
returns-in_err-put_sorts-clause-err g c =
    let head = head_text c.args.number c.args.slug.now in
    let sorts = flat_map sort_text c.args.slug.now.items in
    let from = g.W.Write.contents c.args.out.now in
    let mid = g.W.Write.contents c.put_head.new.out in
    let to = g.W.Write.contents c.put_sorts.new.out in
    let some = rw c.as_slice.ensures at c.in_err-put_sorts.ensures.err in
    at_err c.from_residual-in_err-put_sorts.result (front_of from to (head ++ sorts) (10 ∷ []) (front_then from mid to head sorts c.in_ok-put_head.ensures.ok some))

pub returns-clause-ok : goal.returns-clause-ok
returns-clause-ok g c =
    let head = head_text c.args.number c.args.slug.now in
    let sorts = flat_map sort_text c.args.slug.now.items in
    let from = g.W.Write.contents c.args.out.now in
    let mid = g.W.Write.contents c.put_head.new.out in
    let next = g.W.Write.contents c.put_sorts.new.out in
    let to = g.W.Write.contents c.put_all.new.out in
    let all = rw c.as_slice.ensures at c.in_ok-put_sorts.ensures.ok in
    on_ok_weaker c.put_all.result (λ h. Appends-trans from next to (head ++ sorts) (10 ∷ []) (Appends-trans from mid next head sorts c.in_ok-put_head.ensures.ok all) h) c.put_all.ensures.ok

pub returns-clause-err : goal.returns-clause-err
returns-clause-err g c =
    let head = head_text c.args.number c.args.slug.now in
    let sorts = flat_map sort_text c.args.slug.now.items in
    let from = g.W.Write.contents c.args.out.now in
    let mid = g.W.Write.contents c.put_head.new.out in
    let next = g.W.Write.contents c.put_sorts.new.out in
    let to = g.W.Write.contents c.put_all.new.out in
    let all = rw c.as_slice.ensures at c.in_ok-put_sorts.ensures.ok in
    on_err_weaker c.put_all.result (λ h. front_then from next to (head ++ sorts) (10 ∷ []) (Appends-trans from mid next head sorts c.in_ok-put_head.ensures.ok all) h) c.put_all.ensures.err
