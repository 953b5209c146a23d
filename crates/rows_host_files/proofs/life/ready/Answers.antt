use Rattle.std.proofs.Common.{inl, inr, subst}
use Rattle.std.proofs.lemmas.Result.{IfOk-weaker}
use Rattle.sqlite.specs.Files.{image_of}
use Rattle.rows_host_files.specs.Living.{BeginsLife, WasMarked}
use Rattle.rows_host_files.proofs.LifeLemmas.{same_image, still_synced}
use Rattle.rows_host_files.proofs.life.ready.Goals as goal

pub returns-in-Unmarkable : goal.returns-in-Unmarkable
returns-in-Unmarkable g c =
    let h = g.D.Disk in
    let looked = c.mark_on.new.files in
    λ synced. inr (inr (record { file = c.in_ok-mark_on.ensures.unmarkable c.in-Unmarkable.is; same = same_image h c.args.files looked c.mark_on.ensures.unwritten }))

pub returns-in-AtRest : goal.returns-in-AtRest
returns-in-AtRest g c =
    let h = g.D.Disk in
    let looked = c.mark_on.new.files in
    let same = same_image h c.args.files looked c.mark_on.ensures.unwritten in
    λ synced. IfOk-weaker c.begun.result _ _ (λ files is. inl (subst (λ i. BeginsLife h i files) same is)) (c.begun.ensures (still_synced h c.args.files looked c.mark_on.ensures.unwritten synced))

pub returns-in_ok-files-in-Unmarked : goal.returns-in_ok-files-in-Unmarked
returns-in_ok-files-in-Unmarked g c =
    let h = g.D.Disk in
    let looked = c.mark_on.new.files in
    let same = same_image h c.args.files looked c.mark_on.ensures.unwritten in
    let marked = c.in_ok-files-in-Unmarked.files in
    λ synced. IfOk-weaker c.begun-in-Unmarked.result _ _
    (λ files is. inr (inl (image_of h marked, subst (λ i. WasMarked h i c.args.given (image_of h marked)) same c.in_ok-files-in-Unmarked.ensures.marked, is)))
    (c.begun-in-Unmarked.ensures c.in_ok-files-in-Unmarked.ensures.synced)
