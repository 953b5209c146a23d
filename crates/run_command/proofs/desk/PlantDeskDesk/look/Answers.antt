-- What waited was written, it was looked at the offers and seen to what is missing, and then the status was told.
use Rattle.std.proofs.Common.{◌≡◌, ◌∙◌, [], ap, refl, subst, sym}
use Rattle.offers.specs.Rules.{Standing}
use Rattle.run_command.specs.declared.plant.Plant.{Plant}
use Rattle.run_command.specs.Living.{Lived, kept}
use Rattle.run_command.specs.Waiting.{Waiting}
use Rattle.run_command.specs.Working.{Looked}
use Rattle.run_command.proofs.Lives.{looked_through}
use Rattle.run_command.proofs.desk.PlantDeskDesk.look.Goals as goal

pub returns : goal.returns
returns g c =
    let it = c.args.self.now in
    let doings = g.F.Folders.doings in
    let texts = it.plant.now.texts in
    let q = it.plant.now.waits in
    let m = it.plant.now.papers.book in
    let wrote = c.write.new.self in
    let mid = c.write.new.folders in
    let seen = c.look_if_due.new.folders in
    let n = c.look_if_due.new.self.book in
    let last = c.see_to_missing.new.self in
    let end = c.is_over-is_over.new.folders in
    let same : wrote.papers.book ≡ m = ap (λ (p : Plant). p.papers.book) c.write.ensures.rest in
    let looked : Looked (doings mid) (doings seen) m n = subst (λ (b : Standing). Looked (doings mid) (doings seen) b n) same c.look_if_due.ensures in
    let waits : last.waits ≡ wrote.waits = ap (λ (p : Plant). p.waits) c.see_to_missing.ensures.rest in
    let book : last.papers.book ≡ n = ap (λ (p : Plant). p.papers.book) c.see_to_missing.ensures.rest in
    let lived : Lived texts doings (kept it.folders.now q m) (kept end wrote.waits n) [] =
    looked_through texts doings g.F.Folders.refuses it.folders.now mid seen c.see_to_missing.new.folders end q wrote.waits m n c.write.ensures.writes looked
    c.see_to_missing.ensures.looks c.is_over-is_over.ensures in (
      (refl, ap (λ (p : Plant). p.texts) c.see_to_missing.ensures.rest ∙ ap (λ (p : Plant). p.texts) c.write.ensures.rest),
      subst (λ (w : Waiting). Lived texts doings (kept it.folders.now q m) (kept end w last.papers.book) []) (sym waits)
          (subst (λ (b : Standing). Lived texts doings (kept it.folders.now q m) (kept end wrote.waits b) []) (sym book) lived),
    )
