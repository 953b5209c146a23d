-- What is to be told is, and else nothing.
use Rattle.std.proofs.Common.{◌≡◌, true, codes, sym, subst, ap, ◌∙◌}
use Rattle.plant_log.specs.Skipping.{is_skipping_told}
use Rattle.plant_log.specs.Telling.{TellsIf, WasTold}
use Rattle.plant_log.specs.Words.{folders_text}
use Rattle.plant_log.proofs.Each.{told_so}
use Rattle.plant_log.proofs.told.Told.listed.Goals.{then-is_told, else-is_told}
use Rattle.plant_log.proofs.told.Told.listed.Goals as goal

pub returns-clause-tells : goal.returns-clause-tells
returns-clause-tells g c =
    let text = folders_text (codes "cannot read a name that is not UTF-8") in
    let was = g.E.Write.contents c.args.err.now in
    let is = g.E.Write.contents c.if-is_told.err in
    elim c.if-is_told.branch as (λ _. TellsIf (is_skipping_told c.args.self.now.skipped c.args.names c.args.now ≡ true) text was is) [
      | then-is_told w ↦
          told_so text was is (sym c.is_told.ensures.told ∙ w.if-is_told.true)
          (subst (λ e. WasTold text was (g.E.Write.contents e)) (sym w.err-is) w.tell_folders.ensures)
      | else-is_told w ↦ ((λ yes. let no = w.if-is_told.false in let told = c.is_told.ensures.told in absurd cc), (λ no. ap g.E.Write.contents w.err-is))
    ]
