use Rattle.std.proofs.Common.{◌≡◌, ◌∙◌}
use Rattle.std.proofs.lemmas.Result.{err_from_is_err_and}
use Rattle.editor_commands.specs.Report.{report_text}
use Rattle.editor_commands.proofs.FitEnds.{report_broken, report_whole}
use Rattle.editor_commands.proofs.fitting.put_report.Goals as goal

pub returns-in_err-put_whole-clause-err : goal.returns-in_err-put_whole-clause-err
returns-in_err-put_whole-clause-err g c =
    let text : c.deref.result.now ≡ report_text c.args.setting.now.widths.measure c.in_ok-fitting.fitting = c.deref.ensures.value ∙ rw (← c.measure.ensures.value) c.in_ok-text.ensures in
    let p = err_from_is_err_and c.from_residual-in_err-put_whole.result c.from_residual-in_err-put_whole.ensures.1 in
    rw (p.1, p.2) (report_broken _ _ c.in_ok-fitting.fitting c.deref.result.now _ _ _ c.in_ok-fitting.ensures.fits c.in_ok-fitting.ensures.first text c.in_err-put_whole.ensures.err)

pub returns-clause-ok : goal.returns-clause-ok
returns-clause-ok g c =
    let text : c.deref.result.now ≡ report_text c.args.setting.now.widths.measure c.in_ok-fitting.fitting = c.deref.ensures.value ∙ rw (← c.measure.ensures.value) c.in_ok-text.ensures in
    report_whole _ _ c.in_ok-fitting.fitting c.deref.result.now _ _ _ c.in_ok-fitting.ensures.fits c.in_ok-fitting.ensures.first text c.faults_in.ensures c.in_ok-put_whole.ensures.ok
