use Rattle.draw_command.proofs.ChartEnds.{written}
use Rattle.draw_command.proofs.charting.charted.Goals as goal

pub returns : goal.returns
returns g c =
    written _ c.in_ok-text.text.items c.put_text.result _ _ c.in_ok-text.ensures.ok (rw c.deref.ensures.value at c.put_text.ensures.ok)
    (rw c.deref.ensures.value at c.put_text.ensures.err)
