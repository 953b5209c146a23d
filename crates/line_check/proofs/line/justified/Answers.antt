use Rattle.std.proofs.Common.{◌≡◌, ◌-◌, refl}
use Rattle.std.proofs.lemmas.Bool.{le-ltb}
use Rattle.line_check.specs.Slugs.{fixed_of, greatest_width}
use Rattle.line_check.proofs.Spread.{items_kept, justifies}
use Rattle.line_check.proofs.line.justified.Goals as goal

pub returns-clause-slug : goal.returns-clause-slug
returns-clause-slug c =
    let widths = c.args.widths.now in
    let line = c.args.items.now in
    let most = rw (c.from-measure.ensures, c.measure.ensures.value, c.requires.fixed.0, c.requires.bands.0, c.from.ensures, c.band_max.ensures.value) at c.if-greatest-measure.false in
    let whole = rw (c.requires.bands.0) at c.share-width.ensures.whole in
    let less = rw (c.requires.bands.0) at c.share-width.ensures.less in
    let rest : c.from-measure.result - c.args.tally.fixed ≡ widths.measure - fixed_of line = rw (c.from-measure.ensures, c.measure.ensures.value, c.requires.fixed.0) refl in
    rw c.in_ok-items.ensures (
      rw (le-ltb (greatest_width widths line) widths.measure most) refl,
      items_kept c.share-width.result.0 c.share-width.result.1 line,
      justifies widths line c.share-width.result.0 c.share-width.result.1 (c.from-measure.result - c.args.tally.fixed) c.requires.fits most rest whole less,
    )
