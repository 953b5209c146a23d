use Rattle.std.proofs.Common.{◌≡◌, ◌+◌, arith}
use Rattle.line_check.specs.Slugs.{least_width}
use Rattle.line_check.proofs.Spread.{items_kept, quads_line}
use Rattle.line_check.proofs.line.quadded.Goals as goal

pub returns-clause-slug : goal.returns-clause-slug
returns-clause-slug c =
    let widths = c.args.widths.now in
    let line = c.args.items.now in
    let whole : c.sides-left.result.0 + c.sides-left.result.1 + least_width widths line ≡ widths.measure = omega (arith, c.sides-left.ensures.whole, c.requires) in
    rw (c.in_ok-items.ensures, c.band_min.ensures.value, c.kind_of.ensures)
    (items_kept widths.band_min 0 line, quads_line widths line c.args.margin.quad c.sides-left.result.0 c.sides-left.result.1 whole c.sides-left.ensures.stands)
