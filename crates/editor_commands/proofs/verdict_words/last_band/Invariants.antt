use Rattle.std.proofs.Common.{◌≡◌, take}
use Rattle.slug_reader.specs.Positions.{last}
use Rattle.line_check.specs.Slugs.{band_width}
use Rattle.editor_commands.proofs.verdict_words.last_band.Given as goal

abbrev pub invariant-loop-sort : goal.invariant-loop-sort
invariant-loop-sort l = l.found ≡ last band_width (take l.sort-index l.sorts)
