-- The line names the ranges of the set.
use Rattle.std.proofs.Common.{string_bytes}
use Rattle.gone_out.specs.Numbers.{how_many}
use Rattle.catch_up_log.proofs.Told.{set_told, has_some}
use Rattle.catch_up_log.proofs.missing.tell_missing.Goals as goal

pub returns-in-Ok : goal.returns-in-Ok
returns-in-Ok g c = (
  λ some. set_told c.args.missing.now (string_bytes c.in-Ok.text) (g.E.Write.contents c.args.err.now) (g.E.Write.contents c.tell_line.new.err) c.in-Ok.ensures
      (rw (c.len-count.ensures, c.as_str-names.ensures.value) at c.tell_line.ensures),
  λ none. absurd (has_some (how_many c.args.missing.now) c.is_empty.result c.is_empty.ensures c.if-is_empty.false none),
)
