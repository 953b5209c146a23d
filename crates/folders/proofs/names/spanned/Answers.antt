-- What asks for a range is no request for one number.
use Rattle.std.proofs.Common.{rules}
use Rattle.folders.proofs.SpanNames.{names_no_number}
use Rattle.folders.proofs.names.spanned.Goals as goal

pub returns-then-eq-clause-no_request : goal.returns-then-eq-clause-no_request
returns-then-eq-clause-no_request c = names_no_number c.args.name.now c.in-Some.span (search rules)
