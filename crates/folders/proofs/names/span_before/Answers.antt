-- A name that is a range's very name is cut round its dash.
use Rattle.std.proofs.Common.{◌++◌, ◌∷◌, ◌∙◌, codes, decimal, arith}
use Rattle.std.proofs.lemmas.Str.Pattern.{split_after}
use Rattle.folders.specs.Spans.{end_text}
use Rattle.folders.proofs.NameEnds.{rest_is}
use Rattle.folders.proofs.SpanNames.{ends_with_seek, no_dash_before}
use Rattle.folders.proofs.names.span_before.Goals as goal

pub returns-in_err-ends-clause-all : goal.returns-in_err-ends-clause-all
returns-in_err-ends-clause-all c = λ s is. absurd (c.in_err-ends.ensures.cases (decimal s.first ++ 45 ∷ end_text s.last) (is.1 ∙ ends_with_seek s))

pub returns-in_err-front-clause-all : goal.returns-in_err-front-clause-all
returns-in_err-front-clause-all c = λ s is.
    let ends = rest_is (codes ".seek") c.args.name.now c.in_ok-ends.ends.now (decimal s.first ++ 45 ∷ end_text s.last) c.in_ok-ends.ensures.cases (is.1 ∙ ends_with_seek s) in
    let cut = split_after 45 c.in_ok-ends.ends.now (decimal s.first) (end_text s.last) c.split_once.result c.split_once.ensures.cases (omega arith) ends (no_dash_before s is.0) in
    absurd (rw c.in_err-front.was at cut)

pub returns-clause-all : goal.returns-clause-all
returns-clause-all c = λ s is.
    let ends = rest_is (codes ".seek") c.args.name.now c.in_ok-ends.ends.now (decimal s.first ++ 45 ∷ end_text s.last) c.in_ok-ends.ensures.cases (is.1 ∙ ends_with_seek s) in
    let cut = split_after 45 c.in_ok-ends.ends.now (decimal s.first) (end_text s.last) c.split_once.result c.split_once.ensures.cases (omega arith) ends (no_dash_before s is.0) in
    let parts = rw c.in_ok-front.was at cut in
    c.span_between.ensures.all s is.0 parts.0 parts.1
