-- With no last number nothing stands behind the dash.
use Rattle.std.proofs.Common.{rules, ◌≡◌, ◌++◌, ℕ, Option, codes, decimal, ap}
use Rattle.folders.specs.Spans.{end_text, span_name}
use Rattle.folders.proofs.names.span_name.Goals as goal

pub returns-in-None : goal.returns-in-None
returns-in-None c =
    let none : span_name c.args.span.now ≡ decimal c.args.span.now.first ++ codes "-.seek" =
    ap (λ (l : Option ℕ). decimal c.args.span.now.first ++ (codes "-" ++ (end_text l ++ codes ".seek"))) c.in-None.is in
    search rules
