use Rattle.std.proofs.Common.{rules, ◌≡◌, string_bytes}
use Rattle.looks.specs.Names.{name_of, IsStray}
use Rattle.looks.proofs.Taking.{takes_request, takes_stray, then_ok}
use Rattle.looks.proofs.gathering.LookFindings.put.Goals as goal

pub returns-in-Some-clause-ok : goal.returns-in-Some-clause-ok
returns-in-Some-clause-ok c =
    let own : string_bytes c.args.file.name ≡ name_of c.in-Some.request = search rules in
    then_ok c.put_request.result c.put_request.ensures.ok (λ puts whole. takes_request c.args.file c.in-Some.request c.args.self.now c.put_request.new.self own puts whole)

pub returns-in-None-2-clause-ok : goal.returns-in-None-2-clause-ok
returns-in-None-2-clause-ok c =
    let own : IsStray (string_bytes c.args.file.name) = search rules in
    then_ok c.put_stray.result c.put_stray.ensures.ok (λ puts whole. takes_stray c.args.file c.args.self.now c.put_stray.new.self own puts whole)
