-- Digits that are a number's are read as it.
use Rattle.std.proofs.Common.{rules, ◌≡◌, Ok, arith}
use Rattle.folders.proofs.NameEnds.{reads}
use Rattle.folders.proofs.names.number_of.Goals as goal

pub returns-in_err-ok : goal.returns-in_err-ok
returns-in_err-ok c = λ n low high is.
    let read : c.parse.result ≡ Ok n = reads n c.args.digits.now c.parse.result high is c.parse.ensures.value.0 in
    absurd (search rules)

pub returns : goal.returns
returns c = λ n low high is.
    let read : c.parse.result ≡ Ok n = reads n c.args.digits.now c.parse.result high is c.parse.ensures.value.0 in
    grind arith
