-- The number of a name that is its file's very name is read.
use Rattle.std.proofs.Common.{rules, ◌≡◌, ◌++◌, ◌∙◌, List, ℕ, Ok, decimal, ap, sym, arith}
use Rattle.folders.proofs.NameEnds.{rest_is, reads}
use Rattle.folders.proofs.names.number_before.Goals as goal

pub returns-in_err-ok : goal.returns-in_err-ok
returns-in_err-ok c = λ n low high is.
    let named : c.args.name.now ≡ decimal n ++ c.kind_word.result.now = is ∙ ap (λ (w : List ℕ). decimal n ++ w) (sym c.kind_word.ensures) in
    let rest : c.in_ok-digits.digits.now ≡ decimal n = rest_is c.kind_word.result.now c.args.name.now c.in_ok-digits.digits.now (decimal n) c.in_ok-digits.ensures.cases named in
    let read : c.parse.result ≡ Ok n = reads n c.in_ok-digits.digits.now c.parse.result high rest c.parse.ensures.value.0 in
    absurd (search rules)

pub returns : goal.returns
returns c = λ n low high is.
    let named : c.args.name.now ≡ decimal n ++ c.kind_word.result.now = is ∙ ap (λ (w : List ℕ). decimal n ++ w) (sym c.kind_word.ensures) in
    let rest : c.in_ok-digits.digits.now ≡ decimal n = rest_is c.kind_word.result.now c.args.name.now c.in_ok-digits.digits.now (decimal n) c.in_ok-digits.ensures.cases named in
    let read : c.parse.result ≡ Ok n = reads n c.in_ok-digits.digits.now c.parse.result high rest c.parse.ensures.value.0 in
    grind arith
