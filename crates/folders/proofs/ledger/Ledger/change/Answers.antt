-- The records of all that wait are added behind the whole ones.
use Rattle.std.proofs.Common.{rules, ◌≡◌, ◌≤◌, ◌++◌, ℕ, List, [], length, take, sym, ap, subst, ◌∙◌}
use Rattle.gone_out.specs.Origins.{IsOrigin}
use Rattle.gone_out.specs.Files.{IsNumber, records, whole_part}
use Rattle.gone_out.specs.Laws.{IsAmong}
use Rattle.folders.specs.GoneOut.{IsFileOf, added_all}
use Rattle.folders.proofs.Ledgers.{adds_all}
use Rattle.folders.proofs.ledger.Ledger.change.Goals as goal

pub returns : goal.returns
returns c = λ bytes len but.
    let o = c.args.own.now in
    let waiting = c.args.self.now.waiting.items in
    let origin : IsOrigin o = c.is_station.ensures in
    let long : 16 ≤ c.args.len = search rules in
    let some : ¬ (waiting ≡ []) = search rules in
    let place : c.whole_len.result ≡ whole_part (length bytes) = c.whole_len.ensures ∙ ap whole_part (sym len) in
    let written : c.in_ok-records_of.field-0.items ≡ records o waiting = search rules in
    let same : take c.whole_len.result bytes ++ c.in_ok-records_of.field-0.items ≡ added_all o bytes waiting =
    ap (λ (n : ℕ). take n bytes ++ c.in_ok-records_of.field-0.items) place ∙ ap (λ (l : List ℕ). take (whole_part (length bytes)) bytes ++ l) written in
    let list : c.deref.result.now ≡ waiting = search rules in
    let numbers : (n : ℕ) → IsAmong waiting n → IsNumber n = λ n is. c.in_ok-records_of.ensures.numbers n (subst (λ (l : List ℕ). IsAmong l n) (sym list) is) in
    subst (λ (l : List ℕ). IsFileOf o c.args.self.now.numbers l) (sym same)
    (adds_all c.adds_one.ensures o origin c.args.self.now.numbers bytes waiting some (subst (λ (n : ℕ). 16 ≤ n) (sym len) long) numbers (but long))
