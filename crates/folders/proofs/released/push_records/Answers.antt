-- One record after the other was added.
use Rattle.std.proofs.Common.{rules, inl, inr, ◌≡◌, ◌<◌, ◌≤◌, ◌++◌, ℕ, List, length, get_or, take, sym, ap, subst, ◌∙◌, append_assoc}
use Rattle.std.proofs.lemmas.Grind.{get_or_default_zero}
use Rattle.std.proofs.lemmas.List.{take_all}
use Rattle.gone_out.specs.Files.{IsNumber, record_bytes, records}
use Rattle.gone_out.specs.Laws.{IsAmong}
use Rattle.folders.proofs.Among.{among_more, records_more}
use Rattle.folders.proofs.released.push_records.Goals as goal

pub loop-number-preserved : goal.loop-number-preserved
loop-number-preserved c =
    let ns = c.args.numbers.now in
    let i = c.loop-number.number-index in
    let o = c.args.own.now in
    let within : i < length ns = search rules in
    let item : c.number-item.result ≡ get_or ns i 0 = c.number-item.is ∙ get_or_default_zero ns i c.number-item.result within in
    record {
      bytes = c.in_ok-push_record.ensures.ok
          ∙ ap (λ (l : List ℕ). l ++ record_bytes o c.number-item.result) c.loop-number.invariant.bytes
          ∙ ap (λ (n : ℕ). (c.args.bytes.now.items ++ records o (take i ns)) ++ record_bytes o n) item
          ∙ append_assoc c.args.bytes.now.items (records o (take i ns)) (record_bytes o (get_or ns i 0))
          ∙ ap (λ (l : List ℕ). c.args.bytes.now.items ++ l) (sym (records_more o ns i within));
      numbers = λ n is. elim ((among_more ns i n within).0 is) [
        | inl earlier ↦ c.loop-number.invariant.numbers n earlier
        | inr same ↦ subst (λ (m : ℕ). IsNumber m) (item ∙ sym same) c.in_ok-push_record.ensures.number
      ];
    }

pub returns-clause-numbers : goal.returns-clause-numbers
returns-clause-numbers c = λ n is.
    let ns = c.args.numbers.now in
    let past : length ns ≤ c.loop-number.number-index = search rules in
    c.loop-number.invariant.numbers n (subst (λ (l : List ℕ). IsAmong l n) (sym (take_all c.loop-number.number-index ns past)) is)
