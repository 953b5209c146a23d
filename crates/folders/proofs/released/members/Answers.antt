-- One value after the other was looked for.
use Rattle.std.proofs.Common.{rules, arith, ◌≡◌, ◌≤◌, ◌⊎◌, inl, inr}
use Rattle.std.specs.Prelude.{IsTrue}
use Rattle.std.proofs.lemmas.Bool.{cases_eq}
use Rattle.gone_out.specs.Files.{IsNumber}
use Rattle.gone_out.specs.Laws.{IsAmong}
use Rattle.gone_out.specs.Numbers.{has}
use Rattle.folders.proofs.released.members.Goals as goal

pub loop-value-preserved : goal.loop-value-preserved
loop-value-preserved c = λ n.
    let v = c.loop-value.value in
    let step = c.in_ok-push_member.ensures n in
    let before = c.loop-value.invariant n in (
      λ is. elim (step.0 is) [
        | inl was ↦ let h = before.0 was in (h.0, (let l = h.1 in omega (arith, l)), h.2)
        | inr new ↦ (new.1, (let e = new.0 in omega (arith, e)), new.2)
      ],
      λ is. step.1 (elim (cases_eq n v) as (λ _. IsAmong c.loop-value.list.items n ⊎ ((n ≡ v) × IsNumber n × IsTrue (has c.args.numbers.now n))) [
        | inl same ↦ inr (same, is.0, is.2)
        | inr apart ↦ inl (before.1 (is.0, (let l = is.1 in omega (arith, l, apart)), is.2))
      ]),
    )

pub returns : goal.returns
returns c = λ n.
    let all : 1000000 ≤ c.loop-value.value = search rules in
    let before = c.loop-value.invariant n in (
      λ is. let h = before.0 is in (h.0, h.2),
      λ is. before.1 (is.0, (let high = is.0.1 in omega (arith, all, high)), is.1),
    )
