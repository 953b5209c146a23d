-- One number after the other was noted.
use Rattle.std.proofs.Common.{rules, ◌≡◌, ◌<◌, ◌≤◌, ◌⊎◌, inl, inr, ℕ, List, length, get_or, sym, subst, ◌∙◌}
use Rattle.std.specs.Prelude.{◌↔◌, IsTrue}
use Rattle.std.proofs.lemmas.Grind.{get_or_default_zero}
use Rattle.std.proofs.lemmas.List.{take_all}
use Rattle.gone_out.specs.Laws.{IsAmong}
use Rattle.gone_out.specs.Numbers.{has}
use Rattle.folders.proofs.Among.{among_more}
use Rattle.folders.proofs.ledger.Ledger.note.Goals as goal

pub returns-in_err-note_one : goal.returns-in_err-note_one
returns-in_err-note_one c = record { known = search rules; kept = λ o bytes but. c.in_err-note_one.ensures.kept o bytes (c.loop-number.invariant.kept o bytes but) }

pub loop-number-preserved : goal.loop-number-preserved
loop-number-preserved c =
    let ns = c.args.numbers.now in
    let i = c.loop-number.number-index in
    let within : i < length ns = search rules in
    let item : c.number-item.result ≡ get_or ns i 0 = c.number-item.is ∙ get_or_default_zero ns i c.number-item.result within in
    record {
      known = λ n.
          let step = c.in_ok-note_one.ensures.known n in
          let before = c.loop-number.invariant.known n in
          let more = among_more ns i n within in (
            λ is. elim (step.0 is) [
              | inl was ↦ elim (before.0 was) [
                | inl old ↦ inl old
                | inr among ↦ inr (more.1 (inl among))
              ]
              | inr same ↦ inr (more.1 (inr (same ∙ item)))
            ],
            λ either. step.1 (elim either as (λ _. IsTrue (has c.loop-number.self.numbers n) ⊎ (n ≡ c.number-item.result)) [
              | inl old ↦ inl (before.1 (inl old))
              | inr among ↦ elim (more.0 among) [
                | inl earlier ↦ inl (before.1 (inr earlier))
                | inr same ↦ inr (same ∙ sym item)
              ]
            ]),
          );
      kept = λ o bytes but. c.in_ok-note_one.ensures.kept o bytes (c.loop-number.invariant.kept o bytes but);
    }

pub returns : goal.returns
returns c =
    let ns = c.args.numbers.now in
    let past : length ns ≤ c.loop-number.number-index = search rules in
    record {
      known = λ n.
          subst (λ (l : List ℕ). IsTrue (has c.loop-number.self.numbers n) ↔ (IsTrue (has c.args.self.now.numbers n) ⊎ IsAmong l n)) (take_all c.loop-number.number-index ns past)
          (c.loop-number.invariant.known n);
      kept = c.loop-number.invariant.kept;
    }
