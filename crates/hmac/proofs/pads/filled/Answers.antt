use Rattle.std.proofs.Common.{◌≡◌, ◌-◌, ◌+◌, drop, replicate, arith, ap, sym, ◌∙◌, List, [], ◌∷◌, ◌++◌, get_or, ℕ}
use Rattle.std.proofs.lemmas.List.{length-set, take_more, take_more_set, drop-set-lt, drop-replicate, drop-drop}
use Rattle.hmac.proofs.pads.filled.Goals as goal

pub bytes-preserved : goal.bytes-preserved
bytes-preserved c =
    let len = c.bytes.invariant.0 in
    let i = c.bytes.i in
    let less : 64 - i - 1 ≡ 64 - (i + 1) = omega arith in
    let byte = get_or c.args.bytes.now c.bytes.i 0 in (
      length-set _ _ _ ∙ len,
      take_more_set c.bytes.block i byte (omega arith) ∙ ap (λ (l : List ℕ). l ++ byte ∷ []) c.bytes.invariant.1
          ∙ sym (take_more c.args.bytes.now i 0 (omega arith)),
      drop-set-lt (i + 1) c.bytes.block i byte (omega arith) ∙ sym (drop-drop 1 i c.bytes.block) ∙ ap (λ (l : List ℕ). drop 1 l) c.bytes.invariant.2
          ∙ drop-replicate 1 (64 - i) 0 ∙ ap (λ (n : ℕ). replicate n 0) less,
    )
