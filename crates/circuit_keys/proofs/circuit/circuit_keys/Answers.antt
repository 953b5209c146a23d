use Rattle.std.proofs.Common.{List, ℕ, ap, ◌∙◌}
use Rattle.std.specs.Prelude.{option_map}
use Rattle.hmac.specs.Hmac.{key_block, hmac_sha256}
use Rattle.circuit_keys.proofs.circuit.circuit_keys.Goals as goal

pub returns-clause-second : goal.returns-clause-second
returns-clause-second c =
    c.key_for_any.ensures
    ∙ ap (λ (t : List ℕ). option_map (λ (key : List ℕ). key_block (hmac_sha256 key t)) c.args.shared.now.second) (c.deref-2.ensures.value ∙ c.in_ok-text.ensures)
