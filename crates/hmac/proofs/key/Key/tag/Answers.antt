use Rattle.std.proofs.Common.{◌++◌, List, ℕ, ap, ◌∙◌}
use Rattle.sha2.specs.Sha256.{sha256}
use Rattle.hmac.specs.Hmac.{hmac_of_block, masked}
use Rattle.hmac.proofs.key.Key.tag.Goals as goal

pub returns : goal.returns
unfolding hmac_of_block
returns c =
    let block = c.self.inside.block in
    let fed = c.update.ensures (masked 0x36 block) (rw c.again-inner.ensures c.self.invariant.0) in
    let digest = c.finalize-digest.ensures (masked 0x36 block ++ c.args.message.now) fed in
    let fed_outer = c.update-2.ensures (masked 0x5c block) (rw c.again-outer.ensures c.self.invariant.1) in
    c.finalize.ensures _ fed_outer
    ∙ ap (λ (d : List ℕ). sha256 (masked 0x5c block ++ d)) digest
    ∙ ap (λ (b : List ℕ). hmac_of_block b c.args.message.now) c.self.view_is
