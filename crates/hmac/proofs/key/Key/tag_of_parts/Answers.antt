use Rattle.std.proofs.Common.{◌++◌, List, ℕ, ap, ◌∙◌, append_assoc}
use Rattle.sha2.specs.Sha256.{sha256}
use Rattle.hmac.specs.Hmac.{hmac_of_block, masked}
use Rattle.hmac.proofs.key.Key.tag_of_parts.Goals as goal

pub returns : goal.returns
unfolding hmac_of_block
returns c =
    let block = c.self.inside.block in
    let fed = c.update.ensures (masked 0x36 block) (rw c.again-inner.ensures c.self.invariant.0) in
    let fed_more = c.update-2.ensures _ fed in
    let digest = c.finalize-digest.ensures _ fed_more in
    let fed_outer = c.update-3.ensures (masked 0x5c block) (rw c.again-outer.ensures c.self.invariant.1) in
    c.finalize.ensures _ fed_outer
    ∙ ap (λ (d : List ℕ). sha256 (masked 0x5c block ++ d)) (digest ∙ ap sha256 (append_assoc (masked 0x36 block) c.args.first.now c.args.second.now))
    ∙ ap (λ (b : List ℕ). hmac_of_block b (c.args.first.now ++ c.args.second.now)) c.self.view_is
