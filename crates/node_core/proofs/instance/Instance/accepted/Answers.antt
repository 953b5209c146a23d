-- The sender's vote is heard.
use Rattle.std.proofs.Common.{rules, ap, ◌∙◌}
use Rattle.std.proofs.lemmas.Result.{MatchResult-from_err}
use Rattle.protocol.specs.Proposals.{was_released}
use Rattle.tape_frames.specs.Entries.{lent_entry}
use Rattle.node_core.proofs.Stirring.{accepted_stirs}
use Rattle.node_core.proofs.instance.Instance.accepted.Goals as goal

pub returns-in_err-release : goal.returns-in_err-release
returns-in_err-release c = record {
  turn = λ row marks stands.
      MatchResult-from_err c.from_residual.result _ _ c.from_residual.ensures.0
      (λ _. accepted_stirs c.args.seat marks row c.args.packet.now (lent_entry c.args.entry) (ap (λ n. was_released n marks) c.requires.number ∙ stands.unreleased));
  orderly = search rules;
  of = c.hear.ensures.of c.args.seat c.requires.of;
  number = search rules;
}

pub returns : goal.returns
returns c = record {
  turn = search rules;
  orderly = search rules;
  of = c.hear.ensures.of c.args.seat c.requires.of;
  number = search rules;
}
