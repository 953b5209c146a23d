use Rattle.std.proofs.Common.{rules}
use Rattle.node_core.proofs.instance.Instance.recall.Goals as goal

pub returns-in_err-release-in-Some : goal.returns-in_err-release-in-Some
returns-in_err-release-in-Some c = record {
  turn = search rules;
  orderly = search rules;
  of = c.hear.ensures.of c.args.seat c.requires;
  number = search rules;
}

pub returns-in_ok-release-in-Some : goal.returns-in_ok-release-in-Some
returns-in_ok-release-in-Some c = record {
  turn = search rules;
  orderly = search rules;
  of = c.hear.ensures.of c.args.seat c.requires;
  number = search rules;
}
