use Rattle.std.proofs.Common.{rules}
use Rattle.node_core.proofs.instance.Instance.vote_for.Goals as goal

pub returns-in_err-release : goal.returns-in_err-release
returns-in_err-release c = record {
  turn = search rules;
  orderly = search rules;
  of = c.hear.ensures.of c.args.seat c.requires.of;
  number = search rules;
}

pub returns : goal.returns
returns c = record {
  turn = search rules;
  orderly = search rules;
  of = c.hear.ensures.of c.args.seat c.requires.of;
  number = search rules;
}
