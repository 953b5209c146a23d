-- Whose file it is.
use Rattle.folders.proofs.Ledgers.{own_by}
use Rattle.folders.proofs.released.kept_of.Goals as goal

pub returns-then-is_own-clause-own : goal.returns-then-is_own-clause-own
returns-then-is_own-clause-own c =
    (own_by c.args.own.now c.args.bytes.now c.in_ok-numbers.numbers c.begins_with_head-has_head.result c.begins_with_head-has_head.ensures c.in_ok-numbers.ensures).0
    (c.is_own.ensures.0 c.if-is_own.true)

pub returns-else-is_own-clause-own : goal.returns-else-is_own-clause-own
returns-else-is_own-clause-own c = λ own.
    let is = c.is_own.ensures.1 ((own_by c.args.own.now c.args.bytes.now c.in_ok-numbers.numbers c.begins_with_head-has_head.result c.begins_with_head-has_head.ensures c.in_ok-numbers.ensures).1 own) in
    absurd (let no = c.if-is_own.false in cc)
