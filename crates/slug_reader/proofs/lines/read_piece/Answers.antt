-- One piece of a tape.
use Rattle.std.proofs.Common.{rules, ◌+◌, length, refl}
use Rattle.slug_reader.specs.Pieces.{ReadTo}
use Rattle.slug_reader.proofs.Tapes.{read_on, read_stopped}
use Rattle.slug_reader.proofs.lines.read_piece.Goals as goal

pub returns-in_err-more-clause-read : goal.returns-in_err-more-clause-read
returns-in_err-more-clause-read c = λ tape i is p s.
    let given = c.in_err-more.ensures in
    let answer = read_stopped c.args.reader.now c.push.new.self tape is i _ c.args.lines.now.items c.in_err-more.field-0.0 given.by.0 given.by.1 p.within c.args.reader.now.fault refl s
    (λ at. given.pushed tape i at p) (λ g e. (given.failed g e).0) in
    search (rules, answer)

pub returns-in-Ok-clause-read : goal.returns-in-Ok-clause-read
returns-in-Ok-clause-read c = λ tape i is p s.
    let given = c.in_ok-more.ensures in
    let read = read_on c.args.reader.now c.push.new.self tape is i _ c.args.lines.now.items c.in_ok-more.more given.by.0 given.by.1 p.within c.args.reader.now.fault refl s
    (λ at. given.pushed tape i at p) (λ g e. (given.failed g e).0) in
    let items : ReadTo c.push.new.self tape (i + length c.args.piece.now) c.append.new.self.items c.push.new.self.fault = rw c.in-Ok.ensures.items read in
    items
