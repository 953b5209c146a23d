-- A tape, piece by piece.
use Rattle.std.proofs.Common.{rules, ◌+◌, length, refl, ◌∙◌, arith}
use Rattle.std.specs.Slice.Iter.{chunks_rest}
use Rattle.code_table.specs.Tables.{mean}
use Rattle.slug_reader.proofs.Tapes.{read_start, piece_is, rest_left, at_end, reads_err, finished_ok, finished_err}
use Rattle.slug_reader.proofs.lines.read_lines.Goals as goal

pub loop-piece-init : goal.loop-piece-init
loop-piece-init c =
    let starts = c.new-reader.ensures.starts c.args.tape.now in
    record {
      next = search rules;
      finite = tt;
      size = search rules;
      table = c.new-reader.ensures.by.0;
      widths = c.new-reader.ensures.by.1;
      place = 0;
      within = omega arith;
      left = search rules;
      read = read_start c.new-reader.result c.args.tape.now c.new-lines.result.items starts c.new-lines.ensures.items;
    }

pub loop-piece-preserved : goal.loop-piece-preserved
loop-piece-preserved c =
    let was = c.loop-piece.invariant in
    let tape = c.args.tape.now in
    let steps = c.in-Some.ensures.steps in
    let front = was.left ∙ steps.1.0 in
    let piece = piece_is tape was.place c.in-Some.piece.now (chunks_rest c.next.new.self) was.within front in
    let given = c.in_ok-read_piece.ensures in
    record {
      next = search rules;
      finite = tt;
      size = steps.0 ∙ was.size;
      table = given.by.0 ∙ was.table;
      widths = given.by.1 ∙ was.widths;
      place = was.place + length c.in-Some.piece.now;
      within = piece.within;
      left = rest_left tape was.place c.in-Some.piece.now (chunks_rest c.next.new.self) front;
      read = given.read tape was.place c.frames.ensures.is_tape piece was.read;
    }

pub returns-in_err-read_piece : goal.returns-in_err-read_piece
returns-in_err-read_piece c =
    let was = c.loop-piece.invariant in
    let tape = c.args.tape.now in
    let front = was.left ∙ c.in-Some.ensures.steps.1.0 in
    let piece = piece_is tape was.place c.in-Some.piece.now (chunks_rest c.next.new.self) was.within front in
    let given = c.in_err-read_piece.ensures in
    let answer = reads_err (mean c.args.table.now) c.args.widths.now tape c.in_err-read_piece.field-0.0
    (λ m. rw (given.by.0 ∙ was.table, given.by.1 ∙ was.widths) at (given.read tape was.place c.frames.ensures.is_tape piece was.read m)) in
    search (rules, answer)

pub returns-in_err-finish : goal.returns-in_err-finish
returns-in_err-finish c =
    let was = c.loop-piece.invariant in
    let tape = c.args.tape.now in
    let end = at_end tape was.place (chunks_rest c.loop-piece.piece-iterator) was.within was.left c.in-None.ensures.steps.1.0 in
    let given = c.in_err-finish.ensures in
    let found = finished_err c.loop-piece.reader c.finish.new.self tape c.frames.ensures.is_tape c.loop-piece.lines.items c.in_err-finish.field-0.0 c.loop-piece.reader.fault refl (rw end at was.read)
    (λ at. given.finished tape (length tape) at) (λ g e. (given.failed g e).0) in
    let answer = reads_err (mean c.args.table.now) c.args.widths.now tape c.in_err-finish.field-0.0 (λ m. rw (was.table, was.widths) at found) in
    search (rules, answer)

pub returns : goal.returns
returns c =
    let was = c.loop-piece.invariant in
    let tape = c.args.tape.now in
    let end = at_end tape was.place (chunks_rest c.loop-piece.piece-iterator) was.within was.left c.in-None.ensures.steps.1.0 in
    let given = c.in_ok-finish.ensures in
    rw (was.table, was.widths) at
    (finished_ok c.loop-piece.reader c.finish.new.self tape c.frames.ensures.is_tape c.loop-piece.lines.items c.loop-piece.reader.fault refl (rw end at was.read)
    (λ at. given.finished tape (length tape) at) (λ g e. (given.failed g e).0))
