-- A tape, piece by piece.
use Rattle.std.proofs.Common.{rules, ◌≡◌, None, ◌+◌, length, refl, ◌∙◌, arith}
use Rattle.std.specs.Slice.Iter.{chunks_rest}
use Rattle.code_table.specs.Tables.{mean}
use Rattle.line_check.specs.Spreading.{misfit_among}
use Rattle.line_check.specs.Setting.{AddsSlugs, IsFirstMisfit, IsFirstFault}
use Rattle.line_check.proofs.ByPieces.{set_start, piece_is, rest_left, at_end, piece_set, piece_misfits, piece_told, finish_told, finish_sets, told_short, told_on}
use Rattle.line_check.proofs.tape.slugs_of.Goals as goal

pub loop-piece-init : goal.loop-piece-init
loop-piece-init c =
    let starts = c.new-reader.ensures.starts c.args.tape.now in
    record {
      next = search rules;
      finite = tt;
      size = search rules;
      table = c.new-reader.ensures.by.0;
      widths = c.new-reader.ensures.by.1;
      place = 0;
      within = omega arith;
      left = search rules;
      set = set_start c.new-reader.result c.args.tape.now c.new-slugs.result.items starts c.new-slugs.ensures.items;
    }

pub returns-in_err-add_slugs-in-Ok-clause-unset : goal.returns-in_err-add_slugs-in-Ok-clause-unset
returns-in_err-add_slugs-in-Ok-clause-unset c =
    let was = c.loop-piece.invariant in
    let tape = c.args.tape.now in
    let piece = piece_is tape was.place c.in-Some.piece.now (chunks_rest c.next.new.self) was.within (was.left ∙ c.in-Some.ensures.steps.1.0) in
    let given = c.in-Ok.ensures in
    let misfit : IsFirstMisfit (misfit_among c.loop-piece.reader.widths c.in-Ok.lines.items) c.in_err-add_slugs-in-Ok.field-0.0 = rw (was.widths, ← c.deref.ensures.value) c.in_err-add_slugs-in-Ok.ensures.misfit in
    let found = piece_misfits c.loop-piece.reader c.push.new.self tape c.frames.ensures.is_tape was.place _ c.in-Ok.lines c.loop-piece.slugs.items c.in_err-add_slugs-in-Ok.field-0.0 given.by.0 given.by.1 piece.within c.loop-piece.reader.fault refl was.set
    (λ at. given.pushed tape was.place at piece) (λ g e. (given.failed g e).0) misfit in
    let answer : IsFirstFault (mean c.args.table.now) c.args.widths.now tape c.in_err-add_slugs-in-Ok.field-0.0 = rw (was.table, was.widths) at found in
    search (rules, answer)

pub loop-piece-preserved : goal.loop-piece-preserved
loop-piece-preserved c =
    let was = c.loop-piece.invariant in
    let tape = c.args.tape.now in
    let steps = c.in-Some.ensures.steps in
    let front = was.left ∙ steps.1.0 in
    let piece = piece_is tape was.place c.in-Some.piece.now (chunks_rest c.next.new.self) was.within front in
    let given = c.in-Ok.ensures in
    let fit : misfit_among c.loop-piece.reader.widths c.in-Ok.lines.items ≡ None = rw (was.widths, ← c.deref.ensures.value) c.in_ok-add_slugs-in-Ok.ensures.fit in
    let adds : AddsSlugs c.loop-piece.reader.widths c.in-Ok.lines.items c.loop-piece.slugs.items c.add_slugs.new.slugs.items = rw (was.widths, ← c.deref.ensures.value) c.in_ok-add_slugs-in-Ok.ensures.slugs in
    record {
      next = search rules;
      finite = tt;
      size = steps.0 ∙ was.size;
      table = given.by.0 ∙ was.table;
      widths = given.by.1 ∙ was.widths;
      place = was.place + length c.in-Some.piece.now;
      within = piece.within;
      left = rest_left tape was.place c.in-Some.piece.now (chunks_rest c.next.new.self) front;
      set = piece_set c.loop-piece.reader c.push.new.self tape c.frames.ensures.is_tape was.place _ c.in-Ok.lines c.loop-piece.slugs.items c.add_slugs.new.slugs.items given.by.0 given.by.1 piece.within c.loop-piece.reader.fault refl was.set
          (λ at. given.pushed tape was.place at piece) (λ g e. (given.failed g e).0) fit adds;
    }

pub unset_tape-requires : goal.unset_tape-requires
unset_tape-requires c =
    let was = c.loop-piece.invariant in
    let tape = c.args.tape.now in
    let piece = piece_is tape was.place c.in-Some.piece.now (chunks_rest c.next.new.self) was.within (was.left ∙ c.in-Some.ensures.steps.1.0) in
    let given = c.in-Err.ensures in
    told_short (mean c.loop-piece.reader.table) c.loop-piece.reader.widths tape c.in-Err.fault
    (piece_told c.loop-piece.reader c.push.new.self tape c.frames.ensures.is_tape was.place _ c.loop-piece.slugs.items c.in-Err.fault piece.within c.loop-piece.reader.fault refl was.set
    (λ at. given.pushed tape was.place at piece) (λ g e. (given.failed g e).0))

pub returns-in-Err-clause-unset : goal.returns-in-Err-clause-unset
returns-in-Err-clause-unset c =
    let was = c.loop-piece.invariant in
    let tape = c.args.tape.now in
    let piece = piece_is tape was.place c.in-Some.piece.now (chunks_rest c.next.new.self) was.within (was.left ∙ c.in-Some.ensures.steps.1.0) in
    let given = c.in-Err.ensures in
    let told = piece_told c.loop-piece.reader c.push.new.self tape c.frames.ensures.is_tape was.place _ c.loop-piece.slugs.items c.in-Err.fault piece.within c.loop-piece.reader.fault refl was.set
    (λ at. given.pushed tape was.place at piece) (λ g e. (given.failed g e).0) in
    told_on (mean c.args.table.now) c.args.widths.now tape c.in-Err.fault c.unset_tape.result (rw (was.table, was.widths) at told) c.unset_tape.ensures

pub unset_tape-requires-in-Err-finish : goal.unset_tape-requires-in-Err-finish
unset_tape-requires-in-Err-finish c =
    let was = c.loop-piece.invariant in
    let tape = c.args.tape.now in
    let end = at_end tape was.place (chunks_rest c.loop-piece.piece-iterator) was.within was.left c.in-None.ensures.steps.1.0 in
    let given = c.in-Err-finish.ensures in
    told_short (mean c.loop-piece.reader.table) c.loop-piece.reader.widths tape c.in-Err-finish.fault
    (finish_told c.loop-piece.reader c.finish.new.self tape c.frames.ensures.is_tape c.loop-piece.slugs.items c.in-Err-finish.fault c.loop-piece.reader.fault refl (rw end at was.set)
    (λ at. given.finished tape (length tape) at) (λ g e. (given.failed g e).0))

pub returns-in-Ok-finish-clause-slugs : goal.returns-in-Ok-finish-clause-slugs
returns-in-Ok-finish-clause-slugs c =
    let was = c.loop-piece.invariant in
    let tape = c.args.tape.now in
    let end = at_end tape was.place (chunks_rest c.loop-piece.piece-iterator) was.within was.left c.in-None.ensures.steps.1.0 in
    let given = c.in-Ok-finish.ensures in
    rw (was.table, was.widths) at
    (finish_sets c.loop-piece.reader c.finish.new.self tape c.frames.ensures.is_tape c.loop-piece.slugs.items c.loop-piece.reader.fault refl (rw end at was.set)
    (λ at. given.finished tape (length tape) at) (λ g e. (given.failed g e).0))

pub returns-clause-unset : goal.returns-clause-unset
returns-clause-unset c =
    let was = c.loop-piece.invariant in
    let tape = c.args.tape.now in
    let end = at_end tape was.place (chunks_rest c.loop-piece.piece-iterator) was.within was.left c.in-None.ensures.steps.1.0 in
    let given = c.in-Err-finish.ensures in
    let told = finish_told c.loop-piece.reader c.finish.new.self tape c.frames.ensures.is_tape c.loop-piece.slugs.items c.in-Err-finish.fault c.loop-piece.reader.fault refl (rw end at was.set)
    (λ at. given.finished tape (length tape) at) (λ g e. (given.failed g e).0) in
    told_on (mean c.args.table.now) c.args.widths.now tape c.in-Err-finish.fault c.unset_tape-in-Err-finish.result (rw (was.table, was.widths) at told) c.unset_tape-in-Err-finish.ensures
