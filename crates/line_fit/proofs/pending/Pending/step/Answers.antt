use Rattle.std.proofs.Common.{◌≡◌, true, false, sym, ◌∙◌}
use Rattle.code_table.specs.Tables.{mean}
use Rattle.slug_reader.specs.Lines.{is_cut}
use Rattle.line_fit.proofs.Reading.{fit_is, cut_on, kept_on}
use Rattle.line_fit.proofs.pending.Pending.step.Goals as goal

pub returns-in_ok-fit-clause-fit : goal.returns-in_ok-fit-clause-fit
returns-in_ok-fit-clause-fit c =
    let means = mean c.args.tape.now.table.now in
    let e : is_cut means c.args.tape.now.frames.now c.args.at ≡ true = sym c.in_ok-read_frame.ensures.cuts ∙ c.if-branch.true in
    (e, fit_is means c.args.tape.now.sizes.now c.args.tape.now.frames.now c.args.at c.read_frame.new.self c.in_ok-fit.fit e c.in_ok-read_frame.ensures.taken (rw c.widths.ensures at c.in_ok-fit.ensures.fit))

pub returns-in_ok-fit-clause-stands : goal.returns-in_ok-fit-clause-stands
returns-in_ok-fit-clause-stands c =
    let means = mean c.args.tape.now.table.now in
    let e : is_cut means c.args.tape.now.frames.now c.args.at ≡ true = sym c.in_ok-read_frame.ensures.cuts ∙ c.if-branch.true in
    let d = c.in_ok-fit.ensures.cleared in
    let k = c.in_ok-fit.ensures.kept in
    cut_on means c.args.tape.now.sizes.now c.args.tape.now.frames.now c.args.at c.read_frame.new.self c.cut.new.self c.requires.within e c.in_ok-read_frame.ensures.taken d.0 d.1 d.2 k.0 k.1 k.2

pub returns-else-branch-clause-stands : goal.returns-else-branch-clause-stands
returns-else-branch-clause-stands c =
    let means = mean c.args.tape.now.table.now in
    let e : is_cut means c.args.tape.now.frames.now c.args.at ≡ false = sym c.in_ok-read_frame.ensures.cuts ∙ c.if-branch.false in
    kept_on means c.args.tape.now.sizes.now c.args.tape.now.frames.now c.args.at c.read_frame.new.self c.requires.within e c.in_ok-read_frame.ensures.taken
