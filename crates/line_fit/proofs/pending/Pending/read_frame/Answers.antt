use Rattle.std.proofs.Common.{◌≡◌, Some, None, get_or, refl, sym, ◌∙◌, ap}
use Rattle.std.proofs.lemmas.List.{append-nil}
use Rattle.code_table.specs.Tables.{mean, case_of}
use Rattle.slug_reader.specs.Meanings.{is_elevate, selected_by}
use Rattle.slug_reader.specs.Lines.{is_cut}
use Rattle.line_fit.specs.Pending.{IsRead}
use Rattle.line_fit.specs.declared.pending.Pending.{Pending}
use Rattle.line_fit.proofs.Reading.{cut_is, taken_is, on_ok}
use Rattle.line_fit.proofs.pending.Pending.read_frame.Goals as goal

pub returns-in-Some-clause-cuts : goal.returns-in-Some-clause-cuts
returns-in-Some-clause-cuts c =
    let means = mean c.args.tape.now.table.now in
    let m = c.in-Some.meaning.now in
    let e : is_elevate (Some m) ≡ is_cut means c.args.tape.now.frames.now c.args.at = ap is_elevate c.in-Some.ensures.value ∙ cut_is means c.args.tape.now.sizes.now c.args.tape.now.frames.now c.args.at c.args.self.now c.requires.stands in
    rw e at c.read.ensures.cuts

pub returns-in-Some-clause-taken : goal.returns-in-Some-clause-taken
returns-in-Some-clause-taken c =
    let means = mean c.args.tape.now.table.now in
    let m = c.in-Some.meaning.now in
    let alike : case_of (Some m) ≡ selected_by means (get_or c.args.tape.now.frames.now c.args.at 0) = ap case_of c.in-Some.ensures.value ∙ c.in-Some.ensures.alike in
    on_ok c.read.result _ _ c.read.ensures.read
    (λ r. taken_is means c.args.tape.now.sizes.now c.args.tape.now.frames.now c.args.at (Some m) c.args.self.now c.read.new.self c.requires.stands c.in-Some.ensures.value alike r)

pub returns-in-None-clause-cuts : goal.returns-in-None-clause-cuts
returns-in-None-clause-cuts c =
    ap is_elevate c.in-None.ensures.value ∙ cut_is (mean c.args.tape.now.table.now) c.args.tape.now.sizes.now c.args.tape.now.frames.now c.args.at c.args.self.now c.requires.stands

pub returns-in-None-clause-taken : goal.returns-in-None-clause-taken
returns-in-None-clause-taken c =
    let means = mean c.args.tape.now.table.now in
    let alike : case_of None ≡ selected_by means (get_or c.args.tape.now.frames.now c.args.at 0) = ap case_of c.in-None.ensures.value ∙ c.in-None.ensures.alike in
    let was : Pending = c.args.self.now in
    let now : Pending = record was { fault = c.first_fault-self.result } in
    let r : IsRead c.args.tape.now.sizes.now c.args.at None was now = record { case = refl; rail = refl; items = sym (append-nil _); quad = refl; fault = c.first_fault-self.ensures; line = refl } in
    taken_is means c.args.tape.now.sizes.now c.args.tape.now.frames.now c.args.at None was now c.requires.stands c.in-None.ensures.value alike r
