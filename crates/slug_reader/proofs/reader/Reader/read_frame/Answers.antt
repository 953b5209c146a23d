-- One frame further.
use Rattle.std.proofs.Common.{◌≡◌, ℕ, ◌<◌, ◌≤◌, Some, refl, sym, ◌∙◌, ap, arith}
use Rattle.std.proofs.lemmas.Bool.Decides.{nat_tests}
use Rattle.slug_reader.specs.declared.fault.ReadFault.TheVariants as faults
use Rattle.tape_frames.specs.Frames.{most_frames}
use Rattle.code_table.specs.Tables.{mean}
use Rattle.slug_reader.specs.Meanings.{frame_at}
use Rattle.slug_reader.specs.Faults.{fault_with}
use Rattle.slug_reader.specs.Assembling.{Takes, line_cut}
use Rattle.slug_reader.specs.Pieces.{InHand}
use Rattle.slug_reader.specs.declared.assembler.Taken.TheVariants.{Kept, Cut}
use Rattle.slug_reader.proofs.Standing.{IsUnknownAbove, kept_on, cut_on, flawed_here, one_too_many, flawed_steps, above_is}
use Rattle.slug_reader.proofs.reader.Reader.read_frame.Goals as goal

pub returns-then-is_full-clause-step : goal.returns-then-is_full-clause-step
returns-then-is_full-clause-step c = λ tape i s f.
    let taken : c.self.inside.taken ≡ c.args.self.now.taken = ap (λ (r : InHand). r.taken) c.self.view_is in
    let at : c.self.inside.taken ≡ i = taken ∙ s.taken in
    let full : most_frames ≤ i = grind (arith, nat_tests, c.is_full.ensures, c.if-is_full.true, s.taken) in
    (one_too_many (mean c.args.self.now.table) c.args.self.now.widths tape i full ∙ ap (λ (k : ℕ). Some (faults.TooLong k)) (sym at), refl)

pub returns-in-Ok-Kept-clause-step : goal.returns-in-Ok-Kept-clause-step
returns-in-Ok-Kept-clause-step c = λ tape i s f.
    let taken : c.self.inside.taken ≡ c.args.self.now.taken = ap (λ (r : InHand). r.taken) c.self.view_is in
    let at : c.args.self.now.taken ≡ i = s.taken in
    let l : i < most_frames = grind (arith, nat_tests, c.is_full.ensures, c.if-is_full.false, s.taken) in
    let t : Takes (mean c.args.self.now.table) c.args.self.now.widths (frame_at tape i) c.args.self.now.line c.push.new.self Kept = rw (f, ← c.self.view_is) (rw c.in-Ok-Kept.field-0-is at c.in-Ok-Kept.ensures.takes) in
    let above : IsUnknownAbove (mean c.args.self.now.table) tape i = above_is c.args.self.now tape i c.args.frame s f (rw (← c.self.view_is) c.in-Ok-Kept.ensures.above) in
    kept_on c.args.self.now _ tape i c.args.lines.now.items s l above (ap (λ (r : InHand). r.table) c.self.view_is) (ap (λ (r : InHand). r.widths) c.self.view_is) (omega arith) (ap (λ (r : InHand). r.fault) c.self.view_is) t

pub returns-in_ok-add-in-Ok-Cut-clause-step : goal.returns-in_ok-add-in-Ok-Cut-clause-step
returns-in_ok-add-in-Ok-Cut-clause-step c = λ tape i s f.
    let taken : c.self.inside.taken ≡ c.args.self.now.taken = ap (λ (r : InHand). r.taken) c.self.view_is in
    let at : c.args.self.now.taken ≡ i = s.taken in
    let l : i < most_frames = grind (arith, nat_tests, c.is_full.ensures, c.if-is_full.false, s.taken) in
    let t : Takes (mean c.args.self.now.table) c.args.self.now.widths (frame_at tape i) c.args.self.now.line c.push.new.self Cut = rw (f, ← c.self.view_is) (rw c.in-Ok-Cut.field-0-is at c.in-Ok-Cut.ensures.takes) in
    let above : IsUnknownAbove (mean c.args.self.now.table) tape i = above_is c.args.self.now tape i c.args.frame s f (rw (← c.self.view_is) c.in-Ok-Cut.ensures.above) in
    cut_on c.args.self.now _ tape i c.args.lines.now.items c.add.new.lines.items c.push.new.self c.cut-line.result s l above (ap (λ (r : InHand). r.table) c.self.view_is) (ap (λ (r : InHand). r.widths) c.self.view_is) (omega arith) (ap (λ (r : InHand). r.fault) c.self.view_is) t
    (c.cut-line.ensures.line ∙ ap (λ k. line_cut c.push.new.self.items.items c.push.new.self.quad k) (taken ∙ at)) c.cut-line.ensures.items c.cut-line.ensures.quad c.cut-line.ensures.case c.cut-line.ensures.rail c.in_ok-add-in-Ok-Cut.ensures.ok

pub returns-in-Ok-Flawed-clause-step : goal.returns-in-Ok-Flawed-clause-step
returns-in-Ok-Flawed-clause-step c = λ tape i s.
    let taken : c.self.inside.taken ≡ c.args.self.now.taken = ap (λ (r : InHand). r.taken) c.self.view_is in
    let at : c.args.self.now.taken ≡ i = s.taken in
    let l : i < most_frames = grind (arith, nat_tests, c.is_full.ensures, c.if-is_full.false, s.taken) in
    let is : c.at.result ≡ fault_with i c.in-Ok-Flawed.flaw = c.at.ensures ∙ ap (λ k. fault_with k c.in-Ok-Flawed.flaw) (taken ∙ at) in
    rw is (flawed_steps c.args.self.now _ tape i c.args.frame c.args.lines.now.items c.in-Ok-Flawed.flaw
    (λ f. flawed_here c.args.self.now tape i c.push.new.self c.in-Ok-Flawed.flaw s l (above_is c.args.self.now tape i c.args.frame s f (rw (← c.self.view_is) c.in-Ok-Flawed.ensures.above)) (rw (f, ← c.self.view_is) (rw c.in-Ok-Flawed.field-0-is at c.in-Ok-Flawed.ensures.takes))))
