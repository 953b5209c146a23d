use Rattle.std.proofs.Common.{◌≡◌, ℕ, List, subst}
use Rattle.code_table.specs.Tables.{mean}
use Rattle.tape_drawing.specs.Document.{called, document_text}
use Rattle.tape_drawing.proofs.Placing.{are_lines}
use Rattle.tape_drawing.proofs.document.draw_tape.Goals as goal

pub document_of-requires : goal.document_of-requires
document_of-requires c =
    let order = c.args.order.now in
    record {
      tape = rw c.frames.ensures.frames c.frames.ensures.is_tape;
      lines_fit =
          rw c.frames.ensures.frames
          (are_lines c.adds_up.ensures (mean order.table.now) order.widths.now order.tape.now c.in_ok-fitting.fitting.lines.items c.in_ok-fitting.ensures.fits.lines);
    }

pub returns : goal.returns
returns c =
    let order = c.args.order.now in
    let fitting = c.in_ok-fitting.fitting in
    let names = called order.names.tape.now order.names.table.now order.names.widths.now in
    let text : c.in_ok-text.text.items ≡ document_text order.page (mean order.table.now) order.widths.now order.tape.now names fitting =
    subst (λ (xs : List ℕ). c.in_ok-text.text.items ≡ document_text order.page (mean order.table.now) order.widths.now xs names fitting) c.frames.ensures.frames c.in_ok-text.ensures in
    record {
      fitting = fitting;
      fits = c.in_ok-fitting.ensures.fits;
      is_fault = c.first_told.ensures;
      is_text = text;
    }
