use Rattle.std.proofs.Common.{◌++◌, refl}
use Rattle.std.specs.Prelude.{codes}
use Rattle.tape_drawing.specs.Lengths.{page_width}
use Rattle.tape_drawing.specs.Shapes.{pair_text}
use Rattle.tape_drawing.specs.Document.{page_size}
use Rattle.tape_drawing.proofs.Sequences.{grown}
use Rattle.tape_drawing.proofs.document.add_page_size.Goals as goal

pub returns : goal.returns
unfolding page_size
returns c =
    let size = pair_text (codes "@page{size:") page_width (codes "px ") c.args.height in
    let rest = codes "px;margin:0}\n" in
    grown c.args.text.now.items c.add_pair.new.text.items c.extend_from_slice.new.self.items size rest (size ++ rest) c.in_ok-add_pair.ensures c.in_ok-extend_from_slice.ensures.items refl
