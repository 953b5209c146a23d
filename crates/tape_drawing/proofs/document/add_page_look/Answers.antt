use Rattle.std.specs.Prelude.{codes}
use Rattle.tape_drawing.specs.Document.{page_look, page_styled}
use Rattle.tape_drawing.proofs.Sequences.{follows}
use Rattle.tape_drawing.proofs.document.add_page_look.Goals as goal

pub returns : goal.returns
unfolding page_look
returns c =
    follows c.add_page_styled.result c.args.text.now.items c.extend_from_slice.new.self.items c.add_page_styled.new.text.items (codes "</title>\n<style>\n") (page_styled c.args.size)
    c.in_ok-extend_from_slice.ensures.items c.add_page_styled.ensures
