-- The document of a drawing.
use Rattle.std.specs.Prelude.{◌≡◌, ℕ, ◌+◌, ◌-◌, List, [], ◌∷◌, ◌++◌, length, Option, Some, None, codes, decimal, nat_lt, ◌==◌, if◌then◌else◌}
use Rattle.widths.specs.Widths.{WidthFile}
use Rattle.slug_reader.specs.Meanings.{Meanings}
use Rattle.line_check.specs.declared.fault.SetFault.{SetFault}
use Rattle.line_fit.specs.declared.fitting.Fitting.{Fitting}
use Rattle.line_fit.specs.Fitting.{Fits, first_told}
use Rattle.code_table.specs.Tables.{mean}
use Rattle.tape_drawing.specs.declared.document.DrawingOrder.{DrawingOrder}
use Rattle.tape_drawing.specs.declared.document.HeadCounts.{HeadCounts}
use Rattle.tape_drawing.specs.declared.document.DrawingHead.{DrawingHead}
use Rattle.tape_drawing.specs.declared.document.Names.{Names}
use Rattle.tape_drawing.specs.declared.page.DrawingForm.{DrawingForm}
use Rattle.tape_drawing.specs.declared.page.DrawingForm.TheVariants as pages
use Rattle.tape_drawing.specs.declared.elements.Style.TheVariants as styles
use Rattle.tape_drawing.specs.declared.layout.Spot.{Spot}
use Rattle.tape_drawing.specs.declared.lines.DrawingPlan.{DrawingPlan}
use Rattle.tape_drawing.specs.Lengths.{page_width, page_height, head_left, title_foot, counts_foot, first_legend_foot, second_legend_foot}
use Rattle.tape_drawing.specs.Shapes.{Shape, Words, pair_text, count_text, escaped, text_of}
use Rattle.tape_drawing.specs.Texts.{style_head, style_tail, svg_lead, svg_style_end, first_legend, second_legend, page_lead, page_style_end, page_legend, page_main}
use Rattle.tape_drawing.specs.Layout.{type_size, after, first_spot}
use Rattle.tape_drawing.specs.Lines.{rest_height, tape_shapes}

-- what a tape, its table and its widths are called
pub record Called : Type 0 where
  pub tape : List ℕ
  pub table : List ℕ
  pub widths : List ℕ

-- these names
abbrev pub called : List ℕ → List ℕ → List ℕ → Called
called tape table widths = record { tape = tape; table = table; widths = widths }

-- what a tape, its table and its widths are called by an order
abbrev pub called_by : Names → Called
called_by names = called names.tape.now names.table.now names.widths.now

-- the title: what is drawn, and what it is set by
abbrev pub title_words : Called → List ℕ
title_words called = called.tape ++ (codes ", set by " ++ (called.table ++ (codes " and " ++ called.widths)))

-- one where there are frames behind the last cut
abbrev pub rest_lines : ℕ → ℕ → ℕ
rest_lines from frames = if nat_lt from frames then 1 else 0

-- one where there is a fault behind it
abbrev pub rest_faults : Option SetFault → ℕ
rest_faults None = 0
rest_faults (Some fault) = 1

-- what is counted of a tape of so many frames whose lines end here
abbrev pub counted : ℕ → ℕ → Spot → Option SetFault → HeadCounts
counted measure frames end rest = record {
  measure = measure;
  frames = frames;
  lines = end.number - 1 + rest_lines end.from frames;
  slugs = end.slug - 1;
  faults = end.faults + rest_faults rest;
}

-- how it is told: of the tape, of its lines, and both
unfoldable pub tape_counts : HeadCounts → List ℕ
tape_counts c = count_text (codes "measure ") c.measure ++ count_text (codes " | frames ") c.frames

unfoldable pub line_counts : HeadCounts → List ℕ
line_counts c =
    (count_text (codes " | lines ") c.lines ++ count_text (codes " | slugs ") c.slugs) ++ count_text (codes " | lines that do not set ") c.faults

abbrev pub counted_words : HeadCounts → List ℕ
counted_words c = tape_counts c ++ line_counts c

-- how far the drawing reaches down: behind the lines, and behind the frames after the last cut
abbrev pub height_of : ℕ → Spot → ℕ
height_of frames end = if nat_lt end.from frames then end.top + rest_height (frames - end.from) else end.top

-- how large the page is that a document is printed on: as wide as a drawing, and this high
unfoldable pub page_size : ℕ → List ℕ
page_size height = pair_text (codes "@page{size:") page_width (codes "px ") height ++ codes "px;margin:0}\n"

-- how what is drawn looks, with type of this size
unfoldable pub style_text : ℕ → List ℕ
style_text size = page_size page_height ++ (style_head ++ (decimal size ++ style_tail))

-- what begins the element of a document of this height: how wide and high it is, and that a user unit is a px
unfoldable pub svg_size : ℕ → List ℕ
svg_size height = pair_text svg_lead page_width (codes "' height='") height ++ pair_text (codes "' viewBox='0 0 ") page_width (codes " ") height

-- what begins a document of this height with this title
unfoldable pub svg_open : ℕ → List ℕ → List ℕ
svg_open height title = svg_size height ++ (codes "'>\n<title>" ++ (escaped title ++ codes "</title>\n"))

-- how a document looks, and its ground
unfoldable pub svg_styled : ℕ → List ℕ
svg_styled size = style_text size ++ svg_style_end

-- how it looks, with type of this size
unfoldable pub svg_style : ℕ → List ℕ
svg_style size = codes "<style type='text/css'>\n" ++ svg_styled size

-- the head of a document: its title, what is counted, and what the marks stand for
abbrev pub head_shapes : List ℕ → List ℕ → List Shape
head_shapes title counts =
    Words styles.Heading head_left title_foot title ∷ Words styles.Head head_left counts_foot counts
    ∷ Words styles.Head head_left first_legend_foot first_legend ∷ Words styles.Head head_left second_legend_foot second_legend ∷ []

-- all of a document as far as its lines
unfoldable pub svg_head : ℕ → List ℕ → List ℕ → ℕ → List ℕ
svg_head height title counts size = svg_open height title ++ (svg_style size ++ text_of (head_shapes title counts))

-- what leads to the first line that does not set, where there is one
abbrev pub fault_link : ℕ → List ℕ
fault_link faults = if faults == 0 then [] else codes "<p><a href='#fault'>The first line that does not set</a></p>\n"

-- how a page looks, and what begins its heading
unfoldable pub page_styled : ℕ → List ℕ
page_styled size = style_text size ++ page_style_end

-- the end of its title, and how it looks
unfoldable pub page_look : ℕ → List ℕ
page_look size = codes "</title>\n<style>\n" ++ page_styled size

-- what begins a page, with its title
unfoldable pub page_titled : List ℕ → List ℕ
page_titled title = page_lead ++ escaped title

-- what begins a page with this title, its type of this size
unfoldable pub page_open : List ℕ → ℕ → List ℕ
page_open title size = page_titled title ++ page_look size

-- what a page tells before its drawings
unfoldable pub page_told : List ℕ → List ℕ → ℕ → List ℕ
page_told title counts faults =
    (escaped title ++ (codes "</h1>\n<p>" ++ (escaped counts ++ codes "</p>\n"))) ++ (page_legend ++ (fault_link faults ++ page_main))

-- all of a page as far as its lines
unfoldable pub page_head : List ℕ → List ℕ → ℕ → ℕ → List ℕ
page_head title counts size faults = page_open title size ++ page_told title counts faults

-- all of a document or a page of this height as far as its lines
abbrev pub head_text : DrawingForm → ℕ → List ℕ → List ℕ → ℕ → ℕ → List ℕ
head_text pages.Svg height title counts size faults = svg_head height title counts size
head_text pages.Html height title counts size faults = page_head title counts size faults

-- the same under a heading
abbrev pub head_by : DrawingForm → DrawingHead → List ℕ
head_by page heading = head_text page heading.height heading.title.now heading.counts.now heading.size heading.faults

-- what stands behind its lines
abbrev pub end_text : DrawingForm → List ℕ
end_text pages.Svg = codes "</svg>\n"
end_text pages.Html = codes "</main>\n</body>\n</html>\n"

-- a document of this height: what is told before its lines, and its lines, whose text is this
abbrev pub page_text : DrawingForm → List ℕ → ℕ → List ℕ → List ℕ → ℕ → ℕ → List ℕ
page_text page lines height title counts size faults = head_text page height title counts size faults ++ (lines ++ end_text page)

-- the document of a tape whose lines end here, with what is counted
abbrev pub text_with : DrawingForm → Meanings → WidthFile → List ℕ → Called → Fitting → Spot → HeadCounts → List ℕ
text_with page means widths tape called fitting end c =
    page_text page (text_of (tape_shapes page means widths tape fitting)) (height_of (length tape) end) (title_words called) (counted_words c) (type_size widths) c.faults

-- what is written of a tape whose lines fit so
abbrev pub document_text : DrawingForm → Meanings → WidthFile → List ℕ → Called → Fitting → List ℕ
document_text page means widths tape called fitting =
    text_with page means widths tape called fitting (after first_spot fitting.lines.items)
    (counted widths.measure (length tape) (after first_spot fitting.lines.items) fitting.rest)

-- the same by a plan, where its files are called so
abbrev pub document_by : DrawingPlan → Names → Fitting → List ℕ
document_by plan names fitting = document_text plan.page (mean plan.table.now) plan.widths.now plan.tape.now (called_by names) fitting

-- a text is the drawing of a tape, and this is the first fault for which it does not set
pub record IsDrawing (page : DrawingForm) (means : Meanings) (widths : WidthFile) (tape : List ℕ) (called : Called) (text : List ℕ) (fault : Option SetFault) : Type 0 where
  pub fitting : Fitting
  pub fits : Fits means widths tape fitting
  pub is_fault : fault ≡ first_told fitting
  pub is_text : text ≡ document_text page means widths tape called fitting

-- a text is the drawing that was ordered, of a tape with this first fault, or none
abbrev pub IsDrawingBy : DrawingOrder → List ℕ → Option SetFault → Type 0
IsDrawingBy order text fault = IsDrawing order.page (mean order.table.now) order.widths.now order.tape.now (called_by order.names) text fault
