-- The document of a chart: eight rows of eight cells.
use Rattle.std.specs.Prelude.{ℕ, ◌+◌, ◌*◌, ◌/◌, ◌%◌, List, [], ◌++◌, Option, Some, None, codes, flat_map, length, nat_le, option_map, if◌then◌else◌}
use Rattle.code_table.specs.Tables.{mean}
use Rattle.code_table.specs.declared.case.Case.TheVariants as cases
use Rattle.code_table.specs.declared.meaning.Meaning.{Meaning}
use Rattle.widths.specs.Widths.{WidthFile}
use Rattle.slug_reader.specs.Meanings.{Meanings}
use Rattle.tape_drawing.specs.declared.elements.Point.{Point}
use Rattle.tape_drawing.specs.declared.elements.Style.TheVariants as styles
use Rattle.tape_drawing.specs.declared.page.DrawingForm.{DrawingForm}
use Rattle.tape_drawing.specs.declared.page.DrawingForm.TheVariants as pages
use Rattle.tape_drawing.specs.Meanings.{meaning_word, mark_word, mark_style}
use Rattle.tape_drawing.specs.Texts.{page_lead}
use Rattle.tape_drawing.specs.Lengths.{head_left, title_foot}
use Rattle.tape_drawing.specs.Document.{page_size, svg_open}
use Rattle.tape_drawing.specs.Shapes.{Paper, Words, Fitted, shape_text, pair_text, count_text, group_text, escaped, holes_text}
use Rattle.code_chart.specs.declared.cells.Sheet.{Sheet}
use Rattle.code_chart.specs.declared.said.MeaningSpan.{MeaningSpan}
use Rattle.code_chart.specs.declared.said.MeaningSpan.TheVariants as spans
use Rattle.code_chart.specs.declared.said.MeaningNote.{MeaningNote}
use Rattle.code_chart.specs.Cells.{Said, Cell, said, cell, chart}
use Rattle.code_chart.specs.Lengths.{chart_height, page_height, cell_legend_foot, sign_legend_foot, function_legend_foot, quad_legend_foot, cells_left, cells_top, cell_width, cell_height, card_width, card_height, paper_inset, paper_middle, frame_number_foot, unshift_foot, shift_foot, name_middle, name_width, span_left, note_left, lacking_left, note_step}
use Rattle.code_chart.specs.Texts.{style, svg_style_lead, svg_ground, cell_legend, sign_legend, function_legend, quad_legend, page_style_lead, page_style_end, page_legend, page_end}

-- the upper left corner of a cell
abbrev pub corner : ℕ → Point
corner frame = record { x = cells_left + cell_width * (frame % 8); y = cells_top + cell_height * (frame / 8) }

-- what begins words of a class at a place, as far as their text
unfoldable pub lead_text : List ℕ → Point → List ℕ
lead_text lead at = pair_text lead at.x (codes "' y='") at.y

-- a width in units, or two with a hyphen between them
unfoldable pub units_text : Point → ℕ → List ℕ
units_text at units = lead_text (codes "<text class='w' x='") at ++ (count_text (codes "'>") units ++ codes "</text>\n")

unfoldable pub between_text : Point → ℕ → ℕ → List ℕ
between_text at least greatest = lead_text (codes "<text class='w' x='") at ++ (pair_text (codes "'>") least (codes "-") greatest ++ codes "</text>\n")

-- the mark of a matrix without a width
unfoldable pub lacking_text : Point → List ℕ
lacking_text at = lead_text (codes "<text class='o x' x='") at ++ codes "'>no width</text>\n"

-- behind a meaning its width, and below it that it lacks one
abbrev pub span_text : Point → MeaningSpan → List ℕ
span_text at spans.Nothing = []
span_text at (spans.Units units) = units_text (record { x = at.x + span_left; y = at.y }) units
span_text at (spans.Between least greatest) = between_text (record { x = at.x + span_left; y = at.y }) least greatest
span_text at spans.Lacking = lacking_text (record { x = at.x + lacking_left; y = at.y + note_step })

-- the mark of a meaning that another combination has too
unfoldable pub shared_text : Point → ℕ → List ℕ
shared_text at other = lead_text (codes "<text class='g' x='") at ++ (count_text (codes "'>= ") other ++ codes "</text>\n")

abbrev pub twin_text : Point → Option ℕ → List ℕ
twin_text at None = []
twin_text at (Some other) = shared_text (record { x = at.x + note_left; y = at.y + note_step }) other

-- a meaning: its name, fitted to its room where it is long, or the two letters of a function
abbrev pub name_text : Point → Meaning → List ℕ
name_text at meaning =
    if nat_le 4 (length (mark_word (Some meaning)))
    then shape_text (Fitted (mark_style (Some meaning)) (at.x + name_middle) at.y name_width (mark_word (Some meaning)))
    else shape_text (Words (mark_style (Some meaning)) (at.x + name_middle) at.y (mark_word (Some meaning)))

-- the mark of a combination without a meaning
unfoldable pub nothing_text : Point → List ℕ
nothing_text at = shape_text (Words styles.Unknown (at.x + name_middle) at.y (codes "?")) ++ shape_text (Words styles.Fault (at.x + note_left) (at.y + note_step) (codes "no meaning"))

-- what is told of a meaning
abbrev pub told_text : Point → MeaningNote → List ℕ
told_text at told = span_text at told.span ++ twin_text at told.twin

-- what is said of a meaning, where there is one
abbrev pub said_text : Point → Option Said → List ℕ
said_text at None = nothing_text at
said_text at (Some said) = name_text at said.meaning ++ told_text at said.told

-- what is said by a sheet of a meaning of a frame, where there is one
abbrev pub said_by : Sheet → ℕ → Point → Option Meaning → List ℕ
said_by sheet frame at meaning = said_text at (option_map (said sheet.widths.now (mean sheet.table.now) frame) meaning)

-- the card of a cell, red where there is no meaning
abbrev pub card_lead : Option Meaning → List ℕ
card_lead None = codes "<rect class='v' x='"
card_lead (Some meaning) = codes "<rect class='m' x='"

unfoldable pub card_text : Option Meaning → Point → List ℕ
card_text meaning at =
    lead_text (card_lead meaning) at ++ (pair_text (codes "' width='") card_width (codes "' height='") card_height ++ codes "'/>\n")

-- its paper with its holes, and its number below them
unfoldable pub paper_text : ℕ → Point → List ℕ
paper_text frame at =
    shape_text (Paper (at.x + paper_inset) (at.y + paper_inset) 1) ++ (codes "<path d='" ++ (holes_text frame (at.x + paper_middle) (at.y + paper_inset) ++ codes "'/>\n"))

unfoldable pub number_text : ℕ → Point → List ℕ
number_text frame at =
    lead_text (codes "<text class='n' x='") (record { x = at.x + paper_middle; y = at.y + frame_number_foot }) ++ (count_text (codes "'>") frame ++ codes "</text>\n")

-- what begins the drawing of a cell in a page
unfoldable pub view_text : ℕ → Point → List ℕ
view_text frame at =
    ((count_text (codes "<svg id='frame") frame ++ pair_text (codes "' viewBox='") at.x (codes " ") at.y) ++ pair_text (codes " ") cell_width (codes " ") cell_height)
    ++ codes "'>\n"

-- what begins a cell: a group of a document, and a drawing of a page
abbrev pub open_text : DrawingForm → ℕ → Point → List ℕ
open_text pages.Svg frame at = group_text (codes "<g id='frame") frame
open_text pages.Html frame at = view_text frame at

abbrev pub close_text : DrawingForm → List ℕ
close_text pages.Svg = codes "</g>\n"
close_text pages.Html = codes "</svg>\n"

-- the words of a cell, for who points at it
unfoldable pub title_text : ℕ → Option Meaning → Option Meaning → List ℕ
title_text frame unshift shift =
    count_text (codes "<title>") frame ++ (codes ": " ++ (escaped (meaning_word unshift) ++ (codes ", " ++ (escaped (meaning_word shift) ++ codes "</title>\n"))))

-- the meaning of what is said
abbrev pub meaning_in : Option Said → Option Meaning
meaning_in said = option_map (λ s. s.meaning) said

-- a cell at a corner: its card, its holes and its number
abbrev pub ground_text : Cell → Point → List ℕ
ground_text c at =
    title_text c.frame (meaning_in c.unshift) (meaning_in c.shift) ++ (card_text (meaning_in c.unshift) at ++ (paper_text c.frame at ++ number_text c.frame at))

-- both its meanings
abbrev pub both_text : Cell → Point → List ℕ
both_text c at =
    said_text (record { x = at.x; y = at.y + unshift_foot }) c.unshift ++ said_text (record { x = at.x; y = at.y + shift_foot }) c.shift

-- all of a cell
abbrev pub cell_at : DrawingForm → Cell → Point → List ℕ
cell_at page c at = open_text page c.frame at ++ (ground_text c at ++ (both_text c at ++ close_text page))

abbrev pub cell_text : DrawingForm → Cell → List ℕ
cell_text page c = cell_at page c (corner c.frame)

-- the cells of a chart
abbrev pub cells_text : DrawingForm → List Cell → List ℕ
cells_text page cells = flat_map (cell_text page) cells

-- the title: the names of the table and the width file, as they were given
abbrev pub title_words : List ℕ → List ℕ → List ℕ
title_words table widths = table ++ (codes ", with the widths of " ++ widths)

-- the head of a document
unfoldable pub legend_text : List ℕ
legend_text =
    shape_text (Words styles.Head head_left cell_legend_foot cell_legend) ++ (shape_text (Words styles.Head head_left sign_legend_foot sign_legend)
    ++ (shape_text (Words styles.Head head_left function_legend_foot function_legend) ++ shape_text (Words styles.Head head_left quad_legend_foot quad_legend)))

unfoldable pub chart_open : List ℕ → List ℕ
chart_open title = svg_open chart_height title ++ svg_style_lead

-- how a chart looks, with the page that it is printed on
unfoldable pub style_text : List ℕ
style_text = page_size page_height ++ style

unfoldable pub svg_head : List ℕ → List ℕ
svg_head title = (style_text ++ svg_ground) ++ (shape_text (Words styles.Heading head_left title_foot title) ++ legend_text)

-- the head of a page
unfoldable pub page_open : List ℕ → List ℕ
page_open title = page_lead ++ (escaped title ++ page_style_lead)

unfoldable pub page_head : List ℕ → List ℕ
page_head title = (style_text ++ page_style_end) ++ (escaped title ++ page_legend)

-- a document with this title and these cells
abbrev pub text_with : DrawingForm → List ℕ → List Cell → List ℕ
text_with pages.Svg title cells = chart_open title ++ (svg_head title ++ (cells_text pages.Svg cells ++ codes "</svg>\n"))
text_with pages.Html title cells = page_open title ++ (page_head title ++ (cells_text pages.Html cells ++ page_end))

-- the chart of a table and widths that have these names
abbrev pub chart_text : DrawingForm → WidthFile → Meanings → List ℕ → List ℕ → List ℕ
chart_text page widths means table file = text_with page (title_words table file) (chart widths means)
