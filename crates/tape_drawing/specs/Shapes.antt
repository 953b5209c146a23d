-- What is drawn, and its text. Places are whole user units, x to the right and y down.
use Rattle.std.specs.Prelude.{ℕ, ◌+◌, ◌*◌, ◌-◌, List, [], ◌∷◌, ◌++◌, Option, codes, decimal, flat_map, length, nat_le, ◌==◌, if◌then◌else◌}
use Rattle.tape_frames.specs.Holes.{hole_at}
use Rattle.code_table.specs.declared.meaning.Meaning.{Meaning}
use Rattle.tape_drawing.specs.declared.elements.Look.{Look}
use Rattle.tape_drawing.specs.declared.elements.Look.TheVariants as looks
use Rattle.tape_drawing.specs.declared.elements.Style.{Style}
use Rattle.tape_drawing.specs.declared.page.DrawingForm.{DrawingForm}
use Rattle.tape_drawing.specs.declared.page.DrawingForm.TheVariants as pages
use Rattle.tape_drawing.specs.Meanings.{meaning_word, mark_style, mark_word}
use Rattle.tape_drawing.specs.Lengths.{page_width, measure_width, frame_width, frame_middle, paper_height, feed_top, upper_top, lower_top, level_step, mark_foot, mark_width, outline_height, slug_height}
use Rattle.tape_drawing.specs.Styles.{style_lead}

-- an element of a drawing. By their upper left corner: the paper of a row of so many frames, with its feed holes; the box of a
-- piece of a line, the bar of a slug, the gap of a loose line, and the mark of a faulty frame. A frame stands by its column and
-- the upper edge of its paper, with its position, its levels and what it means. Words stand by their foot, as wide as they are
-- or fitted to a length. The elements of a line are between its opening, which has its number, its upper edge and its height,
-- and its end
pub data Shape : Type 0 where
  Paper : (x : ℕ) → (y : ℕ) → (frames : ℕ) → Shape
  Frame : (x : ℕ) → (y : ℕ) → (at : ℕ) → (frame : ℕ) → (meaning : Option Meaning) → Shape
  Box : (look : Look) → (x : ℕ) → (y : ℕ) → (width : ℕ) → Shape
  Bar : (x : ℕ) → (y : ℕ) → Shape
  Gap : (x : ℕ) → (y : ℕ) → (width : ℕ) → Shape
  Mark : (x : ℕ) → (y : ℕ) → Shape
  Words : (style : Style) → (x : ℕ) → (y : ℕ) → (words : List ℕ) → Shape
  Fitted : (style : Style) → (x : ℕ) → (y : ℕ) → (length : ℕ) → (words : List ℕ) → Shape
  Open : (page : DrawingForm) → (number : ℕ) → (y : ℕ) → (height : ℕ) → Shape
  Close : (page : DrawingForm) → Shape

-- a byte of words, or the reference for one that would read as markup; a byte that no document may hold is a question mark
abbrev pub escape : ℕ → List ℕ
escape byte =
    if byte == 38 then codes "&amp;" else
    if byte == 60 then codes "&lt;" else
    if byte == 62 then codes "&gt;" else
    if byte == 34 then codes "&quot;" else
    if byte == 39 then codes "&#39;" else byte ∷ []

-- words, so that they read as themselves
abbrev pub escaped : List ℕ → List ℕ
escaped words = flat_map escape words

-- two numbers, each behind the name of its attribute
abbrev pub pair_text : List ℕ → ℕ → List ℕ → ℕ → List ℕ
pair_text lead across between down = lead ++ (decimal across ++ (between ++ decimal down))

-- a number behind what leads to it
unfoldable pub count_text : List ℕ → ℕ → List ℕ
count_text lead number = lead ++ decimal number

-- words, and the end of their element
abbrev pub words_end : List ℕ → List ℕ
words_end words = escaped words ++ codes "</text>\n"

-- the element of words of a style, as wide as they are
unfoldable pub words_text : Style → ℕ → ℕ → List ℕ → List ℕ
words_text style x y words = pair_text (style_lead style) x (codes "' y='") y ++ (codes "'>" ++ words_end words)

-- the element of words of a style that are fitted to a length
unfoldable pub fitted_text : Style → ℕ → ℕ → ℕ → List ℕ → List ℕ
fitted_text style x y length words =
    pair_text (style_lead style) x (codes "' y='") y
    ++ (codes "' textLength='" ++ (decimal length ++ (codes "' lengthAdjust='spacingAndGlyphs'>" ++ words_end words)))

-- a hole where the level is punched: a point that a round pen draws
abbrev pub dot_text : ℕ → ℕ → ℕ → List ℕ
dot_text level x y = if level == 111 then pair_text (codes "M") x (codes " ") y ++ codes "h0" else []

-- three levels, one below the other
abbrev pub dots_text : ℕ → ℕ → ℕ → ℕ → ℕ → List ℕ
dots_text a b c x y = dot_text a x y ++ (dot_text b x (y + level_step) ++ dot_text c x (y + 2 * level_step))

-- the holes of a frame: level 0, the lowest bit, on top, and room for the feed hole between levels 2 and 3
unfoldable pub holes_text : ℕ → ℕ → ℕ → List ℕ
holes_text frame x y =
    dots_text (hole_at frame 1) (hole_at frame 2) (hole_at frame 4) x (y + upper_top)
    ++ dots_text (hole_at frame 8) (hole_at frame 16) (hole_at frame 32) x (y + lower_top)

-- what a frame means, in full, and the end of its title
unfoldable pub title_end : List ℕ → List ℕ
title_end word = escaped word ++ codes "</title><path d='"

-- the position of a frame and what it means, in full, for who points at it
unfoldable pub title_text : ℕ → List ℕ → List ℕ
title_text at word = count_text (codes "<g><title>") at ++ (codes " " ++ title_end word)

-- the mark below a frame, fitted to its column where it is long
abbrev pub mark_text : Style → ℕ → ℕ → List ℕ → List ℕ
mark_text style x y word = if nat_le 4 (length word) then fitted_text style x y mark_width word else words_text style x y word

-- a frame: its title, its holes, and below them its mark
abbrev pub frame_text : ℕ → ℕ → ℕ → ℕ → Option Meaning → List ℕ
frame_text x y at frame meaning =
    (title_text at (meaning_word meaning) ++ (holes_text frame x y ++ codes "'/>"))
    ++ (mark_text (mark_style meaning) x (y + mark_foot) (mark_word meaning) ++ codes "</g>\n")

-- the element of a box of this look
abbrev pub box_lead : Look → List ℕ
box_lead looks.Matrix = codes "<rect class='m' x='"
box_lead looks.Band = codes "<rect class='b' x='"
box_lead looks.Space = codes "<rect class='s' x='"
box_lead looks.Blank = codes "<rect class='q' x='"
box_lead looks.Over = codes "<rect class='v' x='"

-- what begins a group: its name, with a number
unfoldable pub group_text : List ℕ → ℕ → List ℕ
group_text lead number = count_text lead number ++ codes "'>\n"

-- what begins a drawing with the number of a line, that reaches down from an upper edge
unfoldable pub view_text : ℕ → ℕ → ℕ → List ℕ
view_text number y height =
    count_text (codes "<svg id='line") number ++ (pair_text (codes "' viewBox='0 ") y (codes " ") page_width ++ (count_text (codes " ") height ++ codes "'>\n"))

-- the elements of a line are one group of a document, and one drawing of a page
abbrev pub open_text : DrawingForm → ℕ → ℕ → ℕ → List ℕ
open_text pages.Svg number y height = group_text (codes "<g id='line") number
open_text pages.Html number y height = view_text number y height

-- the end of a line
abbrev pub close_text : DrawingForm → List ℕ
close_text pages.Svg = codes "</g>\n"
close_text pages.Html = codes "</svg>\n"

-- the paper of so many frames
unfoldable pub sheet_text : ℕ → ℕ → ℕ → List ℕ
sheet_text x y frames =
    pair_text (codes "<rect class='p' x='") x (codes "' y='") y ++ (pair_text (codes "' width='") (frame_width * frames) (codes "' height='") paper_height ++ codes "'/>\n")

-- their feed holes: a stroke whose dashes are points
unfoldable pub feed_text : ℕ → ℕ → ℕ → List ℕ
feed_text x y frames =
    pair_text (codes "<path class='d' d='M") (x + frame_middle) (codes " ") (y + feed_top) ++ (pair_text (codes "h") (frame_width * frames - frame_middle) (codes "v") 0 ++ codes "'/>\n")

-- the text of an element
unfoldable pub shape_text : Shape → List ℕ
shape_text (Paper x y frames) = sheet_text x y frames ++ feed_text x y frames
shape_text (Frame x y at frame meaning) = frame_text x y at frame meaning
shape_text (Box look x y width) =
    pair_text (box_lead look) x (codes "' y='") y ++ (pair_text (codes "' width='") width (codes "' height='") slug_height ++ codes "'/>\n")
shape_text (Bar x y) =
    pair_text (codes "<rect class='k' x='") x (codes "' y='") y ++ (pair_text (codes "' width='") measure_width (codes "' height='") slug_height ++ codes "'/>\n")
shape_text (Gap x y width) =
    pair_text (codes "<rect class='a' x='") x (codes "' y='") y ++ (pair_text (codes "' width='") width (codes "' height='") slug_height ++ codes "'/>\n")
shape_text (Mark x y) =
    pair_text (codes "<rect class='f' x='") x (codes "' y='") y ++ (pair_text (codes "' width='") frame_width (codes "' height='") outline_height ++ codes "'/>\n")
shape_text (Words style x y words) = words_text style x y words
shape_text (Fitted style x y length words) = fitted_text style x y length words
shape_text (Open page number y height) = open_text page number y height
shape_text (Close page) = close_text page

-- the text of elements, one after the other
abbrev pub text_of : List Shape → List ℕ
text_of shapes = flat_map shape_text shapes
