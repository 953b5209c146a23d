-- The lengths of a chart, in user units.
use Rattle.std.specs.Prelude.{ℕ, ◌+◌}
use Rattle.tape_drawing.specs.Lengths.{frame_middle}

-- how high a chart is. It is as wide as the drawing of a tape
abbrev pub chart_height : ℕ
chart_height = 808

-- how high the page is that the document of a chart is printed on
abbrev pub page_height : ℕ
page_height = 820

-- how far the foot of the words on how a cell reads lies below the upper edge of the chart
abbrev pub cell_legend_foot : ℕ
cell_legend_foot = 52

-- how far the foot of the words on what is marked lies below it
abbrev pub sign_legend_foot : ℕ
sign_legend_foot = 70

-- how far the foot of the first half of what the marks stand for lies below it
abbrev pub function_legend_foot : ℕ
function_legend_foot = 88

-- how far the foot of the second half lies below it
abbrev pub quad_legend_foot : ℕ
quad_legend_foot = 104

-- how far the cells lie from the left edge of the chart
abbrev pub cells_left : ℕ
cells_left = 20

-- how far the cells lie below the upper edge of the chart
abbrev pub cells_top : ℕ
cells_top = 120

-- how wide a cell is, with the room on its right
abbrev pub cell_width : ℕ
cell_width = 100

-- how high a cell is, with the room below it
abbrev pub cell_height : ℕ
cell_height = 84

-- how wide the card of a cell is
abbrev pub card_width : ℕ
card_width = 96

-- how high the card of a cell is
abbrev pub card_height : ℕ
card_height = 80

-- how far the paper of a combination lies from the left edge of its card, and below the upper edge
abbrev pub paper_inset : ℕ
paper_inset = 6

-- how far the middle of the paper, where the holes are and the number below them, lies from the left edge of the card
abbrev pub paper_middle : ℕ
paper_middle = paper_inset + frame_middle

-- how far the foot of the number of a combination lies below the upper edge of its card
abbrev pub frame_number_foot : ℕ
frame_number_foot = 76

-- how far the foot of the meaning unshifted lies below the upper edge of the card
abbrev pub unshift_foot : ℕ
unshift_foot = 26

-- how far the foot of the meaning shifted lies below it
abbrev pub shift_foot : ℕ
shift_foot = 60

-- how far the middle of a meaning's name lies from the left edge of the card
abbrev pub name_middle : ℕ
name_middle = 46

-- how wide a long name is, which is fitted to its room
abbrev pub name_width : ℕ
name_width = 34

-- how far the width of a meaning, beside its name, lies from the left edge of the card
abbrev pub span_left : ℕ
span_left = 66

-- how far what is noted of a meaning, below its name, lies from the left edge of the card
abbrev pub note_left : ℕ
note_left = 30

-- how far the note that it lacks a width lies from there, which may stand behind another
abbrev pub lacking_left : ℕ
lacking_left = 58

-- how far the foot of a note lies below that of the name
abbrev pub note_step : ℕ
note_step = 12
