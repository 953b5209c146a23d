-- The lengths of a drawing, in user units.
use Rattle.std.specs.Prelude.{ℕ, ◌+◌}

-- how wide a drawing is, and the page that its document is printed on
abbrev pub page_width : ℕ
page_width = 840

-- how high the page is that the document of a tape is printed on
abbrev pub page_height : ℕ
page_height = 1120

-- how far the left edge of the slugs and of the rows of frames lies from that of the page
abbrev pub margin : ℕ
margin = 60

-- how wide the measure of a slug is drawn, whatever it is in units
abbrev pub measure_width : ℕ
measure_width = 720

-- how far the right edge of the slugs lies from the left edge of the page
abbrev pub right_edge : ℕ
right_edge = margin + measure_width

-- how wide a frame is
abbrev pub frame_width : ℕ
frame_width = 18

-- how far the middle of a frame, where its holes are, lies from its left edge
abbrev pub frame_middle : ℕ
frame_middle = 9

-- how many frames a whole row has: they are as wide as the measure. A count, and no length
abbrev pub row_frames : ℕ
row_frames = 40

-- how high a row is: its positions, its paper and the marks below that
abbrev pub row_height : ℕ
row_height = 87

-- how far the paper of a row lies below the upper edge of the row
abbrev pub paper_top : ℕ
paper_top = 12

-- how far the foot of a position lies above the paper
abbrev pub position_rise : ℕ
position_rise = 2

-- how high the paper of a row is
abbrev pub paper_height : ℕ
paper_height = 58

-- how far the feed holes lie below the upper edge of the paper
abbrev pub feed_top : ℕ
feed_top = 29

-- how far level 0, the first of the upper three, lies below the upper edge of the paper
abbrev pub upper_top : ℕ
upper_top = 7

-- how far level 3, the first of the lower three, lies below the upper edge of the paper
abbrev pub lower_top : ℕ
lower_top = 35

-- how far a level lies below the one before it, of the upper three and of the lower
abbrev pub level_step : ℕ
level_step = 8

-- how far the foot of the mark of a frame lies below the upper edge of the paper
abbrev pub mark_foot : ℕ
mark_foot = 69

-- how wide a long mark is, which is fitted to the column of its frame
abbrev pub mark_width : ℕ
mark_width = 17

-- how high the outline of a faulty frame is, that holds its mark too
abbrev pub outline_height : ℕ
outline_height = 74

-- how far the upper edge of that outline lies above the paper
abbrev pub outline_rise : ℕ
outline_rise = 1

-- how far the numbers of lines and slugs, which end there, reach from the left edge of the page
abbrev pub number_right : ℕ
number_right = 48

-- how far the foot of the number of a line lies below the upper edge of the line
abbrev pub number_foot : ℕ
number_foot = 45

-- how high a slug is, and each box in it
abbrev pub slug_height : ℕ
slug_height = 46

-- how far the foot of the number of a slug and of its kind lies below the upper edge of the slug
abbrev pub kind_foot : ℕ
kind_foot = 29

-- how far the foot of the name of a matrix lies below the upper edge of its box
abbrev pub name_foot : ℕ
name_foot = 34

-- how wide a letter is at most, in the name of a matrix that has more than one
abbrev pub letter_width : ℕ
letter_width = 22

-- how far the foot of the width of a band or a space lies below the upper edge of its box
abbrev pub width_foot : ℕ
width_foot = 43

-- how wide the box of a band or a space is at least, if its width in units is to be read in it
abbrev pub width_room : ℕ
width_room = 10

-- how high what is cast of a line is, with what is said below it
abbrev pub cast_height : ℕ
cast_height = 64

-- how far what is said at the right end of a line, and ends there, reaches from the left edge of the page
abbrev pub behind_right : ℕ
behind_right = 836

-- how far the foot of that lies below the upper edge of what is cast
abbrev pub behind_foot : ℕ
behind_foot = 58

-- how high a note is, where nothing is cast
abbrev pub note_height : ℕ
note_height = 18

-- how far the foot of a note lies below its upper edge
abbrev pub note_foot : ℕ
note_foot = 11

-- how high the head of a document is, above its first line
abbrev pub head_height : ℕ
head_height = 96

-- how far the lines of a head lie from the left edge of the page
abbrev pub head_left : ℕ
head_left = 20

-- how far the foot of the title lies below the upper edge of the head
abbrev pub title_foot : ℕ
title_foot = 30

-- how far the foot of what is counted lies below it
abbrev pub counts_foot : ℕ
counts_foot = 50

-- how far the foot of the first half of what the marks stand for lies below it
abbrev pub first_legend_foot : ℕ
first_legend_foot = 70

-- how far the foot of the second half lies below it
abbrev pub second_legend_foot : ℕ
second_legend_foot = 86

-- the least size of the type: that is still seen
abbrev pub least_type : ℕ
least_type = 6

-- the greatest size of the type: no higher than a slug
abbrev pub greatest_type : ℕ
greatest_type = 44
