-- The text of a status.
use Rattle.std.specs.Prelude.{ℕ, ◌/◌, ◌%◌, ◌==◌, ◌&&◌, Bool, List, [], ◌∷◌, ◌++◌, flat_map, Option, Some, None, if◌then◌else◌, codes, decimal}
use Rattle.std.specs.List.{list_any}
use Rattle.plant_status.specs.declared.moment.Moment.{Moment}
use Rattle.plant_status.specs.declared.status.StationId.{StationId}
use Rattle.plant_status.specs.declared.status.HeardMember.{HeardMember}
use Rattle.plant_status.specs.declared.status.Released.{Released}
use Rattle.plant_status.specs.declared.status.Purpose.{Purpose}
use Rattle.plant_status.specs.declared.status.Purpose.TheVariants as purposes
use Rattle.plant_status.specs.declared.status.Busy.{Busy}
use Rattle.plant_status.specs.declared.status.NumberSpan.{NumberSpan}
use Rattle.plant_status.specs.declared.status.Missing.{Missing}
use Rattle.plant_status.specs.declared.status.OfferCounts.{OfferCounts}
use Rattle.plant_status.specs.declared.status.Status.{Status}

-- both are on one day
abbrev pub is_same_day : Moment → Moment → Bool
is_same_day a b = (a.year == b.year) && ((a.month == b.month) && (a.day == b.day))

-- a number below 100, by two digits
abbrev pub two : ℕ → List ℕ
two n = decimal (n / 10) ++ decimal (n % 10)

-- the time of a day, as `20:51:07Z`
abbrev pub clock_text : Moment → List ℕ
clock_text m = two m.hour ++ (codes ":" ++ (two m.minute ++ (codes ":" ++ (two m.second ++ codes "Z"))))

-- a moment, as `2026-11-26T20:51:07Z`
abbrev pub moment_text : Moment → List ℕ
moment_text m = decimal m.year ++ (codes "-" ++ (two m.month ++ (codes "-" ++ (two m.day ++ (codes "T" ++ clock_text m)))))

-- a moment in what was written at another: on the same day its time alone
abbrev pub shown_text : Moment → Moment → List ℕ
shown_text written m = if is_same_day written m then clock_text m else moment_text m

-- which station it is
abbrev pub station_text : StationId → List ℕ
station_text s =
    codes "station " ++ (decimal s.member ++ (codes " of " ++ (decimal s.count ++ (codes " circuit " ++ (decimal s.circuit ++ (codes " layout " ++ decimal s.layout))))))

-- that the rows of a member are of layout 1, while those of the station are of layout 2, where that was shown
abbrev pub older_text : Bool → List ℕ
older_text is_older = if is_older then codes ", its rows are of layout 1" else []

-- when a member was heard
abbrev pub heard_at_text : Moment → Option Moment → List ℕ
heard_at_text written None = codes " not heard since the start"
heard_at_text written (Some m) = codes " heard at " ++ shown_text written m

-- the line of a member
abbrev pub heard_text : Moment → HeardMember → List ℕ
heard_text written h = codes "member " ++ (decimal h.member ++ (heard_at_text written h.at ++ (older_text h.is_older ++ codes "\n")))

-- the line of what was released
abbrev pub released_text : Released → List ℕ
released_text r =
    if r.count == 0 then codes "released nothing\n"
    else codes "released " ++ (decimal r.count ++ (codes ", the greatest " ++ (decimal r.greatest ++ codes "\n")))

abbrev pub purpose_text : Purpose → List ℕ
purpose_text purposes.Seek = codes "seek"
purpose_text purposes.Offer = codes "offer"

-- a number under way, as `13 seek ballot 4.2`
abbrev pub busy_text : Busy → List ℕ
busy_text b =
    decimal b.number ++ (codes " " ++ (purpose_text b.purpose ++ (codes " ballot " ++ (decimal b.round ++ (codes "." ++ decimal b.owner)))))

abbrev pub next_busy : Busy → List ℕ
next_busy b = codes ", " ++ busy_text b

-- the numbers under way, a comma between two
abbrev pub all_busy : List Busy → List ℕ
all_busy [] = codes "nothing"
all_busy (b ∷ bs) = busy_text b ++ flat_map next_busy bs

-- a range, as `44-56`; of one number, as `42`; with a space before it
abbrev pub span_text : NumberSpan → List ℕ
span_text s = if s.first == s.last then codes " " ++ decimal s.first else codes " " ++ (decimal s.first ++ (codes "-" ++ decimal s.last))

-- that there are more ranges, where there are
abbrev pub more_text : Bool → List ℕ
more_text more = if more then codes " .." else []

-- what is missing, and since when something is
abbrev pub missing_text : Moment → Option Missing → List ℕ
missing_text written None = codes " nothing"
missing_text written (Some m) = flat_map span_text m.spans.items ++ (more_text m.more ++ (codes " since " ++ shown_text written m.since))

-- the line of files
abbrev pub offers_text : OfferCounts → ℕ → List ℕ
offers_text o unwritten =
    codes "offers "
    ++ (decimal o.waiting
    ++ (codes " waiting, "
    ++ (decimal o.lost
    ++ (codes " lost, " ++ (decimal o.refused ++ (codes " refused; releases " ++ (decimal unwritten ++ codes " waiting to be written\n")))))))

-- the first line
abbrev pub head_text : Status → List ℕ
head_text s = station_text s.station ++ (codes " since " ++ (moment_text s.since ++ codes "\n"))

-- the line of what is under way
abbrev pub busy_line : List Busy → List ℕ
busy_line bs = codes "under way " ++ (all_busy bs ++ codes "\n")

-- the line of what is missing
abbrev pub missing_line : Moment → Option Missing → List ℕ
missing_line written m = codes "missing" ++ (missing_text written m ++ codes "\n")

-- the form of the lines: 2 where one of a member tells of its rows, and else 1, which an earlier version of the program reads
abbrev pub form_of : List HeardMember → ℕ
form_of members = if list_any (λ h. h.is_older) members then 2 else 1

-- the last line: when it was written, and by which form of these lines
abbrev pub end_text : Moment → ℕ → List ℕ
end_text written form = codes "written " ++ (moment_text written ++ (codes ", form " ++ (decimal form ++ codes "\n")))

-- the text of a status
abbrev pub status_text : Status → List ℕ
status_text s =
    head_text s
    ++ (flat_map (heard_text s.written) s.members.items
    ++ (released_text s.released
    ++ (busy_line s.busy.items
    ++ (missing_line s.written s.missing
    ++ (offers_text s.offers s.unwritten ++ end_text s.written (form_of s.members.items))))))
