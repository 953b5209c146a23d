-- The pages of circuit numbers: each has room for 8,192 that follow one another.
use Rattle.std.specs.Prelude.{ℕ, ◌+◌, ◌*◌, ◌/◌, ◌%◌, ◌==◌, if◌then◌else◌}

-- how many pages there are
abbrev pub pages : ℕ
pages = 123

-- how many numbers a page has room for
abbrev pub page_numbers : ℕ
page_numbers = 8192

-- the bytes that have a bit for each number of a page
abbrev pub page_bytes : ℕ
page_bytes = 1024

-- the page that a number lies on
abbrev pub page_of : ℕ → ℕ
page_of n = n / page_numbers

-- its place there
abbrev pub place_of : ℕ → ℕ
place_of n = n % page_numbers

-- the number at this place of a page
abbrev pub number_on : (page place : ℕ) → ℕ
number_on page place = page_numbers * page + place

-- how many circuit numbers lie on a page: all but 0 on the first, those up to the last number on the last
abbrev pub numbers_on : ℕ → ℕ
numbers_on page = if page == 0 then 8191 else if page == 122 then 576 else page_numbers
