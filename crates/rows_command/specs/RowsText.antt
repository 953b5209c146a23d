-- What `rows` writes: whose rows they are, and a line for each. And what `upgrade` writes.
use Rattle.std.specs.Prelude.{◌≡◌, ◌⊎◌, ℕ, List, ◌++◌, Option, Some, None, Result, OnOk, codes, decimal, flat_map}
use Rattle.std.specs.Io.KnownBytes.{Appends}
use Rattle.protocol.specs.Ballots.{Ballot}
use Rattle.protocol.specs.Rows.{Vote, Row}
use Rattle.protocol.specs.Versions.{Version, Two}
use Rattle.ballots.specs.Texts.{ballot_text}
use Rattle.streams.specs.Fronts.{AppendsFront}
use Rattle.rows_saved.specs.Saved.{Saved, IsListOf}
use Rattle.rows_saved.specs.declared.identity.Identity.{Identity}
use Rattle.release_texts.specs.EntryText.{entry_text}

-- a promise is its ballot, or a mark where there is none
abbrev pub promise_text : Option Ballot → List ℕ
promise_text None = codes "-"
promise_text (Some b) = ballot_text b

-- a vote is its ballot, and the frames of its tape in hex or the word for a withdrawal
abbrev pub vote_text : Option Vote → List ℕ
vote_text None = codes "- -"
vote_text (Some v) = ballot_text v.ballot ++ (codes " " ++ entry_text v.entry)

-- the line of a number and its row
abbrev pub row_line : ℕ × Row → List ℕ
row_line p = decimal p.0 ++ (codes " " ++ (promise_text p.1.promised ++ (codes " " ++ (vote_text p.1.vote ++ codes "\n"))))

-- the line that says whose rows they are
abbrev pub station_line : Identity → List ℕ
station_line i = codes "station " ++ (decimal i.member ++ (codes " of " ++ (decimal i.members ++ (codes " circuit " ++ (decimal i.circuit ++ codes "\n")))))

-- the station, and then each row
abbrev pub rows_text : Identity → List (ℕ × Row) → List ℕ
rows_text i rows = station_line i ++ flat_map row_line rows

-- the line of rows that went over
abbrev pub layout_text : List ℕ
layout_text = codes "layout 2\n"

-- all rows of the map were written, in order of their numbers, behind their station
pub record IsPrinted (saved : Saved) (station : Identity) (old new : Option (List ℕ)) : Type 0 where
  pub rows : List (ℕ × Row)
  pub are_all : IsListOf saved rows
  pub wrote : Appends old new (rows_text station rows)

-- a front of that was written
pub record IsFrontPrinted (saved : Saved) (station : Identity) (old new : Option (List ℕ)) : Type 0 where
  pub rows : List (ℕ × Row)
  pub are_all : IsListOf saved rows
  pub wrote : AppendsFront old new (rows_text station rows)

-- where there was no fault, all of that was written
abbrev pub PrintsWhereDone : {A E : Type 0} → Result A E → Saved → Identity → Option (List ℕ) → Option (List ℕ) → Type 0
PrintsWhereDone result saved station old new = OnOk result (IsPrinted saved station old new)

-- nothing was written, or a front of that
abbrev pub PrintsNoneOrFront : Saved → Identity → Option (List ℕ) → Option (List ℕ) → Type 0
PrintsNoneOrFront saved station old new = (new ≡ old) ⊎ IsFrontPrinted saved station old new

-- nothing was written, or a front of the line, of rows that went over
abbrev pub TellsNoneOrFront : Version → Option (List ℕ) → Option (List ℕ) → Type 0
TellsNoneOrFront version old new = (new ≡ old) ⊎ ((version ≡ Two) × AppendsFront old new layout_text)
