-- The files and folders of a station.
use Rattle.std.specs.Prelude.{ℕ, List, codes}
use Rattle.station_files.specs.declared.file.StationFile.{StationFile}
use Rattle.station_files.specs.declared.file.StationFile.TheVariants as files

-- the number of each
abbrev pub rank : StationFile → ℕ
rank files.Configuration = 0
rank files.Table = 1
rank files.Widths = 2
rank files.Rows = 3
rank files.Log = 4
rank files.Journal = 5
rank files.Making = 6
rank files.MakingLog = 7
rank files.Kept = 8
rank files.KeptLog = 9
rank files.Keeping = 10
rank files.Key = 11
rank files.Status = 12
rank files.NextStatus = 13
rank files.Offers = 14
rank files.Releases = 15
rank files.Released = 16
rank files.Passage = 17
rank files.Sent = 18
rank files.Lost = 19
rank files.Refused = 20
rank files.Done = 21

-- all but the three that are only read
abbrev pub IsWritten : StationFile → Type 0
IsWritten files.Configuration = ⊥
IsWritten files.Table = ⊥
IsWritten files.Widths = ⊥
IsWritten _ = Unit {0}

-- the two folders, and what has its place in one
abbrev pub IsTied : StationFile → Type 0
IsTied files.Offers = Unit {0}
IsTied files.Releases = Unit {0}
IsTied files.Released = Unit {0}
IsTied files.Passage = Unit {0}
IsTied files.Sent = Unit {0}
IsTied files.Lost = Unit {0}
IsTied files.Refused = Unit {0}
IsTied files.Done = Unit {0}
IsTied _ = ⊥

-- all but what has its place in one of the folders
abbrev pub MayBeLinked : StationFile → Type 0
MayBeLinked files.Released = ⊥
MayBeLinked files.Passage = ⊥
MayBeLinked files.Sent = ⊥
MayBeLinked files.Lost = ⊥
MayBeLinked files.Refused = ⊥
MayBeLinked files.Done = ⊥
MayBeLinked _ = Unit {0}

-- what a person calls it
abbrev pub word : StationFile → List ℕ
word files.Configuration = codes "the configuration"
word files.Table = codes "the table"
word files.Widths = codes "the widths"
word files.Rows = codes "the row file"
word files.Log = codes "the log of the row file"
word files.Journal = codes "the journal of the row file"
word files.Making = codes "the row file that is made"
word files.MakingLog = codes "the log of the row file that is made"
word files.Kept = codes "what is kept of the row file"
word files.KeptLog = codes "the log of what is kept of the row file"
word files.Keeping = codes "what is being kept of the row file"
word files.Key = codes "the key"
word files.Status = codes "the status file"
word files.NextStatus = codes "the next status file"
word files.Offers = codes "offers"
word files.Releases = codes "releases"
word files.Released = codes "releases/.released"
word files.Passage = codes "offers/.circuitd"
word files.Sent = codes "offers/sent"
word files.Lost = codes "offers/lost"
word files.Refused = codes "offers/refused"
word files.Done = codes "offers/done"
