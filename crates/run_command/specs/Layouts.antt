-- Packets of version 1 that come to a station whose rows are of layout 2.
use Rattle.std.specs.Prelude.{ℕ, Option, Some, None}
use Rattle.driver.specs.declared.said.Said.{Said}
use Rattle.driver.specs.declared.sink.HeardDatagram.{HeardDatagram}
use Rattle.driver.specs.declared.sink.HeardDatagram.TheVariants.{Taken, Refused, Aside}
use Rattle.tape_frames.specs.declared.version.Version.{Version}
use Rattle.tape_frames.specs.declared.version.Version.TheVariants.{One, Two}

-- who sent a packet of the second version to rows of the first, where these are of layout 2 and it is of version 1: its own rows are of layout 1
abbrev pub older_by : Version → Version → ℕ → Option ℕ
older_by Two One sender = Some sender
older_by Two Two sender = None
older_by One version sender = None

-- the same of a datagram: what shows it is a packet that was taken in
abbrev pub older_in : Version → HeardDatagram → Option ℕ
older_in own (Taken None) = None
older_in own (Taken (Some said)) = older_by own said.version said.sender
older_in own (Refused refusal) = None
older_in own (Aside found) = None
