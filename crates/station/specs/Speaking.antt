-- In which version a station speaks, and what it remembers then.
use Rattle.std.specs.Prelude.{◌≡◌, ◌≤◌, List, [], Bool, true, false, IfSome, IsSome, length}
use Rattle.protocol.specs.Lists.{IsAmong}
use Rattle.protocol.specs.Rows.{Row}
use Rattle.protocol.specs.Packets.{Packet}
use Rattle.protocol.specs.Versions.{Version, One, Two}
use Rattle.protocol.specs.Marks.{Mark}
use Rattle.protocol.specs.Fitting.{MarksFit, BodyFits}
use Rattle.protocol.specs.Limits.{most_sent}
use Rattle.rows_saved.specs.Saved.{RowFits}
use Rattle.node_core.specs.Standing.{Core, StandsFor, IsSameSeat}
use Rattle.node_core.specs.Turns.{HandsNothing, is_quiet, note_value, sent}
use Rattle.node_core.specs.declared.turn.Turn.{Turn}

-- a core, and the version in which its station speaks
pub record Speaking : Type 0 where
  pub core : Core
  pub wire : Version

-- there are marks that the core stands for and that fit the version
pub record Speaks (core : Core) (wire : Version) : Type 0 where
  pub marks : List Mark
  pub stands_for : StandsFor core marks
  pub fit : MarksFit wire marks

-- the first version is below the second
abbrev pub is_lower : Version → Version → Bool
is_lower One One = false
is_lower One Two = true
is_lower Two v = false

-- the entries of all these packets fit the version
abbrev pub AllFit : Version → List Packet → Type 0
AllFit v packets = (p : Packet) → IsAmong packets p → BodyFits v p.body

-- the entries that a turn saves and sends that was taken at this row fit the version
pub record TurnSpeaks (v : Version) (before : Row) (x : Turn) : Type 0 where
  pub saves : IfSome x.row (RowFits v)
  pub sends : AllFit v (sent before x)

-- of a turn that was taken at this row: the row that it saves has a promise, it sends no more than there are places for,
-- and where its note is quiet it hands out nothing
pub record IsOrderly (before : Row) (x : Turn) : Type 0 where
  pub promised : IfSome x.row (λ r. IsSome r.promised)
  pub few : length (sent before x) ≤ most_sent
  pub quiet : is_quiet (note_value x.note) ≡ true → HandsNothing x

-- all that was taken in is forgotten; the seat and the version stay
pub record Forgets (old new : Speaking) : Type 0 where
  pub stands : StandsFor new.core []
  pub seat : IsSameSeat old.core new.core
  pub wire : new.wire ≡ old.wire

-- this version is spoken from now on, on the same seat; where it is below the one before, all that was taken in is forgotten
pub record SpeaksFromNow (v : Version) (old new : Speaking) : Type 0 where
  pub wire : new.wire ≡ v
  pub seat : IsSameSeat old.core new.core
  pub keeps : is_lower v old.wire ≡ false → new.core ≡ old.core
  pub forgets : is_lower v old.wire ≡ true → StandsFor new.core []
