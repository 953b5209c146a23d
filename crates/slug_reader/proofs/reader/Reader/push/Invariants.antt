use Rattle.std.proofs.Common.{◌≡◌, ◌+◌, ℕ, List, None}
use Rattle.slug_reader.specs.Pieces.{StandsAt, IsPiece, AreLinesBetween}
use Rattle.slug_reader.proofs.reader.Reader.push.Given as goal

abbrev pub invariant-loop-frame : goal.invariant-loop-frame
invariant-loop-frame l = record {
  table : l.self.table ≡ l.fn.self.table;
  widths : l.self.widths ≡ l.fn.self.widths;
  going : l.self.fault ≡ None;
  fresh : l.fn.self.fault ≡ None;
  stands : (tape : List ℕ) (i : ℕ) → StandsAt l.fn.self tape i → IsPiece tape i l.piece → StandsAt l.self tape (i + l.frame-index) × AreLinesBetween l.fn.self tape i (i + l.frame-index) l.lines.items;
}
