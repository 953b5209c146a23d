use Rattle.std.proofs.Common.{◌≡◌, ◌≤◌, ℕ, length, drop}
use Rattle.std.specs.Slice.Iter.{chunks_rest, chunks_size}
use Rattle.slug_reader.specs.Pieces.{ReadTo}
use Rattle.slug_reader.proofs.lines.read_lines.Given as goal

-- the tape was read to a position, from which on the rest is left
abbrev pub invariant-loop-piece : goal.invariant-loop-piece
invariant-loop-piece l = record {
  next : goal.iterator-loop-piece.can_next l.piece-iterator;
  finite : goal.iterator-loop-piece.is_finite l.piece-iterator;
  size : chunks_size l.piece-iterator ≡ 256;
  table : l.reader.table ≡ l.table;
  widths : l.reader.widths ≡ l.widths;
  place : ℕ;
  within : place ≤ length l.tape;
  left : drop place l.tape ≡ chunks_rest l.piece-iterator;
  read : ReadTo l.reader l.tape place l.lines.items l.reader.fault;
}
