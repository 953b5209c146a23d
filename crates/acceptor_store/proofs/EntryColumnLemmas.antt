-- An entry comes back out of its length and its packed frames.
use Rattle.std.proofs.Common.{◌≡◌, ◌<◌, ◌^◌, true, length, Some, refl, arith}
use Rattle.tape_frames.specs.Entries.{entry_frames, IsEntry}
use Rattle.rows_table.specs.declared.layout.LayoutOrigin.{LayoutOrigin}
use Rattle.rows_table.specs.declared.layout.Layout.TheVariants.{Two}
use Rattle.protocol.specs.Ballots.{Ballot, IsBallot}
use Rattle.protocol.specs.Entries.{Entry, Void, Taped}
use Rattle.protocol.specs.Rows.{vote_for, may_stand}
use Rattle.acceptor_store.specs.Columns.{row_of, row_in, columns_with, EntriesComeBack}
use Rattle.acceptor_store.proofs.ColumnLemmas.{ranged, a_ballot}

few_frames : (e : Entry) → IsEntry e → length (entry_frames e) < 2 ^ 32
few_frames Void is = omega arith
few_frames (Taped tape) is = omega (arith, is.few)

-- a row that has a vote comes back
pub back_with : (origin : LayoutOrigin) (p b : Ballot) (e : Entry) → EntriesComeBack → IsBallot p → IsBallot b → IsEntry e → may_stand (Some p) (Some (vote_for b e)) ≡ true
    → row_in (Two origin) 0 (columns_with (Two origin) (Some p) (Some (vote_for b e))) ≡ Some (row_of p (Some (vote_for b e)))
back_with origin p b e back promise ballot is stands = rw (a_ballot p promise, a_ballot b ballot, ranged (length (entry_frames e)) (few_frames e is), back e is, stands) refl
