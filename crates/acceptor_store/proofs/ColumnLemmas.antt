-- A row comes back out of its columns.
use Rattle.std.proofs.Common.{◌≡◌, ◌<◌, ◌≤◌, ◌^◌, ◌==◌, ◌+◌, ℕ, pos, true, false, cond, List, [], ◌∷◌, length, Some, None, nat_lt, nat_le, refl, ap, sym, subst, true≢false, arith, inl, inr}
use Rattle.std.specs.List.{AllByRecursion, position_from}
use Rattle.std.proofs.lemmas.Bool.Decides.{Decides-ltb, Decides-eqb}
use Rattle.std.proofs.lemmas.Bool.{le-leb, cases_Bool, and_parts}
use Rattle.tape_frames.specs.Frames.{most_frames, IsTape, tape_fault}
use Rattle.tape_frames.specs.Entries.{IsEntry, entry_frames}
use Rattle.rows_table.specs.declared.layout.Layout.TheVariants as layouts
use Rattle.protocol.specs.Ballots.{Ballot, IsBallot}
use Rattle.protocol.specs.Entries.{Entry, Void, Taped}
use Rattle.protocol.specs.Rows.{vote_for, may_stand}
use Rattle.protocol.specs.Versions.{One}
use Rattle.protocol.specs.Fitting.{Fits}
use Rattle.acceptor_store.specs.Columns.{small, ballot_from, row_of, row_in, columns_with}
use Rattle.protocol.specs.Limits.{most_frames_one}

pub ranged : (n : ℕ) → n < 2 ^ 32 → small (pos n) ≡ Some n
ranged n h = ap (λ b. cond b (Some n) None) ((Decides-ltb n (2 ^ 32)).1 h)

pub a_ballot : (b : Ballot) → IsBallot b → ballot_from (small (pos b.round)) (small (pos b.owner)) ≡ Some b
a_ballot b h =
    let low : b.round < 2 ^ 32 = omega (arith, h.round_high) in
    let few : b.owner < 2 ^ 32 = omega (arith, h.owner_high) in
    rw (ranged b.round low, ranged b.owner few, le-leb 1 b.round h.round_low, le-leb 1 b.owner h.owner_low, le-leb b.owner 15 h.owner_high) refl

not_below : (a b : ℕ) → b ≤ a → nat_lt a b ≡ false
not_below a b h = elim (cases_Bool (nat_lt a b)) [
  | inl less ↦ absurd (let lt : a < b = (Decides-ltb a b).0 less in omega arith)
  | inr other ↦ other
]

none_bad : (k : ℕ) (frames : List ℕ) → AllByRecursion (λ f. f < 64) frames → position_from (λ f. nat_lt 63 f) k frames ≡ None
none_bad k [] all = refl
none_bad k (f ∷ fs) all = rw (not_below 63 f (omega (arith, all.0))) (none_bad (k + 1) fs all.1)

is_some_length : (n : ℕ) → 1 ≤ n → (n == 0) ≡ false
is_some_length n h = elim (cases_Bool (n == 0)) [
  | inl none ↦ absurd (let e : n ≡ 0 = (Decides-eqb n 0).0 none in omega arith)
  | inr other ↦ other
]

no_fault : (frames : List ℕ) → IsTape frames → tape_fault frames ≡ None
no_fault frames h = rw (is_some_length (length frames) h.some, not_below most_frames (length frames) h.few, none_bad 0 frames h.small) refl

few_frames : (tape : List ℕ) → Fits One (Taped tape) → nat_le (length tape) most_frames_one ≡ true
few_frames tape fits = (and_parts (nat_le 1 (length tape)) (nat_le (length tape) most_frames_one) fits).1

pub back_with : (p b : Ballot) (tape : List ℕ) → IsBallot p → IsBallot b → IsTape tape → Fits One (Taped tape) → may_stand (Some p) (Some (vote_for b (Taped tape))) ≡ true
    → row_in layouts.One 0 (columns_with layouts.One (Some p) (Some (vote_for b (Taped tape)))) ≡ Some (row_of p (Some (vote_for b (Taped tape))))
back_with p b tape promise ballot is_tape fits stands = rw (a_ballot p promise, a_ballot b ballot, few_frames tape fits, no_fault tape is_tape, stands) refl

-- the frames of an entry that layout 1 has a row for are a tape, and it is the entry
pub plain_tape : (e : Entry) (frames : List ℕ) → Fits One e → IsEntry e → frames ≡ entry_frames e → (e ≡ Taped frames) × IsTape frames
plain_tape Void frames fits is same = absurd (true≢false (sym fits))
plain_tape (Taped tape) frames fits is same = (ap Taped (sym same), subst IsTape (sym same) is)
