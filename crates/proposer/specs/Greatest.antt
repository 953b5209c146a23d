-- The greatest of the members' reports.
use Rattle.std.specs.Prelude.{◌≡◌, ℕ, Bool, false, Option, Some, None, ◌&&◌, ◌||◌, nat_lt}
use Rattle.protocol.specs.Ballots.{Ballot, is_below, is_same, IsMember}
use Rattle.protocol.specs.Rows.{Vote}

-- member k's report at a is above member m's at b: by its ballot, or by the less of members where equal
abbrev pub is_over : Ballot → ℕ → Ballot → ℕ → Bool
is_over a k b m = is_below b a || (is_same b a && nat_lt k m)

-- of what the members 1 to i report, it is the report that no other is above, or none where nothing is reported
pub data IsGreatest (reports : ℕ → Option Vote) (i : ℕ) (greatest : Option Vote) : Type 0 where
  nothing : ((m : ℕ) → IsMember i m → reports m ≡ None) → greatest ≡ None → IsGreatest reports i greatest
  reported_by :
      (k : ℕ) (v : Vote) → IsMember i k → reports k ≡ Some v
      → ((m : ℕ) (u : Vote) → IsMember i m → reports m ≡ Some u → is_over u.ballot m v.ballot k ≡ false)
      → greatest ≡ Some v → IsGreatest reports i greatest
