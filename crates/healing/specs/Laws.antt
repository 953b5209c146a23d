-- The laws of what is lacked and of what is left.
use Rattle.std.specs.Prelude.{◌≡◌, ℕ, Bool, true, false, not, Option, Some, None, ◌∷◌}
use Rattle.healing.specs.declared.news.NumberNews.{NumberNews}
use Rattle.healing.specs.declared.news.NumberNews.TheVariants.{Saved, Came, Voted, Held, Opened, Closed, Nothing}
use Rattle.healing.specs.declared.case.LackStage.{LackStage}
use Rattle.healing.specs.declared.case.LackStage.TheVariants.{Waiting, Recalled, Sought, Open, Left}
use Rattle.healing.specs.declared.case.LackedNumber.{LackedNumber}
use Rattle.healing.specs.Cases.{lacks, is_due, known_after, voter_of}
use Rattle.healing.specs.Lacking.{Told, History, is_lacked, is_told, before_ballot, case_of}

-- whether a number with this case, or none, is lacked
abbrev pub case_lacks : Option LackedNumber → ℕ → Bool
case_lacks None now = false
case_lacks (Some c) now = lacks c now

-- the case that is kept of a number says the same as all that was heard of it
abbrev pub CaseTellsAll : Type 0
CaseTellsAll = (own : ℕ) (h : History) (now : ℕ) → case_lacks (case_of own h) now ≡ is_lacked h now

-- a number with this case, or none, is due
abbrev pub due_in : Option LackedNumber → ℕ → Bool
due_in None now = false
due_in (Some c) now = is_due c now

-- a number that has no case is due at once when a page tells of it
abbrev pub HeldIsDueAtOnce : Type 0
HeldIsDueAtOnce = (own member now : ℕ) → due_in (known_after own (Held member) now None) now ≡ true

-- the number is left
abbrev pub is_left : LackStage → Bool
is_left Left = true
is_left Waiting = false
is_left (Recalled at) = false
is_left Sought = false
is_left Open = false

-- the number has a case in which it is left
abbrev pub left_in : Option LackedNumber → Bool
left_in None = false
left_in (Some c) = is_left c.stage

-- where a number is left, each member that was told to have a vote of it was so before its last ballot was begun
abbrev pub LeftKnowsNoNewVoter : Type 0
LeftKnowsNoNewVoter =
    (own : ℕ) (h : History) → left_in (case_of own h) ≡ true
    → (member : ℕ) → is_told own h member ≡ true → is_told own (before_ballot h) member ≡ true

-- a ballot of it is opened
abbrev pub is_opened : NumberNews → Bool
is_opened Opened = true
is_opened (Saved votes) = false
is_opened Came = false
is_opened (Voted member) = false
is_opened (Held member) = false
is_opened Closed = false
is_opened Nothing = false

-- these news tell of a member that has a vote, and was not told to have one before the last ballot was begun
abbrev pub is_new_in : History → ℕ → Option ℕ → Bool
is_new_in h own None = false
is_new_in h own (Some member) = not (is_told own (before_ballot h) member)

-- a number that is left stays so whatever news come, unless they tell of a new voter, or a ballot of it is opened
abbrev pub LeftStaysLeft : Type 0
LeftStaysLeft =
    (own : ℕ) (h : History) (news : NumberNews) (t : ℕ) → left_in (case_of own h) ≡ true → is_new_in h own (voter_of own news) ≡ false
    → is_opened news ≡ false → left_in (case_of own ((Told news, t) ∷ h)) ≡ true
